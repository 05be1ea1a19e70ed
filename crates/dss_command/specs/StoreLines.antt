-- The lines that report the state of the store.
use Rattle.std.specs.Prelude.{ℕ, List, ◌++◌, codes, decimal}
use Rattle.server_base.specs.declared.server_log.StoreEvent.{StoreEvent}
use Rattle.server_base.specs.declared.server_log.StoreEvent.TheVariants as news

abbrev pub store_line : StoreEvent → List ℕ
store_line news.CommitFailed =
    codes "dss: store: commit failed; changes are answered with 500 until a commit succeeds\n"
store_line (news.StillFailing count) =
    codes "dss: store: commits still fail: " ++ (decimal count ++ codes " more failures\n")
store_line (news.Recovered count) =
    codes "dss: store: commits succeed again after " ++ (decimal count ++ codes " failures\n")
store_line news.Stopped =
    codes "dss: store: stopped: the database failed; restart the service\n"
