use Rattle.pool_etcd.proofs.Linkings.{linked_entries_share_changes}
use Rattle.pool_etcd.proofs.laws.linked_entries_share_changes.Goals as goal

pub returns : goal.returns
returns c =
    linked_entries_share_changes c.kept_decides.ensures.decides c.kept_decides.ensures.more c.same_link_same_items.ensures.same c.same_link_same_items.ensures.own
