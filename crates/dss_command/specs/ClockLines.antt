-- The lines that report the clock and purges.
use Rattle.std.specs.Prelude.{ℕ, List, ◌++◌, codes, decimal}
use Rattle.server_base.specs.declared.server_log.ClockEvent.{ClockEvent}
use Rattle.server_base.specs.declared.server_log.ClockEvent.TheVariants as news

abbrev pub clock_line : ClockEvent → List ℕ
clock_line (news.JumpedForward by) =
    codes "dss: clock: jumped forward by " ++ (decimal by ++ codes " s; purges are held\n")
clock_line (news.JumpedBackward by) =
    codes "dss: clock: jumped backward by " ++ (decimal by ++ codes " s; purges are held\n")
clock_line (news.StartedLate by) =
    codes "dss: clock: "
    ++ (decimal by ++ codes " s after the last known time; purges are held\n")
clock_line (news.StartedAhead by) =
    codes "dss: clock: not back from a jump, "
    ++ (decimal by ++ codes " s after the last trusted time; purges are held\n")
clock_line (news.StartedBehind by) =
    codes "dss: clock: "
    ++ (decimal by ++ codes " s before the last trusted time; purges are held\n")
clock_line news.Returned = codes "dss: clock: returned; purges go on\n"
clock_line news.Confirmed = codes "dss: clock: confirmed; purges go on\n"

abbrev pub not_stored_line : List ℕ
not_stored_line =
    codes "dss: clock: cannot store the trusted time; check the directory of the database\n"

abbrev pub purge_line : (count : ℕ) → List ℕ
purge_line count =
    codes "dss: purge: removed "
    ++ (decimal count ++ codes " ended intents, constraints and subscriptions\n")
