use Rattle.std.proofs.Common.{ℕ, Bool, true, false, cond, List, ap₂}
use Rattle.sqlite_disk.specs.Events.{Event, replay}
use Rattle.sqlite.specs.Recovery.{Image}
use Rattle.sqlite.specs.WalFiles.{image_at}
use Rattle.space_sql.proofs.Remainders.{opened_leaves, refuses_files}
use Rattle.space_sql.proofs.open.file.Goals as goal

abbrev image : List ℕ → List ℕ → Image
image log db = record { log = log; db = db }

abbrev seen : List ℕ → List ℕ → Bool → List Event → List ℕ
seen log db is_log history = (replay (cond is_log log db) history).seen

pub returns-in-Ok-clause-opened : goal.returns-in-Ok-clause-opened
returns-in-Ok-clause-opened g c = λ clean.
    let it = c.in-Ok.ensures.opened clean in
    record {
      is_open = it.0.is_open;
      settled = it.0.clean;
      live = it.1;
      found = c.in-Ok.ensures.found clean;
    }

pub returns-in-Err-default-Some-clause-refuses : goal.returns-in-Err-default-Some-clause-refuses
returns-in-Err-default-Some-clause-refuses g c =
    let it = rw c.in-Err-default-Some.field-0-1-is at c.in-Err-default-Some.ensures.cause in
    let start = g.S.Start in
    let own = ap₂ image (ap₂ (seen start.log start.db) it.1.0 it.1.1) (ap₂ (seen start.log start.db) it.2.0 it.2.1) in
    let leaves = opened_leaves start.is_mixing start.log start.db in
    refuses_files (image_at start) it.0 _ _ _ (own, λ after may. ap₂ image (leaves _ true _ _ it.1.0 it.1.1 after.log may.0) (leaves _ false _ _ it.2.0 it.2.1 after.db may.1)) it.3 c.unopened-in-Err-default-Some.ensures.store c.unopened-in-Err-default-Some.ensures.unread
