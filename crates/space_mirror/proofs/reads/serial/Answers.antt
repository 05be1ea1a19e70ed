use Rattle.std.specs.Prelude.{◌≡◌, ℕ, false, Ok, refl}
use Rattle.std.proofs.Common.{ap, ◌∙◌}
use Rattle.entity_core.specs.Airspace.{Airspace}
use Rattle.space_core.specs.Space.{ReportsFault, refusals_after}
use Rattle.space_memory.specs.Memory.{content_of}
use Rattle.space_mirror.proofs.Mirrors.{list_reads, reads_kept, store_reads}
use Rattle.space_mirror.proofs.reads.serial.Goals as goal

pub returns-in-Some : goal.returns-in-Some
returns-in-Some g c =
    let serial = (content_of c.in-Some.mirror).serial in
    let P : Airspace → ℕ → Type 0 = λ a n. n ≡ a.serial in
    let tells : ReportsFault {T = ℕ} 0 0 false false (Ok serial) = record { counted = refl; breaks = refl; stays_broken = λ e. absurd (let f = e in cc) } in
    let reads = reads_kept c.in-Some.mirror c.serial.new.self (Ok serial) P (ap content_of c.serial.ensures.same) refl in
    rw c.in-Some.is (list_reads g.S.Space c.args.store.now c.in-Some.mirror c.serial.new.self 0 0 c.args.refusals.now c.count_refusal.new.refusals (Ok serial) c.count_refusal.result P tells reads (c.count_refusal.ensures.same ∙ c.serial.ensures.done) (c.count_refusal.ensures.counted ∙ ap (refusals_after c.args.refusals.now) c.serial.ensures.done))

pub returns-in-None : goal.returns-in-None
returns-in-None g c = rw c.in-None.is (store_reads g.S.Space c.args.store.now _ _ _ _ _ _ c.serial-in-None.ensures.tells c.serial-in-None.ensures.reads c.count_refusal-in-None.ensures.same c.count_refusal-in-None.ensures.counted)
