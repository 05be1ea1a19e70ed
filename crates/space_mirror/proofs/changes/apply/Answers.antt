use Rattle.std.proofs.Common.{subst}
use Rattle.entity_core.specs.Airspace.{Airspace}
use Rattle.space_core.specs.Space.{Fits}
use Rattle.space_mirror.specs.Mirrored.{MirrorAgrees, IsSoundIn, pending_if_mirrored, mirrored_model, holds_in}
use Rattle.space_mirror.proofs.Pending.{alone_fits, alone_agrees, list_ahead, list_changes, store_changes}
use Rattle.space_mirror.proofs.changes.apply.Goals as goal

pub returns-in-Some-clause-agrees : goal.returns-in-Some-clause-agrees
returns-in-Some-clause-agrees g c =
    let ahead = subst (λ l. MirrorAgrees g.S.Space c.args.store.now l c.args.state.now c.args.batch.now.items) c.in-Some.is c.requires.agrees in
    let fits = subst (λ l. let old = mirrored_model c.args.store.now (pending_if_mirrored l c.args.batch.now.items) c.args.refusals.now in IsSoundIn g.S.Space old → (a : Airspace) → holds_in g.S.Space old a → Fits c.args.change c.args.notify.now a) c.in-Some.is c.requires.fits in
    list_ahead g.S.Space c.args.store.now c.in-Some.mirror c.enqueue-answer.new.mirror c.args.state.now c.note_full.new.state c.args.batch.now.items c.enqueue-answer.new.batch.items c.args.refusals.now c.args.change c.args.notify.now c.enqueue-answer.result ahead fits c.enqueue-answer.ensures.mirror c.enqueue-answer.ensures.batch c.enqueue-answer.ensures.list_left c.enqueue-answer.ensures.batch_left c.note_full.ensures.ok c.note_full.ensures.err

pub returns-in-Some-clause-changes : goal.returns-in-Some-clause-changes
returns-in-Some-clause-changes g c =
    let ahead = subst (λ l. MirrorAgrees g.S.Space c.args.store.now l c.args.state.now c.args.batch.now.items) c.in-Some.is c.requires.agrees in
    let fits = subst (λ l. let old = mirrored_model c.args.store.now (pending_if_mirrored l c.args.batch.now.items) c.args.refusals.now in IsSoundIn g.S.Space old → (a : Airspace) → holds_in g.S.Space old a → Fits c.args.change c.args.notify.now a) c.in-Some.is c.requires.fits in
    rw c.in-Some.is (list_changes g.S.Space c.args.store.now c.in-Some.mirror c.enqueue-answer.new.mirror c.args.state.now c.args.batch.now.items c.enqueue-answer.new.batch.items c.args.refusals.now c.count_refusal.new.refusals c.args.change c.args.notify.now c.enqueue-answer.result c.count_refusal.result ahead fits c.enqueue-answer.ensures.fault c.enqueue-answer.ensures.batch c.enqueue-answer.ensures.batch_left c.count_refusal.ensures.same c.count_refusal.ensures.counted)

pub apply-answer-requires : goal.apply-answer-requires
apply-answer-requires g c =
    let fits = subst (λ l. let old = mirrored_model c.args.store.now (pending_if_mirrored l c.args.batch.now.items) c.args.refusals.now in IsSoundIn g.S.Space old → (a : Airspace) → holds_in g.S.Space old a → Fits c.args.change c.args.notify.now a) c.in-None.is c.requires.fits in
    record { fits = alone_fits g.S.Space c.args.store.now c.args.refusals.now c.args.change c.args.notify.now fits }

pub returns-in-None-clause-changes : goal.returns-in-None-clause-changes
returns-in-None-clause-changes g c =
    rw c.in-None.is (store_changes g.S.Space c.args.store.now c.apply-answer.new.self c.args.refusals.now c.count_refusal-in-None.new.refusals _ c.apply-answer.result c.count_refusal-in-None.result c.apply-answer.ensures.tells c.apply-answer.ensures.changes c.count_refusal-in-None.ensures.same c.count_refusal-in-None.ensures.counted)

pub returns-in-None-clause-agrees : goal.returns-in-None-clause-agrees
returns-in-None-clause-agrees g c =
    let none = subst (λ l. MirrorAgrees g.S.Space c.args.store.now l c.args.state.now c.args.batch.now.items) c.in-None.is c.requires.agrees in
    rw c.in-None.is (alone_agrees g.S.Space c.args.store.now c.apply-answer.new.self c.args.state.now c.note_outcome.new.state c.args.batch.now.items _ c.apply-answer.result none c.apply-answer.ensures.tells c.apply-answer.ensures.changes c.note_outcome.ensures)
