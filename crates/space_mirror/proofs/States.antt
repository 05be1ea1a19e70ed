-- What holds of a mirror, its store and its batch in each state.
use Rattle.std.specs.Prelude.{◌≡◌, List, [], Option, Some, None, refl}
use Rattle.std.proofs.Common.{sym, subst}
use Rattle.space_core.specs.declared.batch.BatchChange.{BatchChange}
use Rattle.space_core.specs.declared.space.Space.{Ghosts}
use Rattle.space_memory.specs.declared.memory.MemorySpace.{MemorySpace}
use Rattle.space_mirror.specs.Mirrored.{MirrorAgrees, HoldsOne, IsMirrorAhead}
use Rattle.space_mirror.specs.declared.mirror_state.MirrorState.{MirrorState}
use Rattle.space_mirror.specs.declared.mirror_state.MirrorState.TheVariants.{Steady, Full, Dropped, RebuildDue}

module _ {S : Type 0} (g : Ghosts S) where
  -- A mirror is ahead of the store by the batch.
  pub ahead : (s : S) (l : MemorySpace) (p : MirrorState) (batch : List BatchChange) → MirrorAgrees g s (Some l) p batch → IsMirrorAhead g s l batch
  ahead s l Steady batch h = h
  ahead s l Full batch h = h
  ahead s l Dropped batch h = absurd (let e = h.no_mirror in cc)
  ahead s l RebuildDue batch h = absurd (let e = h.no_mirror in cc)

  -- Without a mirror, no change is pending.
  pub none_pending : (s : S) (p : MirrorState) (batch : List BatchChange) → MirrorAgrees g s None p batch → batch ≡ []
  none_pending s Steady batch h = h
  none_pending s Full batch h = absurd h
  none_pending s Dropped batch h = h.none_pending
  none_pending s RebuildDue batch h = h.none_pending

  -- If a mirror stays ahead, the parts agree in the same state.
  pub agrees_ahead : (s t : S) (l m : MemorySpace) (p : MirrorState) (batch batch' : List BatchChange) → MirrorAgrees g s (Some l) p batch → IsMirrorAhead g t m batch' → MirrorAgrees g t (Some m) p batch'
  agrees_ahead s t l m Steady batch batch' h now = now
  agrees_ahead s t l m Full batch batch' h now = now
  agrees_ahead s t l m Dropped batch batch' h now = absurd (let e = h.no_mirror in cc)
  agrees_ahead s t l m RebuildDue batch batch' h now = absurd (let e = h.no_mirror in cc)

  -- Without a mirror, the parts agree in the same state if the store still holds one airspace.
  pub agrees_without : (s t : S) (p : MirrorState) (batch : List BatchChange) → (HoldsOne g s → HoldsOne g t) → MirrorAgrees g s None p batch → MirrorAgrees g t None p batch
  agrees_without s t Steady batch one h = h
  agrees_without s t Full batch one h = h
  agrees_without s t Dropped batch one h = record { no_mirror = h.no_mirror; none_pending = h.none_pending; one = one h.one }
  agrees_without s t RebuildDue batch one h = record { no_mirror = h.no_mirror; none_pending = h.none_pending; one = one h.one }

  -- Equal mirrors and states agree alike.
  pub agrees_as : (t : S) (n m : Option MemorySpace) (q p : MirrorState) (batch : List BatchChange) → n ≡ m → q ≡ p → MirrorAgrees g t m p batch → MirrorAgrees g t n q batch
  agrees_as t n m q p batch mirror state h = subst (λ x. MirrorAgrees g t x q batch) (sym mirror) (subst (λ y. MirrorAgrees g t m y batch) (sym state) h)
