-- Pending changes are committed together. If the commit fails, the mirror is dropped, and rebuilt
-- later.
use Rattle.std.specs.Prelude.{◌≡◌, ℕ, Bool, true, false, List, [], Option, Some, None, IsSome, Result, Ok, Err, OnOk, ◌⊎◌, refl}
use Rattle.std.proofs.Common.{inl, inr, sym, ap, subst, ◌∙◌}
use Rattle.entity_core.specs.Airspace.{Airspace}
use Rattle.space_core.specs.declared.batch.BatchChange.{BatchChange}
use Rattle.space_core.specs.declared.space.Space.{Ghosts}
use Rattle.space_core.specs.declared.space.SpaceFault.{SpaceFault}
use Rattle.space_core.specs.declared.space.SpaceFault.TheVariants.{Unchanged, Broken}
use Rattle.space_core.specs.Batch.{FitAll, changed_all}
use Rattle.space_core.specs.GroupCommit.{CommitEffect}
use Rattle.space_core.specs.Space.{Changes, IsContent, Reads, ReportsFault, refusals_after}
use Rattle.space_memory.specs.declared.memory.MemorySpace.{MemorySpace}
use Rattle.space_memory.specs.Memory.{content_of}
use Rattle.space_mirror.specs.Mirrored.{MirrorAgrees, MirroredModel, HoldsOne, IsMirrorAhead, IsSoundIn, BatchCommit, pending_if_mirrored, mirrored_model, holds_in, is_whole_in, persists_in, pending, some_pending}
use Rattle.space_mirror.specs.Laws.{content_of_its_store, visible_is_durable}
use Rattle.space_mirror.specs.Lists.{Making, MirrorStays}
use Rattle.space_mirror.specs.declared.mirror_state.MirrorState.{MirrorState}
use Rattle.space_mirror.specs.declared.mirror_state.MirrorState.TheVariants.{Steady, Full, Dropped, RebuildDue}
use Rattle.space_mirror.proofs.Mirrors.{one_read}
use Rattle.space_mirror.proofs.States.{ahead, none_pending, agrees_without, agrees_as}

module _ {S : Type 0} (g : Ghosts S) where
  -- The batch that the store has to apply fits.
  pub batch_fits : (s : S) (l : Option MemorySpace) (p : MirrorState) (batch : List BatchChange) → MirrorAgrees g s l p batch → g.is_sound s → (a : Airspace) → g.holds s a → FitAll batch a
  batch_fits s None p batch none sound a held = subst (λ cs. FitAll cs a) (sym (none_pending g s p batch none)) tt
  batch_fits s (Some l) p batch h sound a held = let it = (ahead g s l p batch h).base sound in subst (λ c. FitAll batch c) (sym (it.1.only a held)) it.2

  -- The mirrored space is sound if its store is.
  pub whole_sound : (s : S) (l : Option MemorySpace) (p : MirrorState) (batch : List BatchChange) (n : ℕ) → MirrorAgrees g s l p batch → g.is_sound s → IsSoundIn g (mirrored_model s (pending_if_mirrored l batch) n)
  whole_sound s None p batch n none sound = record { store = sound; fits = λ a held. tt; live = λ waits. absurd (let e = waits in cc) }
  whole_sound s (Some l) p batch n h sound = record { store = sound; fits = batch_fits s (Some l) p batch h sound; live = λ waits. (ahead g s l p batch h).live }

  -- ---- applying a batch

  made_or_not : (s t : S) (batch : List BatchChange) (a b : Airspace) → IsContent g.holds s a → g.holds s b ⊎ ((c : Airspace) → g.holds s c → b ≡ changed_all batch c)
      → g.holds s b ⊎ ((c : Airspace) × g.holds s c × (b ≡ changed_all batch c))
  made_or_not s t batch a b content (inl before) = inl before
  made_or_not s t batch a b content (inr after) = inr (a, content.held, after a content.held)

  kept_or_made : (s t : S) (batch : List BatchChange) (a b : Airspace) (r : Result (Unit {0}) SpaceFault) → IsContent g.holds s a → g.is_sound t
      → Changes g.holds g.is_sound g.is_whole (g.is_broken s) s t r (changed_all batch) → g.holds t b
      → g.holds s b ⊎ ((c : Airspace) × g.holds s c × (b ≡ changed_all batch c))
  kept_or_made s t batch a b (Ok x) content sound c held = inr (a, content.held, (c.done sound a content.held).only b held)
  kept_or_made s t batch a b (Err Unchanged) content sound c held = inl ((c.refused sound refl b).1 held)
  kept_or_made s t batch a b (Err Broken) content sound c held = made_or_not s t batch a b content (c.broken sound refl b held)

  making_by_store : (s t : S) (l : MemorySpace) (batch : List BatchChange) (r : Result (Unit {0}) SpaceFault) → IsMirrorAhead g s l batch
      → ReportsFault (g.refusals s) (g.refusals t) (g.is_broken s) (g.is_broken t) r → Changes g.holds g.is_sound g.is_whole (g.is_broken s) s t r (changed_all batch)
      → Making g s t batch r
  making_by_store s t l batch r h tells c = record {
    breaks = tells.breaks;
    stays_broken = tells.stays_broken;
    sound = c.sound;
    whole = c.whole;
    done = c.done;
    refused = c.refused;
    no_other = λ sound b held.
        let it = h.base (c.sound sound) in
        kept_or_made s t batch it.0 b r it.1 sound c held;
  }

  pub making_of_listed : (s t : S) (l : Option MemorySpace) (p : MirrorState) (batch : List BatchChange) (r : Result (Unit {0}) SpaceFault) → MirrorAgrees g s l p batch → IsSome l
      → ReportsFault (g.refusals s) (g.refusals t) (g.is_broken s) (g.is_broken t) r → Changes g.holds g.is_sound g.is_whole (g.is_broken s) s t r (changed_all batch)
      → Making g s t batch r
  making_of_listed s t None p batch r h there tells c = absurd (let e = there in cc)
  making_of_listed s t (Some l) p batch r h there tells c = making_by_store s t l batch r (ahead g s l p batch h) tells c

  -- ---- the mirror after a batch

  ahead_after : (s t : S) (l : MemorySpace) (batch : List BatchChange) → IsMirrorAhead g s l batch → Making {T = Unit {0}} g s t batch (Ok tt) → IsMirrorAhead g t l []
  ahead_after s t l batch h made = record {
    live = made.breaks ∙ h.live;
    base = λ sound. let it = h.base (made.sound sound) in (changed_all batch it.0, made.done sound it.0 it.1.held, tt, it.3);
  }

  -- If the store fails the batch, it still holds one airspace.
  one_left : (s t : S) (l : MemorySpace) (batch : List BatchChange) → IsMirrorAhead g s l batch → Making {T = Unit {0}} g s t batch (Err Unchanged) → HoldsOne g t
  one_left s t l batch h made works sound =
      let it = h.base (made.sound sound) in
      (it.0, record { held = (made.refused sound refl it.0).0 it.1.held; only = λ b now. it.1.only b ((made.refused sound refl b).1 now) })

  -- A steady mirror stays or is dropped.
  steady_kept : (s t : S) (l : MemorySpace) (n : Option MemorySpace) (q : MirrorState) (batch : List BatchChange) (r : Result (Unit {0}) SpaceFault) → IsMirrorAhead g s l batch
      → Making g s t batch r → MirrorStays r (Some l) n Steady q → MirrorAgrees g t n q []
  steady_kept s t l n q batch (Ok x) h made mirror = agrees_as g t n (Some l) q Steady [] mirror.0 mirror.1 (ahead_after s t l batch h made)
  steady_kept s t l n q batch (Err Unchanged) h made mirror = agrees_as g t n None q Dropped [] mirror.0 mirror.1 (record { no_mirror = refl; none_pending = refl; one = one_left s t l batch h made })
  steady_kept s t l n q batch (Err Broken) h made mirror = agrees_as g t n None q Steady [] mirror.0 mirror.1 refl

  pub agrees_kept : (s t : S) (l n : Option MemorySpace) (p q : MirrorState) (batch : List BatchChange) (r : Result (Unit {0}) SpaceFault) → MirrorAgrees g s l p batch → IsSome l
      → Making g s t batch r → MirrorStays r l n p q → MirrorAgrees g t n q []
  agrees_kept s t None n p q batch r h there made mirror = absurd (let e = there in cc)
  agrees_kept s t (Some l) n Steady q batch r h there made mirror = steady_kept s t l n q batch r h made mirror
  agrees_kept s t (Some l) n Full q batch r h there made mirror = agrees_as g t n None q Steady [] mirror.0 mirror.1 refl
  agrees_kept s t (Some l) n Dropped q batch r h there made mirror = absurd (let e = h.no_mirror in cc)
  agrees_kept s t (Some l) n RebuildDue q batch r h there made mirror = absurd (let e = h.no_mirror in cc)

  -- ---- without a mirror

  not_broken : (b : Bool) → (b ≡ true → ⊥) → b ≡ false
  not_broken true never = absurd (never refl)
  not_broken false never = refl

  -- The result of a read of which only `Broken` is reported.
  abbrev pub told : {T : Type 0} → Result T SpaceFault → Result (Unit {0}) SpaceFault
  told (Ok x) = Ok tt
  told (Err Unchanged) = Ok tt
  told (Err Broken) = Err Broken

  module _ {T : Type 0} (s t : S) (n n' : ℕ) (P : Airspace → T → Type 0) (one : (a b : Airspace) → g.is_sound s → g.is_broken s ≡ false → g.holds s a → g.holds s b → a ≡ b) where
    read_done : (r : Result T SpaceFault) → Reads g.holds g.is_sound g.is_whole s t r P → g.is_broken s ≡ false → g.is_sound t → ((a : Airspace) → g.holds s a → g.holds t a)
        → (a : Airspace) → g.holds s a → IsContent g.holds t a
    read_done r reads works sound stays a held = record {
      held = stays a held;
      only = λ b now. one b a (reads.sound sound) works (reads.no_other sound b now) held;
    }

    making_read : (r : Result T SpaceFault) → ReportsFault n n' (g.is_broken s) (g.is_broken t) r → Reads g.holds g.is_sound g.is_whole s t r P → Making g s t [] (told r)
    making_read (Ok x) tells reads = record {
      breaks = tells.breaks;
      stays_broken = λ e. absurd (let f = tells.stays_broken e in cc);
      sound = reads.sound;
      whole = reads.whole;
      done = λ sound. read_done (Ok x) reads (not_broken (g.is_broken s) (λ e. let f = tells.stays_broken e in cc)) sound (reads.stays sound);
      refused = λ sound is. absurd (let e = is in cc);
      no_other = λ sound b now. inl (reads.no_other sound b now);
    }
    making_read (Err Unchanged) tells reads = record {
      breaks = tells.breaks;
      stays_broken = λ e. absurd (let f = tells.stays_broken e in cc);
      sound = reads.sound;
      whole = reads.whole;
      done = λ sound. read_done (Err Unchanged) reads (not_broken (g.is_broken s) (λ e. let f = tells.stays_broken e in cc)) sound (reads.stays sound);
      refused = λ sound is. absurd (let e = is in cc);
      no_other = λ sound b now. inl (reads.no_other sound b now);
    }
    making_read (Err Broken) tells reads = record {
      breaks = tells.breaks;
      stays_broken = λ e. refl;
      sound = reads.sound;
      whole = reads.whole;
      done = λ sound. tt;
      refused = λ sound is. absurd (let e = is in cc);
      no_other = λ sound b now. inl (reads.no_other sound b now);
    }

    pub made_by_reading : (r : Result T SpaceFault) (q : Result (Unit {0}) SpaceFault) → ReportsFault n n' (g.is_broken s) (g.is_broken t) r → Reads g.holds g.is_sound g.is_whole s t r P → q ≡ told r
        → Making g s t [] q
    made_by_reading r q tells reads is = subst (λ x. Making g s t [] x) (sym is) (making_read r tells reads)

  -- If the store is only checked and the mirror is not rebuilt, the parts still agree.
  pub agrees_checked : {T : Type 0} (s t : S) (n n' : ℕ) (P : Airspace → T → Type 0) (l : Option MemorySpace) (p : MirrorState) (r : Result T SpaceFault) → MirrorAgrees g s l p [] → l ≡ None
      → ReportsFault n n' (g.is_broken s) (g.is_broken t) r → Reads g.holds g.is_sound g.is_whole s t r P → MirrorAgrees g t l p []
  agrees_checked s t n n' P l p r h none tells reads =
      let before = subst (λ x. MirrorAgrees g s x p []) none h in
      agrees_as g t l None p p [] none refl (agrees_without g s t p [] (one_read g s t n n' r P tells reads) before)

  -- A mirror that is due to be rebuilt can be.
  pub one_if_due : (s : S) (l : Option MemorySpace) (p : MirrorState) → MirrorAgrees g s l p [] → p ≡ RebuildDue → HoldsOne g s
  one_if_due s l p h due = (subst (λ q. MirrorAgrees g s l q []) due h).one

  -- A mirror that is loaded from a store has its content.
  pub ahead_anew : (s t : S) (c : MemorySpace) (n n' : ℕ) → HoldsOne g s → ReportsFault {T = MemorySpace} n n' (g.is_broken s) (g.is_broken t) (Ok c)
      → Reads {T = MemorySpace} g.holds g.is_sound g.is_whole s t (Ok c) (λ a mirror. content_of mirror ≡ a) → IsMirrorAhead g t c []
  ahead_anew s t c n n' one tells reads =
      let works = not_broken (g.is_broken s) (λ e. let f = tells.stays_broken e in cc) in
      record {
        live = tells.breaks ∙ works;
        base = λ sound.
            let it = one works (reads.sound sound) in
            (it.0, record { held = reads.stays sound it.0 it.1.held; only = λ b now. it.1.only b (reads.no_other sound b now) }, tt, reads.answer sound it.0 it.1.held);
      }

  -- Without a mirror, no change is pending.
  pub none_waits : (s : S) (l : Option MemorySpace) (p : MirrorState) (batch : List BatchChange) → l ≡ None → MirrorAgrees g s l p batch → batch ≡ []
  none_waits s l p batch none h = none_pending g s p batch (subst (λ x. MirrorAgrees g s x p batch) none h)

  -- ---- the visible airspace afterwards

  calm_after : (n : Option MemorySpace) → some_pending (pending (pending_if_mirrored n [])) ≡ false
  calm_after None = refl
  calm_after (Some l) = refl

  pending_is : (s : S) (l : Option MemorySpace) (p : MirrorState) (batch : List BatchChange) → MirrorAgrees g s l p batch → pending (pending_if_mirrored l batch) ≡ batch
  pending_is s None p batch none = sym (none_pending g s p batch none)
  pending_is s (Some l) p batch h = refl

  module _ (s u : S) (l n : Option MemorySpace) (p : MirrorState) (batch : List BatchChange) (k k' : ℕ) (h : MirrorAgrees g s l p batch) where
    abbrev old : MirroredModel S
    old = mirrored_model s (pending_if_mirrored l batch) k

    abbrev new : MirroredModel S
    new = mirrored_model u (pending_if_mirrored n []) k'

    seen_made : (b : Airspace) (seen : holds_in g old b) → b ≡ changed_all batch seen.0
    seen_made b seen = seen.2 ∙ ap (λ cs. changed_all cs seen.0) (pending_is s l p batch h)

    done_seen : (q : Result (Unit {0}) SpaceFault) → OnOk q ((a : Airspace) → g.holds s a → IsContent g.holds u (changed_all batch a)) → OnOk q ((b : Airspace) → holds_in g old b → IsContent (holds_in g) new b)
    done_seen (Ok x) done = λ b seen. content_of_its_store g new b (calm_after n) (subst (λ c. IsContent g.holds u c) (sym (seen_made b seen)) (done seen.0 seen.1))
    done_seen (Err e) done = tt

    settling : (q : Result (Unit {0}) SpaceFault) → Making g s u batch q → CommitEffect (holds_in g) (persists_in g) (IsSoundIn g) (is_whole_in g) old new q
    settling q made = record {
      sound = λ sound. whole_sound s l p batch k h (made.sound sound.store);
      whole = λ sound whole. made.whole sound.store whole;
      done = λ sound. done_seen q (made.done sound.store);
      refused = λ sound is a.
          let it = made.refused sound.store is a in
          let snapshot_of = visible_is_durable g.holds new a (calm_after n) in
          ((λ kept. snapshot_of.1 (it.0 kept)), (λ seen. it.1 (snapshot_of.0 seen)));
      no_other = λ sound a seen.
          elim (made.no_other sound.store a ((visible_is_durable g.holds new a (calm_after n)).0 seen)) [
            | inl before ↦ inl before
            | inr after ↦ inr (after.0, after.1, after.2 ∙ ap (λ cs. changed_all cs after.0) (sym (pending_is s l p batch h)))
          ];
    }

  pub settled_keeps : (s u : S) (l n : Option MemorySpace) (p : MirrorState) (batch batch' : List BatchChange) (k k' : ℕ) (q q' : Result (Unit {0}) SpaceFault) → MirrorAgrees g s l p batch
      → Making g s u batch q → batch' ≡ [] → q' ≡ q → k' ≡ refusals_after k q
      → BatchCommit g (mirrored_model s (pending_if_mirrored l batch) k) (mirrored_model u (pending_if_mirrored n batch') k') q'
  settled_keeps s u l n p batch batch' k k' q q' h made cleared is counted =
      subst (λ cs. BatchCommit g (mirrored_model s (pending_if_mirrored l batch) k) (mirrored_model u (pending_if_mirrored n cs) k') q') (sym cleared)
      (subst (λ x. BatchCommit g (mirrored_model s (pending_if_mirrored l batch) k) (mirrored_model u (pending_if_mirrored n []) k') x) (sym is) (record {
        tells = record { counted = counted; breaks = made.breaks; stays_broken = made.stays_broken };
        calm = calm_after n;
        settles = settling s u l n p batch k k' h q made;
      }))
