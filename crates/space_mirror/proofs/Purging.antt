-- A mirrored space purges what has ended while no change is pending.
use Rattle.std.specs.Prelude.{◌≡◌, ℕ, nat_eq, length, Bool, true, false, List, [], ◌∷◌, Option, Some, None, Result, Ok, Err, IfOk, OnOk, IfErr, refl}
use Rattle.std.proofs.Common.{arith, inl, inr, sym, ap, subst, ◌∙◌}
use Rattle.std.proofs.lemmas.List.{nil_from_length}
use Rattle.entity_core.specs.Airspace.{Airspace}
use Rattle.entity_purge.specs.PurgeItem.{CanPurgeAll, without_items}
use Rattle.entity_purge.specs.declared.purge_item.PurgeItem.{PurgeItem}
use Rattle.space_core.specs.declared.batch.BatchChange.{BatchChange}
use Rattle.space_core.specs.declared.space.Space.{Ghosts}
use Rattle.space_core.specs.declared.space.SpaceFault.{SpaceFault}
use Rattle.space_core.specs.declared.space.SpaceFault.TheVariants.{Unchanged, Broken}
use Rattle.space_core.specs.Space.{Changes, IsContent, Reads, ReportsFault, refusals_after}
use Rattle.space_memory.specs.declared.memory.MemorySpace.{MemorySpace}
use Rattle.space_memory.specs.Memory.{content_of}
use Rattle.space_mirror.specs.Mirrored.{MirrorAgrees, MirroredModel, HoldsOne, IsMirrorAhead, IsSoundIn, ReadsParts, pending_if_mirrored, mirrored_model, holds_in, is_whole_in, pending, some_pending, is_pending_in}
use Rattle.space_mirror.specs.Laws.{content_of_its_store, visible_is_durable, sound_as_its_store}
use Rattle.space_mirror.specs.Lists.{state_after_purge}
use Rattle.space_mirror.specs.Purges.{MirrorFollows, MirrorPurgeEffect, CannotSay}
use Rattle.space_mirror.specs.declared.mirror_state.MirrorState.{MirrorState}
use Rattle.space_mirror.specs.declared.mirror_state.MirrorState.TheVariants.{Steady}
use Rattle.space_mirror.proofs.Mirrors.{list_reads, reads_kept, store_answers_parts}
use Rattle.space_mirror.proofs.Committed.{whole_sound}
use Rattle.space_mirror.proofs.Pending.{one_changed}
use Rattle.space_mirror.proofs.States.{ahead, none_pending, agrees_ahead, agrees_without, agrees_as}

-- A mirror that returns no fault except `Unchanged` reports its faults.
tells_unbroken : {T : Type 0} (r : Result T SpaceFault) → IfErr r (λ fault. fault ≡ Unchanged) → ReportsFault 0 (refusals_after 0 r) false false r
tells_unbroken (Ok x) fault = record { counted = refl; breaks = refl; stays_broken = λ e. absurd (let f = e in cc) }
tells_unbroken (Err Unchanged) fault = record { counted = refl; breaks = refl; stays_broken = λ e. absurd (let f = e in cc) }
tells_unbroken (Err Broken) fault = absurd (let e = fault in cc)

-- The result of a call that reads the store only to see whether it is broken.
abbrev pub untold_of : {X T : Type 0} → Result X SpaceFault → Result T SpaceFault
untold_of (Ok x) = Err Unchanged
untold_of (Err Unchanged) = Err Unchanged
untold_of (Err Broken) = Err Broken

calm_of : (l : Option MemorySpace) (batch : List BatchChange) → batch ≡ [] → some_pending (pending (pending_if_mirrored l batch)) ≡ false
calm_of None batch none = refl
calm_of (Some l) batch none = ap some_pending none

-- A batch of length 0 is empty.
pub none_of : (batch : List BatchChange) (is_empty : Bool) → is_empty ≡ nat_eq (length batch) 0 → is_empty ≡ true → batch ≡ []
none_of batch is_empty e is = nil_from_length batch (grind arith)

module _ {S : Type 0} (g : Ghosts S) where
  -- ---- what has ended

  -- A result of the mirror is the result of a read of the mirrored space.
  pub told_by_list : {T : Type 0} (s : S) (l : MemorySpace) (k k' : ℕ) (r r' : Result T SpaceFault) (P : Airspace → T → Type 0) → IfErr r (λ fault. fault ≡ Unchanged) → IfOk r (λ x. P (content_of l) x)
      → r' ≡ r → k' ≡ refusals_after k r → ReadsParts g s s (Some l) (Some l) k k' r' P
  told_by_list s l k k' r r' P fault found same counted =
      list_reads g s l l 0 (refusals_after 0 r) k k' r r' P (tells_unbroken r fault) (reads_kept l l r P refl found) same counted

  -- A read of the store of which only the fault is used gives `CannotSay`.
  module _ {X T : Type 0} (s t : S) (n n' : ℕ) (P : Airspace → X → Type 0) where
    untold_read : (r : Result X SpaceFault) → ReportsFault n n' (g.is_broken s) (g.is_broken t) r → Reads g.holds g.is_sound g.is_whole s t r P → CannotSay {T = T} g s t (untold_of r)
    untold_read (Ok x) tells reads = record {
      breaks = tells.breaks;
      stays_broken = λ e. absurd (let f = tells.stays_broken e in cc);
      reads = record { sound = reads.sound; whole = reads.whole; stays = reads.stays; no_other = reads.no_other; answer = λ sound. tt };
    }
    untold_read (Err Unchanged) tells reads = record {
      breaks = tells.breaks;
      stays_broken = λ e. absurd (let f = tells.stays_broken e in cc);
      reads = record { sound = reads.sound; whole = reads.whole; stays = reads.stays; no_other = reads.no_other; answer = λ sound. tt };
    }
    untold_read (Err Broken) tells reads = record {
      breaks = tells.breaks;
      stays_broken = λ e. refl;
      reads = record { sound = reads.sound; whole = reads.whole; stays = reads.stays; no_other = reads.no_other; answer = λ sound. tt };
    }

    pub untold_by_reading : (r : Result X SpaceFault) (q : Result T SpaceFault) → ReportsFault n n' (g.is_broken s) (g.is_broken t) r → Reads g.holds g.is_sound g.is_whole s t r P → q ≡ untold_of r → CannotSay g s t q
    untold_by_reading r q tells reads is = subst (λ x. CannotSay g s t x) (sym is) (untold_read r tells reads)

  untold_reads : {T : Type 0} (s t : S) (r : Result T SpaceFault) (P : Airspace → T → Type 0) → CannotSay g s t r → Reads g.holds g.is_sound g.is_whole s t r P
  untold_reads s t (Ok x) P u = record {
    sound = u.reads.sound;
    whole = u.reads.whole;
    stays = u.reads.stays;
    no_other = u.reads.no_other;
    answer = λ sound a held. absurd (u.reads.answer sound a held);
  }
  untold_reads s t (Err e) P u = record {
    sound = u.reads.sound;
    whole = u.reads.whole;
    stays = u.reads.stays;
    no_other = u.reads.no_other;
    answer = λ sound. tt;
  }

  pub untold_by_store : {T : Type 0} (s t : S) (k k' : ℕ) (r r' : Result T SpaceFault) (P : Airspace → T → Type 0) → CannotSay g s t r
      → r' ≡ r → k' ≡ refusals_after k r → ReadsParts g s t None None k k' r' P
  untold_by_store s t k k' r r' P u same counted =
      store_answers_parts g s t 0 (refusals_after 0 r) k k' r r' P (record { counted = refl; breaks = u.breaks; stays_broken = u.stays_broken }) (untold_reads s t r P u) same counted

  -- ---- while no change is pending, a mirrored space changes as its store does

  module _ (o n : MirroredModel S) (change : Airspace → Airspace) (calm : is_pending_in o ≡ false) (calm' : is_pending_in n ≡ false) where
    done_calm : (r : Result (Unit {0}) SpaceFault) → OnOk r ((a : Airspace) → g.holds o.store a → IsContent g.holds n.store (change a)) → OnOk r ((b : Airspace) → holds_in g o b → IsContent (holds_in g) n (change b))
    done_calm (Ok x) done = λ b seen. content_of_its_store g n (change b) calm' (done b ((visible_is_durable g.holds o b calm).0 seen))
    done_calm (Err e) done = tt

    calm_changes : (r : Result (Unit {0}) SpaceFault) → Changes g.holds g.is_sound g.is_whole (g.is_broken o.store) o.store n.store r change
        → Changes (holds_in g) (IsSoundIn g) (is_whole_in g) (g.is_broken o.store) o n r change
    calm_changes r c = record {
      sound = λ sound. sound_as_its_store g o calm (c.sound sound.store);
      whole = λ sound whole. c.whole sound.store whole;
      done = λ sound. done_calm r (c.done sound.store);
      refused = λ sound is b. (
        (λ seen. (visible_is_durable g.holds n b calm').1 ((c.refused sound.store is b).0 ((visible_is_durable g.holds o b calm).0 seen))),
        (λ seen. (visible_is_durable g.holds o b calm).1 ((c.refused sound.store is b).1 ((visible_is_durable g.holds n b calm').0 seen))),
      );
      broken = λ sound is b seen. elim (c.broken sound.store is b ((visible_is_durable g.holds n b calm').0 seen)) [
        | inl before ↦ inl ((visible_is_durable g.holds o b calm).1 before)
        | inr after ↦ inr (λ d was. after d ((visible_is_durable g.holds o d calm).0 was))
      ];
      frozen = λ sound set b seen. (visible_is_durable g.holds o b calm).1 (c.frozen sound.store set b ((visible_is_durable g.holds n b calm').0 seen));
    }

  -- ---- purging

  -- The store can purge the items that the mirrored space can purge.
  pub can_go : (s : S) (l : Option MemorySpace) (p : MirrorState) (batch : List BatchChange) (k : ℕ) (gone : List PurgeItem) → batch ≡ [] → MirrorAgrees g s l p batch
      → (IsSoundIn g (mirrored_model s (pending_if_mirrored l batch) k) → (a : Airspace) → holds_in g (mirrored_model s (pending_if_mirrored l batch) k) a → CanPurgeAll gone a) → g.is_sound s → (a : Airspace) → g.holds s a → CanPurgeAll gone a
  can_go s l p batch k gone none h can sound a held =
      can (whole_sound g s l p batch k h sound) a ((visible_is_durable g.holds (mirrored_model s (pending_if_mirrored l batch) k) a (calm_of l batch none)).1 held)

  module _ (s t : S) (gone : List PurgeItem) where
    ahead_less : (l m : MemorySpace) (x : Unit {0}) → IsMirrorAhead g s l [] → g.is_broken t ≡ g.is_broken s → Changes {T = Unit {0}} g.holds g.is_sound g.is_whole (g.is_broken s) s t (Ok x) (without_items gone)
        → content_of m ≡ without_items gone (content_of l) → IsMirrorAhead g t m []
    ahead_less l m x h breaks c went = record {
      live = breaks ∙ h.live;
      base = λ sound. let it = h.base (c.sound sound) in (without_items gone it.0, c.done sound it.0 it.1.held, tt, went ∙ ap (without_items gone) it.3);
    }

    ahead_refused : (l : MemorySpace) → IsMirrorAhead g s l [] → g.is_broken t ≡ g.is_broken s → Changes {T = Unit {0}} g.holds g.is_sound g.is_whole (g.is_broken s) s t (Err Unchanged) (without_items gone) → IsMirrorAhead g t l []
    ahead_refused l h breaks c = record {
      live = breaks ∙ h.live;
      base = λ sound.
          let it = h.base (c.sound sound) in
          (it.0, record { held = (c.refused sound refl it.0).0 it.1.held; only = λ b now. it.1.only b ((c.refused sound refl b).1 now) }, tt, it.3);
    }

    module _ (n : Option MemorySpace) (p q : MirrorState) where
      listed_agrees : (l : MemorySpace) (r : Result (Unit {0}) SpaceFault) → q ≡ state_after_purge r p → MirrorAgrees g s (Some l) p [] → ReportsFault (g.refusals s) (g.refusals t) (g.is_broken s) (g.is_broken t) r
          → Changes g.holds g.is_sound g.is_whole (g.is_broken s) s t r (without_items gone) → MirrorFollows gone r (Some l) n → MirrorAgrees g t n q []
      listed_agrees l (Ok x) is h tells c mirror =
          agrees_as g t n (Some mirror.0) q p [] mirror.1 is (agrees_ahead g s t l mirror.0 p [] [] h (ahead_less l mirror.0 x (ahead g s l p [] h) tells.breaks c mirror.2))
      listed_agrees l (Err Unchanged) is h tells c mirror =
          agrees_as g t n (Some l) q p [] mirror is (agrees_ahead g s t l l p [] [] h (ahead_refused l (ahead g s l p [] h) tells.breaks c))
      listed_agrees l (Err Broken) is h tells c mirror = agrees_as g t n None q Steady [] mirror is refl

      -- Without a mirror, the store purges alone.
      alone_gone : (r : Result (Unit {0}) SpaceFault) → q ≡ state_after_purge r p → MirrorAgrees g s None p [] → (HoldsOne g s → HoldsOne g t) → MirrorFollows gone r None n → MirrorAgrees g t n q []
      alone_gone (Ok x) is h one mirror = agrees_as g t n None q p [] mirror is (agrees_without g s t p [] one h)
      alone_gone (Err Unchanged) is h one mirror = agrees_as g t n None q p [] mirror is (agrees_without g s t p [] one h)
      alone_gone (Err Broken) is h one mirror = agrees_as g t n None q Steady [] mirror is refl

      pub agrees_gone : (l : Option MemorySpace) (batch : List BatchChange) (r : Result (Unit {0}) SpaceFault) → q ≡ state_after_purge r p → batch ≡ [] → MirrorAgrees g s l p batch → ReportsFault (g.refusals s) (g.refusals t) (g.is_broken s) (g.is_broken t) r
          → Changes g.holds g.is_sound g.is_whole (g.is_broken s) s t r (without_items gone) → MirrorFollows gone r l n → MirrorAgrees g t n q batch
      agrees_gone l (c ∷ cs) r is none h tells changes mirror = absurd (let e = none in cc)
      agrees_gone None [] r is none h tells changes mirror = alone_gone r is h (one_changed g s t (without_items gone) r tells changes) mirror
      agrees_gone (Some l) [] r is none h tells changes mirror = listed_agrees l r is h tells changes mirror

    pub goes : (l n : Option MemorySpace) (batch : List BatchChange) (k k' : ℕ) (r r' : Result (Unit {0}) SpaceFault) → batch ≡ [] → ReportsFault (g.refusals s) (g.refusals t) (g.is_broken s) (g.is_broken t) r
        → Changes g.holds g.is_sound g.is_whole (g.is_broken s) s t r (without_items gone) → r' ≡ r → k' ≡ refusals_after k r
        → MirrorPurgeEffect g (mirrored_model s (pending_if_mirrored l batch) k) (mirrored_model t (pending_if_mirrored n batch) k') r' gone
    goes l n batch k k' r r' none tells c is counted =
        let calm = calm_of l batch none in
        let calm' = calm_of n batch none in
        subst (λ q. MirrorPurgeEffect {T = Unit {0}} g (mirrored_model s (pending_if_mirrored l batch) k) (mirrored_model t (pending_if_mirrored n batch) k') q gone) (sym is) (record {
          tells = record { counted = counted; breaks = tells.breaks; stays_broken = tells.stays_broken };
          changes = calm_changes (mirrored_model s (pending_if_mirrored l batch) k) (mirrored_model t (pending_if_mirrored n batch) k') (without_items gone) calm calm' r c;
          waits = calm' ∙ sym calm;
          pending = λ e. absurd (let f = calm in cc);
        })

  -- ---- while changes are pending

  works_waiting : (s : S) (l : Option MemorySpace) (p : MirrorState) (batch : List BatchChange) → (batch ≡ [] → ⊥) → MirrorAgrees g s l p batch → g.is_broken s ≡ false
  works_waiting s None p batch waits h = absurd (waits (none_pending g s p batch h))
  works_waiting s (Some l) p batch waits h = (ahead g s l p batch h).live

  pub nothing_goes : (s : S) (l : Option MemorySpace) (p : MirrorState) (batch : List BatchChange) (k k' : ℕ) (gone : List PurgeItem) (r : Result (Unit {0}) SpaceFault) → (batch ≡ [] → ⊥) → MirrorAgrees g s l p batch
      → r ≡ Err Unchanged → k' ≡ refusals_after {T = Unit {0}} k (Err Unchanged) → MirrorPurgeEffect g (mirrored_model s (pending_if_mirrored l batch) k) (mirrored_model s (pending_if_mirrored l batch) k') r gone
  nothing_goes s l p batch k k' gone r waits h is counted =
      subst (λ q. MirrorPurgeEffect {T = Unit {0}} g (mirrored_model s (pending_if_mirrored l batch) k) (mirrored_model s (pending_if_mirrored l batch) k') q gone) (sym is) (record {
        tells = record { counted = counted; breaks = refl; stays_broken = λ e. absurd (let f = works_waiting s l p batch waits h in cc) };
        changes = record {
          sound = λ sound. record { store = sound.store; fits = sound.fits; live = sound.live };
          whole = λ sound whole. whole;
          done = λ sound. tt;
          refused = λ sound is a. ((λ seen. seen), (λ seen. seen));
          broken = λ sound is. absurd (let e = is in cc);
          frozen = λ sound set b seen. seen;
        };
        waits = refl;
        pending = λ e. (refl, refl);
      })
