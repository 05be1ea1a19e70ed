-- Changes are pending in a batch and are applied together.
use Rattle.std.specs.Prelude.{◌≡◌, ℕ, true, false, List, [], ◌∷◌, ◌++◌, Some, None, Result, Ok, Err, OnOk, OnErr, IfErr, refl}
use Rattle.std.proofs.Common.{inl, inr, sym, ap, subst, ◌∙◌}
use Rattle.std.proofs.lemmas.List.Sums.{fold-append}
use Rattle.entity_core.specs.Airspace.{Airspace}
use Rattle.space_core.specs.declared.batch.BatchChange.{BatchChange}
use Rattle.space_core.specs.declared.space.Change.{Change}
use Rattle.space_core.specs.declared.space.Space.{Ghosts}
use Rattle.space_core.specs.declared.space.SpaceFault.{SpaceFault}
use Rattle.space_core.specs.declared.space.SpaceFault.TheVariants.{Unchanged, Broken}
use Rattle.space_core.specs.Batch.{FitAll, changed_all, changed_once}
use Rattle.space_core.specs.Space.{Changes, Fits, IsContent, ReportsFault, changed, refusals_after}
use Rattle.space_memory.specs.declared.memory.MemorySpace.{MemorySpace}
use Rattle.space_memory.specs.Memory.{content_of}
use Rattle.space_mirror.specs.Lists.{state_after_change}
use Rattle.space_mirror.specs.Mirrored.{MirrorAgrees, Changing, MirroredModel, HoldsOne, IsMirrorAhead, IsSoundIn, mirrored_model, holds_in}
use Rattle.space_mirror.specs.declared.mirror_state.MirrorState.{MirrorState}
use Rattle.space_mirror.specs.declared.mirror_state.MirrorState.TheVariants.{Steady, Full, Dropped, RebuildDue}
use Rattle.space_mirror.proofs.Mirrors.{ahead_same}
use Rattle.space_mirror.proofs.States.{ahead, agrees_ahead, agrees_as}

-- ---- one more change of a batch

fits_more : (batch : List BatchChange) (w : BatchChange) (a : Airspace) → FitAll batch a → Fits w.change w.notify.items (changed_all batch a) → FitAll (batch ++ w ∷ []) a
fits_more [] w a all one = (one, tt)
fits_more (c ∷ cs) w a all one = (all.0, fits_more cs w (changed_once c a) all.1 one)

fits_less : (batch : List BatchChange) (w : BatchChange) (a : Airspace) → FitAll (batch ++ w ∷ []) a → FitAll batch a
fits_less [] w a all = tt
fits_less (c ∷ cs) w a all = (all.0, fits_less cs w (changed_once c a) all.1)

-- A copy of the change and of the ids of the subscriptions that it notifies.
module _ (batch : List BatchChange) (w : BatchChange) (change : Change) (told : List ℕ) (same : w.change ≡ change) (telling : w.notify.items ≡ told) where
  changed_more : (a : Airspace) → changed_all (batch ++ w ∷ []) a ≡ changed change told (changed_all batch a)
  changed_more a =
      let b = changed_all batch a in
      fold-append (λ b c. changed_once c b) a batch (w ∷ []) ∙ (ap (λ c. changed c w.notify.items b) same ∙ ap (λ t. changed change t b) telling)

  fits_copied : (a : Airspace) → Fits change told a → Fits w.change w.notify.items a
  fits_copied a fits = subst (λ c. Fits c w.notify.items a) (sym same) (subst (λ t. Fits change t a) (sym telling) fits)

module _ {S : Type 0} (g : Ghosts S) where
  -- ---- a change that is visible and pending

  module _ (s : S) (l m : MemorySpace) (batch : List BatchChange) (k k' : ℕ) (change : Change) (told : List ℕ) (h : IsMirrorAhead g s l batch) where
    abbrev old : MirroredModel S
    old = mirrored_model s (Some batch) k

    abbrev after : List BatchChange → MirroredModel S
    after cs = mirrored_model s (Some cs) k'

    not_broken : g.is_broken s ≡ true → ⊥
    not_broken e = let f = h.live in cc

    still_ahead : (fits : IsSoundIn g old → (a : Airspace) → holds_in g old a → Fits change told a) (w : BatchChange) → w.change ≡ change → w.notify.items ≡ told
        → content_of m ≡ changed change told (content_of l) → IsMirrorAhead g s m (batch ++ w ∷ [])
    still_ahead fits w same telling done = record {
      live = h.live;
      base = λ sound.
          let it = h.base sound in
          let fit = fits (record { store = sound; fits = λ a held. subst (λ c. FitAll batch c) (sym (it.1.only a held)) it.2; live = λ waits. h.live }) (changed_all batch it.0) (it.0, it.1.held, refl) in
          (it.0, it.1, fits_more batch w it.0 it.2 (fits_copied batch w change told same telling (changed_all batch it.0) fit), done ∙ (ap (changed change told) it.3 ∙ sym (changed_more batch w change told same telling it.0)));
    }

    waits : (fits : IsSoundIn g old → (a : Airspace) → holds_in g old a → Fits change told a) (w : BatchChange) → w.change ≡ change → w.notify.items ≡ told
        → k' ≡ k → Changing {T = Unit {0}} g old (after (batch ++ w ∷ [])) (Ok tt) (changed change told)
    waits fits w same telling counted =
        let grown = changed_more batch w change told same telling in
        record {
          fixed = refl;
          tells = record { counted = counted; breaks = refl; stays_broken = λ e. absurd (not_broken e) };
          changes = record {
            sound = λ sound. record { store = sound.store; fits = λ a held. fits_less batch w a (sound.fits a held); live = λ waits. h.live };
            whole = λ sound whole. whole;
            done = λ sound b seen.
                let it = h.base sound.store in
                record {
                  held = (seen.0, seen.1, ap (changed change told) seen.2 ∙ sym (grown seen.0));
                  only = λ c now. now.2 ∙ (grown now.0 ∙ ap (changed change told) (ap (changed_all batch) (it.1.only now.0 now.1 ∙ sym (it.1.only seen.0 seen.1)) ∙ sym seen.2));
                };
            refused = λ sound is. absurd (let e = is in cc);
            broken = λ sound is. absurd (let e = is in cc);
            frozen = λ sound set b seen. absurd (not_broken set);
          };
        }

    left : k' ≡ refusals_after {T = Unit {0}} k (Err Unchanged) → Changing {T = Unit {0}} g old (after batch) (Err Unchanged) (changed change told)
    left counted = record {
      fixed = refl;
      tells = record { counted = counted; breaks = refl; stays_broken = λ e. absurd (not_broken e) };
      changes = record {
        sound = λ sound. record { store = sound.store; fits = sound.fits; live = λ waits. h.live };
        whole = λ sound whole. whole;
        done = λ sound. tt;
        refused = λ sound is a. ((λ seen. seen), (λ seen. seen));
        broken = λ sound is. absurd (let e = is in cc);
        frozen = λ sound set b seen. seen;
      };
    }

    module _ (batch' : List BatchChange) (r : Result (Unit {0}) SpaceFault) (fits : IsSoundIn g old → (a : Airspace) → holds_in g old a → Fits change told a) where
      answered_ahead : (q : Result (Unit {0}) SpaceFault) → OnOk q (content_of m ≡ changed change told (content_of l)) → OnOk q ((w : BatchChange) × (w.change ≡ change) × (w.notify.items ≡ told) × (batch' ≡ batch ++ w ∷ []))
          → OnErr q (content_of m ≡ content_of l) → OnErr q (batch' ≡ batch) → IsMirrorAhead g s m batch'
      answered_ahead (Ok x) done more same stays = subst (λ cs. IsMirrorAhead g s m cs) (sym more.3) (still_ahead fits more.0 more.1 more.2 done)
      answered_ahead (Err e) done more same stays = subst (λ cs. IsMirrorAhead g s m cs) (sym stays) (ahead_same g s l m batch same h)

      answered : (q : Result (Unit {0}) SpaceFault) → IfErr q (λ fault. fault ≡ Unchanged) → OnOk q ((w : BatchChange) × (w.change ≡ change) × (w.notify.items ≡ told) × (batch' ≡ batch ++ w ∷ []))
          → OnErr q (batch' ≡ batch) → k' ≡ refusals_after k q → Changing g old (after batch') q (changed change told)
      answered (Ok x) fault more stays counted =
          subst (λ cs. Changing {T = Unit {0}} g old (after cs) (Ok x) (changed change told)) (sym more.3) (waits fits more.0 more.1 more.2 counted)
      answered (Err Unchanged) fault more stays counted =
          subst (λ cs. Changing {T = Unit {0}} g old (after cs) (Err Unchanged) (changed change told)) (sym stays) (left counted)
      answered (Err Broken) fault more stays counted = absurd (let e = fault in cc)

  -- A mirror that runs out of memory for a change is full.
  full_or_same : (s : S) (l m : MemorySpace) (p q : MirrorState) (batch batch' : List BatchChange) (r : Result (Unit {0}) SpaceFault) → MirrorAgrees g s (Some l) p batch → OnOk r (q ≡ p) → OnErr r (q ≡ Full)
      → IsMirrorAhead g s m batch' → MirrorAgrees g s (Some m) q batch'
  full_or_same s l m p q batch batch' (Ok x) h same full now = agrees_as g s (Some m) (Some m) q p batch' refl same (agrees_ahead g s s l m p batch batch' h now)
  full_or_same s l m p q batch batch' (Err e) h same full now = agrees_as g s (Some m) (Some m) q Full batch' refl full now

  pub list_ahead : (s : S) (l m : MemorySpace) (p q : MirrorState) (batch batch' : List BatchChange) (k : ℕ) (change : Change) (told : List ℕ) (r : Result (Unit {0}) SpaceFault) → MirrorAgrees g s (Some l) p batch
      → (IsSoundIn g (mirrored_model s (Some batch) k) → (a : Airspace) → holds_in g (mirrored_model s (Some batch) k) a → Fits change told a)
      → OnOk r (content_of m ≡ changed change told (content_of l)) → OnOk r ((w : BatchChange) × (w.change ≡ change) × (w.notify.items ≡ told) × (batch' ≡ batch ++ w ∷ []))
      → OnErr r (content_of m ≡ content_of l) → OnErr r (batch' ≡ batch) → OnOk r (q ≡ p) → OnErr r (q ≡ Full) → MirrorAgrees g s (Some m) q batch'
  list_ahead s l m p q batch batch' k change told r h fits done more same stays kept full =
      full_or_same s l m p q batch batch' r h kept full (answered_ahead s l m batch k k change told (ahead g s l p batch h) batch' r fits r done more same stays)

  pub list_changes : (s : S) (l m : MemorySpace) (p : MirrorState) (batch batch' : List BatchChange) (k k' : ℕ) (change : Change) (told : List ℕ) (r r' : Result (Unit {0}) SpaceFault) → MirrorAgrees g s (Some l) p batch
      → (IsSoundIn g (mirrored_model s (Some batch) k) → (a : Airspace) → holds_in g (mirrored_model s (Some batch) k) a → Fits change told a)
      → IfErr r (λ fault. fault ≡ Unchanged) → OnOk r ((w : BatchChange) × (w.change ≡ change) × (w.notify.items ≡ told) × (batch' ≡ batch ++ w ∷ []))
      → OnErr r (batch' ≡ batch) → r' ≡ r → k' ≡ refusals_after k r
      → Changing g (mirrored_model s (Some batch) k) (mirrored_model s (Some batch') k') r' (changed change told)
  list_changes s l m p batch batch' k k' change told r r' h fits fault more stays is counted =
      subst (λ q. Changing {T = Unit {0}} g (mirrored_model s (Some batch) k) (mirrored_model s (Some batch') k') q (changed change told)) (sym is)
      (answered s l m batch k k' change told (ahead g s l p batch h) batch' r fits r fault more stays counted)

  -- ---- a change that the store applies at once

  module _ (s t : S) (k k' : ℕ) (change : Airspace → Airspace) where
    abbrev At : S → ℕ → MirroredModel S
    At x n = mirrored_model x None n

    made : (r : Result (Unit {0}) SpaceFault) → OnOk r ((a : Airspace) → g.holds s a → IsContent g.holds t (change a)) → OnOk r ((b : Airspace) → holds_in g (At s k) b → IsContent (holds_in g) (At t k') (change b))
    made (Ok x) done = λ b seen.
        let it = done seen.0 seen.1 in
        record { held = (change seen.0, it.held, ap change seen.2); only = λ c now. now.2 ∙ (it.only now.0 now.1 ∙ ap change (sym seen.2)) }
    made (Err e) done = tt

    alone : (r : Result (Unit {0}) SpaceFault) → ReportsFault (g.refusals s) (g.refusals t) (g.is_broken s) (g.is_broken t) r
        → Changes g.holds g.is_sound g.is_whole (g.is_broken s) s t r change → k' ≡ refusals_after k r → Changing g (At s k) (At t k') r change
    alone r tells c counted = record {
      fixed = refl;
      tells = record { counted = counted; breaks = tells.breaks; stays_broken = tells.stays_broken };
      changes = record {
        sound = λ sound. record { store = c.sound sound.store; fits = λ a held. tt; live = λ waits. absurd (let e = waits in cc) };
        whole = λ sound whole. c.whole sound.store whole;
        done = λ sound. made r (c.done sound.store);
        refused = λ sound is b. ((λ seen. (seen.0, (c.refused sound.store is seen.0).0 seen.1, seen.2)), (λ seen. (seen.0, (c.refused sound.store is seen.0).1 seen.1, seen.2)));
        broken = λ sound is b seen. elim (c.broken sound.store is seen.0 seen.1) [
          | inl before ↦ inl (seen.0, before, seen.2)
          | inr after ↦ inr (λ d now. seen.2 ∙ (after now.0 now.1 ∙ ap change (sym now.2)))
        ];
        frozen = λ sound set b seen. (seen.0, c.frozen sound.store set seen.0 seen.1, seen.2);
      };
    }

  pub store_changes : (s t : S) (k k' : ℕ) (change : Airspace → Airspace) (r r' : Result (Unit {0}) SpaceFault)
      → ReportsFault (g.refusals s) (g.refusals t) (g.is_broken s) (g.is_broken t) r → Changes g.holds g.is_sound g.is_whole (g.is_broken s) s t r change
      → r' ≡ r → k' ≡ refusals_after k r → Changing g (mirrored_model s None k) (mirrored_model t None k') r' change
  store_changes s t k k' change r r' tells c is counted =
      subst (λ q. Changing {T = Unit {0}} g (mirrored_model s None k) (mirrored_model t None k') q change) (sym is) (alone s t k k' change r tells c counted)

  -- After the change, the store still holds one airspace.
  pub one_changed : (s t : S) (change : Airspace → Airspace) (r : Result (Unit {0}) SpaceFault) → ReportsFault (g.refusals s) (g.refusals t) (g.is_broken s) (g.is_broken t) r
      → Changes g.holds g.is_sound g.is_whole (g.is_broken s) s t r change → HoldsOne g s → HoldsOne g t
  one_changed s t change (Ok x) tells c one = λ works sound.
      let it = one (sym tells.breaks ∙ works) (c.sound sound) in
      (change it.0, c.done sound it.0 it.1.held)
  one_changed s t change (Err Unchanged) tells c one = λ works sound.
      let it = one (sym tells.breaks ∙ works) (c.sound sound) in
      (it.0, record { held = (c.refused sound refl it.0).0 it.1.held; only = λ b now. it.1.only b ((c.refused sound refl b).1 now) })
  one_changed s t change (Err Broken) tells c one = λ works. absurd (let e : true ≡ false = sym tells.breaks ∙ works in cc)

  -- A dropped mirror is due to be rebuilt after a change.
  noted : (s t : S) (p : MirrorState) (batch : List BatchChange) (r : Result (Unit {0}) SpaceFault) → (HoldsOne g s → HoldsOne g t) → MirrorAgrees g s None p batch → MirrorAgrees g t None (state_after_change r p) batch
  noted s t Steady batch r one h = h
  noted s t Full batch r one h = h
  noted s t Dropped batch (Ok x) one h = record { no_mirror = refl; none_pending = h.none_pending; one = one h.one }
  noted s t Dropped batch (Err e) one h = record { no_mirror = refl; none_pending = h.none_pending; one = one h.one }
  noted s t RebuildDue batch r one h = record { no_mirror = refl; none_pending = h.none_pending; one = one h.one }

  pub alone_agrees : (s t : S) (p q : MirrorState) (batch : List BatchChange) (change : Airspace → Airspace) (r : Result (Unit {0}) SpaceFault) → MirrorAgrees g s None p batch
      → ReportsFault (g.refusals s) (g.refusals t) (g.is_broken s) (g.is_broken t) r → Changes g.holds g.is_sound g.is_whole (g.is_broken s) s t r change → q ≡ state_after_change r p
      → MirrorAgrees g t None q batch
  alone_agrees s t p q batch change r h tells c is = agrees_as g t None None q (state_after_change r p) batch refl is (noted s t p batch r (one_changed s t change r tells c) h)

  -- A change that the store applies at once fits what it holds.
  pub alone_fits : (s : S) (k : ℕ) (change : Change) (told : List ℕ)
      → (IsSoundIn g (mirrored_model s None k) → (a : Airspace) → holds_in g (mirrored_model s None k) a → Fits change told a) → g.is_sound s → (a : Airspace) → g.holds s a → Fits change told a
  alone_fits s k change told fits sound a held =
      fits (record { store = sound; fits = λ b h. tt; live = λ waits. absurd (let e = waits in cc) }) a (a, held, refl)
