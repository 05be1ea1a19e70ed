-- The results and effects of the calls of a space with quotas.
use Rattle.std.proofs.Common.{inl, inr, ap, subst, ◌∙◌, arith}
use Rattle.std.specs.Prelude.{◌≡◌, ◌+◌, ℕ, Bool, true, List, Result, Ok, Err, OnOk, min, refl}
use Rattle.entity_core.specs.Airspace.{Airspace}
use Rattle.space_core.specs.declared.space.Change.{Change}
use Rattle.space_core.specs.declared.space.Space.{Ghosts}
use Rattle.space_core.specs.declared.space.SpaceFault.{SpaceFault}
use Rattle.space_core.specs.declared.space.SpaceFault.TheVariants.{Unchanged, Broken}
use Rattle.space_core.specs.Space.{Changes, Fits, IsContent, Reads, ReportsFault, changed, max_count, refusals_after}
use Rattle.space_quota.specs.QuotaSpace.{Applying, QuotaModel, IsPut, quota_model, refusals_in}

-- Adding one to the inner count or to the total gives the same total.
more_inside : (n k : ℕ) → min (min (n + 1) max_count + k) max_count ≡ min (min (n + k) max_count + 1) max_count
more_inside n k = omega arith

pub more_over : (n k : ℕ) → min (n + min (k + 1) max_count) max_count ≡ min (min (n + k) max_count + 1) max_count
more_over n k = omega arith

module _ {S : Type 0} (g : Ghosts S) where
  -- An `Unchanged` result that the inner space counts is counted in the total.
  pub counted_inside : {T : Type 0} (s t : S) (k : ℕ) (b c : Bool) (r : Result T SpaceFault) → g.refusals t ≡ refusals_after (g.refusals s) r
      → refusals_in g (quota_model t k c) ≡ refusals_after (refusals_in g (quota_model s k b)) r
  counted_inside s t k b c (Ok x) h = ap (λ n. min (n + k) max_count) h
  counted_inside s t k b c (Err Unchanged) h = ap (λ n. min (n + k) max_count) h ∙ more_inside (g.refusals s) k
  counted_inside s t k b c (Err Broken) h = ap (λ n. min (n + k) max_count) h

  pub tells_inside : {T : Type 0} (s t : S) (k : ℕ) (b c : Bool) (r : Result T SpaceFault) → ReportsFault (g.refusals s) (g.refusals t) (g.is_broken s) (g.is_broken t) r
      → ReportsFault (refusals_in g (quota_model s k b)) (refusals_in g (quota_model t k c)) (g.is_broken s) (g.is_broken t) r
  tells_inside s t k b c r h = record { counted = counted_inside s t k b c r h.counted; breaks = h.breaks; stays_broken = h.stays_broken }

  abbrev Holds : QuotaModel S → Airspace → Type 0
  Holds s a = g.holds s.space a

  abbrev IsSound : QuotaModel S → Type 0
  IsSound s = g.is_sound s.space

  abbrev IsWhole : QuotaModel S → Type 0
  IsWhole s = g.is_whole s.space

  module _ (k : ℕ) (b : Bool) (change : Change) (told : List ℕ) where
    abbrev At : S → QuotaModel S
    At x = quota_model x k b

    abbrev Makes : QuotaModel S → QuotaModel S → Result (Unit {0}) SpaceFault → Type 0
    Makes old new r = Applying {T = Unit {0}} g old new change told r

    made : (s t : S) (r : Result (Unit {0}) SpaceFault) → OnOk r ((a : Airspace) → g.holds s a → IsContent g.holds t (changed change told a))
        → OnOk r ((a : Airspace) → Holds (At s) a → IsContent Holds (At t) (changed change told a))
    made s t (Ok x) done = λ a held. record { held = (done a held).held; only = (done a held).only }
    made s t (Err e) done = tt

    -- A change that the inner space applies at once has the results and effects of a change with
    -- quotas.
    pub asked : (s t : S) (r : Result (Unit {0}) SpaceFault) → g.fixed t ≡ g.fixed s → ReportsFault (g.refusals s) (g.refusals t) (g.is_broken s) (g.is_broken t) r
        → Changes g.holds g.is_sound g.is_whole (g.is_broken s) s t r (changed change told) → Makes (At s) (At t) r
    asked s t r fixed tells c = record {
      fixed = fixed;
      tells = tells_inside s t k b b r tells;
      changes = record {
        sound = λ sound. c.sound sound;
        whole = λ sound whole. c.whole sound whole;
        done = λ sound. made s t r (c.done sound);
        refused = λ sound is. c.refused sound is;
        broken = λ sound is. c.broken sound is;
        frozen = λ sound set. c.frozen sound set;
      };
      unbounded = λ e. refl;
      puts = λ e. refl;
    }

    -- The same holds if reading the replaced item fails and the change is not applied.
    pub unread : {X : Type 0} (s m : S) (e : SpaceFault) → g.fixed m ≡ g.fixed s → ReportsFault {T = X} (g.refusals s) (g.refusals m) (g.is_broken s) (g.is_broken m) (Err e)
        → Reads {T = X} g.holds g.is_sound g.is_whole s m (Err e) (λ _ _. Unit {0}) → Makes (At s) (At m) (Err e)
    unread s m Unchanged fixed tells reads = record {
      fixed = fixed;
      tells = tells_inside {T = Unit {0}} s m k b b (Err Unchanged) (record { counted = tells.counted; breaks = tells.breaks; stays_broken = λ e. absurd (let f = tells.stays_broken e in cc) });
      changes = record {
        sound = λ sound. reads.sound sound;
        whole = λ sound whole. reads.whole sound whole;
        done = λ sound. tt;
        refused = λ sound is a. (reads.stays sound a, reads.no_other sound a);
        broken = λ sound is. absurd (let e = is in cc);
        frozen = λ sound set a held. reads.no_other sound a held;
      };
      unbounded = λ e. refl;
      puts = λ e. refl;
    }
    unread s m Broken fixed tells reads = record {
      fixed = fixed;
      tells = tells_inside {T = Unit {0}} s m k b b (Err Broken) (record { counted = tells.counted; breaks = tells.breaks; stays_broken = λ e. refl });
      changes = record {
        sound = λ sound. reads.sound sound;
        whole = λ sound whole. reads.whole sound whole;
        done = λ sound. tt;
        refused = λ sound is. absurd (let e = is in cc);
        broken = λ sound is a held. inl (reads.no_other sound a held);
        frozen = λ sound set a held. reads.no_other sound a held;
      };
      unbounded = λ e. refl;
      puts = λ e. refl;
    }

    module _ {X : Type 0} (x : X) (s m : S) (same : g.fixed m ≡ g.fixed s) (told_so : ReportsFault {T = X} (g.refusals s) (g.refusals m) (g.is_broken s) (g.is_broken m) (Ok x))
        (reads : Reads {T = X} g.holds g.is_sound g.is_whole s m (Ok x) (λ _ _. Unit {0})) where
      -- The same holds if the replaced item was read and the put would exceed the quota.
      pub refused_over : b ≡ true → IsPut change → Makes (At s) (quota_model m (min (k + 1) max_count) b) (Err Unchanged)
      refused_over is_bounded is_put = record {
        fixed = same;
        tells = record {
          counted = ap (λ n. min (n + min (k + 1) max_count) max_count) told_so.counted ∙ more_over (g.refusals s) k;
          breaks = told_so.breaks;
          stays_broken = λ e. absurd (let f = told_so.stays_broken e in cc);
        };
        changes = record {
          sound = λ sound. reads.sound sound;
          whole = λ sound whole. reads.whole sound whole;
          done = λ sound. tt;
          refused = λ sound is a. (reads.stays sound a, reads.no_other sound a);
          broken = λ sound is. absurd (let e = is in cc);
          frozen = λ sound set a held. reads.no_other sound a held;
        };
        unbounded = λ e. absurd (let f = is_bounded in cc);
        puts = λ not. absurd (not is_put);
      }

      -- The same holds if the replaced item was read and the inner space applies the change.
      pub fits_read : (g.is_sound s → (a : Airspace) → g.holds s a → Fits change told a) → g.is_sound m → (a : Airspace) → g.holds m a → Fits change told a
      fits_read fits sound a held = fits (reads.sound sound) a (reads.no_other sound a held)

      done_read : (t : S) (r : Result (Unit {0}) SpaceFault) → g.is_sound m → OnOk r ((a : Airspace) → g.holds m a → IsContent g.holds t (changed change told a))
          → OnOk r ((a : Airspace) → g.holds s a → IsContent g.holds t (changed change told a))
      done_read t (Ok y) sound done = λ a held. done a (reads.stays sound a held)
      done_read t (Err e) sound done = tt

      pub asked_read : (t : S) (r : Result (Unit {0}) SpaceFault) → g.fixed t ≡ g.fixed m → ReportsFault (g.refusals m) (g.refusals t) (g.is_broken m) (g.is_broken t) r
          → Changes g.holds g.is_sound g.is_whole (g.is_broken m) m t r (changed change told) → Makes (At s) (At t) r
      asked_read t r fixed tells c =
          asked s t r (fixed ∙ same)
          (subst (λ n. ReportsFault n (g.refusals t) (g.is_broken s) (g.is_broken t) r) told_so.counted (subst (λ w. ReportsFault (g.refusals m) (g.refusals t) w (g.is_broken t) r) told_so.breaks tells))
          (record {
            sound = λ sound. reads.sound (c.sound sound);
            whole = λ sound whole. c.whole sound (reads.whole (c.sound sound) whole);
            done = λ sound. done_read t r (c.sound sound) (c.done sound);
            refused = λ sound is a. ((λ held. (c.refused sound is a).0 (reads.stays (c.sound sound) a held)), (λ held. reads.no_other (c.sound sound) a ((c.refused sound is a).1 held)));
            broken = λ sound is a held. elim (c.broken sound is a held) [
              | inl before ↦ inl (reads.no_other (c.sound sound) a before)
              | inr after ↦ inr (λ d was. after d (reads.stays (c.sound sound) d was))
            ];
            frozen = λ sound set a held. reads.no_other (c.sound sound) a (c.frozen sound (told_so.breaks ∙ set) a held);
          })
