-- The results and effects of purges in a space with quotas.
use Rattle.std.proofs.Common.{inl, ap, ◌∙◌}
use Rattle.std.specs.Prelude.{◌≡◌, ◌+◌, ℕ, Bool, List, Result, Ok, Err, OnOk, min, refl}
use Rattle.entity_core.specs.Airspace.{Airspace}
use Rattle.entity_purge.specs.PurgeItem.{without_items}
use Rattle.entity_purge.specs.declared.purge_item.PurgeItem.{PurgeItem}
use Rattle.space_core.specs.declared.space.Space.{Ghosts}
use Rattle.space_core.specs.declared.space.SpaceFault.{SpaceFault}
use Rattle.space_core.specs.declared.space.SpaceFault.TheVariants.{Unchanged, Broken}
use Rattle.space_core.specs.Space.{Changes, IsContent, Reads, ReportsFault, max_count}
use Rattle.space_quota.specs.QuotaSpace.{QuotaModel, QuotaPurgeEffect, quota_model}
use Rattle.space_quota.proofs.Bounds.{more_over, tells_inside}

module _ {S : Type 0} (g : Ghosts S) (k : ℕ) (b : Bool) (items : List PurgeItem) where
  abbrev Holds : QuotaModel S → Airspace → Type 0
  Holds s a = g.holds s.space a

  abbrev At : S → QuotaModel S
  At x = quota_model x k b

  abbrev Goes : QuotaModel S → QuotaModel S → Result (Unit {0}) SpaceFault → Type 0
  Goes old new r = QuotaPurgeEffect {T = Unit {0}} g old new items r

  left : (s t : S) (r : Result (Unit {0}) SpaceFault) → OnOk r ((a : Airspace) → g.holds s a → IsContent g.holds t (without_items items a))
      → OnOk r ((a : Airspace) → Holds (At s) a → IsContent Holds (At t) (without_items items a))
  left s t (Ok x) done = λ a held. record { held = (done a held).held; only = (done a held).only }
  left s t (Err e) done = tt

  -- A purge that the inner space does has the results and effects of a purge with quotas.
  pub goes_inside : (s t : S) (r : Result (Unit {0}) SpaceFault) → ReportsFault (g.refusals s) (g.refusals t) (g.is_broken s) (g.is_broken t) r
      → Changes g.holds g.is_sound g.is_whole (g.is_broken s) s t r (without_items items) → Goes (At s) (At t) r
  goes_inside s t r tells c = record {
    tells = tells_inside g s t k b b r tells;
    changes = record {
      sound = λ sound. c.sound sound;
      whole = λ sound whole. c.whole sound whole;
      done = λ sound. left s t r (c.done sound);
      refused = λ sound is. c.refused sound is;
      broken = λ sound is. c.broken sound is;
      frozen = λ sound set. c.frozen sound set;
    };
  }

  -- The same holds if the inner space fails to find what has ended and nothing is purged.
  pub stays_untold : {X : Type 0} (s m : S) (P : Airspace → X → Type 0) (e : SpaceFault) → ReportsFault {T = X} (g.refusals s) (g.refusals m) (g.is_broken s) (g.is_broken m) (Err e)
      → Reads {T = X} g.holds g.is_sound g.is_whole s m (Err e) P → Goes (At s) (At m) (Err e)
  stays_untold s m P Unchanged tells reads = record {
    tells = tells_inside g {T = Unit {0}} s m k b b (Err Unchanged) (record { counted = tells.counted; breaks = tells.breaks; stays_broken = λ e. absurd (let f = tells.stays_broken e in cc) });
    changes = record {
      sound = λ sound. reads.sound sound;
      whole = λ sound whole. reads.whole sound whole;
      done = λ sound. tt;
      refused = λ sound is a. (reads.stays sound a, reads.no_other sound a);
      broken = λ sound is. absurd (let e = is in cc);
      frozen = λ sound set a held. reads.no_other sound a held;
    };
  }
  stays_untold s m P Broken tells reads = record {
    tells = tells_inside g {T = Unit {0}} s m k b b (Err Broken) (record { counted = tells.counted; breaks = tells.breaks; stays_broken = λ e. refl });
    changes = record {
      sound = λ sound. reads.sound sound;
      whole = λ sound whole. reads.whole sound whole;
      done = λ sound. tt;
      refused = λ sound is. absurd (let e = is in cc);
      broken = λ sound is a held. inl (reads.no_other sound a held);
      frozen = λ sound set a held. reads.no_other sound a held;
    };
  }

  -- The same holds if the inner space can find what has ended and nothing is purged.
  pub stays_told : {X : Type 0} (s m : S) (P : Airspace → X → Type 0) (x : X) (k' : ℕ) → k' ≡ min (k + 1) max_count → ReportsFault {T = X} (g.refusals s) (g.refusals m) (g.is_broken s) (g.is_broken m) (Ok x)
      → Reads {T = X} g.holds g.is_sound g.is_whole s m (Ok x) P → Goes (At s) (quota_model m k' b) (Err Unchanged)
  stays_told s m P x k' more tells reads = record {
    tells = record {
      counted = ap (λ n. min (n + k') max_count) tells.counted ∙ (ap (λ j. min (g.refusals s + j) max_count) more ∙ more_over (g.refusals s) k);
      breaks = tells.breaks;
      stays_broken = λ e. absurd (let f = tells.stays_broken e in cc);
    };
    changes = record {
      sound = λ sound. reads.sound sound;
      whole = λ sound whole. reads.whole sound whole;
      done = λ sound. tt;
      refused = λ sound is a. (reads.stays sound a, reads.no_other sound a);
      broken = λ sound is. absurd (let e = is in cc);
      frozen = λ sound set a held. reads.no_other sound a held;
    };
  }
