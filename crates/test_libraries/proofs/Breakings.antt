-- What the calls of a space that breaks return and leave.
use Rattle.std.proofs.Common.{◌≡◌, ◌||◌, Bool, true, false, Result, Ok, Err, refl, sym, ap, subst, inl}
use Rattle.std.specs.Prelude.{OnOk}
use Rattle.entity_core.specs.Airspace.{Airspace}
use Rattle.space_core.specs.declared.space.Space.{Ghosts}
use Rattle.space_core.specs.declared.space.SpaceFault.{SpaceFault}
use Rattle.space_core.specs.declared.space.SpaceFault.TheVariants.{Broken}
use Rattle.space_core.specs.Space.{IsContent, Reads, Changes, ReportsFault}
use Rattle.test_libraries.specs.declared.breaking.Breaking.{Breaking}

module _ {S : Type 0} (g : Ghosts S) where
  abbrev pub Holds : Breaking S → Airspace → Type 0
  Holds s a = g.holds s.space a

  abbrev pub IsSound : Breaking S → Type 0
  IsSound s = g.is_sound s.space

  abbrev pub IsWhole : Breaking S → Type 0
  IsWhole s = g.is_whole s.space

  -- A call at which the space is broken.
  pub tells_broken : {T : Type 0} (s t : S) (b c : Bool) → t ≡ s → c ≡ true
      → ReportsFault {T = T} (g.refusals s) (g.refusals t) (b || g.is_broken s) (c || g.is_broken t) (Err Broken)
  tells_broken s t b c same broke = record {
    counted = ap g.refusals same;
    breaks = ap (λ (x : Bool). x || g.is_broken t) broke;
    stays_broken = λ e. refl;
  }

  pub reads_broken : {T : Type 0} (old new : Breaking S) (P : Airspace → T → Type 0) → new.space ≡ old.space
      → Reads Holds IsSound IsWhole old new (Err Broken) P
  reads_broken old new P same = record {
    sound = λ k. subst g.is_sound same k;
    whole = λ k w. subst g.is_whole (sym same) w;
    stays = λ k. tt;
    no_other = λ k a h. subst (λ (s : S). g.holds s a) same h;
    answer = λ k. tt;
  }

  pub changes_broken : {T : Type 0} (old new : Breaking S) (was : Bool) (change : Airspace → Airspace) → new.space ≡ old.space
      → Changes {T = T} Holds IsSound IsWhole was old new (Err Broken) change
  changes_broken old new was change same = record {
    sound = λ k. subst g.is_sound same k;
    whole = λ k w. subst g.is_whole (sym same) w;
    done = λ k. tt;
    refused = λ k no. absurd (let e = no in cc);
    broken = λ k e b h. inl (subst (λ (s : S). g.holds s b) same h);
    frozen = λ k e b h. subst (λ (s : S). g.holds s b) same h;
  }

  -- A call that is passed on to the inner space.
  pub tells_inside : {T : Type 0} (s m t : S) (b c : Bool) (r : Result T SpaceFault) → m ≡ s → b ≡ false → c ≡ false
      → ReportsFault (g.refusals m) (g.refusals t) (g.is_broken m) (g.is_broken t) r
      → ReportsFault (g.refusals s) (g.refusals t) (b || g.is_broken s) (c || g.is_broken t) r
  tells_inside s m t true c r same was goes h = absurd (let e = was in cc)
  tells_inside s m t false true r same was goes h = absurd (let e = goes in cc)
  tells_inside s m t false false r same was goes h =
      subst (λ (x : S). ReportsFault (g.refusals x) (g.refusals t) (g.is_broken x) (g.is_broken t) r) same h

  pub reads_inside : {T : Type 0} (old new : Breaking S) (m : S) (r : Result T SpaceFault) (P : Airspace → T → Type 0)
      → m ≡ old.space → Reads g.holds g.is_sound g.is_whole m new.space r P
      → Reads Holds IsSound IsWhole old new r P
  reads_inside old new m r P same k =
      let h : Reads g.holds g.is_sound g.is_whole old.space new.space r P = subst (λ (s : S). Reads g.holds g.is_sound g.is_whole s new.space r P) same k in
      record { sound = h.sound; whole = h.whole; stays = h.stays; no_other = h.no_other; answer = h.answer }

  done_inside : {T : Type 0} (old new : Breaking S) (r : Result T SpaceFault) (change : Airspace → Airspace)
      → OnOk r ((a : Airspace) → g.holds old.space a → IsContent g.holds new.space (change a))
      → OnOk r ((a : Airspace) → Holds old a → IsContent Holds new (change a))
  done_inside old new (Ok x) change h = λ a held. record { held = (h a held).held; only = (h a held).only }
  done_inside old new (Err e) change h = h

  pub changes_inside : {T : Type 0} (old new : Breaking S) (m : S) (b : Bool) (r : Result T SpaceFault) (change : Airspace → Airspace)
      → m ≡ old.space → b ≡ false → Changes g.holds g.is_sound g.is_whole (g.is_broken m) m new.space r change
      → Changes Holds IsSound IsWhole (b || g.is_broken old.space) old new r change
  changes_inside old new m true r change same was k = absurd (let e = was in cc)
  changes_inside old new m false r change same was k =
      let h : Changes g.holds g.is_sound g.is_whole (g.is_broken old.space) old.space new.space r change =
      subst (λ (s : S). Changes g.holds g.is_sound g.is_whole (g.is_broken s) s new.space r change) same k in
      record {
        sound = h.sound;
        whole = h.whole;
        done = λ s. done_inside old new r change (h.done s);
        refused = h.refused;
        broken = h.broken;
        frozen = h.frozen;
      }
