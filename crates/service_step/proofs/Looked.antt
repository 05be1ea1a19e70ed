-- Lemmas about successive lookups in a space.
use Rattle.std.specs.Prelude.{◌≡◌, ℕ, Bool, Result, Ok, Err, refl}
use Rattle.std.proofs.Common.{◌∙◌, subst}
use Rattle.entity_core.specs.Airspace.{Airspace}
use Rattle.space_core.specs.declared.space.Space.{Ghosts}
use Rattle.space_core.specs.declared.space.SpaceFault.TheVariants.{Unchanged, Broken}
use Rattle.service_step.specs.declared.call_fault.CallFault.{CallFault}
use Rattle.service_step.specs.declared.call_fault.CallFault.TheVariants.{NoMemory, Space}
use Rattle.service_step.specs.Looks.{LooksUp, UnlessBroke, ReportedBy}

pub unless_then : (h : CallFault) (P Q : Type 0) → (P → Q) → UnlessBroke h P → UnlessBroke h Q
unless_then NoMemory P Q f p = f p
unless_then (Space Unchanged) P Q f p = f p
unless_then (Space Broken) P Q f p = p

-- A report about the second of two lookups is also a report about both.
told_since : (h : CallFault) (n n' n'' : ℕ) (b b' b'' : Bool) → n' ≡ n → b' ≡ b → ReportedBy h n' n'' b' b'' → ReportedBy h n n'' b b''
told_since h n n' n'' b b' b'' en eb told = subst (λ (m : ℕ). ReportedBy h m n'' b b'') en (subst (λ (c : Bool). ReportedBy h n' n'' c b'') eb told)

module _ {S : Type 0} (g : Ghosts S) where
  pub looks_then : {X Y Z : Type 0} (old mid new : S) (x : X) (y : Y) (z : Z) (P : Airspace → X → Type 0) (Q : Airspace → Y → Type 0) (R : Airspace → Z → Type 0)
      → LooksUp g old mid (Ok x) P → LooksUp g mid new (Ok y) Q → ((a : Airspace) → P a x → Q a y → R a z)
      → LooksUp g old new (Ok z) R
  looks_then old mid new x y z P Q R p q f = record {
    fixed = q.fixed ∙ p.fixed;
    sound = λ s. p.sound (q.sound s);
    whole = λ s w. q.whole s (p.whole (q.sound s) w);
    stays = λ s a h. q.stays s a (p.stays (q.sound s) a h);
    no_other = λ s a h. p.no_other (q.sound s) a (q.no_other s a h);
    found = λ s a h. f a (p.found (q.sound s) a h) (q.found s a (p.stays (q.sound s) a h));
    told = (q.told.0 ∙ p.told.0, q.told.1 ∙ p.told.1);
  }

  pub looks_then_err : {X Y Z : Type 0} (old mid new : S) (x : X) (h : CallFault) (P : Airspace → X → Type 0) (Q : Airspace → Y → Type 0) (R : Airspace → Z → Type 0)
      → LooksUp g old mid (Ok x) P → LooksUp g mid new (Err h) Q
      → LooksUp g old new (Err h) R
  looks_then_err old mid new x h P Q R p q = record {
    fixed = q.fixed ∙ p.fixed;
    sound = λ s. p.sound (q.sound s);
    whole = λ s w. q.whole s (p.whole (q.sound s) w);
    stays = λ s. unless_then h ((a : Airspace) → g.holds mid a → g.holds new a) ((a : Airspace) → g.holds old a → g.holds new a) (λ f a k. f a (p.stays (q.sound s) a k)) (q.stays s);
    no_other = λ s a k. p.no_other (q.sound s) a (q.no_other s a k);
    found = λ _. tt;
    told = told_since h (g.refusals old) (g.refusals mid) (g.refusals new) (g.is_broken old) (g.is_broken mid) (g.is_broken new) p.told.0 p.told.1 q.told;
  }

  -- A successful lookup also holds for another value with a weaker predicate.
  pub looks_as : {X Z : Type 0} (old new : S) (x : X) (z : Z) (P : Airspace → X → Type 0) (R : Airspace → Z → Type 0)
      → LooksUp g old new (Ok x) P → ((a : Airspace) → P a x → R a z) → LooksUp g old new (Ok z) R
  looks_as old new x z P R p f = record {
    fixed = p.fixed;
    sound = p.sound;
    whole = p.whole;
    stays = p.stays;
    no_other = p.no_other;
    found = λ s a h. f a (p.found s a h);
    told = p.told;
  }

  -- A lookup followed by an allocation failure is a lookup that ran out of memory.
  pub looks_memory : {X Z : Type 0} (old new : S) (x : X) (P : Airspace → X → Type 0) (R : Airspace → Z → Type 0)
      → LooksUp g old new (Ok x) P → LooksUp g old new (Err NoMemory) R
  looks_memory old new x P R p = record {
    fixed = p.fixed;
    sound = p.sound;
    whole = p.whole;
    stays = p.stays;
    no_other = p.no_other;
    found = λ _. tt;
    told = p.told.1;
  }

  -- Doing nothing is a lookup that leaves the space unchanged.
  pub looks_none : {Z : Type 0} (old : S) (z : Z) (R : Airspace → Z → Type 0) → ((a : Airspace) → R a z) → LooksUp g old old (Ok z) R
  looks_none old z R f = record {
    fixed = refl;
    sound = λ s. s;
    whole = λ s w. w;
    stays = λ s a h. h;
    no_other = λ s a h. h;
    found = λ s a h. f a;
    told = (refl, refl);
  }

  -- Two lookups in sequence are one lookup, whatever the second one returns.
  pub looks_after : {X Y : Type 0} (old mid new : S) (x : X) (r : Result Y CallFault) (P : Airspace → X → Type 0) (Q R : Airspace → Y → Type 0)
      → LooksUp g old mid (Ok x) P → LooksUp g mid new r Q → ((a : Airspace) (y : Y) → P a x → Q a y → R a y)
      → LooksUp g old new r R
  looks_after old mid new x (Ok y) P Q R p q f = looks_then old mid new x y y P Q R p q (λ a h k. f a y h k)
  looks_after old mid new x (Err h) P Q R p q f = looks_then_err old mid new x h P Q R p q

  -- A lookup with a predicate is also a lookup with any weaker predicate.
  pub looks_map : {X : Type 0} (old new : S) (r : Result X CallFault) (P R : Airspace → X → Type 0)
      → LooksUp g old new r P → ((a : Airspace) (x : X) → P a x → R a x) → LooksUp g old new r R
  looks_map old new (Ok x) P R p f = looks_as old new x x P R p (λ a h. f a x h)
  looks_map old new (Err h) P R p f = record { fixed = p.fixed; sound = p.sound; whole = p.whole; stays = p.stays; no_other = p.no_other; found = λ _. tt; told = p.told }

  -- An allocation failure before any lookup leaves the space unchanged.
  pub looks_refused : {Z : Type 0} (old : S) (R : Airspace → Z → Type 0) → LooksUp g old old (Err NoMemory) R
  looks_refused old R = record {
    fixed = refl;
    sound = λ s. s;
    whole = λ s w. w;
    stays = λ s a h. h;
    no_other = λ s a h. h;
    found = λ _. tt;
    told = refl;
  }
