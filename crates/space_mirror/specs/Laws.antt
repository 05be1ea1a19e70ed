-- The laws of a mirrored space. Its visible airspace is valid. Calls do not change the durable
-- airspace while changes are pending. Without pending changes the space is as its store. All of it
-- is proved. It is in `specs/` because a law of an `impl` can cite only `specs/`.
use Rattle.std.specs.Prelude.{◌≡◌, ◌||◌, Bool, true, false, List, [], ◌∷◌, Option, Some, None, ◌↔◌, refl}
use Rattle.std.specs.Coded.{Coded, coded_option}
use Rattle.std.proofs.Common.{sym, ap, subst, ◌∙◌}
use Rattle.std.proofs.lemmas.Option.{same_Some}
use Rattle.std.proofs.Math.Logic.{∥∥₁_map}
use Rattle.entity_core.specs.Airspace.{Airspace, IsAirspace}
use Rattle.space_core.specs.declared.batch.BatchChange.{BatchChange}
use Rattle.space_core.specs.declared.space.Space.{Ghosts}
use Rattle.space_core.specs.Batch.{FitAll, changed_all, changed_once}
use Rattle.space_core.specs.Space.{IsContent}
use Rattle.space_memory.proofs.MemorySpaces.{can_follow, proper_changed}
use Rattle.space_mirror.specs.Mirrored.{MirroredModel, IsSoundIn, fixed_by, fixed_in, holds_in, pending, some_pending, is_pending_in}

pub proper_all : (batch : List BatchChange) (a : Airspace) → FitAll batch a → IsAirspace a
    → IsAirspace (changed_all batch a)
proper_all [] a fits proper = proper
proper_all (c ∷ cs) a fits proper =
    proper_all cs (changed_once c a) fits.1
    (proper_changed c.change c.notify.items a (can_follow c.change c.notify.items a fits.0) proper)

-- The visible airspace, given what the store holds.
module _ (Held : Airspace → Type 0) (batch : List BatchChange) where
  abbrev Seen : Airspace → Type 0
  Seen b = (a : Airspace) × Held a × (b ≡ changed_all batch a)

  pub visible_unique : ((a b : Airspace) → Held a → Held b → a ≡ b) → (a b : Airspace) → Seen a → Seen b
      → a ≡ b
  visible_unique one a b h k = h.2 ∙ ap (changed_all batch) (one h.0 k.0 h.1 k.1) ∙ sym k.2

  pub visible_exists : ∥ ((a : Airspace) × Held a) ∥₁ → ∥ ((b : Airspace) × Seen b) ∥₁
  visible_exists there = ∥∥₁_map there (λ it. (changed_all batch it.0, (it.0, it.1, refl)))

  pub visible_valid : (b : Airspace) → ((a : Airspace) → Held a → FitAll batch a)
      → ((a : Airspace) → Held a → IsAirspace a) → Seen b → IsAirspace b
  visible_valid b fits proper h =
      subst IsAirspace (sym h.2) (proper_all batch h.0 (fits h.0 h.1) (proper h.0 h.1))

-- ---- while changes are pending, calls do not change the store

same_store_by : {S : Type 0} (x y : S) (p q : Option (List BatchChange))
    → fixed_by y q ≡ fixed_by x p → (some_pending (pending p) || some_pending (pending q)) ≡ true
    → y ≡ x
same_store_by x y None None same waits = absurd (let e = waits in cc)
same_store_by x y None (Some q) same waits = absurd (let e = same in cc)
same_store_by x y (Some p) None same waits = absurd (let e = same in cc)
same_store_by x y (Some p) (Some q) same waits = same_Some y x same

pub same_store : {S : Type 0} (c : Coded S) (s t : MirroredModel S) → fixed_in c t ≡ fixed_in c s
    → (is_pending_in s || is_pending_in t) ≡ true → t.store ≡ s.store
same_store c s t same waits =
    same_store_by s.store t.store s.ahead t.ahead
    ((coded_option c).inj (fixed_by t.store t.ahead) (fixed_by s.store s.ahead) same) waits

none_wait : (ahead : Option (List BatchChange)) → some_pending (pending ahead) ≡ false
    → pending ahead ≡ []
none_wait None calm = refl
none_wait (Some []) calm = refl
none_wait (Some (c ∷ cs)) calm = absurd (let e = calm in cc)

module _ {S : Type 0} (Held : S → Airspace → Type 0) where
  pub durable_while_pending : (c : Coded S) (s t : MirroredModel S) (a : Airspace)
      → fixed_in c t ≡ fixed_in c s → (is_pending_in s || is_pending_in t) ≡ true
      → Held s.store a ↔ Held t.store a
  durable_while_pending c s t a same waits =
      let store = same_store c s t same waits in
      ((λ held. subst (λ x. Held x a) (sym store) held), (λ held. subst (λ x. Held x a) store held))

  -- If no change is pending, the visible airspace is durable.
  pub visible_is_durable : (k : MirroredModel S) (a : Airspace) → is_pending_in k ≡ false
      → Seen (Held k.store) (pending k.ahead) a ↔ Held k.store a
  visible_is_durable k a calm =
      let none = none_wait k.ahead calm in (
        (λ seen. subst (λ b. Held k.store b)
            (sym (seen.2 ∙ ap (λ cs. changed_all cs seen.0) none)) seen.1),
        (λ held. (a, held, ap (λ cs. changed_all cs a) (sym none))),
      )

pub works_while_pending : {S : Type 0} (is_broken : S → Bool) (c : Coded S) (s t : MirroredModel S)
    → fixed_in c t ≡ fixed_in c s → (is_pending_in s || is_pending_in t) ≡ true
    → is_broken t.store ≡ is_broken s.store
works_while_pending is_broken c s t same waits = ap is_broken (same_store c s t same waits)

-- ---- without pending changes

module _ {S : Type 0} (g : Ghosts S) where
  -- A mirrored space is sound if its store is.
  pub sound_as_its_store : (k : MirroredModel S) → is_pending_in k ≡ false → g.is_sound k.store → IsSoundIn g k
  sound_as_its_store k calm sound = record {
    store = sound;
    fits = λ a held. subst (λ cs. FitAll cs a) (sym (none_wait k.ahead calm)) tt;
    live = λ waits. absurd (let e : true ≡ false = sym waits ∙ calm in cc);
  }

  -- A mirrored space holds what its store holds, and nothing else.
  pub content_of_its_store : (k : MirroredModel S) (a : Airspace) → is_pending_in k ≡ false
      → IsContent g.holds k.store a → IsContent (holds_in g) k a
  content_of_its_store k a calm content = record {
    held = (visible_is_durable g.holds k a calm).1 content.held;
    only = λ b seen. content.only b ((visible_is_durable g.holds k b calm).0 seen);
  }
