-- Lemmas: a USS gets the same replies over acts from airspaces that are alike to it.
use Rattle.std.proofs.Common.{◌≡◌, ℕ, Bool, true, false, cond, ◌&&◌, ◌||◌, List, [], ◌∷◌, map, Option, Some, refl, sym, ap, ◌∙◌}
use Rattle.std.specs.Prelude.{filter, not}
use Rattle.std.specs.FinMap.{entries, nat_cmp-IsAntisymmetric}
use Rattle.std.specs.List.{list_any}
use Rattle.std.proofs.lemmas.Cmp.{nat_cmp_total}
use Rattle.entity_core.specs.Airspace.{Airspace, Entities}
use Rattle.entity_core.specs.Search.{is_naming}
use Rattle.entity_core.specs.declared.subscription.Sub.{Sub}
use Rattle.entity_core.proofs.Keys.{key_exact, key_total}
use Rattle.entity_purge.specs.Purge.{has_not_ended, is_due_by, is_referenced_in, purged, retained, retained_subs, sub_has_ended}
use Rattle.entity_purge.proofs.Maps.{entries_kept}
use Rattle.policy_core.specs.Blind.{IsLike, is_by, redacted_entry, redacted_sub_entry}
use Rattle.service_step.specs.declared.reply.Reply.{Reply}
use Rattle.service_step.specs.Step.{step}
use Rattle.service_calls.proofs.Blinds.{run_blind}
use Rattle.pool_core.specs.Acts.{Makes, Purges}
use Rattle.pool_core.specs.Blind.{ActsAreBlind, PurgeIsBlind}

-- ---- purges

view_case : {X : Type 0} (view : X → X) (p : X → Bool) (x : X) (xs : List X) (b : Bool) → map view (filter p xs) ≡ filter p (map view xs)
    → map view (cond b (x ∷ filter p xs) (filter p xs)) ≡ cond b (view x ∷ filter p (map view xs)) (filter p (map view xs))
view_case view p x xs true rest = ap (λ v. view x ∷ v) rest
view_case view p x xs false rest = rest

-- A list is filtered after a view as before it, if the test does not see the difference.
filter_view : {X : Type 0} (view : X → X) (p : X → Bool) (xs : List X) → ((x : X) → p (view x) ≡ p x) → map view (filter p xs) ≡ filter p (map view xs)
filter_view view p [] same = refl
filter_view view p (x ∷ xs) same =
    view_case view p x xs (p x) (filter_view view p xs same) ∙ ap (λ b. cond b (view x ∷ filter p (map view xs)) (filter p (map view xs))) (sym (same x))

any_view : {X : Type 0} (view : X → X) (p : X → Bool) (xs : List X) → ((x : X) → p (view x) ≡ p x) → list_any p (map view xs) ≡ list_any p xs
any_view view p [] same = refl
any_view view p (x ∷ xs) same = ap (λ b. b || list_any p (map view xs)) (same x) ∙ ap (λ b. p x || b) (any_view view p xs same)

module _ (m : List ℕ) (until : ℕ) (a b : Airspace) (like : IsLike m a b) where
  entities_side : (x : Airspace) → map (redacted_entry m) (entries (retained until x.entities)) ≡ filter (has_not_ended until) (map (redacted_entry m) (entries x.entities))
  entities_side x =
      ap (λ v. map (redacted_entry m) v) (entries_kept key_total key_exact (has_not_ended until) x.entities)
      ∙ filter_view (redacted_entry m) (has_not_ended until) (entries x.entities) (λ e. refl)

  entities_like : map (redacted_entry m) (entries (retained until a.entities)) ≡ map (redacted_entry m) (entries (retained until b.entities))
  entities_like = entities_side a ∙ ap (λ v. filter (has_not_ended until) v) like.entities ∙ sym (entities_side b)

  -- A subscription is referenced in both airspaces or in none.
  referenced_like : (id : ℕ) → is_referenced_in (retained until a.entities) id ≡ is_referenced_in (retained until b.entities) id
  referenced_like id =
      sym (any_view (redacted_entry m) (is_naming id) (entries (retained until a.entities)) (λ e. refl))
      ∙ ap (λ v. list_any (is_naming id) v) entities_like
      ∙ any_view (redacted_entry m) (is_naming id) (entries (retained until b.entities)) (λ e. refl)

  abbrev stays_by : Entities → ℕ × Sub → Bool
  stays_by es s = not (is_due_by until es s)

  subs_side : (x : Airspace) (es : Entities) → map (redacted_sub_entry m) (entries (retained_subs until es x.subscriptions)) ≡ filter (stays_by es) (map (redacted_sub_entry m) (entries x.subscriptions))
  subs_side x es =
      ap (λ v. map (redacted_sub_entry m) v) (entries_kept nat_cmp_total nat_cmp-IsAntisymmetric (stays_by es) x.subscriptions)
      ∙ filter_view (redacted_sub_entry m) (stays_by es) (entries x.subscriptions) (λ s. refl)

  same_test : stays_by (retained until a.entities) ≡ stays_by (retained until b.entities)
  same_test i s = not (sub_has_ended until s.1 && not (referenced_like s.0 i))

  purge_like : IsLike m (purged until a) (purged until b)
  purge_like = record {
    entities = entities_like;
    subscriptions = subs_side a (retained until a.entities)
        ∙ ap (λ v. filter (stays_by (retained until a.entities)) v) like.subscriptions
        ∙ ap (λ p. filter p (map (redacted_sub_entry m) (entries b.subscriptions))) same_test
        ∙ sym (subs_side b (retained until b.entities));
    availabilities = like.availabilities;
    serial = like.serial;
  }

pub purge_blind : PurgeIsBlind
purge_blind m until a b like = purge_like m until a b like

-- ---- acts

-- The reply to a call, if the USS made the call, and the replies after it.
replies_then : (own : Bool) (r q : Reply) (rs qs : List (Option Reply)) → cond own (r ∷ []) [] ≡ cond own (q ∷ []) [] → rs ≡ qs → cond own (Some r ∷ rs) rs ≡ cond own (Some q ∷ qs) qs
replies_then true r q rs qs first rest = let same : r ≡ q = cc in ap (λ v. Some v ∷ rs) same ∙ ap (λ v. Some q ∷ v) rest
replies_then false r q rs qs first rest = rest

pub acts_blind : ActsAreBlind
acts_blind salt m [] a b like h = (refl, like)
acts_blind salt m (Makes c ∷ xs) a b like h =
    let first = run_blind salt m (c ∷ []) a b like (h.0, tt) in
    let rest = acts_blind salt m xs (step salt a c.0 c.1).0 (step salt b c.0 c.1).0 first.1 h.1 in
    (replies_then (is_by m c.1) (step salt a c.0 c.1).1 (step salt b c.0 c.1).1 _ _ first.0 rest.0, rest.1)
acts_blind salt m (Purges until ∷ xs) a b like h = acts_blind salt m xs (purged until a) (purged until b) (purge_blind m until a b like) h.1
