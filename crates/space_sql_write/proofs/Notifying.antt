-- Lemmas about notifying no subscription, and one more.
use Rattle.std.proofs.Common.{◌≡◌, ◌∙◌, ℕ, List, [], ◌∷◌, map, refl, sym, ap, subst}
use Rattle.std.specs.Prelude.{IsPermutation}
use Rattle.std.specs.Ordering.{nat_cmp}
use Rattle.std.specs.FinMap.{entries}
use Rattle.std.proofs.lemmas.Cmp.{nat_cmp_total}
use Rattle.std.proofs.lemmas.List.Sorted.{IsPermutation-refl}
use Rattle.sqlite.specs.Effect.{Database}
use Rattle.entity_core.specs.Airspace.{Airspace, Subscriptions, is_one_of, notified_if, notified_where, with_notified_subs}
use Rattle.entity_core.specs.declared.subscription.Sub.{Sub}
use Rattle.entity_core.proofs.Changes.{entries-told}
use Rattle.space_sql_schema.proofs.OneAirspace.{one_map}
use Rattle.space_sql_schema.specs.Spelling.{Spells}

pub same_subs : (m n : Subscriptions) → entries m ≡ entries n → m ≡ n
same_subs m n e = one_map nat_cmp nat_cmp_total m n (subst (IsPermutation (entries m)) e (IsPermutation-refl (entries m)))

all_stay : (ss : List (ℕ × Sub)) → map (notified_if (is_one_of [])) ss ≡ ss
all_stay [] = refl
all_stay (s ∷ ss) = ap (λ l. s ∷ l) (all_stay ss)

-- If no subscription is notified, all stay the same.
pub none_told : (m : Subscriptions) → notified_where (is_one_of []) m ≡ m
none_told m = same_subs (notified_where (is_one_of []) m) m (entries-told (is_one_of []) m ∙ all_stay (entries m))

pub spells_untold : (db : Database) (a : Airspace) → Spells db a → Spells db (with_notified_subs a (is_one_of []))
spells_untold db a p = subst (λ m. Spells db (record a { subscriptions = m })) (sym (none_told a.subscriptions)) p
