-- The entries of maps.
use Rattle.std.specs.Prelude.{◌≡◌, Bool, true, false, cond, not, ◌&&◌, T, List, [], ◌∷◌, filter, Option, None, refl}
use Rattle.std.specs.Ordering.{eq_by_cmp, is_lt}
use Rattle.std.specs.declared.cmp.Ordering.{Ordering}
use Rattle.std.specs.declared.cmp.Ordering.TheVariants.{Less, Equal, Greater}
use Rattle.std.specs.Cmp.{IsTotalOrder}
use Rattle.std.specs.FinMap.{FinMap, IsAntisymmetric, remove, find, entries, entries_sorted, from_sorted, entries-from_sorted, get-from_sorted, get-remove, get-entries, same_map}
use Rattle.std.specs.FinMap.Entries.{where_key, below_all, is_sorted, is_sorted-where_key, find-where_key}
use Rattle.std.proofs.lemmas.Cmp.{eq_by_cmp_equiv}
use Rattle.std.proofs.Common.{sym, ap, ◌∙◌, true≢false}

pub first : (a b : Bool) → T (a && b) → T a
first true b p = tt
first false b p = p

pub second : (a b : Bool) → T (a && b) → T b
second true b p = p
second false b p = absurd p

pub less : (o : Ordering) → T (is_lt o) → o ≡ Less
less Less p = refl
less Equal p = absurd p
less Greater p = absurd p

turned : {A : Type 0} (b c : Bool) (x : Option A) → b ≡ c → cond (not b) x None ≡ cond c None x
turned true true x e = refl
turned false false x e = refl
turned true false x e = absurd (true≢false e)
turned false true x e = absurd (true≢false (sym e))

-- The entries of a map without a key.
pub entries-remove : {K X : Type 0} {R : K → K → Ordering} → IsTotalOrder R → IsAntisymmetric R → (m : FinMap R X) (k : K) → entries (remove m k) ≡ where_key R (λ x. not (eq_by_cmp R k x)) (entries m)
entries-remove {K} {X} {R} o same m k =
    let sorted = is_sorted-where_key R (λ x. not (eq_by_cmp R k x)) (entries m) (entries_sorted m) in
    let small : FinMap R X = from_sorted (where_key R (λ x. not (eq_by_cmp R k x)) (entries m)) in
    let one : remove m k ≡ small = same_map o same (remove m k) small (λ q.
    get-remove o m k q ∙ sym (get-from_sorted R (where_key R (λ x. not (eq_by_cmp R k x)) (entries m)) q sorted
    ∙ (find-where_key R (λ x. not (eq_by_cmp R k x)) q (λ x t. ap (λ (y : K). not (eq_by_cmp R k y)) (sym (same q x t))) (entries m)
    ∙ (turned (eq_by_cmp R k q) (eq_by_cmp R q k) (find R q (entries m)) ((eq_by_cmp_equiv o).symm k q)
    ∙ ap (cond (eq_by_cmp R q k) None) (sym (get-entries m q)))))) in
    ap entries one ∙ entries-from_sorted R (where_key R (λ x. not (eq_by_cmp R k x)) (entries m)) sorted

both : (a b : Bool) → T a → T b → T (a && b)
both true b p q = q
both false b p q = p

below_kept : {K X : Type 0} (R : K → K → Ordering) (q : K) (p : K × X → Bool) (es : List (K × X)) → T (below_all R q es) → T (below_all R q (filter p es))
below_kept R q p [] h = tt
below_kept R q p (e ∷ es) h =
    let rest = below_kept R q p es (second (is_lt (R q e.0)) _ h) in
    elim (p e) as (λ b. T (below_all R q (cond b (e ∷ filter p es) (filter p es)))) [ true ↦ both _ _ (first _ _ h) rest | false ↦ rest ]

-- Filtering sorted entries keeps them sorted.
pub sorted_kept : {K X : Type 0} (R : K → K → Ordering) (p : K × X → Bool) (es : List (K × X)) → T (is_sorted R es) → T (is_sorted R (filter p es))
sorted_kept R p [] h = tt
sorted_kept R p (e ∷ es) h =
    let rest = sorted_kept R p es (second (below_all R e.0 es) _ h) in
    elim (p e) as (λ b. T (is_sorted R (cond b (e ∷ filter p es) (filter p es)))) [ true ↦ both _ _ (below_kept R e.0 p es (first _ _ h)) rest | false ↦ rest ]
