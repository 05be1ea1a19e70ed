-- Lemmas: comparisons with organizations.
use Rattle.std.proofs.Common.{◌≡◌, ℕ, ◌+◌, ◌<◌, List, [], ◌∷◌, ◌++◌, length, get_or, take, drop, Bool, true, false, cond, refl, sym, ◌∙◌, ap, subst, arith, append_assoc}
use Rattle.std.proofs.lemmas.List.{drop_more, take_more}
use Rattle.std.proofs.lemmas.Slice.Eq.{bytes_eq-Decides}
use Rattle.std.specs.Str.{bytes_eq}
use Rattle.pool_etcd.specs.declared.comparisons.Comparison.{Comparison}
use Rattle.pool_etcd.specs.Comparisons.{IsDiverged, OneOrganizationEndsNobody, agreeing, all_noted, differing, noted, without}

without_one : (organization : List ℕ) (differs : Bool) → without organization (record { organization = organization; differs = differs } ∷ []) ≡ []
without_one organization differs = ap (λ (b : Bool). cond b [] (record { organization = organization; differs = differs } ∷ [])) ((bytes_eq-Decides organization organization).1 refl)

-- One organization has one comparison at most.
noted_again : (organization : List ℕ) (before differs : Bool) (rest : List Bool)
    → all_noted organization (differs ∷ rest) (record { organization = organization; differs = before } ∷ []) ≡ all_noted organization rest (record { organization = organization; differs = differs } ∷ [])
noted_again organization before differs rest =
    ap (λ (cs : List Comparison). all_noted organization rest (cs ++ record { organization = organization; differs = differs } ∷ [])) (without_one organization before)

one_is_few : (organization : List ℕ) (differs : Bool) → IsDiverged (record { organization = organization; differs = differs } ∷ []) → ⊥
one_is_few organization true h = omega (arith, h)
one_is_few organization false h = omega (arith, h)

ends_nobody : (organization : List ℕ) (links : List Bool) (before : Bool) → IsDiverged (all_noted organization links (record { organization = organization; differs = before } ∷ [])) → ⊥
ends_nobody organization [] before h = one_is_few organization before h
ends_nobody organization (differs ∷ rest) before h =
    ends_nobody organization rest differs (subst (λ (cs : List Comparison). IsDiverged cs) (noted_again organization before differs rest) h)

pub one_organization_ends_nobody : OneOrganizationEndsNobody
one_organization_ends_nobody organization [] h = omega (arith, h)
one_organization_ends_nobody organization (differs ∷ rest) h = ends_nobody organization rest differs h

-- ---- the search for an organization

kept_front : (organization : List ℕ) (c : Comparison) (cs : List Comparison) → bytes_eq c.organization organization ≡ false → without organization (c ∷ cs) ≡ c ∷ without organization cs
kept_front organization c cs is = ap (λ (b : Bool). cond b cs (c ∷ without organization cs)) is

pub dropped_front : (organization : List ℕ) (c : Comparison) (cs : List Comparison) → bytes_eq c.organization organization ≡ true → without organization (c ∷ cs) ≡ cs
dropped_front organization c cs is = ap (λ (b : Bool). cond b cs (c ∷ without organization cs)) is

-- The comparison at an index is another one.
pub without_more : (organization : List ℕ) (xs : List Comparison) (i : ℕ) (c : Comparison) → i < length xs → c ≡ get_or xs i c → bytes_eq c.organization organization ≡ false
    → without organization xs ≡ take i xs ++ without organization (drop i xs) → without organization xs ≡ take (i + 1) xs ++ without organization (drop (i + 1) xs)
without_more organization xs i c below is other before =
    let rest : drop i xs ≡ c ∷ drop (i + 1) xs = drop_more xs i c below ∙ ap (λ (x : Comparison). x ∷ drop (i + 1) xs) (sym is) in
    let front : take (i + 1) xs ≡ take i xs ++ c ∷ [] = take_more xs i c below ∙ ap (λ (x : Comparison). take i xs ++ x ∷ []) (sym is) in
    before
    ∙ ap (λ (ys : List Comparison). take i xs ++ without organization ys) rest
    ∙ ap (λ (ys : List Comparison). take i xs ++ ys) (kept_front organization c (drop (i + 1) xs) other)
    ∙ sym (append_assoc (take i xs) (c ∷ []) (without organization (drop (i + 1) xs)))
    ∙ ap (λ (ys : List Comparison). ys ++ without organization (drop (i + 1) xs)) (sym front)

-- The comparison at an index is that one.
pub without_here : (organization : List ℕ) (xs : List Comparison) (i : ℕ) (c : Comparison) → i < length xs → c ≡ get_or xs i c → bytes_eq c.organization organization ≡ true
    → without organization xs ≡ take i xs ++ without organization (drop i xs) → without organization xs ≡ take i xs ++ drop (i + 1) xs
without_here organization xs i c below is same before =
    let rest : drop i xs ≡ c ∷ drop (i + 1) xs = drop_more xs i c below ∙ ap (λ (x : Comparison). x ∷ drop (i + 1) xs) (sym is) in
    before
    ∙ ap (λ (ys : List Comparison). take i xs ++ without organization ys) rest
    ∙ ap (λ (ys : List Comparison). take i xs ++ ys) (dropped_front organization c (drop (i + 1) xs) same)
