-- The concatenated lines of cells.
use Rattle.std.proofs.Common.{◌≡◌, ◌++◌, ◌∷◌, [], List, ℕ, ap, refl, subst, sym, ◌∙◌}
use Rattle.std.specs.Prelude.{map}
use Rattle.std.specs.List.{AllZip, concat, flat_map}
use Rattle.std.proofs.lemmas.List.{append_assoc, append-nil}
use Rattle.entity_core.specs.declared.entity.Entity.{Entity}
use Rattle.dss_report.specs.CellLines.{AddsPlaces, HasPlaces, IsPlaceLine, Place, places_of}

-- Related lists stay related after concatenation.
zip_append : {A B : Type 0} (R : A → B → Type 0) (xs xs' : List A) (ys ys' : List B) → AllZip R xs ys → AllZip R xs' ys' → AllZip R (xs ++ xs') (ys ++ ys')
zip_append R [] xs' [] ys' h h' = h'
zip_append R [] xs' (y ∷ ys) ys' h h' = absurd h
zip_append R (x ∷ xs) xs' [] ys' h h' = absurd h
zip_append R (x ∷ xs) xs' (y ∷ ys) ys' h h' = (h.0, zip_append R xs xs' ys ys' h.1 h')

concat_append : (xs ys : List (List ℕ)) → concat (xs ++ ys) ≡ concat xs ++ concat ys
concat_append [] ys = refl
concat_append (x ∷ xs) ys = ap (λ z. x ++ z) (concat_append xs ys) ∙ sym (append_assoc x (concat xs) (concat ys))

flat_more : {X Y : Type 0} (f : X → List Y) (xs : List X) (x : X) → flat_map f (xs ++ x ∷ []) ≡ flat_map f xs ++ f x
flat_more f [] x = append-nil (f x)
flat_more f (y ∷ ys) x = ap (λ z. f y ++ z) (flat_more f ys x) ∙ sym (append_assoc (f y) (flat_map f ys) (f x))

map_more : {X Y : Type 0} (f : X → Y) (xs : List X) (x : X) → map f (xs ++ x ∷ []) ≡ map f xs ++ f x ∷ []
map_more f [] x = refl
map_more f (y ∷ ys) x = ap (λ z. f y ∷ z) (map_more f ys x)

-- Nothing is added.
pub adds_none : (text : List ℕ) → AddsPlaces [] text text
adds_none text = ([], ([], tt, refl), sym (append-nil text))

-- One line is added.
pub adds_line : (p : Place) (old line new : List ℕ) → IsPlaceLine line p → new ≡ old ++ line → AddsPlaces (p ∷ []) old new
adds_line p old line new is added = (line, (line ∷ [], (is, tt), sym (append-nil line)), added)

-- Lines are added, and then more.
pub adds_both : (ps qs : List Place) (a b c : List ℕ) → AddsPlaces ps a b → AddsPlaces qs b c → AddsPlaces (ps ++ qs) a c
adds_both ps qs a b c first next =
    let lines = first.1.0 in
    let more = next.1.0 in (
      first.0 ++ next.0,
      (
        lines ++ more,
        zip_append IsPlaceLine lines more ps qs first.1.1 next.1.1,
        ap (λ (x : List ℕ). x ++ next.0) first.1.2 ∙ ap (λ (y : List ℕ). concat lines ++ y) next.1.2 ∙ sym (concat_append lines more),
      ),
      next.2 ∙ ap (λ (x : List ℕ). x ++ next.0) first.2 ∙ append_assoc a first.0 next.0,
    )

-- The lines of one more item follow those of the items before it.
pub adds_next : {X : Type 0} (f : X → List Place) (xs ys : List X) (x : X) (a b c : List ℕ) → ys ≡ xs ++ x ∷ []
    → AddsPlaces (flat_map f xs) a b → AddsPlaces (f x) b c → AddsPlaces (flat_map f ys) a c
adds_next f xs ys x a b c is before next =
    subst (λ (ps : List Place). AddsPlaces ps a c) (sym (ap (flat_map f) is ∙ flat_more f xs x)) (adds_both _ _ a b c before next)

-- The same for items with one line each.
pub adds_one : {X : Type 0} (f : X → Place) (xs ys : List X) (x : X) (a b c : List ℕ) → ys ≡ xs ++ x ∷ []
    → AddsPlaces (map f xs) a b → AddsPlaces (f x ∷ []) b c → AddsPlaces (map f ys) a c
adds_one f xs ys x a b c is before next =
    subst (λ (ps : List Place). AddsPlaces ps a c) (sym (ap (map f) is ∙ map_more f xs x)) (adds_both _ _ a b c before next)

-- A text that was empty has only what was added.
pub adds_all : (ps : List Place) (old new : List ℕ) → old ≡ [] → AddsPlaces ps old new → HasPlaces ps new
adds_all ps old new is adds =
    subst (λ (text : List ℕ). HasPlaces ps text) (sym (adds.2 ∙ ap (λ (x : List ℕ). x ++ adds.0) is)) adds.1

-- The same entities add the same lines.
pub adds_same : (es fs : List Entity) (a b : List ℕ) → es ≡ fs → AddsPlaces (places_of es) a b → AddsPlaces (places_of fs) a b
adds_same es fs a b same adds = subst (λ (xs : List Entity). AddsPlaces (places_of xs) a b) same adds
