-- Objects and arrays as compact JSON, from the texts of their parts.
use Rattle.std.specs.Prelude.{ℕ, List, [], ◌∷◌, ◌++◌, map, codes}
use Rattle.json.specs.Print.{quoted}

-- The texts, separated by commas.
abbrev pub joined : List (List ℕ) → List ℕ
joined [] = []
joined (t ∷ []) = t
joined (t ∷ u ∷ ts) = t ++ (codes "," ++ joined (u ∷ ts))

-- A name and the text of its value.
abbrev pub member_text : List ℕ × List ℕ → List ℕ
member_text m = quoted m.0 ++ (codes ":" ++ m.1)

abbrev pub object_text : List (List ℕ × List ℕ) → List ℕ
object_text ms = codes "{" ++ (joined (map member_text ms) ++ codes "}")

abbrev pub array_text : List (List ℕ) → List ℕ
array_text ts = codes "[" ++ (joined ts ++ codes "]")
