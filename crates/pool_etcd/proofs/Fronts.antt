-- Lemmas: the part of a list that has been read, before the rest.
use Rattle.std.proofs.Common.{List, ◌++◌, Option, option_map}

abbrev pub with_front : {A : Type 0} → List A → Option (List A) → Option (List A)
with_front front rest = option_map (λ xs. front ++ xs) rest
