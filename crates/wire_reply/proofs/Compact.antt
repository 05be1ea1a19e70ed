-- Lemmas: the compact text of a value, from the texts of its members and items.
use Rattle.std.proofs.Common.{◌≡◌, ℕ, List, [], ◌∷◌, ◌++◌, refl, ap, ◌∙◌, append_assoc, map, codes, false}
use Rattle.json.specs.Print.{quoted}
use Rattle.serde_json.specs.Data.{Items, Members, array, object, member, no_members, item, no_items}
use Rattle.serde_json.specs.Written.{compact_text, items_text, members_text}
use Rattle.wire_reply.specs.Json.{joined, member_text, object_text, array_text}

abbrev pub item_texts : Items → List (List ℕ)
item_texts no_items = []
item_texts (item d ds) = compact_text d ∷ item_texts ds

abbrev pub member_texts : Members → List (List ℕ × List ℕ)
member_texts no_members = []
member_texts (member k d ms) = (k, compact_text d) ∷ member_texts ms

regroup_item : (a b c : List ℕ) → a ++ 44 ∷ (b ++ c) ≡ (a ++ 44 ∷ b) ++ c
regroup_item a b c = simp append_assoc

regroup_member : (a b c d : List ℕ) → a ++ 58 ∷ (b ++ 44 ∷ (c ++ d)) ≡ ((a ++ 58 ∷ b) ++ 44 ∷ c) ++ d
regroup_member a b c d = simp append_assoc

last_member : (a b c : List ℕ) → a ++ 58 ∷ (b ++ c) ≡ (a ++ 58 ∷ b) ++ c
last_member a b c = simp append_assoc

items_text-joined : (ds : Items) → items_text false ds ≡ joined (item_texts ds) ++ codes "]"
items_text-joined no_items = refl
items_text-joined (item d no_items) = refl
items_text-joined (item d (item e ds)) = ap (λ s. compact_text d ++ 44 ∷ s) (items_text-joined (item e ds)) ∙ regroup_item (compact_text d) (joined (item_texts (item e ds))) _

members_text-joined : (ms : Members) → members_text false ms ≡ joined (map member_text (member_texts ms)) ++ codes "}"
members_text-joined no_members = refl
members_text-joined (member k d no_members) = last_member (quoted k) (compact_text d) _
members_text-joined (member k d (member l e ms)) =
    ap (λ s. quoted k ++ 58 ∷ (compact_text d ++ 44 ∷ s)) (members_text-joined (member l e ms)) ∙ regroup_member (quoted k) (compact_text d) (joined (map member_text (member_texts (member l e ms)))) _

pub compact_text-array : (ds : Items) → compact_text (array ds) ≡ array_text (item_texts ds)
compact_text-array ds = ap (λ s. 91 ∷ s) (items_text-joined ds)

pub compact_text-object : (ms : Members) → compact_text (object ms) ≡ object_text (member_texts ms)
compact_text-object ms = ap (λ s. 123 ∷ s) (members_text-joined ms)
