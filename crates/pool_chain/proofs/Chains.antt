-- Lemmas: a chain decides over its items.
use Rattle.std.proofs.Common.{◌≡◌, ◌==◌, ◌⊎◌, ℕ, zero, suc, ◌+◌, ◌<◌, ◌≤◌, Bool, true, false, List, [], ◌∷◌, ◌++◌, length, take, cond, refl, sym, ap, ◌∙◌, arith, inl, inr}
use Rattle.std.specs.Prelude.{nat_lt}
use Rattle.std.specs.Str.{bytes_eq}
use Rattle.std.proofs.lemmas.Bool.{cond-false, cond-true, le-ltb, lt-ltb, ltb-false}
use Rattle.std.proofs.lemmas.List.{length-take-le, take_all}
use Rattle.std.proofs.lemmas.Slice.Eq.{bytes_eq-Decides}
use Rattle.sha2.specs.Sha256.{sha256}
use Rattle.sha2.proofs.Facts256.{length-sha256}
use Rattle.pool_chain.specs.declared.link.Link.{Link}
use Rattle.pool_chain.specs.declared.link.Judgement.TheVariants.{Same, Differs, Old, Ahead}
use Rattle.pool_chain.specs.declared.link.TheConstants.{MAX_BEHIND}
use Rattle.pool_chain.specs.Chain.{AllFit, ChainDecides, Collision, chain, digest_of, first_digest, next_digest}
use Rattle.pool_chain.specs.Item.{Fits, Item, spell}
use Rattle.pool_chain.specs.Judged.{OwnLinkIsSame, SameLinkSameItems, judgement_by, judgement_of, link_of}
use Rattle.pool_chain.proofs.Spellings.{same_fronts, spelling_is_unique}

-- ---- texts are the same or differ

same_number_or : (n m : ℕ) → (b : Bool) → (n == m) ≡ b → (n ≡ m) ⊎ (n ≡ m → ⊥)
same_number_or n m true is = inl (grind (arith, is))
same_number_or n m false is = inr (λ h. grind (arith, is, h))

same_text_more : (x y : ℕ) (xs ys : List ℕ) → (x ≡ y) ⊎ (x ≡ y → ⊥) → (xs ≡ ys) ⊎ (xs ≡ ys → ⊥) → (x ∷ xs ≡ y ∷ ys) ⊎ (x ∷ xs ≡ y ∷ ys → ⊥)
same_text_more x y xs ys (inl h) (inl k) = inl (ap (λ v. v ∷ xs) h ∙ ap (λ v. y ∷ v) k)
same_text_more x y xs ys (inl h) (inr k) = inr (λ e. k cc)
same_text_more x y xs ys (inr h) k = inr (λ e. h cc)

same_text : (xs ys : List ℕ) → (xs ≡ ys) ⊎ (xs ≡ ys → ⊥)
same_text [] [] = inl refl
same_text [] (y ∷ ys) = inr (λ h. absurd cc)
same_text (x ∷ xs) [] = inr (λ h. absurd cc)
same_text (x ∷ xs) (y ∷ ys) = same_text_more x y xs ys (same_number_or x y (x == y) refl) (same_text xs ys)

-- ---- two steps with one digest

next_is_long : (d : List ℕ) (item : Item) → length (next_digest d item) ≡ 32
unfolding next_digest
next_is_long d item = length-sha256 (d ++ spell item)

same_by : (d e : List ℕ) (x y : Item) → length d ≡ length e → Fits x → Fits y → sha256 (d ++ spell x) ≡ sha256 (e ++ spell y)
    → (d ++ spell x ≡ e ++ spell y) ⊎ (d ++ spell x ≡ e ++ spell y → ⊥) → ((d ≡ e) × (x ≡ y)) ⊎ Collision
same_by d e x y long p q same (inl text) =
    let fronts = same_fronts d (spell x) e (spell y) long text in
    let items = spelling_is_unique x y [] [] p q (ap (λ (t : List ℕ). t ++ []) fronts.1) in
    inl (fronts.0, items.0)
same_by d e x y long p q same (inr differ) = inr (record { one = d ++ spell x; other = e ++ spell y; same = same; differ = differ })

same_step : (d e : List ℕ) (x y : Item) → length d ≡ length e → Fits x → Fits y → next_digest d x ≡ next_digest e y → ((d ≡ e) × (x ≡ y)) ⊎ Collision
unfolding next_digest
same_step d e x y long p q same = same_by d e x y long p q same (same_text (d ++ spell x) (e ++ spell y))

one_more : (x y : Item) (xs ys : List Item) (d e : List ℕ) → xs ≡ ys → ((d ≡ e) × (x ≡ y)) ⊎ Collision → ((d ≡ e) × (x ∷ xs ≡ y ∷ ys)) ⊎ Collision
one_more x y xs ys d e rest (inl u) = inl (u.0, ap (λ (z : Item). z ∷ xs) u.1 ∙ ap (λ (zs : List Item). y ∷ zs) rest)
one_more x y xs ys d e rest (inr collision) = inr collision

decides : (xs ys : List Item) (d e : List ℕ) → length d ≡ length e → AllFit xs → AllFit ys → length xs ≡ length ys → chain d xs ≡ chain e ys → ((d ≡ e) × (xs ≡ ys)) ⊎ Collision
decides [] [] d e long p q many same = inl (same, refl)
decides [] (y ∷ ys) d e long p q many same = absurd (omega (arith, many))
decides (x ∷ xs) [] d e long p q many same = absurd (omega (arith, many))
decides (x ∷ xs) (y ∷ ys) d e long p q many same =
    elim (decides xs ys (next_digest d x) (next_digest e y) (next_is_long d x ∙ sym (next_is_long e y)) p.1 q.1 (omega (arith, many)) same) [
      | inl u ↦ one_more x y xs ys d e u.1 (same_step d e x y long p.0 q.0 u.0)
      | inr collision ↦ inr collision
    ]

pub chain_decides : ChainDecides
chain_decides xs ys p q many same =
    elim (decides xs ys first_digest first_digest refl p q many same) [
      | inl u ↦ inl u.1
      | inr collision ↦ inr collision
    ]

-- ---- judged links

front_fits : (n : ℕ) (xs : List Item) → AllFit xs → AllFit (take n xs)
front_fits zero xs p = tt
front_fits (suc n) [] p = tt
front_fits (suc n) (x ∷ xs) p = (p.0, front_fits n xs p.1)

by_same : (own other : List ℕ) (b : Bool) → bytes_eq own other ≡ b → cond b Same (Differs own) ≡ Same → own ≡ other
by_same own other true is e = (bytes_eq-Decides own other).0 is
by_same own other false is e = absurd cc

-- A link that is judged to be the same has a count of the items, and their digest.
judged_same : (items : List Item) (link : Link) (ahead old : Bool) → nat_lt (length items) link.count ≡ ahead
    → cond ahead Ahead (cond old Old (judgement_by (digest_of (take link.count items)) link.digest)) ≡ Same
    → (link.count ≤ length items) × (digest_of (take link.count items) ≡ link.digest)
judged_same items link true old is e = absurd cc
judged_same items link false true is e = absurd cc
judged_same items link false false is e =
    (ltb-false (length items) link.count is, by_same (digest_of (take link.count items)) link.digest _ refl e)

pub same_is_digest : (items : List Item) (link : Link) → judgement_of items link ≡ Same
    → (link.count ≤ length items) × (digest_of (take link.count items) ≡ link.digest)
same_is_digest items link e = judged_same items link _ _ refl e

pub same_link_same_items : SameLinkSameItems
same_link_same_items mine theirs link p q e f =
    let a = same_is_digest mine link e in
    let b = same_is_digest theirs link f in
    chain_decides (take link.count mine) (take link.count theirs) (front_fits link.count mine p) (front_fits link.count theirs q)
    (length-take-le link.count mine a.0 ∙ sym (length-take-le link.count theirs b.0)) (a.1 ∙ sym b.1)

by_own : (own other : List ℕ) (b : Bool) → bytes_eq own other ≡ b → own ≡ other → cond b Same (Differs own) ≡ Same
by_own own other true is e = refl
by_own own other false is e = let yes : bytes_eq own other ≡ true = (bytes_eq-Decides own other).1 e in absurd cc

-- How a link is judged that is not ahead, is old, or is neither.
pub judged_ahead : (items : List Item) (link : Link) → length items < link.count → judgement_of items link ≡ Ahead
judged_ahead items link more = cond-true (nat_lt (length items) link.count) _ _ (lt-ltb (length items) link.count more)

pub judged_old : (items : List Item) (link : Link) → link.count ≤ length items → link.count + MAX_BEHIND < length items → judgement_of items link ≡ Old
judged_old items link here far =
    cond-false (nat_lt (length items) link.count) _ _ (le-ltb (length items) link.count here)
    ∙ cond-true (nat_lt (link.count + MAX_BEHIND) (length items)) _ _ (lt-ltb (link.count + MAX_BEHIND) (length items) far)

pub judged_near : (items : List Item) (link : Link) → link.count ≤ length items → length items ≤ link.count + MAX_BEHIND
    → judgement_of items link ≡ judgement_by (digest_of (take link.count items)) link.digest
judged_near items link here near =
    cond-false (nat_lt (length items) link.count) _ _ (le-ltb (length items) link.count here)
    ∙ cond-false (nat_lt (link.count + MAX_BEHIND) (length items)) _ _ (le-ltb (link.count + MAX_BEHIND) (length items) near)

pub own_link_is_same : OwnLinkIsSame
own_link_is_same items =
    let whole : take (length items) items ≡ items = take_all (length items) items (omega arith) in
    judged_near items (link_of items) (omega arith) (omega arith)
    ∙ by_own (digest_of (take (length items) items)) (digest_of items) _ refl (ap (λ (xs : List Item). digest_of xs) whole)
