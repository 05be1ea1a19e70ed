-- Lemmas: what a chain keeps of its items, and how it judges by that.
use Rattle.std.proofs.Common.{◌≡◌, ◌≢◌, ◌⊎◌, inl, inr, ℕ, ◌+◌, ◌-◌, ◌<◌, ◌≤◌, List, [], ◌∷◌, ◌++◌, length, get_or, take, drop, Option, None, Some, refl, sym, ap, ◌∙◌, arith, length-append, length-drop}
use Rattle.std.proofs.lemmas.Bool.{cases_eq, cases_lt, cond-false, cond-true, eq-eqb, le-ltb, lt-ltb, ne_eqb}
use Rattle.std.proofs.lemmas.List.{get_or-append_right, get_or-drop, get_or_append_left, get_or_push, length_push, take-append-le, take_all}
use Rattle.std.specs.Prelude.{◌==◌, nat_lt}
use Rattle.pool_chain.specs.declared.link.Link.{Link}
use Rattle.pool_chain.specs.declared.link.Judgement.TheVariants.{Old, Ahead}
use Rattle.pool_chain.specs.declared.link.TheConstants.{MAX_BEHIND}
use Rattle.pool_chain.specs.Chain.{chain, digest_of, first_digest, next_digest}
use Rattle.pool_chain.specs.Item.{Item}
use Rattle.pool_chain.specs.Judged.{KeepsFirst, KeepsMore, KeepsShortened, KeptDecides, judgement_by, judgement_by_kept, judgement_in, judgement_of}
use Rattle.pool_chain.specs.Known.{Keeps, Known, digest_behind, joined}
use Rattle.pool_chain.proofs.Chains.{judged_ahead, judged_near, judged_old}

pub keeps_first : KeepsFirst
keeps_first = record {
  count = refl;
  digest = refl;
  within = omega arith;
  recent = λ n near low. omega (arith, low);
  each = λ i below. absurd (omega (arith, below));
}

chain_more : (first : List ℕ) (items : List Item) (item : Item) → chain first (items ++ item ∷ []) ≡ next_digest (chain first items) item
chain_more first [] item = refl
chain_more first (x ∷ items) item = chain_more (next_digest first x) items item

pub digest_more : (items : List Item) (item : Item) → digest_of (items ++ item ∷ []) ≡ next_digest (digest_of items) item
digest_more items item = chain_more first_digest items item

same_front : (items : List Item) (item : Item) (n m : ℕ) → n ≡ m → m ≤ length items → digest_of (take n (items ++ item ∷ [])) ≡ digest_of (take m items)
same_front items item n m is low =
    ap (λ (k : ℕ). digest_of (take k (items ++ item ∷ []))) is
    ∙ ap (λ (xs : List Item). digest_of xs) (take-append-le m items (item ∷ []) low)

-- The digests before, with the present one behind them.
each_more : (k : Known) (items : List Item) (item : Item) → Keeps k items → (i : ℕ) → i < length k.earlier + 1
    → (i < length k.earlier) ⊎ (i ≡ length k.earlier)
    → get_or (k.earlier ++ k.digest ∷ []) i [] ≡ digest_of (take ((length items + 1) - (length k.earlier + 1) + i) (items ++ item ∷ []))
each_more k items item keeps i below (inl less) =
    get_or_append_left k.earlier (k.digest ∷ []) [] i less
    ∙ keeps.each i less
    ∙ sym (same_front items item ((length items + 1) - (length k.earlier + 1) + i) (length items - length k.earlier + i) (omega arith) (omega (arith, less, keeps.within)))
each_more k items item keeps i below (inr is) =
    let here : get_or (k.earlier ++ k.digest ∷ []) i [] ≡ k.digest = get_or_push k.earlier k.digest [] i (sym is) in
    let all : digest_of (take (length items) items) ≡ digest_of items = ap (λ (xs : List Item). digest_of xs) (take_all (length items) items (omega arith)) in
    here ∙ keeps.digest ∙ sym all
    ∙ sym (same_front items item ((length items + 1) - (length k.earlier + 1) + i) (length items) (omega (arith, is, keeps.within)) (omega arith))

below_or_last : (i n : ℕ) → i < n + 1 → (i < n) ⊎ (i ≡ n)
below_or_last i n below = elim (cases_lt i n) [
  | inl less ↦ inl less
  | inr above ↦ inr (omega (arith, below, above))
]

recent_more : (k : Known) (items : List Item) (n : ℕ) → Keeps k items → n ≤ MAX_BEHIND → n ≤ length items + 1 → n ≤ length k.earlier + 1
recent_more k items n keeps near low =
    let few : n - 1 ≤ length k.earlier = keeps.recent (n - 1) (omega (arith, near)) (omega (arith, low)) in
    omega (arith, few)

pub keeps_more : KeepsMore
keeps_more k items item keeps =
    let many : length (items ++ item ∷ []) ≡ length items + 1 = length_push items item in
    let kept : length (k.earlier ++ k.digest ∷ []) ≡ length k.earlier + 1 = length_push k.earlier k.digest in
    record {
      count = ap (λ (n : ℕ). n + 1) keeps.count ∙ sym many;
      digest = ap (λ (d : List ℕ). next_digest d item) keeps.digest ∙ sym (digest_more items item);
      within = omega (arith, many, kept, keeps.within);
      recent = λ n near low.
          let few : n ≤ length k.earlier + 1 = recent_more k items n keeps near (omega (arith, many, low)) in
          omega (arith, few, kept);
      each = λ i below.
          let less : i < length k.earlier + 1 = omega (arith, kept, below) in
          let same : (length items + 1) - (length k.earlier + 1) + i ≡ length (items ++ item ∷ []) - length (k.earlier ++ k.digest ∷ []) + i = omega (arith, many, kept) in
          each_more k items item keeps i less (below_or_last i (length k.earlier) less)
          ∙ ap (λ (n : ℕ). digest_of (take n (items ++ item ∷ []))) same;
    }

pub keeps_shortened : KeepsShortened
keeps_shortened k items keeps =
    let extra = length k.earlier - MAX_BEHIND in
    let left : length (drop extra k.earlier) ≡ length k.earlier - extra = length-drop extra k.earlier in
    record {
      count = keeps.count;
      digest = keeps.digest;
      within = omega (arith, left, keeps.within);
      recent = λ n near low.
          let few : n ≤ length k.earlier = keeps.recent n near low in
          omega (arith, left, few, near);
      each = λ i below.
          let at : length items - length k.earlier + (extra + i) ≡ length items - length (drop extra k.earlier) + i = omega (arith, left, below, keeps.within) in
          get_or-drop extra k.earlier i []
          ∙ keeps.each (extra + i) (omega (arith, left, below))
          ∙ ap (λ (n : ℕ). digest_of (take n items)) at;
    }

-- ---- the digest that is some items behind

behind_none : (k : Known) (n : ℕ) → n ≡ 0 → digest_behind k n ≡ Some k.digest
behind_none k n is = cond-true (n == 0) _ _ (eq-eqb n 0 is)

behind_far : (k : Known) (n : ℕ) → 0 < n → length k.earlier < n → digest_behind k n ≡ None
behind_far k n some far =
    cond-false (n == 0) _ _ (ne_eqb n 0 (λ e. absurd (omega (arith, some, e))))
    ∙ cond-true (nat_lt (length k.earlier) n) _ _ (lt-ltb (length k.earlier) n far)

behind_near : (k : Known) (n : ℕ) → 0 < n → n ≤ length k.earlier → digest_behind k n ≡ Some (get_or k.earlier (length k.earlier - n) [])
behind_near k n some near =
    cond-false (n == 0) _ _ (ne_eqb n 0 (λ e. absurd (omega (arith, some, e))))
    ∙ cond-false (nat_lt (length k.earlier) n) _ _ (le-ltb (length k.earlier) n near)

-- It is the digest of both chains, of the later one, of the first one, or of none.
pub behind_present : (k more : Known) (n : ℕ) → n ≡ 0 → Some more.digest ≡ digest_behind (joined k more) n
behind_present k more n is = sym (behind_none (joined k more) n is)

pub behind_in_more : (k more : Known) (n : ℕ) → n ≢ 0 → n ≤ length more.earlier
    → Some (get_or more.earlier (length more.earlier - n) []) ≡ digest_behind (joined k more) n
behind_in_more k more n some near =
    let whole : length (k.earlier ++ more.earlier) ≡ length k.earlier + length more.earlier = length-append k.earlier more.earlier in
    let at : length (k.earlier ++ more.earlier) - n - length k.earlier ≡ length more.earlier - n = omega (arith, whole, near) in
    let here : get_or (k.earlier ++ more.earlier) (length (k.earlier ++ more.earlier) - n) [] ≡ get_or more.earlier (length more.earlier - n) [] =
    get_or-append_right k.earlier more.earlier (length k.earlier) (length (k.earlier ++ more.earlier) - n) [] refl (omega (arith, whole, near))
    ∙ ap (λ (i : ℕ). get_or more.earlier i []) at in
    sym (behind_near (joined k more) n (omega (arith, some)) (omega (arith, whole, near)) ∙ ap (λ (d : List ℕ). Some d) here)

pub behind_in_first : (k more : Known) (n rest : ℕ) → length more.earlier < n → rest ≡ n - length more.earlier → rest ≤ length k.earlier
    → Some (get_or k.earlier (length k.earlier - rest) []) ≡ digest_behind (joined k more) n
behind_in_first k more n rest far is near =
    let whole : length (k.earlier ++ more.earlier) ≡ length k.earlier + length more.earlier = length-append k.earlier more.earlier in
    let at : length (k.earlier ++ more.earlier) - n ≡ length k.earlier - rest = omega (arith, whole, far, is, near) in
    let here : get_or (k.earlier ++ more.earlier) (length (k.earlier ++ more.earlier) - n) [] ≡ get_or k.earlier (length k.earlier - rest) [] =
    get_or_append_left k.earlier more.earlier [] (length (k.earlier ++ more.earlier) - n) (omega (arith, whole, far, is, near))
    ∙ ap (λ (i : ℕ). get_or k.earlier i []) at in
    sym (behind_near (joined k more) n (omega (arith, far)) (omega (arith, whole, far, is, near)) ∙ ap (λ (d : List ℕ). Some d) here)

pub behind_in_none : (k more : Known) (n rest : ℕ) → length more.earlier < n → rest ≡ n - length more.earlier → length k.earlier < rest
    → None ≡ digest_behind (joined k more) n
behind_in_none k more n rest far is less =
    let whole : length (k.earlier ++ more.earlier) ≡ length k.earlier + length more.earlier = length-append k.earlier more.earlier in
    sym (behind_far (joined k more) n (omega (arith, far)) (omega (arith, whole, far, is, less)))

-- ---- judged links

kept_is : (k : Known) (items : List Item) (n : ℕ) → Keeps k items → n ≤ MAX_BEHIND → n ≤ length items
    → digest_behind k n ≡ Some (digest_of (take (length items - n) items))
kept_is k items n keeps near low = elim (cases_eq n 0) [
  | inl is ↦
      let all : items ≡ take (length items - n) items = sym (take_all (length items - n) items (omega (arith, is))) in
      behind_none k n is ∙ ap (λ (d : List ℕ). Some d) (keeps.digest ∙ ap (λ (xs : List Item). digest_of xs) all)
  | inr some ↦
      let few : n ≤ length k.earlier = keeps.recent n near low in
      let at : length items - length k.earlier + (length k.earlier - n) ≡ length items - n = omega (arith, few, keeps.within) in
      let here = keeps.each (length k.earlier - n) (omega (arith, some, few)) ∙ ap (λ (m : ℕ). digest_of (take m items)) at in
      behind_near k n (omega (arith, some)) few ∙ ap (λ (d : List ℕ). Some d) here
]

-- How a chain judges a link that is ahead, is old, or is neither.
pub judges_ahead : (k : Known) (link : Link) → k.count < link.count → Ahead ≡ judgement_in k link
judges_ahead k link more = sym (cond-true (nat_lt k.count link.count) _ _ (lt-ltb k.count link.count more))

pub judges_old : (k : Known) (link : Link) (n : ℕ) → link.count ≤ k.count → n ≡ k.count - link.count → MAX_BEHIND < n → Old ≡ judgement_in k link
judges_old k link n here is far =
    sym (cond-false (nat_lt k.count link.count) _ _ (le-ltb k.count link.count here)
    ∙ cond-true (nat_lt MAX_BEHIND (k.count - link.count)) _ _ (lt-ltb MAX_BEHIND (k.count - link.count) (omega (arith, is, far))))

pub judges_near : (k : Known) (link : Link) (n : ℕ) → link.count ≤ k.count → n ≡ k.count - link.count → n ≤ MAX_BEHIND
    → judgement_by_kept (digest_behind k n) link.digest ≡ judgement_in k link
judges_near k link n here is near =
    ap (λ (m : ℕ). judgement_by_kept (digest_behind k m) link.digest) is
    ∙ sym (cond-false (nat_lt k.count link.count) _ _ (le-ltb k.count link.count here)
    ∙ cond-false (nat_lt MAX_BEHIND (k.count - link.count)) _ _ (le-ltb MAX_BEHIND (k.count - link.count) (omega (arith, is, near))))

near_decides : (k : Known) (items : List Item) (link : Link) → link.count ≤ k.count → k.count - link.count ≤ MAX_BEHIND → Keeps k items
    → judgement_in k link ≡ judgement_of items link
near_decides k items link here near keeps =
    let at : length items - (k.count - link.count) ≡ link.count = omega (arith, here, keeps.count) in
    sym (judges_near k link (k.count - link.count) here refl near)
    ∙ ap (λ (d : Option (List ℕ)). judgement_by_kept d link.digest) (kept_is k items (k.count - link.count) keeps near (omega (arith, keeps.count)))
    ∙ ap (λ (m : ℕ). judgement_by (digest_of (take m items)) link.digest) at
    ∙ sym (judged_near items link (omega (arith, here, keeps.count)) (omega (arith, here, near, keeps.count)))

pub kept_decides : KeptDecides
kept_decides k items link keeps = elim (cases_lt k.count link.count) [
  | inl more ↦ sym (judges_ahead k link more) ∙ sym (judged_ahead items link (omega (arith, more, keeps.count)))
  | inr here ↦ elim (cases_lt MAX_BEHIND (k.count - link.count)) [
    | inl far ↦ sym (judges_old k link (k.count - link.count) here refl far)
        ∙ sym (judged_old items link (omega (arith, here, keeps.count)) (omega (arith, here, far, keeps.count)))
    | inr near ↦ near_decides k items link here near keeps
  ]
]
