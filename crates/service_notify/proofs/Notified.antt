-- Proofs that the notices gathered by URL are the list that the specification defines.
use Rattle.std.specs.Prelude.{◌≡◌, ℕ, Bool, true, false, cond, ◌&&◌, ◌||◌, T, List, [], ◌∷◌, ◌++◌, map, filter, Some, None, is_some, refl}
use Rattle.std.proofs.Common.{append-nil, sym, ap, ◌∙◌, subst}
use Rattle.std.proofs.lemmas.Bool.{or_right}
use Rattle.std.proofs.lemmas.Cmp.{eq_by_cmp_equiv, nat_list_cmp_total}
use Rattle.std.proofs.lemmas.Map.Keys.{sorted_head, sorted_tail}
use Rattle.std.proofs.lemmas.Map.Lookups.{exact_bytes}
use Rattle.std.proofs.lemmas.Map.Text.{btree_map_updates_str, is_eq-slice_cmp}
use Rattle.std.proofs.lemmas.Option.{same_Some}
use Rattle.std.proofs.lemmas.Slice.Eq.{bytes_eq-Decides}
use Rattle.std.specs.BTreeMap as tree
use Rattle.std.specs.BTreeMap.{BTreeMap, is_at}
use Rattle.std.specs.Borrow.{Bor}
use Rattle.std.specs.FinMap.{entries, entries_sorted, from_entries, get-entries, get-from_entries}
use Rattle.std.specs.FinMap.Entries.{below_all, find, is_sorted, same_entries}
use Rattle.std.specs.List.{AllByRecursion}
use Rattle.std.specs.List.Sorted.{IsStrictlySortedBy}
use Rattle.std.specs.Map.{keys_of, values_of, lookup}
use Rattle.std.specs.Ordering.{is_eq, is_lt}
use Rattle.std.specs.declared.cmp.Ordering.{Ordering}
use Rattle.std.specs.declared.cmp.Ordering.TheVariants.{Less, Equal, Greater}
use Rattle.entity_core.specs.Airspace.{text_cmp}
use Rattle.entity_core.specs.IdTexts.{same_text}
use Rattle.entity_core.specs.declared.subscription.Sub.{Sub}
use Rattle.service_notify.specs.Notices.{alone, notice_at, notices_of, states_at, urls_of}
use Rattle.service_notify.specs.Notified.{IsNotifiedAt, is_url_of, notified_url_at}
use Rattle.service_notify.specs.declared.notice.Notify.{Notify}

-- ---- one subscription more

-- The notice at a URL, with one state more.
abbrev with_state : Notify → ℕ × ℕ → Notify
with_state n st = record { url = n.url; states = n.states ++ st ∷ [] }

abbrev state_of : Sub → ℕ × ℕ
state_of s = (s.id, s.index)

-- A URL that no subscription has gets no states.
none_at : (ss : List Sub) (url : List ℕ) → is_url_of ss url ≡ false → states_at ss url ≡ []
none_at [] url e = refl
none_at (s ∷ ss) url e =
    elim (same_text s.url url) as (λ b. (b || is_url_of ss url) ≡ false → map state_of (cond b (s ∷ filter (λ x. same_text x.url url) ss) (filter (λ x. same_text x.url url) ss)) ≡ []) [
      | true ↦ λ no. absurd (subst T no tt)
      | false ↦ λ no. none_at ss url no
    ] e

states_more : (ss : List Sub) (s : Sub) (url : List ℕ) → states_at (ss ++ s ∷ []) url ≡ states_at ss url ++ cond (same_text s.url url) (state_of s ∷ []) []
states_more [] s url = elim (same_text s.url url) as (λ b. map state_of (cond b (s ∷ []) []) ≡ cond b (state_of s ∷ []) []) [ true ↦ refl | false ↦ refl ]
states_more (x ∷ ss) s url =
    elim (same_text x.url url) as (λ b. map state_of (cond b (x ∷ filter (λ y. same_text y.url url) (ss ++ s ∷ [])) (filter (λ y. same_text y.url url) (ss ++ s ∷ []))) ≡ map state_of (cond b (x ∷ filter (λ y. same_text y.url url) ss) (filter (λ y. same_text y.url url) ss)) ++ cond (same_text s.url url) (state_of s ∷ []) []) [
      | true ↦ ap (λ (l : List (ℕ × ℕ)). state_of x ∷ l) (states_more ss s url)
      | false ↦ states_more ss s url
    ]

or_false : (b : Bool) → (b || false) ≡ b
or_false true = refl
or_false false = refl

any_more : (ss : List Sub) (s : Sub) (url : List ℕ) → is_url_of (ss ++ s ∷ []) url ≡ (is_url_of ss url || same_text s.url url)
any_more [] s url = or_false (same_text s.url url)
any_more (x ∷ ss) s url = elim (same_text x.url url) as (λ b. (b || is_url_of (ss ++ s ∷ []) url) ≡ ((b || is_url_of ss url) || same_text s.url url)) [ true ↦ refl | false ↦ any_more ss s url ]

same_self : (url : List ℕ) → same_text url url ≡ true
same_self url = (bytes_eq-Decides url url).1 refl

-- At the URL of the added subscription, the notice has its state last.
notice_more : (ss : List Sub) (s : Sub) → notice_at (ss ++ s ∷ []) s.url ≡ with_state (notice_at ss s.url) (state_of s)
notice_more ss s =
    ap (λ (sts : List (ℕ × ℕ)). record { url = s.url; states = sts }) (states_more ss s s.url
    ∙ ap (λ (b : Bool). states_at ss s.url ++ cond b (state_of s ∷ []) []) (same_self s.url))

-- At other URLs, the notice is unchanged.
notice_other : (ss : List Sub) (s : Sub) (url : List ℕ) → same_text s.url url ≡ false → notice_at (ss ++ s ∷ []) url ≡ notice_at ss url
notice_other ss s url e =
    ap (λ (sts : List (ℕ × ℕ)). record { url = url; states = sts }) (states_more ss s url
    ∙ (ap (λ (b : Bool). states_at ss url ++ cond b (state_of s ∷ []) []) e ∙ append-nil (states_at ss url)))

told_here : (ss : List Sub) (s : Sub) → notified_url_at (ss ++ s ∷ []) s.url ≡ Some (with_state (notice_at ss s.url) (state_of s))
told_here ss s =
    ap (λ (b : Bool). cond b (Some (notice_at (ss ++ s ∷ []) s.url)) None) (any_more ss s s.url ∙ or_right (is_url_of ss s.url) (same_text s.url s.url) (same_self s.url))
    ∙ ap Some (notice_more ss s)

told_other : (ss : List Sub) (s : Sub) (url : List ℕ) → same_text s.url url ≡ false → notified_url_at (ss ++ s ∷ []) url ≡ notified_url_at ss url
told_other ss s url e =
    ap (λ (b : Bool). cond b (Some (notice_at (ss ++ s ∷ []) url)) None) (any_more ss s url ∙ (ap (λ (b : Bool). is_url_of ss url || b) e ∙ or_false (is_url_of ss url)))
    ∙ ap (λ (n : Notify). cond (is_url_of ss url) (Some n) None) (notice_other ss s url e)

-- At each URL, the result is the notice after the subscription's state was added at its own URL.
told_by : (ss : List Sub) (s : Sub) (url : List ℕ) → cond (same_text s.url url) (Some (with_state (notice_at ss s.url) (state_of s))) (notified_url_at ss url) ≡ notified_url_at (ss ++ s ∷ []) url
told_by ss s url =
    elim (same_text s.url url) as (λ b. same_text s.url url ≡ b → cond b (Some (with_state (notice_at ss s.url) (state_of s))) (notified_url_at ss url) ≡ notified_url_at (ss ++ s ∷ []) url) [
      | true ↦ λ e. sym (told_here ss s) ∙ ap (notified_url_at (ss ++ s ∷ [])) ((bytes_eq-Decides s.url url).0 e)
      | false ↦ λ e. sym (told_other ss s url e)
    ] refl

some_notice : (ss : List Sub) (url : List ℕ) (n : Notify) → notified_url_at ss url ≡ Some n → n ≡ notice_at ss url
some_notice ss url n e =
    elim (is_url_of ss url) as (λ b. cond b (Some (notice_at ss url)) None ≡ Some n → n ≡ notice_at ss url) [
      | true ↦ λ h. sym (same_Some (notice_at ss url) n h)
      | false ↦ λ h. absurd (subst T (sym (ap is_some h)) tt)
    ] e

no_notice : (ss : List Sub) (url : List ℕ) → notified_url_at ss url ≡ None → is_url_of ss url ≡ false
no_notice ss url e =
    elim (is_url_of ss url) as (λ b. cond b (Some (notice_at ss url)) None ≡ None → b ≡ false) [
      | true ↦ λ h. absurd (subst T (ap is_some h) tt)
      | false ↦ λ h. refl
    ] e

abbrev Tree : Type 0
Tree = BTreeMap (Bor (List ℕ)) Notify

abbrev str_cmp : Bor (List ℕ) → Bor (List ℕ) → Ordering
str_cmp x y = text_cmp x.now y.now

-- The notice stored at the subscription's URL has its state last.
put_told : (ss : List Sub) (s : Sub) (m n : Tree) (w : Notify) → tree.UpdatesBy str_cmp (λ k. text_cmp s.url k.now) m n (Some w)
    → w ≡ with_state (notice_at ss s.url) (state_of s) → IsNotifiedAt ss m → IsNotifiedAt (ss ++ s ∷ []) n
put_told ss s m n w u is before url =
    btree_map_updates_str s.url m n (Some w) u url
    ∙ (ap (λ (v : Notify). cond (same_text s.url url) (Some v) (tree.get_by (λ k. text_cmp url k.now) m)) is
    ∙ (ap (cond (same_text s.url url) (Some (with_state (notice_at ss s.url) (state_of s)))) (before url) ∙ told_by ss s url))

module _ (s : Sub) (url : List ℕ) (m n : Tree) (w : Notify) (same : url ≡ s.url) (u : tree.UpdatesBy str_cmp (λ k. text_cmp url k.now) m n (Some w)) where
  put_at : tree.UpdatesBy str_cmp (λ k. text_cmp s.url k.now) m n (Some w)
  put_at = subst (λ (x : List ℕ). tree.UpdatesBy str_cmp (λ k. text_cmp x k.now) m n (Some w)) same u

  -- Adding a state to an existing notice preserves `IsNotifiedAt`.
  pub told_more : (old : Notify) → Some old ≡ tree.get_by (λ k. text_cmp url k.now) m → w ≡ with_state old (state_of s) → (ss : List Sub) → IsNotifiedAt ss m → IsNotifiedAt (ss ++ s ∷ []) n
  told_more old there is ss before =
      put_told ss s m n w put_at
      (is ∙ ap (λ (x : Notify). with_state x (state_of s)) (some_notice ss s.url old (ap (notified_url_at ss) (sym same) ∙ (sym (before url) ∙ sym there))))
      before

  -- Adding the first notice at a URL preserves `IsNotifiedAt`.
  pub told_first : None ≡ tree.get_by (λ k. text_cmp url k.now) m → w ≡ record { url = s.url; states = state_of s ∷ [] } → (ss : List Sub) → IsNotifiedAt ss m → IsNotifiedAt (ss ++ s ∷ []) n
  told_first absent is ss before =
      put_told ss s m n w put_at
      (is ∙ ap (λ (sts : List (ℕ × ℕ)). record { url = s.url; states = sts ++ state_of s ∷ [] })
      (sym (none_at ss s.url (no_notice ss s.url (ap (notified_url_at ss) (sym same) ∙ (sym (before url) ∙ sym absent))))))
      before

-- ---- all notices

abbrev Notes : Type 0
Notes = List (List ℕ × Notify)

-- The entries of a map, each under its text.
abbrev texts_of : List (Bor (List ℕ) × Notify) → Notes
texts_of es = map (λ e. (e.0.now, e.1)) es

found_in : (url : List ℕ) (es : List (Bor (List ℕ) × Notify)) → find text_cmp url (texts_of es) ≡ lookup (is_at (λ k. text_cmp url k.now)) es
found_in url [] = refl
found_in url (e ∷ es) = ap (cond (is_eq (text_cmp url e.0.now)) (Some e.1)) (found_in url es)

both : (a b : Bool) → T a → T b → T (a && b)
both true b p q = q
both false b p q = p

below_texts : (k : Bor (List ℕ)) (es : List (Bor (List ℕ) × Notify)) → AllByRecursion (λ y. str_cmp k y ≡ Less) (keys_of es) → T (below_all text_cmp k.now (texts_of es))
below_texts k [] h = tt
below_texts k (e ∷ es) h = both (is_lt (text_cmp k.now e.0.now)) _ (subst (λ (r : Ordering). T (is_lt r)) (sym h.0) tt) (below_texts k es h.1)

sorted_texts : (es : List (Bor (List ℕ) × Notify)) → IsStrictlySortedBy str_cmp (keys_of es) → T (is_sorted text_cmp (texts_of es))
sorted_texts [] h = tt
sorted_texts (e ∷ es) h = both _ _ (below_texts e.0 es (sorted_head str_cmp e.0 (keys_of es) h)) (sorted_texts es (sorted_tail str_cmp e.0 (keys_of es) h))

-- The notices at the URLs of a list.
abbrev notes_at : List Sub → List (List ℕ × Unit {0}) → Notes
notes_at ss us = map (λ u. (u.0, notice_at ss u.0)) us

below_notes : (ss : List Sub) (url : List ℕ) (us : List (List ℕ × Unit {0})) → below_all text_cmp url (notes_at ss us) ≡ below_all text_cmp url us
below_notes ss url [] = refl
below_notes ss url (u ∷ us) = ap (λ (b : Bool). is_lt (text_cmp url u.0) && b) (below_notes ss url us)

sorted_notes : (ss : List Sub) (us : List (List ℕ × Unit {0})) → is_sorted text_cmp (notes_at ss us) ≡ is_sorted text_cmp us
sorted_notes ss [] = refl
sorted_notes ss (u ∷ us) = ap (λ (b : Bool). b && is_sorted text_cmp (notes_at ss us)) (below_notes ss u.0 us) ∙ ap (λ (b : Bool). below_all text_cmp u.0 us && b) (sorted_notes ss us)

found_note : (ss : List Sub) (url : List ℕ) (us : List (List ℕ × Unit {0})) → find text_cmp url (notes_at ss us) ≡ cond (is_some (find text_cmp url us)) (Some (notice_at ss url)) None
found_note ss url [] = refl
found_note ss url (u ∷ us) =
    elim (text_cmp url u.0) as (λ r. text_cmp url u.0 ≡ r → cond (is_eq r) (Some (notice_at ss u.0)) (find text_cmp url (notes_at ss us)) ≡ cond (is_some (cond (is_eq r) (Some u.1) (find text_cmp url us))) (Some (notice_at ss url)) None) [
      | Less ↦ λ e. found_note ss url us
      | Equal ↦ λ e. ap (λ (x : List ℕ). Some (notice_at ss x)) (sym (exact_bytes url u.0 e))
      | Greater ↦ λ e. found_note ss url us
    ] refl

abbrev url_of : Sub → List ℕ × Unit {0}
url_of s = alone s.url

found_url : (ss : List Sub) (url : List ℕ) → is_some (find text_cmp url (map url_of ss)) ≡ is_url_of ss url
found_url [] url = refl
found_url (s ∷ ss) url =
    ap (λ (b : Bool). is_some (cond b (Some tt) (find text_cmp url (map url_of ss)))) ((eq_by_cmp_equiv nat_list_cmp_total).symm url s.url ∙ is_eq-slice_cmp s.url url)
    ∙ elim (same_text s.url url) as (λ b. is_some (cond b (Some tt) (find text_cmp url (map url_of ss))) ≡ (b || is_url_of ss url)) [ true ↦ refl | false ↦ found_url ss url ]

module _ (ss : List Sub) where
  abbrev urls : List (List ℕ × Unit {0})
  urls = entries (from_entries {R = text_cmp} (map url_of ss))

  found_told : (url : List ℕ) → find text_cmp url (notes_at ss urls) ≡ notified_url_at ss url
  found_told url =
      found_note ss url urls
      ∙ ap (λ (b : Bool). cond b (Some (notice_at ss url)) None) (ap is_some (sym (get-entries (from_entries {R = text_cmp} (map url_of ss)) url) ∙ get-from_entries nat_list_cmp_total (map url_of ss) url) ∙ found_url ss url)

  told_entries : (m : Tree) → tree.IsOrdered str_cmp m → IsNotifiedAt ss m → texts_of m.entries ≡ notes_at ss urls
  told_entries m o is =
      same_entries text_cmp nat_list_cmp_total exact_bytes (texts_of m.entries) (notes_at ss urls) (sorted_texts m.entries o)
      (subst T (sym (sorted_notes ss urls)) (entries_sorted (from_entries {R = text_cmp} (map url_of ss))))
      (λ url. found_in url m.entries ∙ (is url ∙ sym (found_told url)))

values_of_texts : (es : List (Bor (List ℕ) × Notify)) → values_of es ≡ values_of (texts_of es)
values_of_texts [] = refl
values_of_texts (e ∷ es) = ap (λ (ns : List Notify). e.1 ∷ ns) (values_of_texts es)

values_of_notes : (ss : List Sub) (us : List (List ℕ × Unit {0})) → values_of (notes_at ss us) ≡ map (notice_at ss) (map (λ e. e.0) us)
values_of_notes ss [] = refl
values_of_notes ss (u ∷ us) = ap (λ (ns : List Notify). notice_at ss u.0 ∷ ns) (values_of_notes ss us)

-- The values of the map, in the order of the URLs, are the list of notices.
pub told_all : (ss : List Sub) (m : Tree) → tree.IsOrdered str_cmp m → IsNotifiedAt ss m → tree.values m ≡ notices_of ss
unfolding urls_of
told_all ss m o is = values_of_texts m.entries ∙ (ap values_of (told_entries ss m o is) ∙ values_of_notes ss (urls ss))

-- ---- the list built from the map

pub none_left : (ns : List Notify) (rest all : List (Bor (List ℕ) × Notify)) → ns ++ values_of rest ≡ values_of all → rest ≡ [] → ns ≡ values_of all
none_left ns rest all e gone = sym (append-nil ns) ∙ (ap (λ (es : List (Bor (List ℕ) × Notify)). ns ++ values_of es) (sym gone) ∙ e)
