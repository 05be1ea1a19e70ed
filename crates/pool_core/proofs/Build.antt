-- Lemmas: the one list, made of the acts of the log and of the readings between them.
use Rattle.std.proofs.Common.{◌≡◌, ◌==◌, ℕ, zero, suc, ◌+◌, ◌<◌, ◌≤◌, ◌⊎◌, Bool, true, false, cond, List, [], ◌∷◌, ◌++◌, length, map, Some, None, slice_get, refl, sym, ap, subst, ◌∙◌, append_assoc, arith, inl, inr}
use Rattle.std.specs.Prelude.{Contains, filter}
use Rattle.std.specs.List.{flat_map}
use Rattle.std.proofs.lemmas.List.{append-nil, map-append}
use Rattle.std.proofs.lemmas.List.Elements.{Contains-append_cases, Contains-append_left, Contains-append_right, filter-append}
use Rattle.pool_core.specs.Acts.{Act}
use Rattle.pool_core.specs.Events.{Batch}
use Rattle.pool_core.specs.OneList.{ListedAct, RequestName, listed_acts}
use Rattle.pool_core.proofs.Lists.{contains_at, contains_split, fits_or_more, contains_head, contains_none, contains_one, contains_same, some_same}
use Rattle.pool_core.proofs.Projections.{same_number}
use Rattle.pool_core.proofs.Readings.{Reading}

-- ---- the acts of a batch

-- The acts of a batch, each with the id that stands for it, if one does.
abbrev pub listed : (writer : ℕ) → List ℕ → List Act → List ListedAct
listed w ids [] = []
listed w [] (c ∷ cs) = record { request = None; act = c; logged = true } ∷ listed w [] cs
listed w (id ∷ ids) (c ∷ cs) = record { request = Some (record { instance = w; id = id }); act = c; logged = true } ∷ listed w ids cs

pub listed_act : (w : ℕ) (ids : List ℕ) (cs : List Act) → listed_acts (listed w ids cs) ≡ cs
listed_act w ids [] = refl
listed_act w [] (c ∷ cs) = ap (λ v. c ∷ v) (listed_act w [] cs)
listed_act w (id ∷ ids) (c ∷ cs) = ap (λ v. c ∷ v) (listed_act w ids cs)

none_some : {A : Type 0} (x : RequestName) → None ≡ Some x → A
none_some x h = absurd cc

-- What an act of a batch is.
pub record IsListed (w : ℕ) (ids : List ℕ) (cs : List Act) (j : ℕ) (call : ListedAct) : Type 0 where
  pub act : slice_get cs j ≡ Some call.act
  pub logged : call.logged ≡ true
  pub named : (x : RequestName) → call.request ≡ Some x → (slice_get ids j ≡ Some x.id) × (x.instance ≡ w)

pub listed_get : (w : ℕ) (ids : List ℕ) (cs : List Act) (j : ℕ) (call : ListedAct) → slice_get (listed w ids cs) j ≡ Some call → IsListed w ids cs j call
listed_get w ids [] j call h = absurd cc
listed_get w [] (c ∷ cs) zero call h =
    let e = some_same (record { request = None; act = c; logged = true }) call h in
    record {
      act = ap (λ (v : ListedAct). Some v.act) e;
      logged = sym (ap (λ (v : ListedAct). v.logged) e);
      named = λ x n. none_some x (ap (λ (v : ListedAct). v.request) e ∙ n);
    }
listed_get w [] (c ∷ cs) (suc j) call h =
    let r = listed_get w [] cs j call h in
    record { act = r.act; logged = r.logged; named = λ x n. r.named x n }
listed_get w (id ∷ ids) (c ∷ cs) zero call h =
    let e = some_same (record { request = Some (record { instance = w; id = id }); act = c; logged = true }) call h in
    record {
      act = ap (λ (v : ListedAct). Some v.act) e;
      logged = sym (ap (λ (v : ListedAct). v.logged) e);
      named = λ x n.
          let s = some_same (record { instance = w; id = id }) x (ap (λ (v : ListedAct). v.request) e ∙ n) in
          (ap (λ (v : RequestName). Some v.id) s, sym (ap (λ (v : RequestName). v.instance) s));
    }
listed_get w (id ∷ ids) (c ∷ cs) (suc j) call h =
    let r = listed_get w ids cs j call h in
    record { act = r.act; logged = r.logged; named = λ x n. r.named x n }

pub listed_at : (w : ℕ) (ids : List ℕ) (cs : List Act) (j id : ℕ) (c : Act) → slice_get ids j ≡ Some id → slice_get cs j ≡ Some c
    → slice_get (listed w ids cs) j ≡ Some (record { request = Some (record { instance = w; id = id }); act = c; logged = true })
listed_at w [] cs j id c h k = absurd cc
listed_at w (x ∷ ids) [] j id c h k = absurd cc
listed_at w (x ∷ ids) (y ∷ cs) zero id c h k =
    ap (λ v. Some (record { request = Some (record { instance = w; id = v }); act = y; logged = true })) (some_same x id h)
    ∙ ap (λ v. Some (record { request = Some (record { instance = w; id = id }); act = v; logged = true })) (some_same y c k)
listed_at w (x ∷ ids) (y ∷ cs) (suc j) id c h k = listed_at w ids cs j id c h k

-- ---- slots

-- The readings that stand behind the acts of the first entries.
abbrev pub at_slot : ℕ → List Reading → List ListedAct
at_slot k rs = map (λ r. r.call) (filter (λ r. k == r.slot) rs)

pub slot_append : (k : ℕ) (xs ys : List Reading) → at_slot k (xs ++ ys) ≡ at_slot k xs ++ at_slot k ys
slot_append k xs ys =
    ap (λ v. map (λ (r : Reading). r.call) v) (filter-append (λ (r : Reading). k == r.slot) xs ys)
    ∙ map-append (λ (r : Reading). r.call) (filter (λ r. k == r.slot) xs) (filter (λ r. k == r.slot) ys)

-- The readings of a slot around one of them.
pub slot_split : (k : ℕ) (xs : List Reading) (r : Reading) (ys : List Reading) → r.slot ≡ k → at_slot k (xs ++ r ∷ ys) ≡ at_slot k xs ++ r.call ∷ at_slot k ys
slot_split k xs r ys is =
    let yes : (k == r.slot) ≡ true = ap (λ v. k == v) is ∙ same_number k in
    slot_append k xs (r ∷ ys) ∙ ap (λ t. at_slot k xs ++ map (λ v. v.call) (cond t (r ∷ filter (λ v. k == v.slot) ys) (filter (λ v. k == v.slot) ys))) yes

pub contains_slot : (k : ℕ) (rs : List Reading) (r : Reading) → r.slot ≡ k → Contains rs r → Contains (at_slot k rs) r.call
contains_slot k rs r is h =
    let s = contains_split rs r h in
    contains_same (at_slot k rs) (at_slot k s.front ++ r.call ∷ at_slot k s.back) r.call (ap (λ v. at_slot k v) s.split ∙ slot_split k s.front r s.back is) (contains_at (at_slot k s.front) r.call (at_slot k s.back))

-- A reading of a slot.
pub record InSlot (k : ℕ) (rs : List Reading) (c : ListedAct) : Type 0 where
  pub one : Reading
  pub among : Contains rs one
  pub slot : one.slot ≡ k
  pub call : one.call ≡ c

in_slot_more : (k : ℕ) (r : Reading) (rs : List Reading) (c : ListedAct) → InSlot k rs c → InSlot k (r ∷ rs) c
in_slot_more k r rs c s = record { one = s.one; among = Contains-append_right (r ∷ []) rs s.one s.among; slot = s.slot; call = s.call }

in_slot_case : (k : ℕ) (r : Reading) (rs : List Reading) (c : ListedAct) → (Contains (at_slot k rs) c → InSlot k rs c) → (b : Bool) → (k == r.slot) ≡ b
    → Contains (map (λ v. v.call) (cond b (r ∷ filter (λ v. k == v.slot) rs) (filter (λ v. k == v.slot) rs))) c → InSlot k (r ∷ rs) c
in_slot_case k r rs c rest false is h = in_slot_more k r rs c (rest h)
in_slot_case k r rs c rest true is h = elim (Contains-append_cases (r.call ∷ []) (at_slot k rs) c h) [
  | inl now ↦ record { one = r; among = contains_head r rs; slot = grind (arith, is); call = contains_one r.call c now }
  | inr later ↦ in_slot_more k r rs c (rest later)
]

pub in_slot : (k : ℕ) (rs : List Reading) (c : ListedAct) → Contains (at_slot k rs) c → InSlot k rs c
in_slot k [] c h = contains_none c h
in_slot k (r ∷ rs) c h = in_slot_case k r rs c (λ g. in_slot k rs c g) (k == r.slot) refl h

-- ---- the list

module _ (acts_of : List ℕ → List Act) (rs : List Reading) where
  abbrev pub batch_acts : Batch → List ListedAct
  batch_acts b = listed b.writer b.ids (acts_of b.bytes)

  abbrev pub one_list : ℕ → List Batch → List ListedAct
  one_list k [] = at_slot k rs
  one_list k (b ∷ log) = at_slot k rs ++ (batch_acts b ++ one_list (suc k) log)

  abbrev pub upto : ℕ → List Batch → List ListedAct
  upto k [] = []
  upto k (b ∷ log) = at_slot k rs ++ (batch_acts b ++ upto (suc k) log)

  abbrev pub tail_from : ℕ → List Batch → List ListedAct
  tail_from k [] = []
  tail_from k (b ∷ log) = batch_acts b ++ one_list (suc k) log

  pub one_head : (k : ℕ) (log : List Batch) → one_list k log ≡ at_slot k rs ++ tail_from k log
  one_head k [] = sym (append-nil (at_slot k rs))
  one_head k (b ∷ log) = refl

  -- The list is cut behind the acts of the first entries.
  pub one_cut : (k n : ℕ) (xs ys : List Batch) → n ≡ k + length xs → one_list k (xs ++ ys) ≡ upto k xs ++ one_list n ys
  one_cut k n [] ys h = let e : k ≡ n = omega (arith, h) in ap (λ v. one_list v ys) e
  one_cut k n (b ∷ xs) ys h =
      ap (λ v. at_slot k rs ++ (batch_acts b ++ v)) (one_cut (suc k) n xs ys (omega (arith, h)))
      ∙ ap (λ v. at_slot k rs ++ v) (sym (append_assoc (batch_acts b) (upto (suc k) xs) (one_list n ys)))
      ∙ sym (append_assoc (at_slot k rs) (batch_acts b ++ upto (suc k) xs) (one_list n ys))

  -- An act of a batch of a list.
  pub record InBatch (log : List Batch) (c : ListedAct) : Type 0 where
    pub front : List Batch
    pub batch : Batch
    pub back : List Batch
    pub split : log ≡ front ++ batch ∷ back
    pub among : Contains (batch_acts batch) c

  in_batch_more : (b : Batch) (log : List Batch) (c : ListedAct) → InBatch log c → InBatch (b ∷ log) c
  in_batch_more b log c i = record { front = b ∷ i.front; batch = i.batch; back = i.back; split = ap (λ v. b ∷ v) i.split; among = i.among }

  -- A reading behind the first entries, from some number on and below some number.
  pub record InSlots (low high : ℕ) (c : ListedAct) : Type 0 where
    pub slot : ℕ
    pub from : low ≤ slot
    pub below : slot < high
    pub among : Contains (at_slot slot rs) c

  pub in_upto : (k : ℕ) (log : List Batch) (c : ListedAct) → Contains (upto k log) c → InSlots k (k + length log) c ⊎ InBatch log c
  in_upto k [] c h = contains_none c h
  in_upto k (b ∷ log) c h = elim (Contains-append_cases (at_slot k rs) (batch_acts b ++ upto (suc k) log) c h) [
    | inl now ↦ inl (record { slot = k; from = omega arith; below = omega arith; among = now })
    | inr rest ↦ elim (Contains-append_cases (batch_acts b) (upto (suc k) log) c rest) [
      | inl here ↦ inr (record { front = []; batch = b; back = log; split = refl; among = here })
      | inr later ↦ elim (in_upto (suc k) log c later) [
        | inl s ↦ inl (record { slot = s.slot; from = omega (arith, s.from); below = omega (arith, s.below); among = s.among })
        | inr i ↦ inr (in_batch_more b log c i)
      ]
    ]
  ]

  pub in_one : (k : ℕ) (log : List Batch) (c : ListedAct) → Contains (one_list k log) c → InSlots k (suc (k + length log)) c ⊎ InBatch log c
  in_one k [] c h = inl (record { slot = k; from = omega arith; below = omega arith; among = h })
  in_one k (b ∷ log) c h = elim (Contains-append_cases (at_slot k rs) (batch_acts b ++ one_list (suc k) log) c h) [
    | inl now ↦ inl (record { slot = k; from = omega arith; below = omega arith; among = now })
    | inr rest ↦ elim (Contains-append_cases (batch_acts b) (one_list (suc k) log) c rest) [
      | inl here ↦ inr (record { front = []; batch = b; back = log; split = refl; among = here })
      | inr later ↦ elim (in_one (suc k) log c later) [
        | inl s ↦ inl (record { slot = s.slot; from = omega (arith, s.from); below = omega (arith, s.below); among = s.among })
        | inr i ↦ inr (in_batch_more b log c i)
      ]
    ]
  ]

  -- ---- the acts of the log

  filter_slot_case : (k : ℕ) (r : Reading) (xs : List Reading) → r.call.logged ≡ false → filter (λ c. c.logged) (at_slot k xs) ≡ [] → (b : Bool) → (k == r.slot) ≡ b
      → filter (λ c. c.logged) (map (λ v. v.call) (cond b (r ∷ filter (λ v. k == v.slot) xs) (filter (λ v. k == v.slot) xs))) ≡ []
  filter_slot_case k r xs un rest false is = rest
  filter_slot_case k r xs un rest true is = ap (λ b. cond b (r.call ∷ filter (λ c. c.logged) (at_slot k xs)) (filter (λ c. c.logged) (at_slot k xs))) un ∙ rest

  filter_slot : (k : ℕ) (xs : List Reading) → ((r : Reading) → Contains xs r → r.call.logged ≡ false) → filter (λ c. c.logged) (at_slot k xs) ≡ []
  filter_slot k [] h = refl
  filter_slot k (r ∷ xs) h = filter_slot_case k r xs (h r (contains_head r xs)) (filter_slot k xs (λ x c. h x (Contains-append_right (r ∷ []) xs x c))) (k == r.slot) refl

  filter_listed : (w : ℕ) (ids : List ℕ) (cs : List Act) → filter (λ c. c.logged) (listed w ids cs) ≡ listed w ids cs
  filter_listed w ids [] = refl
  filter_listed w [] (c ∷ cs) = ap (λ v. record { request = None; act = c; logged = true } ∷ v) (filter_listed w [] cs)
  filter_listed w (id ∷ ids) (c ∷ cs) = ap (λ v. record { request = Some (record { instance = w; id = id }); act = c; logged = true } ∷ v) (filter_listed w ids cs)

  acts_append : (xs ys : List ListedAct) → listed_acts (xs ++ ys) ≡ listed_acts xs ++ listed_acts ys
  acts_append xs ys = map-append (λ (c : ListedAct). c.act) xs ys

  -- The acts of the list that are of the log.
  pub log_acts : (k : ℕ) (log : List Batch) → ((r : Reading) → Contains rs r → r.call.logged ≡ false)
      → listed_acts (filter (λ c. c.logged) (one_list k log)) ≡ flat_map (λ b. acts_of b.bytes) log
  log_acts k [] h = ap (λ v. listed_acts v) (filter_slot k rs h)
  log_acts k (b ∷ log) h =
      let logged : ListedAct → Bool = λ c. c.logged in
      let rest = one_list (suc k) log in
      ap (λ v. listed_acts v) (filter-append logged (at_slot k rs) (batch_acts b ++ rest) ∙ ap (λ v. v ++ filter logged (batch_acts b ++ rest)) (filter_slot k rs h) ∙ filter-append logged (batch_acts b) rest ∙ ap (λ v. v ++ filter logged rest) (filter_listed b.writer b.ids (acts_of b.bytes)))
      ∙ acts_append (batch_acts b) (filter logged rest)
      ∙ ap (λ v. v ++ listed_acts (filter logged rest)) (listed_act b.writer b.ids (acts_of b.bytes))
      ∙ ap (λ v. acts_of b.bytes ++ v) (log_acts (suc k) log h)

  -- ---- what the list contains

  pub slot_in_upto : (k : ℕ) (log : List Batch) (n : ℕ) (c : ListedAct) → k ≤ n → n < k + length log → Contains (at_slot n rs) c → Contains (upto k log) c
  slot_in_upto k [] n c from below h = absurd (omega (arith, from, below))
  slot_in_upto k (b ∷ log) n c from below h = elim (fits_or_more n k) [
    | inl le ↦
        let e : n ≡ k = omega (arith, from, le) in
        Contains-append_left (at_slot k rs) (batch_acts b ++ upto (suc k) log) c (subst (λ v. Contains (at_slot v rs) c) e h)
    | inr more ↦ Contains-append_right (at_slot k rs) (batch_acts b ++ upto (suc k) log) c (Contains-append_right (batch_acts b) (upto (suc k) log) c (slot_in_upto (suc k) log n c more (omega (arith, below)) h))
  ]

  pub batch_in_upto : (k : ℕ) (xs : List Batch) (b : Batch) (ys : List Batch) (c : ListedAct) → Contains (batch_acts b) c → Contains (upto k (xs ++ b ∷ ys)) c
  batch_in_upto k [] b ys c h = Contains-append_right (at_slot k rs) (batch_acts b ++ upto (suc k) ys) c (Contains-append_left (batch_acts b) (upto (suc k) ys) c h)
  batch_in_upto k (x ∷ xs) b ys c h =
      Contains-append_right (at_slot k rs) (batch_acts x ++ upto (suc k) (xs ++ b ∷ ys)) c (Contains-append_right (batch_acts x) (upto (suc k) (xs ++ b ∷ ys)) c (batch_in_upto (suc k) xs b ys c h))
