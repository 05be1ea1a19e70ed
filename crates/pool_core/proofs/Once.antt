-- Lemmas: how often a request is in the one list.
use Rattle.std.proofs.Common.{◌≡◌, ◌==◌, nat_le, ℕ, suc, ◌+◌, ◌≤◌, Bool, true, false, cond, ◌&&◌, ◌||◌, List, [], ◌∷◌, ◌++◌, map, Some, None, refl, sym, ap, ◌∙◌, arith, zero-add}
use Rattle.std.specs.Prelude.{count_by, filter, if◌then◌else◌}
use Rattle.std.specs.List.{flat_map}
use Rattle.std.proofs.lemmas.List.{append-nil}
use Rattle.std.proofs.lemmas.List.Concat.{flat_map-append}
use Rattle.pool_core.specs.Acts.{Act}
use Rattle.pool_core.specs.Events.{Answers, AsksForEnd, Batch, Drops, Fails, Gets, InstanceEvent, LearnsEnd, Offers, PoolEvent, Receives, batch_in, batches_offered, events_at}
use Rattle.pool_core.specs.OneList.{ListedAct, RequestName}
use Rattle.pool_core.specs.Pool.{batches_by}
use Rattle.pool_core.specs.Serves.{ids_offered, offered_in, times}
use Rattle.pool_core.proofs.Build.{at_slot, batch_acts, listed, one_list}
use Rattle.pool_core.proofs.Lists.{count_append, count_cons, count_no}
use Rattle.pool_core.proofs.Readings.{Reading, is_request, readings, reads_bound}
use Rattle.pool_core.proofs.Served.{uses}

le_cases : (k s : ℕ) → nat_le k s ≡ ((k == s) || nat_le (suc k) s)
le_cases k s = grind arith

not_both : (k s : ℕ) → ((k == s) && nat_le (suc k) s) ≡ false
not_both k s = grind arith

zero_le : (s : ℕ) → nat_le 0 s ≡ true
zero_le s = grind arith

module _ (p : ListedAct → Bool) where
  -- How many readings from a slot on pass.
  abbrev pub from_slot : ℕ → List Reading → ℕ
  from_slot k [] = 0
  from_slot k (r ∷ rs) = cond (nat_le k r.slot && p r.call) 1 0 + from_slot k rs

  slot_bits : (a b c t : Bool) → c ≡ (a || b) → (a && b) ≡ false → cond a (cond t 1 0) 0 + cond (b && t) 1 0 ≡ cond (c && t) 1 0
  slot_bits true true c t h k = absurd cc
  slot_bits true false c true h k = sym (ap (λ v. cond (v && true) 1 0) h)
  slot_bits true false c false h k = sym (ap (λ v. cond (v && false) 1 0) h)
  slot_bits false true c true h k = sym (ap (λ v. cond (v && true) 1 0) h)
  slot_bits false true c false h k = sym (ap (λ v. cond (v && false) 1 0) h)
  slot_bits false false c true h k = sym (ap (λ v. cond (v && true) 1 0) h)
  slot_bits false false c false h k = sym (ap (λ v. cond (v && false) 1 0) h)

  slot_case : (k s : ℕ) (t : Bool) → (cond (k == s) (cond t 1 0) 0) + cond (nat_le (suc k) s && t) 1 0 ≡ cond (nat_le k s && t) 1 0
  slot_case k s t = slot_bits (k == s) (nat_le (suc k) s) (nat_le k s) t (le_cases k s) (not_both k s)

  slot_count : (r : Reading) (rs : List Reading) (b : Bool) → count_by p (map (λ v. v.call) (cond b (r ∷ rs) rs)) ≡ cond b (cond (p r.call) 1 0) 0 + count_by p (map (λ v. v.call) rs)
  slot_count r rs true = count_cons p r.call (map (λ v. v.call) rs)
  slot_count r rs false = sym (zero-add (count_by p (map (λ v. v.call) rs)))

  count_slot : (k : ℕ) (r : Reading) (rs : List Reading) → count_by p (at_slot k (r ∷ rs)) ≡ cond (k == r.slot) (cond (p r.call) 1 0) 0 + count_by p (at_slot k rs)
  count_slot k r rs = slot_count r (filter (λ v. k == v.slot) rs) (k == r.slot)

  slot_rest : (k : ℕ) (rs : List Reading) → count_by p (at_slot k rs) + from_slot (suc k) rs ≡ from_slot k rs
  slot_rest k [] = omega arith
  slot_rest k (r ∷ rs) = omega (arith, count_slot k r rs, slot_case k r.slot (p r.call), slot_rest k rs)

  from_zero : (rs : List Reading) → from_slot 0 rs ≡ count_by (λ r. p r.call) rs
  from_zero [] = refl
  from_zero (r ∷ rs) =
      ap (λ b. cond (b && p r.call) 1 0 + from_slot 0 rs) (zero_le r.slot) ∙ ap (λ v. cond (p r.call) 1 0 + v) (from_zero rs) ∙ sym (count_cons (λ (v : Reading). p v.call) r rs)

  pub one_bound : (acts_of : List ℕ → List Act) (rs : List Reading) (k : ℕ) (log : List Batch)
      → count_by p (one_list acts_of rs k log) ≤ from_slot k rs + count_by p (flat_map (batch_acts acts_of rs) log)
  one_bound acts_of rs k [] = omega (arith, slot_rest k rs)
  one_bound acts_of rs k (b ∷ log) =
      omega (
        arith,
        slot_rest k rs,
        one_bound acts_of rs (suc k) log,
        count_append p (at_slot k rs) (batch_acts acts_of rs b ++ one_list acts_of rs (suc k) log),
        count_append p (batch_acts acts_of rs b) (one_list acts_of rs (suc k) log),
        count_append p (batch_acts acts_of rs b) (flat_map (batch_acts acts_of rs) log),
      )

-- ---- requests in batches

listed_bound : (x : RequestName) (w : ℕ) (ids : List ℕ) (cs : List Act) (b : Bool) → (x.instance == w) ≡ b → count_by (is_request x) (listed w ids cs) ≤ (if b then times x.id ids else 0)
listed_bound x w ids [] b is = omega arith
listed_bound x w [] (c ∷ cs) b is =
    omega (arith, listed_bound x w [] cs b is, count_no (is_request x) (record { request = None; act = c; logged = true }) (listed w [] cs) refl)
listed_bound x w (id ∷ ids) (c ∷ cs) true is =
    let call : ListedAct = record { request = Some (record { instance = w; id = id }); act = c; logged = true } in
    let test : (is_request x call) ≡ (x.id == id) = ap (λ b. b && (x.id == id)) is in
    let one : count_by (is_request x) (call ∷ listed w ids cs) ≡ cond (x.id == id) 1 0 + count_by (is_request x) (listed w ids cs) = count_cons (is_request x) call (listed w ids cs) ∙ ap (λ b. cond b 1 0 + count_by (is_request x) (listed w ids cs)) test in
    omega (arith, one, listed_bound x w ids cs true is, count_cons (λ k. x.id == k) id ids)
listed_bound x w (id ∷ ids) (c ∷ cs) false is =
    let call : ListedAct = record { request = Some (record { instance = w; id = id }); act = c; logged = true } in
    omega (arith, listed_bound x w ids cs false is, count_no (is_request x) call (listed w ids cs) (ap (λ b. b && (x.id == id)) is))

batch_case : (x : RequestName) (batch : Batch) (rest : List Batch) (b : Bool) → times x.id (flat_map (λ v. v.ids) (cond b (batch ∷ rest) rest)) ≡ (if b then times x.id batch.ids else 0) + times x.id (flat_map (λ v. v.ids) rest)
batch_case x batch rest true = count_append (λ k. x.id == k) batch.ids (flat_map (λ v. v.ids) rest)
batch_case x batch rest false = sym (zero-add (times x.id (flat_map (λ v. v.ids) rest)))

batches_bound : (x : RequestName) (acts_of : List ℕ → List Act) (rs : List Reading) (log : List Batch)
    → count_by (is_request x) (flat_map (batch_acts acts_of rs) log) ≤ times x.id (flat_map (λ b. b.ids) (batches_by x.instance log))
batches_bound x acts_of rs [] = omega arith
batches_bound x acts_of rs (b ∷ log) =
    omega (
      arith,
      batches_bound x acts_of rs log,
      count_append (is_request x) (batch_acts acts_of rs b) (flat_map (batch_acts acts_of rs) log),
      listed_bound x b.writer b.ids (acts_of b.bytes) (x.instance == b.writer) refl,
      batch_case x b (batches_by x.instance log) (x.instance == b.writer),
    )

-- The ids of the batches that were offered.
offered_one : (i : ℕ) (e : InstanceEvent) → flat_map (λ b. b.ids) (batch_in i e) ≡ offered_in e
offered_one i (Receives id call) = refl
offered_one i (Offers ids bytes) = append-nil ids
offered_one i (Gets entry) = refl
offered_one i (AsksForEnd question) = refl
offered_one i (LearnsEnd question count) = refl
offered_one i (Answers id basis reply) = refl
offered_one i (Fails id) = refl
offered_one i (Drops id) = refl

pub offered_ids : (i : ℕ) (es : List InstanceEvent) → flat_map (λ b. b.ids) (batches_offered i es) ≡ ids_offered es
offered_ids i [] = refl
offered_ids i (e ∷ es) = flat_map-append (λ (b : Batch). b.ids) (batch_in i e) (batches_offered i es) ∙ ap (λ v. v ++ flat_map (λ b. b.ids) (batches_offered i es)) (offered_one i e) ∙ ap (λ v. offered_in e ++ v) (offered_ids i es)

-- A request is in the list as often as it was offered or answered as a reading, at most.
pub list_bound : (x : RequestName) (serves : ℕ → Bool) (acts_of : List ℕ → List Act) (events : List PoolEvent) (log : List Batch) (rest : List Batch)
    → batches_offered x.instance (events_at x.instance events) ≡ batches_by x.instance log ++ rest
    → count_by (is_request x) (one_list acts_of (readings serves [] events) 0 log) ≤ uses x.id (events_at x.instance events)
list_bound x serves acts_of events log rest own =
    let rs = readings serves [] events in
    let these = events_at x.instance events in
    let split : times x.id (ids_offered these) ≡ times x.id (flat_map (λ b. b.ids) (batches_by x.instance log)) + times x.id (flat_map (λ b. b.ids) rest) =
    ap (λ v. times x.id v) (sym (offered_ids x.instance these) ∙ ap (λ v. flat_map (λ b. b.ids) v) own ∙ flat_map-append (λ (b : Batch). b.ids) (batches_by x.instance log) rest)
    ∙ count_append (λ k. x.id == k) (flat_map (λ b. b.ids) (batches_by x.instance log)) (flat_map (λ b. b.ids) rest) in
    omega (arith, split, one_bound (is_request x) acts_of rs 0 log, from_zero (is_request x) rs, batches_bound x acts_of rs log, reads_bound serves x [] events)
