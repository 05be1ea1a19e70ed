-- Lemmas: the readings of a pool, each with the number of entries behind which it stands.
use Rattle.std.proofs.Common.{◌≡◌, ◌==◌, ℕ, ◌+◌, ◌≤◌, ◌⊎◌, max, Bool, true, false, ◌&&◌, List, [], ◌∷◌, ◌++◌, length, Option, Some, None, refl, sym, ap, subst, ◌∙◌, append_assoc, arith, inl, inr}
use Rattle.std.specs.Prelude.{Contains, count_by, if◌then◌else◌}
use Rattle.std.specs.List.{flat_map}
use Rattle.std.proofs.Math.Nat.{le-max_left, le-max_right, max-le}
use Rattle.std.proofs.lemmas.List.{append-nil}
use Rattle.std.proofs.lemmas.List.Concat.{flat_map-append}
use Rattle.std.proofs.lemmas.List.Elements.{Contains-append_cases}
use Rattle.service_step.specs.declared.reply.Reply.{Reply}
use Rattle.service_calls.specs.Run.{TimedCall}
use Rattle.pool_core.specs.Acts.{Act, Makes}
use Rattle.pool_core.specs.Events.{AfterFirst, Answers, AsksForEnd, AtOnce, Basis, Drops, Fails, Gets, InPlace, InstanceEvent, LearnsEnd, Offers, PoolEvent, Receives, entries_given, events_at}
use Rattle.pool_core.specs.OneList.{ListedAct, RequestName}
use Rattle.pool_core.specs.Pool.{count_given}
use Rattle.pool_core.specs.Serves.{times}
use Rattle.pool_core.proofs.Lists.{contains_one, contains_none, count_append, count_no, count_yes}
use Rattle.pool_core.proofs.Projections.{at_one, event_of, same_number}
use Rattle.pool_core.proofs.Served.{ids_read, read_in}

-- ---- the most that any instance was given

abbrev pub most_of : List PoolEvent → List PoolEvent → ℕ
most_of before [] = 0
most_of before (e ∷ es) = max (count_given e.instance before) (most_of before es)

abbrev pub most_given : List PoolEvent → ℕ
most_given before = most_of before before

none_else : (i : ℕ) (e : PoolEvent) (es : List PoolEvent) → events_at i es ≡ [] → (b : Bool) → (i == e.instance) ≡ b → (i ≡ e.instance) ⊎ (events_at i (e ∷ es) ≡ [])
none_else i e es none true is = inl (grind (arith, is))
none_else i e es none false is = inr (ap (λ b. (if b then e.event ∷ [] else []) ++ events_at i es) is ∙ none)

given_most_of : (i : ℕ) (before es : List PoolEvent) → (count_given i before ≤ most_of before es) ⊎ (events_at i es ≡ [])
given_most_of i before [] = inr refl
given_most_of i before (e ∷ es) = elim (given_most_of i before es) [
  | inl le ↦ inl (omega (arith, le, le-max_right (count_given e.instance before) (most_of before es)))
  | inr none ↦ elim (none_else i e es none (i == e.instance) refl) [
    | inl same ↦ inl (
        let e' : count_given i before ≡ count_given e.instance before = ap (λ v. count_given v before) same in
        omega (arith, e', le-max_left (count_given e.instance before) (most_of before es)))
    | inr nothing ↦ inr nothing
  ]
]

pub given_most : (i : ℕ) (before : List PoolEvent) → count_given i before ≤ most_given before
given_most i before = elim (given_most_of i before before) [
  | inl le ↦ le
  | inr none ↦ let e : count_given i before ≡ 0 = ap (λ v. length (entries_given v)) none in omega (arith, e)
]

most_bound : (before es : List PoolEvent) (m : ℕ) → ((i : ℕ) → count_given i before ≤ m) → most_of before es ≤ m
most_bound before [] m h = omega arith
most_bound before (e ∷ es) m h = max-le (h e.instance) (most_bound before es m h)

pub most_least : (before : List PoolEvent) (m : ℕ) → ((i : ℕ) → count_given i before ≤ m) → most_given before ≤ m
most_least before m h = most_bound before before m h

-- ---- readings

pub record Reading : Type 0 where
  pub slot : ℕ
  pub call : ListedAct

abbrev pub reading : (i id slot : ℕ) (timed : TimedCall) → Reading
reading i id slot timed = record {
  slot = slot;
  call = record { request = Some (record { instance = i; id = id }); act = Makes timed; logged = false };
}

-- Holds if a reading by this basis stands there with this call.
abbrev pub IsBasis : List PoolEvent → Basis → ℕ → Act → Type 0
IsBasis before InPlace slot act = ⊥
IsBasis before (AfterFirst count timed) slot act = (slot ≡ count) × (act ≡ Makes timed)
IsBasis before (AtOnce timed) slot act = (slot ≡ most_given before) × (act ≡ Makes timed)

-- Returns true if a call is of this request.
abbrev pub is_named : RequestName → Option RequestName → Bool
is_named x None = false
is_named x (Some y) = (x.instance == y.instance) && (x.id == y.id)

abbrev pub is_request : RequestName → ListedAct → Bool
is_request x call = is_named x call.request

pub request_same : (x : RequestName) (call : ListedAct) → call.request ≡ Some x → is_request x call ≡ true
request_same x call h = ap (λ v. is_named x v) h ∙ ap (λ b. b && (x.id == x.id)) (same_number x.instance) ∙ same_number x.id

module _ (serves : ℕ → Bool) where
  abbrev pub if_serves : ℕ → Reading → List Reading
  if_serves i r = if serves i then r ∷ [] else []

  abbrev pub reading_in : (before : List PoolEvent) (i : ℕ) → InstanceEvent → List Reading
  reading_in before i (Answers id (AfterFirst count timed) reply) = if_serves i (reading i id count timed)
  reading_in before i (Answers id (AtOnce timed) reply) = if_serves i (reading i id (most_given before) timed)
  reading_in before i event = []

  -- The readings of events that follow others.
  abbrev pub readings : (before : List PoolEvent) → List PoolEvent → List Reading
  readings before [] = []
  readings before (e ∷ es) = reading_in before e.instance e.event ++ readings (before ++ e ∷ []) es

  pub readings_append : (before xs ys : List PoolEvent) → readings before (xs ++ ys) ≡ readings before xs ++ readings (before ++ xs) ys
  readings_append before [] ys = ap (λ v. readings v ys) (sym (append-nil before))
  readings_append before (x ∷ xs) ys =
      ap (λ v. reading_in before x.instance x.event ++ v) (readings_append (before ++ x ∷ []) xs ys ∙ ap (λ v. readings (before ++ x ∷ []) xs ++ readings v ys) (append_assoc before (x ∷ []) xs))
      ∙ sym (append_assoc (reading_in before x.instance x.event) (readings (before ++ x ∷ []) xs) (readings (before ++ x ∷ xs) ys))

  -- The answer that a reading is of.
  pub record Source (before es : List PoolEvent) (r : Reading) : Type 0 where
    pub earlier : List PoolEvent
    pub instance : ℕ
    pub id : ℕ
    pub basis : Basis
    pub reply : Reply
    pub later : List PoolEvent
    pub split : es ≡ earlier ++ event_of instance (Answers id basis reply) ∷ later
    pub serves_it : serves instance ≡ true
    pub is_basis : IsBasis (before ++ earlier) basis r.slot r.call.act
    pub request : r.call.request ≡ Some (record { instance = instance; id = id })
    pub unlogged : r.call.logged ≡ false

  source_more : (before : List PoolEvent) (e : PoolEvent) (es : List PoolEvent) (r : Reading) → Source (before ++ e ∷ []) es r → Source before (e ∷ es) r
  source_more before e es r s = record {
    earlier = e ∷ s.earlier;
    instance = s.instance;
    id = s.id;
    basis = s.basis;
    reply = s.reply;
    later = s.later;
    split = ap (λ v. e ∷ v) s.split;
    serves_it = s.serves_it;
    is_basis = subst (λ v. IsBasis v s.basis r.slot r.call.act) (append_assoc before (e ∷ []) s.earlier) s.is_basis;
    request = s.request;
    unlogged = s.unlogged;
  }

  -- One event.
  source_if : (before : List PoolEvent) (i id : ℕ) (basis : Basis) (reply : Reply) (es : List PoolEvent) (made r : Reading) → IsBasis before basis made.slot made.call.act
      → made.call.request ≡ Some (record { instance = i; id = id }) → made.call.logged ≡ false
      → (b : Bool) → serves i ≡ b → Contains (if b then made ∷ [] else []) r → Source before (event_of i (Answers id basis reply) ∷ es) r
  source_if before i id basis reply es made r is named unlogged false s h = contains_none r h
  source_if before i id basis reply es made r is named unlogged true s h =
      let e = contains_one made r h in
      record {
        earlier = [];
        instance = i;
        id = id;
        basis = basis;
        reply = reply;
        later = es;
        split = refl;
        serves_it = s;
        is_basis = subst (λ (v : List PoolEvent). IsBasis v basis r.slot r.call.act) (sym (append-nil before)) (subst (λ (v : Reading). IsBasis before basis v.slot v.call.act) e is);
        request = sym (ap (λ (v : Reading). v.call.request) e) ∙ named;
        unlogged = sym (ap (λ (v : Reading). v.call.logged) e) ∙ unlogged;
      }

  source_one : (before : List PoolEvent) (i : ℕ) (event : InstanceEvent) (es : List PoolEvent) (r : Reading) → Contains (reading_in before i event) r → Source before (event_of i event ∷ es) r
  source_one before i (Receives id call) es r h = contains_none r h
  source_one before i (Offers ids bytes) es r h = contains_none r h
  source_one before i (Gets entry) es r h = contains_none r h
  source_one before i (AsksForEnd question) es r h = contains_none r h
  source_one before i (LearnsEnd question count) es r h = contains_none r h
  source_one before i (Fails id) es r h = contains_none r h
  source_one before i (Drops id) es r h = contains_none r h
  source_one before i (Answers id InPlace reply) es r h = contains_none r h
  source_one before i (Answers id (AfterFirst count timed) reply) es r h =
      source_if before i id (AfterFirst count timed) reply es (reading i id count timed) r (refl, refl) refl refl (serves i) refl h
  source_one before i (Answers id (AtOnce timed) reply) es r h =
      source_if before i id (AtOnce timed) reply es (reading i id (most_given before) timed) r (refl, refl) refl refl (serves i) refl h

  pub source : (before es : List PoolEvent) (r : Reading) → Contains (readings before es) r → Source before es r
  source before [] r h = contains_none r h
  source before (e ∷ es) r h = elim (Contains-append_cases (reading_in before e.instance e.event) (readings (before ++ e ∷ []) es) r h) [
    | inl now ↦ source_one before e.instance e.event es r now
    | inr later ↦ source_more before e es r (source (before ++ e ∷ []) es r later)
  ]

  -- ---- how often a request is read

  read_yes : (x : RequestName) (i id slot : ℕ) (timed : TimedCall) → (d : Bool) → (x.instance == i) ≡ true → (x.id == id) ≡ d → count_by (λ r. is_request x r.call) (reading i id slot timed ∷ []) ≤ times x.id (id ∷ [])
  read_yes x i id slot timed true same named =
      let test : is_request x (reading i id slot timed).call ≡ true = ap (λ b. b && (x.id == id)) same ∙ named in
      omega (arith, count_yes (λ (r : Reading). is_request x r.call) (reading i id slot timed) [] test, count_yes (λ k. x.id == k) id [] named)
  read_yes x i id slot timed false same named =
      let test : is_request x (reading i id slot timed).call ≡ false = ap (λ b. b && (x.id == id)) same ∙ named in
      omega (arith, count_no (λ (r : Reading). is_request x r.call) (reading i id slot timed) [] test)

  if_read : (x : RequestName) (i id slot : ℕ) (timed : TimedCall) (s b : Bool) → (x.instance == i) ≡ b
      → count_by (λ r. is_request x r.call) (if s then reading i id slot timed ∷ [] else []) ≤ times x.id (if b then id ∷ [] else [])
  if_read x i id slot timed false b same = omega arith
  if_read x i id slot timed true false same =
      let test : is_request x (reading i id slot timed).call ≡ false = ap (λ b. b && (x.id == id)) same in
      omega (arith, count_no (λ (r : Reading). is_request x r.call) (reading i id slot timed) [] test)
  if_read x i id slot timed true true same = read_yes x i id slot timed (x.id == id) same refl

  at_if : (event : InstanceEvent) (ids : List ℕ) (b : Bool) → read_in event ≡ ids → flat_map read_in (if b then event ∷ [] else []) ≡ (if b then ids else [])
  at_if event ids false h = refl
  at_if event ids true h = append-nil (read_in event) ∙ h

  read_one : (x : RequestName) (before : List PoolEvent) (i : ℕ) (event : InstanceEvent) → count_by (λ r. is_request x r.call) (reading_in before i event) ≤ times x.id (ids_read (at_one x.instance (event_of i event)))
  read_one x before i (Receives id call) = omega arith
  read_one x before i (Offers ids bytes) = omega arith
  read_one x before i (Gets entry) = omega arith
  read_one x before i (AsksForEnd question) = omega arith
  read_one x before i (LearnsEnd question count) = omega arith
  read_one x before i (Fails id) = omega arith
  read_one x before i (Drops id) = omega arith
  read_one x before i (Answers id InPlace reply) = omega arith
  read_one x before i (Answers id (AfterFirst count timed) reply) =
      subst (λ v. count_by (λ r. is_request x r.call) (if_serves i (reading i id count timed)) ≤ times x.id v) (sym (at_if (Answers id (AfterFirst count timed) reply) (id ∷ []) (x.instance == i) refl))
      (if_read x i id count timed (serves i) (x.instance == i) refl)
  read_one x before i (Answers id (AtOnce timed) reply) =
      subst (λ v. count_by (λ r. is_request x r.call) (if_serves i (reading i id (most_given before) timed)) ≤ times x.id v) (sym (at_if (Answers id (AtOnce timed) reply) (id ∷ []) (x.instance == i) refl))
      (if_read x i id (most_given before) timed (serves i) (x.instance == i) refl)

  -- A request is among the readings as often as it was answered as a reading, at most.
  pub reads_bound : (x : RequestName) (before es : List PoolEvent) → count_by (λ r. is_request x r.call) (readings before es) ≤ times x.id (ids_read (events_at x.instance es))
  reads_bound x before [] = omega arith
  reads_bound x before (e ∷ es) =
      let split : times x.id (ids_read (events_at x.instance (e ∷ es))) ≡ times x.id (ids_read (at_one x.instance e)) + times x.id (ids_read (events_at x.instance es)) =
      ap (λ v. times x.id v) (flat_map-append read_in (at_one x.instance e) (events_at x.instance es)) ∙ count_append (λ k. x.id == k) (ids_read (at_one x.instance e)) (ids_read (events_at x.instance es)) in
      omega (
        arith,
        split,
        read_one x before e.instance e.event,
        reads_bound x (before ++ e ∷ []) es,
        count_append (λ (r : Reading). is_request x r.call) (reading_in before e.instance e.event) (readings (before ++ e ∷ []) es),
      )
