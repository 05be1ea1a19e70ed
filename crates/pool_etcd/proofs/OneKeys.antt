-- Lemmas: each value of a process is written once.
use Rattle.std.proofs.Common.{◌≡◌, ◌≢◌, ℕ, ◌<◌, ◌≤◌, nat_lt, List, [], ◌∷◌, ◌++◌, Bool, true, false, cond, Option, Some, None, ◌⊎◌, inl, inr, refl, sym, ◌∙◌, ap, subst, arith}
use Rattle.std.specs.Str.{bytes_eq}
use Rattle.std.proofs.lemmas.Bool.{ltb-true}
use Rattle.std.proofs.lemmas.Slice.Eq.{bytes_eq-Decides}
use Rattle.pool_etcd.specs.declared.own_entries.OwnState.{OwnState}
use Rattle.pool_etcd.specs.declared.own_entries.OwnState.TheVariants.{Unknown, Fencing, Idle, Sending, Settling, Unmade, Lost}
use Rattle.pool_etcd.specs.declared.response.PutOutcome.{PutOutcome}
use Rattle.pool_etcd.specs.declared.response.PutOutcome.TheVariants.{Stored, Refused}
use Rattle.pool_etcd.specs.declared.response.StoredValue.{StoredValue}
use Rattle.pool_etcd.specs.OwnEntries.{Put, Takes, after_revision, after_settle, due_in, idle_behind, idle_or, outcome_in, stored_at}
use Rattle.pool_etcd.specs.OneKey.{Write, SentPut, KeyState, Among, AreInOrder, IsAllOrAllButLast, IsAnswer, IsStart, KeyEvent, Takes_value, Settles, Sends, Stores, Other, Learns_revision, Learns_outcome, Leads, Run, EachValueOnce, UnmadeIsFinal, last_revision, own_values, stored_in}

-- ---- lists of writes

taken_branch : {A : Type 0} (b : Bool) (x y : A) → b ≡ true → cond b x y ≡ x
taken_branch true x y e = refl
taken_branch false x y e = let h : ⊥ = cc in absurd h

pub other_branch : {A : Type 0} (b : Bool) (x y : A) → b ≡ false → cond b x y ≡ y
other_branch true x y e = let h : ⊥ = cc in absurd h
other_branch false x y e = refl

false_unless : (b : Bool) → (b ≡ true → ⊥) → b ≡ false
false_unless true h = absurd (h refl)
false_unless false h = refl

-- No write is later than the last one.
pub last_is_greatest : (ws : List Write) (w : Write) → AreInOrder ws → Among w ws → w.revision ≤ last_revision ws
last_is_greatest [] w order h = absurd h
last_is_greatest (x ∷ ws) w order (inl e) = let same : w.revision ≡ x.revision = ap (λ (y : Write). y.revision) e in omega arith
last_is_greatest (x ∷ ws) w order (inr h) = let low : w.revision ≤ last_revision ws = last_is_greatest ws w order.1 h in let next : last_revision ws < x.revision = order.0 in omega arith

pub in_order_before : (newer ws : List Write) → AreInOrder (newer ++ ws) → AreInOrder ws
in_order_before [] ws h = h
in_order_before (x ∷ newer) ws h = in_order_before newer ws h.1

before_is_lower : (newer ws : List Write) → AreInOrder (newer ++ ws) → last_revision ws ≤ last_revision (newer ++ ws)
before_is_lower [] ws h = omega arith
before_is_lower (x ∷ newer) ws h = let low : last_revision ws ≤ last_revision (newer ++ ws) = before_is_lower newer ws h.1 in let next : last_revision (newer ++ ws) < x.revision = h.0 in omega arith

among_middle : (newer : List Write) (w : Write) (older : List Write) → Among w (newer ++ w ∷ older)
among_middle [] w older = inl refl
among_middle (x ∷ newer) w older = inr (among_middle newer w older)

first_clean : (b : Bool) (v : List ℕ) (vs us : List (List ℕ)) → cond b (v ∷ vs) us ≡ [] → (b ≡ false) × (us ≡ [])
first_clean true v vs us e = let h : ⊥ = cc in absurd h
first_clean false v vs us e = (refl, e)

none_among : (mine : List ℕ → Bool) (ws : List Write) → own_values mine ws ≡ [] → (w : Write) → Among w ws → mine w.value ≡ false
none_among mine [] e w h = absurd h
none_among mine (x ∷ ws) e w (inl same) = ap (λ (y : Write). mine y.value) same ∙ (first_clean (mine x.value) x.value (own_values mine ws) (own_values mine ws) e).0
none_among mine (x ∷ ws) e w (inr h) = none_among mine ws (first_clean (mine x.value) x.value (own_values mine ws) (own_values mine ws) e).1 w h

-- ---- answers

-- A write of the value, at the revision.
abbrev pub Found : List Write → List ℕ → ℕ → Type 0
Found ws value q = (w : Write) × Among w ws × (w.revision ≡ q) × (w.value ≡ value)

found_then : (f : StoredValue) (newer seen ws : List Write) (value : List ℕ) (q : ℕ) → f.value ≡ value → f.revision ≡ q → ws ≡ newer ++ seen → Some f ≡ stored_in seen → (Found ws value q) × (last_revision seen ≡ q)
found_then f newer [] ws value q v r split is = let h : ⊥ = cc in absurd h
found_then f newer (x ∷ seen) ws value q v r split is =
    let same : f ≡ record { revision = x.revision; value = x.value } = cc in
    let revision : x.revision ≡ q = sym (ap (λ (y : StoredValue). y.revision) same) ∙ r in
    let is_value : x.value ≡ value = sym (ap (λ (y : StoredValue). y.value) same) ∙ v in
    let among : Among x ws = subst (λ (ys : List Write). Among x ys) (sym split) (among_middle newer x seen) in
    ((x, among, revision, is_value), revision)

some_test : (b : Bool) (r q : ℕ) → cond b (Some r) None ≡ Some q → (b ≡ true) × (r ≡ q)
some_test true r q e = (refl, cc)
some_test false r q e = let h : ⊥ = cc in absurd h

-- An answer that has the value stored at a revision: it was written there.
pub answered : (k : KeyState) (put : Put) (o : PutOutcome) (q : ℕ) → IsAnswer k put o → stored_at put.value o ≡ Some q → Found k.writes put.value q
answered k put (Stored r) q a e =
    let same : r ≡ q = cc in
    let w : Write = record { revision = r; value = put.value } in
    (w, subst (λ (ys : List Write). Among w ys) (sym a.2) (among_middle a.0 w a.1), same, refl)
answered k put (Refused None) q a e = let h : ⊥ = cc in absurd h
answered k put (Refused (Some f)) q a e =
    let t = some_test (bytes_eq f.value put.value) f.revision q e in
    (found_then f a.1 a.2 k.writes put.value q ((bytes_eq-Decides f.value put.value).0 t.0) t.1 a.6 a.9).0

-- The put was sent at a time when the key had the revision of its compare.
abbrev pub WasSentAt : List SentPut → Put → Type 0
WasSentAt sent put = (s : SentPut) → Among s sent → s.put ≡ put → put.revision ≤ last_revision s.writes

-- It was written after that revision.
pub later : (k : KeyState) (put : Put) (o : PutOutcome) (q : ℕ) → AreInOrder k.writes → WasSentAt k.sent put → IsAnswer k put o → stored_at put.value o ≡ Some q → put.revision < q
later k put (Stored r) q order since a e =
    let same : r ≡ q = cc in
    let there : AreInOrder (record { revision = r; value = put.value } ∷ a.1) = in_order_before a.0 _ (subst (λ (ys : List Write). AreInOrder ys) a.2 order) in
    let low : last_revision a.1 < r = there.0 in
    let start : last_revision a.1 ≡ put.revision = a.3 in
    omega arith
later k put (Refused None) q order since a e = let h : ⊥ = cc in absurd h
later k put (Refused (Some f)) q order since a e =
    let t = some_test (bytes_eq f.value put.value) f.revision q e in
    let found = found_then f a.1 a.2 k.writes put.value q ((bytes_eq-Decides f.value put.value).0 t.0) t.1 a.6 a.9 in
    let last : last_revision a.2 ≡ q = found.1 in
    let order_then : AreInOrder a.2 = in_order_before a.1 a.2 (subst (λ (ys : List Write). AreInOrder ys) a.6 order) in
    let low : last_revision a.0.writes ≤ last_revision (a.3 ++ a.0.writes) = before_is_lower a.3 a.0.writes (subst (λ (ys : List Write). AreInOrder ys) a.7 order_then) in
    let ext : last_revision a.2 ≡ last_revision (a.3 ++ a.0.writes) = ap last_revision a.7 in
    let known : put.revision ≤ last_revision a.0.writes = since a.0 a.4 a.5 in
    let other : last_revision a.2 ≢ put.revision = a.8 in
    omega arith

-- ---- what stays true

-- No value was taken, sent or written.
pub record Nothing (mine : List ℕ → Bool) (sent : List SentPut) (writes : List Write) (taken : List (List ℕ)) : Type 0 where
  pub puts : (s : SentPut) → Among s sent → mine s.put.value ≡ false
  pub clean : (w : Write) → Among w writes → mine w.value ≡ false
  pub stored : own_values mine writes ≡ []
  pub none : taken ≡ []

-- No value was written after the revision.
abbrev pub NoneAfter : (List ℕ → Bool) → ℕ → List Write → Type 0
NoneAfter mine r writes = (w : Write) → Among w writes → r < w.revision → mine w.value ≡ false

-- All values are written, and no put can write another one.
pub record Settled (mine : List ℕ → Bool) (r : ℕ) (sent : List SentPut) (writes : List Write) (taken : List (List ℕ)) : Type 0 where
  pub puts : (s : SentPut) → Among s sent → mine s.put.value ≡ true → s.put.revision < r
  pub reached : r ≤ last_revision writes
  pub after : NoneAfter mine r writes
  pub all : taken ≡ own_values mine writes

-- The last value taken is not written.
pub record NotYet (mine : List ℕ → Bool) (r : ℕ) (v : List ℕ) (writes : List Write) (taken : List (List ℕ)) : Type 0 where
  pub after : NoneAfter mine r writes
  pub but_last : taken ≡ v ∷ own_values mine writes

-- All values are written, the last one after the revision, and no other one after that.
pub record Done (mine : List ℕ → Bool) (r : ℕ) (writes : List Write) (taken : List (List ℕ)) : Type 0 where
  pub place : ℕ
  pub later_place : r < place
  pub within : place ≤ last_revision writes
  pub only : (w : Write) → Among w writes → r < w.revision → mine w.value ≡ true → w.revision ≡ place
  pub first : (w : Write) → Among w writes → r < w.revision → place ≤ w.revision
  pub there : (w : Write) × Among w writes × (w.revision ≡ place)
  pub its : (w : Write) → Among w writes → w.revision ≡ place → mine w.value ≡ true
  pub all : taken ≡ own_values mine writes

-- A put that can write a value is the one of the last value, at the revision.
abbrev pub CanWrite : ℕ → List ℕ → SentPut → Type 0
CanWrite r v s = (s.put.revision < r) ⊎ ((s.put.revision ≡ r) × (s.put.value ≡ v) × (r ≤ last_revision s.writes))

-- The last value taken may be written.
pub record OpenPut (mine : List ℕ → Bool) (r : ℕ) (v : List ℕ) (sent : List SentPut) (writes : List Write) (taken : List (List ℕ)) : Type 0 where
  pub puts : (s : SentPut) → Among s sent → mine s.put.value ≡ true → CanWrite r v s
  pub reached : r ≤ last_revision writes
  pub is_mine : mine v ≡ true
  pub stored : NotYet mine r v writes taken ⊎ Done mine r writes taken

-- The last value taken is not written, and something else is in its place.
pub record Over (mine : List ℕ → Bool) (r : ℕ) (v : List ℕ) (sent : List SentPut) (writes : List Write) (taken : List (List ℕ)) : Type 0 where
  pub puts : (s : SentPut) → Among s sent → mine s.put.value ≡ true → CanWrite r v s
  pub past : r < last_revision writes
  pub is_mine : mine v ≡ true
  pub yet : NotYet mine r v writes taken

abbrev pub Phase : (List ℕ → Bool) → OwnState → List ℕ → List SentPut → List Write → List (List ℕ) → Type 0
Phase mine Unknown value sent writes taken = Nothing mine sent writes taken
Phase mine (Fencing r) value sent writes taken = Nothing mine sent writes taken
Phase mine (Idle r) value sent writes taken = Settled mine r sent writes taken
Phase mine (Sending r) value sent writes taken = OpenPut mine r value sent writes taken
Phase mine (Settling r) value sent writes taken = OpenPut mine r value sent writes taken
Phase mine (Unmade q) value sent writes taken = (r : ℕ) × (v : List ℕ) × Over mine r v sent writes taken
Phase mine Lost value sent writes taken = (r : ℕ) × (v : List ℕ) × OpenPut mine r v sent writes taken

-- ---- a value is taken

takes_value : (mine : List ℕ → Bool) (st next : OwnState) (value v : List ℕ) (sent : List SentPut) (writes : List Write) (taken : List (List ℕ))
    → mine v ≡ true → Takes st next → Phase mine st value sent writes taken → Phase mine next v sent writes (v ∷ taken)
takes_value mine Unknown next value v sent writes taken is t p = absurd t
takes_value mine (Fencing r) next value v sent writes taken is t p = absurd t
takes_value mine (Idle r) next value v sent writes taken is t p =
    let open_put : OpenPut mine r v sent writes (v ∷ taken) = record {
      puts = λ s among m. inl (p.puts s among m);
      reached = p.reached;
      is_mine = is;
      stored = inl (record { after = p.after; but_last = ap (λ (vs : List (List ℕ)). v ∷ vs) p.all });
    } in
    subst (λ (st : OwnState). Phase mine st v sent writes (v ∷ taken)) (sym t) open_put
takes_value mine (Sending r) next value v sent writes taken is t p = absurd t
takes_value mine (Settling r) next value v sent writes taken is t p = absurd t
takes_value mine (Unmade q) next value v sent writes taken is t p = absurd t
takes_value mine Lost next value v sent writes taken is t p = absurd t

-- ---- a put is sent

sends : (mine : List ℕ → Bool) (st : OwnState) (fence value : List ℕ) (sent : List SentPut) (writes : List Write) (taken : List (List ℕ)) (put : Put)
    → mine fence ≡ false → due_in st fence value ≡ Some put → Phase mine st value sent writes taken
    → Phase mine st value (record { put = put; writes = writes } ∷ sent) writes taken
sends mine Unknown fence value sent writes taken put f due p = let h : ⊥ = cc in absurd h
sends mine (Fencing r) fence value sent writes taken put f due p = record {
  puts = now;
  clean = p.clean;
  stored = p.stored;
  none = p.none;
}
  where
    now : (s : SentPut) → Among s (record { put = put; writes = writes } ∷ sent) → mine s.put.value ≡ false
    now s (inl e) =
        let is_put : record { value = fence; revision = r } ≡ put = cc in
        ap (λ (x : SentPut). mine x.put.value) e ∙ ap (λ (x : Put). mine x.value) (sym is_put) ∙ f
    now s (inr h) = p.puts s h
sends mine (Idle r) fence value sent writes taken put f due p = let h : ⊥ = cc in absurd h
sends mine (Sending r) fence value sent writes taken put f due p = record {
  puts = now;
  reached = p.reached;
  is_mine = p.is_mine;
  stored = p.stored;
}
  where
    now : (s : SentPut) → Among s (record { put = put; writes = writes } ∷ sent) → mine s.put.value ≡ true → CanWrite r value s
    now s (inl e) m =
        let is_put : record { value = value; revision = r } ≡ put = cc in
        let same : s.put ≡ put = ap (λ (x : SentPut). x.put) e in
        let at : s.put.revision ≡ r = ap (λ (x : Put). x.revision) (same ∙ sym is_put) in
        let of : s.put.value ≡ value = ap (λ (x : Put). x.value) (same ∙ sym is_put) in
        let then : writes ≡ s.writes = sym (ap (λ (x : SentPut). x.writes) e) in
        inr (at, of, subst (λ (ys : List Write). r ≤ last_revision ys) then p.reached)
    now s (inr h) m = p.puts s h m
sends mine (Settling r) fence value sent writes taken put f due p = record {
  puts = now;
  reached = p.reached;
  is_mine = p.is_mine;
  stored = p.stored;
}
  where
    now : (s : SentPut) → Among s (record { put = put; writes = writes } ∷ sent) → mine s.put.value ≡ true → CanWrite r value s
    now s (inl e) m =
        let is_put : record { value = fence; revision = r } ≡ put = cc in
        let no : mine s.put.value ≡ false = ap (λ (x : SentPut). mine x.put.value) e ∙ ap (λ (x : Put). mine x.value) (sym is_put) ∙ f in
        let h : ⊥ = cc in absurd h
    now s (inr h) m = p.puts s h m
sends mine (Unmade q) fence value sent writes taken put f due p = let h : ⊥ = cc in absurd h
sends mine Lost fence value sent writes taken put f due p = let h : ⊥ = cc in absurd h

-- ---- somebody writes, or a put is stored

abbrev AfterWrite : (List ℕ → Bool) → OwnState → List ℕ → List SentPut → List Write → List (List ℕ) → Write → Type 0
AfterWrite mine st value sent writes taken w = Phase mine st value sent (w ∷ writes) taken

pub none_after_more : (mine : List ℕ → Bool) (r : ℕ) (writes : List Write) (w : Write) → mine w.value ≡ false → NoneAfter mine r writes → NoneAfter mine r (w ∷ writes)
none_after_more mine r writes w other after x (inl e) low = ap (λ (y : Write). mine y.value) e ∙ other
none_after_more mine r writes w other after x (inr h) low = after x h low

pub same_values : (mine : List ℕ → Bool) (writes : List Write) (w : Write) → mine w.value ≡ false → own_values mine writes ≡ own_values mine (w ∷ writes)
same_values mine writes w other = sym (other_branch (mine w.value) (w.value ∷ own_values mine writes) (own_values mine writes) other)

pub not_yet_more : (mine : List ℕ → Bool) (r : ℕ) (v : List ℕ) (writes : List Write) (taken : List (List ℕ)) (w : Write)
    → mine w.value ≡ false → NotYet mine r v writes taken → NotYet mine r v (w ∷ writes) taken
not_yet_more mine r v writes taken w other n = record {
  after = none_after_more mine r writes w other n.after;
  but_last = n.but_last ∙ ap (λ (vs : List (List ℕ)). v ∷ vs) (same_values mine writes w other);
}

pub over_more : (mine : List ℕ → Bool) (r : ℕ) (v : List ℕ) (sent : List SentPut) (writes : List Write) (taken : List (List ℕ)) (w : Write)
    → mine w.value ≡ false → last_revision writes < w.revision → Over mine r v sent writes taken → Over mine r v sent (w ∷ writes) taken
over_more mine r v sent writes taken w other low p = record {
  puts = p.puts;
  past = let q : r < last_revision writes = p.past in omega arith;
  is_mine = p.is_mine;
  yet = not_yet_more mine r v writes taken w other p.yet;
}

other_put : (mine : List ℕ → Bool) (r : ℕ) (v : List ℕ) (sent : List SentPut) (writes : List Write) (taken : List (List ℕ)) (w : Write)
    → mine w.value ≡ false → last_revision writes < w.revision → OpenPut mine r v sent writes taken → OpenPut mine r v sent (w ∷ writes) taken
other_put mine r v sent writes taken w other low p = record {
  puts = p.puts;
  reached = let q : r ≤ last_revision writes = p.reached in omega arith;
  is_mine = p.is_mine;
  stored = now p.stored;
}
  where
    only_more : (d : Done mine r writes taken) (x : Write) → Among x (w ∷ writes) → r < x.revision → mine x.value ≡ true → x.revision ≡ d.place
    only_more d x (inl e) after m = let wrong : mine w.value ≡ true = sym (ap (λ (y : Write). mine y.value) e) ∙ m in let h : ⊥ = cc in absurd h
    only_more d x (inr h) after m = d.only x h after m

    first_more : (d : Done mine r writes taken) (x : Write) → Among x (w ∷ writes) → r < x.revision → d.place ≤ x.revision
    first_more d x (inl e) after = let is : x.revision ≡ w.revision = ap (λ (y : Write). y.revision) e in let q : d.place ≤ last_revision writes = d.within in omega arith
    first_more d x (inr h) after = d.first x h after

    its_more : (d : Done mine r writes taken) (x : Write) → Among x (w ∷ writes) → x.revision ≡ d.place → mine x.value ≡ true
    its_more d x (inl e) at = let is : x.revision ≡ w.revision = ap (λ (y : Write). y.revision) e in let q : d.place ≤ last_revision writes = d.within in absurd (omega arith)
    its_more d x (inr h) at = d.its x h at

    now : NotYet mine r v writes taken ⊎ Done mine r writes taken → NotYet mine r v (w ∷ writes) taken ⊎ Done mine r (w ∷ writes) taken
    now (inl n) = inl (not_yet_more mine r v writes taken w other n)
    now (inr d) = inr (record {
      place = d.place;
      later_place = d.later_place;
      within = let q : d.place ≤ last_revision writes = d.within in omega arith;
      only = only_more d;
      first = first_more d;
      there = (d.there.0, inr d.there.1, d.there.2);
      its = its_more d;
      all = d.all ∙ same_values mine writes w other;
    })

nothing_more : (mine : List ℕ → Bool) (sent : List SentPut) (writes : List Write) (taken : List (List ℕ)) (w : Write)
    → mine w.value ≡ false → Nothing mine sent writes taken → Nothing mine sent (w ∷ writes) taken
nothing_more mine sent writes taken w other p = record {
  puts = p.puts;
  clean = now;
  stored = sym (same_values mine writes w other) ∙ p.stored;
  none = p.none;
}
  where
    now : (x : Write) → Among x (w ∷ writes) → mine x.value ≡ false
    now x (inl e) = ap (λ (y : Write). mine y.value) e ∙ other
    now x (inr h) = p.clean x h

-- A write of no value.
other_writes : (mine : List ℕ → Bool) (st : OwnState) (value : List ℕ) (sent : List SentPut) (writes : List Write) (taken : List (List ℕ)) (w : Write)
    → mine w.value ≡ false → last_revision writes < w.revision → Phase mine st value sent writes taken → AfterWrite mine st value sent writes taken w
other_writes mine Unknown value sent writes taken w other low p = nothing_more mine sent writes taken w other p
other_writes mine (Fencing r) value sent writes taken w other low p = nothing_more mine sent writes taken w other p
other_writes mine (Idle r) value sent writes taken w other low p = record {
  puts = p.puts;
  reached = let q : r ≤ last_revision writes = p.reached in omega arith;
  after = none_after_more mine r writes w other p.after;
  all = p.all ∙ same_values mine writes w other;
}
other_writes mine (Sending r) value sent writes taken w other low p = other_put mine r value sent writes taken w other low p
other_writes mine (Settling r) value sent writes taken w other low p = other_put mine r value sent writes taken w other low p
other_writes mine (Unmade q) value sent writes taken w other low p = (p.0, p.1, over_more mine p.0 p.1 sent writes taken w other low p.2)
other_writes mine Lost value sent writes taken w other low p = (p.0, p.1, other_put mine p.0 p.1 sent writes taken w other low p.2)

-- A put that was sent writes one of the values.
own_put : (mine : List ℕ → Bool) (r : ℕ) (v : List ℕ) (sent : List SentPut) (writes : List Write) (taken : List (List ℕ)) (s : SentPut) (q : ℕ)
    → Among s sent → mine s.put.value ≡ true → s.put.revision ≡ last_revision writes → last_revision writes < q → AreInOrder writes
    → OpenPut mine r v sent writes taken → OpenPut mine r v sent (record { revision = q; value = s.put.value } ∷ writes) taken
own_put mine r v sent writes taken s q among m at low order p = by (p.puts s among m) p.stored
  where
    by : CanWrite r v s → NotYet mine r v writes taken ⊎ Done mine r writes taken → OpenPut mine r v sent (record { revision = q; value = s.put.value } ∷ writes) taken
    by (inl old) stored = let reach : r ≤ last_revision writes = p.reached in absurd (omega arith)
    by (inr here) (inr d) =
        let is : s.put.revision ≡ r = here.0 in
        let far : r < d.place = d.later_place in
        let within : d.place ≤ last_revision writes = d.within in
        absurd (omega arith)
    by (inr here) (inl n) =
        let is : s.put.revision ≡ r = here.0 in
        let place : r < q = omega arith in
        record {
          puts = p.puts;
          reached = omega arith;
          is_mine = p.is_mine;
          stored = inr (record {
            place = q;
            later_place = place;
            within = omega arith;
            only = only_here n;
            first = first_here is;
            there = (record { revision = q; value = s.put.value }, inl refl, refl);
            its = its_here;
            all = n.but_last
                ∙ ap (λ (x : List ℕ). x ∷ own_values mine writes) (sym here.1)
                ∙ sym (taken_branch (mine s.put.value) (s.put.value ∷ own_values mine writes) (own_values mine writes) m);
          });
        }
      where
        first_here : s.put.revision ≡ r → (x : Write) → Among x (record { revision = q; value = s.put.value } ∷ writes) → r < x.revision → q ≤ x.revision
        first_here is x (inl e) after = let here : x.revision ≡ q = ap (λ (y : Write). y.revision) e in omega arith
        first_here is x (inr h) after = let most : x.revision ≤ last_revision writes = last_is_greatest writes x order h in absurd (omega arith)

        its_here : (x : Write) → Among x (record { revision = q; value = s.put.value } ∷ writes) → x.revision ≡ q → mine x.value ≡ true
        its_here x (inl e) place = ap (λ (y : Write). mine y.value) e ∙ m
        its_here x (inr h) place = let most : x.revision ≤ last_revision writes = last_is_greatest writes x order h in absurd (omega arith)

        only_here : NotYet mine r v writes taken → (x : Write) → Among x (record { revision = q; value = s.put.value } ∷ writes) → r < x.revision → mine x.value ≡ true → x.revision ≡ q
        only_here n x (inl e) after is = ap (λ (y : Write). y.revision) e
        only_here n x (inr h) after is = let no : mine x.value ≡ false = n.after x h after in let wrong : ⊥ = cc in absurd wrong

-- A put that was sent writes none of the values once something is in the place of the last one.
pub never_over : (mine : List ℕ → Bool) (r : ℕ) (v : List ℕ) (sent : List SentPut) (writes : List Write) (taken : List (List ℕ)) (s : SentPut)
    → Among s sent → mine s.put.value ≡ true → s.put.revision ≡ last_revision writes → Over mine r v sent writes taken → ⊥
never_over mine r v sent writes taken s among m at p = by (p.puts s among m)
  where
    by : CanWrite r v s → ⊥
    by (inl old) = let far : r < last_revision writes = p.past in omega arith
    by (inr here) = let is : s.put.revision ≡ r = here.0 in let far : r < last_revision writes = p.past in omega arith

-- A put that was sent is stored.
stores : (mine : List ℕ → Bool) (st : OwnState) (value : List ℕ) (sent : List SentPut) (writes : List Write) (taken : List (List ℕ)) (s : SentPut) (q : ℕ) (b : Bool)
    → mine s.put.value ≡ b → Among s sent → s.put.revision ≡ last_revision writes → last_revision writes < q → AreInOrder writes
    → Phase mine st value sent writes taken → AfterWrite mine st value sent writes taken (record { revision = q; value = s.put.value })
stores mine st value sent writes taken s q false m among at low order p = other_writes mine st value sent writes taken (record { revision = q; value = s.put.value }) m low p
stores mine Unknown value sent writes taken s q true m among at low order p = let no : mine s.put.value ≡ false = p.puts s among in let h : ⊥ = cc in absurd h
stores mine (Fencing r) value sent writes taken s q true m among at low order p = let no : mine s.put.value ≡ false = p.puts s among in let h : ⊥ = cc in absurd h
stores mine (Idle r) value sent writes taken s q true m among at low order p = let old : s.put.revision < r = p.puts s among m in let reach : r ≤ last_revision writes = p.reached in absurd (omega arith)
stores mine (Sending r) value sent writes taken s q true m among at low order p = own_put mine r value sent writes taken s q among m at low order p
stores mine (Settling r) value sent writes taken s q true m among at low order p = own_put mine r value sent writes taken s q among m at low order p
stores mine (Unmade o) value sent writes taken s q true m among at low order p = absurd (never_over mine p.0 p.1 sent writes taken s among m at p.2)
stores mine Lost value sent writes taken s q true m among at low order p = (p.0, p.1, own_put mine p.0 p.1 sent writes taken s q among m at low order p.2)

-- ---- an outcome is learned

settled_at_first : (mine : List ℕ → Bool) (k : KeyState) (fence : List ℕ) (q : ℕ) → AreInOrder k.writes → Found k.writes fence q
    → Nothing mine k.sent k.writes k.taken → Settled mine q k.sent k.writes k.taken
settled_at_first mine k fence q order found p = record {
  puts = λ s among m. let no : mine s.put.value ≡ false = p.puts s among in let h : ⊥ = cc in absurd h;
  reached = let top : found.0.revision ≤ last_revision k.writes = last_is_greatest k.writes found.0 order found.1 in let is : found.0.revision ≡ q = found.2 in omega arith;
  after = λ w among low. p.clean w among;
  all = p.none ∙ sym p.stored;
}

settled_again : (mine : List ℕ → Bool) (k : KeyState) (r : ℕ) (v : List ℕ) (q : ℕ) → AreInOrder k.writes → Found k.writes v q → r < q
    → OpenPut mine r v k.sent k.writes k.taken → Settled mine q k.sent k.writes k.taken
settled_again mine k r v q order found low p = by p.stored
  where
    is_value : mine found.0.value ≡ true
    is_value = ap mine found.3 ∙ p.is_mine

    before : (s : SentPut) → CanWrite r v s → s.put.revision < q
    before s (inl old) = omega arith
    before s (inr here) = let is : s.put.revision ≡ r = here.0 in omega arith

    by : NotYet mine r v k.writes k.taken ⊎ Done mine r k.writes k.taken → Settled mine q k.sent k.writes k.taken
    by (inl n) =
        let at : found.0.revision ≡ q = found.2 in
        let no : mine found.0.value ≡ false = n.after found.0 found.1 (omega arith) in
        let yes : mine found.0.value ≡ true = is_value in
        let h : ⊥ = cc in absurd h
    by (inr d) =
        let at : found.0.revision ≡ q = found.2 in
        let place : found.0.revision ≡ d.place = d.only found.0 found.1 (omega arith) is_value in
        record {
          puts = λ s among m. before s (p.puts s among m);
          reached = let top : d.place ≤ last_revision k.writes = d.within in omega arith;
          after = λ w among far.
              false_unless (mine w.value)
              (λ m. let other : w.revision ≡ d.place = d.only w among (omega arith) m in let far2 : q < w.revision = far in let h : ⊥ = omega arith in h);
          all = d.all;
        }

-- A write that follows directly on a revision is the first one after it.
follows_first : (newer : List Write) (w : Write) (older : List Write) (r : ℕ) → AreInOrder (newer ++ w ∷ older) → last_revision older ≡ r
    → (x : Write) → Among x (newer ++ w ∷ older) → r < x.revision → w.revision ≤ x.revision
follows_first [] w older r order at x (inl e) after = let is : x.revision ≡ w.revision = ap (λ (y : Write). y.revision) e in omega arith
follows_first [] w older r order at x (inr h) after = let most : x.revision ≤ last_revision older = last_is_greatest older x order.1 h in absurd (omega arith)
follows_first (y ∷ newer) w older r order at x (inl e) after =
    let is : x.revision ≡ y.revision = ap (λ (z : Write). z.revision) e in
    let most : w.revision ≤ last_revision (newer ++ w ∷ older) = last_is_greatest (newer ++ w ∷ older) w order.1 (among_middle newer w older) in
    let next : last_revision (newer ++ w ∷ older) < y.revision = order.0 in
    omega arith
follows_first (y ∷ newer) w older r order at x (inr h) after = follows_first newer w older r order.1 at x h after

-- The fence was stored in the place of the last value.
unmade_at : (mine : List ℕ → Bool) (k : KeyState) (r : ℕ) (v fence : List ℕ) (q : ℕ) → mine fence ≡ false → AreInOrder k.writes
    → IsAnswer k (record { value = fence; revision = r }) (Stored q) → OpenPut mine r v k.sent k.writes k.taken → Over mine r v k.sent k.writes k.taken
unmade_at mine k r v fence q other order a p = record {
  puts = p.puts;
  past = let most : q ≤ last_revision k.writes = last_is_greatest k.writes (record { revision = q; value = fence }) order there in let far : r < q = behind in omega arith;
  is_mine = p.is_mine;
  yet = by p.stored;
}
  where
    there : Among (record { revision = q; value = fence }) k.writes
    there = subst (λ (ys : List Write). Among (record { revision = q; value = fence }) ys) (sym a.2) (among_middle a.0 (record { revision = q; value = fence }) a.1)

    whole : AreInOrder (a.0 ++ record { revision = q; value = fence } ∷ a.1)
    whole = subst (λ (ys : List Write). AreInOrder ys) a.2 order

    behind : r < q
    behind =
        let next : last_revision a.1 < q = (in_order_before a.0 (record { revision = q; value = fence } ∷ a.1) whole).0 in
        let at : last_revision a.1 ≡ r = a.3 in
        omega arith

    by : NotYet mine r v k.writes k.taken ⊎ Done mine r k.writes k.taken → NotYet mine r v k.writes k.taken
    by (inl n) = n
    by (inr d) =
        let up : d.place ≤ q = d.first (record { revision = q; value = fence }) there behind in
        let is : d.there.0.revision ≡ d.place = d.there.2 in
        let far : r < d.place = d.later_place in
        let down : q ≤ d.there.0.revision =
        follows_first a.0 (record { revision = q; value = fence }) a.1 r whole a.3 d.there.0 (subst (λ (ys : List Write). Among d.there.0 ys) a.2 d.there.1) (omega arith) in
        let same : q ≡ d.place = omega arith in
        let yes : mine fence ≡ true = d.its (record { revision = q; value = fence }) there same in
        let h : ⊥ = cc in absurd h

-- An answer to a fence that has the value stored behind a revision: it was written there.
pub settled_found : (k : KeyState) (put : Put) (value : List ℕ) (found : Option StoredValue) (q : ℕ) → IsAnswer k put (Refused found)
    → stored_at value (Refused found) ≡ Some q → Found k.writes value q
settled_found k put value None q a e = let h : ⊥ = cc in absurd h
settled_found k put value (Some f) q a e =
    let t = some_test (bytes_eq f.value value) f.revision q e in
    (found_then f a.1 a.2 k.writes value q ((bytes_eq-Decides f.value value).0 t.0) t.1 a.6 a.9).0

learns : (mine : List ℕ → Bool) (k : KeyState) (st : OwnState) (fence value : List ℕ) (put : Put) (o : PutOutcome)
    → mine fence ≡ false → AreInOrder k.writes → due_in st fence value ≡ Some put → IsAnswer k put o → Phase mine st value k.sent k.writes k.taken
    → Phase mine (outcome_in st fence value o) value k.sent k.writes k.taken
learns mine k Unknown fence value put o other order due a p = let h : ⊥ = cc in absurd h
learns mine k (Fencing r) fence value put o other order due a p = by (stored_at fence o) refl
  where
    the_put : Put
    the_put = record { value = fence; revision = r }

    answer : IsAnswer k (record { value = fence; revision = r }) o
    answer = let is : put ≡ record { value = fence; revision = r } = cc in subst (λ (x : Put). IsAnswer k x o) is a

    by : (x : Option ℕ) → stored_at fence o ≡ x → Phase mine (idle_or Unknown x) value k.sent k.writes k.taken
    by None e = p
    by (Some q) e = settled_at_first mine k fence q order (answered k (record { value = fence; revision = r }) o q answer e) p
learns mine k (Idle r) fence value put o other order due a p = let h : ⊥ = cc in absurd h
learns mine k (Sending r) fence value put o other order due a p = by (stored_at value o) refl
  where
    answer : IsAnswer k (record { value = value; revision = r }) o
    answer = let is : put ≡ record { value = value; revision = r } = cc in subst (λ (x : Put). IsAnswer k x o) is a

    was_sent_at : (s : SentPut) → s.put.revision ≡ r → CanWrite r value s → r ≤ last_revision s.writes
    was_sent_at s is (inl old) = absurd (omega arith)
    was_sent_at s is (inr here) = here.2

    since : WasSentAt k.sent (record { value = value; revision = r })
    since s among same =
        let at : s.put.revision ≡ r = ap (λ (x : Put). x.revision) same in
        let m : mine s.put.value ≡ true = ap (λ (x : Put). mine x.value) same ∙ p.is_mine in
        was_sent_at s at (p.puts s among m)

    by : (x : Option ℕ) → stored_at value o ≡ x → Phase mine (idle_or Lost x) value k.sent k.writes k.taken
    by None e = (r, value, p)
    by (Some q) e =
        settled_again mine k r value q order (answered k (record { value = value; revision = r }) o q answer e)
        (later k (record { value = value; revision = r }) o q order since answer e) p
learns mine k (Settling r) fence value put (Stored q) other order due a p =
    let is : put ≡ record { value = fence; revision = r } = cc in
    (r, value, unmade_at mine k r value fence q other order (subst (λ (x : Put). IsAnswer k x (Stored q)) is a) p)
learns mine k (Settling r) fence value put (Refused found) other order due a p = by (stored_at value (Refused found)) refl
  where
    found_behind : (q : ℕ) (b : Bool) → nat_lt r q ≡ b → stored_at value (Refused found) ≡ Some q → Phase mine (cond b (Idle q) Lost) value k.sent k.writes k.taken
    found_behind q true low e = settled_again mine k r value q order (settled_found k put value found q a e) (ltb-true r q low) p
    found_behind q false low e = (r, value, p)

    by : (x : Option ℕ) → stored_at value (Refused found) ≡ x → Phase mine (idle_behind r x) value k.sent k.writes k.taken
    by None e = (r, value, p)
    by (Some q) e = found_behind q (nat_lt r q) refl e
learns mine k (Unmade q) fence value put o other order due a p = let h : ⊥ = cc in absurd h
learns mine k Lost fence value put o other order due a p = let h : ⊥ = cc in absurd h

learns_revision : (mine : List ℕ → Bool) (st : OwnState) (r : ℕ) (value : List ℕ) (sent : List SentPut) (writes : List Write) (taken : List (List ℕ))
    → Phase mine st value sent writes taken → Phase mine (after_revision st r) value sent writes taken
learns_revision mine Unknown r value sent writes taken p = p
learns_revision mine (Fencing q) r value sent writes taken p = p
learns_revision mine (Idle q) r value sent writes taken p = p
learns_revision mine (Sending q) r value sent writes taken p = p
learns_revision mine (Settling q) r value sent writes taken p = p
learns_revision mine (Unmade q) r value sent writes taken p = p
learns_revision mine Lost r value sent writes taken p = p

-- ---- the outcome is to be settled

settles : (mine : List ℕ → Bool) (st : OwnState) (value : List ℕ) (sent : List SentPut) (writes : List Write) (taken : List (List ℕ))
    → Phase mine st value sent writes taken → Phase mine (after_settle st) value sent writes taken
settles mine Unknown value sent writes taken p = p
settles mine (Fencing q) value sent writes taken p = p
settles mine (Idle q) value sent writes taken p = p
settles mine (Sending q) value sent writes taken p = p
settles mine (Settling q) value sent writes taken p = p
settles mine (Unmade q) value sent writes taken p = p
settles mine Lost value sent writes taken p = p

-- ---- runs

pub record Keeps (mine : List ℕ → Bool) (k : KeyState) : Type 0 where
  pub fence : mine k.own.fence ≡ false
  pub order : AreInOrder k.writes
  pub phase : Phase mine k.own.state k.own.value k.sent k.writes k.taken

pub one_step : (mine : List ℕ → Bool) (k n : KeyState) (e : KeyEvent) → Keeps mine k → Leads mine k e n → Keeps mine n
one_step mine k n (Takes_value v) h l =
    subst (λ (x : KeyState). Keeps mine x) (sym l.3) (record {
      fence = h.fence;
      order = h.order;
      phase = takes_value mine k.own.state l.0 k.own.value v k.sent k.writes k.taken l.1 l.2 h.phase;
    })
one_step mine k n Settles h l =
    subst (λ (x : KeyState). Keeps mine x) (sym l) (record {
      fence = h.fence;
      order = h.order;
      phase = settles mine k.own.state k.own.value k.sent k.writes k.taken h.phase;
    })
one_step mine k n (Sends put) h l =
    subst (λ (x : KeyState). Keeps mine x) (sym l.1) (record {
      fence = h.fence;
      order = h.order;
      phase = sends mine k.own.state k.own.fence k.own.value k.sent k.writes k.taken put h.fence l.0 h.phase;
    })
one_step mine k n (Stores s q) h l =
    subst (λ (x : KeyState). Keeps mine x) (sym l.3) (record {
      fence = h.fence;
      order = (l.2, h.order);
      phase = stores mine k.own.state k.own.value k.sent k.writes k.taken s q (mine s.put.value) refl l.0 l.1 l.2 h.order h.phase;
    })
one_step mine k n (Other w) h l =
    subst (λ (x : KeyState). Keeps mine x) (sym l.2) (record {
      fence = h.fence;
      order = (l.1, h.order);
      phase = other_writes mine k.own.state k.own.value k.sent k.writes k.taken w l.0 l.1 h.phase;
    })
one_step mine k n (Learns_revision r) h l =
    subst (λ (x : KeyState). Keeps mine x) (sym l) (record {
      fence = h.fence;
      order = h.order;
      phase = learns_revision mine k.own.state r k.own.value k.sent k.writes k.taken h.phase;
    })
one_step mine k n (Learns_outcome put o) h l =
    subst (λ (x : KeyState). Keeps mine x) (sym l.2) (record {
      fence = h.fence;
      order = h.order;
      phase = learns mine k k.own.state k.own.fence k.own.value put o h.fence h.order l.0 l.1 h.phase;
    })

pub whole_run : (mine : List ℕ → Bool) (k n : KeyState) (es : List KeyEvent) → Keeps mine k → Run mine k es n → Keeps mine n
whole_run mine k n [] h run = subst (λ (x : KeyState). Keeps mine x) (sym run) h
whole_run mine k n (e ∷ es) h run = whole_run mine run.0 n es (one_step mine k run.0 e h run.1) run.2

pub at_start : (mine : List ℕ → Bool) (k : KeyState) → IsStart mine k → Keeps mine k
at_start mine k h = record {
  fence = h.fence;
  order = h.order;
  phase = subst (λ (st : OwnState). Phase mine st k.own.value k.sent k.writes k.taken) (sym h.state) (record {
    puts = λ s among. absurd (subst (λ (ss : List SentPut). Among s ss) h.sent among);
    clean = none_among mine k.writes h.values;
    stored = h.values;
    none = h.taken;
  });
}

open_result : (mine : List ℕ → Bool) (r : ℕ) (v : List ℕ) (sent : List SentPut) (writes : List Write) (taken : List (List ℕ))
    → OpenPut mine r v sent writes taken → IsAllOrAllButLast (own_values mine writes) taken
open_result mine r v sent writes taken p = by p.stored
  where
    by : NotYet mine r v writes taken ⊎ Done mine r writes taken → IsAllOrAllButLast (own_values mine writes) taken
    by (inl n) = inr (v, n.but_last)
    by (inr d) = inl d.all

pub result : (mine : List ℕ → Bool) (st : OwnState) (value : List ℕ) (sent : List SentPut) (writes : List Write) (taken : List (List ℕ))
    → Phase mine st value sent writes taken → IsAllOrAllButLast (own_values mine writes) taken
result mine Unknown value sent writes taken p = inl (p.none ∙ sym p.stored)
result mine (Fencing r) value sent writes taken p = inl (p.none ∙ sym p.stored)
result mine (Idle r) value sent writes taken p = inl p.all
result mine (Sending r) value sent writes taken p = open_result mine r value sent writes taken p
result mine (Settling r) value sent writes taken p = open_result mine r value sent writes taken p
result mine (Unmade q) value sent writes taken p = inr (p.1, p.2.yet.but_last)
result mine Lost value sent writes taken p = open_result mine p.0 p.1 sent writes taken p.2

pub each_value_once : EachValueOnce
each_value_once mine start end events h run =
    let kept = whole_run mine start end events (at_start mine start h) run in
    result mine end.own.state end.own.value end.sent end.writes end.taken kept.phase

-- ---- a value that is not written

stays_unmade : (mine : List ℕ → Bool) (k n : KeyState) (e : KeyEvent) (q : ℕ) → Leads mine k e n → k.own.state ≡ Unmade q → n.own.state ≡ Unmade q
stays_unmade mine k n (Takes_value v) q l is = absurd (subst (λ (st : OwnState). Takes st l.0) is l.2)
stays_unmade mine k n Settles q l is = ap (λ (x : KeyState). x.own.state) l ∙ ap after_settle is
stays_unmade mine k n (Sends put) q l is = ap (λ (x : KeyState). x.own.state) l.1 ∙ is
stays_unmade mine k n (Stores s r) q l is = ap (λ (x : KeyState). x.own.state) l.3 ∙ is
stays_unmade mine k n (Other w) q l is = ap (λ (x : KeyState). x.own.state) l.2 ∙ is
stays_unmade mine k n (Learns_revision r) q l is = ap (λ (x : KeyState). x.own.state) l ∙ ap (λ (st : OwnState). after_revision st r) is
stays_unmade mine k n (Learns_outcome put o) q l is =
    ap (λ (x : KeyState). x.own.state) l.2 ∙ ap (λ (st : OwnState). outcome_in st k.own.fence k.own.value o) is

unmade_run : (mine : List ℕ → Bool) (k n : KeyState) (es : List KeyEvent) (q : ℕ) → Run mine k es n → k.own.state ≡ Unmade q → n.own.state ≡ Unmade q
unmade_run mine k n [] q run is = ap (λ (x : KeyState). x.own.state) run ∙ is
unmade_run mine k n (e ∷ es) q run is = unmade_run mine run.0 n es q run.2 (stays_unmade mine k run.0 e q run.1 is)

but_one : (mine : List ℕ → Bool) (k : KeyState) (q : ℕ) → Keeps mine k → k.own.state ≡ Unmade q → (last : List ℕ) × (k.taken ≡ last ∷ own_values mine k.writes)
but_one mine k q h is =
    let p = subst (λ (st : OwnState). Phase mine st k.own.value k.sent k.writes k.taken) is h.phase in
    (p.1, p.2.yet.but_last)

pub unmade_is_final : UnmadeIsFinal
unmade_is_final mine start known end first later q h run is run2 =
    let kept = whole_run mine known end later (whole_run mine start known first (at_start mine start h) run) run2 in
    but_one mine end q kept (unmade_run mine known end later q run2 is)
