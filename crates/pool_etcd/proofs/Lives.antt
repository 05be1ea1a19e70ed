-- Lemmas: the versions of the puts of a key since one of its creations.
use Rattle.std.proofs.Common.{◌≡◌, ℕ, zero, suc, ◌+◌, ◌<◌, ◌≤◌, ◌==◌, List, [], ◌∷◌, ◌++◌, Bool, true, false, cond, ◌&&◌, refl, sym, ◌∙◌, ap, subst, append_assoc, arith}
use Rattle.std.proofs.lemmas.Bool.{eq-eqb, eqb-false, eqb-true, ne_eqb}
use Rattle.std.proofs.lemmas.List.{append-nil}
use Rattle.std.proofs.lemmas.Slice.Eq.{bytes_eq-Decides}
use Rattle.std.specs.Str.{bytes_eq}
use Rattle.pool_etcd.specs.declared.counts.PutCount.{PutCount}
use Rattle.pool_etcd.specs.declared.response.KeyValue.{KeyValue}
use Rattle.pool_etcd.specs.declared.watch_line.Change.{Change}
use Rattle.pool_etcd.specs.declared.watch_line.Change.TheVariants.{Put, Deleted}
use Rattle.pool_etcd.specs.Counts.{AreNext, IsNext, changed_key, counts_after, counts_by, created_by, no_puts}
use Rattle.pool_etcd.specs.Following.{Ascends, last_revision, revision_of}
use Rattle.pool_etcd.specs.Lives.{PutsAreConsecutive, numbers_behind, version_since, versions_of}

-- ---- lists in two parts

versions_of_both : (key : List ℕ) (created : ℕ) (cs ds : List Change) → versions_of key created (cs ++ ds) ≡ versions_of key created cs ++ versions_of key created ds
versions_of_both key created [] ds = refl
versions_of_both key created (Put put ∷ cs) ds =
    let here = cond (bytes_eq put.key key && (put.puts.created == created)) (put.puts.version ∷ []) [] in
    ap (λ (vs : List ℕ). here ++ vs) (versions_of_both key created cs ds) ∙ sym (append_assoc here (versions_of key created cs) (versions_of key created ds))
versions_of_both key created (Deleted deletion ∷ cs) ds = versions_of_both key created cs ds

counts_then : (counts : List ℕ → PutCount) (cs : List Change) (c : Change) (key : List ℕ) → counts_after counts (cs ++ c ∷ []) key ≡ counts_by (counts_after counts cs) c key
counts_then counts [] c key = refl
counts_then counts (d ∷ cs) c key = counts_then (counts_by counts d) cs c key

next_front : (counts : List ℕ → PutCount) (cs ds : List Change) → AreNext counts (cs ++ ds) → AreNext counts cs
next_front counts [] ds h = tt
next_front counts (c ∷ cs) ds h = (h.0, next_front (counts_by counts c) cs ds h.1)

next_last : (counts : List ℕ → PutCount) (cs : List Change) (c : Change) → AreNext counts (cs ++ c ∷ []) → IsNext (counts_after counts cs (changed_key c)) c
next_last counts [] c h = h.0
next_last counts (d ∷ cs) c h = next_last (counts_by counts d) cs c h.1

ascends_front : (r : ℕ) (cs ds : List Change) → Ascends r (cs ++ ds) → Ascends r cs
ascends_front r [] ds h = tt
ascends_front r (c ∷ cs) ds h = (h.0, ascends_front (revision_of c) cs ds h.1)

ascends_last : (r : ℕ) (cs : List Change) (c : Change) → Ascends r (cs ++ c ∷ []) → last_revision r cs < revision_of c
ascends_last r [] c h = h.0
ascends_last r (d ∷ cs) c h = ascends_last (revision_of d) cs c h.1

last_up : (r : ℕ) (cs : List Change) → Ascends r cs → r ≤ last_revision r cs
last_up r [] h = omega arith
last_up r (c ∷ cs) h = omega (arith, h.0, last_up (revision_of c) cs h.1)

behind_more : (n count : ℕ) → numbers_behind n count ++ (n + count + 1) ∷ [] ≡ numbers_behind n (suc count)
behind_more n zero = let e : n + 0 + 1 ≡ n + 1 = omega arith in ap (λ (m : ℕ). m ∷ []) e
behind_more n (suc count) =
    let e : n + suc count + 1 ≡ n + 1 + count + 1 = omega arith in
    ap (λ (m : ℕ). (n + 1) ∷ (numbers_behind (n + 1) count ++ m ∷ [])) e ∙ ap (λ (ms : List ℕ). (n + 1) ∷ ms) (behind_more (n + 1) count)

-- ---- creations are at later revisions

abbrev CreatedBy : (List ℕ → PutCount) → ℕ → Type 0
CreatedBy counts r = (key : List ℕ) → (counts key).created ≤ r

created_low : (before : PutCount) (r revision : ℕ) → before.created ≤ r → r < revision → created_by before revision ≤ revision
created_low before r revision low later = here (before.version == 0)
  where
    here : (is : Bool) → cond is revision before.created ≤ revision
    here true = omega arith
    here false = omega (arith, low, later)

created_still : (counts : List ℕ → PutCount) (r : ℕ) (c : Change) → CreatedBy counts r → r < revision_of c → IsNext (counts (changed_key c)) c → CreatedBy (counts_by counts c) (revision_of c)
created_still counts r (Put put) low later next = λ key. here key (bytes_eq put.key key)
  where
    here : (key : List ℕ) (is : Bool) → (cond is put.puts (counts key)).created ≤ put.stored.revision
    here key true = subst (λ (m : ℕ). m ≤ put.stored.revision) (sym next.1) (created_low (counts put.key) r put.stored.revision (low put.key) later)
    here key false = omega (arith, low key, later)
created_still counts r (Deleted deletion) low later next = λ key. here key (bytes_eq deletion.key key)
  where
    here : (key : List ℕ) (is : Bool) → (cond is no_puts (counts key)).created ≤ deletion.revision
    here key true = omega arith
    here key false = omega (arith, low key, later)

-- No put of a key that is created later is among changes.
none_yet : (counts : List ℕ → PutCount) (r : ℕ) (cs : List Change) (key : List ℕ) (created : ℕ) → CreatedBy counts r → AreNext counts cs → Ascends r cs → last_revision r cs < created
    → versions_of key created cs ≡ []
none_yet counts r [] key created low next up later = refl
none_yet counts r (Deleted deletion ∷ cs) key created low next up later =
    none_yet (counts_by counts (Deleted deletion)) deletion.revision cs key created (created_still counts r (Deleted deletion) low up.0 next.0) next.1 up.1 later
none_yet counts r (Put put ∷ cs) key created low next up later =
    let rest = none_yet (counts_by counts (Put put)) put.stored.revision cs key created (created_still counts r (Put put) low up.0 next.0) next.1 up.1 later in
    let early : put.puts.created ≤ put.stored.revision = subst (λ (m : ℕ). m ≤ put.stored.revision) (sym next.0.1) (created_low (counts put.key) r put.stored.revision (low put.key) up.0) in
    let other : put.puts.created ≡ created → ⊥ = λ e. absurd (omega (arith, early, later, last_up put.stored.revision cs up.1, e)) in
    ap (λ (b : Bool). cond (bytes_eq put.key key && b) (put.puts.version ∷ []) [] ++ versions_of key created cs) (ne_eqb put.puts.created created other)
    ∙ ap (λ (b : Bool). cond b (put.puts.version ∷ []) [] ++ versions_of key created cs) (and_false (bytes_eq put.key key))
    ∙ rest
  where
    and_false : (b : Bool) → (b && false) ≡ false
    and_false true = refl
    and_false false = refl

-- ---- the versions since a creation

-- What is known of a key with this count after changes.
abbrev Since : PutCount → List ℕ → List Change → PutCount → Type 0
Since first key cs now = 0 < now.version
    → (k : ℕ) × (versions_of key now.created cs ≡ numbers_behind (version_since first now.created) k) × (now.version ≡ version_since first now.created + k)

since_first : (first : PutCount) (key : List ℕ) → Since first key [] first
since_first first key = λ alive.
    let same : version_since first first.created ≡ first.version = ap (λ (b : Bool). cond b first.version 0) (eq-eqb first.created first.created refl) in
    (0, refl, sym same ∙ omega arith)

of_one : (key : List ℕ) (put : KeyValue) → put.key ≡ key → versions_of key put.puts.created (Put put ∷ []) ≡ put.puts.version ∷ []
of_one key put same =
    ap (λ (b : Bool). cond (b && (put.puts.created == put.puts.created)) (put.puts.version ∷ []) [] ++ []) ((bytes_eq-Decides put.key key).1 same)
    ∙ ap (λ (b : Bool). cond b (put.puts.version ∷ []) [] ++ []) (eq-eqb put.puts.created put.puts.created refl)

of_other : (key : List ℕ) (created : ℕ) (put : KeyValue) → bytes_eq put.key key ≡ false → versions_of key created (Put put ∷ []) ≡ []
of_other key created put other = ap (λ (b : Bool). cond (b && (put.puts.created == created)) (put.puts.version ∷ []) [] ++ []) other

same_since : (first : PutCount) (key : List ℕ) (cs : List Change) (c : Change) (now : PutCount) → versions_of key now.created (c ∷ []) ≡ [] → Since first key cs now → Since first key (cs ++ c ∷ []) now
same_since first key cs c now none since alive =
    let known = since alive in (
      known.0,
      versions_of_both key now.created cs (c ∷ []) ∙ ap (λ (vs : List ℕ). versions_of key now.created cs ++ vs) none ∙ append-nil (versions_of key now.created cs) ∙ known.1,
      known.2,
    )

-- A put of a key that has no value.
created_now : (first : PutCount) (r : ℕ) (key : List ℕ) (cs : List Change) (put : KeyValue) → put.key ≡ key → first.created ≤ r → r < put.puts.created → put.puts.version ≡ 1
    → versions_of key put.puts.created cs ≡ [] → Since first key (cs ++ Put put ∷ []) put.puts
created_now first r key cs put same low later one none = λ alive.
    let other : first.created ≡ put.puts.created → ⊥ = λ e. absurd (omega (arith, low, later, e)) in
    let new : version_since first put.puts.created ≡ 0 = ap (λ (b : Bool). cond b first.version 0) (ne_eqb first.created put.puts.created other) in
    let versions : versions_of key put.puts.created (cs ++ Put put ∷ []) ≡ 1 ∷ [] =
    versions_of_both key put.puts.created cs (Put put ∷ [])
    ∙ ap (λ (vs : List ℕ). vs ++ versions_of key put.puts.created (Put put ∷ [])) none
    ∙ of_one key put same
    ∙ ap (λ (v : ℕ). v ∷ []) one in
    (1, versions ∙ ap (λ (n : ℕ). numbers_behind n 1) (sym new), one ∙ ap (λ (n : ℕ). n + 1) (sym new))

-- The next put of a key that has a value.
put_again : (first now : PutCount) (key : List ℕ) (cs : List Change) (put : KeyValue) → put.key ≡ key → put.puts.version ≡ now.version + 1 → put.puts.created ≡ now.created → 0 < now.version
    → Since first key cs now → Since first key (cs ++ Put put ∷ []) put.puts
put_again first now key cs put same next created alive since = λ _.
    let known = since alive in
    let k = known.0 in
    let n = version_since first put.puts.created in
    let before : versions_of key put.puts.created cs ≡ numbers_behind n k = subst (λ (m : ℕ). versions_of key m cs ≡ numbers_behind (version_since first m) k) (sym created) known.1 in
    let number : now.version ≡ n + k = subst (λ (m : ℕ). now.version ≡ version_since first m + k) (sym created) known.2 in
    let version : put.puts.version ≡ n + k + 1 = next ∙ ap (λ (m : ℕ). m + 1) number in
    let versions : versions_of key put.puts.created (cs ++ Put put ∷ []) ≡ numbers_behind n (suc k) =
    versions_of_both key put.puts.created cs (Put put ∷ [])
    ∙ ap (λ (vs : List ℕ). vs ++ versions_of key put.puts.created (Put put ∷ [])) before
    ∙ ap (λ (vs : List ℕ). numbers_behind n k ++ vs) (of_one key put same)
    ∙ ap (λ (v : ℕ). numbers_behind n k ++ v ∷ []) version
    ∙ behind_more n k in
    (suc k, versions, version ∙ omega arith)

put_since : (first now : PutCount) (r : ℕ) (key : List ℕ) (cs : List Change) (put : KeyValue) → put.key ≡ key → IsNext now (Put put) → first.created ≤ r → r < put.stored.revision
    → (now.version ≡ 0 → put.puts.created ≡ put.stored.revision → versions_of key put.puts.created cs ≡ []) → Since first key cs now → Since first key (cs ++ Put put ∷ []) put.puts
put_since first now r key cs put same next low later none since = here (now.version == 0) refl
  where
    here : (is : Bool) → (now.version == 0) ≡ is → Since first key (cs ++ Put put ∷ []) put.puts
    here true e =
        let dead : now.version ≡ 0 = eqb-true now.version 0 e in
        let created : put.puts.created ≡ put.stored.revision = next.1 ∙ ap (λ (b : Bool). cond b put.stored.revision now.created) e in
        created_now first r key cs put same low (subst (λ (m : ℕ). r < m) (sym created) later) (next.0 ∙ ap (λ (m : ℕ). m + 1) dead) (none dead created)
    here false e =
        let created : put.puts.created ≡ now.created = next.1 ∙ ap (λ (b : Bool). cond b put.stored.revision now.created) e in
        let other : now.version ≡ 0 → ⊥ = eqb-false now.version 0 e in
        let alive : 0 < now.version = omega (arith, other) in
        put_again first now key cs put same next.0 created alive since

-- ---- all changes

step : (counts : List ℕ → PutCount) (r : ℕ) (key : List ℕ) (cs : List Change) (c : Change) → CreatedBy counts r → AreNext counts (cs ++ c ∷ []) → Ascends r (cs ++ c ∷ [])
    → Since (counts key) key cs (counts_after counts cs key) → Since (counts key) key (cs ++ c ∷ []) (counts_after counts (cs ++ c ∷ []) key)
step counts r key cs (Put put) low next up since =
    subst (λ (p : PutCount). Since (counts key) key (cs ++ Put put ∷ []) p) (sym (counts_then counts cs (Put put) key)) (here (bytes_eq put.key key) refl)
  where
    here : (is : Bool) → bytes_eq put.key key ≡ is → Since (counts key) key (cs ++ Put put ∷ []) (cond is put.puts (counts_after counts cs key))
    here true e =
        let same : put.key ≡ key = (bytes_eq-Decides put.key key).0 e in
        let front = ascends_front r cs (Put put ∷ []) up in
        let last : last_revision r cs < put.stored.revision = ascends_last r cs (Put put) up in
        let later : r < put.stored.revision = omega (arith, last_up r cs front, last) in
        let is_next : IsNext (counts_after counts cs key) (Put put) = subst (λ (k : List ℕ). IsNext (counts_after counts cs k) (Put put)) same (next_last counts cs (Put put) next) in
        put_since (counts key) (counts_after counts cs key) r key cs put same is_next (low key) later
        (λ dead created. none_yet counts r cs key put.puts.created low (next_front counts cs (Put put ∷ []) next) front (subst (λ (m : ℕ). last_revision r cs < m) (sym created) last))
        since
    here false e = same_since (counts key) key cs (Put put) (counts_after counts cs key) (of_other key (counts_after counts cs key).created put e) since
step counts r key cs (Deleted deletion) low next up since =
    subst (λ (p : PutCount). Since (counts key) key (cs ++ Deleted deletion ∷ []) p) (sym (counts_then counts cs (Deleted deletion) key)) (here (bytes_eq deletion.key key))
  where
    here : (is : Bool) → Since (counts key) key (cs ++ Deleted deletion ∷ []) (cond is no_puts (counts_after counts cs key))
    here true = λ alive. absurd (omega (arith, alive))
    here false = same_since (counts key) key cs (Deleted deletion) (counts_after counts cs key) refl since

all_steps : (counts : List ℕ → PutCount) (r : ℕ) (key : List ℕ) (front rest : List Change) → CreatedBy counts r → AreNext counts (front ++ rest) → Ascends r (front ++ rest)
    → Since (counts key) key front (counts_after counts front key) → Since (counts key) key (front ++ rest) (counts_after counts (front ++ rest) key)
all_steps counts r key front [] low next up since = subst (λ (xs : List Change). Since (counts key) key xs (counts_after counts xs key)) (sym (append-nil front)) since
all_steps counts r key front (c ∷ rest) low next up since =
    let split : (front ++ c ∷ []) ++ rest ≡ front ++ c ∷ rest = append_assoc front (c ∷ []) rest in
    let next_both = subst (λ (xs : List Change). AreNext counts xs) (sym split) next in
    let up_both = subst (λ (xs : List Change). Ascends r xs) (sym split) up in
    let more = step counts r key front c low (next_front counts (front ++ c ∷ []) rest next_both) (ascends_front r (front ++ c ∷ []) rest up_both) since in
    subst (λ (xs : List Change). Since (counts key) key xs (counts_after counts xs key)) split (all_steps counts r key (front ++ c ∷ []) rest low next_both up_both more)

pub puts_are_consecutive : PutsAreConsecutive
puts_are_consecutive counts r changes before after put low next up split =
    let whole : changes ≡ (before ++ Put put ∷ []) ++ after = split ∙ sym (append_assoc before (Put put ∷ []) after) in
    let next_here = next_front counts (before ++ Put put ∷ []) after (subst (λ (xs : List Change). AreNext counts xs) whole next) in
    let up_here = ascends_front r (before ++ Put put ∷ []) after (subst (λ (xs : List Change). Ascends r xs) whole up) in
    let since = all_steps counts r put.key [] (before ++ Put put ∷ []) low next_here up_here (since_first (counts put.key) put.key) in
    let now : counts_after counts (before ++ Put put ∷ []) put.key ≡ put.puts =
    counts_then counts before (Put put) put.key ∙ ap (λ (b : Bool). cond b put.puts (counts_after counts before put.key)) ((bytes_eq-Decides put.key put.key).1 refl) in
    let here = subst (λ (p : PutCount). Since (counts put.key) put.key (before ++ Put put ∷ []) p) now since in
    let alive : 0 < put.puts.version = omega (arith, (next_last counts before (Put put) next_here).0) in
    here alive
