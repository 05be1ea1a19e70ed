-- Lemmas: the counts of keys after more changes.
use Rattle.std.proofs.Common.{◌≡◌, ℕ, ◌+◌, ◌<◌, List, [], ◌∷◌, ◌++◌, length, get_or, take, drop, map, Bool, true, false, cond, ◌||◌, refl, sym, ◌∙◌, ap, subst, append_assoc}
use Rattle.std.proofs.lemmas.List.{drop_more, map-append, take-append-drop, take_more}
use Rattle.std.proofs.lemmas.Slice.Eq.{bytes_eq-Decides}
use Rattle.std.specs.Str.{bytes_eq}
use Rattle.pool_etcd.specs.declared.counts.KeyCount.{KeyCount}
use Rattle.pool_etcd.specs.declared.counts.PutCount.{PutCount}
use Rattle.pool_etcd.specs.declared.watch_line.Change.{Change}
use Rattle.pool_etcd.specs.Counts.{AreNext, IsNext, changed_key, count_by, count_of, counts_after, counts_by, has_key, key_count, last_count, no_puts}

-- The last count of a key among two lists.
pub last_of_both : (key : List ℕ) (before : PutCount) (ks ls : List KeyCount) → last_count key before (ks ++ ls) ≡ last_count key (last_count key before ks) ls
last_of_both key before [] ls = refl
last_of_both key before (k ∷ ks) ls = last_of_both key (cond (bytes_eq k.key key) k.puts before) ks ls

-- The counts of changes are those after them.
counted : (key : List ℕ) (counts : List ℕ → PutCount) (cs : List Change) → last_count key (counts key) (map key_count cs) ≡ counts_after counts cs key
counted key counts [] = refl
counted key counts (c ∷ cs) = counted key (counts_by counts c) cs

pub count_of_added : (old new : List KeyCount) (cs : List Change) (key : List ℕ) → new ≡ old ++ map key_count cs → count_of new key ≡ counts_after (count_of old) cs key
count_of_added old new cs key e =
    ap (λ (ks : List KeyCount). count_of ks key) e ∙ last_of_both key no_puts old (map key_count cs) ∙ counted key (count_of old) cs

-- ---- changes that are the next ones of their keys

pub next_then : (counts : List ℕ → PutCount) (cs : List Change) (c : Change) → AreNext counts cs → IsNext (counts_after counts cs (changed_key c)) c → AreNext counts (cs ++ c ∷ [])
next_then counts [] c h n = (n, tt)
next_then counts (d ∷ cs) c h n = (h.0, next_then (counts_by counts d) cs c h.1 n)

pub next_at : (counts : List ℕ → PutCount) (cs : List Change) (c : Change) (ds : List Change) → AreNext counts (cs ++ c ∷ ds) → IsNext (counts_after counts cs (changed_key c)) c
next_at counts [] c ds h = h.0
next_at counts (d ∷ cs) c ds h = next_at (counts_by counts d) cs c ds h.1

next_of_both : (counts : List ℕ → PutCount) (cs ds : List Change) → AreNext counts cs → AreNext (counts_after counts cs) ds → AreNext counts (cs ++ ds)
next_of_both counts [] ds h g = g
next_of_both counts (c ∷ cs) ds h g = (h.0, next_of_both (counts_by counts c) cs ds h.1 g)

same_by : (f g : List ℕ → PutCount) → ((key : List ℕ) → f key ≡ g key) → (c : Change) (key : List ℕ) → counts_by f c key ≡ counts_by g c key
same_by f g same c key = ap (λ (p : PutCount). cond (bytes_eq (changed_key c) key) (count_by c) p) (same key)

pub same_next : (f g : List ℕ → PutCount) → ((key : List ℕ) → f key ≡ g key) → (cs : List Change) → AreNext f cs → AreNext g cs
same_next f g same [] h = tt
same_next f g same (c ∷ cs) h = (
  subst (λ (p : PutCount). IsNext p c) (same (changed_key c)) h.0,
  same_next (counts_by f c) (counts_by g c) (same_by f g same c) cs h.1,
)

pub next_lines : (counts : List ℕ → PutCount) (known : List ℕ → PutCount) (cs ds : List Change) → AreNext counts cs → ((key : List ℕ) → known key ≡ counts_after counts cs key) → AreNext known ds
    → AreNext counts (cs ++ ds)
next_lines counts known cs ds h same g = next_of_both counts cs ds h (same_next known (counts_after counts cs) same ds g)

-- ---- one more change in a line

-- The count of the key of a change, before it.
counted_here : (old now : List KeyCount) (cs : List Change) (c : Change) (key : List ℕ) (p : PutCount) → now ≡ old ++ map key_count cs → key ≡ changed_key c → p ≡ count_of now key
    → p ≡ counts_after (count_of old) cs (changed_key c)
counted_here old now cs c key p added same count = count ∙ ap (λ (k : List ℕ). count_of now k) same ∙ count_of_added old now cs (changed_key c) added

-- A change that cannot be the next one of its key.
pub first_gap : (old now : List KeyCount) (xs : List Change) (i : ℕ) (c : Change) (key : List ℕ) (p : PutCount) → i < length xs → c ≡ get_or xs i c
    → now ≡ old ++ map key_count (take i xs) → key ≡ changed_key c → p ≡ count_of now key → (IsNext p c → ⊥) → AreNext (count_of old) xs → ⊥
first_gap old now xs i c key p below is added same count other all =
    let rest : drop i xs ≡ c ∷ drop (i + 1) xs = drop_more xs i c below ∙ ap (λ (x : Change). x ∷ drop (i + 1) xs) (sym is) in
    let split : xs ≡ take i xs ++ c ∷ drop (i + 1) xs = sym (take-append-drop i xs) ∙ ap (λ (ys : List Change). take i xs ++ ys) rest in
    let at = next_at (count_of old) (take i xs) c (drop (i + 1) xs) (subst (λ (ys : List Change). AreNext (count_of old) ys) split all) in
    other (subst (λ (q : PutCount). IsNext q c) (sym (counted_here old now (take i xs) c key p added same count)) at)

-- A change that is counted.
pub one_counted : (old now new : List KeyCount) (xs : List Change) (i : ℕ) (c : Change) (key : List ℕ) (p : PutCount) → i < length xs → c ≡ get_or xs i c
    → now ≡ old ++ map key_count (take i xs) → key ≡ changed_key c → p ≡ count_of now key → AreNext (count_of old) (take i xs) → IsNext p c → new ≡ now ++ key_count c ∷ []
    → (new ≡ old ++ map key_count (take (i + 1) xs)) × AreNext (count_of old) (take (i + 1) xs)
one_counted old now new xs i c key p below is added same count before next more =
    let front : take (i + 1) xs ≡ take i xs ++ c ∷ [] = take_more xs i c below ∙ ap (λ (x : Change). take i xs ++ x ∷ []) (sym is) in
    let counts : map key_count (take (i + 1) xs) ≡ map key_count (take i xs) ++ key_count c ∷ [] = ap (λ (ys : List Change). map key_count ys) front ∙ map-append key_count (take i xs) (c ∷ []) in
    let here = subst (λ (q : PutCount). IsNext q c) (counted_here old now (take i xs) c key p added same count) next in (
      more ∙ ap (λ (ks : List KeyCount). ks ++ key_count c ∷ []) added ∙ append_assoc old (map key_count (take i xs)) (key_count c ∷ []) ∙ ap (λ (ks : List KeyCount). old ++ ks) (sym counts),
      subst (λ (ys : List Change). AreNext (count_of old) ys) (sym front) (next_then (count_of old) (take i xs) c before here),
    )

-- ---- counts that are not the last ones of their keys

-- The count of a key before counts that have one of it does not matter.
covered : (key : List ℕ) (a b : PutCount) (ks : List KeyCount) → has_key key ks ≡ true → last_count key a ks ≡ last_count key b ks
covered key a b [] has = let h : ⊥ = cc in absurd h
covered key a b (k ∷ ks) has = here (bytes_eq k.key key) (covered key a b ks) has
  where
    here : (is : Bool) → (has_key key ks ≡ true → last_count key a ks ≡ last_count key b ks) → (is || has_key key ks) ≡ true
        → last_count key (cond is k.puts a) ks ≡ last_count key (cond is k.puts b) ks
    here true rest e = refl
    here false rest e = rest e

-- A count before another one of its key does not matter.
pub dropped : (key : List ℕ) (before : PutCount) (k : KeyCount) (ks : List KeyCount) → has_key k.key ks ≡ true → last_count key before (k ∷ ks) ≡ last_count key before ks
dropped key before k ks has = here (bytes_eq k.key key) refl
  where
    here : (is : Bool) → bytes_eq k.key key ≡ is → last_count key (cond is k.puts before) ks ≡ last_count key before ks
    here true e = covered key k.puts before ks (subst (λ (other : List ℕ). has_key other ks ≡ true) ((bytes_eq-Decides k.key key).0 e) has)
    here false e = refl

-- A count that is left out, if there is a later one of its key.
pub left_out : (key : List ℕ) (last : List KeyCount) (k : KeyCount) (ks all : List KeyCount) → has_key k.key ks ≡ true → last_count key no_puts (last ++ k ∷ ks) ≡ last_count key no_puts all
    → last_count key no_puts (last ++ ks) ≡ last_count key no_puts all
left_out key last k ks all has same =
    last_of_both key no_puts last ks ∙ sym (dropped key (last_count key no_puts last) k ks has) ∙ sym (last_of_both key no_puts last (k ∷ ks)) ∙ same

-- A count that is taken over.
pub taken_over : (key : List ℕ) (last : List KeyCount) (k copy : KeyCount) (ks all : List KeyCount) → copy.key ≡ k.key → copy.puts ≡ k.puts
    → last_count key no_puts (last ++ k ∷ ks) ≡ last_count key no_puts all
    → last_count key no_puts ((last ++ copy ∷ []) ++ ks) ≡ last_count key no_puts all
taken_over key last k copy ks all same_key same_puts same =
    let alike : copy ≡ k = ap (λ (x : List ℕ). record copy { key = x }) same_key ∙ ap (λ (p : PutCount). record k { puts = p }) same_puts in
    ap (λ (ls : List KeyCount). last_count key no_puts ls) (append_assoc last (copy ∷ []) ks)
    ∙ ap (λ (x : KeyCount). last_count key no_puts (last ++ x ∷ ks)) alike
    ∙ same
