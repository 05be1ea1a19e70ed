-- Lemmas: a field that is read is the one that is written, and the way back.
use Rattle.std.proofs.Common.{◌≡◌, ℕ, zero, suc, ◌+◌, ◌^◌, ◌<◌, ◌≤◌, Bool, true, false, cond, ltb, leb, eqb, ◌&&◌, List, [], ◌∷◌, ◌++◌, length, get_or, take, drop, Some, None, Result, Ok, Err, refl, sym, ap, subst, ◌∙◌, arith}
use Rattle.std.specs.Prelude.{IsUtf8, IsAscii, is_none}
use Rattle.std.specs.List.{list_all}
use Rattle.std.specs.Str.{is_utf8}
use Rattle.std.proofs.lemmas.Bool.{and_parts, and_from, ltb-true, lt-ltb, eqb-true, eq-eqb, cond-true, cond-false, leb-true, false_from_ne_true}
use Rattle.std.proofs.lemmas.Bool.Decides.{nat_tests}
use Rattle.std.proofs.lemmas.List.{append_assoc, take_at, drop_at, get_or_at, length_push, length-append, length-take, drop_more, take-append-drop}
use Rattle.std.proofs.lemmas.Str.{IsUtf8-from_ascii, IsUtf8-from_is_utf8, is_utf8-from_IsUtf8}
use Rattle.entity_core.specs.IdTexts.{name_fault, is_name_byte, is_from}
use Rattle.entity_core.specs.declared.id_fault.IdFault.TheVariants.{Length, Form}
use Rattle.policy_core.specs.Scope.{Scopes}
use Rattle.pool_entry.specs.declared.batch_fault.BatchFault.{BatchFault}
use Rattle.pool_entry.specs.Spelling.{number_text, counted_text, flag, scopes_text}
use Rattle.pool_entry.specs.Reading.{◌>>=◌, number_at, counted_at, flag_in, scopes_at, uss_in, path_in}
use Rattle.pool_entry.proofs.Numbers.{bind_ok, test_ok, done, ok_is, number_takes, number_again}

-- ---- counted texts

pub counted_takes : (fault : BatchFault) (last : ℕ) (bytes : List ℕ) (x : List ℕ × List ℕ) → counted_at fault last bytes ≡ Ok x → (bytes ≡ counted_text last x.0 ++ x.1) × (length x.0 < 2 ^ 64)
unfolding counted_at
counted_takes fault last bytes x e =
    let b = bind_ok (number_at fault 58 bytes) (λ n. cond (ltb n.0 (length n.1) && eqb (get_or n.1 n.0 0) last) (Ok (take n.0 n.1, drop (n.0 + 1) n.1)) (Err fault)) x e in
    let n = b.0.0 in
    let rest = b.0.1 in
    let first = number_takes fault 58 bytes b.0 b.1 in
    let g = test_ok (ltb n (length rest) && eqb (get_or rest n 0) last) fault (take n rest, drop (n + 1) rest) x b.2 in
    let parts = and_parts (ltb n (length rest)) (eqb (get_or rest n 0) last) g.0 in
    let lt : n < length rest = ltb-true n (length rest) parts.0 in
    let ends : get_or rest n 0 ≡ last = eqb-true _ _ parts.1 in
    let len : length (take n rest) ≡ n = omega (arith, length-take n rest) in
    let split : rest ≡ take n rest ++ last ∷ drop (n + 1) rest =
    sym (take-append-drop n rest) ∙ ap (λ (t : List ℕ). take n rest ++ t) (drop_more rest n 0 lt) ∙ ap (λ (c : ℕ). take n rest ++ c ∷ drop (n + 1) rest) ends in
    let text = take n rest in
    let after = drop (n + 1) rest in
    let one : bytes ≡ number_text 58 n ++ (text ++ last ∷ after) = first.0 ∙ ap (λ (t : List ℕ). number_text 58 n ++ t) split in
    let two : bytes ≡ number_text 58 n ++ ((text ++ last ∷ []) ++ after) = one ∙ ap (λ (t : List ℕ). number_text 58 n ++ t) (sym (append_assoc text (last ∷ []) after)) in
    let three : bytes ≡ (number_text 58 n ++ (text ++ last ∷ [])) ++ after = two ∙ sym (append_assoc (number_text 58 n) (text ++ last ∷ []) after) in
    let four : bytes ≡ counted_text last text ++ after = three ∙ ap (λ (k : ℕ). (number_text 58 k ++ (text ++ last ∷ [])) ++ after) (sym len) in
    let small : length text < 2 ^ 64 = omega (arith, first.1, len) in
    let P : List ℕ × List ℕ → Type 0 = λ y. (bytes ≡ counted_text last y.0 ++ y.1) × (length y.0 < 2 ^ 64) in
    subst P g.1 (four, small)

pub counted_again : (fault : BatchFault) (last : ℕ) (text rest : List ℕ) → length text < 2 ^ 64 → counted_at fault last (counted_text last text ++ rest) ≡ Ok (text, rest)
unfolding counted_at
counted_again fault last text rest small =
    let n = length text in
    let after = text ++ last ∷ rest in
    let regrouped : counted_text last text ++ rest ≡ number_text 58 n ++ after =
    append_assoc (number_text 58 n) (text ++ last ∷ []) rest ∙ ap (λ (t : List ℕ). number_text 58 n ++ t) (append_assoc text (last ∷ []) rest) in
    let number : number_at fault 58 (counted_text last text ++ rest) ≡ Ok (n, after) =
    ap (number_at fault 58) regrouped ∙ number_again fault 58 n after (λ r. absurd (omega arith)) small in
    let within : ltb n (length after) ≡ true = lt-ltb _ _ (omega (arith, length-append text (last ∷ rest))) in
    let ends : eqb (get_or after n 0) last ≡ true = eq-eqb _ _ (get_or_at text last rest 0 n refl) in
    let front : take n after ≡ text = take_at text (last ∷ rest) n refl in
    let back : drop (n + 1) after ≡ rest = ap (drop (n + 1)) (sym (append_assoc text (last ∷ []) rest)) ∙ drop_at (text ++ last ∷ []) rest (n + 1) (length_push text last) in
    let test : (ltb n (length after) && eqb (get_or after n 0) last) ≡ true = and_from _ _ within ends in
    let step : ℕ × List ℕ → Result (List ℕ × List ℕ) BatchFault = λ m. cond (ltb m.0 (length m.1) && eqb (get_or m.1 m.0 0) last) (Ok (take m.0 m.1, drop (m.0 + 1) m.1)) (Err fault) in
    let at_number : (number_at fault 58 (counted_text last text ++ rest) >>= step) ≡ step (n, after) = ap (λ (r : Result (ℕ × List ℕ) BatchFault). r >>= step) number in
    let taken : step (n, after) ≡ Ok (take n after, drop (n + 1) after) = cond-true _ (Ok (take n after, drop (n + 1) after)) (Err fault) test in
    let at_front : done (take n after, drop (n + 1) after) ≡ done (text, drop (n + 1) after) = ap (λ (t : List ℕ). done (t, drop (n + 1) after)) front in
    let at_back : done (text, drop (n + 1) after) ≡ done (text, rest) = ap (λ (t : List ℕ). done (text, t)) back in
    at_number ∙ (taken ∙ (at_front ∙ at_back))

-- ---- scopes

flag_takes : (fault : BatchFault) (letter b : ℕ) (v : Bool) → flag_in fault letter b ≡ Ok v → b ≡ flag letter v
unfolding flag_in
flag_takes fault letter b v e =
    elim (eqb b letter) as (λ t. eqb b letter ≡ t → cond t (Ok true) (cond (eqb b 45) (Ok false) (Err fault)) ≡ Ok v → b ≡ flag letter v) [
      | true ↦ λ was yes. let v-is = ok_is true v yes in eqb-true _ _ was ∙ ap (flag letter) v-is
      | false ↦ λ was no.
          let g = test_ok (eqb b 45) fault false v no in
          eqb-true _ _ g.0 ∙ ap (flag letter) g.1
    ] refl e

flag_again : (fault : BatchFault) (letter : ℕ) (v : Bool) → eqb letter letter ≡ true → eqb 45 letter ≡ false → flag_in fault letter (flag letter v) ≡ Ok v
unfolding flag_in
flag_again fault letter true same other = cond-true _ (Ok true) (cond (eqb letter 45) (Ok false) (Err fault)) same
flag_again fault letter false same other = cond-false _ (Ok true) (Ok false) other

pub scopes_take : (fault : BatchFault) (bytes : List ℕ) (x : Scopes × List ℕ) → scopes_at fault bytes ≡ Ok x → bytes ≡ scopes_text x.0 ++ x.1
unfolding scopes_at
scopes_take fault [] x e = absurd cc
scopes_take fault (s ∷ []) x e = absurd cc
scopes_take fault (s ∷ m ∷ []) x e = absurd cc
scopes_take fault (s ∷ m ∷ p ∷ []) x e = absurd cc
scopes_take fault (s ∷ m ∷ p ∷ c ∷ []) x e = absurd cc
scopes_take fault (s ∷ m ∷ p ∷ c ∷ a ∷ []) x e = absurd cc
scopes_take fault (s ∷ m ∷ p ∷ c ∷ a ∷ last ∷ rest) x e =
    let made : Bool → Bool → Bool → Bool → Bool → Scopes × List ℕ = λ v w y z u. (record { strategic_coordination = v; conformance_monitoring = w; constraint_processing = y; constraint_management = z; availability_arbitration = u }, rest) in
    let f5 : Bool → Bool → Bool → Bool → Bool → Result (Scopes × List ℕ) BatchFault = λ v w y z u. cond (eqb last 32) (Ok (made v w y z u)) (Err fault) in
    let f4 : Bool → Bool → Bool → Bool → Result (Scopes × List ℕ) BatchFault = λ v w y z. flag_in fault 97 a >>= f5 v w y z in
    let f3 : Bool → Bool → Bool → Result (Scopes × List ℕ) BatchFault = λ v w y. flag_in fault 99 c >>= f4 v w y in
    let f2 : Bool → Bool → Result (Scopes × List ℕ) BatchFault = λ v w. flag_in fault 112 p >>= f3 v w in
    let f1 : Bool → Result (Scopes × List ℕ) BatchFault = λ v. flag_in fault 109 m >>= f2 v in
    let b1 = bind_ok (flag_in fault 115 s) f1 x e in
    let b2 = bind_ok (flag_in fault 109 m) (f2 b1.0) x b1.2 in
    let b3 = bind_ok (flag_in fault 112 p) (f3 b1.0 b2.0) x b2.2 in
    let b4 = bind_ok (flag_in fault 99 c) (f4 b1.0 b2.0 b3.0) x b3.2 in
    let b5 = bind_ok (flag_in fault 97 a) (f5 b1.0 b2.0 b3.0 b4.0) x b4.2 in
    let g = test_ok (eqb last 32) fault (made b1.0 b2.0 b3.0 b4.0 b5.0) x b5.2 in
    let e1 = flag_takes fault 115 s b1.0 b1.1 in
    let e2 = flag_takes fault 109 m b2.0 b2.1 in
    let e3 = flag_takes fault 112 p b3.0 b3.1 in
    let e4 = flag_takes fault 99 c b4.0 b4.1 in
    let e5 = flag_takes fault 97 a b5.0 b5.1 in
    let e6 : last ≡ 32 = eqb-true _ _ g.0 in
    let whole : (s ∷ m ∷ p ∷ c ∷ a ∷ last ∷ rest) ≡ scopes_text (made b1.0 b2.0 b3.0 b4.0 b5.0).0 ++ rest = cc in
    let P : Scopes × List ℕ → Type 0 = λ y. (s ∷ m ∷ p ∷ c ∷ a ∷ last ∷ rest) ≡ scopes_text y.0 ++ y.1 in
    subst P g.1 whole

pub scopes_again : (fault : BatchFault) (s : Scopes) (rest : List ℕ) → scopes_at fault (scopes_text s ++ rest) ≡ Ok (s, rest)
unfolding scopes_at
scopes_again fault s rest =
    rw (flag_again fault 115 s.strategic_coordination refl refl, flag_again fault 109 s.conformance_monitoring refl refl, flag_again fault 112 s.constraint_processing refl refl, flag_again fault 99 s.constraint_management refl refl, flag_again fault 97 s.availability_arbitration refl refl) refl

-- ---- names and paths

name_byte_ascii : (b : ℕ) → is_name_byte b ≡ true → b < 128
name_byte_ascii b h = grind (arith, nat_tests)

names_ascii : (text : List ℕ) → list_all is_name_byte text ≡ true → IsAscii text
names_ascii [] h i = omega arith
names_ascii (b ∷ text) h zero = name_byte_ascii b (and_parts (is_name_byte b) (list_all is_name_byte text) h).0
names_ascii (b ∷ text) h (suc i) = names_ascii text (and_parts (is_name_byte b) (list_all is_name_byte text) h).1 i

named : (b d : Bool) → cond b (cond d None (Some Form)) (Some Length) ≡ None → (b ≡ true) × (d ≡ true)
named true true e = (refl, refl)
named true false e = absurd cc
named false d e = absurd cc

pub name_short : (text : List ℕ) → name_fault text ≡ None → length text ≤ 64
name_short text e =
    let parts = named (is_from 1 64 (length text)) (list_all is_name_byte text) e in
    leb-true _ _ (and_parts (leb 1 (length text)) (leb (length text) 64) parts.0).1

pub name_facts : (text : List ℕ) → name_fault text ≡ None → (length text < 2 ^ 64) × IsUtf8 text
name_facts text e =
    let parts = named (is_from 1 64 (length text)) (list_all is_name_byte text) e in
    let short : length text ≤ 64 = name_short text e in
    (omega arith, IsUtf8-from_ascii text (names_ascii text parts.1))

pub uss_fails : (fault : BatchFault) (text : List ℕ) → (IsUtf8 text → ⊥) → uss_in fault text ≡ Err fault
unfolding uss_in
uss_fails fault text not =
    elim (name_fault text) as (λ o. name_fault text ≡ o → cond (is_none o) (Ok text) (Err fault) ≡ Err fault) [
      | None ↦ λ was. absurd (not (name_facts text was).1)
      | Some f ↦ λ was. refl
    ] refl

pub uss_takes : (fault : BatchFault) (text uss : List ℕ) → uss_in fault text ≡ Ok uss → (text ≡ uss) × (name_fault uss ≡ None)
unfolding uss_in
uss_takes fault text uss e =
    elim (name_fault text) as (λ o. name_fault text ≡ o → cond (is_none o) (Ok text) (Err fault) ≡ Ok uss → (text ≡ uss) × (name_fault uss ≡ None)) [
      | None ↦ λ was same. let t = ok_is text uss same in (t, ap name_fault (sym t) ∙ was)
      | Some f ↦ λ was bad. absurd cc
    ] refl e

pub uss_again : (fault : BatchFault) (uss : List ℕ) → name_fault uss ≡ None → uss_in fault uss ≡ Ok uss
unfolding uss_in
uss_again fault uss e = ap (λ o. cond (is_none o) (Ok uss) (Err fault)) e

pub path_fails : (fault : BatchFault) (text : List ℕ) → (IsUtf8 text → ⊥) → path_in fault text ≡ Err fault
unfolding path_in
path_fails fault text not = cond-false (is_utf8 text) (Ok text) (Err fault) (false_from_ne_true _ (λ e. not (IsUtf8-from_is_utf8 text e)))

pub path_takes : (fault : BatchFault) (text path : List ℕ) → path_in fault text ≡ Ok path → (text ≡ path) × IsUtf8 path
unfolding path_in
path_takes fault text path e =
    let g = test_ok (is_utf8 text) fault text path e in
    (g.1, subst IsUtf8 g.1 (IsUtf8-from_is_utf8 text g.0))

pub path_again : (fault : BatchFault) (path : List ℕ) → IsUtf8 path → path_in fault path ≡ Ok path
unfolding path_in
path_again fault path utf8 = cond-true (is_utf8 path) (Ok path) (Err fault) (is_utf8-from_IsUtf8 path utf8)
