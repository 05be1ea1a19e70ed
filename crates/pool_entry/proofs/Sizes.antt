-- Lemmas: how long the bytes of a call are.
use Rattle.std.proofs.Common.{◌≡◌, ℕ, ◌+◌, ◌^◌, ◌<◌, ◌≤◌, List, [], ◌∷◌, ◌++◌, length, refl, arith}
use Rattle.std.specs.Prelude.{decimal}
use Rattle.std.specs.List.{flat_map}
use Rattle.std.proofs.lemmas.Fmt.{length-decimal-le}
use Rattle.std.proofs.lemmas.List.{length-append}
use Rattle.pool_entry.specs.declared.pool_call.PoolCall.{PoolCall}
use Rattle.pool_entry.specs.Spelling.{number_text, counted_text, scopes_text, call_text, header, purge_header, IsCall}
use Rattle.pool_entry.specs.Laws.{OneCallFits, PurgeFits}
use Rattle.pool_entry.proofs.Fields.{name_short}

number_len : (last n : ℕ) → n < 2 ^ 64 → length (number_text last n) ≤ 21
number_len last n lt =
    omega (arith, length-append (decimal n) (last ∷ []), length-decimal-le 20 n (omega arith) (omega arith) lt)

counted_len : (last : ℕ) (text : List ℕ) → length text < 2 ^ 64 → length (counted_text last text) ≤ length text + 22
counted_len last text lt =
    omega (arith, length-append (number_text 58 (length text)) (text ++ last ∷ []), length-append text (last ∷ []), number_len 58 (length text) lt)

call_len : (c : PoolCall) → IsCall c → length (call_text c) ≤ length c.method + length c.path + length c.body + 179
call_len c fits =
    let moment = number_text 32 c.moment in
    let uss = counted_text 32 c.caller.uss in
    let scopes = scopes_text c.caller.scopes in
    let method = counted_text 32 c.method in
    let path = counted_text 32 c.path in
    let body = counted_text 10 c.body in
    let short : length c.caller.uss ≤ 64 = name_short c.caller.uss fits.uss in
    let l1 : length moment ≤ 21 = number_len 32 c.moment fits.moment in
    let l2 : length uss ≤ 86 = omega (arith, counted_len 32 c.caller.uss (omega arith)) in
    let l3 : length scopes ≡ 6 = refl in
    let l4 : length method ≤ length c.method + 22 = counted_len 32 c.method fits.method in
    let l5 : length path ≤ length c.path + 22 = counted_len 32 c.path fits.path_len in
    let l6 : length body ≤ length c.body + 22 = counted_len 10 c.body fits.body in
    total moment uss scopes method path body (length c.method) (length c.path) (length c.body) l1 l2 l3 l4 l5 l6
  where
    total : (a b c d e f : List ℕ) (m p n : ℕ) → length a ≤ 21 → length b ≤ 86 → length c ≡ 6 → length d ≤ m + 22 → length e ≤ p + 22 → length f ≤ n + 22
        → length (a ++ (b ++ (c ++ (d ++ (e ++ f))))) ≤ m + p + n + 179
    total a b c d e f m p n la lb lc ld le lf =
        omega (arith, length-append a (b ++ (c ++ (d ++ (e ++ f)))), length-append b (c ++ (d ++ (e ++ f))), length-append c (d ++ (e ++ f)), length-append d (e ++ f), length-append e f)

pub one_call_fits_lem : OneCallFits
one_call_fits_lem c fits head body =
    let text = call_text c in
    let one : length text ≤ 1056947 = omega (arith, call_len c fits) in
    record { count = omega arith; size = omega (arith, length-append header (flat_map call_text (c ∷ [])), length-append text [], one); fits = (fits, tt) }

pub purge_fits_lem : PurgeFits
purge_fits_lem until lt = omega (arith, length-append purge_header (number_text 10 until), number_len 10 until lt)
