-- Lemmas: reading calls one after the other, as a loop does.
use Rattle.std.proofs.Common.{◌≡◌, ℕ, suc, ◌-◌, ◌+◌, ◌≤◌, ◌<◌, List, [], ◌∷◌, ◌++◌, length, false, eqb, Result, Ok, Err, refl, sym, ap, ◌∙◌, append_assoc, arith}
use Rattle.std.proofs.lemmas.Bool.Decides.{nat_tests}
use Rattle.std.proofs.lemmas.List.{append-nil}
use Rattle.pool_entry.specs.declared.batch_fault.BatchFault.{BatchFault}
use Rattle.pool_entry.specs.declared.batch_fault.BatchFault.TheVariants.{TooMany}
use Rattle.pool_entry.specs.declared.batch_fault.ReadError.{ReadError}
use Rattle.pool_entry.specs.declared.batch_fault.ReadError.TheVariants as errors
use Rattle.pool_entry.specs.declared.pool_call.PoolCall.{PoolCall}
use Rattle.pool_entry.specs.Reading.{◌>>=◌, Fails, call_at, calls_at}
use Rattle.pool_entry.proofs.Calls.{step, at_end, too_many}

-- what was read before, and what is still read
abbrev pub with_front : List PoolCall → Result (List PoolCall) BatchFault → Result (List PoolCall) BatchFault
with_front front read = read >>= λ calls. Ok (front ++ calls)

pub nonempty : (n : ℕ) → eqb n 0 ≡ false → 0 < n
nonempty n e = grind (arith, nat_tests)

regroup : (front : List PoolCall) (c : PoolCall) (read : Result (List PoolCall) BatchFault) → with_front front (read >>= λ others. Ok (c ∷ others)) ≡ with_front (front ++ c ∷ []) read
regroup front c (Ok calls) = ap (λ (v : List PoolCall). Ok v) (sym (append_assoc front (c ∷ []) calls))
regroup front c (Err f) = refl

pub goes_on : (front : List PoolCall) (i : ℕ) (bytes : List ℕ) (c : PoolCall) (after : List ℕ) (total : Result (List PoolCall) BatchFault) → i < 64 → 0 < length bytes → call_at i bytes ≡ Ok (c, after)
    → with_front front (calls_at (64 - i) i bytes) ≡ total → with_front (front ++ c ∷ []) (calls_at (64 - (i + 1)) (i + 1) after) ≡ total
goes_on front i bytes c after total lt more h so_far =
    let left = 64 - (i + 1) in
    let k : 64 - i ≡ suc left = omega arith in
    let next : PoolCall × List ℕ → Result (List PoolCall) BatchFault = λ first. calls_at left (i + 1) first.1 >>= λ others. Ok (first.0 ∷ others) in
    let one : calls_at (64 - i) i bytes ≡ next (c, after) = ap (λ n. calls_at n i bytes) k ∙ step left i bytes more ∙ ap (λ (r : Result (PoolCall × List ℕ) BatchFault). r >>= next) h in
    sym (regroup front c (calls_at left (i + 1) after)) ∙ sym (ap (with_front front) one) ∙ so_far

pub ends : (e : ReadError) (front : List PoolCall) (i : ℕ) (bytes : List ℕ) (total : Result (List PoolCall) BatchFault) → i < 64 → 0 < length bytes → Fails e (call_at i bytes)
    → with_front front (calls_at (64 - i) i bytes) ≡ total → Fails e total
ends errors.Memory front i bytes total lt more h so_far = tt
ends (errors.Fault f) front i bytes total lt more h so_far =
    let left = 64 - (i + 1) in
    let k : 64 - i ≡ suc left = omega arith in
    let next : PoolCall × List ℕ → Result (List PoolCall) BatchFault = λ first. calls_at left (i + 1) first.1 >>= λ others. Ok (first.0 ∷ others) in
    let one : calls_at (64 - i) i bytes ≡ Err f = ap (λ n. calls_at n i bytes) k ∙ step left i bytes more ∙ ap (λ (r : Result (PoolCall × List ℕ) BatchFault). r >>= next) h in
    sym so_far ∙ ap (with_front front) one

pub is_done : (front : List PoolCall) (left i : ℕ) (bytes : List ℕ) (total : Result (List PoolCall) BatchFault) → length bytes ≡ 0 → with_front front (calls_at left i bytes) ≡ total → total ≡ Ok front
is_done front left i [] total none so_far =
    sym so_far ∙ ap (with_front front) (at_end left i) ∙ ap (λ (v : List PoolCall). Ok v) (append-nil front)
is_done front left i (b ∷ bytes) total none so_far = absurd (omega arith)

pub is_over : (front : List PoolCall) (i : ℕ) (bytes : List ℕ) (total : Result (List PoolCall) BatchFault) → 64 ≤ i → 0 < length bytes → with_front front (calls_at (64 - i) i bytes) ≡ total → total ≡ Err TooMany
is_over front i bytes total le more so_far =
    let k : 64 - i ≡ 0 = omega arith in
    sym so_far ∙ ap (with_front front) (ap (λ n. calls_at n i bytes) k ∙ too_many i bytes more)
