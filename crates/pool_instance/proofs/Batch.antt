-- Lemmas: the calls of requests, as an entry represents them.
use Rattle.std.proofs.Common.{◌≡◌, ℕ, zero, suc, ◌+◌, ◌<◌, List, [], ◌∷◌, ◌++◌, length, get_or, map, take, Option, Some, None, refl, sym, ap, subst, ◌∙◌, arith}
use Rattle.std.specs.Prelude.{option_map}
use Rattle.std.proofs.lemmas.List.{map-append, take_more}
use Rattle.policy_core.specs.declared.call.Operation.{Operation}
use Rattle.policy_core.specs.declared.scope.Caller.{Caller}
use Rattle.service_calls.specs.Run.{TimedCall}
use Rattle.pool_entry.specs.Calls.{operation_of, timed_call}
use Rattle.pool_entry.specs.declared.pool_call.PoolCall.{PoolCall}
use Rattle.pool_entry.specs.Spelling.{IsBatch}
use Rattle.pool_instance.specs.Lists.{AreWritten, IsFirstBatch}
use Rattle.pool_instance.specs.Request.{call_of, written_at, written_by}
use Rattle.pool_instance.specs.declared.request.Request.{Request}
use Rattle.pool_instance.specs.declared.requests.Draft.{Draft}
use Rattle.pool_instance.specs.declared.waiting.Held.{Held}
use Rattle.pool_core.proofs.Lists.{heads, some_same, tails}

call_case : (now : ℕ) (r : Request) (c : PoolCall) (caller : Option Caller) → (call_of r).caller ≡ caller → Some c ≡ option_map (written_by now r) caller → timed_call c ≡ (now, call_of r)
call_case now r c None is h = absurd cc
call_case now r c (Some caller) is h =
    let same : c ≡ written_by now r caller = some_same c (written_by now r caller) h in
    let P : Option Caller → TimedCall = λ v. (now, record { caller = v; op = operation_of r.path r.method r.body }) in
    let Q : Operation → TimedCall = λ v. (now, record { caller = r.call.caller; op = v }) in
    ap timed_call same ∙ ap P (sym is) ∙ ap Q (sym r.gives)

pub written_call : (now : ℕ) (r : Request) (c : PoolCall) → Some c ≡ written_at now r → timed_call c ≡ (now, call_of r)
written_call now r c h = call_case now r c (call_of r).caller refl h

pub written_calls : (now : ℕ) (hs : List Held) (cs : List PoolCall) → AreWritten now hs cs → map timed_call cs ≡ map (λ (h : Held). (now, call_of h.request)) hs
written_calls now [] [] h = refl
written_calls now [] (c ∷ cs) h = absurd cc
written_calls now (x ∷ hs) [] h = absurd cc
written_calls now (x ∷ hs) (c ∷ cs) h =
    let one = written_call now x.request c (heads (Some c) (written_at now x.request) (map (λ (v : PoolCall). Some v) cs) (map (λ (v : Held). written_at now v.request) hs) h) in
    let rest = written_calls now hs cs (tails (Some c) (written_at now x.request) (map (λ (v : PoolCall). Some v) cs) (map (λ (v : Held). written_at now v.request) hs) h) in
    ap (λ (v : TimedCall). v ∷ map timed_call cs) one ∙ ap (λ v. (now, call_of x.request) ∷ v) rest

some_lists : (xs ys : List PoolCall) → map (λ (c : PoolCall). Some c) xs ≡ map (λ (c : PoolCall). Some c) ys → xs ≡ ys
some_lists [] [] h = refl
some_lists [] (y ∷ ys) h = absurd cc
some_lists (x ∷ xs) [] h = absurd cc
some_lists (x ∷ xs) (y ∷ ys) h =
    let one : x ≡ y = some_same x y (heads (Some x) (Some y) (map (λ (c : PoolCall). Some c) xs) (map (λ (c : PoolCall). Some c) ys) h) in
    let rest = some_lists xs ys (tails (Some x) (Some y) (map (λ (c : PoolCall). Some c) xs) (map (λ (c : PoolCall). Some c) ys) h) in
    ap (λ (v : PoolCall). v ∷ xs) one ∙ ap (λ v. y ∷ v) rest

-- The calls of requests are represented in one way.
pub one_writing : (now : ℕ) (hs : List Held) (cs ds : List PoolCall) → AreWritten now hs cs → AreWritten now hs ds → ds ≡ cs
one_writing now hs cs ds h k = some_lists ds cs (k ∙ sym h)

-- ---- the first requests

-- The first requests and the next one.
pub next_taken : (hs : List Held) (i : ℕ) (h : Held) → i < length hs → h ≡ get_or hs i h → take (i + 1) hs ≡ take i hs ++ h ∷ []
next_taken hs i h lt is = take_more hs i h lt ∙ ap (λ (v : Held). take i hs ++ v ∷ []) (sym is)

-- The calls of the first requests and of the next one.
pub next_written : (now : ℕ) (hs : List Held) (i : ℕ) (h : Held) (cs : List PoolCall) (c : PoolCall) → i < length hs → h ≡ get_or hs i h → AreWritten now (take i hs) cs → Some c ≡ written_at now h.request
    → AreWritten now (take (i + 1) hs) (cs ++ c ∷ [])
next_written now hs i h cs c lt is before one =
    let f : PoolCall → Option PoolCall = λ v. Some v in
    let g : Held → Option PoolCall = λ v. written_at now v.request in
    map-append f cs (c ∷ []) ∙ ap (λ (v : List (Option PoolCall)). v ++ Some c ∷ []) before ∙ ap (λ (v : Option PoolCall). map g (take i hs) ++ v ∷ []) one
    ∙ sym (map-append g (take i hs) (h ∷ [])) ∙ ap (λ (v : List Held). map g v) (sym (next_taken hs i h lt is))

-- The numbers of the first requests and of the next one.
pub next_numbered : (hs : List Held) (i : ℕ) (h : Held) (slots : List (Option ℕ)) → i < length hs → h ≡ get_or hs i h → slots ≡ map (λ (h : Held). Some h.id) (take i hs)
    → slots ++ Some h.id ∷ [] ≡ map (λ (h : Held). Some h.id) (take (i + 1) hs)
next_numbered hs i h slots lt is before =
    let g : Held → Option ℕ = λ v. Some v.id in
    ap (λ (v : List (Option ℕ)). v ++ Some h.id ∷ []) before ∙ sym (map-append g (take i hs) (h ∷ [])) ∙ ap (λ (v : List Held). map g v) (sym (next_taken hs i h lt is))

some_taken : (now : ℕ) (hs : List Held) (n : ℕ) (batch : List PoolCall) (c : PoolCall) → AreWritten now (take n hs) batch → IsBatch (c ∷ []) → (IsBatch (batch ++ c ∷ []) → ⊥) → 0 < n
some_taken now hs zero [] c h one full = absurd (full one)
some_taken now hs zero (x ∷ batch) c h one full = absurd cc
some_taken now hs (suc n) batch c h one full = omega arith

-- A batch has the first requests if the next one has no room in it.
pub full_batch : (now : ℕ) (hs : List Held) (draft : Draft) (i : ℕ) (h : Held) (batch : List PoolCall) (c : PoolCall) → length draft.sent.items ≡ i → draft.batch ≡ batch → AreWritten now (take i hs) batch
    → draft.sent.items ≡ map (λ (h : Held). Some h.id) (take i hs) → i < length hs → h ≡ get_or hs i h → Some c ≡ written_at now h.request → IsBatch (c ∷ []) → (IsBatch (batch ++ c ∷ []) → ⊥) → IsFirstBatch now hs draft
full_batch now hs draft i h batch c count same calls numbers lt is one fits full = record {
  calls = subst (λ (v : List PoolCall). AreWritten now (take (length draft.sent.items) hs) v) (sym same) (subst (λ (n : ℕ). AreWritten now (take n hs) batch) (sym count) calls);
  some = λ e. omega (arith, count, some_taken now hs i batch c calls fits full);
  numbers = subst (λ (n : ℕ). draft.sent.items ≡ map (λ (h : Held). Some h.id) (take n hs)) (sym count) numbers;
  most = λ written are fit.
      let those : AreWritten now (take (i + 1) hs) written = subst (λ (n : ℕ). AreWritten now (take (n + 1) hs) written) count are in
      let same : written ≡ batch ++ c ∷ [] = one_writing now (take (i + 1) hs) (batch ++ c ∷ []) written (next_written now hs i h batch c lt is calls one) those in
      absurd (full (subst (λ (v : List PoolCall). IsBatch v) same fit));
}
