-- Lemmas: the acts that the bytes of an entry represent.
use Rattle.std.proofs.Common.{◌≡◌, ℕ, ◌^◌, ◌<◌, true, false, cond, List, [], ◌∷◌, ◌++◌, length, map, take, drop, Option, Result, Ok, Err, refl, sym, ap, subst, ◌∙◌, arith}
use Rattle.std.specs.Str.{bytes_eq}
use Rattle.std.proofs.lemmas.Bool.{cond-true, cond-false}
use Rattle.std.proofs.lemmas.List.{append-nil, drop_at, take_at, take-append-drop}
use Rattle.std.proofs.lemmas.Slice.Eq.{bytes_eq-Decides}
use Rattle.std.specs.List.{flat_map}
use Rattle.policy_core.specs.declared.call.Operation.{Operation}
use Rattle.policy_core.specs.declared.scope.Caller.{Caller}
use Rattle.service_calls.specs.Run.{TimedCall}
use Rattle.pool_core.specs.Acts.{Purges, makes_all}
use Rattle.wire_head.specs.Target.{path_of}
use Rattle.wire_operation.specs.Operation.{GivesOperation}
use Rattle.wire_operation.proofs.Asked.{asked, same_asked}
use Rattle.pool_entry.specs.declared.batch_fault.BatchFault.{BatchFault}
use Rattle.pool_entry.specs.declared.batch_fault.BatchFault.TheVariants.{Until}
use Rattle.pool_entry.specs.declared.batch_fault.ReadError.{ReadError}
use Rattle.pool_entry.specs.declared.batch_fault.ReadError.TheVariants as errors
use Rattle.pool_entry.specs.declared.pool_call.PoolCall.{PoolCall}
use Rattle.pool_entry.specs.Spelling.{SpellsBatch, SpellsPurge, call_text, header, number_text, purge_header}
use Rattle.pool_entry.specs.Reading.{◌>>=◌, BatchOf, EntryForm, Fails, PurgeUpTo, alone, batch_in, begins_purge, entry_in, number_at, until_in}
use Rattle.pool_entry.specs.Acts.{IsEntryError, acts_by, acts_of}
use Rattle.pool_entry.specs.Calls.{operation_of, timed_call}
use Rattle.pool_entry.specs.Laws.{GivesItsOperation, MakesWritersCall, NoEntryIsNoActs, OneBatch, OnePurge, WrittenIsRead}
use Rattle.pool_entry.proofs.Numbers.{bind_ok, number_again, number_takes, ok_is}
use Rattle.pool_entry.proofs.Calls.{batch_takes, batch_again}

pub gives_its_operation_lem : GivesItsOperation
unfolding operation_of
gives_its_operation_lem path method body = let a = asked path method body in (a.endpoint, a.is)

-- the operation that the code finds is that one
pub operation_is : (path method body : List ℕ) (op : Operation) → GivesOperation path method body op → op ≡ operation_of path method body
operation_is path method body op given =
    let own = gives_its_operation_lem path method body in
    (same_asked path method body own.0 given.0 (operation_of path method body) op own.1 given.1).1

pub one_batch_lem : OneBatch
one_batch_lem bytes calls others x y = ok_is others calls (sym (batch_again bytes others y) ∙ batch_again bytes calls x)

-- ---- the first line

first_of_batch : (rest : List ℕ) → begins_purge (header ++ rest) ≡ false
first_of_batch rest = ap (λ (t : List ℕ). bytes_eq t purge_header) (take_at header rest (length purge_header) refl)

first_of_purge : (rest : List ℕ) → begins_purge (purge_header ++ rest) ≡ true
first_of_purge rest = (bytes_eq-Decides _ _).1 (take_at purge_header rest (length purge_header) refl)

-- ---- the time of a purge

until_takes : (bytes : List ℕ) (until : ℕ) → until_in bytes ≡ Ok until → (bytes ≡ number_text 10 until) × (until < 2 ^ 64)
unfolding until_in
until_takes bytes until e =
    let b = bind_ok (number_at Until 10 bytes) (alone Until) until e in
    let t = number_takes Until 10 bytes b.0 b.1 in
    alone_takes bytes b.0.0 b.0.1 until b.2 t
  where
    alone_takes : (bytes : List ℕ) (n : ℕ) (rest : List ℕ) (until : ℕ) → alone Until (n, rest) ≡ Ok until → (bytes ≡ number_text 10 n ++ rest) × (n < 2 ^ 64) → (bytes ≡ number_text 10 until) × (until < 2 ^ 64)
    alone_takes bytes n [] until is read =
        let P : ℕ → Type 0 = λ m. (bytes ≡ number_text 10 m) × (m < 2 ^ 64) in
        subst P (ok_is n until is) (read.0 ∙ append-nil (number_text 10 n), read.1)
    alone_takes bytes n (x ∷ rest) until is read = absurd cc

until_again : (until : ℕ) → until < 2 ^ 64 → until_in (number_text 10 until) ≡ Ok until
unfolding until_in
until_again until lt =
    let read = number_again Until 10 until [] (λ r. absurd (omega arith)) lt in
    let same : number_at Until 10 (number_text 10 until) ≡ Ok (until, []) = ap (number_at Until 10) (sym (append-nil (number_text 10 until))) ∙ read in
    ap (λ (r : Result (ℕ × List ℕ) BatchFault). r >>= alone Until) same

-- ---- entries that are written are read

abbrev as_purge : Result ℕ BatchFault → Result EntryForm BatchFault
as_purge r = r >>= (λ until. Ok (PurgeUpTo until))

abbrev as_batch : Result (List PoolCall) BatchFault → Result EntryForm BatchFault
as_batch r = r >>= (λ calls. Ok (BatchOf calls))

batch_entry : (bytes : List ℕ) (calls : List PoolCall) → SpellsBatch bytes calls → entry_in bytes ≡ Ok (BatchOf calls)
unfolding entry_in
batch_entry bytes calls s =
    let first : begins_purge bytes ≡ false = ap begins_purge s.bytes_are ∙ first_of_batch (flat_map call_text calls) in
    cond-false _ (as_purge (until_in (drop (length purge_header) bytes))) (as_batch (batch_in bytes)) first ∙ ap as_batch (batch_again bytes calls s)

purge_entry : (bytes : List ℕ) (until : ℕ) → SpellsPurge bytes until → entry_in bytes ≡ Ok (PurgeUpTo until)
unfolding entry_in
purge_entry bytes until s =
    let text = number_text 10 until in
    let first : begins_purge bytes ≡ true = ap begins_purge s.bytes_are ∙ first_of_purge text in
    let back : drop (length purge_header) bytes ≡ text = ap (drop (length purge_header)) s.bytes_are ∙ drop_at purge_header text (length purge_header) refl in
    cond-true _ (as_purge (until_in (drop (length purge_header) bytes))) (as_batch (batch_in bytes)) first
    ∙ ap (λ (t : List ℕ). as_purge (until_in t)) back ∙ ap as_purge (until_again until s.fits)

pub written_is_read_lem : WrittenIsRead
unfolding acts_of
written_is_read_lem = record {
  calls = λ bytes calls s. ap acts_by (batch_entry bytes calls s);
  purge = λ bytes until s. ap acts_by (purge_entry bytes until s);
}

pub one_purge_lem : OnePurge
one_purge_lem = record {
  one = λ bytes until other x y.
      let same : PurgeUpTo other ≡ PurgeUpTo until = ok_is (PurgeUpTo other) (PurgeUpTo until) (sym (purge_entry bytes other y) ∙ purge_entry bytes until x) in
      cc;
  apart = λ bytes until calls x y.
      let same : PurgeUpTo until ≡ BatchOf calls = ok_is (PurgeUpTo until) (BatchOf calls) (sym (purge_entry bytes until x) ∙ batch_entry bytes calls y) in
      absurd cc;
}

-- ---- entries that are read were written

not_batch : {A : Type 0} (r : Result ℕ BatchFault) (calls : List PoolCall) → as_purge r ≡ Ok (BatchOf calls) → A
not_batch (Ok until) calls e = let bad : PurgeUpTo until ≡ BatchOf calls = ok_is (PurgeUpTo until) (BatchOf calls) e in absurd cc
not_batch (Err d) calls e = absurd cc

not_purge : {A : Type 0} (r : Result (List PoolCall) BatchFault) (until : ℕ) → as_batch r ≡ Ok (PurgeUpTo until) → A
not_purge (Ok calls) until e = let bad : BatchOf calls ≡ PurgeUpTo until = ok_is (BatchOf calls) (PurgeUpTo until) e in absurd cc
not_purge (Err d) until e = absurd cc

is_batch : (r : Result (List PoolCall) BatchFault) (calls : List PoolCall) → as_batch r ≡ Ok (BatchOf calls) → r ≡ Ok calls
is_batch (Ok xs) calls e = let same : BatchOf xs ≡ BatchOf calls = ok_is (BatchOf xs) (BatchOf calls) e in cc
is_batch (Err d) calls e = absurd cc

is_purge : (r : Result ℕ BatchFault) (until : ℕ) → as_purge r ≡ Ok (PurgeUpTo until) → r ≡ Ok until
is_purge (Ok n) until e = let same : PurgeUpTo n ≡ PurgeUpTo until = ok_is (PurgeUpTo n) (PurgeUpTo until) e in cc
is_purge (Err d) until e = absurd cc

batch_was : (bytes : List ℕ) (calls : List PoolCall) → entry_in bytes ≡ Ok (BatchOf calls) → SpellsBatch bytes calls
unfolding entry_in
batch_was bytes calls e =
    elim (begins_purge bytes) as (λ b. cond b (as_purge (until_in (drop (length purge_header) bytes))) (as_batch (batch_in bytes)) ≡ Ok (BatchOf calls) → SpellsBatch bytes calls) [
      | true ↦ λ h. not_batch (until_in (drop (length purge_header) bytes)) calls h
      | false ↦ λ h. batch_takes bytes calls (is_batch (batch_in bytes) calls h)
    ] e

purge_was : (bytes : List ℕ) (until : ℕ) → entry_in bytes ≡ Ok (PurgeUpTo until) → SpellsPurge bytes until
unfolding entry_in
purge_was bytes until e =
    let n = length purge_header in
    elim (begins_purge bytes) as (λ b. begins_purge bytes ≡ b → cond b (as_purge (until_in (drop n bytes))) (as_batch (batch_in bytes)) ≡ Ok (PurgeUpTo until) → SpellsPurge bytes until) [
      | true ↦ λ first h.
          let t = until_takes (drop n bytes) until (is_purge (until_in (drop n bytes)) until h) in
          let front : take n bytes ≡ purge_header = (bytes_eq-Decides (take n bytes) purge_header).0 first in
          record {
            bytes_are = sym (take-append-drop n bytes) ∙ ap (λ (v : List ℕ). v ++ drop n bytes) front ∙ ap (λ (v : List ℕ). purge_header ++ v) t.0;
            fits = t.1;
          }
      | false ↦ λ first h. not_purge (batch_in bytes) until h
    ] refl e

no_acts : (bytes : List ℕ) (r : Result EntryForm BatchFault) → entry_in bytes ≡ r → ((calls : List PoolCall) → SpellsBatch bytes calls → ⊥) → ((until : ℕ) → SpellsPurge bytes until → ⊥) → acts_by r ≡ []
no_acts bytes (Ok (BatchOf calls)) e batch purge = absurd (batch calls (batch_was bytes calls e))
no_acts bytes (Ok (PurgeUpTo until)) e batch purge = absurd (purge until (purge_was bytes until e))
no_acts bytes (Err fault) e batch purge = refl

pub no_entry_is_no_acts_lem : NoEntryIsNoActs
unfolding acts_of
no_entry_is_no_acts_lem bytes batch purge = no_acts bytes (entry_in bytes) refl batch purge

-- ---- the call of a request

pub makes_writers_call_lem : MakesWritersCall
makes_writers_call_lem callers h body endpoint call caller moment is by =
    let op : call.op ≡ operation_of (path_of h.target) h.method body = operation_is (path_of h.target) h.method body call.op (endpoint, is.op) in
    let at_caller : TimedCall = (moment, record { caller = call.caller; op = call.op }) in
    let P : Option Caller → TimedCall = λ v. (moment, record { caller = v; op = operation_of (path_of h.target) h.method body }) in
    let Q : Operation → TimedCall = λ v. (moment, record { caller = call.caller; op = v }) in
    ap P (sym by) ∙ ap Q (sym op)

-- ---- what the code makes

pub calls_are : (bytes : List ℕ) (calls : List PoolCall) (made : List TimedCall) → entry_in bytes ≡ Ok (BatchOf calls) → made ≡ map timed_call calls → makes_all made ≡ acts_of bytes
unfolding acts_of
calls_are bytes calls made e is = ap makes_all is ∙ sym (ap acts_by e)

pub purge_is : (bytes : List ℕ) (until : ℕ) → entry_in bytes ≡ Ok (PurgeUpTo until) → Purges until ∷ [] ≡ acts_of bytes
unfolding acts_of
purge_is bytes until e = sym (ap acts_by e)

pub error_is : (bytes : List ℕ) (e : ReadError) → Fails e (entry_in bytes) → IsEntryError e bytes
unfolding acts_of
error_is bytes errors.Memory h = tt
error_is bytes (errors.Fault fault) h = (h, ap acts_by h)
