-- Lemmas: the USSs that the calls of an entry are made for.
use Rattle.std.proofs.Common.{◌≡◌, ℕ, List, [], ◌∷◌, ◌++◌, map, Some, Result, Ok, Err, refl, sym, ap, ◌∙◌, inl, inr}
use Rattle.std.specs.Prelude.{Contains}
use Rattle.std.proofs.lemmas.List.Elements.{Contains-append_cases, Contains-append_right}
use Rattle.policy_core.specs.declared.scope.Caller.{Caller}
use Rattle.service_calls.specs.Run.{TimedCall}
use Rattle.pool_core.specs.Acts.{Act, Makes, Purges, makes_all}
use Rattle.pool_core.proofs.Lists.{contains_head, contains_none, contains_one}
use Rattle.pool_entry.specs.declared.batch_fault.BatchFault.{BatchFault}
use Rattle.pool_entry.specs.declared.pool_call.PoolCall.{PoolCall}
use Rattle.pool_entry.specs.Acts.{acts_by, acts_of}
use Rattle.pool_entry.specs.Calls.{timed_call}
use Rattle.pool_entry.specs.Reading.{BatchOf, EntryForm, PurgeUpTo, entry_in}
use Rattle.pool_entry.specs.Suppliers.{CallersAreSuppliers, supplier_of, suppliers_by, suppliers_in}

-- A caller whose USS is among these.
abbrev Named : List (List ℕ) → TimedCall → Type 0
Named suppliers timed = (caller : Caller) × (timed.1.caller ≡ Some caller) × Contains suppliers caller.uss

more_named : (supplier : List ℕ) (suppliers : List (List ℕ)) (timed : TimedCall) → Named suppliers timed → Named (supplier ∷ suppliers) timed
more_named supplier suppliers timed h = (h.0, h.1, Contains-append_right (supplier ∷ []) suppliers h.0.uss h.2)

first_named : (c : PoolCall) (suppliers : List (List ℕ)) (timed : TimedCall) → Makes (timed_call c) ≡ Makes timed → Named (supplier_of c ∷ suppliers) timed
first_named c suppliers timed same =
    let is : timed_call c ≡ timed = cc in
    (c.caller, ap (λ (t : TimedCall). t.1.caller) (sym is), contains_head (supplier_of c) suppliers)

batch_named : (calls : List PoolCall) (timed : TimedCall) → Contains (makes_all (map timed_call calls)) (Makes timed) → Named (map supplier_of calls) timed
batch_named [] timed h = contains_none (Makes timed) h
batch_named (c ∷ calls) timed h = elim (Contains-append_cases (Makes (timed_call c) ∷ []) (makes_all (map timed_call calls)) (Makes timed) h) [
  | inl here ↦ first_named c (map supplier_of calls) timed (contains_one (Makes (timed_call c)) (Makes timed) here)
  | inr there ↦ more_named (supplier_of c) (map supplier_of calls) timed (batch_named calls timed there)
]

purge_named : (until : ℕ) (timed : TimedCall) → Purges until ≡ Makes timed → Named [] timed
purge_named until timed same = absurd cc

entry_named : (read : Result EntryForm BatchFault) (timed : TimedCall) → Contains (acts_by read) (Makes timed) → Named (suppliers_by read) timed
entry_named (Ok (BatchOf calls)) timed h = batch_named calls timed h
entry_named (Ok (PurgeUpTo until)) timed h = purge_named until timed (contains_one (Purges until) (Makes timed) h)
entry_named (Err fault) timed h = contains_none (Makes timed) h

pub callers_are_suppliers_lem : CallersAreSuppliers
unfolding acts_of suppliers_in
callers_are_suppliers_lem bytes timed h = entry_named (entry_in bytes) timed h
