-- Lemmas: the call of a request that breaks no stateless rule, and lists.
use Rattle.std.proofs.Common.{◌≡◌, ◌∙◌, ℕ, List, [], ◌∷◌, drop, length, Option, Some, None, refl, sym, ap, arith, inl, inr}
use Rattle.std.specs.Prelude.{find}
use Rattle.entity_core.specs.Airspace.{Airspace, empty_at}
use Rattle.policy_core.specs.declared.call.Call.{Call}
use Rattle.policy_core.specs.declared.call.Operation.{Operation}
use Rattle.policy_core.specs.Policy.{breaks, early_rules}
use Rattle.pool_entry.proofs.Entries.{operation_is}
use Rattle.pool_instance.specs.Request.{call_from}
use Rattle.server_backend.specs.Request.{IsRequestFor}
use Rattle.server_backend.specs.declared.request.Request.{Request}

none_some : {X : Type 0} (o : Option X) (x : X) → o ≡ None → o ≡ Some x → ⊥
none_some o x h k = let e : None ≡ Some x = sym h ∙ k in cc

-- Such a call is the one that the parts of the request give.
pub call_is_given : (r : Request) → IsRequestFor r → ((a : Airspace) (time : ℕ) → find (breaks a time r.call.now) early_rules ≡ None) → r.call.now ≡ call_from r.call.now.caller r.path.now r.method.now r.body.now
call_is_given r h early =
    let given : Operation → Call = λ (op : Operation). record { caller = r.call.now.caller; op = op } in
    elim h.2.same [
      | inl same ↦ same ∙ ap given (operation_is r.path.now r.method.now r.body.now h.0 h.1)
      | inr denied ↦ absurd (none_some (find (breaks (empty_at 0) 0 r.call.now) early_rules) denied.rule (early (empty_at 0) 0) (denied.made_breaks (empty_at 0) 0))
    ]

-- A list that is its own rest is empty.
pub own_rest : {X : Type 0} (xs : List X) → xs ≡ drop 1 xs → xs ≡ []
own_rest [] h = refl
own_rest (x ∷ xs) h = absurd (omega (arith, ap (λ v. length v) h))
