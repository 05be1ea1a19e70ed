-- Lemmas: a rest has at most one next request, and a request makes at most one call.
use Rattle.std.proofs.Common.{◌≡◌, ℕ, List, length, take, sym, ap, ◌∙◌, Option, Ok}
use Rattle.httparse.specs.Grammar.{RequestHead}
use Rattle.policy_core.specs.declared.call.Call.{Call}
use Rattle.token_conf.specs.TokenFile.{Callers}
use Rattle.wire_route.specs.declared.endpoint.Endpoint.{Endpoint}
use Rattle.wire_head.specs.Rest.{after}
use Rattle.wire_head.specs.Length.{content_length}
use Rattle.wire_head.specs.Target.{path_of}
use Rattle.wire_operation.specs.Asked.{IsCallOf, fields_of}
use Rattle.wire_operation.proofs.Asked.{same_asked}
use Rattle.wire_http.specs.Wire.{IsRequest}
use Rattle.wire_http.proofs.NextLaws.{same_head}

pub one_request : (rest : List ℕ) (h k : RequestHead) (a b : List ℕ) → IsRequest rest h a → IsRequest rest k b → (k ≡ h) × (b ≡ a)
one_request rest h k a b x y =
    let head : k ≡ h = same_head rest h k x.head y.head in
    let told : content_length (fields_of k) ≡ Ok (length a) = ap (λ v. content_length (fields_of v)) head ∙ x.told in
    let other : content_length (fields_of k) ≡ Ok (length b) = y.told in
    let size : length b ≡ length a = cc in
    (head, sym y.follows ∙ ap (λ v. take (length b) (after v rest)) head ∙ ap (λ n. take n (after h rest)) size ∙ x.follows)

pub one_call : (callers : Callers) (h : RequestHead) (body : List ℕ) (a b : Option Endpoint) (c d : Call) → IsCallOf callers h body a c → IsCallOf callers h body b d → (b ≡ a) × (d ≡ c)
one_call callers h body a b c d x y =
    let caller : d.caller ≡ c.caller = y.caller ∙ sym x.caller in
    let asked = same_asked (path_of h.target) h.method body a b c.op d.op x.op y.op in
    let at_caller : record { caller = d.caller; op = d.op } ≡ record { caller = c.caller; op = d.op } = ap (λ v. let r : Call = record { caller = v; op = d.op } in r) caller in
    (asked.0, at_caller ∙ ap (λ v. let r : Call = record { caller = c.caller; op = v } in r) asked.1)
