-- Lemmas: from the parts of a request to its call.
use Rattle.std.proofs.Common.{◌≡◌, ℕ, ◌+◌, ◌-◌, List, take, drop, map, ap, subst, ◌∙◌, Option, arith}
use Rattle.httparse.specs.declared.spans.HeaderSpan.{HeaderSpan}
use Rattle.httparse.specs.declared.spans.RequestSpans.{RequestSpans}
use Rattle.httparse.specs.Grammar.{RequestHead}
use Rattle.httparse.specs.Spans.{header_bytes, span_bytes}
use Rattle.policy_core.specs.declared.scope.Caller.{Caller}
use Rattle.policy_core.specs.declared.call.Operation.{Operation}
use Rattle.token_conf.specs.TokenFile.{Callers}
use Rattle.wire_route.specs.declared.endpoint.Endpoint.{Endpoint}
use Rattle.wire_head.specs.FinalHead.{Covers}
use Rattle.wire_http.specs.Next.{body_at}
use Rattle.wire_head.specs.Target.{path_of}
use Rattle.wire_operation.specs.Asked.{IsCallOf, IsAsked, caller_of}

body_is : (buffer : List ℕ) (len size : ℕ) → take (len + size - len) (drop len buffer) ≡ body_at buffer len size
body_is buffer len size = let e : len + size - len ≡ size = omega arith in ap (λ n. take n (drop len buffer)) e

pub call_made : (callers : Callers) (buffer : List ℕ) (fields : List HeaderSpan) (spans : RequestSpans) (size : ℕ) (h : RequestHead)
    (op : Operation) (caller : Option Caller) (endpoint : Option Endpoint) (path method : List ℕ)
    → path ≡ path_of (span_bytes buffer spans.path) → method ≡ span_bytes buffer spans.method
    → IsAsked path method (take (spans.len + size - spans.len) (drop spans.len buffer)) endpoint op
    → caller ≡ caller_of callers (map (header_bytes buffer) (take spans.headers fields))
    → Covers buffer fields spans h
    → IsCallOf callers h (body_at buffer spans.len size) endpoint (record { caller = caller; op = op })
call_made callers buffer fields spans size h op caller endpoint path method p m asked c cover =
    let at_path : path ≡ path_of h.target = p ∙ ap path_of cover.path in
    record {
      caller = c ∙ ap (caller_of callers) cover.fields;
      op = subst (λ v. IsAsked (path_of h.target) h.method v endpoint op) (body_is buffer spans.len size)
          (subst (λ v. IsAsked (path_of h.target) v (take (spans.len + size - spans.len) (drop spans.len buffer)) endpoint op) (m ∙ cover.method)
          (subst (λ v. IsAsked v method (take (spans.len + size - spans.len) (drop spans.len buffer)) endpoint op) at_path asked));
    }
