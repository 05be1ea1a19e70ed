-- Lemmas: what the buffered bytes give next, and whose request it is.
use Rattle.std.proofs.Common.{◌≡◌, ℕ, zero, suc, List, [], length, take, drop, map, Bool, Option, refl, sym, subst, ◌∙◌, ap, arith}
use Rattle.std.specs.Prelude.{min}
use Rattle.std.proofs.lemmas.List.{append-nil}
use Rattle.httparse.specs.declared.spans.HeaderSpan.{HeaderSpan}
use Rattle.httparse.specs.declared.spans.RequestSpans.{RequestSpans}
use Rattle.httparse.specs.Grammar.{RequestHead}
use Rattle.httparse.specs.Spans.{header_bytes}
use Rattle.policy_core.specs.declared.scope.Caller.{Caller}
use Rattle.token_conf.specs.TokenFile.{Callers}
use Rattle.wire_head.specs.declared.rest.PartialHead.TheVariants.{Head}
use Rattle.wire_head.specs.Rest.{IsKind, IsSoFar, whole}
use Rattle.wire_head.proofs.KindFinds.{kind_head}
use Rattle.wire_http.specs.declared.connection.Peeked.{Peeked}
use Rattle.wire_http.specs.declared.connection.Peeked.TheVariants as peeks
use Rattle.wire_http.specs.declared.end.End.TheVariants as ends
use Rattle.wire_http.specs.declared.request.Next.TheVariants.{Request}
use Rattle.wire_http.specs.declared.buffered.BufferState.TheVariants.{Gives}
use Rattle.wire_operation.specs.Asked.{caller_of, fields_of}
use Rattle.wire_http.specs.BufferState.{IsHeld}
use Rattle.wire_http.specs.Next.{body_at}
use Rattle.wire_http.specs.Peek.{IsPartPeek, IsPeek}
use Rattle.wire_http.specs.Wire.{Finishes, IsRequest}
use Rattle.wire_http.proofs.BufferedLaws.{front_is, front_short, parts}

-- The head that is complete in the first bytes is that of all of them.
pub head_at : (bytes : List ℕ) (n : ℕ) (fields : List HeaderSpan) (spans : RequestSpans) → n ≡ min (length bytes) 8192
    → IsSoFar (take n bytes) fields (Head spans)
    → (h : RequestHead) × IsKind bytes (whole h) × (map (header_bytes (take n bytes)) (take spans.headers fields) ≡ fields_of h)
head_at bytes n fields spans m so_far =
    let e = front_is bytes n m in
    let found = kind_head (take n bytes) fields spans [] (front_short bytes (take n bytes) e) so_far in (
      found.0,
      subst (λ (v : List ℕ). IsKind v (whole found.0)) (sym (parts bytes (take n bytes) e)) (found.1 (drop 8192 bytes)),
      found.2.fields,
    )

-- What is known of a head whose body is not complete.
pub peeked_head : (callers : Callers) (bytes : List ℕ) (n : ℕ) (fields : List HeaderSpan) (spans : RequestSpans) (caller : Option Caller) → n ≡ min (length bytes) 8192
    → IsSoFar (take n bytes) fields (Head spans) → caller ≡ caller_of callers (map (header_bytes (take n bytes)) (take spans.headers fields))
    → (h : RequestHead) × IsKind bytes (whole h) × (caller ≡ caller_of callers (fields_of h))
peeked_head callers bytes n fields spans caller m so_far is =
    let found = head_at bytes n fields spans m so_far in (found.0, found.1, is ∙ ap (caller_of callers) found.2)

-- The first request, with the caller that its fields name.
pub peeked_request : (callers : Callers) (bytes : List ℕ) (over : Bool) (fields : List HeaderSpan) (spans : RequestSpans) (size : ℕ) (caller : Option Caller)
    → IsHeld bytes over fields (Gives (Request spans size)) → caller ≡ caller_of callers (map (header_bytes bytes) (take spans.headers fields))
    → (h : RequestHead) × (body : List ℕ) × IsRequest bytes h body × (caller ≡ caller_of callers (fields_of h))
peeked_request callers bytes over fields spans size caller held is =
    let found = held [] (λ _. refl) in (
      found.0,
      body_at bytes spans.len size,
      subst (λ (v : List ℕ). IsRequest v found.0 (body_at bytes spans.len size)) (append-nil bytes) (found.1 []),
      is ∙ ap (caller_of callers) found.2.fields,
    )

-- If no more requests may come, the connection closes.
pub closes_at : (n : ℕ) (rest : List ℕ) → n ≡ 0 → Finishes n rest ends.Close
closes_at zero rest e = refl
closes_at (suc n) rest e = absurd (omega (arith, e))

-- What is known of a part of a request is known of the next one.
pub peeked_part : (callers : Callers) (left : ℕ) (over : Bool) (bytes : List ℕ) (peeked : Peeked) → IsPartPeek callers bytes peeked → IsPeek callers left over bytes peeked
peeked_part callers left over bytes peeks.NeedsInput h = h
peeked_part callers left over bytes (peeks.Head caller) h = h
peeked_part callers left over bytes (peeks.Request caller) h = absurd h
peeked_part callers left over bytes peeks.Ends h = absurd h
