-- Lemmas: from what was found, called and replied to what one step of a connection does.
use Rattle.std.proofs.Common.{◌≡◌, ℕ, zero, suc, ◌<◌, ◌≤◌, List, ◌++◌, length, drop, Bool, ap, subst, ◌∙◌, arith}
use Rattle.std.proofs.lemmas.List.{drop-append-le}
use Rattle.httparse.specs.declared.spans.HeaderSpan.{HeaderSpan}
use Rattle.httparse.specs.declared.spans.RequestSpans.{RequestSpans}
use Rattle.wire_http.specs.declared.end.End.{End}
use Rattle.wire_http.specs.declared.buffered.BufferState.{BufferState}
use Rattle.wire_http.specs.declared.buffered.BufferState.TheVariants.{Gives, Wants}
use Rattle.wire_http.specs.declared.request.Next.{Next}
use Rattle.wire_http.specs.declared.request.Next.TheVariants.{Request, Stop}
use Rattle.wire_http.specs.BufferState.{IsHeld, MayCome}
use Rattle.wire_http.specs.Stop.{StopsAs}
use Rattle.wire_http.specs.Wire.{Finishes}

-- The buffered bytes stop the stream, whatever may still arrive.
pub held_stops : (bytes : List ℕ) (over : Bool) (fields : List HeaderSpan) (r : BufferState) (n : Next) (end : End) → r ≡ Gives n → n ≡ Stop end
    → IsHeld bytes over fields r → (later : List ℕ) → MayCome over later → StopsAs (bytes ++ later) end
held_stops bytes over fields r n end e f h later may =
    let x : IsHeld bytes over fields (Gives (Stop end)) = subst (λ (v : Next). IsHeld bytes over fields (Gives v)) f (subst (λ (v : BufferState). IsHeld bytes over fields v) e h) in x later may

-- The buffered bytes begin with the request that was found.
pub held_request : (bytes : List ℕ) (over : Bool) (fields : List HeaderSpan) (r : BufferState) (n : Next) (spans : RequestSpans) (size : ℕ) → r ≡ Gives n → n ≡ Request spans size
    → IsHeld bytes over fields r → IsHeld bytes over fields (Gives (Request spans size))
held_request bytes over fields r n spans size e f h = subst (λ (v : Next). IsHeld bytes over fields (Gives v)) f (subst (λ (v : BufferState). IsHeld bytes over fields v) e h)

pub held_wants : (bytes : List ℕ) (over : Bool) (fields : List HeaderSpan) (r : BufferState) (count : ℕ) → r ≡ Wants count → IsHeld bytes over fields r
    → IsHeld bytes over fields (Wants count)
held_wants bytes over fields r count e h = subst (λ (v : BufferState). IsHeld bytes over fields v) e h

pub finishes : (n : ℕ) (rest : List ℕ) (end : End) → 0 < n → StopsAs rest end → Finishes n rest end
finishes zero rest end some h = absurd (omega (arith, some))
finishes (suc n) rest end some h = h

-- Appended bytes come after the unsent ones.
pub unsent_more : (sent : ℕ) (p q t : List ℕ) → sent ≤ length p → q ≡ p ++ t → drop sent q ≡ drop sent p ++ t
unsent_more sent p q t fits e = ap (λ v. drop sent v) e ∙ drop-append-le sent p t fits
