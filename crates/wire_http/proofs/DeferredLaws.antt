-- Lemmas: the unsent bytes, split into those that may be sent and the deferred ones.
use Rattle.std.proofs.Common.{◌≡◌, ℕ, ◌+◌, ◌-◌, ◌≤◌, List, ◌++◌, length, take, drop, false, refl, sym, ap, subst, ◌∙◌, Option, Some, None, arith}
use Rattle.std.specs.Option.{ForSome}
use Rattle.std.specs.Prelude.{is_some, option_map}
use Rattle.service_step.specs.declared.reply.Reply.{Reply}
use Rattle.std.proofs.Math.Seq.{take-append_seam}
use Rattle.std.proofs.lemmas.List.{append-nil, drop-append-le, drop-drop, drop-take, length-drop, length-take, length-take-le, take-append-drop, take-append-le}
use Rattle.wire_http.specs.declared.connection.Connection.{Connection}
use Rattle.wire_http.specs.declared.connection.DeferredResponse.{DeferredResponse}
use Rattle.wire_http.specs.Connection.{deferred_of, holds_back, output_of, ready_of}
use Rattle.wire_http.specs.DeferredResponse.{StandsWithin, before_last, last_alone, slot_at, text_at}
use Rattle.wire_http.specs.Text.{response_text}
use Rattle.wire_http.proofs.StepLaws.{unsent_more}

-- Sending `count` bytes removes them from the front of the bytes before the last response.
pub ready_sent : (sent count : ℕ) (answers : List ℕ) (last : Option DeferredResponse) → count ≤ length (before_last sent (drop sent answers) last)
    → before_last (sent + count) (drop (sent + count) answers) last ≡ drop count (before_last sent (drop sent answers) last)
ready_sent sent count answers None fits = sym (drop-drop count sent answers)
ready_sent sent count answers (Some last) fits =
    let most : length (take (last.start - sent) (drop sent answers)) ≤ last.start - sent = omega (arith, length-take (last.start - sent) (drop sent answers)) in
    let parts : last.start - sent ≡ count + (last.start - (sent + count)) = omega (arith, fits, most) in
    ap (λ v. take (last.start - (sent + count)) v) (sym (drop-drop count sent answers))
    ∙ sym (drop-take count (last.start - (sent + count)) (drop sent answers))
    ∙ ap (λ n. drop count (take n (drop sent answers))) (sym parts)

-- The unsent bytes before the last response, which is cut off.
pub cut_off : (sent start : ℕ) (answers : List ℕ) → sent ≤ start → drop sent (take start answers) ≡ take (start - sent) (drop sent answers)
cut_off sent start answers fits =
    let parts : start ≡ sent + (start - sent) = omega (arith, fits) in
    ap (λ n. drop sent (take n answers)) parts ∙ drop-take sent (start - sent) answers

-- The unsent bytes come before a response that is appended to them.
pub ready_then : (sent start : ℕ) (p q t : List ℕ) → sent ≤ length p → start ≡ length p → q ≡ p ++ t → take (start - sent) (drop sent q) ≡ drop sent p
ready_then sent start p q t fits s e =
    ap (λ n. take (n - sent) (drop sent q)) s
    ∙ ap (λ v. take (length p - sent) v) (unsent_more sent p q t fits e)
    ∙ ap (λ n. take n (drop sent p ++ t)) (sym (length-drop sent p))
    ∙ take-append_seam (drop sent p) t

-- The last response is cut off, and another one or none takes its place.
pub cut_then : (sent start : ℕ) (answers cut q t : List ℕ) → sent ≤ start → start ≤ length answers → cut ≡ take start answers → q ≡ cut ++ t
    → drop sent q ≡ take (start - sent) (drop sent answers) ++ t
cut_then sent start answers cut q t behind within d w =
    let fits : sent ≤ length (take start answers) = omega (arith, behind, length-take-le start answers within) in
    ap (λ v. drop sent v) (w ∙ ap (λ v. v ++ t) d) ∙ drop-append-le sent (take start answers) t fits ∙ ap (λ v. v ++ t) (cut_off sent start answers behind)

module _ (sent : ℕ) (answers cut q : List ℕ) (back : Option DeferredResponse) (last : DeferredResponse) (is : back ≡ Some last) (fits : ForSome back (StandsWithin sent (length answers))) (d : cut ≡ take last.start answers) where
  pub replaces : (reply : Reply) → q ≡ cut ++ response_text last.endpoint last.closing reply
      → drop sent q ≡ before_last sent (drop sent answers) back ++ text_at (option_map slot_at back) reply
  replaces reply w =
      let within = fits last is in
      subst (λ (v : Option DeferredResponse). drop sent q ≡ before_last sent (drop sent answers) v ++ text_at (option_map slot_at v) reply) (sym is)
      (cut_then sent last.start answers cut q (response_text last.endpoint last.closing reply) within.0 within.1 d w)

  pub cuts : q ≡ cut → drop sent q ≡ before_last sent (drop sent answers) back
  cuts w =
      let within = fits last is in
      subst (λ (v : Option DeferredResponse). drop sent q ≡ before_last sent (drop sent answers) v) (sym is)
      (ap (λ v. drop sent v) (w ∙ d) ∙ cut_off sent last.start answers within.0)

-- ---- connections

both : (sent : ℕ) (output : List ℕ) (last : Option DeferredResponse) → before_last sent output last ++ last_alone sent output last ≡ output
both sent output None = append-nil output
both sent output (Some last) = take-append-drop (last.start - sent) output

none_back : (sent : ℕ) (output : List ℕ) (last : Option DeferredResponse) → is_some last ≡ false → before_last sent output last ≡ output
none_back sent output None e = refl
none_back sent output (Some last) e = let no : ⊥ = cc in absurd no

-- Without a deferred response, all unsent bytes may be sent.
pub all_ready : (c : Connection) → holds_back c ≡ false → ready_of c ≡ output_of c
all_ready c e = none_back c.sent (output_of c) c.deferred_response e

pub ready_and_back : (c : Connection) → ready_of c ++ deferred_of c ≡ output_of c
ready_and_back c = both c.sent (output_of c) c.deferred_response

-- The first bytes that may be sent are the first unsent bytes.
pub ready_first : (c : Connection) (n : ℕ) → n ≤ length (ready_of c) → take n (output_of c) ≡ take n (ready_of c)
ready_first c n fits = ap (λ v. take n v) (sym (ready_and_back c)) ∙ take-append-le n (ready_of c) (deferred_of c) fits
