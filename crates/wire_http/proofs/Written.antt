-- Lemmas: the bytes given to a writer.
use Rattle.std.proofs.Common.{◌≡◌, ℕ, ◌<◌, Bool, List, [], ◌++◌, length, map, Option, Some, None, refl, sym, ap, subst, ◌∙◌, append-nil, arith}
use Rattle.std.specs.Prelude.{String, string_bytes}
use Rattle.std.specs.declared.alloc.Global.{Global}
use Rattle.std.specs.Io.KnownBytes.{Appends}
use Rattle.std.specs.List.{concat}
use Rattle.service_step.specs.declared.reply.Reply.{Reply}
use Rattle.service_step.specs.declared.reply.Reply.TheVariants.{Done, Denied, Fault, Stopped}
use Rattle.wire_head.specs.declared.rule.WireRule.{WireRule}
use Rattle.wire_route.specs.declared.endpoint.Endpoint.{Endpoint}
use Rattle.wire_http.specs.declared.end.End.{End}
use Rattle.wire_http.specs.declared.end.End.TheVariants as ends
use Rattle.wire_http.specs.declared.explaining.Explaining.{Explaining}
use Rattle.wire_http.specs.declared.explaining.Explaining.TheVariants.{Off, On}
use Rattle.wire_http.specs.Notes.{IsWritten, MayBeNotes}
use Rattle.wire_head.specs.Lines.{status_line}
use Rattle.wire_http.specs.Text.{end_texts, front_of, message, noted_text, response_text, rule_text}

-- Nothing was written.
pub Appends-none : (a : Option (List ℕ)) → Appends a a []
Appends-none None = tt
Appends-none (Some xs) = sym (append-nil xs)

-- ---- responses

-- What is written is appended.
pub some_written : (explaining : Explaining) (p q : List ℕ) (endpoint : Option Endpoint) (closing : Bool) (reply : Reply)
    → IsWritten explaining (Some p) (Some q) endpoint closing reply → (t : List ℕ) × (q ≡ p ++ t)
some_written Off p q endpoint closing reply w = (response_text endpoint closing reply, w)
some_written On p q endpoint closing reply w = (noted_text w.0 endpoint closing reply, w.1)

-- Without texts the response is that of the policy.
pub noted_none : (endpoint : Option Endpoint) (closing : Bool) (reply : Reply) → noted_text [] endpoint closing reply ≡ response_text endpoint closing reply
noted_none endpoint closing (Done answer) = refl
noted_none endpoint closing (Denied rule missing) = refl
noted_none endpoint closing Fault = refl
noted_none endpoint closing Stopped = refl

-- The response was written with these texts.
pub written_by : (explaining : Explaining) (texts items : List (String Global)) (p q : List ℕ) (endpoint : Option Endpoint) (closing : Bool) (reply : Reply)
    → texts ≡ items → MayBeNotes explaining (map string_bytes items) → q ≡ p ++ noted_text (map string_bytes texts) endpoint closing reply
    → IsWritten explaining (Some p) (Some q) endpoint closing reply
written_by Off texts items p q endpoint closing reply same none w =
    w
    ∙ ap (λ notes. p ++ noted_text notes endpoint closing reply) (ap (map string_bytes) same ∙ none)
    ∙ ap (λ text. p ++ text) (noted_none endpoint closing reply)
written_by On texts items p q endpoint closing reply same any w = (map string_bytes texts, w)

-- The texts with which the response was written.
pub notes_written : (explaining : Explaining) (p q : List ℕ) (endpoint : Option Endpoint) (closing : Bool) (reply : Reply)
    → IsWritten explaining (Some p) (Some q) endpoint closing reply
    → (notes : List (List ℕ)) × MayBeNotes explaining notes × (q ≡ p ++ noted_text notes endpoint closing reply)
notes_written Off p q endpoint closing reply w = ([], refl, w ∙ ap (λ text. p ++ text) (sym (noted_none endpoint closing reply)))
notes_written On p q endpoint closing reply w = (w.0, tt, w.1)

-- ---- texts are not empty

pub some_message : (status : ℕ) (field : List ℕ) (closing : Bool) (body : List ℕ) → 0 < length (message status field closing body)
unfolding front_of status_line
some_message status field closing body = omega arith

pub some_rule : (end : End) (rule : WireRule) → end ≡ ends.Wire rule → 0 < length (concat (end_texts end))
some_rule end rule e =
    let some : 0 < length (concat (end_texts (ends.Wire rule))) = subst (λ (t : List ℕ). 0 < length t) (sym (append-nil (rule_text rule))) (some_message _ _ _ _) in
    subst (λ (v : End). 0 < length (concat (end_texts v))) (sym e) some
