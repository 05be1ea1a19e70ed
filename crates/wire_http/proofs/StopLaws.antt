-- Lemmas: a rest stops a stream in only one way, and not if it begins with a request.
use Rattle.std.proofs.Common.{◌≡◌, ℕ, zero, suc, ◌<◌, ◌≤◌, List, length, take, refl, sym, ap, subst, ◌∙◌, Result, Ok, Err, inl, inr, arith}
use Rattle.std.proofs.lemmas.List.{length-take}
use Rattle.httparse.specs.Grammar.{RequestHead}
use Rattle.wire_http.specs.declared.end.End.{End}
use Rattle.wire_http.specs.declared.end.End.TheVariants as ends
use Rattle.wire_head.specs.declared.rule.WireRule.{WireRule}
use Rattle.wire_head.specs.declared.rule.WireRule.TheVariants as rules
use Rattle.wire_operation.specs.Asked.{fields_of}
use Rattle.wire_head.specs.Length.{content_length}
use Rattle.wire_head.specs.Rest.{Kind, nothing, cut, bad, large, whole, IsKind, AreSame, after}
use Rattle.wire_http.specs.Stop.{StopsAs, HasRefused, AreSameEnds}
use Rattle.wire_http.specs.Wire.{IsRequest, Finishes}
use Rattle.wire_head.proofs.KindLaws.{one_kind}

-- Holds if this is the end for the length of a body, given the number of bytes after the head.
abbrev IsTold : ℕ → Result ℕ WireRule → End → Type 0
IsTold there (Ok size) end = (end ≡ ends.Cut) × (there < size)
IsTold there (Err rule) end = end ≡ ends.Wire rule

-- Holds if this is the end for the kind of the rest.
abbrev IsEndAt : List ℕ → Kind → End → Type 0
IsEndAt rest nothing end = end ≡ ends.End
IsEndAt rest cut end = end ≡ ends.Cut
IsEndAt rest bad end = end ≡ ends.Wire rules.Head
IsEndAt rest large end = end ≡ ends.Wire rules.HeadSize
IsEndAt rest (whole h) end = IsTold (length (after h rest)) (content_length (fields_of h)) end

told_at : (rest : List ℕ) (rule : WireRule) → HasRefused rest rule → (j : Kind) × IsKind rest j × IsEndAt rest j (ends.Wire rule)
told_at rest rule (h, x, told) = (whole h, x, subst (λ (v : Result ℕ WireRule). IsTold (length (after h rest)) v (ends.Wire rule)) (sym told) refl)

end_at : (rest : List ℕ) (end : End) → StopsAs rest end → (j : Kind) × IsKind rest j × IsEndAt rest j end
end_at rest ends.End x = (nothing, x, refl)
end_at rest ends.Cut (inl x) = (cut, x, refl)
end_at rest ends.Cut (inr (h, size, x, told, short)) =
    (whole h, x, subst (λ (v : Result ℕ WireRule). IsTold (length (after h rest)) v ends.Cut) (sym told) (refl, short))
end_at rest ends.Close x = absurd x
end_at rest (ends.Wire rules.Head) x = (bad, x, refl)
end_at rest (ends.Wire rules.HeadSize) x = (large, x, refl)
end_at rest (ends.Wire rules.Transfer) x = told_at rest rules.Transfer x
end_at rest (ends.Wire rules.Length) x = told_at rest rules.Length x
end_at rest (ends.Wire rules.BodySize) x = told_at rest rules.BodySize x

same_told : (there : ℕ) (told : Result ℕ WireRule) (end other : End) → IsTold there told end → IsTold there told other → other ≡ end
same_told there (Ok size) end other x y = y.0 ∙ sym x.0
same_told there (Err rule) end other x y = y ∙ sym x

same_at : (rest : List ℕ) (j : Kind) (end other : End) → IsEndAt rest j end → IsEndAt rest j other → other ≡ end
same_at rest nothing end other x y = y ∙ sym x
same_at rest cut end other x y = y ∙ sym x
same_at rest bad end other x y = y ∙ sym x
same_at rest large end other x y = y ∙ sym x
same_at rest (whole h) end other x y = same_told (length (after h rest)) (content_length (fields_of h)) end other x y

same_ends : (rest : List ℕ) (j k : Kind) (end other : End) → AreSame rest j k → IsEndAt rest j end → IsEndAt rest k other → AreSameEnds rest end other
same_ends rest nothing k end other s x y = inl (same_at rest nothing end other x (subst (λ (v : Kind). IsEndAt rest v other) s y))
same_ends rest cut k end other s x y = inl (same_at rest cut end other x (subst (λ (v : Kind). IsEndAt rest v other) s y))
same_ends rest (whole h) k end other s x y = inl (same_at rest (whole h) end other x (subst (λ (v : Kind). IsEndAt rest v other) s y))
same_ends rest bad bad end other s x y = inl (y ∙ sym x)
same_ends rest bad large end other s x y = inr (s, rw x tt, rw y tt)
same_ends rest bad nothing end other s x y = absurd s
same_ends rest bad cut end other s x y = absurd s
same_ends rest bad (whole h) end other s x y = absurd s
same_ends rest large large end other s x y = inl (y ∙ sym x)
same_ends rest large bad end other s x y = inr (s, rw x tt, rw y tt)
same_ends rest large nothing end other s x y = absurd s
same_ends rest large cut end other s x y = absurd s
same_ends rest large (whole h) end other s x y = absurd s

one_stop : (rest : List ℕ) (end other : End) → StopsAs rest end → StopsAs rest other → AreSameEnds rest end other
one_stop rest end other x y =
    let a = end_at rest end x in
    let b = end_at rest other y in
    same_ends rest a.0 b.0 end other (one_kind rest a.0 b.0 a.1 b.1) a.2 b.2

pub one_finish : (n : ℕ) (rest : List ℕ) (end other : End) → Finishes n rest end → Finishes n rest other → AreSameEnds rest end other
one_finish zero rest end other x y = inl (y ∙ sym x)
one_finish (suc n) rest end other x y = one_stop rest end other x y

-- ---- a request does not stop the stream

short_body : (rest : List ℕ) (h : RequestHead) (body : List ℕ) → take (length body) (after h rest) ≡ body → length body ≤ length (after h rest)
short_body rest h body e = let n = ap length e in omega (arith, n, length-take (length body) (after h rest))

pub no_stop : (rest : List ℕ) (h : RequestHead) (body : List ℕ) (end : End) → IsRequest rest h body → StopsAs rest end → ⊥
no_stop rest h body end r x =
    let a = end_at rest end x in
    let same : a.0 ≡ whole h = one_kind rest (whole h) a.0 r.head a.1 in
    let told : IsTold (length (after h rest)) (content_length (fields_of h)) end = subst (λ (v : Kind). IsEndAt rest v end) same a.2 in
    let cut_at : IsTold (length (after h rest)) (Ok (length body)) end = subst (λ (v : Result ℕ WireRule). IsTold (length (after h rest)) v end) r.told told in
    omega (arith, cut_at.1, short_body rest h body r.follows)
