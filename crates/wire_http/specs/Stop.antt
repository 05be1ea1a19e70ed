-- How a stream stops if its rest is not a request that can be answered.
use Rattle.std.specs.Prelude.{◌≡◌, ◌<◌, ◌⊎◌, ℕ, List, [], length, Ok, Err}
use Rattle.httparse.specs.Grammar.{RequestHead}
use Rattle.httparse.specs.Spans.{RequestExceeds}
use Rattle.wire_http.specs.declared.end.End.{End}
use Rattle.wire_http.specs.declared.end.End.TheVariants as ends
use Rattle.wire_head.specs.declared.rule.WireRule.{WireRule}
use Rattle.wire_head.specs.declared.rule.WireRule.TheVariants as rules
use Rattle.wire_head.specs.Rest.{IsKind, cut, bad, large, whole, after, window}
use Rattle.wire_head.specs.Length.{content_length}
use Rattle.wire_operation.specs.Asked.{fields_of}

-- Holds if the rest begins with a complete head whose fields break this rule first.
abbrev pub HasRefused : List ℕ → WireRule → Type 0
HasRefused rest rule = (h : RequestHead) × IsKind rest (whole h)
    × (content_length (fields_of h) ≡ Err rule)

-- Holds if the rest breaks this protocol rule.
abbrev pub Breaks : List ℕ → WireRule → Type 0
Breaks rest rules.Head = IsKind rest bad
Breaks rest rules.HeadSize = IsKind rest large
Breaks rest rules.Transfer = HasRefused rest rules.Transfer
Breaks rest rules.Length = HasRefused rest rules.Length
Breaks rest rules.BodySize = HasRefused rest rules.BodySize

-- Holds if the rest ends within a head, or within the body after it.
abbrev pub IsCut : List ℕ → Type 0
IsCut rest =
    IsKind rest cut
    ⊎ ((h : RequestHead) × (size : ℕ) × IsKind rest (whole h) × (content_length (fields_of h) ≡ Ok size)
    × (length (after h rest) < size))

-- Holds if the stream stops in this way at the rest.
abbrev pub StopsAs : List ℕ → End → Type 0
StopsAs rest ends.End = rest ≡ []
StopsAs rest ends.Cut = IsCut rest
StopsAs rest (ends.Wire rule) = Breaks rest rule
StopsAs rest ends.Close = ⊥

-- Holds if the end is by the rule about the grammar or by that about the size of a head.
abbrev pub IsOfHead : End → Type 0
IsOfHead (ends.Wire rules.Head) = Unit {0}
IsOfHead (ends.Wire rules.HeadSize) = Unit {0}
IsOfHead (ends.Wire rules.Transfer) = ⊥
IsOfHead (ends.Wire rules.Length) = ⊥
IsOfHead (ends.Wire rules.BodySize) = ⊥
IsOfHead ends.End = ⊥
IsOfHead ends.Cut = ⊥
IsOfHead ends.Close = ⊥

-- Holds if two ends at a rest are equal. If the rest breaks the grammar and also has too many
-- fields, either of the two rules is right.
abbrev pub AreSameEnds : List ℕ → End → End → Type 0
AreSameEnds rest end other = (other ≡ end) ⊎ (RequestExceeds 64 (window rest) × IsOfHead end
    × IsOfHead other)
