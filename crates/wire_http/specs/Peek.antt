-- What the buffered bytes of a connection give next, with the caller of the next request.
use Rattle.std.specs.Prelude.{◌≡◌, ℕ, Bool, List, ◌++◌, option_copied}
use Rattle.httparse.specs.Grammar.{RequestHead}
use Rattle.token_conf.specs.TokenFile.{Callers}
use Rattle.wire_head.specs.Rest.{IsKind, whole}
use Rattle.wire_http.specs.declared.connection.Peeked.{Peeked}
use Rattle.wire_http.specs.declared.connection.Peeked.TheVariants as peeks
use Rattle.wire_http.specs.declared.end.End.{End}
use Rattle.wire_operation.specs.Asked.{caller_of, fields_of}
use Rattle.wire_http.specs.BufferState.{HasNoRequest, MayCome}
use Rattle.wire_http.specs.Wire.{Finishes, IsRequest}

-- Holds if no request is complete, and a returned caller is that of the buffered head.
abbrev pub IsPartPeek : Callers → List ℕ → Peeked → Type 0
IsPartPeek callers held peeks.NeedsInput = HasNoRequest held
IsPartPeek callers held (peeks.Head caller) = HasNoRequest held × ((h : RequestHead)
    × IsKind held (whole h) × (option_copied caller ≡ caller_of callers (fields_of h)))
IsPartPeek callers held (peeks.Request caller) = ⊥
IsPartPeek callers held peeks.Ends = ⊥

-- Holds if this is what the buffered bytes give next while `left` requests may still come. A
-- returned caller is that of the buffered head. In the case `Ends`, the stream ends, whatever may
-- still arrive.
abbrev pub IsPeek : Callers → (left : ℕ) → (ended : Bool) → List ℕ → Peeked → Type 0
IsPeek callers left ended held peeks.NeedsInput = HasNoRequest held
IsPeek callers left ended held (peeks.Head caller) =
    IsPartPeek callers held (peeks.Head caller)
IsPeek callers left ended held (peeks.Request caller) =
    (h : RequestHead) × (body : List ℕ) × IsRequest held h body
    × (option_copied caller ≡ caller_of callers (fields_of h))
IsPeek callers left ended held peeks.Ends =
    (end : End) × ((later : List ℕ) → MayCome ended later → Finishes left (held ++ later) end)
