-- What one turn of a stream gives: one more request, or the end.
use Rattle.std.specs.Prelude.{◌≡◌, ◌<◌, ◌==◌, ◌⊎◌, ℕ, List, [], ◌++◌, length, take, Option}
use Rattle.std.specs.List.{concat}
use Rattle.std.specs.Io.KnownBytes.{Appends, Consumes}
use Rattle.space_core.specs.declared.space.Space.{Ghosts}
use Rattle.service_calls.specs.declared.service.Service.{Service}
use Rattle.service_step.specs.declared.reply.Reply.{Reply}
use Rattle.service_calls.specs.Run.{IsReplyTo}
use Rattle.token_conf.specs.TokenFile.{Callers}
use Rattle.wire_head.specs.declared.rule.WireRule.{WireRule}
use Rattle.wire_http.specs.declared.explaining.Explaining.{Explaining}
use Rattle.wire_http.specs.declared.explaining.Explaining.TheVariants.{Off}
use Rattle.wire_http.specs.declared.fault.StreamFault.{StreamFault}
use Rattle.wire_http.specs.declared.serve.Turn.{Turn}
use Rattle.wire_http.specs.declared.serve.Turn.TheVariants.{Answered, Ended}
use Rattle.wire_http.specs.Fault.{IsOfAnswering, IsOfAsking}
use Rattle.wire_http.specs.Input.{IsInput}
use Rattle.wire_http.specs.Notes.{IsWritten}
use Rattle.wire_http.specs.Stop.{Breaks, StopsAs}
use Rattle.wire_http.specs.Text.{response_text, end_texts, rule_text}
use Rattle.wire_http.specs.Wire.{RequestCall, AsksCall, ClockAfter, left_after}

-- Holds if fewer requests may follow after a response.
abbrev pub MayGoOn : ℕ → Turn → Type 0
MayGoOn count (Answered n) = n < count
MayGoOn count (Ended end) = Unit {0}

module _ {S M : Type 0} (g : Ghosts S) (Gives : M → ℕ → M → Type 0) (callers : Callers)
    (bound : ℕ) (old new : Service S) (clock clock' : M) (before text : Option (List ℕ)) where
  -- Holds if the service replied to the call, and `n` requests may follow.
  pub record Took (asked : RequestCall) (reply : Reply) (n : ℕ) : Type 0 where
    pub n_is : n ≡ left_after bound asked.head
    pub closing : asked.closing ≡ (n == 0)
    pub is_reply : IsReplyTo g old new asked.moment asked.call reply

  -- Holds if a request was answered, whatever follows it, or the stream ended. The arguments are
  -- the bytes left in the reader before and after the turn, if they are known, and those in the
  -- buffer before and after it that belong to no earlier request.
  --
  -- For `Answered`: there are a request, its reply, and the bytes `came` that the turn read. The
  -- service gave this reply. The buffer, what came, and whatever follows begin with this request.
  -- The response was written. For `Ended`: the buffer and all bytes `ahead` in the reader stop as
  -- `end` says. The service and the clock are unchanged, and the texts of `end` were written.
  --
  -- Example: the buffer holds half of a request, and the reader has its other half and one more
  -- request. The turn reads both, answers the first request, and leaves the second in the buffer.
  abbrev pub IsTurnBy : Explaining → Option (List ℕ) → Option (List ℕ) → List ℕ → List ℕ → Turn
      → Type 0
  IsTurnBy explaining remaining remaining' buffer buffer' (Answered n) =
      (asked : RequestCall) × (reply : Reply) × (came : List ℕ)
      × Took asked reply n × Consumes remaining remaining' came
      × ((later : List ℕ) → AsksCall Gives callers (buffer ++ (came ++ later)) clock asked
      (buffer' ++ later) clock')
      × IsWritten explaining before text asked.endpoint asked.closing reply
  IsTurnBy explaining remaining remaining' buffer buffer' (Ended end) =
      (ahead : List ℕ) × IsInput remaining ahead × StopsAs (buffer ++ ahead) end
      × (new ≡ old) × (clock' ≡ clock) × Appends before text (concat (end_texts end))

  -- The same without explanations: the written response is that of the policy.
  abbrev pub IsTurn : Option (List ℕ) → Option (List ℕ) → List ℕ → List ℕ → Turn → Type 0
  IsTurn = IsTurnBy Off

  -- Holds if the turn was aborted before the call of a request.
  pub record StopsUnasked (rest : List ℕ) (fault : StreamFault) : Type 0 where
    pub fault_is : IsOfAsking fault
    pub same : new ≡ old
    pub clock_is : ClockAfter Gives callers fault rest clock clock'
    pub written : Appends before text []

  -- Holds if the turn was aborted within the response to a request.
  pub record StopsInAnswer (rest : List ℕ) (fault : StreamFault) : Type 0 where
    pub fault_is : IsOfAnswering fault
    pub asked : RequestCall
    pub reply : Reply
    pub n : ℕ
    pub next : List ℕ
    pub took : Took asked reply n
    pub asks : AsksCall Gives callers rest clock asked next clock'
    pub size : ℕ
    pub short : size < length (response_text asked.endpoint asked.closing reply)
    pub written : Appends before text (take size (response_text asked.endpoint asked.closing reply))

  -- Holds if the turn was aborted within the text of the rule that the rest breaks.
  pub record StopsInRule (rest : List ℕ) (fault : StreamFault) : Type 0 where
    pub fault_is : IsOfAnswering fault
    pub rule : WireRule
    pub breaks : Breaks rest rule
    pub same : new ≡ old
    pub clock_is : clock' ≡ clock
    pub size : ℕ
    pub short : size < length (rule_text rule)
    pub written : Appends before text (take size (rule_text rule))

  -- Holds if the turn was aborted, given the bytes in the buffer and all bytes `ahead` in the
  -- reader. There are three cases: before the call of a request, within the response to one, or within the
  -- text of a protocol rule. `before` and `text` of the module are what was written before the turn
  -- and after it.
  abbrev pub IsTurnPart : Option (List ℕ) → List ℕ → StreamFault → Type 0
  IsTurnPart remaining buffer fault =
      (ahead : List ℕ) × IsInput remaining ahead
      × (StopsUnasked (buffer ++ ahead) fault ⊎ StopsInAnswer (buffer ++ ahead) fault
      ⊎ StopsInRule (buffer ++ ahead) fault)
