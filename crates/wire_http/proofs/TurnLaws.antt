-- Lemmas: from what was read, called and replied to what one turn of a stream gives.
use Rattle.std.proofs.Common.{◌≡◌, ℕ, ◌+◌, ◌-◌, ◌<◌, ◌≤◌, ◌⊎◌, true, false, List, [], ◌∷◌, ◌++◌, length, take, drop, map, Bool, refl, sym, ap, subst, ◌∙◌, Option, Ok, Err, inl, inr, arith, cond}
use Rattle.std.specs.Prelude.{◌==◌}
use Rattle.std.specs.List.{concat}
use Rattle.std.specs.Io.KnownBytes.{Appends}
use Rattle.std.proofs.lemmas.List.{append-nil, drop-append-le, drop-drop}
use Rattle.httparse.specs.declared.spans.HeaderSpan.{HeaderSpan}
use Rattle.httparse.specs.declared.spans.RequestSpans.{RequestSpans}
use Rattle.httparse.specs.Grammar.{RequestHead, print_request}
use Rattle.httparse.specs.Spans.{header_bytes}
use Rattle.policy_core.specs.declared.call.Call.{Call}
use Rattle.space_core.specs.declared.space.Space.{Ghosts}
use Rattle.service_calls.specs.declared.service.Service.{Service}
use Rattle.service_step.specs.declared.reply.Reply.{Reply}
use Rattle.service_calls.specs.Run.{IsReplyTo}
use Rattle.token_conf.specs.TokenFile.{Callers}
use Rattle.wire_http.specs.declared.end.End.{End}
use Rattle.wire_http.specs.declared.end.End.TheVariants as ends
use Rattle.wire_http.specs.declared.explaining.Explaining.{Explaining}
use Rattle.wire_http.specs.declared.explaining.Explaining.TheVariants.{Off}
use Rattle.wire_http.specs.declared.fault.StreamFault.{StreamFault}
use Rattle.wire_http.specs.declared.fault.StreamFault.TheVariants as faults
use Rattle.wire_route.specs.declared.endpoint.Endpoint.{Endpoint}
use Rattle.wire_http.specs.declared.request.Next.{Next}
use Rattle.wire_http.specs.declared.request.Next.TheVariants.{Request, Stop}
use Rattle.wire_http.specs.declared.serve.Turn.{Turn}
use Rattle.wire_http.specs.declared.serve.Turn.TheVariants.{Answered, Ended}
use Rattle.wire_http.specs.declared.source.Source.{Source}
use Rattle.wire_operation.specs.Asked.{IsCallOf}
use Rattle.wire_head.specs.Close.{closes_by}
use Rattle.wire_http.specs.Fault.{AbortedResponse, AbortedCall, AbortedReading, IsOfAnswering, IsOfAsking}
use Rattle.wire_http.specs.Input.{BufferGrew, known_bytes}
use Rattle.wire_head.specs.FinalHead.{Covers}
use Rattle.wire_http.specs.Next.{IsNext, NextFits, body_at}
use Rattle.wire_http.specs.Reply.{Replies, RepliesPart}
use Rattle.wire_head.specs.Rest.{after}
use Rattle.wire_http.specs.Source.{HasGivenUp}
use Rattle.wire_http.specs.Stop.{StopsAs}
use Rattle.wire_http.specs.Text.{end_texts, rule_text}
use Rattle.wire_http.specs.Turn.{Took, IsTurn, IsTurnBy, IsTurnPart, MayGoOn, StopsInRule}
use Rattle.wire_http.specs.Wire.{RequestCall, AsksCall, ClockAfter, IsRequest, left_after}
use Rattle.wire_http.proofs.KnownBytes.{Appends_nil, input_known, input_more, rest_at}
use Rattle.wire_http.proofs.NextLaws.{body_size}

-- The bytes begin with what was read from them.
known_next : (ahead buffer : List ℕ) (fields : List HeaderSpan) (n m : Next) → n ≡ m → IsNext ahead buffer fields n → IsNext ahead buffer fields m
known_next ahead buffer fields n m e h = subst (λ (v : Next). IsNext ahead buffer fields v) e h

-- The unread bytes after a request.
pub unread_next : (b : List ℕ) (buffer rest left : List ℕ) (h : RequestHead) (len size : ℕ) → rest ≡ buffer ++ b → len ≡ length (print_request h)
    → len + size ≤ length buffer → left ≡ drop (len + size) buffer
    → left ++ b ≡ drop (length (body_at buffer len size)) (after h rest)
unread_next b buffer rest left h len size e l fits d =
    ap (λ v. v ++ b) d
    ∙ sym (drop-append-le (len + size) buffer b fits)
    ∙ sym (drop-drop size len (buffer ++ b))
    ∙ ap (λ v. drop size (drop len v)) (sym e)
    ∙ ap (λ n. drop size (drop n rest)) l
    ∙ ap (λ n. drop n (after h rest)) (sym (body_size buffer len size fits))

module _ {M : Type 0} (Gives : M → ℕ → M → Type 0) (callers : Callers) where
  -- The clock was not read.
  clock_read : {R : Type 0} (a b : Source R) (fault : StreamFault) (left : List ℕ) (clock : M) → AbortedReading a b fault → ClockAfter Gives callers fault left clock clock
  clock_read a b faults.Read left clock g = refl
  clock_read a b faults.Write left clock g = absurd g
  clock_read a b faults.Clock left clock g = absurd g
  clock_read a b faults.Memory left clock g = inl refl
  clock_read a b faults.Turns left clock g = refl

  -- The clock was read, and a time was possibly taken.
  clock_asked : (fault : StreamFault) (f f' : ℕ) (left : List ℕ) (h : RequestHead) (body : List ℕ) (clock clock' : M)
      → IsRequest left h body → AbortedCall fault f f' → (fault ≡ faults.Memory → (moment : ℕ) × Gives clock moment clock')
      → ClockAfter Gives callers fault left clock clock'
  clock_asked faults.Read f f' left h body clock clock' x g t = absurd g
  clock_asked faults.Write f f' left h body clock clock' x g t = absurd g
  clock_asked faults.Clock f f' left h body clock clock' x g t = (h, body, x)
  clock_asked faults.Memory f f' left h body clock clock' x g t = let took = t refl in inr (h, body, took.0, x, took.1)
  clock_asked faults.Turns f f' left h body clock clock' x g t = absurd g

-- A fault of reading is a fault before the call.
of_reading : {R : Type 0} (a b : Source R) (fault : StreamFault) → AbortedReading a b fault → IsOfAsking fault
of_reading a b faults.Read g = tt
of_reading a b faults.Write g = g
of_reading a b faults.Clock g = tt
of_reading a b faults.Memory g = tt
of_reading a b faults.Turns g = tt

of_asking : (fault : StreamFault) (f f' : ℕ) → AbortedCall fault f f' → IsOfAsking fault
of_asking faults.Read f f' g = tt
of_asking faults.Write f f' g = g
of_asking faults.Clock f f' g = tt
of_asking faults.Memory f f' g = tt
of_asking faults.Turns f f' g = tt

pub of_answering : (f f' : ℕ) (b : Bool) (fault : StreamFault) → AbortedResponse f f' b fault → IsOfAnswering fault
of_answering f f' b faults.Read g = g
of_answering f f' b faults.Write g = tt
of_answering f f' b faults.Clock g = g
of_answering f f' b faults.Memory g = tt
of_answering f f' b faults.Turns g = g

module _ {S M : Type 0} (sp : Ghosts S) (Gives : M → ℕ → M → Type 0) (callers : Callers) (k : ℕ) where
  -- ---- no request

  pub part_none : {R : Type 0} (a b : Source R) (u : Option (List ℕ)) (buffer : List ℕ) (s : Service S) (clock : M) (w : Option (List ℕ)) (fault : StreamFault)
      → HasGivenUp a b fault → IsTurnPart sp Gives callers k s s clock clock w w u buffer fault
  part_none a b u buffer s clock w fault g = (
    known_bytes u,
    input_known u,
    inl (record {
      fault_is = of_reading a b fault g.why;
      same = refl;
      clock_is = clock_read Gives callers a b fault (buffer ++ known_bytes u) clock g.why;
      written = Appends_nil w;
    }),
  )

  -- If an end has no text, writing it was not aborted.
  in_rule : (rest : List ℕ) (end : End) (s : Service S) (clock : M) (w v : Option (List ℕ)) (fault : StreamFault) (size : ℕ)
      → IsOfAnswering fault → StopsAs rest end → size < length (concat (end_texts end)) → Appends w v (take size (concat (end_texts end)))
      → StopsInRule sp Gives callers k s s clock clock w v rest fault
  in_rule rest ends.End s clock w v fault size of x short written = absurd (omega (arith, short))
  in_rule rest ends.Cut s clock w v fault size of x short written = absurd (omega (arith, short))
  in_rule rest ends.Close s clock w v fault size of x short written = absurd x
  in_rule rest (ends.Wire rule) s clock w v fault size of x short written =
      let one : concat (rule_text rule ∷ []) ≡ rule_text rule = append-nil (rule_text rule) in
      record {
        fault_is = of;
        rule = rule;
        breaks = x;
        same = refl;
        clock_is = refl;
        size = size;
        short = subst (λ (t : List ℕ). size < length t) one short;
        written = subst (λ (t : List ℕ). Appends w v (take size t)) one written;
      }

  pub part_end : (a b : Option (List ℕ)) (old buffer : List ℕ) (fields : List HeaderSpan) (n : Next) (end : End) (s : Service S) (clock : M) (w v : Option (List ℕ)) (fault : StreamFault)
      → n ≡ Stop end → BufferGrew a b old buffer → IsNext (known_bytes b) buffer fields n → IsOfAnswering fault
      → (size : ℕ) × (size < length (concat (end_texts end))) × Appends w v (take size (concat (end_texts end)))
      → IsTurnPart sp Gives callers k s s clock clock w v a old fault
  part_end a b old buffer fields n end s clock w v fault e (came, grown, p) h of (size, short, written) = (
    came ++ known_bytes b,
    input_more a b came (known_bytes b) p (input_known b),
    inr (inr (subst (λ (rest : List ℕ). StopsInRule sp Gives callers k s s clock clock w v rest fault) (rest_at old buffer came (known_bytes b) grown)
        (in_rule (buffer ++ known_bytes b) end s clock w v fault size of (known_next (known_bytes b) buffer fields n (Stop end) e h) short written))),
  )

  pub part_ask : (a b : Option (List ℕ)) (old buffer : List ℕ) (fields : List HeaderSpan) (n : Next) (spans : RequestSpans) (size : ℕ) (s : Service S) (clock clock' : M) (w : Option (List ℕ)) (fault : StreamFault) (f f' : ℕ)
      → n ≡ Request spans size → BufferGrew a b old buffer → IsNext (known_bytes b) buffer fields n
      → AbortedCall fault f f' → (fault ≡ faults.Memory → (moment : ℕ) × Gives clock moment clock')
      → IsTurnPart sp Gives callers k s s clock clock' w w a old fault
  part_ask a b old buffer fields n spans size s clock clock' w fault f f' e (came, grown, p) h g t =
      let x : IsNext (known_bytes b) buffer fields (Request spans size) = known_next (known_bytes b) buffer fields n (Request spans size) e h in (
        came ++ known_bytes b,
        input_more a b came (known_bytes b) p (input_known b),
        inl (record {
          fault_is = of_asking fault f f' g;
          same = refl;
          clock_is = subst (λ (rest : List ℕ). ClockAfter Gives callers fault rest clock clock') (rest_at old buffer came (known_bytes b) grown)
              (clock_asked Gives callers fault f f' (buffer ++ known_bytes b) x.0 (body_at buffer spans.len size) clock clock' (x.1 (known_bytes b)) g t);
          written = Appends_nil w;
        }),
      )

  pub turn_stopped : (a b : Option (List ℕ)) (old buffer left : List ℕ) (fields : List HeaderSpan) (n : Next) (end : End) (s : Service S) (clock : M) (w v : Option (List ℕ))
      → n ≡ Stop end → BufferGrew a b old buffer → IsNext (known_bytes b) buffer fields n → Appends w v (concat (end_texts end))
      → IsTurn sp Gives callers k s s clock clock w v a b old left (Ended end)
  turn_stopped a b old buffer left fields n end s clock w v e (came, grown, p) h written = (
    came ++ known_bytes b,
    input_more a b came (known_bytes b) p (input_known b),
    subst (λ (rest : List ℕ). StopsAs rest end) (rest_at old buffer came (known_bytes b) grown) (known_next (known_bytes b) buffer fields n (Stop end) e h),
    refl,
    refl,
    written,
  )

  -- ---- one request

  -- Holds if the head makes this call.
  abbrev Makes : List ℕ → List HeaderSpan → RequestSpans → ℕ → Option Endpoint → Call → Type 0
  Makes bytes fields spans size endpoint call =
      (h : RequestHead) → Covers bytes fields spans h → IsCallOf callers h (body_at bytes spans.len size) endpoint call

  -- Holds if this is the number of requests that may follow.
  abbrev Leaves : List ℕ → List HeaderSpan → RequestSpans → ℕ → Type 0
  Leaves bytes fields spans n = n ≡ cond (closes_by spans.version (map (header_bytes bytes) (take spans.headers fields))) 0 k

  leaves_head : (bytes : List ℕ) (fields : List HeaderSpan) (spans : RequestSpans) (n : ℕ) (h : RequestHead) → Covers bytes fields spans h → Leaves bytes fields spans n → n ≡ left_after k h
  leaves_head bytes fields spans n h c e =
      e ∙ ap (λ v. cond (closes_by v (map (header_bytes bytes) (take spans.headers fields))) 0 k) c.version
      ∙ ap (λ v. cond (closes_by h.minor v) 0 k) c.fields

  took : (buffer bytes : List ℕ) (fields : List HeaderSpan) (spans : RequestSpans) (endpoint : Option Endpoint) (moment : ℕ) (call : Call) (n : ℕ)
      (old new : Service S) (clock later : M) (before text : Option (List ℕ)) (reply : Reply) (h : RequestHead)
      → bytes ≡ buffer → Covers buffer fields spans h → Leaves bytes fields spans n → IsReplyTo sp old new moment call reply
      → Took sp Gives callers k old new clock later before text
      (record { head = h; endpoint = endpoint; moment = moment; call = call; closing = n == 0 }) reply n
  took buffer bytes fields spans endpoint moment call n old new clock later before text reply h g c leaves is_reply = record {
    n_is = leaves_head buffer fields spans n h c (subst (λ (v : List ℕ). Leaves v fields spans n) g leaves);
    closing = refl;
    is_reply = is_reply;
  }

  asks : (rest buffer bytes next : List ℕ) (fields : List HeaderSpan) (spans : RequestSpans) (size : ℕ) (endpoint : Option Endpoint) (moment : ℕ) (call : Call) (n : ℕ) (clock later : M) (h : RequestHead)
      → bytes ≡ buffer → IsRequest rest h (body_at buffer spans.len size) → Covers buffer fields spans h → Makes bytes fields spans size endpoint call → Gives clock moment later
      → next ≡ drop (length (body_at buffer spans.len size)) (after h rest)
      → AsksCall Gives callers rest clock (record { head = h; endpoint = endpoint; moment = moment; call = call; closing = n == 0 }) next later
  asks rest buffer bytes next fields spans size endpoint moment call n clock later h g x c made gives after_it = record {
    body = body_at buffer spans.len size;
    request = x;
    call = subst (λ (v : List ℕ). Makes v fields spans size endpoint call) g made h c;
    moment = gives;
    next_is = after_it;
  }

  -- The answered request is at the front of the buffer.
  pub turn_answered_at : (explaining : Explaining) (a b : Option (List ℕ)) (front buffer bytes left : List ℕ) (fields : List HeaderSpan) (m : Next) (spans : RequestSpans) (size : ℕ) (endpoint : Option Endpoint) (moment : ℕ) (call : Call) (n : ℕ)
      (old new : Service S) (clock clock' : M) (before text : Option (List ℕ))
      → m ≡ Request spans size → bytes ≡ buffer → BufferGrew a b front buffer → IsNext (known_bytes b) buffer fields m
      → spans.len + size ≤ length buffer → left ≡ drop (spans.len + size) buffer
      → Makes bytes fields spans size endpoint call → Leaves bytes fields spans n → Gives clock moment clock'
      → (r : Replies explaining sp old new moment call endpoint (n == 0) before text)
      → (turn : IsTurnBy sp Gives callers k old new clock clock' before text explaining a b front left (Answered n)) × (turn.0.endpoint ≡ endpoint) × (turn.0.closing ≡ (n == 0))
      × (turn.0.call ≡ call) × (turn.1 ≡ r.reply) × Covers buffer fields spans turn.0.head
  turn_answered_at explaining a b front buffer bytes left fields m spans size endpoint moment call n old new clock clock' before text e g (came, grown, p) h fits d made leaves gives r =
      let x : IsNext (known_bytes b) buffer fields (Request spans size) = known_next (known_bytes b) buffer fields m (Request spans size) e h in
      let asked : RequestCall = record { head = x.0; endpoint = endpoint; moment = moment; call = call; closing = n == 0 } in (
        (
          asked,
          r.reply,
          came,
          took buffer bytes fields spans endpoint moment call n old new clock clock' before text r.reply x.0 g x.2 leaves r.is_reply,
          p,
          λ later. subst (λ (rest : List ℕ). AsksCall Gives callers rest clock asked (left ++ later) clock') (rest_at front buffer came later grown)
              (asks (buffer ++ later) buffer bytes (left ++ later) fields spans size endpoint moment call n clock clock' x.0 g (x.1 later) x.2 made gives
              (unread_next later buffer (buffer ++ later) left x.0 spans.len size refl x.2.len fits d)),
          r.written,
        ),
        refl,
        refl,
        refl,
        refl,
        x.2,
      )

  pub turn_answered : (a b : Option (List ℕ)) (front buffer bytes left : List ℕ) (fields : List HeaderSpan) (m : Next) (spans : RequestSpans) (size : ℕ) (endpoint : Option Endpoint) (moment : ℕ) (call : Call) (n : ℕ)
      (old new : Service S) (clock clock' : M) (before text : Option (List ℕ))
      → m ≡ Request spans size → bytes ≡ buffer → BufferGrew a b front buffer → IsNext (known_bytes b) buffer fields m
      → spans.len + size ≤ length buffer → left ≡ drop (spans.len + size) buffer
      → Makes bytes fields spans size endpoint call → Leaves bytes fields spans n → Gives clock moment clock'
      → Replies Off sp old new moment call endpoint (n == 0) before text
      → IsTurn sp Gives callers k old new clock clock' before text a b front left (Answered n)
  turn_answered a b front buffer bytes left fields m spans size endpoint moment call n old new clock clock' before text e g p h fits d made leaves gives r =
      (turn_answered_at Off a b front buffer bytes left fields m spans size endpoint moment call n old new clock clock' before text e g p h fits d made leaves gives r).0

  pub part_answered : (a b : Option (List ℕ)) (front buffer bytes : List ℕ) (fields : List HeaderSpan) (m : Next) (spans : RequestSpans) (size : ℕ) (endpoint : Option Endpoint) (moment : ℕ) (call : Call) (n : ℕ)
      (old new : Service S) (clock clock' : M) (before text : Option (List ℕ)) (fault : StreamFault)
      → m ≡ Request spans size → bytes ≡ buffer → IsOfAnswering fault → BufferGrew a b front buffer → IsNext (known_bytes b) buffer fields m
      → Makes bytes fields spans size endpoint call → Leaves bytes fields spans n → Gives clock moment clock'
      → RepliesPart sp old new moment call endpoint (n == 0) before text
      → IsTurnPart sp Gives callers k old new clock clock' before text a front fault
  part_answered a b front buffer bytes fields m spans size endpoint moment call n old new clock clock' before text fault e g of (came, grown, p) h made leaves gives r =
      let x : IsNext (known_bytes b) buffer fields (Request spans size) = known_next (known_bytes b) buffer fields m (Request spans size) e h in
      let rest : List ℕ = buffer ++ known_bytes b in
      let next : List ℕ = drop (length (body_at buffer spans.len size)) (after x.0 rest) in
      let asked : RequestCall = record { head = x.0; endpoint = endpoint; moment = moment; call = call; closing = n == 0 } in (
        came ++ known_bytes b,
        input_more a b came (known_bytes b) p (input_known b),
        inr (inl (record {
          fault_is = of;
          asked = asked;
          reply = r.reply;
          n = n;
          next = next;
          took = took buffer bytes fields spans endpoint moment call n old new clock clock' before text r.reply x.0 g x.2 leaves r.is_reply;
          asks = subst (λ (v : List ℕ). AsksCall Gives callers v clock asked next clock') (rest_at front buffer came (known_bytes b) grown)
              (asks rest buffer bytes next fields spans size endpoint moment call n clock clock' x.0 g (x.1 (known_bytes b)) x.2 made gives refl);
          size = r.size;
          short = r.short;
          written = r.written;
        })),
      )

-- ---- bytes after a request

pub fits_at : (buffer : List ℕ) (fields : List HeaderSpan) (n : Next) (spans : RequestSpans) (size : ℕ) → n ≡ Request spans size → NextFits buffer fields n
    → spans.len + size ≤ length buffer
fits_at buffer fields n spans size e h = let x : NextFits buffer fields (Request spans size) = subst (λ (v : Next). NextFits buffer fields v) e h in x.2

pub fewer_left : (b : Bool) (n count : ℕ) → 0 < count → n ≡ cond b 0 (count - 1) → n < count
fewer_left true n count some e = omega (arith, e, some)
fewer_left false n count some e = omega (arith, e, some)

pub go_on_at : (count : ℕ) (t : Turn) (n : ℕ) → t ≡ Answered n → MayGoOn count t → n < count
go_on_at count t n e h = subst (λ (v : Turn). MayGoOn count v) e h

-- A result is not a fault.
pub ok_told : {T E : Type 0} (x : T) (e : E) (A : Type 0) → (Ok x ≡ Err e) ⊎ A → A
ok_told x e A (inl p) = cc
ok_told x e A (inr a) = a
