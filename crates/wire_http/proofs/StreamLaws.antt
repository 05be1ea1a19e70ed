-- Lemmas: from the turns of a stream to what was served of it.
use Rattle.std.proofs.Common.{◌≡◌, ℕ, zero, suc, ◌+◌, ◌-◌, ◌<◌, ◌≤◌, List, [], ◌∷◌, ◌++◌, length, take, map, refl, sym, ap, subst, ◌∙◌, append_assoc, Option, inl, inr, arith}
use Rattle.std.specs.Prelude.{◌==◌}
use Rattle.std.specs.List.{concat}
use Rattle.std.specs.Io.KnownBytes.{Appends, Consumes}
use Rattle.std.proofs.lemmas.List.{append-nil, length-append, length-map, map-append}
use Rattle.std.proofs.lemmas.List.Folds.{concat-append}
use Rattle.std.proofs.Math.Seq.{take-append-add, take-append_seam}
use Rattle.space_core.specs.declared.space.Space.{Ghosts}
use Rattle.service_calls.specs.declared.service.Service.{Service}
use Rattle.service_step.specs.declared.reply.Reply.{Reply}
use Rattle.service_calls.specs.Run.{AskedInOrder, IsReplyTo, TimedCall}
use Rattle.service_calls.proofs.Runs.{answered, asked_more}
use Rattle.token_conf.specs.TokenFile.{Callers}
use Rattle.wire_http.specs.declared.end.End.{End}
use Rattle.wire_http.specs.declared.end.End.TheVariants as ends
use Rattle.wire_http.specs.declared.end.Served.{Served}
use Rattle.wire_http.specs.declared.fault.StreamFault.{StreamFault}
use Rattle.wire_http.specs.declared.serve.Turn.{Turn}
use Rattle.wire_http.specs.declared.serve.Turn.TheVariants as turns
use Rattle.wire_http.specs.Input.{IsInput, known_bytes}
use Rattle.wire_http.specs.Text.{response_text, rule_text, end_texts}
use Rattle.wire_http.specs.Turn.{IsTurn, IsTurnPart, StopsInAnswer, StopsInRule, StopsUnasked}
use Rattle.wire_http.specs.Wire.{RequestCall, AsksCall, Finishes, IsFront, Leads, MayFollow, Serves, ServesPart, answers, left_after, timed}
use Rattle.wire_http.proofs.KnownBytes.{Appends_more, Appends_nil, Consumes_more, Consumes_nil, input_known, input_more}

length_more : {X Y : Type 0} (xs : List X) (ys : List Y) (x : X) (y : Y) → length xs ≡ length ys → length (xs ++ x ∷ []) ≡ length (ys ++ y ∷ [])
length_more xs ys x y h = omega (arith, h, length-append xs (x ∷ []), length-append ys (y ∷ []))

-- ---- response texts

pub answers_more : (all : List RequestCall) (replies : List Reply) (a : RequestCall) (r : Reply) → length replies ≡ length all
    → answers (all ++ a ∷ []) (replies ++ r ∷ []) ≡ answers all replies ++ response_text a.endpoint a.closing r ∷ []
answers_more [] [] a r e = refl
answers_more [] (y ∷ replies) a r e = absurd (omega (arith, e))
answers_more (x ∷ all) [] a r e = absurd (omega (arith, e))
answers_more (x ∷ all) (y ∷ replies) a r e = ap (λ v. response_text x.endpoint x.closing y ∷ v) (answers_more all replies a r (omega (arith, e)))

concat_one : (t : List ℕ) → concat (t ∷ []) ≡ t
concat_one t = append-nil t

pub concat_more : (ts : List (List ℕ)) (t : List ℕ) → concat (ts ++ t ∷ []) ≡ concat ts ++ t
concat_more ts t = concat-append ts (t ∷ []) ∙ ap (λ v. concat ts ++ v) (concat_one t)

others_shorter : (ts : List (List ℕ)) (k : ℕ) → length (concat (take k ts)) ≤ length (concat ts)
others_shorter [] zero = omega arith
others_shorter [] (suc k) = omega arith
others_shorter (t ∷ ts) zero = omega arith
others_shorter (t ∷ ts) (suc k) = omega (arith, length-append t (concat (take k ts)), length-append t (concat ts), others_shorter ts k)

take_front : (ts : List (List ℕ)) (t : List ℕ) → take (length (ts ++ t ∷ []) - 1) (ts ++ t ∷ []) ≡ ts
take_front ts t =
    let n : length (ts ++ t ∷ []) - 1 ≡ length ts = omega (arith, length-append ts (t ∷ [])) in
    ap (λ v. take v (ts ++ t ∷ [])) n ∙ take-append_seam ts (t ∷ [])

front_more : (ts : List (List ℕ)) (t : List ℕ) (size : ℕ) → size < length t → IsFront (ts ++ t ∷ []) (concat ts ++ take size t)
front_more ts t size short = record {
  size = length (concat ts) + size;
  bytes_are = sym (take-append-add (concat ts) t size) ∙ ap (λ v. take (length (concat ts) + size) v) (sym (concat_more ts t));
  others_whole = omega (arith, ap (λ v. length (concat v)) (take_front ts t));
  last_short = omega (arith, short, ap length (concat_more ts t), length-append (concat ts) t);
}

none_follows : (n : ℕ) (left : List ℕ) → MayFollow n left []
none_follows zero left = refl
none_follows (suc n) left = inl refl

-- ---- requests

module _ {M : Type 0} (Gives : M → ℕ → M → Type 0) (callers : Callers) where
  pub leads_more : (bound : ℕ) (rest : List ℕ) (clock : M) (all : List RequestCall) (n k : ℕ) (left : List ℕ) (later : M) (a : RequestCall) (next : List ℕ) (mid : M)
      → Leads Gives callers bound rest clock all n left later → n ≡ suc k
      → AsksCall Gives callers left later a next mid → a.closing ≡ (left_after k a.head == 0)
      → Leads Gives callers bound rest clock (all ++ a ∷ []) (left_after k a.head) next mid
  leads_more bound rest clock [] n k left later a next mid (m, l, t) e asks closing =
      subst (λ (v : ℕ). Leads Gives callers v rest clock (a ∷ []) (left_after k a.head) next mid) (sym e ∙ m)
      (next, mid, subst (λ (v : List ℕ). AsksCall Gives callers v clock a next mid) l (subst (λ (v : M). AsksCall Gives callers left v a next mid) t asks), closing, (refl, refl, refl))
  leads_more zero rest clock (b ∷ all) n k left later a next mid h e asks closing = absurd h
  leads_more (suc bound) rest clock (b ∷ all) n k left later a next mid (x, y, p, q, h) e asks closing =
      (x, y, p, q, leads_more (left_after bound b.head) x y all n k left later a next mid h e asks closing)

module _ {S M : Type 0} (sp : Ghosts S) (Gives : M → ℕ → M → Type 0) (callers : Callers) where
  -- ---- calls

  -- Adds one more request with its reply.
  asked_next : (old mid new : Service S) (all : List RequestCall) (rs : List Reply) (a : RequestCall) (r : Reply)
      → AskedInOrder sp old (map timed all) rs mid → IsReplyTo sp mid new a.moment a.call r
      → AskedInOrder sp old (map timed (all ++ a ∷ [])) (rs ++ r ∷ []) new
  asked_next old mid new all rs a r h is_reply =
      subst (λ (v : List TimedCall). AskedInOrder sp old v (rs ++ r ∷ []) new) (sym (map-append timed all (a ∷ [])))
      (asked_more sp old (map timed all) rs mid new (timed a) r h is_reply)

  count_of : (old now : Service S) (all : List RequestCall) (rs : List Reply) → AskedInOrder sp old (map timed all) rs now → length rs ≡ length all
  count_of old now all rs h = (answered sp old (map timed all) rs now h).one_each ∙ length-map all timed

  -- ---- turns

  -- Holds if these bytes have arrived so far, these requests were answered, and `count` more may
  -- follow. It holds whatever arrives next.
  pub record GoesOn (bound : ℕ) (old now : Service S) (clock later : M) (before text a u : Option (List ℕ)) (buffer : List ℕ) (n count : ℕ) : Type 0 where
    pub all : List RequestCall
    pub replies : List Reply
    pub came : List ℕ
    pub consumed : Consumes a u came
    pub leads : (ahead : List ℕ) → Leads Gives callers bound (came ++ ahead) clock all n (buffer ++ ahead) later
    pub in_order : AskedInOrder sp old (map timed all) replies now
    pub count_is : count ≡ length all
    pub written : Appends before text (concat (answers all replies))

  pub goes_init : (a : Option (List ℕ)) (buffer : List ℕ) (bound : ℕ) (s : Service S) (clock : M) (w : Option (List ℕ)) → buffer ≡ []
      → GoesOn bound s s clock clock w w a a buffer bound 0
  goes_init a buffer bound s clock w e = record {
    all = [];
    replies = [];
    came = [];
    consumed = Consumes_nil a;
    leads = λ ahead. (refl, ap (λ v. v ++ ahead) e, refl);
    in_order = refl;
    count_is = refl;
    written = Appends_nil w;
  }

  pub goes_more : (a u u' : Option (List ℕ)) (buffer buffer' : List ℕ) (bound : ℕ) (old now new : Service S) (clock later mid : M) (w0 w1 w2 : Option (List ℕ)) (n k count m : ℕ) (t : Turn)
      → GoesOn bound old now clock later w0 w1 a u buffer n count
      → n ≡ suc k → t ≡ turns.Answered m
      → IsTurn sp Gives callers k now new later mid w1 w2 u u' buffer buffer' t
      → GoesOn bound old new clock mid w0 w2 a u' buffer' m (count + 1)
  goes_more a u u' buffer buffer' bound old now new clock later mid w0 w1 w2 n k count m t g e f h =
      let (asked, reply, came, took, consumed, asks, wrote) : IsTurn sp Gives callers k now new later mid w1 w2 u u' buffer buffer' (turns.Answered m) =
      subst (λ (v : Turn). IsTurn sp Gives callers k now new later mid w1 w2 u u' buffer buffer' v) f h in
      let closing : asked.closing ≡ (left_after k asked.head == 0) = took.closing ∙ ap (λ v. v == 0) took.n_is in
      record {
        all = g.all ++ asked ∷ [];
        replies = g.replies ++ reply ∷ [];
        came = g.came ++ came;
        consumed = Consumes_more a u u' g.came came g.consumed consumed;
        leads = λ ahead.
            subst (λ (v : ℕ). Leads Gives callers bound ((g.came ++ came) ++ ahead) clock (g.all ++ asked ∷ []) v (buffer' ++ ahead) mid) (sym took.n_is)
            (subst (λ (v : List ℕ). Leads Gives callers bound v clock (g.all ++ asked ∷ []) (left_after k asked.head) (buffer' ++ ahead) mid) (sym (append_assoc g.came came ahead))
            (leads_more Gives callers bound (g.came ++ (came ++ ahead)) clock g.all n k (buffer ++ (came ++ ahead)) later asked (buffer' ++ ahead) mid (g.leads (came ++ ahead)) e (asks ahead) closing));
        in_order = asked_next old now new g.all g.replies asked reply g.in_order took.is_reply;
        count_is = omega (arith, g.count_is, length-append g.all (asked ∷ []));
        written = subst (λ (v : List ℕ). Appends w0 w2 v)
            (sym (concat_more (answers g.all g.replies) (response_text asked.endpoint asked.closing reply)) ∙ ap concat (sym (answers_more g.all g.replies asked reply (count_of old now g.all g.replies g.in_order))))
            (Appends_more w0 w1 w2 _ _ g.written wrote);
      }

  -- Holds if this was served of the input of a reader that has given these bytes.
  abbrev pub ServesOf : ℕ → Option (List ℕ) → Service S → Service S → M → M → Option (List ℕ) → Option (List ℕ) → Served → Type 0
  ServesOf bound a old new clock clock' before text served =
      (input : List ℕ) × IsInput a input × Serves sp Gives callers bound input old new clock clock' before text served

  pub goes_close : (a u : Option (List ℕ)) (buffer : List ℕ) (bound : ℕ) (old now : Service S) (clock later : M) (w0 w1 : Option (List ℕ)) (n count : ℕ)
      → GoesOn bound old now clock later w0 w1 a u buffer n count → n ≡ 0
      → ServesOf bound a old now clock later w0 w1 (record { count = count; end = ends.Close })
  goes_close a u buffer bound old now clock later w0 w1 n count g e = (
    g.came ++ known_bytes u,
    input_more a u g.came (known_bytes u) g.consumed (input_known u),
    record {
      all = g.all;
      replies = g.replies;
      n = n;
      left = buffer ++ known_bytes u;
      leads = g.leads (known_bytes u);
      finishes = subst (λ (v : ℕ). Finishes v (buffer ++ known_bytes u) ends.Close) (sym e) refl;
      answered = answered sp old (map timed g.all) g.replies now g.in_order;
      count = g.count_is;
      written = subst (λ (v : List (List ℕ)). Appends w0 w1 (concat v)) (sym (append-nil (answers g.all g.replies))) g.written;
    },
  )

  pub goes_stop : (a u u' : Option (List ℕ)) (buffer buffer' : List ℕ) (bound : ℕ) (old now new : Service S) (clock later mid : M) (w0 w1 w2 : Option (List ℕ)) (n k count : ℕ) (end : End) (t : Turn)
      → GoesOn bound old now clock later w0 w1 a u buffer n count
      → n ≡ suc k → t ≡ turns.Ended end
      → IsTurn sp Gives callers k now new later mid w1 w2 u u' buffer buffer' t
      → ServesOf bound a old new clock mid w0 w2 (record { count = count; end = end })
  goes_stop a u u' buffer buffer' bound old now new clock later mid w0 w1 w2 n k count end t g e f h =
      let (ahead, input, stops, same, clock_same, wrote) : IsTurn sp Gives callers k now new later mid w1 w2 u u' buffer buffer' (turns.Ended end) =
      subst (λ (v : Turn). IsTurn sp Gives callers k now new later mid w1 w2 u u' buffer buffer' v) f h in (
        g.came ++ ahead,
        input_more a u g.came ahead g.consumed input,
        record {
          all = g.all;
          replies = g.replies;
          n = n;
          left = buffer ++ ahead;
          leads = subst (λ (v : M). Leads Gives callers bound (g.came ++ ahead) clock g.all n (buffer ++ ahead) v) (sym clock_same) (g.leads ahead);
          finishes = subst (λ (v : ℕ). Finishes v (buffer ++ ahead) end) (sym e) stops;
          answered = answered sp old (map timed g.all) g.replies new (subst (λ (v : Service S). AskedInOrder sp old (map timed g.all) g.replies v) (sym same) g.in_order);
          count = g.count_is;
          written = subst (λ (v : List ℕ). Appends w0 w2 v) (sym (concat-append (answers g.all g.replies) (end_texts end))) (Appends_more w0 w1 w2 _ _ g.written wrote);
        },
      )

  -- ---- faults

  module _ (bound : ℕ) (input : List ℕ) (old now new : Service S) (clock later mid : M) (w0 w1 w2 : Option (List ℕ)) (n k : ℕ) (left : List ℕ) (fault : StreamFault)
      (all : List RequestCall) (replies : List Reply) (leads : Leads Gives callers bound input clock all n left later)
      (in_order : AskedInOrder sp old (map timed all) replies now) (written : Appends w0 w1 (concat (answers all replies))) (some : n ≡ suc k) where
    part_unasked : StopsUnasked sp Gives callers k now new later mid w1 w2 left fault → ServesPart sp Gives callers bound input old new clock mid w0 w2 fault
    part_unasked p = record {
      all = all;
      replies = replies;
      n = n;
      left = left;
      later = later;
      leads = leads;
      answered = answered sp old (map timed all) replies new (subst (λ (v : Service S). AskedInOrder sp old (map timed all) replies v) (sym p.same) in_order);
      bytes = concat (answers all replies);
      aborts = inl (record {
        fault_is = p.fault_is;
        more = omega (arith, some);
        clock_is = p.clock_is;
        whole = refl;
      });
      written = subst (λ (v : List ℕ). Appends w0 w2 v) (append-nil (concat (answers all replies))) (Appends_more w0 w1 w2 _ _ written p.written);
    }

    part_in_answer : StopsInAnswer sp Gives callers k now new later mid w1 w2 left fault → ServesPart sp Gives callers bound input old new clock mid w0 w2 fault
    part_in_answer p =
        let asked = p.asked in
        let reply = p.reply in
        let closing : asked.closing ≡ (left_after k asked.head == 0) = p.took.closing ∙ ap (λ v. v == 0) p.took.n_is in
        let texts : answers (all ++ asked ∷ []) (replies ++ reply ∷ []) ≡ answers all replies ++ response_text asked.endpoint asked.closing reply ∷ [] =
        answers_more all replies asked reply (count_of old now all replies in_order) in
        record {
          all = all ++ asked ∷ [];
          replies = replies ++ reply ∷ [];
          n = left_after k asked.head;
          left = p.next;
          later = mid;
          leads = leads_more Gives callers bound input clock all n k left later asked p.next mid leads some p.asks closing;
          answered = answered sp old (map timed (all ++ asked ∷ [])) (replies ++ reply ∷ []) new (asked_next old now new all replies asked reply in_order p.took.is_reply);
          bytes = concat (answers all replies) ++ take p.size (response_text asked.endpoint asked.closing reply);
          aborts = inr (record {
            fault_is = p.fault_is;
            clock_is = refl;
            tail = [];
            follows = none_follows (left_after k asked.head) p.next;
            front = subst (λ (v : List (List ℕ)). IsFront v (concat (answers all replies) ++ take p.size (response_text asked.endpoint asked.closing reply)))
                (sym texts ∙ sym (append-nil (answers (all ++ asked ∷ []) (replies ++ reply ∷ []))))
                (front_more (answers all replies) (response_text asked.endpoint asked.closing reply) p.size p.short);
          });
          written = Appends_more w0 w1 w2 _ _ written p.written;
        }

    part_in_rule : StopsInRule sp Gives callers k now new later mid w1 w2 left fault → ServesPart sp Gives callers bound input old new clock mid w0 w2 fault
    part_in_rule p = record {
      all = all;
      replies = replies;
      n = n;
      left = left;
      later = later;
      leads = leads;
      answered = answered sp old (map timed all) replies new (subst (λ (v : Service S). AskedInOrder sp old (map timed all) replies v) (sym p.same) in_order);
      bytes = concat (answers all replies) ++ take p.size (rule_text p.rule);
      aborts = inr (record {
        fault_is = p.fault_is;
        clock_is = p.clock_is;
        tail = rule_text p.rule ∷ [];
        follows = subst (λ (v : ℕ). MayFollow v left (rule_text p.rule ∷ [])) (sym some) (inr (p.rule, p.breaks, refl));
        front = front_more (answers all replies) (rule_text p.rule) p.size p.short;
      });
      written = Appends_more w0 w1 w2 _ _ written p.written;
    }

  -- Holds if this was served of the input of a reader before a fault.
  abbrev pub ServesPartOf : ℕ → Option (List ℕ) → Service S → Service S → M → M → Option (List ℕ) → Option (List ℕ) → StreamFault → Type 0
  ServesPartOf bound a old new clock clock' before text fault =
      (input : List ℕ) × IsInput a input × ServesPart sp Gives callers bound input old new clock clock' before text fault

  pub goes_part : (a u : Option (List ℕ)) (buffer : List ℕ) (bound : ℕ) (old now new : Service S) (clock later mid : M) (w0 w1 w2 : Option (List ℕ)) (n k count : ℕ) (fault : StreamFault)
      → GoesOn bound old now clock later w0 w1 a u buffer n count
      → n ≡ suc k
      → IsTurnPart sp Gives callers k now new later mid w1 w2 u buffer fault
      → ServesPartOf bound a old new clock mid w0 w2 fault
  goes_part a u buffer bound old now new clock later mid w0 w1 w2 n k count fault g e (ahead, input, part) = (
    g.came ++ ahead,
    input_more a u g.came ahead g.consumed input,
    elim part [
      | inl p ↦ part_unasked bound (g.came ++ ahead) old now new clock later mid w0 w1 w2 n k (buffer ++ ahead) fault g.all g.replies (g.leads ahead) g.in_order g.written e p
      | inr (inl p) ↦ part_in_answer bound (g.came ++ ahead) old now new clock later mid w0 w1 w2 n k (buffer ++ ahead) fault g.all g.replies (g.leads ahead) g.in_order g.written e p
      | inr (inr p) ↦ part_in_rule bound (g.came ++ ahead) old now new clock later mid w0 w1 w2 n k (buffer ++ ahead) fault g.all g.replies (g.leads ahead) g.in_order g.written e p
    ],
  )
