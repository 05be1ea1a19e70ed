-- Lemmas: the bytes of a stream represent one list of calls, and one end.
use Rattle.std.proofs.Common.{◌≡◌, ℕ, zero, suc, List, [], ◌∷◌, length, drop, refl, sym, ap, subst, ◌∙◌}
use Rattle.std.specs.Prelude.{◌==◌}
use Rattle.token_conf.specs.TokenFile.{Callers}
use Rattle.httparse.specs.Grammar.{RequestHead}
use Rattle.wire_http.specs.declared.end.End.{End}
use Rattle.wire_head.specs.Rest.{after}
use Rattle.wire_operation.specs.Asked.{IsCallOf}
use Rattle.wire_http.specs.Stop.{StopsAs, AreSameEnds}
use Rattle.wire_http.specs.Wire.{RequestCall, AsksCall, Finishes, Leads, left_after}
use Rattle.wire_http.proofs.CallUnique.{one_request, one_call}
use Rattle.wire_http.proofs.StopLaws.{one_finish, no_stop}

-- Holds if two requests with their calls are equal in all parts.
pub record AreSame {M : Type 0} (a b : RequestCall) (next after : List ℕ) (later following : M) : Type 0 where
  pub head : b.head ≡ a.head
  pub endpoint : b.endpoint ≡ a.endpoint
  pub moment : b.moment ≡ a.moment
  pub call : b.call ≡ a.call
  pub next_is : after ≡ next
  pub clock : following ≡ later

-- Holds if two streams are equal.
pub record AreOne {M : Type 0} (all others : List RequestCall) (left last : List ℕ) (later following : M) (end other : End) : Type 0 where
  pub asked : others ≡ all
  pub left_is : last ≡ left
  pub clock : following ≡ later
  pub ends : AreSameEnds left end other

same_asked : (a b : RequestCall) → b.head ≡ a.head → b.endpoint ≡ a.endpoint → b.moment ≡ a.moment → b.call ≡ a.call → b.closing ≡ a.closing → b ≡ a
same_asked a b h p m c t = λ i. let s : RequestCall = record { head = h i; endpoint = p i; moment = m i; call = c i; closing = t i } in s

module _ {M : Type 0} (Gives : M → ℕ → M → Type 0) (callers : Callers) (one : (c : M) (m n : ℕ) (d e : M) → Gives c m d → Gives c n e → (n ≡ m) × (e ≡ d)) where
  same_asks : (rest : List ℕ) (clock : M) (a b : RequestCall) (next more : List ℕ) (later following : M)
      → AsksCall Gives callers rest clock a next later → AsksCall Gives callers rest clock b more following → AreSame a b next more later following
  same_asks rest clock a b next more later following x y =
      let request : (b.head ≡ a.head) × (y.body ≡ x.body) = one_request rest a.head b.head x.body y.body x.request y.request in
      let at_head : IsCallOf callers a.head y.body b.endpoint b.call = subst (λ (h : RequestHead). IsCallOf callers h y.body b.endpoint b.call) request.0 y.call in
      let at_body : IsCallOf callers a.head x.body b.endpoint b.call = subst (λ (v : List ℕ). IsCallOf callers a.head v b.endpoint b.call) request.1 at_head in
      let call : (b.endpoint ≡ a.endpoint) × (b.call ≡ a.call) = one_call callers a.head x.body a.endpoint b.endpoint a.call b.call x.call at_body in
      let moment : (b.moment ≡ a.moment) × (following ≡ later) = one clock a.moment b.moment later following x.moment y.moment in
      record {
        head = request.0;
        moment = moment.0;
        endpoint = call.0;
        call = call.1;
        next_is =
            y.next_is ∙ ap (λ v. drop (length v) (after b.head rest)) request.1
            ∙ ap (λ h. drop (length x.body) (after h rest)) request.0 ∙ sym x.next_is;
        clock = moment.1;
      }

  stops_at : (n bound : ℕ) (left rest : List ℕ) (end : End) → n ≡ bound → left ≡ rest → Finishes n left end → Finishes bound rest end
  stops_at n bound left rest end p q f = subst (λ (v : ℕ). Finishes v rest end) p (subst (λ (v : List ℕ). Finishes n v end) q f)

  pub one_stream : (bound : ℕ) (rest : List ℕ) (clock : M) (all others : List RequestCall) (n m : ℕ) (left last : List ℕ) (d e : M) (end other : End)
      → Leads Gives callers bound rest clock all n left d → Finishes n left end
      → Leads Gives callers bound rest clock others m last e → Finishes m last other
      → AreOne all others left last d e end other
  one_stream bound rest clock [] [] n m left last d e end other (a, b, c) f (p, q, r) g = record {
    asked = refl;
    left_is = q ∙ sym b;
    clock = r ∙ sym c;
    ends = subst (λ (v : List ℕ). AreSameEnds v end other) (sym b)
        (one_finish bound rest end other (stops_at n bound left rest end a b f) (stops_at m bound last rest other p q g));
  }
  one_stream zero rest clock [] (y ∷ others) n m left last d e end other x f h g = absurd h
  one_stream (suc bound) rest clock [] (y ∷ others) n m left last d e end other (a, b, c) f (next, mid, asks, closing, h) g =
      let stops : StopsAs rest end = stops_at n (suc bound) left rest end a b f in
      absurd (no_stop rest y.head asks.body end asks.request stops)
  one_stream zero rest clock (x ∷ all) others n m left last d e end other h f y g = absurd h
  one_stream (suc bound) rest clock (x ∷ all) [] n m left last d e end other (next, mid, asks, closing, h) f (p, q, r) g =
      let stops : StopsAs rest other = stops_at m (suc bound) last rest other p q g in
      absurd (no_stop rest x.head asks.body other asks.request stops)
  one_stream (suc bound) rest clock (x ∷ all) (y ∷ others) n m left last d e end other (next, mid, asks, closing, h) f (more, late, also, closed, k) g =
      let same = same_asks rest clock x y next more mid late asks also in
      let shut : y.closing ≡ x.closing = closed ∙ ap (λ v. left_after bound v == 0) same.head ∙ sym closing in
      let at_next : Leads Gives callers (left_after bound y.head) next late others m last e = subst (λ (v : List ℕ). Leads Gives callers (left_after bound y.head) v late others m last e) same.next_is k in
      let at_clock : Leads Gives callers (left_after bound y.head) next mid others m last e = subst (λ (v : M). Leads Gives callers (left_after bound y.head) next v others m last e) same.clock at_next in
      let at_head : Leads Gives callers (left_after bound x.head) next mid others m last e = subst (λ (v : RequestHead). Leads Gives callers (left_after bound v) next mid others m last e) same.head at_clock in
      let rest_one = one_stream (left_after bound x.head) next mid all others n m left last d e end other h f at_head g in
      record {
        asked = ap (λ v. v ∷ others) (same_asked x y same.head same.endpoint same.moment same.call shut) ∙ ap (λ v. x ∷ v) rest_one.asked;
        left_is = rest_one.left_is;
        clock = rest_one.clock;
        ends = rest_one.ends;
      }
