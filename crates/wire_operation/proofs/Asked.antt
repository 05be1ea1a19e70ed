-- Lemmas: path, method and body of a request give one operation.
use Rattle.std.proofs.Common.{◌≡◌, ℕ, Bool, true, false, eqb, List, ◌++◌, length, take, drop, Option, Some, None, Result, refl, sym, ap, subst, ◌∙◌, arith, inl, inr}
use Rattle.std.specs.Prelude.{codes, IfOk, ◌⊎◌, not}
use Rattle.std.specs.List.{position_or_len, before_first, after_first}
use Rattle.std.specs.Str.{bytes_eq, is_utf8}
use Rattle.std.proofs.lemmas.Bool.{cases_lt, true≢false}
use Rattle.std.proofs.lemmas.List.{take-append-drop, take_at}
use Rattle.std.proofs.lemmas.List.Sums.{prefix_len-le-length}
use Rattle.std.proofs.lemmas.Result.{IfOk-weaker}
use Rattle.std.proofs.lemmas.Slice.Eq.{bytes_eq-Decides}
use Rattle.std.proofs.lemmas.Str.{IsUtf8-from_is_utf8, is_utf8-from_IsUtf8}
use Rattle.serde_json.specs.Data.{Data}
use Rattle.serde_json.specs.Read.{read}
use Rattle.policy_core.specs.declared.call.OpKind.{OpKind}
use Rattle.policy_core.specs.declared.call.OpKind.TheVariants as kinds
use Rattle.policy_core.specs.declared.call.Operation.{Operation}
use Rattle.policy_core.specs.declared.call.Operation.TheVariants.{NoRoute, NoMethod, Malformed}
use Rattle.wire_body.specs.Body.{IsBody, Says, Words, query_of, read_of, create_of, update_of, delete_of, availability_read_of, setting_of, sub_query_of, sub_read_of, sub_create_of, sub_update_of, sub_delete_of}
use Rattle.wire_body.proofs.OneBody.{asks_for_one_lem}
use Rattle.wire_route.specs.declared.endpoint.Endpoint.{Endpoint}
use Rattle.wire_route.specs.declared.endpoint.Endpoint.TheVariants as endpoints
use Rattle.wire_route.specs.Endpoint.{front_of, kind_at}
use Rattle.wire_route.specs.Route.{is_part, may_be_id, one_parameter, two_parameters, AreTwoWords, AreWordsOf, IsRoute, HasNoRoute}
use Rattle.wire_route.specs.Table.{named_endpoint}
use Rattle.wire_route.proofs.Paths.{lacks, around_slash, one_route, not_halved, not_named, not_part, nowhere, wrong_front, wrong_words, both}
use Rattle.wire_operation.specs.Asked.{IsAsked, IsAskedAs, IsReadAs}
use Rattle.wire_operation.specs.Operation.{GivesOperation}

-- ---- the parameters of a path

-- some value, or none
abbrev Some_or : (A : Type 0) → (A → Type 0) → Type 0
Some_or A P = ((x : A) × P x) ⊎ ((x : A) → P x → ⊥)

one_or : (rest : List ℕ) (b : Bool) (P : Type 0) → (b ≡ true → P) → (P → b ≡ true) → Some_or Words (λ w. P × (w ≡ one_parameter rest))
one_or rest true P to from = inl (one_parameter rest, (to refl, refl))
one_or rest false P to from = inr (λ w (p, e). true≢false (sym (from p)))

two_or : (rest : List ℕ) → Some_or Words (AreTwoWords rest)
two_or rest =
    let p : ℕ → Bool = λ b. eqb b 47 in
    elim (cases_lt (position_or_len p rest) (length rest)) [
      | inl lt ↦
          let id = before_first p rest in
          let ovn = after_first p rest in
          let split = around_slash rest lt in
          elim (may_be_id id) as (λ b. may_be_id id ≡ b → Some_or Words (AreTwoWords rest)) [
            | true ↦ λ names.
                elim (is_part ovn) as (λ b. is_part ovn ≡ b → Some_or Words (AreTwoWords rest)) [
                  | true ↦ λ part. inl (two_parameters id ovn, subst (λ r. AreTwoWords r (two_parameters id ovn)) (sym split.0) (both id ovn names part))
                  | false ↦ λ part. inr (λ w a. not_part rest id ovn w split.0 split.1 part a)
                ] refl
            | false ↦ λ names. inr (λ w a. not_named rest id ovn w split.0 split.1 names a)
          ] refl
      | inr le ↦
          let whole : position_or_len p rest ≡ length rest = omega (arith, prefix_len-le-length (λ b. not (p b)) rest) in
          inr (λ w a. not_halved rest w (lacks rest whole) a)
    ]

words_or : (endpoint : Endpoint) (rest : List ℕ) → Some_or Words (AreWordsOf endpoint rest)
words_or (endpoints.Query kind) rest = one_or rest (bytes_eq rest (codes "query")) (rest ≡ codes "query") (bytes_eq-Decides rest (codes "query")).0 (bytes_eq-Decides rest (codes "query")).1
words_or (endpoints.Entity kind) rest = one_or rest (may_be_id rest) (may_be_id rest ≡ true) (λ e. e) (λ e. e)
words_or (endpoints.EntityAtOvn kind) rest = two_or rest
words_or endpoints.Availability rest = one_or rest (is_part rest) (is_part rest ≡ true) (λ e. e) (λ e. e)
words_or endpoints.SubscriptionQuery rest = one_or rest (bytes_eq rest (codes "query")) (rest ≡ codes "query") (bytes_eq-Decides rest (codes "query")).0 (bytes_eq-Decides rest (codes "query")).1
words_or endpoints.Subscription rest = one_or rest (may_be_id rest) (may_be_id rest ≡ true) (λ e. e) (λ e. e)
words_or endpoints.SubscriptionAtVersion rest = two_or rest

-- ---- the route of a path

abbrev Routed : List ℕ → Type 0
Routed path = ((endpoint : Endpoint) × (words : Words) × IsRoute path endpoint words) ⊎ HasNoRoute path

at_rest : (path rest : List ℕ) (endpoint : Endpoint) → named_endpoint path ≡ Some endpoint → path ≡ front_of endpoint ++ rest → Some_or Words (AreWordsOf endpoint rest) → Routed path
at_rest path rest endpoint named split (inl (words, are)) = inl (endpoint, words, (rest, split, are))
at_rest path rest endpoint named split (inr none) = inr (wrong_words path rest endpoint named split none)

at_endpoint : (path : List ℕ) (endpoint : Endpoint) → named_endpoint path ≡ Some endpoint → Routed path
at_endpoint path endpoint named =
    let front = front_of endpoint in
    let n = length front in
    elim (bytes_eq (take n path) front) as (λ b. bytes_eq (take n path) front ≡ b → Routed path) [
      | true ↦ λ same.
          let split : path ≡ front ++ drop n path = sym (take-append-drop n path) ∙ ap (λ (v : List ℕ). v ++ drop n path) ((bytes_eq-Decides (take n path) front).0 same) in
          at_rest path (drop n path) endpoint named split (words_or endpoint (drop n path))
      | false ↦ λ differs.
          inr (wrong_front path endpoint named (λ rest split.
          let front-is : take n path ≡ front = ap (take n) split ∙ take_at front rest n refl in
          true≢false (sym ((bytes_eq-Decides (take n path) front).1 front-is) ∙ differs)))
    ] refl

routed : (path : List ℕ) → Routed path
routed path =
    elim (named_endpoint path) as (λ o. named_endpoint path ≡ o → Routed path) [
      | None ↦ λ none. inr (nowhere path none)
      | Some endpoint ↦ λ named. at_endpoint path endpoint named
    ] refl

-- ---- the operation of a body

given_or : (o : Option Operation) → Some_or Operation (λ op. o ≡ Some op)
given_or (Some op) = inl (op, refl)
given_or None = inr (λ op e. absurd cc)

says_or : (form : Data → Option Operation) (bytes : List ℕ) → Some_or Operation (Says form bytes)
says_or form bytes =
    elim (is_utf8 bytes) as (λ b. is_utf8 bytes ≡ b → Some_or Operation (Says form bytes)) [
      | true ↦ λ utf8.
          elim (read bytes) as (λ o. read bytes ≡ o → Some_or Operation (Says form bytes)) [
            | Some d ↦ λ json.
                elim (form d) as (λ o. form d ≡ o → Some_or Operation (Says form bytes)) [
                  | Some op ↦ λ gives. inl (op, (d, (IsUtf8-from_is_utf8 bytes utf8, json), gives))
                  | None ↦ λ gives. inr (λ op (e, also, says).
                      let same : Some e ≡ Some d = sym also.1 ∙ json in
                      let is : e ≡ d = cc in
                      let bad : None ≡ Some op = sym gives ∙ ap form (sym is) ∙ says in absurd cc)
                ] refl
            | None ↦ λ json. inr (λ op (e, also, says). let bad : Some e ≡ None = sym also.1 ∙ json in absurd cc)
          ] refl
      | false ↦ λ utf8. inr (λ op (e, also, says). true≢false (sym (is_utf8-from_IsUtf8 bytes also.0) ∙ utf8))
    ] refl

body_or : (kind : OpKind) (words : Words) (bytes : List ℕ) → Some_or Operation (IsBody kind words bytes)
body_or (kinds.Query kind) words bytes = says_or (query_of kind words) bytes
body_or (kinds.Read kind) words bytes = given_or (read_of kind words)
body_or (kinds.Create kind) words bytes = says_or (create_of kind words) bytes
body_or (kinds.Update kind) words bytes = says_or (update_of kind words) bytes
body_or (kinds.Delete kind) words bytes = given_or (delete_of kind words)
body_or kinds.ReadAvail words bytes = given_or (availability_read_of words)
body_or kinds.SetAvail words bytes = says_or (setting_of words) bytes
body_or kinds.QuerySub words bytes = says_or (sub_query_of words) bytes
body_or kinds.ReadSub words bytes = given_or (sub_read_of words)
body_or kinds.CreateSub words bytes = says_or (sub_create_of words) bytes
body_or kinds.UpdateSub words bytes = says_or (sub_update_of words) bytes
body_or kinds.DeleteSub words bytes = given_or (sub_delete_of words)

-- ---- the operation of a request

read_as : (kind : OpKind) (words : Words) (bytes : List ℕ) → Some_or Operation (IsBody kind words bytes) → (op : Operation) × IsReadAs kind words bytes op
read_as kind words bytes (inl (op, is)) = (op, inl is)
read_as kind words bytes (inr none) = (Malformed kind, inr (none, refl))

asked_as : (kind : Option OpKind) (words : Words) (bytes : List ℕ) → (op : Operation) × IsAskedAs kind words bytes op
asked_as None words bytes = (NoMethod, refl)
asked_as (Some kind) words bytes = read_as kind words bytes (body_or kind words bytes)

-- What a path, a method and a body give.
pub record Asked (path method body : List ℕ) : Type 0 where
  pub endpoint : Option Endpoint
  pub op : Operation
  pub is : IsAsked path method body endpoint op

asked_at : (path method body : List ℕ) → Routed path → Asked path method body
asked_at path method body (inl (place, words, route)) =
    let at_place = asked_as (kind_at place method) words body in
    record { endpoint = Some place; op = at_place.0; is = (words, route, at_place.1) }
asked_at path method body (inr none) = record { endpoint = None; op = NoRoute; is = (none, refl) }

pub asked : (path method body : List ℕ) → Asked path method body
asked path method body = asked_at path method body (routed path)

-- ---- it is one operation

same_read : (kind : OpKind) (words : Words) (bytes : List ℕ) (p q : Operation) → IsReadAs kind words bytes p → IsReadAs kind words bytes q → q ≡ p
same_read kind words bytes p q (inl x) (inl y) = asks_for_one_lem kind words bytes p q x y
same_read kind words bytes p q (inl x) (inr (none, e)) = absurd (none p x)
same_read kind words bytes p q (inr (none, e)) (inl y) = absurd (none q y)
same_read kind words bytes p q (inr (none, e)) (inr (also, f)) = f ∙ sym e

same_asked_as : (kind : Option OpKind) (words : Words) (bytes : List ℕ) (p q : Operation) → IsAskedAs kind words bytes p → IsAskedAs kind words bytes q → q ≡ p
same_asked_as None words bytes p q x y = y ∙ sym x
same_asked_as (Some kind) words bytes p q x y = same_read kind words bytes p q x y

pub same_asked : (path method body : List ℕ) (a b : Option Endpoint) (p q : Operation) → IsAsked path method body a p → IsAsked path method body b q → (b ≡ a) × (q ≡ p)
same_asked path method body None None p q (none, e) (also, f) = (refl, f ∙ sym e)
same_asked path method body None (Some b) p q (none, e) (w, y, asks) = absurd (none b w y)
same_asked path method body (Some a) None p q (v, x, asks) (none, f) = absurd (none a v x)
same_asked path method body (Some a) (Some b) p q (v, x, asks) (w, y, also) =
    let route : (b ≡ a) × (w ≡ v) = one_route path a b v w x y in
    let at_place : IsAskedAs (kind_at a method) w body q = subst (λ (c : Endpoint). IsAskedAs (kind_at c method) w body q) route.0 also in
    let at_words : IsAskedAs (kind_at a method) v body q = subst (λ (z : Words). IsAskedAs (kind_at a method) z body q) route.1 at_place in
    (ap (λ c. Some c) route.0, same_asked_as (kind_at a method) v body p q asks at_words)

-- ---- what the code finds

pub without_method : (path method body : List ℕ) (endpoint : Endpoint) (words : Words) → IsRoute path endpoint words → kind_at endpoint method ≡ None → GivesOperation path method body NoMethod
without_method path method body endpoint words route none =
    (Some endpoint, (words, route, subst (λ (k : Option OpKind). IsAskedAs k words body NoMethod) (sym none) refl))

pub with_method : {E : Type 0} (path method body : List ℕ) (endpoint : Endpoint) (words : Words) (kind : OpKind) (r : Result Operation E) → IsRoute path endpoint words → kind_at endpoint method ≡ Some kind → IfOk r (IsReadAs kind words body) → IfOk r (GivesOperation path method body)
with_method path method body endpoint words kind r route some given =
    IfOk-weaker r (IsReadAs kind words body) (GivesOperation path method body)
    (λ op is. (Some endpoint, (words, route, subst (λ (k : Option OpKind). IsAskedAs k words body op) (sym some) is))) given
