-- Lemmas: a call that is denied before its body is read gets the reply of the call of the body.
use Rattle.std.proofs.Common.{◌≡◌, ◌≢◌, ◌⊎◌, ℕ, List, Bool, true, false, not, cond, Option, Some, None, find, refl, sym, subst, inl, inr}
use Rattle.std.specs.Prelude.{IfSome, IsNone, IsUtf8}
use Rattle.std.specs.Str.{is_utf8}
use Rattle.std.proofs.lemmas.Str.{IsUtf8-from_is_utf8, is_utf8-from_IsUtf8}
use Rattle.serde_json.specs.Data.{Data}
use Rattle.serde_json.specs.Read.{read}
use Rattle.entity_core.specs.Airspace.{Airspace, empty_at}
use Rattle.policy_core.specs.Call.{kind_of}
use Rattle.policy_core.specs.Missing.{nothing_missing}
use Rattle.policy_core.specs.Policy.{breaks, early_rules}
use Rattle.policy_core.specs.Scope.{is_permitted}
use Rattle.policy_core.specs.declared.call.Call.{Call}
use Rattle.policy_core.specs.declared.call.OpKind.{OpKind}
use Rattle.policy_core.specs.declared.call.OpKind.TheVariants as kinds
use Rattle.policy_core.specs.declared.call.Operation.{Operation}
use Rattle.policy_core.specs.declared.call.Operation.TheVariants.{NoRoute, NoMethod, Malformed, Query, Read, Create, Update, Delete, ReadAvail, SetAvail, QuerySub, ReadSub, CreateSub, UpdateSub, DeleteSub}
use Rattle.policy_core.specs.declared.rule.Rule.{Rule}
use Rattle.policy_core.specs.declared.rule.Rule.TheVariants.{Token, Scope, Form}
use Rattle.policy_core.specs.declared.scope.Caller.{Caller}
use Rattle.service_calls.specs.Held.{is_shut, salt_of, space_of}
use Rattle.service_calls.specs.Run.{IsReplyTo}
use Rattle.service_calls.specs.Service.{Answers}
use Rattle.service_calls.specs.declared.service.Service.{Service}
use Rattle.service_calls.proofs.Evaluated.{first_early, told_early}
use Rattle.service_calls.proofs.Outcome.{early_answers}
use Rattle.service_step.specs.declared.reply.Reply.{Reply}
use Rattle.service_step.specs.declared.reply.Reply.TheVariants.{Denied}
use Rattle.space_core.specs.declared.space.Space.{Ghosts}
use Rattle.wire_body.specs.Body.{IsBody, Says, Words, query_of, read_of, create_of, update_of, delete_of, availability_read_of, setting_of, sub_query_of, sub_read_of, sub_create_of, sub_update_of, sub_delete_of}
use Rattle.wire_body.specs.Laws.{KeepsKind}
use Rattle.wire_route.specs.declared.endpoint.Endpoint.{Endpoint}
use Rattle.wire_route.specs.Endpoint.{kind_at}
use Rattle.wire_route.specs.Route.{IsRoute}
use Rattle.wire_http.specs.declared.explaining.Explaining.{Explaining}
use Rattle.wire_operation.specs.Asked.{IsAsked, IsAskedAs, IsReadAs}
use Rattle.wire_http.specs.Reply.{Replies, RepliesPart}
use Rattle.wire_http.specs.Unread.{AreDeniedAlike, IsMadeAs, IsMadeFor}

-- ---- path parameters and a body give an operation of a kind, or they give none

given_any : (o : Option Operation) → ((op : Operation) × (o ≡ Some op)) ⊎ ((op : Operation) → o ≡ Some op → ⊥)
given_any None = inr (λ op e. absurd (let is = e in cc))
given_any (Some op) = inl (op, refl)

formed_any : (form : Data → Option Operation) (bytes : List ℕ) (text : IsUtf8 bytes) (d : Data) → read bytes ≡ Some d
    → ((op : Operation) × Says form bytes op) ⊎ ((op : Operation) → Says form bytes op → ⊥)
formed_any form bytes text d json =
    elim (given_any (form d)) [
      | inl (op, is) ↦ inl (op, (d, (text, json), is))
      | inr none ↦ inr (λ op (e, also, is). none op (let same : e ≡ d = (let one : read bytes ≡ Some d = json in let two : read bytes ≡ Some e = also.1 in cc) in subst (λ (v : Data). form v ≡ Some op) same is))
    ]

read_any : (form : Data → Option Operation) (bytes : List ℕ) (text : IsUtf8 bytes) (o : Option Data) → read bytes ≡ o
    → ((op : Operation) × Says form bytes op) ⊎ ((op : Operation) → Says form bytes op → ⊥)
read_any form bytes text None e = inr (λ op (d, json, is). absurd (let one : read bytes ≡ None = e in let two : read bytes ≡ Some d = json.1 in cc))
read_any form bytes text (Some d) e = formed_any form bytes text d e

text_any : (form : Data → Option Operation) (bytes : List ℕ) (b : Bool) → is_utf8 bytes ≡ b
    → ((op : Operation) × Says form bytes op) ⊎ ((op : Operation) → Says form bytes op → ⊥)
text_any form bytes true e = read_any form bytes (IsUtf8-from_is_utf8 bytes e) (read bytes) refl
text_any form bytes false e = inr (λ op (d, json, is). absurd (let one : is_utf8 bytes ≡ false = e in let two : is_utf8 bytes ≡ true = is_utf8-from_IsUtf8 bytes json.0 in cc))

says_any : (form : Data → Option Operation) (bytes : List ℕ) → ((op : Operation) × Says form bytes op) ⊎ ((op : Operation) → Says form bytes op → ⊥)
says_any form bytes = text_any form bytes (is_utf8 bytes) refl

body_any : (kind : OpKind) (words : Words) (bytes : List ℕ) → ((op : Operation) × IsBody kind words bytes op) ⊎ ((op : Operation) → IsBody kind words bytes op → ⊥)
body_any (kinds.Query kind) words bytes = says_any (query_of kind words) bytes
body_any (kinds.Read kind) words bytes = given_any (read_of kind words)
body_any (kinds.Create kind) words bytes = says_any (create_of kind words) bytes
body_any (kinds.Update kind) words bytes = says_any (update_of kind words) bytes
body_any (kinds.Delete kind) words bytes = given_any (delete_of kind words)
body_any kinds.ReadAvail words bytes = given_any (availability_read_of words)
body_any kinds.SetAvail words bytes = says_any (setting_of words) bytes
body_any kinds.QuerySub words bytes = says_any (sub_query_of words) bytes
body_any kinds.ReadSub words bytes = given_any (sub_read_of words)
body_any kinds.CreateSub words bytes = says_any (sub_create_of words) bytes
body_any kinds.UpdateSub words bytes = says_any (sub_update_of words) bytes
body_any kinds.DeleteSub words bytes = given_any (sub_delete_of words)

-- There is an operation of the kind, `Malformed` if the body gives none.
op_any : KeepsKind → (kind : OpKind) (words : Words) (bytes : List ℕ) → (op : Operation) × IsReadAs kind words bytes op × (kind_of op ≡ Some kind)
op_any keeps kind words bytes =
    elim (body_any kind words bytes) [
      | inl (op, is) ↦ (op, inl is, keeps kind words bytes op is)
      | inr none ↦ (Malformed kind, inr (none, refl), refl)
    ]

-- ---- P3 and P4 look at the kind alone

abbrev call : Option Caller → Operation → Call
call caller op = record { caller = caller; op = op }

abbrev first_rule : Airspace → ℕ → Call → Option Rule
first_rule a now c = find (breaks a now c) early_rules

by_token : (a : Airspace) (now : ℕ) (kind : OpKind) (op : Operation) → kind_of op ≡ Some kind → first_rule a now (call None op) ≡ Some Token
by_token a now kind NoRoute e = absurd (let is = e in cc)
by_token a now kind NoMethod e = absurd (let is = e in cc)
by_token a now kind (Malformed k) e = refl
by_token a now kind (Query k area) e = refl
by_token a now kind (Read k id) e = refl
by_token a now kind (Create id put) e = refl
by_token a now kind (Update id ovn put) e = refl
by_token a now kind (Delete k id ovn) e = refl
by_token a now kind (ReadAvail uss) e = refl
by_token a now kind (SetAvail uss old availability) e = refl
by_token a now kind (QuerySub area) e = refl
by_token a now kind (ReadSub id) e = refl
by_token a now kind (CreateSub id put) e = refl
by_token a now kind (UpdateSub id version put) e = refl
by_token a now kind (DeleteSub id version) e = refl

-- The scope of the kind is missing, so P4 comes first.
unless_permitted : (caller : Caller) (k kind : OpKind) (rest : Option Rule) → Some k ≡ Some kind → is_permitted kind caller.scopes ≡ false
    → cond (not (is_permitted k caller.scopes)) (Some Scope) rest ≡ Some Scope
unless_permitted caller k kind rest e denied =
    let same : k ≡ kind = (let is = e in cc) in
    let none : is_permitted k caller.scopes ≡ false = subst (λ (v : OpKind). is_permitted v caller.scopes ≡ false) (sym same) denied in
    rw none refl

by_scope : (a : Airspace) (now : ℕ) (caller : Caller) (kind : OpKind) (op : Operation) → is_permitted kind caller.scopes ≡ false → kind_of op ≡ Some kind
    → first_rule a now (call (Some caller) op) ≡ Some Scope
by_scope a now caller kind NoRoute d e = absurd (let is = e in cc)
by_scope a now caller kind NoMethod d e = absurd (let is = e in cc)
by_scope a now caller kind (Malformed k) d e = unless_permitted caller _ kind _ e d
by_scope a now caller kind (Query k area) d e = unless_permitted caller _ kind _ e d
by_scope a now caller kind (Read k id) d e = unless_permitted caller _ kind _ e d
by_scope a now caller kind (Create id put) d e = unless_permitted caller _ kind _ e d
by_scope a now caller kind (Update id ovn put) d e = unless_permitted caller _ kind _ e d
by_scope a now caller kind (Delete k id ovn) d e = unless_permitted caller _ kind _ e d
by_scope a now caller kind (ReadAvail uss) d e = unless_permitted caller _ kind _ e d
by_scope a now caller kind (SetAvail uss old availability) d e = unless_permitted caller _ kind _ e d
by_scope a now caller kind (QuerySub area) d e = unless_permitted caller _ kind _ e d
by_scope a now caller kind (ReadSub id) d e = unless_permitted caller _ kind _ e d
by_scope a now caller kind (CreateSub id put) d e = unless_permitted caller _ kind _ e d
by_scope a now caller kind (UpdateSub id version put) d e = unless_permitted caller _ kind _ e d
by_scope a now caller kind (DeleteSub id version) d e = unless_permitted caller _ kind _ e d

-- A caller with the scope breaks P5 first, if the operation is malformed.
form_first : (caller : Caller) (kind : OpKind) → is_permitted kind caller.scopes ≡ true → first_rule (empty_at 0) 0 (call (Some caller) (Malformed kind)) ≡ Some Form
form_first caller kind h = rw h refl

denied_by_scope : (caller : Caller) (kind : OpKind) (broken : Rule) (b : Bool) → is_permitted kind caller.scopes ≡ b → broken ≢ Form
    → first_rule (empty_at 0) 0 (call (Some caller) (Malformed kind)) ≡ Some broken → is_permitted kind caller.scopes ≡ false
denied_by_scope caller kind broken true e other first =
    absurd (other (let one : first_rule (empty_at 0) 0 (call (Some caller) (Malformed kind)) ≡ Some Form = form_first caller kind e in let two = first in cc))
denied_by_scope caller kind broken false e other first = e

-- If a malformed operation breaks another rule than P5 first, each operation of its kind is denied
-- alike.
pub denied_alike : (caller : Option Caller) (kind : OpKind) (op : Operation) (broken : Rule) → broken ≢ Form
    → ((a : Airspace) (now : ℕ) → Some broken ≡ first_rule a now (call caller (Malformed kind))) → kind_of op ≡ Some kind
    → AreDeniedAlike (call caller (Malformed kind)) (call caller op)
denied_alike None kind op broken other first is = record {
  rule = Token;
  made_breaks = λ a now. refl;
  call_breaks = λ a now. by_token a now kind op is;
}
denied_alike (Some caller) kind op broken other first is =
    let denied : is_permitted kind caller.scopes ≡ false = denied_by_scope caller kind broken (is_permitted kind caller.scopes) refl other (sym (first (empty_at 0) 0)) in
    record {
      rule = Scope;
      made_breaks = λ a now. by_scope a now caller kind (Malformed kind) denied refl;
      call_breaks = λ a now. by_scope a now caller kind op denied is;
    }

pub made_unread : KeepsKind → (caller : Option Caller) (kind : OpKind) (words : Words) (bytes : List ℕ) (broken : Rule) → broken ≢ Form
    → ((a : Airspace) (now : ℕ) → Some broken ≡ first_rule a now (call caller (Malformed kind))) → IsMadeAs caller kind words bytes (call caller (Malformed kind))
made_unread keeps caller kind words bytes broken other first =
    let any = op_any keeps kind words bytes in
    (any.0, any.1, record { caller = refl; same = inr (denied_alike caller kind any.0 broken other first any.2) })

pub made_same : (made : Call) → IsMadeFor made made
made_same made = record { caller = refl; same = inl refl }

-- An endpoint that does not allow the method.
pub asked_without_method : (path method body : List ℕ) (endpoint : Endpoint) (words : Words) (caller : Option Caller) → IsRoute path endpoint words
    → kind_at endpoint method ≡ None
    → (op : Operation) × IsAsked path method body (Some endpoint) op × IsMadeFor (call caller NoMethod) (call caller op)
asked_without_method path method body endpoint words caller route none =
    let asked : IsAskedAs (kind_at endpoint method) words body NoMethod = subst (λ (kind : Option OpKind). IsAskedAs kind words body NoMethod) (sym none) refl in
    (NoMethod, (words, route, asked), made_same (call caller NoMethod))

-- ---- the reply to one call is that to the other

module _ {S : Type 0} (g : Ghosts S) (old new : Service S) (moment : ℕ) where
  reply_alike : (made other : Call) (reply : Reply) → AreDeniedAlike made other → IsReplyTo g old new moment made reply → IsReplyTo g old new moment other reply
  reply_alike made other reply alike x =
      let told : is_shut old ≡ false → (a : Airspace) (now : ℕ) → (reply ≡ Denied alike.rule nothing_missing) × (new ≡ old) =
      λ n a now. subst (λ (e : Option Rule). IfSome e (λ rule. (reply ≡ Denied rule nothing_missing) × (new ≡ old))) (alike.made_breaks a now) (x.early n a now) in
      record {
        stays = x.stays;
        shut = x.shut;
        shuts = x.shuts;
        early = λ n a now. subst (λ (e : Option Rule). IfSome e (λ rule. (reply ≡ Denied rule nothing_missing) × (new ≡ old))) (sym (alike.call_breaks a now)) (told n a now);
        broken = λ n b a now none. let bad : true ≡ false = subst (λ (e : Option Rule). IsNone e) (alike.call_breaks a now) none in cc;
        answers = λ n.
            let is = told n (empty_at 0) 0 in
            subst (λ (s : Service S). Answers g (salt_of old) moment other (space_of old) (space_of s) reply) (sym is.1)
            (subst (λ (r : Reply). Answers g (salt_of old) moment other (space_of old) (space_of old) r) (sym is.0)
            (early_answers g (salt_of old) moment other (space_of old) alike.rule nothing_missing
            (λ a. first_early a moment other alike.rule (alike.call_breaks a moment))
            (λ a. sym (told_early a moment other alike.rule (alike.call_breaks a moment)))));
      }

  pub reply_for : (made other : Call) (reply : Reply) → IsMadeFor made other → IsReplyTo g old new moment made reply → IsReplyTo g old new moment other reply
  reply_for made other reply h x =
      elim h.same [
        | inl same ↦ subst (λ (c : Call). IsReplyTo g old new moment c reply) same x
        | inr alike ↦ reply_alike made other reply alike x
      ]

  unfoldable pub replies_for : (explaining : Explaining) (made other : Call) (endpoint : Option Endpoint) (closing : Bool) (before text : Option (List ℕ)) → IsMadeFor made other
      → Replies explaining g old new moment made endpoint closing before text → Replies explaining g old new moment other endpoint closing before text
  replies_for explaining made other endpoint closing before text h r = record { reply = r.reply; is_reply = reply_for made other r.reply h r.is_reply; written = r.written }

  pub part_for : (made other : Call) (endpoint : Option Endpoint) (closing : Bool) (before text : Option (List ℕ)) → IsMadeFor made other
      → RepliesPart g old new moment made endpoint closing before text → RepliesPart g old new moment other endpoint closing before text
  part_for made other endpoint closing before text h r =
      record { reply = r.reply; is_reply = reply_for made other r.reply h r.is_reply; size = r.size; short = r.short; written = r.written }
