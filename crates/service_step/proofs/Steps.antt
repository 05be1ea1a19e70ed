-- Lemmas: the effect of a call that breaks no rule.
use Rattle.std.specs.Prelude.{◌≡◌, ℕ, ◌+◌, ◌<◌, ◌&&◌, ◌||◌, Bool, true, false, List, [], ◌∷◌, ◌++◌, map, Option, Some, None, find, cond, refl, is_none, is_some, nat_le, IfSome, not}
use Rattle.std.proofs.Common.{arith, inl, inr, sym, ap, ◌∙◌, subst}
use Rattle.std.proofs.lemmas.Bool.{cases_lt, false≢true, le-leb}
use Rattle.std.specs.FinMap.{get}
use Rattle.grid_core.specs.Extent.{Extent, Region}
use Rattle.entity_core.specs.Serial.{max_serial}
use Rattle.entity_core.specs.Entity.{max_version, kind_of, subscription_of}
use Rattle.entity_core.specs.Airspace.{Airspace, IsAirspace, Subscriptions, with_availability, with_entity, with_subscription, without_entity}
use Rattle.entity_core.specs.Search.{dependents_in, subscribers_in}
use Rattle.entity_core.specs.declared.subscription.Sub.{Sub}
use Rattle.entity_core.specs.declared.nature.Kind.TheVariants as kinds
use Rattle.entity_core.specs.Ovn.{ovn_text}
use Rattle.entity_core.specs.declared.entity.Entity.{Entity}
use Rattle.entity_core.specs.declared.nature.Kind.{Kind}
use Rattle.entity_core.specs.declared.availability.Availability.{Availability}
use Rattle.policy_core.specs.declared.call.Call.{Call}
use Rattle.policy_core.specs.declared.call.Put.{Put}
use Rattle.policy_core.specs.declared.call.SubPut.{SubPut}
use Rattle.policy_core.specs.declared.scope.Caller.{Caller}
use Rattle.policy_core.specs.declared.call.Operation.{Operation}
use Rattle.policy_core.specs.declared.call.Operation.TheVariants.{NoRoute, NoMethod, Malformed, Query, Read, Create, Update, Delete, ReadAvail, SetAvail, QuerySub, ReadSub, CreateSub, UpdateSub, DeleteSub}
use Rattle.policy_core.specs.declared.rule.Rule.TheVariants.{Route, Method, Token, Scope, Form, Area, Found, Fresh, Manager, Version, Role, Change, Ended, Subscription, Depended, Key, Limit}
use Rattle.policy_core.specs.Scope.{is_permitted}
use Rattle.policy_core.specs.Call.{is_about_sub, is_change}
use Rattle.policy_core.specs.Policy.{breaks, breaks_depended, breaks_subscription, early_rules, standing_rules, last_rules, first_broken, has_last_version, is_spent, is_sub_of_another, references_wrongly}
use Rattle.policy_core.specs.Standing.{Facts, depended_of, found_of, is_some_of, sub_of, sub_under}
use Rattle.policy_core.specs.View.{view_of}
use Rattle.policy_core.specs.declared.reference.Reference.{Reference}
use Rattle.space_core.specs.Space.{Fits, HasNamed}
use Rattle.space_core.specs.declared.space.Change as space_change
use Rattle.space_core.specs.declared.space.Change.TheVariants as changes
use Rattle.service_step.specs.declared.prepared.Prepared.{Prepared}
use Rattle.service_step.specs.declared.reply.Answer.{Answer}
use Rattle.service_step.specs.declared.reply.Answer.TheVariants as answers
use Rattle.service_step.specs.declared.reply.Reply.{Reply}
use Rattle.service_step.specs.declared.reply.Reply.TheVariants.{Done}
use Rattle.service_step.specs.declared.look_up.OwnedFacts as own
use Rattle.service_notify.specs.Notices.{notices_in, touched}
use Rattle.service_notify.specs.declared.notice.Notify.{Notify}
use Rattle.service_step.specs.Step.{effect, effect_by, created, updated, stored_with, create_effect, put_effect, update_effect, delete_effect, sub_stored_as, seen_of, seen_sub, stored_reply, put_sub_effect, update_sub_effect, delete_sub_effect}
use Rattle.service_step.specs.Admitted.{IsAdmitted}
use Rattle.service_step.specs.declared.admitted.Admitted.{Admitted}
use Rattle.service_step.specs.Looks.{Announces, AreFacts, Makes, Prepares, PutsEntity, PutsSub, changed_by}
use Rattle.policy_core.proofs.Finds.{find_rest, none_passes}
use Rattle.service_step.proofs.Preserves.{told_within}
use Rattle.service_step.proofs.Notified.{notified_rise, notified_there, told_alike}

no_limit : (k l : Bool) → cond k (Some Key) (cond l (Some Limit) None) ≡ None → l ≡ false
no_limit true l h = cc
no_limit false true h = cc
no_limit false false h = refl

neither : (x y : Bool) → (x || y) ≡ false → (x ≡ false) × (y ≡ false)
neither true y h = cc
neither false y h = (refl, h)

below : (n most : ℕ) → nat_le most n ≡ false → n < most
below n most h = elim (cases_lt n most) [
  | inl lt ↦ lt
  | inr ge ↦ absurd (false≢true (sym h ∙ le-leb most n ge))
]

-- A call that breaks no rule is within all limits.
limits : (a : Airspace) (t : ℕ) (c : Call) → first_broken a t c ≡ None → ((is_change c.op && nat_le max_serial a.serial) ≡ false) × (is_spent c.op (found_of a c.op) ≡ false)
unfolding first_broken
limits a t c h =
    let last : find (breaks a t c) last_rules ≡ None = find_rest (breaks a t c) standing_rules last_rules (find_rest (breaks a t c) early_rules (standing_rules ++ last_rules) h) in
    neither (is_change c.op && nat_le max_serial a.serial) (is_spent c.op (found_of a c.op)) (no_limit (breaks a t c Key) (breaks a t c Limit) last)

-- If a change breaks no rule, the serial is below its maximum.
pub room_of : (a : Airspace) (t : ℕ) (c : Call) → first_broken a t c ≡ None → is_change c.op ≡ true → a.serial < max_serial
room_of a t c h is = below a.serial max_serial (ap (λ (b : Bool). b && nat_le max_serial a.serial) (sym is) ∙ (limits a t c h).0)

-- If an update breaks no rule, the version of the stored entity is below its maximum.
pub unspent : (a : Airspace) (t : ℕ) (c : Call) (id : ℕ) (ovn : List ℕ) (put : Put) (e : Entity) → first_broken a t c ≡ None → c.op ≡ Update id ovn put → get a.entities (kind_of put.nature, id) ≡ Some e → e.version < max_version
unspent a t c id ovn put e h op there =
    below e.version max_version (
    ap has_last_version (sym there) ∙ (ap (λ (o : Operation). is_spent o (found_of a o)) (sym op) ∙ (limits a t c h).1))

-- A call that breaks no stateless rule has an effect.
pub well_formed : (a : Airspace) (t : ℕ) (caller : Option Caller) (op : Operation) → find (breaks a t (record { caller = caller; op = op })) early_rules ≡ None
    → ((kind : Kind) (area : Region) → op ≡ Query kind area → ⊥) → ((kind : Kind) (id : ℕ) → op ≡ Read kind id → ⊥) → ((id : ℕ) (put : Put) → op ≡ Create id put → ⊥)
    → ((id : ℕ) (ovn : List ℕ) (put : Put) → op ≡ Update id ovn put → ⊥) → ((kind : Kind) (id : ℕ) (ovn : List ℕ) → op ≡ Delete kind id ovn → ⊥)
    → ((uss : List ℕ) → op ≡ ReadAvail uss → ⊥) → ((uss old : List ℕ) (availability : Availability) → op ≡ SetAvail uss old availability → ⊥) → is_about_sub op ≡ false → ⊥
well_formed a t caller NoRoute h l r p u d q s n = cc
well_formed a t caller NoMethod h l r p u d q s n = cc
well_formed a t None (Malformed kind) h l r p u d q s n = cc
well_formed a t (Some x) (Malformed kind) h l r p u d q s n = elim (is_permitted kind x.scopes) as (λ b. cond (not b) (Some Scope) (Some Form) ≡ None → ⊥) [ true ↦ λ e. cc | false ↦ λ e. cc ] h
well_formed a t caller (Query kind area) h l r p u d q s n = l kind area refl
well_formed a t caller (Read kind id) h l r p u d q s n = r kind id refl
well_formed a t caller (Create id put) h l r p u d q s n = p id put refl
well_formed a t caller (Update id ovn put) h l r p u d q s n = u id ovn put refl
well_formed a t caller (Delete kind id ovn) h l r p u d q s n = d kind id ovn refl
well_formed a t caller (ReadAvail uss) h l r p u d q s n = q uss refl
well_formed a t caller (SetAvail uss old availability) h l r p u d q s n = s uss old availability refl
well_formed a t caller (QuerySub area) h l r p u d q s n = cc
well_formed a t caller (ReadSub id) h l r p u d q s n = cc
well_formed a t caller (CreateSub id put) h l r p u d q s n = cc
well_formed a t caller (UpdateSub id version put) h l r p u d q s n = cc
well_formed a t caller (DeleteSub id version) h l r p u d q s n = cc

-- An operation about subscriptions queries, reads, creates, updates or deletes them.
pub about_subs : (op : Operation) → is_about_sub op ≡ true → ((area : Region) → op ≡ QuerySub area → ⊥) → ((id : ℕ) → op ≡ ReadSub id → ⊥) → ((id : ℕ) (put : SubPut) → op ≡ CreateSub id put → ⊥)
    → ((id : ℕ) (version : List ℕ) (put : SubPut) → op ≡ UpdateSub id version put → ⊥) → ((id : ℕ) (version : List ℕ) → op ≡ DeleteSub id version → ⊥) → ⊥
about_subs NoRoute h q r p u d = cc
about_subs NoMethod h q r p u d = cc
about_subs (Malformed kind) h q r p u d = cc
about_subs (Query kind area) h q r p u d = cc
about_subs (Read kind id) h q r p u d = cc
about_subs (Create id put) h q r p u d = cc
about_subs (Update id ovn put) h q r p u d = cc
about_subs (Delete kind id ovn) h q r p u d = cc
about_subs (ReadAvail uss) h q r p u d = cc
about_subs (SetAvail uss old availability) h q r p u d = cc
about_subs (QuerySub area) h q r p u d = q area refl
about_subs (ReadSub id) h q r p u d = r id refl
about_subs (CreateSub id put) h q r p u d = p id put refl
about_subs (UpdateSub id version put) h q r p u d = u id version put refl
about_subs (DeleteSub id version) h q r p u d = d id version refl

-- A call that breaks no stateless rule has a caller.
pub has_caller : (a : Airspace) (t : ℕ) (caller : Option Caller) (op : Operation) → caller ≡ None → find (breaks a t (record { caller = caller; op = op })) early_rules ≡ None → ⊥
has_caller a t (Some x) op e h = cc
has_caller a t None NoRoute e h = cc
has_caller a t None NoMethod e h = cc
has_caller a t None (Malformed kind) e h = cc
has_caller a t None (Query kind area) e h = cc
has_caller a t None (Read kind id) e h = cc
has_caller a t None (Create id put) e h = cc
has_caller a t None (Update id ovn put) e h = cc
has_caller a t None (Delete kind id ovn) e h = cc
has_caller a t None (ReadAvail uss) e h = cc
has_caller a t None (SetAvail uss old availability) e h = cc
has_caller a t None (QuerySub area) e h = cc
has_caller a t None (ReadSub id) e h = cc
has_caller a t None (CreateSub id put) e h = cc
has_caller a t None (UpdateSub id version put) e h = cc
has_caller a t None (DeleteSub id version) e h = cc

-- ---- existence of the entity or subscription

is_there : {X : Type 0} (o : Option X) (b : Bool) → (is_none o || b) ≡ false → is_some o ≡ true
is_there None b h = cc
is_there (Some x) b h = refl

named_there : (a : Airspace) (caller : Caller) (named : Option ℕ) → references_wrongly (Some caller) named (sub_under a named) ≡ false → HasNamed a named
named_there a caller None h = tt
named_there a caller (Some id) h = is_there (get a.subscriptions id) (is_sub_of_another (Some caller) (get a.subscriptions id)) h

unwrong : (a : Airspace) (t : ℕ) (c : Call) → first_broken a t c ≡ None → breaks a t c Subscription ≡ false
unfolding first_broken
unwrong a t c h = none_passes (breaks a t c) (Route ∷ Method ∷ Token ∷ Scope ∷ Form ∷ Area ∷ Found ∷ Fresh ∷ Manager ∷ Version ∷ Role ∷ Change ∷ Ended ∷ []) (Depended ∷ Key ∷ Limit ∷ []) Subscription h

undepended : (a : Airspace) (t : ℕ) (c : Call) → first_broken a t c ≡ None → breaks a t c Depended ≡ false
unfolding first_broken
undepended a t c h = none_passes (breaks a t c) (Route ∷ Method ∷ Token ∷ Scope ∷ Form ∷ Area ∷ Found ∷ Fresh ∷ Manager ∷ Version ∷ Role ∷ Change ∷ Ended ∷ Subscription ∷ []) (Key ∷ Limit ∷ []) Depended h

create_named : (a : Airspace) (t : ℕ) (c : Call) (caller : Caller) (id : ℕ) (put : Put) → first_broken a t c ≡ None → c.caller ≡ Some caller → c.op ≡ Create id put → HasNamed a (subscription_of put.nature)
create_named a t c caller id put h who op =
    named_there a caller (subscription_of put.nature) (
    ap (λ (o : Option Caller). breaks_subscription o (Create id put) (sub_of a (Create id put))) (sym who)
    ∙ (ap (λ (o : Operation). breaks_subscription c.caller o (sub_of a o)) (sym op) ∙ unwrong a t c h))

update_named : (a : Airspace) (t : ℕ) (c : Call) (caller : Caller) (id : ℕ) (ovn : List ℕ) (put : Put) → first_broken a t c ≡ None → c.caller ≡ Some caller → c.op ≡ Update id ovn put → HasNamed a (subscription_of put.nature)
update_named a t c caller id ovn put h who op =
    named_there a caller (subscription_of put.nature) (
    ap (λ (o : Option Caller). breaks_subscription o (Update id ovn put) (sub_of a (Update id ovn put))) (sym who)
    ∙ (ap (λ (o : Operation). breaks_subscription c.caller o (sub_of a o)) (sym op) ∙ unwrong a t c h))

none_of : (ids : List ℕ) → is_some_of ids ≡ false → ids ≡ []
none_of [] h = refl
none_of (id ∷ ids) h = cc

named_by_none : (a : Airspace) (t : ℕ) (c : Call) (id : ℕ) (version : List ℕ) → first_broken a t c ≡ None → c.op ≡ DeleteSub id version → dependents_in a.entities id ≡ []
named_by_none a t c id version h op =
    none_of (dependents_in a.entities id) (ap (λ (o : Operation). breaks_depended o (depended_of a o)) (sym op) ∙ undepended a t c h)

-- ---- effects on entities

same_view : (a : Airspace) (uss : List ℕ) (old : List Extent) (e x : Entity) → view_of (stored_with a old e) uss x ≡ view_of a uss x
unfolding view_of
same_view a uss old e x = refl

same_seen : (a : Airspace) (uss : List ℕ) (s x : Sub) → stored_reply (with_subscription a s) uss x ≡ stored_reply a uss x
unfolding view_of
same_seen a uss s x = refl

-- The ids of the subscriptions that a change of an entity notifies.
abbrev ids_for : Airspace → Kind → List Region → List ℕ
ids_for a kind areas = map (λ s. s.id) (subscribers_in a.subscriptions kind areas)

module _ (q : Admitted) (is_admitted : IsAdmitted q) (g : own.OwnedFacts) (a : Airspace) where
  abbrev salt : List ℕ
  salt = q.salt.now

  abbrev call : Call
  call = q.call.now

  abbrev uss : List ℕ
  uss = q.caller.now.uss

  makes_from : (made : Prepared) (change : Option space_change.Change) (told : List ℕ) (answer : Answer)
      → effect salt a call.caller call.op ≡ (changed_by change told a, Done answer) → made.change ≡ change → made.notify ≡ told → made.answer ≡ answer → IfSome change (λ x. Fits x told a) → Makes q a made.change made.notify made.answer
  makes_from made change told answer e one ids two fits = record {
    effect = e ∙ (λ i. (changed_by (sym one i) (sym ids i) a, Done (sym two i)));
    fits = subst (λ (x : Option space_change.Change). IfSome x (λ y. Fits y made.notify a)) (sym one) (subst (λ (k : List ℕ). IfSome change (λ y. Fits y k a)) (sym ids) fits);
  }

  effect_is : (op : Operation) → call.op ≡ op → effect salt a call.caller call.op ≡ effect_by salt a q.caller.now op
  effect_is op is = ap (λ (o : Option Caller). effect salt a o call.op) is_admitted.caller ∙ ap (effect_by salt a q.caller.now) is

  next_is : (next : ℕ) → first_broken a q.moment call ≡ None → is_change call.op ≡ true → AreFacts call.op a g → (g.serial < max_serial → next ≡ g.serial + 1) → next ≡ a.serial + 1
  next_is next first is regards goes =
      goes (subst (λ (k : ℕ). k < max_serial) (sym (ap (λ (f : Facts). f.serial) regards)) (room_of a q.moment call first is)) ∙ ap (λ (f : Facts). f.serial + 1) regards

  found_is : (op : Operation) (e : Entity) → call.op ≡ op → g.found ≡ Some e → AreFacts call.op a g → found_of a op ≡ Some e
  found_is op e is found regards = ap (found_of a) (sym is) ∙ (sym (ap (λ (f : Facts). f.found) regards) ∙ found)

  -- A prepared put has the effect of the call, with the notices.
  put_made : (answer : Reference → List Notify → Answer) (old : List Extent) (e : Entity) (made : Prepared) → IsAirspace a
      → effect salt a call.caller call.op ≡ (stored_with a old e, Done (answer (view_of (stored_with a old e) uss e) (notices_in a (kind_of e.nature) (touched old e.volumes))))
      → PutsEntity answer uss old e a made → a.serial < max_serial → (e.serial ≡ a.serial + 1) × HasNamed a (subscription_of e.nature) → Makes q a made.change made.notify made.answer
  put_made answer old e made proper is puts room due =
      let kind = kind_of e.nature in
      let areas = touched old e.volumes in
      let told = notices_in a kind areas in
      let it = puts (notified_rise a proper room kind areas) in
      makes_from made (Some (changes.Put e)) (ids_for a kind areas) (answer (view_of a uss e) told)
      (is ∙ (ap (λ (r : Reference). (stored_with a old e, Done (answer r told))) (same_view a uss old e e)
      ∙ ap (λ (m : Subscriptions). (record (with_entity a e) { subscriptions = m }, Done (answer (view_of a uss e) told))) (sym (told_alike a proper kind areas))))
      it.1 it.0 it.2 (record { room = room; due = due; tells = notified_there a proper kind areas })

  pub makes_create : (id : ℕ) (put : Put) (next : ℕ) (made : Prepared) → call.op ≡ Create id put → (g.serial < max_serial → next ≡ g.serial + 1)
      → PutsEntity answers.Created uss [] (created salt next uss id put) a made → Prepares q g a made
  makes_create id put next made op goes puts proper first regards =
      let n = next_is next first (ap is_change op) regards goes in
      put_made answers.Created [] (created salt next uss id put) made proper
      (effect_is (Create id put) op ∙ ap (λ (k : ℕ). create_effect a uss (created salt k uss id put)) (sym n))
      puts (room_of a q.moment call first (ap is_change op)) (n, create_named a q.moment call q.caller.now id put first is_admitted.caller op)

  pub makes_update : (id : ℕ) (ovn : List ℕ) (put : Put) (old : Entity) (next : ℕ) (made : Prepared) → call.op ≡ Update id ovn put → g.found ≡ Some old → (g.serial < max_serial → next ≡ g.serial + 1)
      → (old.version < max_version → PutsEntity answers.Changed uss old.volumes (updated salt next id put old) a made) → Prepares q g a made
  makes_update id ovn put old next made op found goes puts proper first regards =
      let n = next_is next first (ap is_change op) regards goes in
      let there = found_is (Update id ovn put) old op found regards in
      put_made answers.Changed old.volumes (updated salt next id put old) made proper
      (effect_is (Update id ovn put) op ∙ (ap (update_effect salt a uss id put) there ∙ ap (λ (k : ℕ). put_effect a uss old.volumes (updated salt k id put old)) (sym n)))
      (puts (unspent a q.moment call id ovn put old first op there)) (room_of a q.moment call first (ap is_change op)) (n, update_named a q.moment call q.caller.now id ovn put first is_admitted.caller op)

  pub makes_delete : (kind : Kind) (id : ℕ) (ovn : List ℕ) (e : Entity) (made : Prepared) → call.op ≡ Delete kind id ovn → g.found ≡ Some e
      → Announces kind (touched e.volumes []) (changes.Remove kind id) (answers.Changed (view_of a uss e)) a made → Prepares q g a made
  makes_delete kind id ovn e made op found makes proper first regards =
      let there = found_is (Delete kind id ovn) e op found regards in
      let room = room_of a q.moment call first (ap is_change op) in
      let areas = touched e.volumes [] in
      let is = makes (notified_rise a proper room kind areas) in
      let answer = answers.Changed (view_of a uss e) (notices_in a kind areas) in
      makes_from made (Some (changes.Remove kind id)) (ids_for a kind areas) answer
      (effect_is (Delete kind id ovn) op ∙ (ap (delete_effect a uss (kind, id)) there
      ∙ ap (λ (m : Subscriptions). (record (without_entity a (kind, id)) { subscriptions = m }, Done answer)) (sym (told_alike a proper kind areas))))
      is.1 is.0 is.2 (record { room = room; due = ap is_some there; tells = notified_there a proper kind areas })

  pub makes_set : (named old : List ℕ) (availability : Availability) (next : ℕ) (made : Prepared) → call.op ≡ SetAvail named old availability → (g.serial < max_serial → next ≡ g.serial + 1)
      → made.change ≡ Some (changes.Avail named availability (ovn_text salt next)) → made.notify ≡ [] → made.answer ≡ answers.Avail named availability (ovn_text salt next) → Prepares q g a made
  makes_set named old availability next made op goes one ids two proper first regards =
      let n = next_is next first (ap is_change op) regards goes in
      makes_from made (Some (changes.Avail named availability (ovn_text salt next))) [] (answers.Avail named availability (ovn_text salt next))
      (effect_is (SetAvail named old availability) op
      ∙ ap (λ (k : ℕ). (with_availability a named (availability, ovn_text salt k), Done (answers.Avail named availability (ovn_text salt k)))) (sym n))
      one ids two (record { room = room_of a q.moment call first (ap is_change op); due = tt; tells = refl })

  -- ---- effects on subscriptions

  sub_is : (op : Operation) (s : Sub) → call.op ≡ op → g.sub ≡ Some s → AreFacts call.op a g → sub_of a op ≡ Some s
  sub_is op s is found regards = ap (sub_of a) (sym is) ∙ (sym (ap (λ (f : Facts). f.sub) regards) ∙ found)

  put_sub_made : (s : Sub) (made : Prepared) → effect salt a call.caller call.op ≡ put_sub_effect a uss s → PutsSub s a uss made → Fits (changes.PutSub s) [] a → Makes q a made.change made.notify made.answer
  put_sub_made s made e puts fits =
      makes_from made (Some (changes.PutSub s)) [] (answers.SubStored (seen_sub a s) (seen_of kinds.Intent a uss s) (seen_of kinds.Constraint a uss s))
      (e ∙ ap (λ (r : Reply). (with_subscription a s, r)) (same_seen a uss s s)) puts.0 puts.1 puts.2 fits

  pub makes_create_sub : (id : ℕ) (put : SubPut) (next : ℕ) (made : Prepared) → call.op ≡ CreateSub id put → (g.serial < max_serial → next ≡ g.serial + 1)
      → PutsSub (sub_stored_as salt next uss 0 id put) a uss made → Prepares q g a made
  makes_create_sub id put next made op goes puts proper first regards =
      let n = next_is next first (ap is_change op) regards goes in
      put_sub_made (sub_stored_as salt next uss 0 id put) made
      (effect_is (CreateSub id put) op ∙ ap (λ (k : ℕ). put_sub_effect a uss (sub_stored_as salt k uss 0 id put)) (sym n))
      puts (record { room = room_of a q.moment call first (ap is_change op); due = (n, omega arith); tells = refl })

  pub makes_update_sub : (id : ℕ) (version : List ℕ) (put : SubPut) (old : Sub) (next : ℕ) (made : Prepared) → call.op ≡ UpdateSub id version put → g.sub ≡ Some old → (g.serial < max_serial → next ≡ g.serial + 1)
      → PutsSub (sub_stored_as salt next old.manager old.index id put) a uss made → Prepares q g a made
  makes_update_sub id version put old next made op found goes puts proper first regards =
      let n = next_is next first (ap is_change op) regards goes in
      let there = sub_is (UpdateSub id version put) old op found regards in
      put_sub_made (sub_stored_as salt next old.manager old.index id put) made
      (effect_is (UpdateSub id version put) op ∙ (ap (update_sub_effect salt a uss id put) there
      ∙ ap (λ (k : ℕ). put_sub_effect a uss (sub_stored_as salt k old.manager old.index id put)) (sym n)))
      puts (record { room = room_of a q.moment call first (ap is_change op); due = (n, told_within a id old proper there); tells = refl })

  pub makes_delete_sub : (id : ℕ) (version : List ℕ) (s : Sub) (made : Prepared) → call.op ≡ DeleteSub id version → g.sub ≡ Some s
      → made.change ≡ Some (changes.RemoveSub id) → made.notify ≡ [] → made.answer ≡ answers.SubFound (seen_sub a s) → Prepares q g a made
  makes_delete_sub id version s made op found one ids two proper first regards =
      let there = sub_is (DeleteSub id version) s op found regards in
      makes_from made (Some (changes.RemoveSub id)) [] (answers.SubFound (seen_sub a s))
      (effect_is (DeleteSub id version) op ∙ ap (delete_sub_effect a id) there)
      one ids two (record { room = room_of a q.moment call first (ap is_change op); due = (ap is_some there, named_by_none a q.moment call id version first op); tells = refl })
