-- Lemmas: after a run, each later put knew the earlier entities that it meets.
use Rattle.std.specs.Prelude.{◌≡◌, ℕ, ◌+◌, ◌≤◌, not, Bool, true, false, List, [], ◌∷◌, map, Option, Some, None, cond, refl, Contains}
use Rattle.std.proofs.Common.{arith, sym, ap, ◌∙◌, subst, inl, inr}
use Rattle.std.proofs.lemmas.Bool.{and_parts}
use Rattle.std.proofs.lemmas.List.{nil_from_length}
use Rattle.std.specs.Ordering.{eq_by_cmp}
use Rattle.std.specs.List.{AllByRecursion}
use Rattle.std.specs.FinMap.{get, entries, empty, get-entries, get-empty, len-entries, len-empty, entries-insert}
use Rattle.grid_core.specs.Extent.{region_of, any_meet}
use Rattle.entity_core.specs.Airspace.{Airspace, IsAirspace, EntityKey, key_cmp, key_of, with_availability, with_entity, with_subscription, with_notified_subs, without_entity, without_subscription, empty_at, VersionedAvailability}
use Rattle.entity_core.specs.Entity.{kind_of}
use Rattle.entity_core.specs.Search.{is_for_near}
use Rattle.entity_core.specs.Ovn.{ovn_text}
use Rattle.entity_core.specs.declared.entity.Entity.{Entity}
use Rattle.entity_core.specs.declared.subscription.Sub.{Sub}
use Rattle.entity_core.specs.declared.nature.Kind.{Kind}
use Rattle.policy_core.specs.declared.scope.Caller.{Caller}
use Rattle.policy_core.specs.declared.call.Call.{Call}
use Rattle.policy_core.specs.declared.call.Put.{Put}
use Rattle.policy_core.specs.declared.call.SubPut.{SubPut}
use Rattle.policy_core.specs.declared.call.Operation.{Operation}
use Rattle.policy_core.specs.declared.call.Operation.TheVariants.{NoRoute, NoMethod, Malformed, Query, Read, Create, Update, Delete, ReadAvail, SetAvail, QuerySub, ReadSub, CreateSub, UpdateSub, DeleteSub}
use Rattle.policy_core.specs.Known.{call_needs, put_of}
use Rattle.policy_core.specs.Missing.{is_spared, key_shown, needs_key}
use Rattle.policy_core.specs.Policy.{first_broken}
use Rattle.policy_core.proofs.Puts.{puts_know}
use Rattle.entity_core.proofs.Keys.{key_total, key_exact, one_key}
use Rattle.entity_core.proofs.Entries.{entries-remove}
use Rattle.space_core.specs.declared.space.Space.{Ghosts}
use Rattle.space_core.specs.Space.{IsContent}
use Rattle.service_step.specs.declared.reply.Reply.{Reply}
use Rattle.service_step.specs.declared.reply.Reply.TheVariants.{Done, Denied, Fault, Stopped}
use Rattle.service_calls.specs.Aware.{MadeCall, is_done, is_owed, left_by, put_in, last_writer, later_or, Knew, KnewOthers, SerialsDiffer, Aware}
use Rattle.service_notify.specs.Notices.{touched}
use Rattle.service_calls.specs.Run.{Answered, MayHaveStepped, TimedCall, Runs, replies_of, airspace_after, answered_calls, delivered_replies, has_stopped}
use Rattle.service_calls.specs.Held.{is_shut, salt_of, space_of}
use Rattle.service_calls.specs.Stale.{IsNumbered, AllNumbered}
use Rattle.service_calls.specs.declared.service.Service.{Service}
use Rattle.service_step.specs.Step.{step, step_by, effect, created, updated, update_effect, delete_effect, read_effect, sub_stored_as, read_sub_effect, update_sub_effect, delete_sub_effect}
use Rattle.entity_core.proofs.Changes.{got, stayed, proper_with, proper_with_told, proper_without, proper_without_told, proper_stated, proper_sub, proper_without_sub, proper_empty}
use Rattle.service_step.proofs.Preserves.{told_within}
use Rattle.service_calls.proofs.Kept.{all_found, all_put, all_where, all_turned}

-- ---- the invariant

pub record Kept (salt : List ℕ) (last : EntityKey → Option MadeCall) (a : Airspace) : Type 0 where
  pub proper : IsAirspace a
  pub numbered : AllNumbered salt a
  pub serials : SerialsDiffer a
  pub knew : KnewOthers last a

within : (salt : List ℕ) (a : Airspace) (k : EntityKey) (x : Entity) → AllNumbered salt a → get a.entities k ≡ Some x → x.serial ≤ a.serial
within salt a k x n h = (all_found (IsNumbered salt a.serial) (entries a.entities) k x n (sym (get-entries a.entities k) ∙ h)).within

raised : (salt : List ℕ) (serial : ℕ) (x : Entity) → IsNumbered salt serial x → IsNumbered salt (serial + 1) x
raised salt serial x n = record { positive = n.positive; within = let w = n.within in omega arith; ovn = n.ovn }

-- ---- the invariant after each change

-- The invariant holds after an entity is put that knew the others.
kept_with : (salt : List ℕ) (last : EntityKey → Option MadeCall) (a : Airspace) (c : Call) (e : Entity) → Kept salt last a → e.serial ≡ a.serial + 1 → e.ovn ≡ ovn_text salt e.serial
    → ((y : Entity) → get a.entities (key_of y) ≡ Some y → eq_by_cmp key_cmp (key_of y) (key_of e) ≡ false → needs_key e.nature ≡ true → any_meet y.volumes (map region_of e.volumes) ≡ true → is_owed (record { before = a; call = c }) y ≡ true → Contains (key_shown c.op) y.ovn)
    → Kept salt (λ k. later_or (cond (eq_by_cmp key_cmp k (key_of e)) (Some (record { before = a; call = c })) None) (last k)) (with_entity a e)
kept_with salt last a c e s new text knows =
    record {
      proper = proper_with a e s.proper;
      numbered = subst (AllByRecursion (λ x. IsNumbered salt (a.serial + 1) x.1)) (sym (entries-insert key_total a.entities (key_of e) e)) (
          all_put (IsNumbered salt (a.serial + 1)) (key_of e) e (entries a.entities) (record { positive = omega (arith, new); within = omega (arith, new); ovn = text })
          (all_turned (IsNumbered salt a.serial) (IsNumbered salt (a.serial + 1)) (raised salt a.serial) (entries a.entities) s.numbered));
      serials = λ k l x y hx hy same. elim (got a.entities (key_of e) e k x hx) [
        | inl p ↦ elim (got a.entities (key_of e) e l y hy) [
          | inl q ↦ one_key k (key_of e) p.0 ∙ sym (one_key l (key_of e) q.0)
          | inr q ↦
              let one : x.serial ≡ e.serial = ap (λ (z : Entity). z.serial) (sym p.1) in
              let two : y.serial ≤ a.serial = within salt a l y s.numbered q.1 in
              absurd (omega (arith, one, two, same, new))
        ]
        | inr p ↦ elim (got a.entities (key_of e) e l y hy) [
          | inl q ↦
              let one : y.serial ≡ e.serial = ap (λ (z : Entity). z.serial) (sym q.1) in
              let two : x.serial ≤ a.serial = within salt a k x s.numbered p.1 in
              absurd (omega (arith, one, two, same, new))
          | inr q ↦ s.serials k l x y p.1 q.1 same
        ]
      ];
      knew = λ k l x y hx hy older needs meet. elim (got a.entities (key_of e) e k x hx) [
        | inl p ↦ elim (got a.entities (key_of e) e l y hy) [
          | inl q ↦
              let one : x.serial ≡ e.serial = ap (λ (z : Entity). z.serial) (sym p.1) in
              let two : y.serial ≡ e.serial = ap (λ (z : Entity). z.serial) (sym q.1) in
              absurd (omega (arith, one, two, older))
          | inr q ↦
              let at : key_of y ≡ l = s.proper.keyed l y q.1 in
              record {
                made = record { before = a; call = c };
                last = ap (λ (b : Bool). later_or (cond b (Some (record { before = a; call = c })) None) (last k)) p.0;
                stood = ap (get a.entities) at ∙ q.1;
                knew = knows y (ap (get a.entities) at ∙ q.1) (ap (λ (z : EntityKey). eq_by_cmp key_cmp z (key_of e)) at ∙ q.0) (ap (λ (z : Entity). needs_key z.nature) p.1 ∙ needs) (ap (λ (z : Entity). any_meet y.volumes (map region_of z.volumes)) p.1 ∙ meet);
              }
        ]
        | inr p ↦ elim (got a.entities (key_of e) e l y hy) [
          | inl q ↦
              let one : y.serial ≡ e.serial = ap (λ (z : Entity). z.serial) (sym q.1) in
              let two : x.serial ≤ a.serial = within salt a k x s.numbered p.1 in
              absurd (omega (arith, one, two, older, new))
          | inr q ↦ subst (λ (o : Option MadeCall). Knew o y) (sym (ap (λ (b : Bool). later_or (cond b (Some (record { before = a; call = c })) None) (last k)) p.0)) (s.knew k l x y p.1 q.1 older needs meet)
        ]
      ];
    }

-- The invariant holds after an entity is deleted.
kept_without : (salt : List ℕ) (last : EntityKey → Option MadeCall) (a : Airspace) (k : EntityKey) → Kept salt last a → Kept salt last (without_entity a k)
kept_without salt last a k s = record {
  proper = proper_without a k s.proper;
  numbered = subst (AllByRecursion (λ x. IsNumbered salt (a.serial + 1) x.1)) (sym (entries-remove key_total key_exact a.entities k)) (
      all_where (IsNumbered salt (a.serial + 1)) (λ q. not (eq_by_cmp key_cmp k q)) (entries a.entities)
      (all_turned (IsNumbered salt a.serial) (IsNumbered salt (a.serial + 1)) (raised salt a.serial) (entries a.entities) s.numbered));
  serials = λ p q x y hx hy same. s.serials p q x y (stayed a.entities k p x hx) (stayed a.entities k q y hy) same;
  knew = λ p q x y hx hy older needs meet. s.knew p q x y (stayed a.entities k p x hx) (stayed a.entities k q y hy) older needs meet;
}

-- The invariant holds after an availability is set.
kept_stated : (salt : List ℕ) (last : EntityKey → Option MadeCall) (a : Airspace) (uss : List ℕ) (stated : VersionedAvailability) → Kept salt last a → Kept salt last (with_availability a uss stated)
kept_stated salt last a uss stated s = record {
  proper = proper_stated a uss stated s.proper;
  numbered = all_turned (IsNumbered salt a.serial) (IsNumbered salt (a.serial + 1)) (raised salt a.serial) (entries a.entities) s.numbered;
  serials = s.serials;
  knew = s.knew;
}

-- The invariant holds after a subscription is put or deleted.
kept_sub : (salt : List ℕ) (last : EntityKey → Option MadeCall) (a : Airspace) (x : Sub) → x.index ≤ a.serial + 1 → Kept salt last a → Kept salt last (with_subscription a x)
kept_sub salt last a x within s = record {
  proper = proper_sub a x within s.proper;
  numbered = all_turned (IsNumbered salt a.serial) (IsNumbered salt (a.serial + 1)) (raised salt a.serial) (entries a.entities) s.numbered;
  serials = s.serials;
  knew = s.knew;
}

kept_without_sub : (salt : List ℕ) (last : EntityKey → Option MadeCall) (a : Airspace) (id : ℕ) → Kept salt last a → Kept salt last (without_subscription a id)
kept_without_sub salt last a id s = record {
  proper = proper_without_sub a id s.proper;
  numbered = all_turned (IsNumbered salt a.serial) (IsNumbered salt (a.serial + 1)) (raised salt a.serial) (entries a.entities) s.numbered;
  serials = s.serials;
  knew = s.knew;
}

-- The invariant holds after subscriptions are notified: entities and serial stay unchanged.
kept_telling : (salt : List ℕ) (last : EntityKey → Option MadeCall) (a : Airspace) (test : ℕ × Sub → Bool) → IsAirspace (with_notified_subs a test) → Kept salt last a → Kept salt last (with_notified_subs a test)
kept_telling salt last a test proper s = record { proper = proper; numbered = s.numbered; serials = s.serials; knew = s.knew }

-- ---- the invariant after a call

-- The last put of each entity, after one more call with its reply.
abbrev pub last_with : (EntityKey → Option MadeCall) → Airspace → Call → Reply → EntityKey → Option MadeCall
last_with last a c r = λ k. later_or (put_in k a c r) (last k)

-- Holds if the key of an operation has the OVN of each other entity that its put needs to know.
abbrev Knows : Airspace → Option Caller → Operation → Type 0
Knows a caller op = (id : ℕ) (put : Put) (y : Entity) → put_of op ≡ Some (id, put) → needs_key put.nature ≡ true → get a.entities (key_of y) ≡ Some y → eq_by_cmp key_cmp (key_of y) (kind_of put.nature, id) ≡ false
    → any_meet y.volumes (map region_of put.volumes) ≡ true → call_needs a (record { caller = caller; op = op }) y.nature ≡ true → is_spared a y ≡ false → Contains put.key y.ovn

not_true : (b : Bool) → not b ≡ true → b ≡ false
not_true true h = cc
not_true false h = refl

-- An operation that knows what its put needs also knows what the call was owed.
knows_owed : (a : Airspace) (caller : Option Caller) (op : Operation) (id : ℕ) (put : Put) (y : Entity) → Knows a caller op → put_of op ≡ Some (id, put) → needs_key put.nature ≡ true → get a.entities (key_of y) ≡ Some y
    → eq_by_cmp key_cmp (key_of y) (kind_of put.nature, id) ≡ false → any_meet y.volumes (map region_of put.volumes) ≡ true → is_owed (record { before = a; call = record { caller = caller; op = op } }) y ≡ true → Contains put.key y.ovn
knows_owed a caller op id put y knows is needs found other meet owed =
    let parts = and_parts (call_needs a (record { caller = caller; op = op }) y.nature) (not (is_spared a y)) owed in
    knows id put y is needs found other meet parts.0 (not_true (is_spared a y) parts.1)

kept_create : (salt : List ℕ) (last : EntityKey → Option MadeCall) (a : Airspace) (caller : Caller) (id : ℕ) (put : Put) → Kept salt last a → Knows a (Some caller) (Create id put)
    → Kept salt (last_with last a (record { caller = Some caller; op = Create id put }) (effect salt a (Some caller) (Create id put)).1) (effect salt a (Some caller) (Create id put)).0
kept_create salt last a caller id put s knows =
    let e : Entity = created salt (a.serial + 1) caller.uss id put in
    let test : ℕ × Sub → Bool = is_for_near (kind_of put.nature) (touched [] put.volumes) in
    kept_telling salt _ (with_entity a e) test (proper_with_told a e test s.proper) (
    kept_with salt last a (record { caller = Some caller; op = Create id put }) e s refl refl
    (λ y found other needs meet owed. knows_owed a (Some caller) (Create id put) id put y knows refl needs found other meet owed))

kept_update : (salt : List ℕ) (last : EntityKey → Option MadeCall) (a : Airspace) (caller : Caller) (id : ℕ) (ovn : List ℕ) (put : Put) (o : Option Entity) → Kept salt last a → Knows a (Some caller) (Update id ovn put)
    → Kept salt (last_with last a (record { caller = Some caller; op = Update id ovn put }) (update_effect salt a caller.uss id put o).1) (update_effect salt a caller.uss id put o).0
kept_update salt last a caller id ovn put None s knows = s
kept_update salt last a caller id ovn put (Some e) s knows =
    let new : Entity = updated salt (a.serial + 1) id put e in
    let test : ℕ × Sub → Bool = is_for_near (kind_of put.nature) (touched e.volumes put.volumes) in
    kept_telling salt _ (with_entity a new) test (proper_with_told a new test s.proper) (
    kept_with salt last a (record { caller = Some caller; op = Update id ovn put }) new s refl refl
    (λ y found other needs meet owed. knows_owed a (Some caller) (Update id ovn put) id put y knows refl needs found other meet owed))

kept_delete : (salt : List ℕ) (last : EntityKey → Option MadeCall) (a : Airspace) (caller : Caller) (kind : Kind) (id : ℕ) (ovn : List ℕ) (o : Option Entity) → Kept salt last a
    → Kept salt (last_with last a (record { caller = Some caller; op = Delete kind id ovn }) (delete_effect a caller.uss (kind, id) o).1) (delete_effect a caller.uss (kind, id) o).0
kept_delete salt last a caller kind id ovn None s = s
kept_delete salt last a caller kind id ovn (Some e) s =
    let test : ℕ × Sub → Bool = is_for_near kind (touched e.volumes []) in
    kept_telling salt last (without_entity a (kind, id)) test (proper_without_told a (kind, id) test s.proper) (kept_without salt last a (kind, id) s)

kept_read : (salt : List ℕ) (last : EntityKey → Option MadeCall) (a : Airspace) (caller : Caller) (kind : Kind) (id : ℕ) (o : Option Entity) → Kept salt last a
    → Kept salt (last_with last a (record { caller = Some caller; op = Read kind id }) (read_effect a caller.uss o).1) (read_effect a caller.uss o).0
kept_read salt last a caller kind id None s = s
kept_read salt last a caller kind id (Some e) s = s

kept_read_sub : (salt : List ℕ) (last : EntityKey → Option MadeCall) (a : Airspace) (caller : Caller) (id : ℕ) (o : Option Sub) → Kept salt last a
    → Kept salt (last_with last a (record { caller = Some caller; op = ReadSub id }) (read_sub_effect a o).1) (read_sub_effect a o).0
kept_read_sub salt last a caller id None s = s
kept_read_sub salt last a caller id (Some x) s = s

kept_update_sub : (salt : List ℕ) (last : EntityKey → Option MadeCall) (a : Airspace) (caller : Caller) (id : ℕ) (version : List ℕ) (put : SubPut) (o : Option Sub) → get a.subscriptions id ≡ o → Kept salt last a
    → Kept salt (last_with last a (record { caller = Some caller; op = UpdateSub id version put }) (update_sub_effect salt a caller.uss id put o).1) (update_sub_effect salt a caller.uss id put o).0
kept_update_sub salt last a caller id version put None there s = s
kept_update_sub salt last a caller id version put (Some x) there s = kept_sub salt last a (sub_stored_as salt (a.serial + 1) x.manager x.index id put) (told_within a id x s.proper there) s

kept_delete_sub : (salt : List ℕ) (last : EntityKey → Option MadeCall) (a : Airspace) (caller : Caller) (id : ℕ) (version : List ℕ) (o : Option Sub) → Kept salt last a
    → Kept salt (last_with last a (record { caller = Some caller; op = DeleteSub id version }) (delete_sub_effect a id o).1) (delete_sub_effect a id o).0
kept_delete_sub salt last a caller id version None s = s
kept_delete_sub salt last a caller id version (Some x) s = kept_without_sub salt last a id s

-- The invariant holds after the effect of a call.
kept_effect : (salt : List ℕ) (last : EntityKey → Option MadeCall) (a : Airspace) (caller : Option Caller) (op : Operation) → Kept salt last a → Knows a caller op
    → Kept salt (last_with last a (record { caller = caller; op = op }) (effect salt a caller op).1) (effect salt a caller op).0
kept_effect salt last a None op s knows = s
kept_effect salt last a (Some caller) NoRoute s knows = s
kept_effect salt last a (Some caller) NoMethod s knows = s
kept_effect salt last a (Some caller) (Malformed kind) s knows = s
kept_effect salt last a (Some caller) (Query kind area) s knows = s
kept_effect salt last a (Some caller) (Read kind id) s knows = kept_read salt last a caller kind id (get a.entities (kind, id)) s
kept_effect salt last a (Some caller) (Create id put) s knows = kept_create salt last a caller id put s knows
kept_effect salt last a (Some caller) (Update id ovn put) s knows = kept_update salt last a caller id ovn put (get a.entities (kind_of put.nature, id)) s knows
kept_effect salt last a (Some caller) (Delete kind id ovn) s knows = kept_delete salt last a caller kind id ovn (get a.entities (kind, id)) s
kept_effect salt last a (Some caller) (ReadAvail uss) s knows = s
kept_effect salt last a (Some caller) (SetAvail uss old availability) s knows = kept_stated salt last a uss (availability, ovn_text salt (a.serial + 1)) s
kept_effect salt last a (Some caller) (QuerySub area) s knows = s
kept_effect salt last a (Some caller) (ReadSub id) s knows = kept_read_sub salt last a caller id (get a.subscriptions id) s
kept_effect salt last a (Some caller) (CreateSub id put) s knows = kept_sub salt last a (sub_stored_as salt (a.serial + 1) caller.uss 0 id put) (omega arith) s
kept_effect salt last a (Some caller) (UpdateSub id version put) s knows = kept_update_sub salt last a caller id version put (get a.subscriptions id) refl s
kept_effect salt last a (Some caller) (DeleteSub id version) s knows = kept_delete_sub salt last a caller id version (get a.subscriptions id) s

pub kept_step : (salt : List ℕ) (last : EntityKey → Option MadeCall) (a : Airspace) (t : ℕ) (c : Call) → Kept salt last a → Kept salt (last_with last a c (step salt a t c).1) (step salt a t c).0
unfolding step
kept_step salt last a t c s =
    elim (first_broken a t c) as (λ r. first_broken a t c ≡ r → Kept salt (last_with last a c (step_by salt a c r).1) (step_by salt a c r).0) [
      | None ↦ λ h. kept_effect salt last a c.caller c.op s (λ id put y is. puts_know a t c.caller c.op id put y is h)
      | Some p ↦ λ h. s
    ] refl

-- ---- lists of calls

pub later_later : {X : Type 0} (x y z : Option X) → later_or x (later_or y z) ≡ later_or (later_or x y) z
later_later (Some x) y z = refl
later_later None y z = refl

pub later_none : {X : Type 0} (x : Option X) → later_or x None ≡ x
later_none (Some x) = refl
later_none None = refl

read_left : (a : Airspace) (uss : List ℕ) (o : Option Entity) → cond (is_done (read_effect a uss o).1) (read_effect a uss o).0 a ≡ (read_effect a uss o).0
read_left a uss None = refl
read_left a uss (Some e) = refl

update_left : (salt : List ℕ) (a : Airspace) (uss : List ℕ) (id : ℕ) (put : Put) (o : Option Entity) → cond (is_done (update_effect salt a uss id put o).1) (update_effect salt a uss id put o).0 a ≡ (update_effect salt a uss id put o).0
update_left salt a uss id put None = refl
update_left salt a uss id put (Some e) = refl

delete_left : (a : Airspace) (uss : List ℕ) (k : EntityKey) (o : Option Entity) → cond (is_done (delete_effect a uss k o).1) (delete_effect a uss k o).0 a ≡ (delete_effect a uss k o).0
delete_left a uss k None = refl
delete_left a uss k (Some e) = refl

read_sub_left : (a : Airspace) (o : Option Sub) → cond (is_done (read_sub_effect a o).1) (read_sub_effect a o).0 a ≡ (read_sub_effect a o).0
read_sub_left a None = refl
read_sub_left a (Some x) = refl

update_sub_left : (salt : List ℕ) (a : Airspace) (uss : List ℕ) (id : ℕ) (put : SubPut) (o : Option Sub) → cond (is_done (update_sub_effect salt a uss id put o).1) (update_sub_effect salt a uss id put o).0 a ≡ (update_sub_effect salt a uss id put o).0
update_sub_left salt a uss id put None = refl
update_sub_left salt a uss id put (Some x) = refl

delete_sub_left : (a : Airspace) (id : ℕ) (o : Option Sub) → cond (is_done (delete_sub_effect a id o).1) (delete_sub_effect a id o).0 a ≡ (delete_sub_effect a id o).0
delete_sub_left a id None = refl
delete_sub_left a id (Some x) = refl

effect_left : (salt : List ℕ) (a : Airspace) (caller : Option Caller) (op : Operation) → cond (is_done (effect salt a caller op).1) (effect salt a caller op).0 a ≡ (effect salt a caller op).0
effect_left salt a None op = refl
effect_left salt a (Some caller) NoRoute = refl
effect_left salt a (Some caller) NoMethod = refl
effect_left salt a (Some caller) (Malformed kind) = refl
effect_left salt a (Some caller) (Query kind area) = refl
effect_left salt a (Some caller) (Read kind id) = read_left a caller.uss (get a.entities (kind, id))
effect_left salt a (Some caller) (Create id put) = refl
effect_left salt a (Some caller) (Update id ovn put) = update_left salt a caller.uss id put (get a.entities (kind_of put.nature, id))
effect_left salt a (Some caller) (Delete kind id ovn) = delete_left a caller.uss (kind, id) (get a.entities (kind, id))
effect_left salt a (Some caller) (ReadAvail uss) = refl
effect_left salt a (Some caller) (SetAvail uss old availability) = refl
effect_left salt a (Some caller) (QuerySub area) = refl
effect_left salt a (Some caller) (ReadSub id) = read_sub_left a (get a.subscriptions id)
effect_left salt a (Some caller) (CreateSub id put) = refl
effect_left salt a (Some caller) (UpdateSub id version put) = update_sub_left salt a caller.uss id put (get a.subscriptions id)
effect_left salt a (Some caller) (DeleteSub id version) = delete_sub_left a id (get a.subscriptions id)

-- A call with the policy's reply leaves the airspace that the policy leaves.
pub step_left : (salt : List ℕ) (a : Airspace) (c : TimedCall) → left_by salt a c (step salt a c.0 c.1).1 ≡ (step salt a c.0 c.1).0
unfolding step
step_left salt a c =
    elim (first_broken a c.0 c.1) as (λ r. cond (is_done (step_by salt a c.1 r).1) (step_by salt a c.1 r).0 a ≡ (step_by salt a c.1 r).0) [
      | None ↦ effect_left salt a c.1.caller c.1.op
      | Some p ↦ refl
    ]

pub kept_run : (salt : List ℕ) (last : EntityKey → Option MadeCall) (cs : List TimedCall) (a : Airspace) → Kept salt last a → Kept salt (λ k. later_or (last_writer salt k a cs (replies_of salt a cs)) (last k)) (airspace_after salt a cs)
kept_run salt last [] a s = s
kept_run salt last (c ∷ cs) a s =
    let x = step salt a c.0 c.1 in
    let rs = replies_of salt x.0 cs in
    subst (λ (f : EntityKey → Option MadeCall). Kept salt f (airspace_after salt x.0 cs)) (λ i k. (later_later (last_writer salt k x.0 cs rs) (put_in k a c.1 x.1) (last k)
    ∙ ap (λ (b : Airspace). later_or (later_or (last_writer salt k b cs rs) (put_in k a c.1 x.1)) (last k)) (sym (step_left salt a c))) i)
    (kept_run salt (last_with last a c.1 x.1) cs x.0 (kept_step salt last a c.0 c.1 s))

pub kept_empty : (salt : List ℕ) (n : ℕ) → Kept salt (λ k. None) (empty_at n)
kept_empty salt n =
    let no_entity : (k : EntityKey) (x : Entity) → get (empty {X = Entity} {R = key_cmp}) k ≡ Some x → ⊥ = λ k x h. let e : None ≡ Some x = sym (get-empty key_cmp k) ∙ h in cc in
    let no_entries : entries (empty {X = Entity} {R = key_cmp}) ≡ [] = nil_from_length (entries (empty {X = Entity} {R = key_cmp})) (sym (len-entries (empty {X = Entity} {R = key_cmp})) ∙ len-empty key_cmp Entity) in
    record {
      proper = proper_empty n;
      numbered = subst (AllByRecursion (λ x. IsNumbered salt n x.1)) (sym no_entries) tt;
      serials = λ k l x y hx hy same. absurd (no_entity k x hx);
      knew = λ k l x y hx hy older needs meet. absurd (no_entity k x hx);
    }

-- The last put among the answered calls is the last put of all calls.
pub last_told : (salt : List ℕ) (k : EntityKey) (a : Airspace) (cs : List TimedCall) (rs : List Reply) → has_stopped rs ≡ false → last_writer salt k a (answered_calls cs rs) (delivered_replies rs) ≡ last_writer salt k a cs rs
last_told salt k a [] rs h = refl
last_told salt k a (c ∷ cs) [] h = refl
last_told salt k a (c ∷ cs) (Fault ∷ rs) h = last_told salt k a cs rs h ∙ sym (later_none (last_writer salt k a cs rs))
last_told salt k a (c ∷ cs) (Stopped ∷ rs) h = cc
last_told salt k a (c ∷ cs) (Done x ∷ rs) h = ap (λ (o : Option MadeCall). later_or o (put_in k a c.1 (Done x))) (last_told salt k (step salt a c.0 c.1).0 cs rs h)
last_told salt k a (c ∷ cs) (Denied p m ∷ rs) h = ap (λ (o : Option MadeCall). later_or o (put_in k a c.1 (Denied p m))) (last_told salt k a cs rs h)

kept_told : (salt : List ℕ) (n : ℕ) (cs : List TimedCall) (rs : List Reply) → delivered_replies rs ≡ replies_of salt (empty_at n) (answered_calls cs rs) → has_stopped rs ≡ false
    → Kept salt (λ k. last_writer salt k (empty_at n) cs rs) (airspace_after salt (empty_at n) (answered_calls cs rs))
kept_told salt n cs rs told h =
    let answered = answered_calls cs rs in
    let last = λ (k : EntityKey) (qs : List Reply). last_writer salt k (empty_at n) answered qs in
    subst (λ (f : EntityKey → Option MadeCall). Kept salt f (airspace_after salt (empty_at n) answered)) (λ i k. (ap (λ (qs : List Reply). later_or (last k qs) None) (sym told) ∙ (later_none (last k (delivered_replies rs)) ∙ last_told salt k (empty_at n) cs rs h)) i)
    (kept_run salt (λ k. None) answered (empty_at n) (kept_empty salt n))

pub aware_after : (salt : List ℕ) (n : ℕ) (cs : List TimedCall) (rs : List Reply) → delivered_replies rs ≡ replies_of salt (empty_at n) (answered_calls cs rs) → has_stopped rs ≡ false
    → Aware salt (empty_at n) cs rs (airspace_after salt (empty_at n) (answered_calls cs rs))
aware_after salt n cs rs told h = let k = kept_told salt n cs rs told h in record { proper = k.proper; serials = k.serials; knew = k.knew }

-- Each step keeps entities numbered, also the step of a call with the reply `Stopped`.
pub stepped_numbered : (salt : List ℕ) (last : EntityKey → Option MadeCall) (a : Airspace) (cs : List TimedCall) (rs : List Reply) (b : Airspace) → Kept salt last a → MayHaveStepped salt a cs rs b → AllNumbered salt b
stepped_numbered salt last a [] rs b k is = subst (AllNumbered salt) (sym is) k.numbered
stepped_numbered salt last a (c ∷ cs) [] b k is = subst (AllNumbered salt) (sym is) k.numbered
stepped_numbered salt last a (c ∷ cs) (Fault ∷ rs) b k is = stepped_numbered salt last a cs rs b k is
stepped_numbered salt last a (c ∷ cs) (Stopped ∷ rs) b k is =
    elim is [
      | inl same ↦ subst (AllNumbered salt) (sym same) k.numbered
      | inr stepped ↦ subst (AllNumbered salt) (sym stepped) (kept_step salt last a c.0 c.1 k).numbered
    ]
stepped_numbered salt last a (c ∷ cs) (Done x ∷ rs) b k is = stepped_numbered salt (last_with last a c.1 (step salt a c.0 c.1).1) (step salt a c.0 c.1).0 cs rs b (kept_step salt last a c.0 c.1 k) is
stepped_numbered salt last a (c ∷ cs) (Denied p m ∷ rs) b k is = stepped_numbered salt (last_with last a c.1 (step salt a c.0 c.1).1) (step salt a c.0 c.1).0 cs rs b (kept_step salt last a c.0 c.1 k) is

-- ---- the airspace after a run

pub held_aware : {S : Type 0} (g : Ghosts S) (salt : List ℕ) (n : ℕ) (cs : List TimedCall) (rs : List Reply) (new : S) → Runs g salt (empty_at n) cs rs new → has_stopped rs ≡ false → (a : Airspace) → g.holds new a → Aware salt (empty_at n) cs rs a
held_aware g salt n cs rs new t h a held = subst (Aware salt (empty_at n) cs rs) (sym ((t.whole h).only a held)) (aware_after salt n cs rs t.replies h)

held_numbered : {S : Type 0} (g : Ghosts S) (salt : List ℕ) (n : ℕ) (cs : List TimedCall) (rs : List Reply) (new : S) → Runs g salt (empty_at n) cs rs new → (a : Airspace) → g.holds new a → AllNumbered salt a
held_numbered g salt n cs rs new t a held = stepped_numbered salt (λ k. None) (empty_at n) cs rs a (kept_empty salt n) (t.kept a held)

pub same_numbered : {S : Type 0} (g : Ghosts S) (salt : List ℕ) (n : ℕ) (old : S) → IsContent g.holds old (empty_at n) → (a : Airspace) → g.holds old a → AllNumbered salt a
same_numbered g salt n old content a held = subst (AllNumbered salt) (sym (content.only a held)) (kept_empty salt n).numbered

pub run_numbered : {S : Type 0} (g : Ghosts S) (old : Service S) (cs : List TimedCall) (rs : List Reply) (new : Service S) → Answered g old cs rs new → g.is_sound (space_of new)
    → (n : ℕ) → IsContent g.holds (space_of old) (empty_at n) → (a : Airspace) → g.holds (space_of new) a → AllNumbered (salt_of old) a
run_numbered {S} g old cs rs new all s n content a held =
    elim (is_shut old) as (λ b. is_shut old ≡ b → AllNumbered (salt_of old) a) [
      | true ↦ λ h. same_numbered g (salt_of old) n (space_of old) content a (subst (λ (x : Service S). g.holds (space_of x) a) (all.stays.shut h) held)
      | false ↦ λ h. held_numbered g (salt_of old) n cs rs (space_of new) (all.runs h s (empty_at n) content) a held
    ] refl
