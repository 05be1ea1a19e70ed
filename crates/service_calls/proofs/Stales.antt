-- Lemmas: a put whose key has only old OVNs is denied.
use Rattle.std.specs.Prelude.{◌≡◌, ℕ, ◌||◌, not, Bool, true, false, List, [], ◌∷◌, map, filter, Option, cond, refl, Contains}
use Rattle.std.proofs.Common.{sym, ap, ◌∙◌, subst, inl, inr}
use Rattle.std.specs.Cmp.Lexicographic.{same_text as one_text}
use Rattle.std.specs.List.{AllByRecursion}
use Rattle.std.specs.FinMap.{entries}
use Rattle.grid_core.specs.Extent.{region_of}
use Rattle.entity_core.specs.IdTexts.{same_text}
use Rattle.entity_core.specs.Airspace.{Airspace, EntityKey}
use Rattle.entity_core.specs.Ovn.{ovn_text}
use Rattle.entity_core.specs.Search.{meeting_in, is_sought}
use Rattle.entity_core.specs.declared.entity.Entity.{Entity}
use Rattle.entity_core.specs.declared.nature.Kind.{Kind}
use Rattle.policy_core.specs.declared.scope.Caller.{Caller}
use Rattle.policy_core.specs.declared.call.Call.{Call}
use Rattle.policy_core.specs.declared.call.Put.{Put}
use Rattle.policy_core.specs.declared.call.Operation.{Operation}
use Rattle.policy_core.specs.declared.call.Operation.TheVariants.{NoRoute, NoMethod, Malformed, Query, Read, Create, Update, Delete, ReadAvail, SetAvail, QuerySub, ReadSub, CreateSub, UpdateSub, DeleteSub}
use Rattle.policy_core.specs.declared.rule.Rule.{Rule}
use Rattle.entity_core.specs.Entity.{subscription_of}
use Rattle.policy_core.specs.Standing.{sub_under}
use Rattle.policy_core.specs.Known.{IsListed}
use Rattle.policy_core.specs.Missing.{in_key, put_needs, is_spared, key_shown, excepted, needed, needed_put, unspared}
use Rattle.policy_core.proofs.Members.{contained, no_member}
use Rattle.policy_core.proofs.Puts.{missing_denied}
use Rattle.space_core.specs.declared.space.Space.{Ghosts}
use Rattle.service_step.specs.declared.reply.Reply.{Reply}
use Rattle.service_step.specs.declared.reply.Reply.TheVariants.{Done, Denied, Fault, Stopped}
use Rattle.service_calls.specs.Service.{Leaves}
use Rattle.service_calls.specs.Stale.{IsNumbered, AllNumbered, DifferUpTo, IsOfAnother, IsRefusedFor, FailsOrIsRefused, IsStale}
use Rattle.service_step.specs.Step.{step, step_by, missing_views}

-- ---- members of lists

all_contained : {X : Type 0} (P : X → Type 0) (xs : List X) (y : X) → AllByRecursion P xs → Contains xs y → P y
all_contained P [] y all h = absurd (no_member y h)
all_contained P (x ∷ xs) y all h =
    elim (contained x xs y h) [
      | inl is ↦ subst P is all.0
      | inr rest ↦ all_contained P xs y all.1 rest
    ]

all_sought : (P : Entity → Type 0) (test : EntityKey × Entity → Bool) (es : List (EntityKey × Entity)) → AllByRecursion (λ e. P e.1) es → AllByRecursion P (map (λ e. e.1) (filter test es))
all_sought P test [] all = tt
all_sought P test (e ∷ es) all =
    elim (test e) as (λ b. AllByRecursion P (map (λ x. x.1) (cond b (e ∷ filter test es) (filter test es)))) [
      | true ↦ (all.0, all_sought P test es all.1)
      | false ↦ all_sought P test es all.1
    ]

all_unspared : (P : Entity → Type 0) (a : Airspace) (es : List Entity) → AllByRecursion P es → AllByRecursion P (unspared a es)
all_unspared P a [] all = tt
all_unspared P a (e ∷ es) all =
    elim (is_spared a e) as (λ b. AllByRecursion P (cond (not b) (e ∷ unspared a es) (unspared a es))) [
      | true ↦ all_unspared P a es all.1
      | false ↦ (all.0, all_unspared P a es all.1)
    ]

-- ---- needed entities are numbered, and missing from the key

all_asked : (P : Entity → Type 0) (asked : Bool) (xs : List Entity) → AllByRecursion P xs → AllByRecursion P (cond asked xs [])
all_asked P true xs all = all
all_asked P false xs all = tt

needed_numbered : (salt : List ℕ) (kind : Kind) (a : Airspace) (caller : Option Caller) (id : ℕ) (put : Put) → AllNumbered salt a → AllByRecursion (IsNumbered salt a.serial) (needed_put kind a caller id put)
unfolding meeting_in
needed_numbered salt kind a caller id put n =
    all_asked (IsNumbered salt a.serial) (put_needs kind caller put (sub_under a (subscription_of put.nature))) _ (all_unspared (IsNumbered salt a.serial) a _ (all_sought (IsNumbered salt a.serial) (is_sought kind (map region_of put.volumes) (excepted kind id)) (entries a.entities) n))

not_known : (salt : List ℕ) (a : Airspace) (y : Entity) (key : List (List ℕ)) → DifferUpTo salt a.serial → IsNumbered salt a.serial y → AllByRecursion (IsOfAnother salt a y) key → in_key key y.ovn ≡ false
not_known salt a y [] differ n old = refl
not_known salt a y (k ∷ ks) differ n old =
    let rest = not_known salt a y ks differ n old.1 in
    elim (same_text y.ovn k) as (λ b. same_text y.ovn k ≡ b → b || in_key ks y.ovn ≡ false) [
      | true ↦ λ t.
          let texts : ovn_text salt old.0.serial ≡ ovn_text salt y.serial = sym old.0.text ∙ (sym (one_text y.ovn k (sym t)) ∙ n.ovn) in
          absurd (old.0.other (differ old.0.serial y.serial old.0.positive old.0.within n.positive n.within texts))
      | false ↦ λ t. rest
    ] refl

call_numbered : (salt : List ℕ) (kind : Kind) (a : Airspace) (caller : Option Caller) (op : Operation) → AllNumbered salt a → AllByRecursion (IsNumbered salt a.serial) (needed kind a caller op)
call_numbered salt kind a caller NoRoute n = tt
call_numbered salt kind a caller NoMethod n = tt
call_numbered salt kind a caller (Malformed of) n = tt
call_numbered salt kind a caller (Query of area) n = tt
call_numbered salt kind a caller (Read of id) n = tt
call_numbered salt kind a caller (Create id put) n = needed_numbered salt kind a caller id put n
call_numbered salt kind a caller (Update id ovn put) n = needed_numbered salt kind a caller id put n
call_numbered salt kind a caller (Delete of id ovn) n = tt
call_numbered salt kind a caller (ReadAvail uss) n = tt
call_numbered salt kind a caller (SetAvail uss old availability) n = tt
call_numbered salt kind a caller (QuerySub area) n = tt
call_numbered salt kind a caller (ReadSub id) n = tt
call_numbered salt kind a caller (CreateSub id put) n = tt
call_numbered salt kind a caller (UpdateSub id version put) n = tt
call_numbered salt kind a caller (DeleteSub id version) n = tt

-- ---- the denial

pub stale_step : (salt : List ℕ) (a : Airspace) (t : ℕ) (c : Call) (kind : Kind) (y : Entity) → IsStale salt kind a c y → IsRefusedFor kind a c y (step salt a t c).1
unfolding step
stale_step salt a t c kind y s =
    let numbered : IsNumbered salt a.serial y = all_contained (IsNumbered salt a.serial) (needed kind a c.caller c.op) y (call_numbered salt kind a c.caller c.op s.numbered) s.needs in
    let asked = missing_denied a t c.caller c.op kind y s.needs (not_known salt a y (key_shown c.op) s.differ numbered s.old) in
    subst (λ (r : Option Rule). IsRefusedFor kind a c y (step_by salt a c r).1) (sym asked.first)
    (asked.number, λ is. subst (λ (p : Rule). IsListed kind a c.caller y (missing_views a c p)) (sym is) (asked.listed is))

-- ---- the reply of a service

pub stale_reply : {S : Type 0} (g : Ghosts S) (salt : List ℕ) (a : Airspace) (t : ℕ) (c : Call) (kind : Kind) (y : Entity) (reply : Reply) (new : S) → IsStale salt kind a c y → Leaves g salt a t c reply new → FailsOrIsRefused kind a c y reply
stale_reply g salt a t c kind y Fault new s l = tt
stale_reply g salt a t c kind y Stopped new s l = tt
stale_reply g salt a t c kind y (Done x) new s l = subst (IsRefusedFor kind a c y) l.0 (stale_step salt a t c kind y s)
stale_reply g salt a t c kind y (Denied p m) new s l = subst (IsRefusedFor kind a c y) (ap (λ (z : Airspace × Reply). z.1) l.0) (stale_step salt a t c kind y s)
