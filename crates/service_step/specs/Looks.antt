-- What lookups return and leave in a space, and what is prepared from them.
use Rattle.std.specs.List.{AllByRecursion}
use Rattle.grid_core.specs.Extent.{Extent, Region}
use Rattle.entity_core.specs.Entity.{kind_of}
use Rattle.entity_core.specs.Search.{subscribers_in}
use Rattle.entity_core.specs.Serial.{max_serial}
use Rattle.entity_core.specs.declared.nature.Kind.{Kind}
use Rattle.std.specs.Prelude.{◌≡◌, ℕ, ◌<◌, map, Bool, true, List, [], Option, Some, None, Result, IfOk, MatchResult, ◌⊎◌, IfSome, is_some}
use Rattle.space_core.specs.declared.space.Space.{Ghosts}
use Rattle.space_core.specs.declared.space.SpaceFault.TheVariants.{Unchanged, Broken}
use Rattle.space_core.specs.declared.space.Change.{Change}
use Rattle.space_core.specs.declared.space.Change.TheVariants as changes
use Rattle.entity_core.specs.declared.nature.Kind.TheVariants as kinds
use Rattle.entity_core.specs.Airspace.{Airspace, IsAirspace}
use Rattle.space_core.specs.Space.{max_count, changed, Fits}
use Rattle.policy_core.specs.declared.call.Operation.{Operation}
use Rattle.policy_core.specs.declared.call.Operation.TheVariants.{Read, Update, Delete, ReadSub, UpdateSub, DeleteSub}
use Rattle.entity_core.specs.declared.entity.Entity.{Entity}
use Rattle.entity_core.specs.declared.subscription.Sub.{Sub}
use Rattle.service_step.specs.declared.admitted.Admitted.{Admitted}
use Rattle.service_step.specs.declared.call_fault.CallFault.{CallFault}
use Rattle.service_step.specs.declared.call_fault.CallFault.TheVariants.{NoMemory, Space}
use Rattle.service_step.specs.declared.look_up.OwnedFacts as own
use Rattle.service_step.specs.declared.prepared.Prepared.{Prepared}
use Rattle.service_step.specs.declared.reply.Answer.{Answer}
use Rattle.service_step.specs.declared.reply.Answer.TheVariants.{SubStored}
use Rattle.service_step.specs.declared.reply.Reply.TheVariants.{Done}
use Rattle.policy_core.specs.Standing.{Facts, Regards}
use Rattle.policy_core.specs.View.{view_of}
use Rattle.policy_core.specs.declared.reference.Reference.{Reference}
use Rattle.service_notify.specs.Notices.{notices_in, touched}
use Rattle.service_notify.specs.declared.notice.Notify.{Notify}
use Rattle.service_step.specs.Admitted.{BreaksNone}
use Rattle.service_step.specs.Step.{effect, seen_of, seen_sub}

-- Holds if P holds or the space is broken.
abbrev pub UnlessBroke : CallFault → Type 0 → Type 0
UnlessBroke NoMemory P = P
UnlessBroke (Space Unchanged) P = P
UnlessBroke (Space Broken) P = Unit {0}

-- Holds if a call fault matches the two fault counts and the two broken flags of the space. They
-- are those before the lookup and those after it.
abbrev pub ReportedBy : CallFault → ℕ → ℕ → Bool → Bool → Type 0
ReportedBy NoMemory refusals refusals' broken broken' = broken' ≡ broken
ReportedBy (Space Unchanged) refusals refusals' broken broken' =
    ((refusals < refusals') ⊎ (refusals' ≡ max_count)) × (broken' ≡ broken)
ReportedBy (Space Broken) refusals refusals' broken broken' = broken' ≡ true

-- Holds if the call failed because the space broke, or P holds.
abbrev pub UnlessItBroke : {T : Type 0} → Result T CallFault → Type 0 → Type 0
UnlessItBroke result P = MatchResult result (λ _. P) (λ fault. UnlessBroke fault P)

-- Holds if the second space holds each airspace that the first one holds.
abbrev pub HoldsAllOf : {S : Type 0} → Ghosts S → S → S → Type 0
HoldsAllOf g first second = (a : Airspace) → g.holds first a → g.holds second a

-- Holds if the fault count and the broken flag of the space are as before after `Ok`, and match the
-- fault otherwise.
abbrev pub MatchesFault : {S T : Type 0} → Ghosts S → S → S → Result T CallFault → Type 0
MatchesFault g old new result = MatchResult result
    (λ _. (g.refusals new ≡ g.refusals old) × (g.is_broken new ≡ g.is_broken old))
    (λ h. ReportedBy h (g.refusals old) (g.refusals new) (g.is_broken old) (g.is_broken new))

-- Holds if a lookup leaves the content of the space, and its result has P in each airspace that the
-- space held. If the space is not sound afterwards, only `fixed` and `told` are claimed.
pub record LooksUp {S T : Type 0} (g : Ghosts S) (old new : S) (result : Result T CallFault)
    (P : Airspace → T → Type 0) : Type 0 where
  pub fixed : g.fixed new ≡ g.fixed old
  pub sound : g.is_sound new → g.is_sound old
  pub whole : g.is_sound new → g.is_whole old → g.is_whole new
  -- The space still holds what it held, unless it broke. It holds nothing else.
  pub stays : g.is_sound new → UnlessItBroke result (HoldsAllOf g old new)
  pub no_other : g.is_sound new → HoldsAllOf g new old
  pub found : g.is_sound new → IfOk result (λ x. (a : Airspace) → g.holds old a → P a x)
  pub told : MatchesFault g old new result

abbrev pub facts_in : own.OwnedFacts → Facts
facts_in g = record {
  found = g.found;
  stated = g.stated;
  serial = g.serial;
  sub = g.sub;
  depended = g.depended;
}

-- Holds if the facts are those of the airspace for the operation.
abbrev pub AreFacts : Operation → Airspace → own.OwnedFacts → Type 0
AreFacts op a g = Regards a op (facts_in g)

-- Holds if the entity or subscription to read, update or delete was found.
abbrev pub IsReady : Operation → Option Entity → Option Sub → Type 0
IsReady (Read kind id) found sub = is_some found ≡ true
IsReady (Update id ovn put) found sub = is_some found ≡ true
IsReady (Delete kind id ovn) found sub = is_some found ≡ true
IsReady (ReadSub id) found sub = is_some sub ≡ true
IsReady (UpdateSub id version put) found sub = is_some sub ≡ true
IsReady (DeleteSub id version) found sub = is_some sub ≡ true
IsReady op found sub = Unit {0}

abbrev pub changed_by : Option Change → List ℕ → Airspace → Airspace
changed_by None told a = a
changed_by (Some change) told a = changed change told a

-- Holds if the change and the answer are the effect of the call, and the change can be made.
pub record Makes (admitted : Admitted) (a : Airspace) (change : Option Change) (told : List ℕ)
    (answer : Answer) : Type 0 where
  pub effect : effect admitted.salt.now a admitted.call.now.caller admitted.call.now.op
      ≡ (changed_by change told a, Done answer)
  pub fits : IfSome change (λ change. Fits change told a)

-- Holds if the prepared change and answer are the effect of the call in each valid airspace in
-- which it breaks no rule and has these facts.
abbrev pub Prepares : Admitted → own.OwnedFacts → Airspace → Prepared → Type 0
Prepares admitted g a made =
    IsAirspace a → BreaksNone admitted a → AreFacts admitted.call.now.op a g
    → Makes admitted a made.change made.notify made.answer

-- Holds if nothing is changed, and the answer is the given one.
abbrev pub IsReading : Answer → Prepared → Type 0
IsReading answer made = (made.change ≡ None) × (made.answer ≡ answer)

-- Holds if the change and the answer are the given ones, and nobody is notified.
abbrev pub NotifiesNobody : Change → Answer → Prepared → Type 0
NotifiesNobody change answer made =
    (made.change ≡ Some change) × (made.notify ≡ []) × (made.answer ≡ answer)

-- Holds if the change puts the subscription and notifies nobody. The answer has the subscription as
-- the USS sees it, and the references of what it is for.
abbrev pub PutsSub : Sub → Airspace → List ℕ → Prepared → Type 0
PutsSub s a uss made = NotifiesNobody (changes.PutSub s)
    (SubStored (seen_sub a s) (seen_of kinds.Intent a uss s) (seen_of kinds.Constraint a uss s))
    made

-- Holds if the index of each subscription that a change notifies can rise.
abbrev pub CanNotifyAll : Airspace → Kind → List Region → Type 0
CanNotifyAll a kind areas =
    AllByRecursion (λ s. s.index < max_serial) (subscribers_in a.subscriptions kind areas)

-- Holds if the subscriptions to notify are those that are for the kind and meet one of the areas.
abbrev pub IsNotified : Airspace → Kind → List Region → Prepared → Type 0
IsNotified a kind areas made =
    made.notify ≡ map (λ s. s.id) (subscribers_in a.subscriptions kind areas)

-- Holds if the change and the answer are the given ones. The answer has the notices of the
-- subscriptions that are for the kind and meet one of the areas. Assumes that the index of each of
-- them can rise.
abbrev pub Announces : Kind → List Region → Change → (List Notify → Answer) → Airspace → Prepared
    → Type 0
Announces kind areas change answer a made = CanNotifyAll a kind areas
    → IsNotified a kind areas made × (made.change ≡ Some change)
    × (made.answer ≡ answer (notices_in a kind areas))

-- Holds if the change puts the entity in the place of one with the old volumes, and the answer has
-- its reference.
abbrev pub PutsEntity : (Reference → List Notify → Answer) → List ℕ → List Extent → Entity
    → Airspace → Prepared → Type 0
PutsEntity answer uss old e a made =
    Announces (kind_of e.nature) (touched old e.volumes) (changes.Put e)
    (answer (view_of a uss e)) a made
