-- What a USS cannot distinguish: the OVNs and versions of what other USSs manage.
use Rattle.std.specs.Prelude.{◌≡◌, ℕ, ◌||◌, Bool, true, false, List, [], ◌++◌, map, Option, Some, None, find, if◌then◌else◌}
use Rattle.std.specs.FinMap.{entries}
use Rattle.entity_core.specs.IdTexts.{same_text}
use Rattle.entity_core.specs.Airspace.{Airspace, EntityKey}
use Rattle.entity_core.specs.declared.entity.Entity.{Entity}
use Rattle.entity_core.specs.declared.subscription.Sub.{Sub}
use Rattle.policy_core.specs.declared.scope.Caller.{Caller}
use Rattle.policy_core.specs.declared.call.Call.{Call}
use Rattle.policy_core.specs.declared.call.Operation.{Operation}
use Rattle.policy_core.specs.declared.call.Operation.TheVariants.{Update, Delete, UpdateSub, DeleteSub}
use Rattle.policy_core.specs.Missing.{in_key, key_shown}
use Rattle.policy_core.specs.Policy.{breaks, early_rules, standing_rules}
use Rattle.policy_core.specs.View.{view_of}

-- ---- airspaces

-- The entity without its OVN, unless the USS manages it.
abbrev pub redacted : List ℕ → Entity → Entity
redacted m e = record e { ovn = if same_text e.manager m then e.ovn else [] }

abbrev pub redacted_entry : List ℕ → EntityKey × Entity → EntityKey × Entity
redacted_entry m e = (e.0, redacted m e.1)

-- The subscription without its version, unless the USS manages it.
abbrev pub redacted_sub : List ℕ → Sub → Sub
redacted_sub m s = record s { version = if same_text s.manager m then s.version else [] }

abbrev pub redacted_sub_entry : List ℕ → ℕ × Sub → ℕ × Sub
redacted_sub_entry m s = (s.0, redacted_sub m s.1)

-- Holds if two airspaces are alike to a USS: they differ only in the OVNs of entities and the
-- versions of subscriptions that it does not manage.
pub record IsLike (m : List ℕ) (a b : Airspace) : Type 0 where
  pub entities :
      map (redacted_entry m) (entries a.entities) ≡ map (redacted_entry m) (entries b.entities)
  pub subscriptions : map (redacted_sub_entry m) (entries a.subscriptions)
      ≡ map (redacted_sub_entry m) (entries b.subscriptions)
  pub availabilities : a.availabilities ≡ b.availabilities
  pub serial : a.serial ≡ b.serial

-- ---- calls

abbrev pub is_uss : List ℕ → Option Caller → Bool
is_uss m (Some caller) = same_text caller.uss m
is_uss m None = false

-- True if the USS makes the call.
abbrev pub is_by : List ℕ → Call → Bool
is_by m c = is_uss m c.caller

-- True if the path has this OVN.
abbrev pub is_path : Operation → List ℕ → Bool
is_path (Update id ovn put) present = same_text ovn present
is_path (Delete kind id ovn) present = same_text ovn present
is_path op present = false

-- True if the path has this version of a subscription.
abbrev pub is_sub_path : Operation → List ℕ → Bool
is_sub_path (UpdateSub id version put) present = same_text version present
is_sub_path (DeleteSub id version) present = same_text version present
is_sub_path op present = false

-- For each entity, by kind and id: true if the USS manages it or the key has its OVN.
abbrev pub known : List ℕ → Operation → Airspace → List Bool
known m op a =
    map (λ e. same_text e.1.manager m || in_key (key_shown op) e.1.ovn) (entries a.entities)

-- For each entity, by kind and id: true if the USS manages it or the path has its OVN.
abbrev pub named : List ℕ → Operation → Airspace → List Bool
named m op a = map (λ e. same_text e.1.manager m || is_path op e.1.ovn) (entries a.entities)

-- For each subscription, by id: true if the USS manages it or the path has its version.
abbrev pub named_sub : List ℕ → Operation → Airspace → List Bool
named_sub m op a =
    map (λ s. same_text s.1.manager m || is_sub_path op s.1.version) (entries a.subscriptions)

-- Holds if the call's key has the OVN of each entity that the USS does not manage either in both
-- airspaces or in neither.
abbrev pub KnowsTheSame : List ℕ → Call → Airspace → Airspace → Type 0
KnowsTheSame m c a b = known m c.op a ≡ known m c.op b

-- Holds if the same is also true for the OVN in the call's path, and for the versions of
-- subscriptions that the USS does not manage.
pub record ToldTheSame (m : List ℕ) (c : Call) (a b : Airspace) : Type 0 where
  pub known : known m c.op a ≡ known m c.op b
  pub named : named m c.op a ≡ named m c.op b
  pub named_sub : named_sub m c.op a ≡ named_sub m c.op b

-- ---- laws

-- States that a USS's view of an entity that it does not manage does not depend on the OVN.
abbrev pub ViewIsBlind : Type 0
ViewIsBlind = (a : Airspace) (uss : List ℕ) (e : Entity) (ovn : List ℕ)
    → same_text e.manager uss ≡ false → view_of a uss (record e { ovn = ovn }) ≡ view_of a uss e

-- States that, in airspaces that are alike to a USS, its call breaks the same rule of P1 to P13,
-- P16 and P17 first.
abbrev pub RulesAreBlind : Type 0
RulesAreBlind = (m : List ℕ) (a b : Airspace) (now : ℕ) (c : Call) → IsLike m a b → is_by m c ≡ true
    → find (breaks a now c) (early_rules ++ standing_rules)
    ≡ find (breaks b now c) (early_rules ++ standing_rules)
