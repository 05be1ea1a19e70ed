-- Scopes, their names, and the operations that they permit.
use Rattle.std.specs.Prelude.{ℕ, ◌||◌, nat_eq, Bool, false, List, [], ◌∷◌, codes}
use Rattle.std.specs.List.{list_any}
use Rattle.policy_core.specs.declared.scope.Scope.{Scope}
use Rattle.policy_core.specs.declared.scope.Scope.TheVariants.{StrategicCoordination, ConformanceMonitoring, ConstraintProcessing, ConstraintManagement, AvailabilityArbitration}
use Rattle.policy_core.specs.declared.call.OpKind.{OpKind}
use Rattle.policy_core.specs.declared.call.OpKind.TheVariants.{Query, Read, Create, Update, Delete, ReadAvail, SetAvail, QuerySub, ReadSub, CreateSub, UpdateSub, DeleteSub}
use Rattle.entity_core.specs.declared.nature.Kind.TheVariants.{Intent, Constraint}

-- The name of a scope in a token file.
abbrev pub scope_name : Scope → List ℕ
scope_name StrategicCoordination = codes "utm.strategic_coordination"
scope_name ConformanceMonitoring = codes "utm.conformance_monitoring_sa"
scope_name ConstraintProcessing = codes "utm.constraint_processing"
scope_name ConstraintManagement = codes "utm.constraint_management"
scope_name AvailabilityArbitration = codes "utm.availability_arbitration"

-- A set of scopes: for each scope, whether it is in the set.
pub record Scopes : Type 0 where
  pub strategic_coordination : Bool
  pub conformance_monitoring : Bool
  pub constraint_processing : Bool
  pub constraint_management : Bool
  pub availability_arbitration : Bool

-- True if the set has the scope.
abbrev pub has_scope : Scopes → Scope → Bool
has_scope s StrategicCoordination = s.strategic_coordination
has_scope s ConformanceMonitoring = s.conformance_monitoring
has_scope s ConstraintProcessing = s.constraint_processing
has_scope s ConstraintManagement = s.constraint_management
has_scope s AvailabilityArbitration = s.availability_arbitration

-- The set of the scopes that pass a test.
abbrev pub scopes_where : (Scope → Bool) → Scopes
scopes_where test = record {
  strategic_coordination = test StrategicCoordination;
  conformance_monitoring = test ConformanceMonitoring;
  constraint_processing = test ConstraintProcessing;
  constraint_management = test ConstraintManagement;
  availability_arbitration = test AvailabilityArbitration;
}

abbrev pub no_scopes : Scopes
no_scopes = scopes_where (λ scope. false)

abbrev pub scope_index : Scope → ℕ
scope_index StrategicCoordination = 0
scope_index ConformanceMonitoring = 1
scope_index ConstraintProcessing = 2
scope_index ConstraintManagement = 3
scope_index AvailabilityArbitration = 4

abbrev pub same_scope : Scope → Scope → Bool
same_scope a b = nat_eq (scope_index a) (scope_index b)

-- The set with one more scope.
abbrev pub with_scope : Scopes → Scope → Scopes
with_scope s added = scopes_where (λ scope. same_scope scope added || has_scope s scope)

-- The scopes that permit a kind of operation. One of them is enough.
abbrev pub permitting_scopes : OpKind → List Scope
permitting_scopes (Query Intent) = StrategicCoordination ∷ ConformanceMonitoring ∷ []
permitting_scopes (Read Intent) = StrategicCoordination ∷ ConformanceMonitoring ∷ []
permitting_scopes (Create Intent) = StrategicCoordination ∷ ConformanceMonitoring ∷ []
permitting_scopes (Update Intent) = StrategicCoordination ∷ ConformanceMonitoring ∷ []
permitting_scopes (Delete Intent) = StrategicCoordination ∷ ConformanceMonitoring ∷ []
permitting_scopes (Query Constraint) = ConstraintProcessing ∷ ConstraintManagement ∷ []
permitting_scopes (Read Constraint) = ConstraintProcessing ∷ ConstraintManagement ∷ []
permitting_scopes (Create Constraint) = ConstraintManagement ∷ []
permitting_scopes (Update Constraint) = ConstraintManagement ∷ []
permitting_scopes (Delete Constraint) = ConstraintManagement ∷ []
permitting_scopes ReadAvail = AvailabilityArbitration ∷ StrategicCoordination ∷ ConformanceMonitoring ∷ []
permitting_scopes SetAvail = AvailabilityArbitration ∷ []
permitting_scopes QuerySub = StrategicCoordination ∷ ConstraintProcessing ∷ []
permitting_scopes ReadSub = StrategicCoordination ∷ ConstraintProcessing ∷ []
permitting_scopes CreateSub = StrategicCoordination ∷ ConstraintProcessing ∷ []
permitting_scopes UpdateSub = StrategicCoordination ∷ ConstraintProcessing ∷ []
permitting_scopes DeleteSub = StrategicCoordination ∷ ConstraintProcessing ∷ []

-- True if one of the scopes permits the kind of operation.
abbrev pub is_permitted : OpKind → Scopes → Bool
is_permitted kind s = list_any (has_scope s) (permitting_scopes kind)
