-- The words for operations.
use Rattle.std.specs.Prelude.{ℕ, List, Option, Some, None, codes}
use Rattle.entity_core.specs.declared.nature.Kind.{Kind}
use Rattle.entity_core.specs.declared.nature.Kind.TheVariants as kinds
use Rattle.policy_core.specs.declared.call.OpKind.{OpKind}
use Rattle.policy_core.specs.declared.call.OpKind.TheVariants as operations

-- The word for the kind, of two words.
abbrev pub of_entities : Kind → List ℕ → List ℕ → List ℕ
of_entities kinds.Intent of_intents of_constraints = of_intents
of_entities kinds.Constraint of_intents of_constraints = of_constraints

-- The word for the requested operation.
abbrev pub operation_word : Option OpKind → List ℕ
operation_word None = codes "none"
operation_word (Some (operations.Query kind)) =
    of_entities kind (codes "query_intents") (codes "query_constraints")
operation_word (Some (operations.Read kind)) =
    of_entities kind (codes "read_intent") (codes "read_constraint")
operation_word (Some (operations.Create kind)) =
    of_entities kind (codes "create_intent") (codes "create_constraint")
operation_word (Some (operations.Update kind)) =
    of_entities kind (codes "update_intent") (codes "update_constraint")
operation_word (Some (operations.Delete kind)) =
    of_entities kind (codes "delete_intent") (codes "delete_constraint")
operation_word (Some operations.ReadAvail) = codes "read_availability"
operation_word (Some operations.SetAvail) = codes "set_availability"
operation_word (Some operations.QuerySub) = codes "query_subscriptions"
operation_word (Some operations.ReadSub) = codes "read_subscription"
operation_word (Some operations.CreateSub) = codes "create_subscription"
operation_word (Some operations.UpdateSub) = codes "update_subscription"
operation_word (Some operations.DeleteSub) = codes "delete_subscription"
