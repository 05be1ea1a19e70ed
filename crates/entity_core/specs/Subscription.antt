-- The interest of a subscription.
use Rattle.std.specs.Prelude.{Bool, true, false}
use Rattle.entity_core.specs.declared.interest.Interest.{Interest}
use Rattle.entity_core.specs.declared.interest.Interest.TheVariants.{Intents, Constraints, Both}
use Rattle.entity_core.specs.declared.nature.Kind.{Kind}
use Rattle.entity_core.specs.declared.nature.Kind.TheVariants.{Intent, Constraint}

-- True if a subscription with this interest is notified of changes of a kind.
abbrev pub wants : Interest → Kind → Bool
wants Intents Intent = true
wants Intents Constraint = false
wants Constraints Intent = false
wants Constraints Constraint = true
wants Both kind = true
