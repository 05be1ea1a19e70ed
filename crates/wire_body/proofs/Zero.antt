-- Lemmas: the zero id, read and printed.
use Rattle.std.proofs.Common.{◌≡◌, refl, Some}
use Rattle.uuid.proofs.OnLiterals.{uuid_on_literals}
use Rattle.entity_core.specs.EntityId.{printed, spelled}
use Rattle.wire_body.specs.Laws.{IsZeroText}
use Rattle.wire_body.specs.Naming.{no_subscription, zero_id}

reads : spelled no_subscription ≡ Some zero_id
unfolding uuid_on_literals
reads = refl

prints : printed zero_id ≡ no_subscription
unfolding uuid_on_literals
prints = refl

pub zero_text_lem : IsZeroText
zero_text_lem = record { reads = reads; prints = prints }
