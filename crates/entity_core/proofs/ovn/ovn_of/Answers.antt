use Rattle.std.proofs.Common.{ap, ◌∙◌}
use Rattle.std.proofs.lemmas.Result.{IfOk-weaker}
use Rattle.entity_core.specs.Ovn.{ovn_text}
use Rattle.sha2.specs.Sha256.{sha256}
use Rattle.hex.specs.Hex.{encode_lower}
use Rattle.entity_core.proofs.ovn.ovn_of.Goals as goal

pub returns : goal.returns
unfolding ovn_text
returns c =
    IfOk-weaker c.of_digest.result _ _
    (λ ovn h. h ∙ ap encode_lower (c.as_slice.ensures ∙ (c.digest-digest.ensures ∙ ap sha256 (c.as_str.ensures.value ∙ c.in_ok-text.ensures))))
    c.of_digest.ensures
