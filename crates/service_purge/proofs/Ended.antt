-- Lemma: an entity has ended exactly if the policy denies putting it.
use Rattle.std.specs.Prelude.{refl}
use Rattle.service_purge.specs.Ended.{EndedIsRefused}

pub ended_refused : EndedIsRefused
ended_refused = record {
  creation = λ now id put. refl;
  update = λ now id ovn put. refl;
  sub_creation = λ now id put. refl;
  sub_update = λ now id version put. refl;
}
