-- A USS's view of a subscription.
use Rattle.std.specs.Prelude.{ℕ, List}
use Rattle.entity_core.specs.declared.subscription.Sub.{Sub}
use Rattle.policy_core.specs.declared.sub_view.SubView.{SubView}

-- The view of a subscription that the intents with these ids reference.
abbrev pub sub_view_of : Sub → List ℕ → SubView
sub_view_of s dependents = record {
  id = s.id;
  version = s.version;
  index = s.index;
  interest = s.interest;
  time_start = s.volume.time.0;
  time_end = s.volume.time.1;
  url = s.url;
  dependents = dependents;
}
