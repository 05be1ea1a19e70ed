-- What holds purges, holds them after a restart.
use Rattle.std.proofs.Common.{◌<◌, ◌≤◌, ◌+◌, ◌⊎◌, ℕ, Option, Some, None, inl, inr, ap, subst}
use Rattle.server_base.specs.declared.trusted_time.LastTime.{LastTime}
use Rattle.server_base.specs.declared.trusted_time.LastTime.TheVariants as known
use Rattle.server_base.specs.declared.trusted_time.TrustedTime.{TrustedTime}
use Rattle.server_watch.specs.Laws.{HoldsSurviveRestarts}
use Rattle.server_watch.specs.Reference.{IsDoubtful, time_of}
use Rattle.server_watch.specs.declared.clock_watch.ClockState.TheVariants as state
use Rattle.server_watch.specs.declared.reference.Reference.{Reference}

-- The reference of a start over a stored time.
abbrev start_over : (keep : Option ℕ) → TrustedTime → Reference
start_over keep time = record { keep = keep; last = known.Trusted time }

-- What the last known time contradicts, the stored one does.
doubted_over : (keep : Option ℕ) (last : LastTime) (moment : ℕ) → IsDoubtful (record { keep = keep; last = last }) moment → IsDoubtful (start_over keep (time_of last)) moment
doubted_over keep (known.Changed changed) moment (inl ahead) = inl ahead
doubted_over keep (known.Changed changed) moment (inr (inl late)) = inr (inl late)
doubted_over keep (known.Changed changed) moment (inr (inr behind)) = absurd behind
doubted_over keep (known.Trusted time) moment doubted = doubted

jumped_over : (keep : Option ℕ) (last to moment : ℕ) → ((last < to) × (to ≤ moment)) ⊎ (moment + 5 < last) → IsDoubtful (start_over keep (record { moment = last; jumped_to = Some to })) moment
jumped_over keep last to moment (inl ahead) = inl ahead
jumped_over keep last to moment (inr behind) = inr (inr behind)

abbrev or : TrustedTime → Option TrustedTime → TrustedTime
or time None = time
or time (Some other) = other

pub holds_survive_restarts_lem : HoldsSurviveRestarts
holds_survive_restarts_lem keep (state.Unread start) stored moment now is still = absurd still
holds_survive_restarts_lem keep (state.Doubted start) stored moment now is still =
    subst (λ (time : TrustedTime). IsDoubtful (start_over keep time) moment) (ap (or stored) is)
    (subst (λ (k : Option ℕ). IsDoubtful (start_over k (time_of start.last)) moment) still.0 (doubted_over start.keep start.last moment still.1))
holds_survive_restarts_lem keep (state.Right last at) stored moment now is still = absurd still
holds_survive_restarts_lem keep (state.Jumped last at to) stored moment now is still =
    subst (λ (time : TrustedTime). IsDoubtful (start_over keep time) moment) (ap (or stored) is) (jumped_over keep last to moment still)
holds_survive_restarts_lem keep state.Confirmed stored moment now is still = absurd still
