-- The health of a service.
use Rattle.std.specs.Prelude.{Bool, true, false}
use Rattle.admin_http.specs.declared.admin_route.Health.{Health}
use Rattle.admin_http.specs.declared.admin_route.Health.TheVariants as state
use Rattle.admin_http.specs.declared.service_metrics.ServiceMetrics.{ServiceMetrics}

abbrev pub health_of : ServiceMetrics → Health
health_of figures = figures.health

-- A service that answers calls is degraded while purges are held.
abbrev pub when_held : Bool → Health → Health
when_held true state.Serving = state.Degraded
when_held true state.Degraded = state.Degraded
when_held true state.Failing = state.Failing
when_held true state.Silent = state.Silent
when_held true state.Stopped = state.Stopped
when_held true state.Stopping = state.Stopping
when_held false health = health

-- The health as operators see it.
abbrev pub shown_health : ServiceMetrics → Health
shown_health figures = when_held figures.clock.is_held (health_of figures)

-- The health after a failed commit.
abbrev pub when_failing : Health → Health
when_failing state.Serving = state.Failing
when_failing state.Degraded = state.Degraded
when_failing state.Failing = state.Failing
when_failing state.Silent = state.Silent
when_failing state.Stopped = state.Stopped
when_failing state.Stopping = state.Stopping

-- The health after a successful commit.
abbrev pub when_kept : Health → Health
when_kept state.Serving = state.Serving
when_kept state.Degraded = state.Degraded
when_kept state.Failing = state.Serving
when_kept state.Silent = state.Silent
when_kept state.Stopped = state.Stopped
when_kept state.Stopping = state.Stopping

-- The health after the store failed for good.
abbrev pub when_broken : Health → Health
when_broken state.Serving = state.Stopped
when_broken state.Degraded = state.Stopped
when_broken state.Failing = state.Stopped
when_broken state.Silent = state.Stopped
when_broken state.Stopped = state.Stopped
when_broken state.Stopping = state.Stopping

-- The health while the log of the pool does not answer, and after it has answered again.
abbrev pub when_silent : Bool → Health → Health
when_silent true state.Serving = state.Silent
when_silent true state.Degraded = state.Degraded
when_silent true state.Failing = state.Failing
when_silent true state.Silent = state.Silent
when_silent true state.Stopped = state.Stopped
when_silent true state.Stopping = state.Stopping
when_silent false state.Serving = state.Serving
when_silent false state.Degraded = state.Degraded
when_silent false state.Failing = state.Failing
when_silent false state.Silent = state.Serving
when_silent false state.Stopped = state.Stopped
when_silent false state.Stopping = state.Stopping
