use Rattle.std.proofs.Common.{[], ap, ◌∙◌, Option}
use Rattle.std.specs.Prelude.{unwrap_or}
use Rattle.sqlite.specs.Held.{state}
use Rattle.entity_core.specs.Airspace.{VersionedAvailability}
use Rattle.entity_core.specs.declared.availability.Availability.{Availability}
use Rattle.entity_core.specs.declared.availability.Availability.TheVariants.{Unknown}
use Rattle.space_core.specs.declared.met.Met.{Met}
use Rattle.space_sql_lookup.specs.Availability.{FindsStated}
use Rattle.space_sql_select.proofs.Readings.{reads_as}
use Rattle.space_sql_search.specs.Met.{IsWithAvailability}
use Rattle.space_sql_search.proofs.managers.with_availability.Goals as goal

pub returns-clause-reads : goal.returns-clause-reads
returns-clause-reads g c =
    let e = c.args.entity in
    let met : Availability → Met = λ x. record { entity = e; availability = x } in
    reads_as (FindsStated e.manager) (IsWithAvailability e) (state g.S.Store c.args.tx.now.conn.now) (state g.S.Store c.read_availability_in_transaction.new.tx.conn.now) c.in_ok-stated.stated (met c.availability_in.result)
    (λ db h a s. ap met (c.availability_in.ensures ∙ ap (λ (o : Option VersionedAvailability). (unwrap_or o (Unknown, [])).0) (h a s))) c.in_ok-stated.ensures.reads
