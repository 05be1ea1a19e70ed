use Rattle.sqlite.specs.Held.{state}
use Rattle.space_core.specs.Space.{IsContent}
use Rattle.space_sql.specs.Holding.{holds_of}
use Rattle.space_sql.proofs.Openings as openings
use Rattle.space_sql.proofs.laws.one_airspace_as.Goals as goal

pub returns-clause-one : goal.returns-clause-one
returns-clause-one g c = openings.one_airspace_as

pub returns-clause-holds : goal.returns-clause-holds
returns-clause-holds g c = λ opened k holds sound format a spelt.
    openings.of_each_spelt (λ b. IsContent (holds_of g.S.Store) k b) format (state g.S.Store opened).now a (holds format sound spelt.schema) spelt
