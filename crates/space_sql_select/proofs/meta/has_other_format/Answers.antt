use Rattle.sqlite.specs.Held.{state}
use Rattle.space_sql_select.proofs.Metas.{metas_select, other_told}
use Rattle.space_sql_select.proofs.meta.has_other_format.Goals as goal

pub select-requires-clause-select : goal.select-requires-clause-select
select-requires-clause-select g c = metas_select

pub returns-clause-told : goal.returns-clause-told
returns-clause-told g c = λ clean. other_told (state g.S.Store c.args.conn.now).now c.in_ok-rows.rows.items c.as_slice.result.now c.is_other.result c.as_slice.ensures.value c.is_other.ensures (c.in_ok-rows.ensures.reads.answer clean)
