use Rattle.std.proofs.Common.{Ok, Err}
use Rattle.sqlite.specs.Held.{state}
use Rattle.space_sql_schema.specs.Tables.{schema_of}
use Rattle.space_sql_open.specs.FirstMeta.{ReadsMeta, SaysMeta}
use Rattle.space_sql_open.proofs.FirstMetas.{says}
use Rattle.space_sql_open.specs.declared.open_fault.OpenFault.TheVariants.{Store}
use Rattle.space_sql_open.proofs.Insides.{inside_as}
use Rattle.space_sql_open.proofs.first_meta.first_meta.Goals as goal

pub returns-in-Ok-clause-says : goal.returns-in-Ok-clause-says
returns-in-Ok-clause-says g c = λ format number.
    let old = state g.S.Store c.args.tx.now.conn.now in
    let new = state g.S.Store c.read_meta.new.tx.conn.now in
    inside_as (schema_of format) ReadsMeta (SaysMeta 1 format) old new (Ok c.in-Ok.rows) c.said.result (λ has read. says format number old.now new.now c.in-Ok.rows.items c.as_slice.result.now c.said.result c.as_slice.ensures.value read c.said.ensures) (c.in-Ok.ensures.reads format)

pub returns-in-Err-clause-says : goal.returns-in-Err-clause-says
returns-in-Err-clause-says g c = λ format number.
    inside_as (schema_of format) ReadsMeta (SaysMeta 1 format) (state g.S.Store c.args.tx.now.conn.now) (state g.S.Store c.read_meta.new.tx.conn.now) _ (Err Store) (λ has read. tt) (c.in-Err.ensures.reads format)
