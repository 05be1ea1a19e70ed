use Rattle.std.proofs.Common.{to_z, of_z, w64, ◌≡◌, ◌∙◌, ◌^◌, ◌<◌, rules}
use Rattle.sqlite.specs.Held.{state}
use Rattle.entity_core.specs.EntityId.{printed}
use Rattle.space_rows.specs.Rows.{kind_number}
use Rattle.space_sql_write.specs.Statements.{FindsNumber, IsShown, ShowsEntities}
use Rattle.space_sql_write.proofs.Running.{runs_made}
use Rattle.space_sql_write.proofs.Numbers.{finds_number}
use Rattle.space_sql_write.proofs.number.number_of.Goals as goal

pub returns-clause-finds : goal.returns-clause-finds
returns-clause-finds g c =
    let old = state g.S.Store c.args.tx.now.conn.now in
    let new = state g.S.Store c.numbers.new.tx.conn.now in
    let rows = c.in_ok-rows.rows in
    let kind : to_z w64 (of_z w64 c.kind_number.result) ≡ kind_number c.args.kind = search rules in
    let text : c.as_str.result.now ≡ printed c.args.id = c.as_str.ensures.value ∙ c.in_ok-text.ensures.text in
    let low : c.args.id < 2 ^ 128 = search rules in
    let first = rw c.as_slice.ensures.value at c.first_number.ensures in
    runs_made (λ (found : _). ShowsEntities (kind_number c.args.kind) (printed c.args.id) found.items) (FindsNumber (c.args.kind, c.args.id)) old new (IsShown rows.items) rows c.first_number.result first
    (λ found is shown. finds_number (c.args.kind, c.args.id) rows.items found old.now new.now low is shown) (rw (kind, text) at c.in_ok-rows.ensures.shows)
