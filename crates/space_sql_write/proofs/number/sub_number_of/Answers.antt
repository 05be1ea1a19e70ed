use Rattle.std.proofs.Common.{◌≡◌, ◌∙◌, ◌^◌, ◌<◌, rules}
use Rattle.sqlite.specs.Held.{state}
use Rattle.entity_core.specs.EntityId.{printed}
use Rattle.space_sql_write.specs.Statements.{FindsSubNumber, IsShown, ShowsSubs}
use Rattle.space_sql_write.proofs.Running.{runs_made}
use Rattle.space_sql_write.proofs.Numbers.{finds_sub}
use Rattle.space_sql_write.proofs.number.sub_number_of.Goals as goal

pub returns-clause-finds : goal.returns-clause-finds
returns-clause-finds g c =
    let old = state g.S.Store c.args.tx.now.conn.now in
    let new = state g.S.Store c.sub_numbers.new.tx.conn.now in
    let rows = c.in_ok-rows.rows in
    let id = c.args.id in
    let text : c.as_str.result.now ≡ printed id = c.as_str.ensures.value ∙ c.in_ok-text.ensures.text in
    let low : id < 2 ^ 128 = search rules in
    let first = rw c.as_slice.ensures.value at c.first_number.ensures in
    runs_made (λ (found : _). ShowsSubs (printed id) found.items) (FindsSubNumber id) old new (IsShown rows.items) rows c.first_number.result first
    (λ found is shown. finds_sub id rows.items found old.now new.now low is shown) (rw text at c.in_ok-rows.ensures.shows)
