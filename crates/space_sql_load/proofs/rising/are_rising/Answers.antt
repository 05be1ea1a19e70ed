use Rattle.space_sql_load.proofs.Listings.{rising_rows, not_rising}
use Rattle.space_sql_load.proofs.rising.are_rising.Goals as goal

pub returns-in-Some : goal.returns-in-Some
returns-in-Some c = rising_rows c.args.rows.now c.in-Some.ids.items _ (rw c.in-Some.is at c.in_ok-ids.ensures) (rw c.as_slice.ensures.value at c.is_rising.ensures)

pub returns-in-None : goal.returns-in-None
returns-in-None c = ((λ t. absurd cc), (λ up. absurd (not_rising c.args.rows.now (rw c.in-None.is at c.in_ok-ids.ensures) up)))
