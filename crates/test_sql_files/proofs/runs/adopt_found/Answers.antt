use Rattle.sqlite.specs.Held.{state}
use Rattle.space_sql.specs.Laws.{all_kept}
use Rattle.space_sql.proofs.Founds.{finds}
use Rattle.test_sql_files.proofs.runs.adopt_found.Goals as goal

pub returns-in-Ok : goal.returns-in-Ok
returns-in-Ok g c = λ image opened.
    finds image (state g.S.Store c.args.conn) _ c.in-Ok.space (λ sound. opened (c.in-Ok.ensures.clean sound.clean)) c.in-Ok.ensures.taken c.in-Ok.ensures.made
    (λ sound a h. all_kept _ a (λ db may. g.met.S.Store.settled _ db (sound.live c.in-Ok.ensures.fresh.works) may) h) c.in-Ok.ensures.upgraded
