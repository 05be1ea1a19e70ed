use Rattle.sqlite.specs.Held.{state}
use Rattle.space_sql.specs.Laws.{all_kept}
use Rattle.space_sql.proofs.Founds.{finds_ok, refuses_err}
use Rattle.space_sql.proofs.open.adopt_tables.Goals as goal

pub returns-clause-finds : goal.returns-clause-finds
returns-clause-finds g c = λ image opened.
    finds_ok g.S.Store image (state g.S.Store c.args.conn) opened _ (λ k sound. sound.clean) (λ k a sound off h. all_kept _ a (λ db may. g.met.S.Store.settled _ db (sound.live off) may) h)
    c.adopt.result c.adopt.ensures.fresh c.adopt.ensures.clean c.adopt.ensures.taken c.adopt.ensures.made c.adopt.ensures.upgraded

pub returns-clause-refuses : goal.returns-clause-refuses
returns-clause-refuses g c = λ image opened.
    refuses_err g.S.Store image (state g.S.Store c.args.conn) opened c.at_rest.ensures c.adopt.result c.adopt.ensures.left c.adopt.ensures.refused c.adopt.ensures.new
