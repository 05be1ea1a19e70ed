use Rattle.sqlite.specs.Held.{state}
use Rattle.space_sql.specs.Laws.{all_kept}
use Rattle.space_sql.proofs.Founds.{finds_ok}
use Rattle.dss_database.proofs.copies.adopt_found.Goals as goal

pub returns : goal.returns
returns g c = λ image opened.
    finds_ok g.S.Store image (state g.S.Store c.args.conn) opened _ (λ k sound. sound.clean) (λ k a sound off h. all_kept _ a (λ db may. g.met.S.Store.settled _ db (sound.live off) may) h)
    c.adopt.result c.adopt.ensures.fresh c.adopt.ensures.clean c.adopt.ensures.taken c.adopt.ensures.made c.adopt.ensures.upgraded
