use Rattle.std.proofs.Common.{Ok, Err, refl, subst, sym}
use Rattle.sqlite.specs.Held.{state}
use Rattle.space_sql_schema.specs.declared.format.Format.TheVariants as format
use Rattle.space_sql_schema.specs.Tables.{dss_schema, first_schema}
use Rattle.space_sql_open.specs.FirstMeta.{SaysMeta}
use Rattle.space_sql_open.specs.Upgrading.{Judges, Rewrites}
use Rattle.space_sql_open.specs.Opening.{Refuses, UpgradesFormat}
use Rattle.space_sql_open.specs.declared.old_format.OldFormat.TheVariants.{One}
use Rattle.space_sql_open.proofs.Insides.{inside_as, inside_then}
use Rattle.space_sql_open.proofs.Moves.{HasMovedOk, has_moved, moved_schema, moves, same_schema}
use Rattle.space_sql_open.proofs.upgrading.upgrade_first.Goals as goal

pub returns-in-Ok-rewrite-clause-moves : goal.returns-in-Ok-rewrite-clause-moves
returns-in-Ok-rewrite-clause-moves g c =
    let a = state g.S.Store c.args.tx.now.conn.now in
    let b = state g.S.Store c.first_meta.new.tx.conn.now in
    let d = state g.S.Store c.rewrite.new.tx.conn.now in
    let e = state g.S.Store c.check_upgraded.new.tx.conn.now in
    let made = inside_then first_schema first_schema (SaysMeta 1 format.One) Rewrites HasMovedOk a b d (Ok tt) (Ok tt) (Ok tt) (λ has said. same_schema a.now b.now said has) (λ has said rewrote. has_moved a.now b.now d.now tt tt has said rewrote) (c.in-Ok.ensures.says format.One refl) c.in-Ok-rewrite.ensures.rewrites in
    inside_then first_schema dss_schema HasMovedOk Judges (UpgradesFormat One) a d e (Ok tt) c.check_upgraded.result c.check_upgraded.result (λ has made. moved_schema a.now d.now made) (λ has made judged. moves a.now d.now e.now c.check_upgraded.result made judged) made c.check_upgraded.ensures.judges

pub returns-in-Err-clause-moves : goal.returns-in-Err-clause-moves
returns-in-Err-clause-moves g c =
    inside_as first_schema (SaysMeta 1 format.One) (UpgradesFormat One) (state g.S.Store c.args.tx.now.conn.now) (state g.S.Store c.first_meta.new.tx.conn.now) (Err c.in-Err.fault) (Err c.in-Err.fault) (λ has said. said) (c.in-Err.ensures.says format.One refl)

pub returns-in-Err-rewrite-clause-moves : goal.returns-in-Err-rewrite-clause-moves
returns-in-Err-rewrite-clause-moves g c =
    let a = state g.S.Store c.args.tx.now.conn.now in
    let b = state g.S.Store c.first_meta.new.tx.conn.now in
    let d = state g.S.Store c.rewrite.new.tx.conn.now in
    inside_then first_schema first_schema (SaysMeta 1 format.One) Rewrites (UpgradesFormat One) a b d (Ok tt) (Err c.in-Err-rewrite.fault) (Err c.in-Err-rewrite.fault) (λ has said. same_schema a.now b.now said has) (λ has said rewrote. subst (λ f. Refuses format.One a.now f) (sym rewrote) tt) (c.in-Ok.ensures.says format.One refl) c.in-Err-rewrite.ensures.rewrites
