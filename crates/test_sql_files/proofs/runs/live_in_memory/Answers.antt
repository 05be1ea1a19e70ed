use Rattle.std.specs.Prelude.{refl}
use Rattle.space_sql.proofs.Founds.{new_is_unmade}
use Rattle.test_sql_files.proofs.Lives.{lives_thrice}
use Rattle.test_sql_files.proofs.runs.live_in_memory.Goals as goal

pub returns : goal.returns
returns c =
    lives_thrice c.args.salt.now c.args.first.now c.args.second.now c.args.third.now c.in_ok-told.told _ _ c.in_ok-told.ensures refl refl refl
    (new_is_unmade _ c.new-db.ensures.empty)
