use Rattle.std.proofs.Common.{arith}
use Rattle.test_sql_files.proofs.files.abandon.Goals as goal

pub returns-in-Ok : goal.returns-in-Ok
returns-in-Ok g c =
    let gone = c.into_store.ensures in
    record {
      now = c.is_store_alive.new.conn;
      went = c.is_store_alive.ensures.survives;
      numbered = gone.numbered;
      sound = gone.sound;
      quiet = gone.quiet;
      alive = λ clean. (c.in-Ok.ensures.same (omega (arith, gone.quiet.clean, clean))).0.was_open;
    }
