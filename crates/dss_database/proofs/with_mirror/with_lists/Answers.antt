use Rattle.space_sql_load.specs.Checking.{loaded_airspace}
use Rattle.dss_database.proofs.with_mirror.with_lists.Goals as goal

pub new-requires : goal.new-requires
new-requires g c = record {
  live = c.requires.works;
  base = λ sound. (loaded_airspace c.args.loaded, c.requires.content sound, tt, c.in-Ok.ensures.content);
}
