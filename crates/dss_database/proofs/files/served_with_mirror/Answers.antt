use Rattle.std.specs.Prelude.{◌≡◌, false}
use Rattle.std.proofs.Common.{ap, sym, subst, ◌∙◌}
use Rattle.space_core.specs.Space.{Reads}
use Rattle.space_sql_load.specs.Checking.{loaded_airspace}
use Rattle.space_mirror.specs.Mirrored.{MirroredModel, IsSoundIn, is_pending_in}
use Rattle.space_sql.specs.Holding.{holds_of, is_sound_of, is_whole_of}
use Rattle.service_recovery.proofs.Crashes.{words_of}
use Rattle.dss_database.proofs.files.served_with_mirror.Goals as goal

pub returns-clause-served : goal.returns-clause-served
returns-clause-served g c =
    let first = sym c.new-bounded.ensures in
    record {
      first = c.new-bounded.result;
      last = c.serve_port-done.result.1;
      answer = c.with_mirror-grouped.ensures.read.0;
      reads = subst (λ k. Reads (holds_of g.A.Store) (is_sound_of g.A.Store) (is_whole_of g.A.Store) c.args.space k.space.store c.with_mirror-grouped.ensures.read.0 (λ a found. loaded_airspace found ≡ a)) first c.with_mirror-grouped.ensures.read.2;
      calm = subst (λ k. is_pending_in k.space ≡ false) first c.with_mirror-grouped.ensures.calm;
      served = c.serve_port-done.ensures.served;
      part = c.serve_port-done.ensures.part;
      sound = λ sound. subst (λ k. IsSoundIn (words_of g.A.Store) k) c.into_inner-inside.ensures
          (c.into_store.ensures.sound (subst (λ k. is_sound_of g.A.Store k) (sym (c.into_store.ensures.store ∙ ap (λ k. k.store) c.into_inner-inside.ensures)) sound));
      released = c.into_store.ensures.store ∙ ap (λ k. k.store) c.into_inner-inside.ensures;
    }
