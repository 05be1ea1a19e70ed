use Rattle.std.proofs.Common.{sym, subst}
use Rattle.sqlite.specs.Steps.{over_memory}
use Rattle.sqlite_trees.specs.declared.memory.MemStore.{MemStore}
use Rattle.entity_core.specs.Airspace.{empty_at}
use Rattle.space_core.specs.Space.{IsContent}
use Rattle.space_sql.specs.Holding.{SqlSpaceModel, holds_of, is_sound_of}
use Rattle.service_recovery.specs.Crash.{LeavesDue}
use Rattle.service_recovery.proofs.Crashes.{due_in_memory}
use Rattle.service_recovery.proofs.first.first_call.Goals as goal

pub returns : goal.returns
returns c =
    let same = c.into_space-space.ensures in
    let content = subst (λ (k : SqlSpaceModel MemStore). IsContent (holds_of over_memory) k (empty_at 0)) (sym c.new-service.ensures.space) c.in_ok-create.ensures.content in
    let sound = subst (λ (k : SqlSpaceModel MemStore). is_sound_of over_memory k) same c.memory_is_sound.ensures in
    subst (λ (k : SqlSpaceModel MemStore). LeavesDue over_memory c.args.salt (empty_at 0) c.args.now c.args.call.now c.call-reply.result k) (sym same)
    (due_in_memory c.args.salt (empty_at 0) c.new-service.result c.call-reply.new.self c.args.now c.args.call.now c.call-reply.result c.call-reply.ensures.reply c.new-service.ensures.goes c.new-service.ensures.salt content sound)
