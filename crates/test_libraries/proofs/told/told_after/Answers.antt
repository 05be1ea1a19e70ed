use Rattle.std.proofs.Common.{◌≡◌, ◌∙◌, ◌||◌, ℕ, Bool, true, false, List, sym, subst, refl}
use Rattle.entity_core.specs.Airspace.{Airspace, empty_at}
use Rattle.space_memory.specs.Memory.{content_of}
use Rattle.space_core.specs.Space.{IsContent}
use Rattle.space_memory.specs.declared.memory.MemorySpace.{MemorySpace}
use Rattle.service_calls.specs.Run.{has_stopped}
use Rattle.service_calls.specs.Stale.{IsStale}
use Rattle.test_libraries.specs.Told.{ToldAfter, airspace_told}
use Rattle.test_libraries.proofs.told.told_after.Goals as goal

not_stopped : (b c : Bool) → false ≡ (b || c) → b ≡ false
not_stopped true c h = sym h
not_stopped false c h = refl

pub returns : goal.returns
returns c =
    let ran = c.in_ok-replies.ensures in
    let cs = c.args.calls.now in
    let rs = c.in_ok-replies.replies.items in
    let goes = c.new-service.ensures.goes in
    let own : List ℕ = c.new-service.result.salt in
    let at : Airspace = airspace_told own cs rs in
    let empty : IsContent (λ (s : MemorySpace) (a : Airspace). a ≡ content_of s) c.new-service.result.space (empty_at 0) = rw c.new-service.ensures.space c.new.ensures.content in
    let none : has_stopped rs ≡ false = not_stopped (has_stopped rs) false (ran.answered.breaks goes) in
    let content = (ran.answered.runs goes tt (empty_at 0) empty).whole none in
    subst (λ (salt : List ℕ). ToldAfter salt cs c.args.call.now rs c.call-reply.result) c.new-service.ensures.salt (record {
      aware = ran.aware goes tt none 0 empty at content.held;
      stale = λ kind y differ needs old. c.call-reply.ensures.stale (ran.answered.shuts goes ∙ none) tt at content kind y (
          subst (λ (salt : List ℕ). IsStale salt kind at c.args.call.now y) (sym ran.answered.stays.salt) (record { numbered = ran.numbered tt 0 empty at content.held; differ = differ; needs = needs; old = old }));
    })
