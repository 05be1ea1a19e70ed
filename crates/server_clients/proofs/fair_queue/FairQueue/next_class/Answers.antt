use Rattle.std.proofs.Common.{arith, ◌≡◌, ◌∙◌, ◌+◌, ◌≤◌, ℕ, IfSome, length, refl, subst, sym}
use Rattle.std.proofs.lemmas.Option.{slice_get_read}
use Rattle.std.specs.List.{slice_get}
use Rattle.std.specs.Prelude.{None, Option, Some}
use Rattle.server_clients.specs.FairQueue.{IsNext}
use Rattle.server_clients.specs.declared.fair_queue.FairQueue.{FairQueue}
use Rattle.server_clients.proofs.Queues.{IsFound, IsLeastOf, least_kept, least_taken, next_is}
use Rattle.server_clients.proofs.fair_queue.FairQueue.next_class.Goals as goal
use Rattle.server_clients.proofs.fair_queue.FairQueue.next_class.Goals.{then-may_be_next+then-class-least, else-may_be_next, else-may_be_next-via-then-may_be_next+else-class-least, else-may_be_next-via-else-may_be_next}

-- What is known of the classes before an index, for other names of the same values.
known_as : (queue : FairQueue) (count least least' : ℕ) (found found' : Option ℕ) → least' ≡ least → found' ≡ found → IsLeastOf queue count least → IfSome found (IsFound queue least) → IsLeastOf queue count least' × IfSome found' (IsFound queue least')
known_as queue count least least' found found' is same h known = (
  subst (λ (n : ℕ). IsLeastOf queue count n) (sym is) h,
  subst (λ (o : Option ℕ). IfSome o (IsFound queue least')) (sym same) (subst (λ (n : ℕ). IfSome found (IsFound queue n)) (sym is) known),
)

pub loop-index-preserved : goal.loop-index-preserved
loop-index-preserved c =
    let queue = c.args.self.now in
    let class = c.index-class.result.now in
    let at : slice_get queue.classes.items c.loop-index.index ≡ Some class = slice_get_read queue.classes.items c.len-index-end.result c.loop-index.index class (c.len-index-end.ensures ∙ queue.classes.ok.0) c.loop-index-test.true c.index-class.ensures in
    elim c.if-may_be_next.branch [
      | then-may_be_next+then-class-least w ↦
          known_as queue (c.loop-index.index + 1) class.virtual_time c.if-may_be_next.least (Some c.loop-index.index) c.if-may_be_next.found w.least-is w.found-is
          (least_taken queue c.loop-index.index c.loop-index.least class c.loop-index.invariant.0 at w.if-class-least.true)
          (class, at, sym c.may_be_next.ensures ∙ w.if-may_be_next.true, refl)
      | else-may_be_next w ↦
          known_as queue (c.loop-index.index + 1) c.loop-index.least c.if-may_be_next.least c.loop-index.found c.if-may_be_next.found w.least-is w.found-is
          (least_kept queue c.loop-index.index c.loop-index.least class c.loop-index.invariant.0 at (λ may. elim w.else-may_be_next.branch [
            | else-may_be_next-via-then-may_be_next+else-class-least v ↦ omega (arith, v.if-class-least.false)
            | else-may_be_next-via-else-may_be_next v ↦ absurd (let no = v.if-may_be_next.false in let is = c.may_be_next.ensures in let yes = may in cc)
          ]))
          c.loop-index.invariant.1
    ]

-- The class that was found last has the least virtual time.
found_next : (queue : FairQueue) (count least : ℕ) (found : Option ℕ) → length queue.classes.items ≤ count → IsLeastOf queue count least → IfSome found (IsFound queue least) → IfSome found (IsNext queue)
found_next queue count least None all h known = tt
found_next queue count least (Some index) all h known = next_is queue least index (λ other rival below there may. h other rival (omega (arith, below, all)) there may) known

pub returns : goal.returns
returns c =
    let all : length c.args.self.now.classes.items ≤ c.loop-index.index = let size : c.len-index-end.result ≡ length c.args.self.now.classes.items = c.len-index-end.ensures ∙ c.args.self.now.classes.ok.0 in let last = c.loop-index-test.false in omega (arith, size, last) in
    found_next c.args.self.now c.loop-index.index c.loop-index.least c.loop-index.found all c.loop-index.invariant.0 c.loop-index.invariant.1
