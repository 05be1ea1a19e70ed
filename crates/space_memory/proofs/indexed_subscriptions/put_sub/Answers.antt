use Rattle.std.proofs.Common.{sym, ◌∙◌}
use Rattle.entity_maps.specs.Subscriptions.{subscription_map}
use Rattle.space_memory.proofs.SubscriptionIndexes.{but_one, nothing_there, put_but, undone}
use Rattle.space_memory.proofs.indexed_subscriptions.put_sub.Goals as goal

pub remove_sub-requires : goal.remove_sub-requires
remove_sub-requires c =
    let old = subscription_map c.args.subscriptions.now in
    c.enter_sub.ensures.kept (put_but old (subscription_map c.put.new.self) c.args.sub.id c.args.sub c.forget_sub-is_over.new.marks c.in_ok-put.ensures.ok (c.forget_sub-is_over.ensures.kept (but_one old c.args.sub.id c.args.marks.now c.requires)))

pub returns-in-Ok-clause-index : goal.returns-in-Ok-clause-index
returns-in-Ok-clause-index c =
    let old = subscription_map c.args.subscriptions.now in
    c.in-Ok.ensures.marked (put_but old (subscription_map c.put.new.self) c.args.sub.id c.args.sub c.forget_sub-is_over.new.marks c.in_ok-put.ensures.ok (c.forget_sub-is_over.ensures.kept (but_one old c.args.sub.id c.args.marks.now c.requires)))

pub returns-else-is_over-clause-err : goal.returns-else-is_over-clause-err
returns-else-is_over-clause-err c =
    undone c.args.subscriptions.now c.put.new.self c.remove_sub.new.subscriptions c.args.sub.id c.args.sub c.iter-before.ensures.order c.remove_sub.ensures.order
    (nothing_there (subscription_map c.args.subscriptions.now) c.args.sub.id (sym c.forget_sub-is_over.ensures.there ∙ c.if-is_over.false)) c.in_ok-put.ensures.ok c.remove_sub.ensures.removed
