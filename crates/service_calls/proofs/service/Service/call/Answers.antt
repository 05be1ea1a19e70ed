use Rattle.std.proofs.Common.{◌≡◌, ◌∙◌, sym, ap, find, Option, refl, true, false, IfSome, subst}
use Rattle.std.specs.Prelude.{IsNone}
use Rattle.policy_core.specs.Policy.{breaks, early_rules}
use Rattle.entity_core.specs.Airspace.{empty_at}
use Rattle.policy_core.specs.Missing.{nothing_missing}
use Rattle.service_step.specs.declared.reply.Reply.TheVariants.{Denied}
use Rattle.policy_core.specs.declared.rule.Rule.{Rule}
use Rattle.service_calls.proofs.Outcome.{early_answers}
use Rattle.service_calls.proofs.Evaluated.{first_early, told_early, some_of_none}
use Rattle.service_calls.proofs.Runs.{stays_same}
use Rattle.service_calls.proofs.Stales.{stale_reply}
use Rattle.service_step.proofs.Steps.{has_caller}
use Rattle.service_calls.proofs.service.Service.call.Goals as goal

pub returns-then-self-clause-reply : goal.returns-then-self-clause-reply
returns-then-self-clause-reply g c = record {
  stays = stays_same g.S.Space c.args.self.now;
  shut = λ n. refl;
  shuts = λ n. cc (n, c.if-self.true);
  early = λ n. cc (n, c.if-self.true);
  broken = λ n. cc (n, c.if-self.true);
  answers = λ n. cc (n, c.if-self.true);
}

pub returns-in-Some-clause-reply : goal.returns-in-Some-clause-reply
returns-in-Some-clause-reply g c = record {
  stays = stays_same g.S.Space c.args.self.now;
  shut = λ n. cc (n, c.if-self.false);
  shuts = λ n. n;
  early = λ n a t.
      subst (λ (e : Option Rule). IfSome e (λ p. (Denied c.in-Some.broken c.empty.result ≡ Denied p nothing_missing) × (c.args.self.now ≡ c.args.self.now))) (c.in-Some.ensures a t)
      (ap (Denied c.in-Some.broken) c.empty.ensures, refl);
  broken = λ n b a t none. let bad : true ≡ false = subst (λ (e : Option Rule). IsNone e) (sym (c.in-Some.ensures a t)) none in cc;
  answers = λ n.
      early_answers g.S.Space c.args.self.now.salt c.args.now c.args.call.now c.args.self.now.space
      c.in-Some.broken c.empty.result (λ a. first_early a c.args.now c.args.call.now c.in-Some.broken (sym (c.in-Some.ensures a c.args.now)))
      (λ a. c.empty.ensures ∙ sym (told_early a c.args.now c.args.call.now c.in-Some.broken (sym (c.in-Some.ensures a c.args.now))));
}

pub returns-clause-reply : goal.returns-clause-reply
returns-clause-reply g c = record {
  stays = record {
    salt = refl;
    shut = λ n. cc (n, c.if-self.false);
    fixed = c.answer_admitted-reply.ensures.answers.fixed;
    sound = c.answer_admitted-reply.ensures.answers.sound;
    whole = c.answer_admitted-reply.ensures.answers.whole;
  };
  shut = λ n. cc (n, c.if-self.false);
  shuts = λ n. c.is_stopped-self.ensures;
  early = λ n a t. some_of_none (find (breaks a t c.args.call.now) early_rules) _ (sym c.in_default.is ∙ c.early.ensures a t);
  broken = λ n b a t none. c.answer_admitted-reply.ensures.broken b;
  answers = λ n. c.answer_admitted-reply.ensures.answers;
}

pub unreachable-requires : goal.unreachable-requires
unreachable-requires g c =
    has_caller (empty_at 0) c.args.now c.args.call.now.caller c.args.call.now.op c.in_default-caller.is (sym (c.early.ensures (empty_at 0) c.args.now) ∙ c.in_default.is)

pub answer_admitted-reply-requires : goal.answer_admitted-reply-requires
answer_admitted-reply-requires g c = record {
  caller = c.in-Some-caller.is;
  early = λ a. sym (c.early.ensures a c.args.now) ∙ c.in_default.is;
}

pub returns-in-Some-clause-stale : goal.returns-in-Some-clause-stale
returns-in-Some-clause-stale g c n s a content kind y is =
    stale_reply g.S.Space c.args.self.now.salt a c.args.now c.args.call.now kind y (Denied c.in-Some.broken c.empty.result) c.args.self.now.space is (((returns-in-Some-clause-reply g c).answers n).step s a content)

pub returns-clause-stale : goal.returns-clause-stale
returns-clause-stale g c n s a content kind y is =
    stale_reply g.S.Space c.args.self.now.salt a c.args.now c.args.call.now kind y c.answer_admitted-reply.result c.answer_admitted-reply.new.space is (c.answer_admitted-reply.ensures.answers.step s a content)
