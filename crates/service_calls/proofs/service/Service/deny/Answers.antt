use Rattle.std.proofs.Common.{◌≡◌, ◌∙◌, sym, ap, find, Option, refl, true, false, IfSome, subst}
use Rattle.std.specs.Prelude.{IsNone}
use Rattle.policy_core.specs.Policy.{breaks, early_rules}
use Rattle.entity_core.specs.Airspace.{empty_at}
use Rattle.policy_core.specs.Missing.{nothing_missing}
use Rattle.service_step.specs.declared.reply.Reply.TheVariants.{Denied}
use Rattle.policy_core.specs.declared.rule.Rule.{Rule}
use Rattle.service_calls.proofs.Outcome.{early_answers}
use Rattle.service_calls.proofs.Evaluated.{first_early, told_early, some_of_none}
use Rattle.service_calls.proofs.Runs.{stays_same}
use Rattle.service_step.proofs.Steps.{has_caller}
use Rattle.service_calls.proofs.service.Service.deny.Goals as goal

pub returns-in-Some-clause-reply : goal.returns-in-Some-clause-reply
returns-in-Some-clause-reply g c = record {
  stays = stays_same g.S.Space c.args.self.now;
  shut = λ n. cc (n, c.if-self.false);
  shuts = λ n. n;
  early = λ n a t.
      subst (λ (e : Option Rule). IfSome e (λ p. (Denied c.in-Some.broken c.empty.result ≡ Denied p nothing_missing) × (c.args.self.now ≡ c.args.self.now))) (c.in-Some.ensures a t)
      (ap (Denied c.in-Some.broken) c.empty.ensures, refl);
  broken = λ n b a t none. let bad : true ≡ false = subst (λ (e : Option Rule). IsNone e) (sym (c.in-Some.ensures a t)) none in cc;
  answers = λ n.
      early_answers g.S.Space c.args.self.now.salt c.args.now c.args.call.now c.args.self.now.space
      c.in-Some.broken c.empty.result (λ a. first_early a c.args.now c.args.call.now c.in-Some.broken (sym (c.in-Some.ensures a c.args.now)))
      (λ a. c.empty.ensures ∙ sym (told_early a c.args.now c.args.call.now c.in-Some.broken (sym (c.in-Some.ensures a c.args.now))));
}

pub returns-clause-reply : goal.returns-clause-reply
returns-clause-reply g c =
    let answers = c.in_ok-reply.ensures.answers in
    record {
      stays = record {
        salt = refl;
        shut = λ n. cc (n, c.if-self.false);
        fixed = answers.fixed;
        sound = answers.sound;
        whole = answers.whole;
      };
      shut = λ n. cc (n, c.if-self.false);
      shuts = λ n. c.is_stopped-self.ensures;
      early = λ n a t. some_of_none (find (breaks a t c.args.call.now) early_rules) _ (sym c.in_default.is ∙ c.early.ensures a t);
      broken = λ n b a t none. let e = c.in_ok-reply.ensures.broken b in cc;
      answers = λ n. answers;
    }

pub unreachable-requires : goal.unreachable-requires
unreachable-requires g c =
    has_caller (empty_at 0) c.args.now c.args.call.now.caller c.args.call.now.op c.in_default-caller.is (sym (c.early.ensures (empty_at 0) c.args.now) ∙ c.in_default.is)

pub deny_admitted-requires : goal.deny_admitted-requires
deny_admitted-requires g c = record {
  caller = c.in-Some-caller.is;
  early = λ a. sym (c.early.ensures a c.args.now) ∙ c.in_default.is;
}
