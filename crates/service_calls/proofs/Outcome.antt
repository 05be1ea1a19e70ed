-- Lemmas: the reply to a call and the space after it, from their parts.
use Rattle.std.specs.Prelude.{◌≡◌, ◌||◌, ℕ, Bool, Option, Some, None, Ok, Err, refl, is_some, List}
use Rattle.std.proofs.Common.{arith, sym, ap, ◌∙◌, subst, inl, inr}
use Rattle.std.proofs.lemmas.Bool.{false≢true, cases_lt}
use Rattle.entity_core.specs.Airspace.{Airspace, IsAirspace}
use Rattle.space_core.specs.declared.space.Space.{Ghosts}
use Rattle.space_core.specs.declared.space.SpaceFault.{SpaceFault}
use Rattle.space_core.specs.declared.space.SpaceFault.TheVariants.{Unchanged, Broken}
use Rattle.space_core.specs.declared.space.Change.{Change}
use Rattle.space_core.specs.Space.{max_count, IsContent, Changes, ReportsFault, changed}
use Rattle.policy_core.specs.declared.call.Call.{Call}
use Rattle.policy_core.specs.declared.rule.Rule.{Rule}
use Rattle.policy_core.specs.declared.reference.Missing.{Missing}
use Rattle.service_step.specs.declared.admitted.Admitted.{Admitted}
use Rattle.service_step.specs.declared.call_fault.CallFault.{CallFault}
use Rattle.service_step.specs.declared.call_fault.CallFault.TheVariants.{NoMemory, Space}
use Rattle.service_step.specs.declared.look_up.OwnedFacts.{OwnedFacts}
use Rattle.service_calls.specs.declared.decide.Decision.TheVariants.{Refused, Allowed}
use Rattle.service_step.specs.declared.prepared.Prepared.{Prepared}
use Rattle.service_step.specs.declared.reply.Answer.{Answer}
use Rattle.service_step.specs.declared.reply.Reply.{Reply}
use Rattle.service_step.specs.declared.reply.Reply.TheVariants.{Done, Denied}
use Rattle.policy_core.specs.Policy.{first_broken}
use Rattle.service_step.specs.Step.{step, step_by, effect, missing_views}
use Rattle.service_step.specs.Admitted.{IsAdmitted}
use Rattle.service_step.specs.Looks.{LooksUp, Prepares, changed_by}
use Rattle.service_calls.specs.Decision.{Allows, BreaksNoStanding, Decides}
use Rattle.service_step.specs.Reply.{is_stopped}
use Rattle.service_calls.specs.Service.{AllowsTo, Answers, AnswersTo, MayFail, reply_of}
use Rattle.space_core.specs.Calls.{ForEachHeld}

pub step_denied : (salt : List ℕ) (a : Airspace) (t : ℕ) (c : Call) (p : Rule) (m : Missing) → first_broken a t c ≡ Some p → m ≡ missing_views a c p → step salt a t c ≡ (a, Denied p m)
unfolding step
step_denied salt a t c p m h is = ap (step_by salt a c) h ∙ ap (λ (x : Missing). (a, Denied p x)) (sym is)

pub step_done : (salt : List ℕ) (a : Airspace) (t : ℕ) (c : Call) → first_broken a t c ≡ None → step salt a t c ≡ effect salt a c.caller c.op
unfolding step
step_done salt a t c h = ap (step_by salt a c) h

pub same_content : {S : Type 0} (g : Ghosts S) (old new : S) (a : Airspace) → ((b : Airspace) → g.holds old b → g.holds new b) → ((b : Airspace) → g.holds new b → g.holds old b) → IsContent g.holds old a → IsContent g.holds new a
same_content g old new a forth back content = record {
  held = forth a content.held;
  only = λ b h. content.only b (back b h);
}

fails_from : (a : Airspace) (t : ℕ) (c : Call) (reply : Reply) (n m k : ℕ) → m ≡ n → MayFail a t c reply m k → MayFail a t c reply n k
fails_from a t c reply n m k e h = subst (λ (x : ℕ). MayFail a t c reply x k) e h

-- The call breaks a stateless rule.
pub early_answers : {S : Type 0} (g : Ghosts S) (salt : List ℕ) (t : ℕ) (c : Call) (old : S) (p : Rule) (m : Missing) → ((a : Airspace) → first_broken a t c ≡ Some p) → ((a : Airspace) → m ≡ missing_views a c p) → Answers g salt t c old old (Denied p m)
early_answers g salt t c old p m first missing = record {
  step = λ s a h. (step_denied salt a t c p m (first a) (missing a), h);
  fails = λ s a h. tt;
  fixed = refl;
  sound = λ s. s;
  whole = λ s w. w;
  breaks = refl;
}

module _ {S : Type 0} (g : Ghosts S) (q : Admitted) where
  abbrev salt : List ℕ
  salt = q.salt.now

  abbrev t : ℕ
  t = q.moment

  abbrev c : Call
  c = q.call.now

  pub denied_answers : (old new : S) (p : Rule) (m : Missing) → LooksUp g old new (Ok (Refused p m)) (Decides q) → AnswersTo g q old new (Denied p m)
  denied_answers old new p m looks = record {
    step = λ s a h. let f = looks.found s a h.held in (step_denied salt a t c p m f.0 f.1, same_content g old new a (looks.stays s) (looks.no_other s) h);
    fails = λ s a h. tt;
    fixed = looks.fixed;
    sound = looks.sound;
    whole = looks.whole;
    breaks = looks.told.1;
  }

  pub allowed_looks : (old new : S) (facts : OwnedFacts) → LooksUp g old new (Ok (Allowed facts)) (Decides q) → AllowsTo g q old new
  allowed_looks old new facts looks = record {
    breaks_none = λ s a h. (looks.found s a h).0;
    same = λ s a h. same_content g old new a (looks.stays s) (looks.no_other s) h;
    fixed = looks.fixed;
    sound = looks.sound;
    whole = looks.whole;
    breaks = looks.told.1;
  }

  -- A lookup fails, and it runs out of memory only if no stateful rule is broken.
  pub halted_answers : {X : Type 0} (old new : S) (h : CallFault) (P : Airspace → X → Type 0) → LooksUp g old new (Err h) P → IsAdmitted q → (h ≡ NoMemory → g.is_sound new → (a : Airspace) → g.holds old a → BreaksNoStanding q a) → AnswersTo g q old new (reply_of h)
  halted_answers old new NoMemory P looks is_admitted quiet = record {
    step = λ s a h. same_content g old new a (looks.stays s) (looks.no_other s) h;
    fails = λ s a h. (ap is_some (is_admitted.early a), λ k. absurd (false≢true (sym (ap is_some (quiet refl s a h.held)) ∙ k)));
    fixed = looks.fixed;
    sound = looks.sound;
    whole = looks.whole;
    breaks = looks.told;
  }
  halted_answers old new (Space Unchanged) P looks is_admitted quiet = record {
    step = λ s a h. same_content g old new a (looks.stays s) (looks.no_other s) h;
    fails = λ s a h. (ap is_some (is_admitted.early a), λ k. looks.told.0);
    fixed = looks.fixed;
    sound = looks.sound;
    whole = looks.whole;
    breaks = looks.told.1;
  }
  halted_answers old new (Space Broken) P looks is_admitted quiet = record {
    step = λ s a h b k. inl (h.only b (looks.no_other s b k));
    fails = λ s a h. tt;
    fixed = looks.fixed;
    sound = looks.sound;
    whole = looks.whole;
    breaks = looks.told;
  }

  -- A reply after a lookup is a reply to the call.
  pub after_answers : {X : Type 0} (old mid new : S) (x : X) (P : Airspace → X → Type 0) (reply : Reply) → LooksUp g old mid (Ok x) P → AnswersTo g q mid new reply → AnswersTo g q old new reply
  after_answers old mid new x P reply looks rest = record {
    step = λ s a h. rest.step s a (same_content g old mid a (looks.stays (rest.sound s)) (looks.no_other (rest.sound s)) h);
    fails = λ s a h. fails_from a t c reply (g.refusals old) (g.refusals mid) (g.refusals new) looks.told.0 (rest.fails s a (same_content g old mid a (looks.stays (rest.sound s)) (looks.no_other (rest.sound s)) h));
    fixed = rest.fixed ∙ looks.fixed;
    sound = λ s. looks.sound (rest.sound s);
    whole = λ s w. rest.whole s (looks.whole (rest.sound s) w);
    breaks = rest.breaks ∙ ap (λ (b : Bool). is_stopped reply || b) looks.told.1;
  }

  -- The call changes nothing.
  pub read_answers : (old new : S) (facts : OwnedFacts) (made : Prepared) → made.change ≡ None → LooksUp g old new (Ok made) (Prepares q facts) → ForEachHeld g old IsAirspace → ForEachHeld g old (λ a. Decides q a (Allowed facts)) → AnswersTo g q old new (Done made.answer)
  read_answers old new facts made is looks proper given = record {
    step = λ s a h.
        let k = given (looks.sound s) a h.held in
        let e : step salt a t c ≡ (a, Done made.answer) = step_done salt a t c k.0 ∙ ((looks.found s a h.held (proper (looks.sound s) a h.held) k.0 k.1).effect ∙ ap (λ (o : Option Change). (changed_by o made.notify a, Done made.answer)) is) in
        (ap (λ (x : Airspace × Reply). x.1) e, subst (IsContent g.holds new) (ap (λ (x : Airspace × Reply). x.0) (sym e)) (same_content g old new a (looks.stays s) (looks.no_other s) h));
    fails = λ s a h. tt;
    fixed = looks.fixed;
    sound = looks.sound;
    whole = looks.whole;
    breaks = looks.told.1;
  }

  -- The change was made.
  pub change_done : (old new : S) (change : Change) (told : List ℕ) (answer : Answer) → g.fixed new ≡ g.fixed old → Changes {T = Unit {0}} g.holds g.is_sound g.is_whole (g.is_broken old) old new (Ok tt) (changed change told)
      → ReportsFault {T = Unit {0}} (g.refusals old) (g.refusals new) (g.is_broken old) (g.is_broken new) (Ok tt)
      → ForEachHeld g old (λ a. Allows q a (Some change) told answer) → AnswersTo g q old new (Done answer)
  change_done old new change told answer fixed changes tells given = record {
    step = λ s a h.
        let k = given (changes.sound s) a h.held in
        let e : step salt a t c ≡ (changed change told a, Done answer) = step_done salt a t c k.0 ∙ k.1.effect in
        (ap (λ (x : Airspace × Reply). x.1) e, subst (IsContent g.holds new) (ap (λ (x : Airspace × Reply). x.0) (sym e)) (changes.done s a h.held));
    fails = λ s a h. tt;
    fixed = fixed;
    sound = changes.sound;
    whole = changes.whole;
    breaks = tells.breaks;
  }

  -- The change was not made, or its outcome is unknown.
  pub change_failed : (old new : S) (change : Change) (told : List ℕ) (answer : Answer) (e : SpaceFault) → g.fixed new ≡ g.fixed old → Changes {T = Unit {0}} g.holds g.is_sound g.is_whole (g.is_broken old) old new (Err e) (changed change told) → ReportsFault {T = Unit {0}} (g.refusals old) (g.refusals new) (g.is_broken old) (g.is_broken new) (Err e)
      → IsAdmitted q → ForEachHeld g old (λ a. Allows q a (Some change) told answer) → AnswersTo g q old new (reply_of (Space e))
  change_failed old new change told answer Unchanged fixed changes tells is_admitted given = record {
    step = λ s a h. same_content g old new a (λ b. (changes.refused s refl b).0) (λ b. (changes.refused s refl b).1) h;
    fails = λ s a h. (
      ap is_some (is_admitted.early a),
      λ k. elim (cases_lt (g.refusals old) max_count) [
        | inl lt ↦ inl (omega (arith, tells.counted, lt))
        | inr ge ↦ inr (omega (arith, tells.counted, ge))
      ],
    );
    fixed = fixed;
    sound = changes.sound;
    whole = changes.whole;
    breaks = tells.breaks;
  }
  change_failed old new change told answer Broken fixed changes tells is_admitted given = record {
    step = λ s a h b k.
        let m = given (changes.sound s) a h.held in
        let e : step salt a t c ≡ (changed change told a, Done answer) = step_done salt a t c m.0 ∙ m.1.effect in
        elim (changes.broken s refl b k) [
          | inl x ↦ inl (h.only b x)
          | inr x ↦ inr (x a h.held ∙ ap (λ (y : Airspace × Reply). y.0) (sym e))
        ];
    fails = λ s a h. tt;
    fixed = fixed;
    sound = changes.sound;
    whole = changes.whole;
    breaks = tells.breaks;
  }
