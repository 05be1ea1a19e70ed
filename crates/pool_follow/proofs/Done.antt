-- Lemmas: acts that a service did, one after the other.
use Rattle.std.proofs.Common.{◌≡◌, ℕ, false, List, [], ◌∷◌, ◌++◌, refl, sym, ap, subst, ◌∙◌}
use Rattle.std.proofs.lemmas.List.{map-append}
use Rattle.entity_core.specs.Airspace.{Airspace}
use Rattle.policy_core.specs.declared.call.Call.{Call}
use Rattle.space_core.specs.Space.{IsContent}
use Rattle.space_core.specs.declared.space.Space.{Ghosts}
use Rattle.service_step.specs.Reply.{is_stopped}
use Rattle.service_step.specs.Step.{IsDoneOrDenied, step}
use Rattle.service_step.specs.declared.reply.Reply.{Reply}
use Rattle.service_step.specs.declared.reply.Reply.TheVariants.{Denied, Done, Fault, Stopped}
use Rattle.service_calls.specs.Held.{Stays, is_shut, salt_of, space_of}
use Rattle.service_calls.specs.Run.{IsReplyTo, TimedCall}
use Rattle.service_calls.specs.Service.{Leaves}
use Rattle.service_calls.specs.declared.service.Service.{Service}
use Rattle.pool_core.specs.Acts.{Act, Makes, Purges, airspace_by, makes_all}
use Rattle.pool_core.specs.Purging.{PurgesAll}
use Rattle.pool_core.proofs.Acts.{after_append}
use Rattle.pool_follow.specs.Acts.{DoesActs}

goes_on : (r : Reply) → IsDoneOrDenied r → is_stopped r ≡ false
goes_on (Done x) h = refl
goes_on (Denied p m) h = refl
goes_on Fault h = absurd h
goes_on Stopped h = absurd h

module _ {S : Type 0} (g : Ghosts S) where
  final_leaves : (salt : List ℕ) (a : Airspace) (now : ℕ) (c : Call) (r : Reply) (new : S) → IsDoneOrDenied r → Leaves g salt a now c r new → IsContent g.holds new (step salt a now c).0
  final_leaves salt a now c (Done x) new h l = l.1
  final_leaves salt a now c (Denied p m) new h l = subst (λ (b : Airspace). IsContent g.holds new b) (ap (λ (v : Airspace × Reply). v.0) (sym l.0)) l.1
  final_leaves salt a now c Fault new h l = absurd h
  final_leaves salt a now c Stopped new h l = absurd h

  pub does_none : (s : Service S) → is_shut s ≡ false → DoesActs g [] s s
  does_none s goes = record { goes = goes; done = λ sound a content. content }

  pub does_more : (old mid new : Service S) (cs : List TimedCall) (c : TimedCall) (r : Reply) → Stays g old mid → DoesActs g (makes_all cs) old mid → IsReplyTo g mid new c.0 c.1 r → IsDoneOrDenied r
      → DoesActs g (makes_all (cs ++ c ∷ [])) old new
  does_more old mid new cs c r stays d reply final = record {
    goes = reply.shuts d.goes ∙ goes_on r final;
    done = λ sound a content.
        let between = airspace_by (salt_of old) a (makes_all cs) in
        let there = d.done (reply.stays.sound sound) a content in
        let after = final_leaves (salt_of mid) between c.0 c.1 r (space_of new) final ((reply.answers d.goes).step sound between there) in
        subst (λ (b : Airspace). IsContent g.holds (space_of new) b)
        (ap (λ (v : List ℕ). (step v between c.0 c.1).0) stays.salt ∙ sym (after_append (salt_of old) a (makes_all cs) (Makes c ∷ [])) ∙ ap (λ (v : List Act). airspace_by (salt_of old) a v) (sym (map-append (λ (v : TimedCall). Makes v) cs (c ∷ []))))
        after;
  }

  pub does_purge : (old new : Service S) (until : ℕ) → PurgesAll g until old new → DoesActs g (Purges until ∷ []) old new
  does_purge old new until p = record { goes = p.goes; done = p.content }
