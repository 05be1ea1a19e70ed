-- Lemmas: a request that an instance received.
use Rattle.std.proofs.Common.{◌≡◌, ℕ, false, suc, [], ◌∷◌, ap, Option, Some, inl, inr}
use Rattle.std.specs.Prelude.{IsSome, MatchResult, Ok, Err, Result, find, is_some}
use Rattle.std.specs.Result.{is_err}
use Rattle.entity_core.specs.Airspace.{Airspace}
use Rattle.policy_core.specs.declared.call.Call.{Call}
use Rattle.policy_core.specs.declared.rule.Rule.{Rule}
use Rattle.policy_core.specs.Policy.{breaks, early_rules}
use Rattle.space_core.specs.declared.space.Space as spaces
use Rattle.pool_core.specs.Events.{Receives}
use Rattle.pool_core.specs.declared.log.Log as logs
use Rattle.pool_instance.specs.Does.{Did}
use Rattle.pool_instance.specs.Effects.{Holds}
use Rattle.pool_instance.specs.Parts.{log_of}
use Rattle.pool_instance.specs.Request.{call_of}
use Rattle.pool_instance.specs.declared.instance.Instance.{Instance}
use Rattle.pool_instance.specs.declared.request.Request.{Request}
use Rattle.pool_core.proofs.Histories.{continues_same}
use Rattle.pool_instance.proofs.Did.{Kept, did_receive_change, did_receive_reading}

module _ {L S : Type 0} (gl : logs.Ghosts L) (gs : spaces.Ghosts S) where
  pub did_hold : (old mid : Instance L S) (n : ℕ) (request : Request) → n ≡ suc old.received → Holds old.received request old mid → Did gl gs old (Receives old.received (call_of request) ∷ []) (record mid { received = n })
  did_hold old mid n request next h =
      let r = h.rest in
      let k : Kept gl gs old (record mid { received = n }) [] = record {
        service = r.service;
        history = continues_same (gl.history (log_of old)) (gl.history (log_of mid)) (ap (λ (v : L). gl.history v) r.log);
        writer = ap (λ (v : L). gl.writer v) r.log;
        taken = r.taken;
        ended = r.ended;
        retention = r.retention;
        heard = r.heard;
      } in
      elim h.waits [
        | inl a ↦ did_receive_reading gl gs old (record mid { received = n }) (call_of request) a.one k r.in_flight a.readings a.unsent next a.number (ap (λ (v : Request). call_of v) a.asks) a.stage
        | inr b ↦ did_receive_change gl gs old (record mid { received = n }) (call_of request) b.one k r.in_flight b.readings b.unsent next b.number (ap (λ (v : Request). call_of v) b.asks)
      ]

pub some_found : (a : Airspace) (now : ℕ) (call : Call) (rule : Rule) → find (breaks a now call) early_rules ≡ Some rule → IsSome (find (breaks a now call) early_rules)
some_found a now call _ h = ap (λ (v : Option Rule). is_some v) h

pub match_ok : {A B : Type 0} (P Q : Type 0) (r : Result A B) → is_err r ≡ false → MatchResult r (λ _. P) (λ _. Q) → P
match_ok P Q (Ok x) e h = h
match_ok P Q (Err x) e h = absurd cc
