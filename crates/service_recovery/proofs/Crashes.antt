-- Proofs about the effects of a crash after each reply.
use Rattle.std.specs.Prelude.{◌≡◌, ℕ, List, false, refl}
use Rattle.std.proofs.Common.{inl, inr, subst, sym, ◌∙◌}
use Rattle.sqlite_trees.specs.Memory.{memory_view}
use Rattle.sqlite_trees.specs.Tree.{Trees}
use Rattle.entity_core.specs.Airspace.{Airspace}
use Rattle.policy_core.specs.declared.call.Call.{Call}
use Rattle.space_core.specs.declared.space.Space.{Ghosts}
use Rattle.service_step.specs.declared.reply.Reply.{Reply}
use Rattle.service_step.specs.declared.reply.Reply.TheVariants.{Done, Denied, Fault, Stopped}
use Rattle.sqlite_trees.specs.declared.store.Store as stores
use Rattle.sqlite_trees.specs.declared.memory.MemStore.{MemStore}
use Rattle.sqlite.specs.Held.{state}
use Rattle.sqlite.specs.Steps.{over_memory}
use Rattle.space_core.specs.Space.{IsContent, nothing_fixed}
use Rattle.service_calls.specs.Held.{is_shut, salt_of, space_of}
use Rattle.service_calls.specs.Run.{IsReplyTo}
use Rattle.service_calls.specs.Service.{Leaves}
use Rattle.service_calls.specs.declared.service.Service.{Service}
use Rattle.service_step.specs.Step.{step}
use Rattle.space_sql.specs.Holding.{AreTablesOf, SqlSpaceModel, holds_of, is_sound_of, is_whole_of}
use Rattle.space_sql.proofs.Crashes.{leaves_held}
use Rattle.service_recovery.specs.Crash.{CrashLeaves, PersistsAfter, LeavesDue}

module _ {K : Type 0} (g : Ghosts K) (new : K) (db : Trees) (found : (b : Airspace) × g.holds new b × AreTablesOf db b) where
  of_content : (a : Airspace) → ((b : Airspace) → g.holds new b → b ≡ a) → AreTablesOf db a
  of_content a only = subst (λ b. AreTablesOf db b) (only found.0 found.1) found.2

  pub kept_after : (salt : List ℕ) (a : Airspace) (now : ℕ) (c : Call) (reply : Reply) → Leaves g salt a now c reply new → PersistsAfter a (step salt a now c).0 reply db
  kept_after salt a now c (Done answer) left = of_content (step salt a now c).0 left.1.only
  kept_after salt a now c (Denied _ _) left = of_content a left.1.only
  kept_after salt a now c Fault left = of_content a left.only
  kept_after salt a now c Stopped left = elim (left found.0 found.1) [
    | inl before ↦ inl (subst (λ b. AreTablesOf db b) before found.2)
    | inr after ↦ inr (subst (λ b. AreTablesOf db b) after found.2)
  ]

-- The ghosts of a space over tables.
abbrev pub words_of : {S : Type 0} → stores.Ghosts S → Ghosts (SqlSpaceModel S)
words_of g = record {
  holds = holds_of g;
  is_sound = is_sound_of g;
  is_whole = is_whole_of g;
  refusals = λ k. k.refusals;
  is_broken = λ k. k.broken;
  fixed = λ k. nothing_fixed;
}

pub crash_leaves : {S : Type 0} (g : stores.Ghosts S) (old new : Service (SqlSpaceModel S)) (now : ℕ) (call : Call) (reply : Reply) → IsReplyTo (words_of g) old new now call reply → CrashLeaves g (salt_of old) now call old new reply
crash_leaves g old new now call reply is = record {
  leaves = λ goes sound whole a content db may.
      let after = is.answers goes in
      kept_after (words_of g) (space_of new) db (leaves_held (state g (space_of new).conn) (after.whole sound whole) db may) (salt_of old) a now call reply (after.step sound a content);
  stays = is.stays.shut;
}

-- A crash leaves of tables in memory what they have committed.
pub due_in_memory : (salt : List ℕ) (a : Airspace) (old new : Service (SqlSpaceModel MemStore)) (now : ℕ) (call : Call) (reply : Reply) → IsReplyTo (words_of over_memory) old new now call reply → is_shut old ≡ false → salt_of old ≡ salt
    → IsContent (holds_of over_memory) (space_of old) a → is_sound_of over_memory (space_of new) → LeavesDue over_memory salt a now call reply (space_of new)
due_in_memory salt a old new now call reply is goes own content sound =
    let before = content.held in
    let whole : is_whole_of over_memory (space_of old) = λ db may. (a, subst (λ (t : Trees). AreTablesOf t a) (before.1 ∙ sym may) before.2) in
    record {
      some = ∣ ((memory_view (space_of new).conn.store).committed, refl) ∣₁;
      each = λ db may. subst (λ (s : List ℕ). PersistsAfter a (step s a now call).0 reply db) own ((crash_leaves over_memory old new now call reply is).leaves goes sound whole a content db may);
    }
