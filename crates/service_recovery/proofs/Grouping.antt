-- Proofs about the effects of a crash on tables whose changes can be pending.
use Rattle.std.specs.Prelude.{◌≡◌, ◌||◌, ◌⊎◌, ◌↔◌, ℕ, Bool, true, false, Result, Ok, Err, OnOk, IsErrOf, refl}
use Rattle.std.specs.Coded.{Coded}
use Rattle.std.proofs.Common.{inl, inr, ap, subst, sym, ◌∙◌}
use Rattle.sqlite_trees.specs.Tree.{Trees}
use Rattle.sqlite_trees.specs.declared.store.Store as stores
use Rattle.sqlite.specs.Held.{state}
use Rattle.entity_core.specs.Airspace.{Airspace}
use Rattle.policy_core.specs.declared.call.Call.{Call}
use Rattle.space_core.specs.declared.space.Space.{Ghosts}
use Rattle.space_core.specs.declared.space.SpaceFault.{SpaceFault}
use Rattle.space_core.specs.declared.space.SpaceFault.TheVariants.{Unchanged, Broken}
use Rattle.space_core.specs.Batch.{changed_all}
use Rattle.space_core.specs.Space.{Code, IsContent}
use Rattle.service_step.specs.declared.reply.Reply.{Reply}
use Rattle.service_step.specs.declared.reply.Reply.TheVariants.{Done, Denied, Fault, Stopped}
use Rattle.service_step.specs.Step.{step}
use Rattle.service_calls.specs.Held.{is_shut, salt_of, space_of}
use Rattle.service_calls.specs.Batches.{IsCommitted}
use Rattle.service_calls.specs.Run.{IsReplyTo}
use Rattle.service_calls.specs.Service.{Leaves}
use Rattle.service_calls.specs.Purged.{OpenSegmentIsNotDurable}
use Rattle.service_calls.specs.declared.service.Service.{Service}
use Rattle.service_calls.proofs.Segments.{open_segment}
use Rattle.space_quota.specs.QuotaSpace.{QuotaModel}
use Rattle.space_mirror.specs.Mirrored.{MirroredModel, IsSoundIn, fixed_in, holds_in, is_whole_in, pending, is_pending_in}
use Rattle.space_mirror.specs.Laws.{content_of_its_store, durable_while_pending, visible_is_durable, sound_as_its_store, works_while_pending}
use Rattle.space_sql.specs.Crash.{may_leave_of}
use Rattle.space_sql.specs.Holding.{AreTablesOf, SqlSpaceModel, holds_of, is_sound_of, is_whole_of}
use Rattle.space_sql.proofs.Crashes.{leaves_held}
use Rattle.service_recovery.specs.Crash.{CrashLeavesGrouped, PersistsCommitted, quota_pending_of, pending_of}
use Rattle.service_recovery.proofs.Crashes.{kept_after, words_of}

-- Facts about a space whose changes can be pending, given the space over tables in it.
pub record IsOver {S : Type 0} (tables : Ghosts S) (space : Ghosts (MirroredModel S)) : Type 0 where
  pub calm_sound : (k : MirroredModel S) → is_pending_in k ≡ false → tables.is_sound k.store → space.is_sound k
  pub calm_content : (k : MirroredModel S) (a : Airspace) → is_pending_in k ≡ false → IsContent tables.holds k.store a → IsContent space.holds k a
  pub calm_held : (k : MirroredModel S) (a : Airspace) → is_pending_in k ≡ false → tables.holds k.store a → space.holds k a
  pub sound : (k : MirroredModel S) → space.is_sound k → tables.is_sound k.store
  pub whole : (k : MirroredModel S) → tables.is_whole k.store → space.is_whole k
  pub store_whole : (k : MirroredModel S) → space.is_whole k → tables.is_whole k.store
  -- If the durable airspace is unique, the visible one is.
  pub one : (k : MirroredModel S) (a b c : Airspace) → IsContent tables.holds k.store a → space.holds k b → space.holds k c → c ≡ b

-- The ghosts of such a space.
abbrev pub group_words : {S : Type 0} → Ghosts S → (MirroredModel S → Code) → Ghosts (MirroredModel S)
group_words g fixed = record {
  holds = holds_in g;
  is_sound = IsSoundIn g;
  is_whole = is_whole_in g;
  refusals = λ k. k.refusals;
  is_broken = λ k. g.is_broken k.store;
  fixed = fixed;
}

pub grouped_over : {S : Type 0} (g : Ghosts S) (fixed : MirroredModel S → Code) → IsOver g (group_words g fixed)
grouped_over g fixed = record {
  calm_sound = λ k calm sound. sound_as_its_store g k calm sound;
  calm_content = λ k a calm content. content_of_its_store g k a calm content;
  calm_held = λ k a calm held. (visible_is_durable g.holds k a calm).1 held;
  sound = λ k sound. sound.store;
  whole = λ k whole. whole;
  store_whole = λ k whole. whole;
  one = λ k a b c content held seen. seen.2 ∙ ap (changed_all (pending k.ahead)) (content.only seen.0 seen.1 ∙ sym (content.only held.0 held.1)) ∙ sym held.2;
}

-- Facts about such a space below a quota.
pub record IsBoundOver {S : Type 0} (tables : Ghosts S) (space : Ghosts (QuotaModel (MirroredModel S))) : Type 0 where
  pub calm_content : (k : QuotaModel (MirroredModel S)) (a : Airspace) → is_pending_in k.space ≡ false → IsContent tables.holds k.space.store a → IsContent space.holds k a
  pub sound : (k : QuotaModel (MirroredModel S)) → space.is_sound k → tables.is_sound k.space.store
  pub whole : (k : QuotaModel (MirroredModel S)) → tables.is_whole k.space.store → space.is_whole k
  pub store_whole : (k : QuotaModel (MirroredModel S)) → space.is_whole k → tables.is_whole k.space.store

-- The ghosts of such a space.
abbrev pub bound_words : {S : Type 0} → Ghosts S → (QuotaModel (MirroredModel S) → ℕ) → (QuotaModel (MirroredModel S) → Code) → Ghosts (QuotaModel (MirroredModel S))
bound_words g refusals fixed = record {
  holds = λ k a. holds_in g k.space a;
  is_sound = λ k. IsSoundIn g k.space;
  is_whole = λ k. is_whole_in g k.space;
  refusals = refusals;
  is_broken = λ k. g.is_broken k.space.store;
  fixed = fixed;
}

pub bounded_over : {S : Type 0} (g : Ghosts S) (refusals : QuotaModel (MirroredModel S) → ℕ) (fixed : QuotaModel (MirroredModel S) → Code) → IsBoundOver g (bound_words g refusals fixed)
bounded_over g refusals fixed = record {
  calm_content = λ k a calm content.
      let it = content_of_its_store g k.space a calm content in
      record { held = it.held; only = it.only };
  sound = λ k sound. sound.store;
  whole = λ k whole. whole;
  store_whole = λ k whole. whole;
}

-- A crash during a batch leaves the durable airspace, without the batch's changes.
pub open_segment_in : {S : Type 0} (g : Ghosts S) (c : Coded S) (refusals : QuotaModel (MirroredModel S) → ℕ) → OpenSegmentIsNotDurable (bound_words g refusals (λ k. fixed_in c k.space)) (quota_pending_of g)
open_segment_in g c refusals = open_segment (bound_words g refusals (λ k. fixed_in c k.space)) (quota_pending_of g) (record {
  quiet = λ s a calm. visible_is_durable g.holds s.space a calm;
  rests = λ s t a same waits. durable_while_pending g.holds c s.space t.space a same waits;
  works = λ s t same waits. works_while_pending g.is_broken c s.space t.space same waits;
  live = λ s sound waits. sound.live waits;
})

module _ {S : Type 0} (g : stores.Ghosts S) (space : Ghosts (MirroredModel (SqlSpaceModel S))) (over : IsOver (words_of g) space) (old new : Service (MirroredModel (SqlSpaceModel S))) where
  -- ---- a call

  -- The airspace of a crash's outcome is one that the space holds.
  seen_in : is_pending_in (space_of new) ≡ false → is_whole_of g (space_of new).store → (db : Trees) → may_leave_of g (space_of new).store db → (b : Airspace) × space.holds (space_of new) b × AreTablesOf db b
  seen_in calm whole db may =
      let it = leaves_held (state g (space_of new).store.conn) whole db may in
      (it.0, over.calm_held (space_of new) it.0 calm it.1, it.2)

  pub crash_leaves_grouped : (now : ℕ) (call : Call) (reply : Reply) → IsReplyTo space old new now call reply
      → (space.fixed (space_of new) ≡ space.fixed (space_of old) → (is_pending_in (space_of old) || is_pending_in (space_of new)) ≡ true → (space_of new).store ≡ (space_of old).store)
      → CrashLeavesGrouped g (salt_of old) now call old new reply
  crash_leaves_grouped now call reply is rests = record {
    alone = λ goes was_calm calm sound whole a content db may.
        let after = is.answers goes in
        let all_sound = over.calm_sound (space_of new) calm sound in
        let all_whole = over.store_whole (space_of new) (after.whole all_sound (over.whole (space_of old) whole)) in
        kept_after space (space_of new) db (seen_in calm all_whole db may) (salt_of old) a now call reply (after.step all_sound a (over.calm_content (space_of old) a was_calm content));
    waiting = λ waits. rests is.stays.fixed waits;
    stays = is.stays.shut;
  }

  -- ---- the end of a batch

  module _ (kept seen : Airspace) (content : IsContent (holds_of g) (space_of old).store kept) (held : space.holds (space_of old) seen) (sound : space.is_sound (space_of new)) (db : Trees) (found : (b : Airspace) × space.holds (space_of new) b × AreTablesOf db b) where
    settled_by : (result : Result (Unit {0}) SpaceFault) → IsCommitted space (pending_of (words_of g)) old new result → PersistsCommitted kept seen result db
    settled_by (Ok x) is = subst (λ b. AreTablesOf db b) ((is.settles.done sound seen held).only found.0 found.1) found.2
    settled_by (Err Unchanged) is = subst (λ b. AreTablesOf db b) (content.only found.0 ((is.settles.refused sound refl found.0).1 found.1)) found.2
    settled_by (Err Broken) is = elim (is.settles.no_other sound found.0 found.1) [
      | inl before ↦ inl (subst (λ b. AreTablesOf db b) (content.only found.0 before) found.2)
      | inr after ↦ inr (subst (λ b. AreTablesOf db b) (over.one (space_of old) kept seen found.0 content held after) found.2)
    ]

  pub crash_leaves_settled : (result : Result (Unit {0}) SpaceFault) → IsCommitted space (pending_of (words_of g)) old new result → is_sound_of g (space_of new).store → is_whole_of g (space_of old).store
      → (kept seen : Airspace) → IsContent (holds_of g) (space_of old).store kept → space.holds (space_of old) seen → (db : Trees) → may_leave_of g (space_of new).store db → PersistsCommitted kept seen result db
  crash_leaves_settled result is sound whole kept seen content held db may =
      let all_sound = over.calm_sound (space_of new) is.calm sound in
      let all_whole = over.store_whole (space_of new) (is.settles.whole all_sound (over.whole (space_of old) whole)) in
      settled_by kept seen content held all_sound db (seen_in is.calm all_whole db may) result is
