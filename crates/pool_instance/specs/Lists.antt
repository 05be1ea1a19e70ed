-- Lists of requests, and the acts of an entry.
use Rattle.std.specs.Prelude.{◌≡◌, ◌<◌, ◌+◌, ℕ, Bool, false, List, [], ◌∷◌, ◌++◌, All, Option, Some, None, length, map, take, if◌then◌else◌}
use Rattle.entity_core.specs.Airspace.{Airspace}
use Rattle.space_core.specs.Space.{IsContent}
use Rattle.space_core.specs.declared.space.Space.{Ghosts}
use Rattle.service_calls.specs.Held.{is_shut, salt_of, space_of}
use Rattle.service_calls.specs.declared.service.Service.{Service}
use Rattle.service_step.specs.declared.reply.Reply.{Reply}
use Rattle.pool_core.specs.Acts.{Act, airspace_by, replies_by}
use Rattle.pool_entry.specs.Spelling.{IsBatch}
use Rattle.pool_entry.specs.declared.pool_call.PoolCall.{PoolCall}
use Rattle.pool_instance.specs.Parts.{asked_stage, stage_after}
use Rattle.pool_instance.specs.Request.{written_at}
use Rattle.pool_instance.specs.declared.requests.Draft.{Draft}
use Rattle.pool_instance.specs.declared.waiting.Held.{Held}
use Rattle.pool_instance.specs.declared.waiting.Reading.{Reading}

-- A reading after a question, and after its answer.
abbrev pub asked : (in_flight : Bool) → (question : ℕ) → Reading → Reading
asked in_flight question r = record r { stage = asked_stage in_flight question r }

abbrev pub told : (question count : ℕ) → Reading → Reading
told question count r = record r { stage = stage_after question count r.stage }

-- ---- batches

-- Holds if these are the calls of the requests, as an entry represents them at a time.
abbrev pub AreWritten : (now : ℕ) → List Held → List PoolCall → Type 0
AreWritten now hs written =
    map (λ (c : PoolCall). Some c) written ≡ map (λ (h : Held). written_at now h.request) hs

-- Holds if the batch has the first requests, as many as have room in an entry.
pub record IsFirstBatch (now : ℕ) (hs : List Held) (draft : Draft) : Type 0 where
  pub calls : AreWritten now (take (length draft.sent.items) hs) draft.batch
  pub some : 0 < length hs → 0 < length draft.sent.items
  pub numbers : draft.sent.items ≡ map (λ (h : Held). Some h.id) (take (length draft.sent.items) hs)
  pub most : (written : List PoolCall)
      → AreWritten now (take (length draft.sent.items + 1) hs) written
      → IsBatch written → length draft.sent.items ≡ length hs

-- ---- entries

-- Holds if these are all replies to acts. The calls come first. The purges after them have none.
pub record AreReplies (replies : List Reply) (all : List (Option Reply)) : Type 0 where
  pub others : List (Option Reply)
  pub none : All (λ reply. reply ≡ None) others
  pub are : all ≡ map (λ reply. Some reply) replies ++ others

-- Holds if the service did acts, and these are the replies of the policy.
pub record DidActs {S : Type 0} (g : Ghosts S) (acts : List Act) (old new : Service S)
    (replies : List Reply) : Type 0 where
  pub goes : is_shut new ≡ false
  pub made : g.is_sound (space_of new) → (a : Airspace) → IsContent g.holds (space_of old) a
      → AreReplies replies (replies_by (salt_of old) a acts)
      × IsContent g.holds (space_of new) (airspace_by (salt_of old) a acts)

-- Holds if the service did acts, and kept these replies of the policy: all of own acts, and none of
-- others.
pub record DidKeeping {S : Type 0} (g : Ghosts S) (is_own : Bool) (acts : List Act)
    (old new : Service S) (kept : List Reply) : Type 0 where
  pub replies : List Reply
  pub did : is_shut old ≡ false → DidActs g acts old new replies
  pub keeps : kept ≡ (if is_own then replies else [])

-- The replies to the requests of a batch that have a number, each with it.
abbrev pub told_of : List (Option ℕ) → List Reply → List (ℕ × Reply)
told_of [] replies = []
told_of (slot ∷ slots) [] = []
told_of (None ∷ slots) (reply ∷ replies) = told_of slots replies
told_of (Some id ∷ slots) (reply ∷ replies) = (id, reply) ∷ told_of slots replies
