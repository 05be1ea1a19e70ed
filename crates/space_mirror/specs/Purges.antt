-- The effect of a purge on a mirrored space.
use Rattle.std.specs.Prelude.{◌≡◌, true, List, Option, Some, None, Result, Ok, Err, IsErrOf}
use Rattle.entity_purge.specs.PurgeItem.{without_items}
use Rattle.entity_purge.specs.declared.purge_item.PurgeItem.{PurgeItem}
use Rattle.space_core.specs.declared.space.Space.{Ghosts}
use Rattle.space_core.specs.declared.space.SpaceFault.{SpaceFault}
use Rattle.space_core.specs.declared.space.SpaceFault.TheVariants.{Unchanged, Broken}
use Rattle.space_core.specs.Space.{Changes, Reads, ReportsFault, is_broken_after}
use Rattle.space_memory.specs.declared.memory.MemorySpace.{MemorySpace}
use Rattle.space_memory.specs.Memory.{content_of}
use Rattle.space_mirror.specs.Mirrored.{MirroredModel, IsSoundIn, fixed_part, holds_in, is_whole_in, is_pending_in}

-- Holds if a purge has its results and effects.
pub record MirrorPurgeEffect {S T : Type 0} (g : Ghosts S) (old new : MirroredModel S) (result : Result T SpaceFault)
    (gone : List PurgeItem) : Type 0 where
  pub tells : ReportsFault old.refusals new.refusals (g.is_broken old.store) (g.is_broken new.store)
      result
  pub changes : Changes (holds_in g) (IsSoundIn g) (is_whole_in g) (g.is_broken old.store)
      old new result (without_items gone)
  pub waits : is_pending_in new ≡ is_pending_in old
  pub pending : is_pending_in old ≡ true
      → (result ≡ Err Unchanged) × (fixed_part new ≡ fixed_part old)

-- Holds if the mirror, if any, has purged the items.
abbrev pub HasPurged : List PurgeItem → (mirror mirror' : Option MemorySpace) → Type 0
HasPurged gone None mirror' = mirror' ≡ None
HasPurged gone (Some l) mirror' =
    (m : MemorySpace) × (mirror' ≡ Some m) × (content_of m ≡ without_items gone (content_of l))

-- Holds if the mirror follows the store's result. After `Ok` it has purged the items, after
-- `Unchanged` it stays, and after `Broken` it is dropped.
abbrev pub MirrorFollows : {T : Type 0} → List PurgeItem → Result T SpaceFault
    → (mirror mirror' : Option MemorySpace) → Type 0
MirrorFollows gone (Ok x) mirror mirror' = HasPurged gone mirror mirror'
MirrorFollows gone (Err Unchanged) mirror mirror' = mirror' ≡ mirror
MirrorFollows gone (Err Broken) mirror mirror' = mirror' ≡ None

-- Holds if a call only reads whether the store is broken: it returns `Broken` or `Unchanged`.
pub record CannotSay {S T : Type 0} (g : Ghosts S) (old new : S) (result : Result T SpaceFault)
    : Type 0 where
  pub breaks : g.is_broken new ≡ is_broken_after (g.is_broken old) result
  pub stays_broken : g.is_broken old ≡ true → IsErrOf result Broken
  pub reads : Reads g.holds g.is_sound g.is_whole old new result (λ _ _. ⊥)
