-- A space whose changes are visible at once and applied to its store later.
use Rattle.std.specs.Prelude.{◌≡◌, ℕ, Bool, true, false, List, [], ◌∷◌, Option, Some, None, Result, refl}
use Rattle.std.specs.Coded.{Coded, code_by, coded×, coded_ℕ, coded_list, coded_option}
use Rattle.entity_core.specs.Airspace.{Airspace}
use Rattle.space_core.specs.declared.batch.BatchChange.{BatchChange}
use Rattle.space_core.specs.contracts.batch.BatchChange as row
use Rattle.space_core.specs.declared.space.Space.{Ghosts}
use Rattle.space_core.specs.declared.space.SpaceFault.{SpaceFault}
use Rattle.space_core.specs.Batch.{FitAll, changed_all}
use Rattle.space_core.specs.GroupCommit.{CommitEffect}
use Rattle.space_core.specs.Space.{Changes, Code, IsContent, Reads, ReportsFault}
use Rattle.space_memory.specs.declared.memory.MemorySpace.{MemorySpace}
use Rattle.space_memory.specs.Memory.{content_of}
use Rattle.space_mirror.specs.declared.mirror_state.MirrorState.{MirrorState}
use Rattle.space_mirror.specs.declared.mirror_state.MirrorState.TheVariants.{Steady, Full, Dropped, RebuildDue}

-- The model of a mirrored space in contracts.
pub record MirroredModel (S : Type 0) : Type 0 where
  pub store : S
  -- With a mirror: the changes that are visible and that the store has not applied, the oldest
  -- first. Without a mirror, the store applies each change at once.
  pub ahead : Option (List BatchChange)
  pub refusals : ℕ

abbrev pub mirrored_model : {S : Type 0} → S → Option (List BatchChange) → ℕ → MirroredModel S
mirrored_model store ahead refusals = record { store = store; ahead = ahead; refusals = refusals }

abbrev pub mirrored_code : {S : Type 0} → Coded S → Coded (MirroredModel S)
mirrored_code {S} store =
    code_by (S × (Option (List BatchChange) × ℕ))
    (coded× store (coded× (coded_option (coded_list row.the_row.coded)) coded_ℕ))
    (λ k. (k.store, (k.ahead, k.refusals)))
    (λ p. record { store = p.0; ahead = p.1.0; refusals = p.1.1 }) (λ _. refl)

-- The batch by which the mirror is ahead of its store.
abbrev pub pending_if_mirrored : Option MemorySpace → List BatchChange → Option (List BatchChange)
pending_if_mirrored None batch = None
pending_if_mirrored (Some l) batch = Some batch

-- The pending changes.
abbrev pub pending : Option (List BatchChange) → List BatchChange
pending None = []
pending (Some batch) = batch

abbrev pub some_pending : List BatchChange → Bool
some_pending [] = false
some_pending (c ∷ cs) = true

abbrev pub is_pending_in : {S : Type 0} → MirroredModel S → Bool
is_pending_in k = some_pending (pending k.ahead)

-- The part that no call changes: whether there is a mirror, and if there is one, the store.
abbrev pub fixed_by : {S : Type 0} → S → Option (List BatchChange) → Option S
fixed_by store None = None
fixed_by store (Some batch) = Some store

abbrev pub fixed_part : {S : Type 0} → MirroredModel S → Option S
fixed_part k = fixed_by k.store k.ahead

abbrev pub fixed_in : {S : Type 0} → Coded S → MirroredModel S → Code
fixed_in store k = (coded_option store).code (fixed_part k)

-- Holds if the airspace is durable: the store holds it.
abbrev pub persists_in : {S : Type 0} → Ghosts S → MirroredModel S → Airspace → Type 0
persists_in g k a = g.holds k.store a

-- Holds if the airspace is visible: it is a durable airspace after the pending changes.
abbrev pub holds_in : {S : Type 0} → Ghosts S → MirroredModel S → Airspace → Type 0
holds_in g k b = (a : Airspace) × g.holds k.store a × (b ≡ changed_all (pending k.ahead) a)

-- Holds if the store is sound and the pending changes fit what it holds. If changes are pending,
-- the store is not broken.
pub record IsSoundIn {S : Type 0} (g : Ghosts S) (k : MirroredModel S) : Type 0 where
  pub store : g.is_sound k.store
  pub fits : (a : Airspace) → g.holds k.store a → FitAll (pending k.ahead) a
  pub live : is_pending_in k ≡ true → g.is_broken k.store ≡ false

abbrev pub is_whole_in : {S : Type 0} → Ghosts S → MirroredModel S → Type 0
is_whole_in g k = g.is_whole k.store

-- Holds if the store is not broken and holds one airspace, which the batch fits, and the mirror has
-- the result of the batch.
pub record IsMirrorAhead {S : Type 0} (g : Ghosts S) (s : S) (l : MemorySpace) (batch : List BatchChange)
    : Type 0 where
  pub live : g.is_broken s ≡ false
  pub base : g.is_sound s
      → (a : Airspace) × IsContent g.holds s a × FitAll batch a
      × (content_of l ≡ changed_all batch a)

-- ---- what holds in each state of the mirror

-- Holds if the store holds one airspace, unless it is broken.
abbrev pub HoldsOne : {S : Type 0} → Ghosts S → S → Type 0
HoldsOne g s =
    g.is_broken s ≡ false → g.is_sound s → (a : Airspace) × IsContent g.holds s a

-- Holds in state `Steady`: a mirror is ahead of the store by the batch. Without a mirror, no change
-- is pending.
abbrev pub IsSteady : {S : Type 0} → Ghosts S → S → Option MemorySpace → List BatchChange → Type 0
IsSteady g s None batch = batch ≡ []
IsSteady g s (Some l) batch = IsMirrorAhead g s l batch

-- Holds in state `Full`: there is a mirror, and it is ahead of the store by the batch. The change
-- for which memory ran out is in neither.
abbrev pub IsFull : {S : Type 0} → Ghosts S → S → Option MemorySpace → List BatchChange → Type 0
IsFull g s None batch = ⊥
IsFull g s (Some l) batch = IsMirrorAhead g s l batch

-- Holds in state `Dropped`: there is no mirror, and no change is pending. The store holds the one
-- airspace from which the mirror can be rebuilt, unless it is broken.
pub record IsDropped {S : Type 0} (g : Ghosts S) (s : S) (mirror : Option MemorySpace)
    (batch : List BatchChange) : Type 0 where
  pub no_mirror : mirror ≡ None
  pub none_pending : batch ≡ []
  pub one : HoldsOne g s

-- Holds in state `RebuildDue`: the same as in state `Dropped`. The states differ only in that the
-- next `commit` rebuilds the mirror.
abbrev pub IsRebuildDue : {S : Type 0} → Ghosts S → S → Option MemorySpace → List BatchChange
    → Type 0
IsRebuildDue g s mirror batch = IsDropped g s mirror batch

-- Holds if the store, the mirror and the batch are as the state says.
abbrev pub MirrorAgrees : {S : Type 0} → Ghosts S → S → Option MemorySpace → MirrorState → List BatchChange
    → Type 0
MirrorAgrees g s mirror Steady batch = IsSteady g s mirror batch
MirrorAgrees g s mirror Full batch = IsFull g s mirror batch
MirrorAgrees g s mirror Dropped batch = IsDropped g s mirror batch
MirrorAgrees g s mirror RebuildDue batch = IsRebuildDue g s mirror batch

-- Holds if a call that reads has its results and effects.
pub record Reading {S T : Type 0} (g : Ghosts S) (old new : MirroredModel S) (result : Result T SpaceFault)
    (P : Airspace → T → Type 0) : Type 0 where
  pub fixed : fixed_part new ≡ fixed_part old
  pub tells : ReportsFault old.refusals new.refusals (g.is_broken old.store) (g.is_broken new.store)
      result
  pub reads : Reads (holds_in g) (IsSoundIn g) (is_whole_in g) old new result P

-- The same for the parts of a mirrored space: if they agree before the call, they agree after it.
abbrev pub ReadsParts : {S T : Type 0} → Ghosts S → (store store' : S)
    → (mirror mirror' : Option MemorySpace) → (refusals refusals' : ℕ) → Result T SpaceFault
    → (Airspace → T → Type 0) → Type 0
ReadsParts g store store' mirror mirror' refusals refusals' result P =
    (state : MirrorState) (batch : List BatchChange) → MirrorAgrees g store mirror state batch
    → MirrorAgrees g store' mirror' state batch
    × Reading g (mirrored_model store (pending_if_mirrored mirror batch) refusals)
    (mirrored_model store' (pending_if_mirrored mirror' batch) refusals') result P

-- Holds if a call that changes has its results and effects.
pub record Changing {S T : Type 0} (g : Ghosts S) (old new : MirroredModel S) (result : Result T SpaceFault)
    (change : Airspace → Airspace) : Type 0 where
  pub fixed : fixed_part new ≡ fixed_part old
  pub tells : ReportsFault old.refusals new.refusals (g.is_broken old.store) (g.is_broken new.store)
      result
  pub changes : Changes (holds_in g) (IsSoundIn g) (is_whole_in g) (g.is_broken old.store)
      old new result change

-- Holds if a commit has its results and effects.
pub record BatchCommit {S T : Type 0} (g : Ghosts S) (old new : MirroredModel S) (result : Result T SpaceFault)
    : Type 0 where
  pub tells : ReportsFault old.refusals new.refusals (g.is_broken old.store) (g.is_broken new.store)
      result
  pub calm : is_pending_in new ≡ false
  pub settles : CommitEffect (holds_in g) (persists_in g) (IsSoundIn g) (is_whole_in g) old new result
