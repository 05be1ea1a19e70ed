-- A mirror that is ahead of its store by a batch.
use Rattle.std.specs.Prelude.{◌≡◌, ℕ, true, false, List, Some, None, Result, Ok, Err, IfOk, MatchResult, refl}
use Rattle.std.proofs.Common.{sym, ap, subst, ◌∙◌}
use Rattle.entity_core.specs.Airspace.{Airspace}
use Rattle.space_core.specs.declared.batch.BatchChange.{BatchChange}
use Rattle.space_core.specs.declared.space.Space.{Ghosts}
use Rattle.space_core.specs.declared.space.SpaceFault.{SpaceFault}
use Rattle.space_core.specs.declared.space.SpaceFault.TheVariants.{Unchanged, Broken}
use Rattle.space_core.specs.Batch.{changed_all}
use Rattle.space_core.specs.Space.{Reads, ReportsFault, UnlessBroken, is_broken_after, refusals_after}
use Rattle.space_memory.specs.declared.memory.MemorySpace.{MemorySpace}
use Rattle.space_memory.specs.Memory.{content_of}
use Rattle.space_mirror.specs.Mirrored.{MirrorAgrees, MirroredModel, HoldsOne, IsMirrorAhead, Reading, ReadsParts, mirrored_model, holds_in}
use Rattle.space_mirror.specs.declared.mirror_state.MirrorState.{MirrorState}
use Rattle.space_mirror.proofs.States.{ahead, agrees_ahead, agrees_without}

-- Reading a mirror does not change its airspace.
list_same : {T : Type 0} (l m : MemorySpace) (n n' : ℕ) (r : Result T SpaceFault) (P : Airspace → T → Type 0)
    → ReportsFault n n' false false r → Reads (λ (s : MemorySpace) a. a ≡ content_of s) (λ _. Unit {0}) (λ _. Unit {0}) l m r P
    → content_of m ≡ content_of l
list_same l m n n' (Ok x) P t r = sym (r.stays tt (content_of l) refl)
list_same l m n n' (Err Unchanged) P t r = sym (r.stays tt (content_of l) refl)
list_same l m n n' (Err Broken) P t r = absurd (let e = t.breaks in cc)

-- A call that leaves the mirror as it is reads it.
pub reads_kept : {T : Type 0} (l m : MemorySpace) (r : Result T SpaceFault) (P : Airspace → T → Type 0) → content_of m ≡ content_of l → IfOk r (λ found. P (content_of l) found)
    → Reads (λ (s : MemorySpace) a. a ≡ content_of s) (λ _. Unit {0}) (λ _. Unit {0}) l m r P
reads_kept l m (Ok x) P kept found = record {
  sound = λ _. tt;
  whole = λ _ _. tt;
  stays = λ _ a h. h ∙ sym kept;
  no_other = λ _ a h. h ∙ kept;
  answer = λ _ a h. subst (λ c. P c x) (sym h) found;
}
reads_kept l m (Err Unchanged) P kept found = record {
  sound = λ _. tt;
  whole = λ _ _. tt;
  stays = λ _ a h. h ∙ sym kept;
  no_other = λ _ a h. h ∙ kept;
  answer = λ _. tt;
}
reads_kept l m (Err Broken) P kept found = record {
  sound = λ _. tt;
  whole = λ _ _. tt;
  stays = λ _. tt;
  no_other = λ _ a h. h ∙ kept;
  answer = λ _. tt;
}

module _ {S : Type 0} (g : Ghosts S) where
  -- A mirror with the same airspace is ahead by the same batch.
  pub ahead_same : (s : S) (l m : MemorySpace) (batch : List BatchChange) → content_of m ≡ content_of l → IsMirrorAhead g s l batch → IsMirrorAhead g s m batch
  ahead_same s l m batch same h = record { live = h.live; base = λ sound. let it = h.base sound in (it.0, it.1, it.2, same ∙ it.3) }

  -- The visible airspace is that of the mirror.
  seen_listed : (s : S) (l : MemorySpace) (batch : List BatchChange) (n : ℕ) → IsMirrorAhead g s l batch → g.is_sound s → (b : Airspace) → holds_in g (mirrored_model s (Some batch) n) b → b ≡ content_of l
  seen_listed s l batch n h sound b seen =
      let it = h.base sound in
      seen.2 ∙ ap (changed_all batch) (it.1.only seen.0 seen.1) ∙ sym it.3

  -- A snapshot of the mirror is the visible airspace.
  pub list_shows : (s : S) (l : MemorySpace) (p : MirrorState) (batch : List BatchChange) (a : Airspace) → MirrorAgrees g s (Some l) p batch → a ≡ content_of l → g.is_sound s → (b : Airspace) → holds_in g (mirrored_model s (Some batch) 0) b → b ≡ a
  list_shows s l p batch a h same sound b seen = seen_listed s l batch 0 (ahead g s l p batch h) sound b seen ∙ sym same

  -- ---- reading

  -- After a read, a store still holds one airspace.
  pub one_read : {T : Type 0} (s t : S) (n n' : ℕ) (r : Result T SpaceFault) (P : Airspace → T → Type 0) → ReportsFault n n' (g.is_broken s) (g.is_broken t) r → Reads g.holds g.is_sound g.is_whole s t r P
      → HoldsOne g s → HoldsOne g t
  one_read s t n n' (Ok x) P tells reads one = λ works sound.
      let it = one (sym tells.breaks ∙ works) (reads.sound sound) in
      (it.0, record { held = reads.stays sound it.0 it.1.held; only = λ b now. it.1.only b (reads.no_other sound b now) })
  one_read s t n n' (Err Unchanged) P tells reads one = λ works sound.
      let it = one (sym tells.breaks ∙ works) (reads.sound sound) in
      (it.0, record { held = reads.stays sound it.0 it.1.held; only = λ b now. it.1.only b (reads.no_other sound b now) })
  one_read s t n n' (Err Broken) P tells reads one = λ works. absurd (let e : true ≡ false = sym tells.breaks ∙ works in cc)

  module _ {T : Type 0} (s : S) (k k' : ℕ) (P : Airspace → T → Type 0) where
    module _ (batch : List BatchChange) where
      abbrev Ahead : ℕ → MirroredModel S
      Ahead n = mirrored_model s (Some batch) n

      list_stays : (r : Result T SpaceFault) → MatchResult r (λ _. (a : Airspace) → holds_in g (Ahead k) a → holds_in g (Ahead k') a) (λ e. UnlessBroken e ((a : Airspace) → holds_in g (Ahead k) a → holds_in g (Ahead k') a))
      list_stays (Ok x) = λ a h. h
      list_stays (Err Unchanged) = λ a h. h
      list_stays (Err Broken) = tt

      list_answers : (l m : MemorySpace) (r : Result T SpaceFault) → IsMirrorAhead g s l batch → Reads (λ (s : MemorySpace) a. a ≡ content_of s) (λ _. Unit {0}) (λ _. Unit {0}) l m r P
          → g.is_sound s → IfOk r (λ found. (b : Airspace) → holds_in g (Ahead k) b → P b found)
      list_answers l m (Ok x) h reads sound = λ b seen. subst (λ c. P c x) (sym (seen_listed s l batch k h sound b seen)) (reads.answer tt (content_of l) refl)
      list_answers l m (Err e) h reads sound = tt

    list_unbroken : (l m : MemorySpace) (n n' : ℕ) (r : Result T SpaceFault) → ReportsFault n n' false false r → g.is_broken s ≡ is_broken_after (g.is_broken s) r
    list_unbroken l m n n' (Ok x) t = refl
    list_unbroken l m n n' (Err Unchanged) t = refl
    list_unbroken l m n n' (Err Broken) t = absurd (let e = t.breaks in cc)

    module _ (t : S) where
      abbrev Alone : S → ℕ → MirroredModel S
      Alone x n = mirrored_model x None n

      store_stays : (r : Result T SpaceFault) → MatchResult r (λ _. (a : Airspace) → g.holds s a → g.holds t a) (λ e. UnlessBroken e ((a : Airspace) → g.holds s a → g.holds t a))
          → MatchResult r (λ _. (a : Airspace) → holds_in g (Alone s k) a → holds_in g (Alone t k') a) (λ e. UnlessBroken e ((a : Airspace) → holds_in g (Alone s k) a → holds_in g (Alone t k') a))
      store_stays (Ok x) stays = λ b h. (h.0, stays h.0 h.1, h.2)
      store_stays (Err Unchanged) stays = λ b h. (h.0, stays h.0 h.1, h.2)
      store_stays (Err Broken) stays = tt

      store_answers : (r : Result T SpaceFault) → IfOk r (λ found. (a : Airspace) → g.holds s a → P a found) → IfOk r (λ found. (b : Airspace) → holds_in g (Alone s k) b → P b found)
      store_answers (Ok x) answer = λ b h. subst (λ c. P c x) (sym h.2) (answer h.0 h.1)
      store_answers (Err e) answer = tt

  -- A read from the mirror is a read of the mirrored space.
  pub list_reads : {T : Type 0} (s : S) (l m : MemorySpace) (n n' k k' : ℕ) (r r' : Result T SpaceFault) (P : Airspace → T → Type 0)
      → ReportsFault n n' false false r → Reads (λ (s : MemorySpace) a. a ≡ content_of s) (λ _. Unit {0}) (λ _. Unit {0}) l m r P
      → r' ≡ r → k' ≡ refusals_after k r → ReadsParts g s s (Some l) (Some m) k k' r' P
  list_reads s l m n n' k k' r r' P tells reads same counted state batch agrees = let h = ahead g s l state batch agrees in (
    agrees_ahead g s s l m state batch batch agrees (ahead_same s l m batch (list_same l m n n' r P tells reads) h),
    subst (λ q. Reading g (mirrored_model s (Some batch) k) (mirrored_model s (Some batch) k') q P) (sym same) (record {
      fixed = refl;
      tells = record { counted = counted; breaks = list_unbroken s k k' P l m n n' r tells; stays_broken = λ e. absurd (let f = h.live in cc) };
      reads = record {
        sound = λ sound. record { store = sound.store; fits = sound.fits; live = sound.live };
        whole = λ sound w. w;
        stays = λ sound. list_stays s k k' P batch r;
        no_other = λ sound a seen. seen;
        answer = λ sound. list_answers s k k' P batch l m r h reads sound.store;
      };
    }),
  )

  -- A read from the store is a read of the mirrored space, however the store counts its own
  -- `Unchanged` results.
  pub store_answers_parts : {T : Type 0} (s t : S) (n n' k k' : ℕ) (r r' : Result T SpaceFault) (P : Airspace → T → Type 0)
      → ReportsFault n n' (g.is_broken s) (g.is_broken t) r → Reads g.holds g.is_sound g.is_whole s t r P
      → r' ≡ r → k' ≡ refusals_after k r → ReadsParts g s t None None k k' r' P
  store_answers_parts s t n n' k k' r r' P tells reads same counted state batch none = (
    agrees_without g s t state batch (one_read s t n n' r P tells reads) none,
    subst (λ q. Reading g (mirrored_model s None k) (mirrored_model t None k') q P) (sym same) (record {
      fixed = refl;
      tells = record { counted = counted; breaks = tells.breaks; stays_broken = tells.stays_broken };
      reads = record {
        sound = λ sound. record { store = reads.sound sound.store; fits = λ a held. tt; live = λ waits. absurd (let e = waits in cc) };
        whole = λ sound w. reads.whole sound.store w;
        stays = λ sound. store_stays s k k' P t r (reads.stays sound.store);
        no_other = λ sound b seen. (seen.0, reads.no_other sound.store seen.0 seen.1, seen.2);
        answer = λ sound. store_answers s k k' P t r (reads.answer sound.store);
      };
    }),
  )

  -- A read from the store is a read of the mirrored space.
  pub store_reads : {T : Type 0} (s t : S) (k k' : ℕ) (r r' : Result T SpaceFault) (P : Airspace → T → Type 0)
      → ReportsFault (g.refusals s) (g.refusals t) (g.is_broken s) (g.is_broken t) r → Reads g.holds g.is_sound g.is_whole s t r P
      → r' ≡ r → k' ≡ refusals_after k r → ReadsParts g s t None None k k' r' P
  store_reads s t k k' r r' P tells reads same counted = store_answers_parts s t (g.refusals s) (g.refusals t) k k' r r' P tells reads same counted
