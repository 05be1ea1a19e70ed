-- A purge, chunk by chunk.
use Rattle.std.specs.Prelude.{◌≡◌, ◌⊎◌, ℕ, ◌+◌, ◌*◌, ◌<◌, Bool, true, List, [], ◌∷◌, ◌==◌, Result, Ok, Err, fold, length, refl}
use Rattle.std.proofs.Common.{arith, sym, ap, ◌∙◌, subst, inl, inr}
use Rattle.std.proofs.Math.Dec.{eqb-suc-zero}
use Rattle.entity_core.specs.Airspace.{Airspace}
use Rattle.entity_purge.specs.declared.purge_item.PurgeItem.{PurgeItem}
use Rattle.entity_purge.specs.PurgeItem.{CanPurgeAll, GoneIsPurged, IsPurgeChunk, without_items}
use Rattle.entity_purge.specs.Purge.{IsPartlyPurged, ChunksMakePurges, purged}
use Rattle.space_core.specs.Space.{Changes, IsContent, Reads, ReportsFault}
use Rattle.space_core.specs.declared.space.Space.{Ghosts}
use Rattle.space_core.specs.declared.space.SpaceFault.{SpaceFault}
use Rattle.space_core.specs.declared.space.SpaceFault.TheVariants.{Broken, Unchanged}
use Rattle.dss_command.specs.Purging.{PurgesSpace}
use Rattle.dss_command.specs.PurgeCounts.{IsLess, nothing, with_one}
use Rattle.dss_command.specs.declared.purged.PurgeCounts.{PurgeCounts}
use Rattle.dss_command.proofs.Counting.{CountsTo, all_less, counts_nothing}

-- A list that is reported empty is empty.
pub is_none : {X : Type 0} (xs : List X) (n : ℕ) (b : Bool) → n ≡ length xs → b ≡ (n == 0) → b ≡ true → xs ≡ []
is_none [] n b long is t = refl
is_none (x ∷ xs) n b long is t =
    let e : b ≡ (length (x ∷ xs) == 0) = is ∙ ap (λ (m : ℕ). m == 0) long in
    cc (eqb-suc-zero (length xs))

-- States that a space holds exactly one airspace, which is purged up to this progress after so many
-- chunks.
pub record IsSoFar {S : Type 0} (g : Ghosts S) (until chunks : ℕ) (a : Airspace) (s : S) (told : PurgeCounts) : Type 0 where
  pub airspace : Airspace
  pub content : IsContent g.holds s airspace
  pub partly : IsPartlyPurged until a airspace
  pub counts : CountsTo (256 * chunks) a airspace told

pub record PurgedSoFar {S : Type 0} (g : Ghosts S) (until chunks : ℕ) (old new : S) (told : PurgeCounts) : Type 0 where
  pub sound : g.is_sound new → g.is_sound old
  pub whole : g.is_sound new → g.is_whole old → g.is_whole new
  pub left : g.is_sound new → (a : Airspace) → IsContent g.holds old a → IsSoFar g until chunks a new told
  pub stays_broken : g.is_broken old ≡ true → g.is_broken new ≡ true
  pub frozen : g.is_sound new → g.is_broken old ≡ true → (b : Airspace) → g.holds new b → g.holds old b

pub begins : (chunks_make : ChunksMakePurges) {S : Type 0} (g : Ghosts S) (until : ℕ) (s : S) → PurgedSoFar g until 0 s s nothing
begins chunks_make g until s = record {
  sound = λ is. is;
  whole = λ is whole. whole;
  left = λ is a content. record { airspace = a; content = content; partly = chunks_make.nothing until a; counts = counts_nothing a };
  stays_broken = λ broken. broken;
  frozen = λ is broken b held. held;
}

module _ (law : GoneIsPurged) (chunks_make : ChunksMakePurges) {S V : Type 0} (items : V → List PurgeItem) (g : Ghosts S) (until : ℕ) where
  -- A partly purged state of a partly purged airspace is partly purged.
  further : (a b c : Airspace) → IsPartlyPurged until a b → IsPartlyPurged until b c → IsPartlyPurged until a c
  further a b c one two = (chunks_make.more until a b one).further c two

  -- A chunk that was found is a chunk of each airspace that the space may hold.
  abbrev pub Finds : (old new : S) → Result V SpaceFault → Type 0
  Finds old new result = Reads g.holds g.is_sound g.is_whole old new result (λ a gone. IsPurgeChunk until 256 (items gone) a)

  abbrev pub Says : {T : Type 0} → (old new : S) → Result T SpaceFault → Type 0
  Says old new result = ReportsFault (g.refusals old) (g.refusals new) (g.is_broken old) (g.is_broken new) result

  -- A space that returned `Ok` was not broken.
  alive : (old s t : S) (chunks : ℕ) (told : PurgeCounts) (gone : V) → PurgedSoFar g until chunks old s told → Says s t (Ok gone) → g.is_broken old ≡ true → ⊥
  alive old s t chunks told gone far says broken = let bad : ◌≡◌ {A = Result V SpaceFault} (Ok gone) (Err Broken) = says.stays_broken (far.stays_broken broken) in cc

  pub can_go : (s t : S) (gone : V) → Finds s t (Ok gone) → g.is_sound t → (a : Airspace) → g.holds t a → CanPurgeAll (items gone) a
  can_go s t gone finds is a held = law.can until (items gone) a (finds.answer is a (finds.no_other is a held)).go

  pub read_on : (chunks : ℕ) (old s t : S) (told : PurgeCounts) (gone : V) → PurgedSoFar g until chunks old s told → Says s t (Ok gone) → Finds s t (Ok gone) → PurgedSoFar g until chunks old t told
  read_on chunks old s t told gone far says finds = record {
    sound = λ is. far.sound (finds.sound is);
    whole = λ is whole. finds.whole is (far.whole (finds.sound is) whole);
    left = λ is a content.
        let so = far.left (finds.sound is) a content in
        record {
          airspace = so.airspace;
          content = record { held = finds.stays is so.airspace so.content.held; only = λ b held. so.content.only b (finds.no_other is b held) };
          partly = so.partly;
          counts = so.counts;
        };
    stays_broken = λ broken. absurd (alive old s t chunks told gone far says broken);
    frozen = λ is broken. absurd (alive old s t chunks told gone far says broken);
  }

  pub more : (chunks : ℕ) (broken : Bool) (old s t u : S) (told told' : PurgeCounts) (gone : V) (slice slice' : List PurgeItem) → chunks < 4_294_967_296 → PurgedSoFar g until chunks old s told → Says s t (Ok gone) → Finds s t (Ok gone)
      → slice ≡ items gone → Changes {T = Unit {0}} g.holds g.is_sound g.is_whole broken t u (Ok tt) (without_items slice) → slice' ≡ items gone → told' ≡ fold with_one told slice' → PurgedSoFar g until (chunks + 1) old u told'
  unfolding read_on
  more chunks broken old s t u told told' gone slice slice' few far says finds same made same' counted =
      let changes = subst (λ (gs : List PurgeItem). Changes {T = Unit {0}} g.holds g.is_sound g.is_whole broken t u (Ok tt) (without_items gs)) same made in
      let on = read_on chunks old s t told gone far says finds in
      subst (PurgedSoFar g until (chunks + 1) old u) (sym (counted ∙ ap (fold with_one told) same'))
      record {
        sound = λ is. on.sound (changes.sound is);
        whole = λ is whole. changes.whole is (on.whole (changes.sound is) whole);
        left = λ is a content.
            let was = far.left (finds.sound (changes.sound is)) a content in
            let so = on.left (changes.sound is) a content in
            let chunk = finds.answer (changes.sound is) so.airspace was.content.held in
            let most = chunk.few in
            record {
              airspace = without_items (items gone) so.airspace;
              content = changes.done is so.airspace so.content.held;
              partly = further a so.airspace (without_items (items gone) so.airspace) so.partly (law.partly until (items gone) so.airspace chunk.go);
              counts = all_less (items gone) (256 * chunks) (256 * (chunks + 1)) a so.airspace told (omega arith) (omega arith) (law.can until (items gone) so.airspace chunk.go) so.counts;
            };
        stays_broken = λ broken. absurd (alive old s t chunks told gone far says broken);
        frozen = λ is broken. absurd (alive old s t chunks told gone far says broken);
      }

  pub done : (chunks : ℕ) (old s t : S) (told : PurgeCounts) (gone : V) → items gone ≡ [] → PurgedSoFar g until chunks old s told → Says s t (Ok gone) → Finds s t (Ok gone) → PurgesSpace g until old t (Ok told)
  unfolding read_on
  done chunks old s t told gone none far says finds =
      let on = read_on chunks old s t told gone far says finds in
      record {
        sound = on.sound;
        whole = on.whole;
        left = λ is a content.
            let was = far.left (finds.sound is) a content in
            let so = on.left is a content in
            let chunk = finds.answer is so.airspace was.content.held in
            let all : so.airspace ≡ purged until a = sym (chunk.last none (omega arith)) ∙ so.partly.same in
            (subst (λ (b : Airspace). IsContent g.holds t b) all so.content, subst (λ (b : Airspace). IsLess a b told) all so.counts.less);
        stays_broken = λ broken. absurd (alive old s t chunks told gone far says broken);
        frozen = λ is broken. absurd (alive old s t chunks told gone far says broken);
      }

  pub stays : (chunks : ℕ) (old s : S) (told : PurgeCounts) (why : SpaceFault) → PurgedSoFar g until chunks old s told → PurgesSpace g until old s (Err why)
  stays chunks old s told why far = record {
    sound = far.sound;
    whole = far.whole;
    left = λ is a content b held.
        let so = far.left is a content in
        subst (λ (c : Airspace). IsPartlyPurged until a c) (sym (so.content.only b held)) so.partly;
    stays_broken = λ broken. refl;
    frozen = far.frozen;
  }

  pub unread : (chunks : ℕ) (old s t : S) (told : PurgeCounts) (why why' : SpaceFault) → PurgedSoFar g until chunks old s told → Finds s t (Err why) → PurgesSpace g until old t (Err why')
  unread chunks old s t told why why' far finds = record {
    sound = λ is. far.sound (finds.sound is);
    whole = λ is whole. finds.whole is (far.whole (finds.sound is) whole);
    left = λ is a content b held.
        let so = far.left (finds.sound is) a content in
        subst (λ (c : Airspace). IsPartlyPurged until a c) (sym (so.content.only b (finds.no_other is b held))) so.partly;
    stays_broken = λ broken. refl;
    frozen = λ is broken b held. far.frozen (finds.sound is) broken b (finds.no_other is b held);
  }

  -- The airspaces that the space may hold after a failed change.
  after_fault : (broken : Bool) (t u : S) (gone : List PurgeItem) (why : SpaceFault) → Changes {T = Unit {0}} g.holds g.is_sound g.is_whole broken t u (Err why) (without_items gone) → g.is_sound u → (a b : Airspace) → g.holds t a → g.holds u b → g.holds t b ⊎ (b ≡ without_items gone a)
  after_fault broken t u gone Unchanged changes is a b was held = inl ((changes.refused is refl b).1 held)
  after_fault broken t u gone Broken changes is a b was held =
      elim (changes.broken is refl b held) [
        | inl it ↦ inl it
        | inr it ↦ inr (it a was)
      ]

  pub unmade : (chunks : ℕ) (broken : Bool) (old s t u : S) (told : PurgeCounts) (gone : V) (slice : List PurgeItem) (why why' : SpaceFault) → PurgedSoFar g until chunks old s told → Says s t (Ok gone) → Finds s t (Ok gone)
      → slice ≡ items gone → Changes {T = Unit {0}} g.holds g.is_sound g.is_whole broken t u (Err why) (without_items slice) → PurgesSpace g until old u (Err why')
  unfolding read_on
  unmade chunks broken old s t u told gone slice why why' far says finds same made =
      let changes = subst (λ (gs : List PurgeItem). Changes {T = Unit {0}} g.holds g.is_sound g.is_whole broken t u (Err why) (without_items gs)) same made in
      let on = read_on chunks old s t told gone far says finds in
      record {
        sound = λ is. on.sound (changes.sound is);
        whole = λ is whole. changes.whole is (on.whole (changes.sound is) whole);
        left = λ is a content b held.
            let was = far.left (finds.sound (changes.sound is)) a content in
            let so = on.left (changes.sound is) a content in
            let chunk = finds.answer (changes.sound is) so.airspace was.content.held in
            elim (after_fault broken t u (items gone) why changes is so.airspace b so.content.held held) [
              | inl it ↦ subst (λ (c : Airspace). IsPartlyPurged until a c) (sym (so.content.only b it)) so.partly
              | inr it ↦ subst (λ (c : Airspace). IsPartlyPurged until a c) (sym it) (further a so.airspace (without_items (items gone) so.airspace) so.partly (law.partly until (items gone) so.airspace chunk.go))
            ];
        stays_broken = λ broken. refl;
        frozen = λ is broken. absurd (alive old s t chunks told gone far says broken);
      }
