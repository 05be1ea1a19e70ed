-- Lemmas: the space after a purge chunk.
use Rattle.std.specs.Prelude.{ℕ, Bool, List, Ok, Err, refl}
use Rattle.std.proofs.Common.{inl, inr, subst, sym}
use Rattle.entity_core.specs.Airspace.{Airspace}
use Rattle.entity_purge.specs.declared.purge_item.PurgeItem.{PurgeItem}
use Rattle.entity_purge.specs.PurgeItem.{CanPurgeAll, IsPurgeChunk, without_items}
use Rattle.entity_purge.specs.Purge.{IsPartlyPurged}
use Rattle.entity_purge.proofs.PurgeItems.{gone_purged}
use Rattle.entity_purge.proofs.Chunks.{chunks_make}
use Rattle.space_core.specs.declared.space.Space as spaces
use Rattle.space_core.specs.declared.space.SpaceFault.{SpaceFault}
use Rattle.space_core.specs.declared.space.SpaceFault.TheVariants.{Broken, Unchanged}
use Rattle.space_core.specs.Space.{Changes, IsContent, Reads}
use Rattle.service_calls.specs.Purged.{LeavesPartly}

-- Deletes the found items of a space with a single airspace.
module _ {S T : Type 0} (g : spaces.Ghosts S) (until most : ℕ) (list : T → List PurgeItem) (old mid : S) (found : T) (reads : Reads g.holds g.is_sound g.is_whole old mid (Ok found) (λ a x. IsPurgeChunk until most (list x) a)) where
  pub can_go : g.is_sound mid → (a : Airspace) → g.holds mid a → CanPurgeAll (list found) a
  can_go sound a held = gone_purged.can until (list found) a (reads.answer sound a (reads.no_other sound a held)).go

  found_content : g.is_sound mid → (a : Airspace) → IsContent g.holds old a → IsContent g.holds mid a
  found_content sound a content = record {
    held = reads.stays sound a content.held;
    only = λ b held. content.only b (reads.no_other sound b held);
  }

  pub found_left : g.is_sound mid → (a : Airspace) → IsContent g.holds old a → (b : Airspace) × IsContent g.holds mid b × IsPartlyPurged until a b
  found_left sound a content = (a, found_content sound a content, chunks_make.nothing until a)

  found_partly : g.is_sound mid → (a : Airspace) → IsContent g.holds old a → IsPartlyPurged until a (without_items (list found) a)
  found_partly sound a content = gone_purged.partly until (list found) a (reads.answer sound a content.held).go

  module _ (was_broken : Bool) (new : S) where
    pub went_partly : (x : Unit {0}) → Changes g.holds g.is_sound g.is_whole was_broken mid new (Ok x) (without_items (list found)) → g.is_sound new → (a : Airspace) → IsContent g.holds old a → (b : Airspace) × IsContent g.holds new b × IsPartlyPurged until a b
    went_partly x changes sound a content =
        let before = changes.sound sound in
        (without_items (list found) a, changes.done sound a (found_content before a content).held, found_partly before a content)

    pub failed_partly : (fault : SpaceFault) → Changes {T = Unit {0}} g.holds g.is_sound g.is_whole was_broken mid new (Err fault) (without_items (list found)) → g.is_sound new → (a : Airspace) → IsContent g.holds old a → LeavesPartly g until a new (Err fault)
    failed_partly Unchanged changes sound a content =
        let there = found_content (changes.sound sound) a content in
        record {
          held = (changes.refused sound refl a).0 there.held;
          only = λ b held. there.only b ((changes.refused sound refl b).1 held);
        }
    failed_partly Broken changes sound a content =
        let before = changes.sound sound in
        let there = found_content before a content in
        λ b held. elim (changes.broken sound refl b held) [
          | inl kept ↦ subst (IsPartlyPurged until a) (sym (there.only b kept)) (chunks_make.nothing until a)
          | inr gone ↦ subst (IsPartlyPurged until a) (sym (gone a there.held)) (found_partly before a content)
        ]
