-- A space over tables was read before, and has its mirror.
use Rattle.std.specs.Prelude.{◌≡◌, true, false, Result, Ok, refl}
use Rattle.std.proofs.Common.{sym, subst, ◌∙◌}
use Rattle.sqlite_trees.specs.declared.store.Store.{Ghosts}
use Rattle.space_core.specs.declared.space.SpaceFault.{SpaceFault}
use Rattle.space_core.specs.Space.{Reads, ReportsFault}
use Rattle.space_sql_load.specs.Checking.{loaded_airspace}
use Rattle.space_sql_load.specs.declared.table_check.LoadedAirspace.{LoadedAirspace}
use Rattle.space_sql.specs.Holding.{SqlSpaceModel, holds_of, is_sound_of, is_whole_of}
use Rattle.space_sql.specs.Load.{IsAllOf}

-- The space after one read.
abbrev IsRead : {S : Type 0} → Ghosts S → SqlSpaceModel S → SqlSpaceModel S → Type 0
IsRead g old new =
    (answer : Result LoadedAirspace SpaceFault) × ReportsFault old.refusals new.refusals old.broken new.broken answer
    × Reads (holds_of g) (is_sound_of g) (is_whole_of g) old new answer (λ a found. loaded_airspace found ≡ a)

module _ {S : Type 0} (g : Ghosts S) where
  as_it_is : (k : SqlSpaceModel S) (l : LoadedAirspace) → IsAllOf g k l → IsRead g k k
  as_it_is k l all = (
    Ok l,
    record { counted = refl; breaks = refl; stays_broken = λ broken. absurd (let bad : false ≡ true = sym all.works ∙ broken in cc) },
    record {
      sound = λ sound. sound;
      whole = λ sound whole. whole;
      stays = λ sound a held. held;
      no_other = λ sound a held. held;
      answer = λ sound a held. sym ((all.content sound).only a held);
    },
  )

  -- What was read before counts as read.
  pub read_before : (old new : SqlSpaceModel S) (l : LoadedAirspace) → IsAllOf g old l → new ≡ old → IsRead g old new
  read_before old new l all same = subst (λ (k : SqlSpaceModel S). IsRead g old k) (sym same) (as_it_is old l all)
