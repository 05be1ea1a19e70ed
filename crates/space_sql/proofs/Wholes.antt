-- Proofs that a loaded airspace is the content of one in memory.
use Rattle.std.proofs.Common.{◌≡◌, Ok, Err, Result, IfOk, sym, subst, refl, ◌∙◌}
use Rattle.std.specs.Prelude.{Bool, IfErr, IsTrue}
use Rattle.sqlite_trees.specs.declared.store.Store.{Ghosts}
use Rattle.sqlite.specs.Held.{Held, state}
use Rattle.sqlite.specs.State.{HasCleanDisk}
use Rattle.entity_core.specs.Airspace.{Airspace}
use Rattle.space_core.specs.declared.space.SpaceFault.{SpaceFault}
use Rattle.space_core.specs.declared.space.SpaceFault.TheVariants.{Unchanged, Broken}
use Rattle.space_core.specs.Space.{Reads, is_broken_after}
use Rattle.space_memory.specs.Memory.{content_of}
use Rattle.space_memory.specs.declared.memory.MemorySpace.{MemorySpace}
use Rattle.space_sql_load.specs.declared.table_check.LoadedAirspace.{LoadedAirspace}
use Rattle.space_sql_load.specs.Checking.{loaded_airspace}
use Rattle.space_sql.specs.Holding.{SqlSpaceModel, holds_in, holds_of, is_sound_of, is_whole_in, is_whole_of}

-- A result that is no worse than `Unchanged` does not break the space.
unbroken : {T : Type 0} (b : Bool) (r : Result T SpaceFault) → IfErr r (λ fault. fault ≡ Unchanged) → is_broken_after b r ≡ b
unbroken b (Ok x) fault = refl
unbroken b (Err Unchanged) fault = refl
unbroken b (Err Broken) fault = absurd (let no : Broken ≡ Unchanged = fault in cc)

-- Lemmas about the result after the airspace was loaded: counting it changes nothing that the space
-- holds.
module _ {S : Type 0} (g : Ghosts S) (old mid new : SqlSpaceModel S) (listed : LoadedAirspace) (conn : new.conn ≡ mid.conn) (broken : new.broken ≡ mid.broken)
    (it : Reads (holds_of g) (is_sound_of g) (is_whole_of g) old mid (Ok listed) (λ a found. loaded_airspace found ≡ a)) where
  sound_before : is_sound_of g new → is_sound_of g mid
  sound_before s = record {
    clean = subst (λ (h : Held S). HasCleanDisk (state g h)) conn s.clean;
    live = λ off. subst (λ (h : Held S). IsTrue (state g h).is_open) conn (s.live (broken ∙ off));
  }

  held_after : is_sound_of g new → (a : Airspace) → holds_of g old a → holds_of g new a
  held_after s a h = subst (λ (k : Held S). holds_in (state g k) a) (sym conn) (it.stays (sound_before s) a h)

  reads_found : (r : Result MemorySpace SpaceFault) → IfOk r (λ list. content_of list ≡ loaded_airspace listed) → IfErr r (λ fault. fault ≡ Unchanged)
      → Reads (holds_of g) (is_sound_of g) (is_whole_of g) old new r (λ a list. content_of list ≡ a)
  reads_found (Ok list) content fault = record {
    sound = λ s. it.sound (sound_before s);
    whole = λ s w. subst (λ (k : Held S). is_whole_in (state g k)) (sym conn) (it.whole (sound_before s) w);
    stays = held_after;
    no_other = λ s a h. it.no_other (sound_before s) a (subst (λ (k : Held S). holds_in (state g k) a) conn h);
    answer = λ s a h. content ∙ it.answer (sound_before s) a h;
  }
  reads_found (Err Unchanged) content fault = record {
    sound = λ s. it.sound (sound_before s);
    whole = λ s w. subst (λ (k : Held S). is_whole_in (state g k)) (sym conn) (it.whole (sound_before s) w);
    stays = held_after;
    no_other = λ s a h. it.no_other (sound_before s) a (subst (λ (k : Held S). holds_in (state g k) a) conn h);
    answer = λ s. tt;
  }
  reads_found (Err Broken) content fault = absurd (let no : Broken ≡ Unchanged = fault in cc)

-- The result of a space that loaded its airspace into memory.
pub reads_whole : {S : Type 0} (g : Ghosts S) {old seen mid new : SqlSpaceModel S} {listed : LoadedAirspace} {r : Result MemorySpace SpaceFault} → mid ≡ seen → new.conn ≡ mid.conn → new.broken ≡ is_broken_after mid.broken r
    → Reads (holds_of g) (is_sound_of g) (is_whole_of g) old seen (Ok listed) (λ a found. loaded_airspace found ≡ a)
    → IfOk r (λ list. content_of list ≡ loaded_airspace listed) → IfErr r (λ fault. fault ≡ Unchanged)
    → Reads (holds_of g) (is_sound_of g) (is_whole_of g) old new r (λ a list. content_of list ≡ a)
reads_whole {S} g {old} {seen} {mid} {new} {listed} {r} is conn breaks it content fault =
    reads_found g old mid new listed conn (breaks ∙ unbroken mid.broken r fault) (subst (λ (k : SqlSpaceModel S). Reads (holds_of g) (is_sound_of g) (is_whole_of g) old k (Ok listed) (λ a found. loaded_airspace found ≡ a)) (sym is) it) r content fault
