-- Proofs that relate the content of files to the opened space.
use Rattle.std.specs.Prelude.{◌≡◌, ◌≢◌, ◌⊎◌, ◌<◌, [], length, Bool, IfErr, IfOk, Result, Ok, Err, refl}
use Rattle.std.proofs.Common.{false, inl, inr, sym, ap, subst, ◌∙◌, arith}
use Rattle.sqlite_trees.specs.Tree.{Trees}
use Rattle.sqlite_trees.specs.declared.store.Store as stores
use Rattle.sqlite.specs.Held.{Held, state}
use Rattle.sqlite.specs.Recovery.{Image}
use Rattle.sqlite.specs.Effect.{Database, IsDatabase}
use Rattle.sqlite.specs.Files.{AreFoundIn, HoldsDatabase, IsEmpty}
use Rattle.sqlite.specs.State.{State, HasCleanDisk, Survives}
use Rattle.sqlite.proofs.ListingLemmas.{empty_is_sound}
use Rattle.entity_core.specs.Airspace.{Airspace, empty_at}
use Rattle.space_core.specs.Space.{IsContent}
use Rattle.space_core.specs.declared.space.Space.{Ghosts}
use Rattle.space_sql_schema.specs.Making.{EmptyIfNoTable}
use Rattle.space_sql_schema.specs.Presence.{presence_in}
use Rattle.space_sql_schema.specs.Spelling.{SpellsAs, Spells}
use Rattle.space_sql_schema.specs.Tables.{no_schema, schema_of}
use Rattle.space_sql_schema.specs.declared.format.Format.{Format}
use Rattle.space_sql_schema.specs.declared.format.Format.TheVariants.{One, TwoUnindexed, Two, OldOne, OldTwoUnindexed, OldTwo}
use Rattle.space_sql_schema.specs.declared.presence.Presence.TheVariants.{Missing, Whole}
use Rattle.space_sql_schema.proofs.OneAirspace.{one_airspace_of}
use Rattle.space_sql_schema.proofs.Presences.{none_stands}
use Rattle.space_sql_open.specs.Opening.{MayHaveUpgraded, Refuses, format_before}
use Rattle.space_sql_open.specs.declared.old_format.OldFormat.{OldFormat}
use Rattle.space_sql_open.specs.declared.old_format.OldFormat.TheVariants as old_format
use Rattle.space_sql_open.specs.declared.open_fault.OpenFault.{OpenFault}
use Rattle.space_sql_open.specs.declared.open_fault.OpenFault.TheVariants.{Store}
use Rattle.space_sql.specs.Found.{AreUnmade, FilesSpell, FindsSpelt, HasTables, IsOpenedOver, KeepsAs, RefusesFound, tables_of}
use Rattle.space_sql.specs.Holding.{SqlSpaceModel, Rests}
use Rattle.space_sql.specs.OpenResult.{HoldsSpelt, IsDueFault, IsFresh, MayBeOpened, CommittedIfFound, finds_first, is_first}
use Rattle.space_sql.proofs.Openings.{stands_as}
use Rattle.space_sql.proofs.Outcomes.{one_schema}

pub respell_as : (format : Format) (D E : Database) (a : Airspace) → D.schema ≡ E.schema → D.trees ≡ E.trees → SpellsAs format D a → SpellsAs format E a
respell_as format D E a schema trees p = let path : D ≡ E = λ i. record { schema = schema i; trees = trees i } in subst (λ d. SpellsAs format d a) path p

-- The trees of a database that represents an airspace store it.
pub keeps_of : (format : Format) (db : Trees) (d : Database) (a : Airspace) → db ≡ d.trees → IsDatabase d → SpellsAs format d a → KeepsAs format db a
keeps_of format db d a is obeys p =
    let path : d ≡ tables_of format db = λ i. record { schema = p.schema i; trees = sym is i } in
    (subst IsDatabase path obeys, subst (λ d. SpellsAs format d a) path p)

-- If the database file has no byte, only an empty database is found.
new_found : (image : Image) → image.db ≡ [] → (db : Trees) → AreFoundIn image db → IsEmpty db
new_found image none db (inl it) = absurd (let some : 0 < length image.db = it.3.found.present in let few : length image.db ≡ 0 = ap length none in omega (arith, some, few))
new_found image none db (inr it) = it.1

pub new_is_unmade : (image : Image) → image.db ≡ [] → AreUnmade image
new_is_unmade image none = inl (inl (inl (ap length none)), new_found image none)

module _ (image : Image) (s : State) (it : IsOpenedOver image s) where
  found_trees : (db : Trees) → HoldsDatabase image db → s.now.trees ≡ db
  found_trees db holds = ap (λ (d : Database). d.trees) it.settled ∙ it.found.holds db holds

  found_schema : (format : Format) (db : Trees) → HasTables format image db → s.now.schema ≡ schema_of format
  found_schema format db has =
      let trees = found_trees db has.0 in
      let seen : IsDatabase (record { schema = s.now.schema; trees = db }) = subst (λ t. IsDatabase (record { schema = s.now.schema; trees = t })) trees (it.live it.is_open).0 in
      one_schema db s.now.schema (schema_of format) seen has.1

  found_spelt : (format : Format) (a : Airspace) → FilesSpell format image a → SpellsAs format s.now a
  found_spelt format a h = respell_as format (tables_of format h.0) s.now a (sym (found_schema format h.0 (h.1, h.2.0))) (sym (found_trees h.0 h.1)) h.2.1

  found_empty : AreUnmade image → IsEmpty s.committed.trees
  found_empty none = elim none [
    | inl blank ↦ blank.1 s.committed.trees it.found.reads
    | inr held ↦ subst IsEmpty (sym (it.found.holds held.0 held.1)) held.2
  ]

  found_none : AreUnmade image → s.now.schema ≡ no_schema
  found_none none =
      let empty = found_empty none in
      ap (λ (d : Database). d.schema) it.settled ∙ one_schema s.committed.trees s.committed.schema no_schema (it.live it.is_open).1 (empty_is_sound s.committed.trees empty.1)

  held_found : {S : Type 0} (space : Ghosts (SqlSpaceModel S)) (k : SqlSpaceModel S) → HoldsSpelt space s k → space.is_sound k → (format : Format) (a : Airspace) → FilesSpell format image a → IsContent space.holds k a
  held_found space k holds sound format a h =
      let own = holds format sound (found_schema format h.0 (h.1, h.2.0)) in
      subst (λ b. IsContent space.holds k b) (one_airspace_of format s.now s.now own.0 a refl own.1 (found_spelt format a h)) own.2

  told_found : (upgraded : Bool) → upgraded ≡ finds_first (presence_in s.now.schema) → (format : Format) (a : Airspace) → FilesSpell format image a → upgraded ≡ is_first format
  told_found upgraded told format a h = told ∙ ap finds_first (stands_as format s.now.schema (found_schema format h.0 (h.1, h.2.0)))

  due_found : (fault : OpenFault) → ((format : Format) → s.now.schema ≡ schema_of format → Refuses format s.now fault) → (format : Format) (db : Trees) → HasTables format image db → Refuses format (tables_of format db) fault
  due_found fault due format db has =
      let schema = found_schema format db has in
      let trees = found_trees db has.0 in
      let path : s.now ≡ tables_of format db = λ i. record { schema = schema i; trees = trees i } in
      subst (λ d. Refuses format d fault) path (due format schema)

  moved_found : (from : OldFormat) (a : Airspace) → FilesSpell (format_before from) image a → (db : Trees) → MayHaveUpgraded from s db → KeepsAs Two db a
  moved_found from a h db may =
      let format = format_before from in
      let moved = may (found_schema format h.0 (h.1, h.2.0)) in
      let same = one_airspace_of format s.now s.now moved.0 a refl moved.1 (found_spelt format a h) in
      keeps_of Two db moved.2.0 a moved.2.1 moved.2.2 (subst (λ b. Spells moved.2.0 b) same moved.2.3)

  -- The trees that may be committed over files that represent an airspace store it in format 2.
  taken_found : (format : Format) (a : Airspace) → FilesSpell format image a → (db : Trees) → CommittedIfFound (Whole format) s db → KeepsAs Two db a
  taken_found One a h db may = moved_found old_format.One a h db may
  taken_found TwoUnindexed a h db may = moved_found old_format.TwoUnindexed a h db may
  taken_found Two a h db may = absurd may
  taken_found OldOne a h db may = moved_found old_format.OldOne a h db may
  taken_found OldTwoUnindexed a h db may = moved_found old_format.OldTwoUnindexed a h db may
  taken_found OldTwo a h db may = moved_found old_format.OldTwo a h db may

  left_found : (back : State) (fault : OpenFault) → Rests s → Survives s back (MayBeOpened s fault) → HasCleanDisk back → (format : Format) (a : Airspace) → FilesSpell format image a → (db : Trees) → back.may_leave db → KeepsAs format db a ⊎ KeepsAs Two db a
  left_found back fault rests went clean format a h db may = elim (went.crash clean db may) [
    | inl earlier ↦
        let same : db ≡ h.0 = rests.no_other db it.is_open earlier ∙ it.found.holds h.0 h.1 in
        inl (subst (λ t. KeepsAs format t a) (sym same) h.2)
    | inr taken ↦ inr (taken_found format a h db (subst (λ p. CommittedIfFound p s db) (stands_as format s.now.schema (found_schema format h.0 (h.1, h.2.0))) taken.1))
  ]

  left_unmade : (back : State) (fault : OpenFault) → Rests s → Survives s back (MayBeOpened s fault) → HasCleanDisk back → AreUnmade image → presence_in no_schema ≡ Missing → (db : Trees) → back.may_leave db → IsEmpty db ⊎ KeepsAs Two db (empty_at 0)
  left_unmade back fault rests went clean none missing db may = elim (went.crash clean db may) [
    | inl earlier ↦ inl (subst IsEmpty (sym (rests.no_other db it.is_open earlier)) (found_empty none))
    | inr taken ↦
        let schema = found_none none in
        let stands = ap presence_in schema ∙ missing in
        let may : EmptyIfNoTable s db = subst (λ p. CommittedIfFound p s db) stands taken.1 in
        let made = may schema in
        inr (keeps_of Two db made.0 (empty_at 0) made.1 made.2 made.3)
  ]

  left_unwritten : (back : State) (fault : OpenFault) → Rests s → Survives s back (MayBeOpened s fault) → HasCleanDisk back → fault ≢ Store → (db : Trees) → back.may_leave db → AreFoundIn image db
  left_unwritten back fault rests went clean other db may = elim (went.crash clean db may) [
    | inl earlier ↦ subst (AreFoundIn image) (sym (rests.no_other db it.is_open earlier)) it.found.reads
    | inr taken ↦ absurd (other taken.0)
  ]

-- Proves `FindsSpelt` for an adopted space.
pub finds : {S : Type 0} (image : Image) (s : State) (space : Ghosts (SqlSpaceModel S)) (k : SqlSpaceModel S) → (space.is_sound k → IsOpenedOver image s) → HoldsSpelt space s k → (space.is_sound k → s.now.schema ≡ no_schema → IsContent space.holds k (empty_at 0))
    → (space.is_sound k → (a : Airspace) → space.holds k a → space.is_whole k) → k.upgraded ≡ finds_first (presence_in s.now.schema) → FindsSpelt image space k
finds image s space k opened holds made whole told = record {
  spelt = λ sound. held_found image s (opened sound) space k holds sound;
  new = λ sound none. made sound (found_none image s (opened sound) none);
  whole = whole;
  upgraded = λ sound. told_found image s (opened sound) k.upgraded told;
  made = λ sound none.
      let schema = found_none image s (opened sound) none in
      told ∙ ap finds_first (ap presence_in schema ∙ none_stands);
}

-- Proves `RefusesFound` after a fault.
pub refuses : (image : Image) (s back : State) (fault : OpenFault) → (HasCleanDisk s → IsOpenedOver image s) → Rests s → Survives s back (MayBeOpened s fault) → IsDueFault s back fault → (s.now.schema ≡ no_schema → fault ≡ Store) → RefusesFound image back fault
refuses image s back fault opened rests went due new =
    let before = λ (clean : HasCleanDisk back). opened (omega (arith, went.clean, clean)) in
    record {
      due = λ clean. due_found image s (before clean) fault (λ format. due format clean);
      new = λ clean none. new (found_none image s (before clean) none);
      spelt = λ clean. left_found image s (before clean) back fault rests went clean;
      unmade = λ clean none. left_unmade image s (before clean) back fault rests went clean none none_stands;
      unwritten = λ clean. left_unwritten image s (before clean) back fault rests went clean;
    }

module _ {S L : Type 0} (g : stores.Ghosts S) (image : Image) (s : State) (opened : HasCleanDisk s → IsOpenedOver image s) where
  -- Proves the result of a successful opening.
  pub finds_ok : (space : Ghosts (SqlSpaceModel S)) (clean : (k : SqlSpaceModel S) → space.is_sound k → HasCleanDisk (state g k.conn)) (certain : (k : SqlSpaceModel S) (a : Airspace) → space.is_sound k → space.is_broken k ≡ false → space.holds k a → space.is_whole k)
      → (r : Result (SqlSpaceModel S × L) (OpenFault × Held S)) → IfOk r (λ t. IsFresh g space t.0) → IfOk r (λ t. HasCleanDisk (state g t.0.conn) → HasCleanDisk s) → IfOk r (λ t. HoldsSpelt space s t.0)
      → IfOk r (λ t. space.is_sound t.0 → s.now.schema ≡ no_schema → IsContent space.holds t.0 (empty_at 0)) → IfOk r (λ t. t.0.upgraded ≡ finds_first (presence_in s.now.schema)) → IfOk r (λ t. FindsSpelt image space t.0)
  finds_ok space clean certain (Ok t) fresh before holds made told = finds image s space t.0 (λ sound. opened (before (clean t.0 sound))) holds made (λ sound a. certain t.0 a sound fresh.works) told
  finds_ok space clean certain (Err e) fresh before holds made told = tt

  pub refuses_err : Rests s → (r : Result (SqlSpaceModel S × L) (OpenFault × Held S)) → IfErr r (λ e. Survives s (state g e.1) (MayBeOpened s e.0)) → IfErr r (λ e. IsDueFault s (state g e.1) e.0) → IfErr r (λ e. s.now.schema ≡ no_schema → e.0 ≡ Store)
      → IfErr r (λ e. RefusesFound image (state g e.1) e.0)
  refuses_err rests (Ok t) went due new = tt
  refuses_err rests (Err e) went due new = refuses image s (state g e.1) e.0 opened rests went due new
