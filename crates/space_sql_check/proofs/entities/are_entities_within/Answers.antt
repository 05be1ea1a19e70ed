use Rattle.std.proofs.Common.{◌≡◌, ◌↔◌, ℕ, ℤ, List, Option, Some, None, Bool, true, false, IsTrue, refl, subst, to_z, of_z, w64, rules}
use Rattle.std.specs.Prelude.{MatchOption, is_some}
use Rattle.sqlite_trees.specs.Tree.{IsAscending}
use Rattle.sqlite.specs.Effect.{Database, IsDatabase}
use Rattle.sqlite.specs.Held.{state}
use Rattle.entity_core.specs.Airspace.{Entities as Map}
use Rattle.entity_maps.specs.Entities.{entity_map}
use Rattle.entity_maps.specs.declared.entities.Entities.{Entities}
use Rattle.space_sql_schema.specs.Tables.{dss_schema}
use Rattle.space_sql_schema.specs.Spelling.{SubGroup, IsSubBefore}
use Rattle.space_sql_load.specs.declared.naming.Numbered.{Numbered}
use Rattle.space_sql_load.specs.declared.tables.EntityTables.{EntityTables}
use Rattle.space_sql_load.specs.Gathering.{ListsEntities}
use Rattle.space_sql_check.specs.Parts.{AreNumbered, HasEntities, ShowsEntityTables, is_within, numbers_of}
use Rattle.space_sql_check.proofs.Sequences.{reads_so}
use Rattle.space_sql_check.proofs.EntityParts.{entities_listed, none_listed}
use Rattle.space_sql_check.proofs.entities.are_entities_within.Goals as goal

told : (serial : ℕ) (subs : List SubGroup) → IsAscending IsSubBefore subs → (db : Database) (over end : ℤ) (t : EntityTables) (o : Option Entities) (b : Bool) → b ≡ is_some o
    → MatchOption o ((m : Map) → ¬ ListsEntities serial (numbers_of subs) t m) (λ es. ListsEntities serial (numbers_of subs) t (entity_map es)) → db.schema ≡ dss_schema → IsDatabase db → ShowsEntityTables over end db t
    → IsTrue b ↔ HasEntities serial subs (is_within over end) db
told serial subs up db over end t (Some es) true e h has sound shows = ((λ _. entities_listed serial subs up db over end t shows (entity_map es) h), (λ _. refl))
told serial subs up db over end t None false e h has sound shows = ((λ no. absurd (let e = no in cc)), (λ there. absurd (none_listed serial subs up db over end t shows has sound h there)))
told serial subs up db over end t (Some es) false e h has sound shows = absurd cc
told serial subs up db over end t None true e h has sound shows = absurd cc

pub returns-clause-reads : goal.returns-clause-reads
returns-clause-reads g c =
    let over = c.args.over in
    let end = c.args.end in
    let serial = c.args.serial in
    let t = c.in_ok-tables.tables in
    let lo : to_z w64 (of_z w64 over) ≡ over = search rules in
    let hi : to_z w64 (of_z w64 end) ≡ end = search rules in
    reads_so (ShowsEntityTables over end) (λ db b. IsDatabase db → (subs : List SubGroup) → AreNumbered subs c.args.numbers.now → IsTrue b ↔ HasEntities serial subs (is_within over end) db) (state g.S.Store c.args.tx.now.conn.now) (state g.S.Store c.query_tables.new.tx.conn.now) t _
    (λ db has shows sound subs numbered. told serial subs numbered.1 db over end t c.in_ok-entities_in.field-0 c.is_some.result c.is_some.ensures
    (subst (λ (n : List Numbered). MatchOption c.in_ok-entities_in.field-0 ((m : Map) → ¬ ListsEntities serial n t m) (λ es. ListsEntities serial n t (entity_map es))) numbered.0 c.in_ok-entities_in.ensures) has sound shows)
    (rw (lo, hi) at c.in_ok-tables.ensures.reads)
