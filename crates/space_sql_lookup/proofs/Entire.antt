-- Proofs that the entity that is read is the one that the tables represent.
use Rattle.std.proofs.Common.{◌≡◌, inl, inr, ◌<◌, ◌^◌, ℕ, List, [], ◌∷◌, map, Option, Some, None, sym, ap, subst, ◌∙◌, refl}
use Rattle.std.specs.FinMap.{get}
use Rattle.sqlite_rules.proofs.ListLemmas.{all_has}
use Rattle.sqlite.specs.Order.{Row}
use Rattle.sqlite.specs.Effect.{Database}
use Rattle.entity_core.specs.declared.entity.Entity.{Entity}
use Rattle.entity_core.specs.Airspace.{EntityKey}
use Rattle.entity_core.specs.Entity.{subscription_of}
use Rattle.space_rows.specs.declared.rows.EntityRow.{EntityRow}
use Rattle.space_rows.specs.declared.rows.VolumeRow.{VolumeRow}
use Rattle.space_rows.specs.declared.rows.CellRow.{CellRow}
use Rattle.space_rows.specs.Rows.{SpellsEntity}
use Rattle.space_sql_schema.specs.Spelling.{IsGroup, entity_values, volume_values, cell_values}
use Rattle.space_sql_lookup.specs.declared.entity_rows.OwnRows.{OwnRows}
use Rattle.space_sql_lookup.specs.EntityRows.{AnswersOwn, FindsOfHead}
use Rattle.space_sql_lookup.specs.Entity.{AnswersNamed, FindsNamed}
use Rattle.space_sql_lookup.proofs.Heads.{ShowsHead, head_shown}
use Rattle.space_sql_lookup.proofs.OwnRows.{own_volumes_shown, own_cells_shown}

-- A result that is right for the row is right for the kind and the id.
pub named_told : (db : Database) (k : EntityKey) → k.1 < 2 ^ 128 → (heads : List Row) (found : Option Entity) → AnswersNamed k db heads → FindsOfHead heads db found → FindsNamed k db found
named_told db k fits heads found h of a s = go (head_shown db a s k fits heads h)
  where
    go : ShowsHead db a s k heads → found ≡ get a.entities k
    go (inl (p, none)) = (of a s).none p ∙ sym none
    go (inr (g, there, p, is)) = (of a s).own g there p ∙ sym is

-- ---- at most one row

module _ (heads : List Row) (o : Option EntityRow) (none : heads ≡ [] → o ≡ None) (one : (x : EntityRow) → heads ≡ entity_values x ∷ [] → o ≡ Some x) where
  pub no_entity_told : o ≡ None → (db : Database) → FindsOfHead heads db None
  no_entity_told is db a s = record {
    none = λ e. refl;
    own = λ g there e. absurd (let both = sym is ∙ one g.row e in cc);
  }

  pub entity_told : (head : EntityRow) → o ≡ Some head → (rows : OwnRows) (x : Entity)
      → ((vs : List VolumeRow) (cs : List CellRow) (y : Entity) → rows.volumes.items ≡ map volume_values vs → rows.cells.items ≡ map cell_values cs → SpellsEntity head vs cs rows.named y → x ≡ y)
      → (db : Database) → AnswersOwn head.num db rows → FindsOfHead heads db (Some x)
  entity_told head is rows x spelt db h a s = record {
    none = λ e. absurd (let both = sym is ∙ none e in cc);
    own = λ g there e.
        let row : g.row ≡ head = let both = sym (one g.row e) ∙ is in cc in
        let num : g.row.num ≡ head.num = ap (λ (r : EntityRow). r.num) row in
        let own : AnswersOwn g.row.num db rows = subst (λ (r : EntityRow). AnswersOwn r.num db rows) (sym row) h in
        let named : rows.named ≡ subscription_of g.entity.nature = h.named a s g there num in
        let group = all_has (IsGroup a.serial s.subs) s.groups g s.each there in
        let spells = subst (λ (r : EntityRow). SpellsEntity r g.volumes g.cells rows.named g.entity) row (subst (λ (n : Option ℕ). SpellsEntity g.row g.volumes g.cells n g.entity) (sym named) group.spelt) in
        ap (λ (y : Entity). Some y) (spelt g.volumes g.cells g.entity (own_volumes_shown db a s g there rows.volumes.items own.volumes) (own_cells_shown db a s g there rows.cells.items own.cells) spells);
  }
