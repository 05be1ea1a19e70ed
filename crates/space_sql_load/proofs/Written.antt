-- Proofs that the texts of rows that represent something are UTF-8.
use Rattle.std.specs.Prelude.{ℕ, ℤ, List, [], ◌∷◌, Option, IsUtf8, refl}
use Rattle.std.specs.List.{AllByRecursion, AllZip}
use Rattle.std.proofs.Common.{sym, subst, inl}
use Rattle.std.proofs.lemmas.Str.{IsUtf8-from_ascii}
use Rattle.std.specs.FinMap.{insert}
use Rattle.std.specs.Int.{w128, to_be_bytes}
use Rattle.uuid.specs.Text.{lower}
use Rattle.uuid.proofs.TextLemmas.{hyphenated_ascii}
use Rattle.grid_core.specs.Cell.{Cell}
use Rattle.grid_core.specs.Token.{is_lower_digit}
use Rattle.grid_core.proofs.Tokens.{lower_is_ascii}
use Rattle.entity_core.specs.declared.entity.Entity.{Entity}
use Rattle.entity_core.specs.declared.subscription.Sub.{Sub}
use Rattle.entity_core.specs.Airspace.{Entities, key_of}
use Rattle.entity_core.specs.EntityId.{printed}
use Rattle.space_rows.specs.declared.rows.EntityRow.{EntityRow}
use Rattle.space_rows.specs.declared.rows.VolumeRow.{VolumeRow}
use Rattle.space_rows.specs.declared.rows.CellRow.{CellRow}
use Rattle.space_rows.specs.declared.rows.SubRow.{SubRow}
use Rattle.space_rows.specs.declared.rows.SubCellRow.{SubCellRow}
use Rattle.space_rows.specs.Subs.{IsSubCellRow, SpellsSub}
use Rattle.space_rows.specs.Rows.{PlacedCell, IsCellRow, SpellsEntity}
use Rattle.space_rows.proofs.Chunks.{all_joined}
use Rattle.space_sql_select.specs.Rows.{IsWrittenEntity, IsWrittenCell, IsWrittenSub, IsWrittenSubCell}
use Rattle.space_sql_select.proofs.Written.{ascii_all, name_utf8, visible_utf8, ovn_utf8}
use Rattle.space_sql_load.specs.declared.naming.Numbered.{Numbered}
use Rattle.space_sql_load.specs.Gathering.{Gathers, GathersSubs, Parts, Subs, with_sub}

pub id_utf8 : (id : ℕ) → IsUtf8 (printed id)
id_utf8 id = IsUtf8-from_ascii _ (hyphenated_ascii lower (to_be_bytes w128 id) (inl refl))

pub entity_written : (row : EntityRow) (volumes : List VolumeRow) (cells : List CellRow) (named : Option ℕ) (e : Entity) → SpellsEntity row volumes cells named e → IsWrittenEntity row
entity_written row volumes cells named e s = record {
  id = subst IsUtf8 (sym s.entity.id) (id_utf8 e.id);
  manager = subst IsUtf8 (sym s.entity.manager) (name_utf8 e.manager s.kept.manager);
  ovn = subst IsUtf8 (sym s.entity.ovn) (ovn_utf8 e.ovn s.kept.ovn);
  url = subst IsUtf8 (sym s.entity.url) (visible_utf8 1 255 e.url s.kept.url);
}

pub cells_written : (num : ℤ) (cells : List CellRow) (placed : List PlacedCell) → AllZip (IsCellRow num) cells placed → AllByRecursion IsWrittenCell cells
cells_written num [] placed zip = tt
cells_written num (c ∷ cells) [] zip = absurd zip
cells_written num (c ∷ cells) (p ∷ placed) zip = (IsUtf8-from_ascii c.token (ascii_all is_lower_digit lower_is_ascii c.token zip.0.token.lower), cells_written num cells placed zip.1)

pub gathered_written : (serial : ℕ) (numbers : List Numbered) (last : ℤ) (rows : List EntityRow) (parts : Parts) (m n : Entities) → Gathers serial numbers last rows parts m n
    → AllByRecursion IsWrittenEntity rows × AllByRecursion IsWrittenCell parts.cells
gathered_written serial numbers last [] parts m n g = (tt, subst (λ (p : Parts). AllByRecursion IsWrittenCell p.cells) (sym g.0) tt)
gathered_written serial numbers last (row ∷ rows) parts m n g =
    let s = g.0 in
    let more = gathered_written serial numbers row.num rows s.more (insert m (key_of s.entity) s.entity) n g.1 in (
      (entity_written row s.own.volumes s.own.cells s.named s.entity s.next.spelt, more.0),
      subst (λ (p : Parts). AllByRecursion IsWrittenCell p.cells) (sym s.parts_are) (all_joined IsWrittenCell s.own.cells s.more.cells (cells_written row.num s.own.cells _ s.next.spelt.cells_are) more.1),
    )

-- ---- subscriptions

pub sub_written : (row : SubRow) (cells : List SubCellRow) (s : Sub) → SpellsSub row cells s → IsWrittenSub row
sub_written row cells s p = record {
  id = subst IsUtf8 (sym p.sub.id) (id_utf8 s.id);
  manager = subst IsUtf8 (sym p.sub.manager) (name_utf8 s.manager p.kept.manager);
  version = subst IsUtf8 (sym p.sub.version) (ovn_utf8 s.version p.kept.version);
  url = subst IsUtf8 (sym p.sub.url) (visible_utf8 1 255 s.url p.kept.url);
}

pub sub_cells_written : (num : ℤ) (cells : List SubCellRow) (placed : List (ℕ × Cell)) → AllZip (IsSubCellRow num) cells placed → AllByRecursion IsWrittenSubCell cells
sub_cells_written num [] placed zip = tt
sub_cells_written num (c ∷ cells) [] zip = absurd zip
sub_cells_written num (c ∷ cells) (p ∷ placed) zip = (IsUtf8-from_ascii c.token (ascii_all is_lower_digit lower_is_ascii c.token zip.0.token.lower), sub_cells_written num cells placed zip.1)

pub subs_written : (serial : ℕ) (last : ℤ) (rows : List SubRow) (cells : List SubCellRow) (m a : Subs) → GathersSubs serial last rows cells m a → AllByRecursion IsWrittenSub rows × AllByRecursion IsWrittenSubCell cells
subs_written serial last [] cells m a g = (tt, subst (AllByRecursion IsWrittenSubCell) (sym g.0) tt)
subs_written serial last (row ∷ rows) cells m a g =
    let s = g.0 in
    let more = subs_written serial row.num rows s.more (with_sub row s.sub m) a g.1 in (
      (sub_written row s.own s.sub s.next.spelt, more.0),
      subst (AllByRecursion IsWrittenSubCell) (sym s.cells_are) (all_joined IsWrittenSubCell s.own s.more (sub_cells_written row.num s.own _ s.next.spelt.cells_are) more.1),
    )

pub all_written : {X : Type 0} (xs : List X) → AllByRecursion (λ _. Unit {0}) xs
all_written [] = tt
all_written (x ∷ xs) = (tt, all_written xs)
