-- Proofs about reading an entity from its row, its volumes and their number.
use Rattle.std.specs.Prelude.{◌≡◌, ℕ, ◌≤◌, List, length, Option, Some, None, refl}
use Rattle.std.proofs.Common.{sym, subst}
use Rattle.grid_core.specs.Extent.{Extent}
use Rattle.entity_core.specs.declared.entity.Entity.{Entity}
use Rattle.space_rows.specs.declared.rows.EntityRow.{EntityRow}
use Rattle.space_rows.specs.declared.rows.VolumeRow.{VolumeRow}
use Rattle.space_rows.specs.declared.rows.CellRow.{CellRow}
use Rattle.space_rows.specs.declared.head.Head.{Head}
use Rattle.space_rows.specs.Rows.{SpellsEntity}
use Rattle.space_rows.proofs.OneEntity.{one_volumes}
use Rattle.space_rows.specs.Finds.{Finds}
use Rattle.space_rows.specs.Head.{HasVolumes, SpellsHead, with_volumes, head_part}
use Rattle.space_rows.specs.Volumes.{SpellsVolumes}

pub has_head : (row : EntityRow) (volumes : List VolumeRow) (cells : List CellRow) (named : Option ℕ) (e : Entity) → SpellsEntity row volumes cells named e → SpellsHead row named (head_part e)
has_head row volumes cells named e s = record {
  least = s.entity.least;
  most = s.entity.most;
  nature = record { kind_is = s.entity.kind; state_is = s.entity.state; named_is = s.named_is };
  id = record { text_is = s.entity.id; fits = s.kept.id };
  manager = record { same = s.entity.manager; right = s.kept.manager };
  version = record { number = s.entity.version; least = s.kept.version.0; most = s.kept.version.1 };
  serial = record { number = s.entity.serial; least = s.kept.serial.0; most = s.kept.serial.1 };
  ovn = record { same = s.entity.ovn; right = s.kept.ovn };
  url = record { same = s.entity.url; right = s.kept.url };
}

whole : (row : EntityRow) (volumes : List VolumeRow) (cells : List CellRow) (named : Option ℕ) (h : Head) (es : List Extent) → SpellsHead row named h → SpellsVolumes row.num 0 volumes cells es → (1 ≤ length es) × (length es ≤ 32) → SpellsEntity row volumes cells named (with_volumes h es)
whole row volumes cells named h es p v n = record {
  entity = record {
    least = p.least;
    most = p.most;
    kind = p.nature.kind_is;
    id = p.id.text_is;
    manager = p.manager.same;
    state = p.nature.state_is;
    version = p.version.number;
    serial = p.serial.number;
    ovn = p.ovn.same;
    url = p.url.same;
  };
  volumes_are = v.volumes_are;
  cells_are = v.cells_are;
  named_is = p.nature.named_is;
  kept = record {
    id = p.id.fits;
    manager = p.manager.right;
    version = (p.version.least, p.version.most);
    serial = (p.serial.least, p.serial.most);
    ovn = p.ovn.right;
    count = n;
    volumes = v.kept;
    url = p.url.right;
  };
}

pub found_entity : (row : EntityRow) (volumes : List VolumeRow) (cells : List CellRow) (named : Option ℕ) (h : Head) (es : List Extent) (o : Option Entity) → SpellsHead row named h → SpellsVolumes row.num 0 volumes cells es
    → Finds (HasVolumes h es) o → Finds (SpellsEntity row volumes cells named) o
found_entity row volumes cells named h es None p v f = λ e s.
    let same : e.volumes ≡ es = one_volumes row.num volumes cells e.volumes es s.kept.volumes v.kept s.volumes_are v.volumes_are s.cells_are v.cells_are in
    f (with_volumes h es) (record { whole = refl; count = subst (λ (l : List Extent). (1 ≤ length l) × (length l ≤ 32)) same s.kept.count })
found_entity row volumes cells named h es (Some e) p v f = subst (SpellsEntity row volumes cells named) (sym f.whole) (whole row volumes cells named h es p v f.count)

pub no_volumes : (row : EntityRow) (volumes : List VolumeRow) (cells : List CellRow) (named : Option ℕ) → ((es : List Extent) → ¬ SpellsVolumes row.num 0 volumes cells es) → (e : Entity) → ¬ SpellsEntity row volumes cells named e
no_volumes row volumes cells named none e s = none e.volumes (record { volumes_are = s.volumes_are; cells_are = s.cells_are; kept = s.kept.volumes })
