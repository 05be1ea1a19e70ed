-- Proofs about reading a subscription from its row, its cells and its bounds.
use Rattle.std.specs.Prelude.{◌≡◌, ◌≤◌, ℤ, pos, List, length, None, zero, suc, refl}
use Rattle.std.proofs.Common.{sym, ap₂, subst, ◌∙◌, arith}
use Rattle.grid_core.specs.Cell.{Cell}
use Rattle.grid_core.proofs.CellNumber.{same_cell}
use Rattle.grid_core.specs.Extent.{Extent, region_of, region_fault}
use Rattle.entity_core.specs.declared.interest.Interest.{Interest}
use Rattle.entity_core.specs.declared.interest.Interest.TheVariants.{Intents, Constraints, Both}
use Rattle.entity_core.specs.declared.subscription.Sub.{Sub}
use Rattle.space_rows.specs.declared.rows.SubRow.{SubRow}
use Rattle.space_rows.specs.declared.rows.SubCellRow.{SubCellRow}
use Rattle.space_rows.specs.declared.sub_head.SubHead.{SubHead}
use Rattle.space_rows.specs.Volumes.{HasBounds}
use Rattle.space_rows.specs.Subs.{IsSubCellRow, SpellsInterest, SpellsSub}
use Rattle.space_rows.specs.Cells.{SpellsCell, SpellsCells}
use Rattle.space_rows.specs.SubHead.{SpellsSubHead, bounds_of, sub_head_part, with_volume}
use Rattle.space_rows.specs.Laws.{OneSub}
use Rattle.space_rows.proofs.OneEntity.{one_id, one_pos}
use Rattle.space_rows.proofs.CellRows.{one_cells}

one_sub_cells : (num : ℤ) (rows : List SubCellRow) (cs ds : List Cell) → SpellsCells (IsSubCellRow num) 0 rows cs → SpellsCells (IsSubCellRow num) 0 rows ds → cs ≡ ds
one_sub_cells num = one_cells (IsSubCellRow num) (λ n row c d p q. same_cell c d p.valid q.valid (p.row_is.token.reads.number ∙ sym q.row_is.token.reads.number)) 0

pub sub_head_in : (row : SubRow) (cells : List SubCellRow) (s : Sub) → SpellsSub row cells s → SpellsSubHead row (sub_head_part s)
sub_head_in row cells s p = record {
  least = p.sub.least;
  most = p.sub.most;
  id = record { text_is = p.sub.id; fits = p.kept.id };
  manager = record { same = p.sub.manager; right = p.kept.manager };
  serial = record { number = p.sub.serial; least = p.kept.serial.0; most = p.kept.serial.1 };
  version = record { same = p.sub.version; right = p.kept.version };
  notes = record { number = p.sub.notes; most = p.kept.index };
  url = record { same = p.sub.url; right = p.kept.url };
  interest = p.sub.interest;
}

pub sub_cells_in : (row : SubRow) (cells : List SubCellRow) (s : Sub) → SpellsSub row cells s → SpellsCells (IsSubCellRow row.num) 0 cells s.volume.cells
sub_cells_in row cells s p = record { rows_are = p.cells_are; valid = p.kept.volume.cells }

sub_bounds_in : (row : SubRow) (cells : List SubCellRow) (s : Sub) → SpellsSub row cells s → HasBounds (bounds_of row) s.volume.cells s.volume
sub_bounds_in row cells s p = record {
  cells = refl;
  alt_lower = p.sub.alt_lower;
  alt_upper = p.sub.alt_upper;
  time_start = p.sub.time_start;
  time_end = p.sub.time_end;
  limits = p.kept.volume.limits;
}

-- The row, the cells and the bounds together represent the subscription.
pub whole_sub : (row : SubRow) (cells : List SubCellRow) (h : SubHead) (cs : List Cell) (v : Extent) → SpellsSubHead row h → SpellsCells (IsSubCellRow row.num) 0 cells cs → HasBounds (bounds_of row) cs v → SpellsSub row cells (with_volume h v)
whole_sub row cells h cs v p c b =
    let own = subst (SpellsCells (IsSubCellRow row.num) 0 cells) b.cells c in
    record {
      sub = record {
        least = p.least;
        most = p.most;
        id = p.id.text_is;
        manager = p.manager.same;
        serial = p.serial.number;
        version = p.version.same;
        notes = p.notes.number;
        url = p.url.same;
        interest = p.interest;
        alt_lower = b.alt_lower;
        alt_upper = b.alt_upper;
        time_start = b.time_start;
        time_end = b.time_end;
      };
      cells_are = own.rows_are;
      kept = record {
        id = p.id.fits;
        manager = p.manager.right;
        version = p.version.right;
        serial = (p.serial.least, p.serial.most);
        index = p.notes.most;
        volume = record { limits = b.limits; cells = own.valid };
        url = p.url.right;
      };
    }

pub no_sub_cells : (row : SubRow) (cells : List SubCellRow) → ((cs : List Cell) → ¬ SpellsCells (IsSubCellRow row.num) 0 cells cs) → (s : Sub) → ¬ SpellsSub row cells s
no_sub_cells row cells none s p = none s.volume.cells (sub_cells_in row cells s p)

pub no_sub_bounds : (row : SubRow) (cells : List SubCellRow) (cs : List Cell) → SpellsCells (IsSubCellRow row.num) 0 cells cs → ((v : Extent) → ¬ HasBounds (bounds_of row) cs v) → (s : Sub) → ¬ SpellsSub row cells s
no_sub_bounds row cells cs c none s p =
    let same : s.volume.cells ≡ cs = one_sub_cells row.num cells s.volume.cells cs (sub_cells_in row cells s p) c in
    none s.volume (subst (λ (l : List Cell). HasBounds (bounds_of row) l s.volume) same (sub_bounds_in row cells s p))

-- A volume within the limits has at most 512 cells.
pub few_cells : (v : Extent) → region_fault (region_of v) ≡ None → length v.cells ≤ 512
few_cells v limits = grind (arith, limits)

-- ---- rows spell one subscription

-- The interest that two flag numbers represent.
interest_at : ℤ → ℤ → Interest
interest_at (pos zero) b = Constraints
interest_at (pos (suc n)) (pos zero) = Intents
interest_at _ _ = Both

interest_again : (a b : ℤ) (i : Interest) → SpellsInterest a b i → interest_at a b ≡ i
unfolding interest_at
interest_again a b Intents p = ap₂ interest_at p.intents p.constraints
interest_again a b Constraints p = ap₂ interest_at p.intents p.constraints
interest_again a b Both p = ap₂ interest_at p.intents p.constraints

one_interest : (a b : ℤ) (i j : Interest) → SpellsInterest a b i → SpellsInterest a b j → i ≡ j
one_interest a b i j p q = sym (interest_again a b i p) ∙ interest_again a b j q

pub one_sub : OneSub
one_sub row cells s t p q =
    let id = one_id row.id s.id t.id p.kept.id q.kept.id p.sub.id q.sub.id in
    let manager = sym p.sub.manager ∙ q.sub.manager in
    let version = sym p.sub.version ∙ q.sub.version in
    let serial = one_pos s.serial t.serial row.serial p.sub.serial q.sub.serial in
    let index = one_pos s.index t.index row.notes p.sub.notes q.sub.notes in
    let cs = one_sub_cells row.num cells s.volume.cells t.volume.cells (sub_cells_in row cells s p) (sub_cells_in row cells t q) in
    let lower = sym p.sub.alt_lower ∙ q.sub.alt_lower in
    let upper = sym p.sub.alt_upper ∙ q.sub.alt_upper in
    let start = one_pos s.volume.time.0 t.volume.time.0 row.time_start p.sub.time_start q.sub.time_start in
    let last = one_pos s.volume.time.1 t.volume.time.1 row.time_end p.sub.time_end q.sub.time_end in
    let volume : s.volume ≡ t.volume = λ i. record { cells = cs i; altitude = (lower i, upper i); time = (start i, last i) } in
    let url = sym p.sub.url ∙ q.sub.url in
    let interest = one_interest row.for_intents row.for_constraints s.interest t.interest p.sub.interest q.sub.interest in
    λ i. record { id = id i; manager = manager i; version = version i; serial = serial i; index = index i; volume = volume i; url = url i; interest = interest i }
