-- Proofs that the gathered rows are those of groups of subscriptions.
use Rattle.std.proofs.Common.{◌≡◌, ℕ, ℤ, pos, List, [], ◌∷◌, ◌++◌, map, flat_map, refl, sym, ap, subst, ◌∙◌, append-nil, Less}
use Rattle.std.specs.Prelude.{IsPermutation}
use Rattle.std.specs.List.{AllByRecursion}
use Rattle.std.specs.Ordering.{int_cmp, nat_cmp}
use Rattle.std.specs.FinMap.{empty, entries}
use Rattle.std.proofs.lemmas.Cmp.{int_cmp_total, nat_cmp_total}
use Rattle.std.proofs.lemmas.List.{append_assoc}
use Rattle.std.proofs.lemmas.List.Sorted.{IsPermutation-trans, IsPermutation-sym}
use Rattle.sqlite_keyed.proofs.ListLemmas.{IsPermutation-same}
use Rattle.sqlite_trees.specs.Tree.{IsAscending}
use Rattle.space_rows.specs.declared.rows.SubRow.{SubRow}
use Rattle.space_rows.specs.declared.rows.SubCellRow.{SubCellRow}
use Rattle.space_rows.proofs.Chunks.{all_turned}
use Rattle.space_sql_schema.specs.Spelling.{SubGroup, IsSubGroup, IsSubBefore, sub_pair_of}
use Rattle.space_sql_schema.proofs.OneAirspace.{one_map, one_subs}
use Rattle.space_sql_select.proofs.MapEntries.{new_key, moves_in}
use Rattle.space_sql_load.specs.declared.naming.Numbered.{Numbered}
use Rattle.space_sql_load.specs.Gathering.{GathersSubs, Subs, numbered, with_sub}

-- The numbers and the ids of subscriptions.
abbrev pub numbers_of : List SubGroup → List Numbered
numbers_of subs = map (λ (g : SubGroup). numbered g.row g.sub) subs

pub record AreSubGroups (serial : ℕ) (last : ℤ) (rows : List SubRow) (cs : List SubCellRow) (m a : Subs) : Type 0 where
  pub groups : List SubGroup
  pub rows_are : map (λ (g : SubGroup). g.row) groups ≡ rows
  pub cells_are : flat_map (λ (g : SubGroup). g.cells) groups ≡ cs
  pub each : AllByRecursion (IsSubGroup serial) groups
  pub rising : IsAscending IsSubBefore groups
  pub above : AllByRecursion (λ (g : SubGroup). int_cmp last g.row.num ≡ Less) groups
  pub is : IsPermutation (map sub_pair_of groups ++ entries m.0) (entries a.0)
  pub numbers_are : m.1 ++ numbers_of groups ≡ a.1

pub sub_groups_from : (serial : ℕ) (last : ℤ) (rows : List SubRow) (cs : List SubCellRow) (m a : Subs) → GathersSubs serial last rows cs m a → AreSubGroups serial last rows cs m a
sub_groups_from serial last [] cs m a h = record {
  groups = [];
  rows_are = refl;
  cells_are = sym h.0;
  each = tt;
  rising = tt;
  above = tt;
  is = IsPermutation-same _ _ (ap (λ (k : Subs). entries k.0) h.1);
  numbers_are = append-nil m.1 ∙ ap (λ (k : Subs). k.1) h.1;
}
sub_groups_from serial last (r ∷ rows) cs m a h =
    let s = h.0 in
    let g : SubGroup = record { row = r; cells = s.own; sub = s.sub } in
    let more = sub_groups_from serial r.num rows s.more (with_sub r s.sub m) a h.1 in
    record {
      groups = g ∷ more.groups;
      rows_are = ap (λ l. r ∷ l) more.rows_are;
      cells_are = ap (λ l. s.own ++ l) more.cells_are ∙ sym s.cells_are;
      each = (record { spelt = s.next.spelt; most = s.next.most; index = s.next.index }, more.each);
      rising = (more.above, more.rising);
      above = (s.next.rising, all_turned (λ (h : SubGroup). int_cmp r.num h.row.num ≡ Less) (λ h. int_cmp last h.row.num ≡ Less) (λ h e. int_cmp_total.trans last r.num h.row.num s.next.rising e) more.groups more.above);
      is = IsPermutation-trans _ _ _ (IsPermutation-sym _ _ (moves_in nat_cmp nat_cmp_total m.0 (sub_pair_of g) (map sub_pair_of more.groups) s.next.new)) more.is;
      numbers_are = sym (append_assoc m.1 (numbered r s.sub ∷ []) (numbers_of more.groups)) ∙ more.numbers_are;
    }

pub gathers_subs_from : (serial : ℕ) (last : ℤ) (gs : List SubGroup) (m a : Subs) → AllByRecursion (IsSubGroup serial) gs → IsAscending IsSubBefore gs → AllByRecursion (λ (g : SubGroup). int_cmp last g.row.num ≡ Less) gs
    → IsPermutation (map sub_pair_of gs ++ entries m.0) (entries a.0) → m.1 ++ numbers_of gs ≡ a.1 → GathersSubs serial last (map (λ (g : SubGroup). g.row) gs) (flat_map (λ (g : SubGroup). g.cells) gs) m a
gathers_subs_from serial last [] m a each up above is numbers =
    let first = one_map nat_cmp nat_cmp_total m.0 a.0 is in
    let second = sym (append-nil m.1) ∙ numbers in
    (refl, (λ i. (first i, second i)))
gathers_subs_from serial last (g ∷ gs) m a each up above is numbers =
    let new = new_key nat_cmp nat_cmp_total m.0 a.0 (sub_pair_of g) (map sub_pair_of gs) is in (
      record {
        own = g.cells;
        more = flat_map (λ (h : SubGroup). h.cells) gs;
        sub = g.sub;
        cells_are = refl;
        next = record { rising = above.0; spelt = each.0.spelt; most = each.0.most; index = each.0.index; new = new };
      },
      gathers_subs_from serial g.row.num gs (with_sub g.row g.sub m) a each.1 up.1 up.0
          (IsPermutation-trans _ _ _ (moves_in nat_cmp nat_cmp_total m.0 (sub_pair_of g) (map sub_pair_of gs) new) is)
          (append_assoc m.1 (numbered g.row g.sub ∷ []) (numbers_of gs) ∙ numbers),
    )

-- The rows are gathered as at most one set of subscriptions.
pub one_gathered : (serial : ℕ) (rows : List SubRow) (cs : List SubCellRow) (a b : Subs) → GathersSubs serial (pos 0) rows cs (empty, []) a → GathersSubs serial (pos 0) rows cs (empty, []) b → a ≡ b
one_gathered serial rows cs a b g h =
    let p = sub_groups_from serial (pos 0) rows cs (empty, []) a g in
    let q = sub_groups_from serial (pos 0) rows cs (empty, []) b h in
    let same = one_subs serial serial p.groups q.groups p.each q.each p.rising q.rising (IsPermutation-same _ _ (p.rows_are ∙ sym q.rows_are)) (IsPermutation-same _ _ (p.cells_are ∙ sym q.cells_are)) in
    let theirs = subst (λ (gs : List SubGroup). IsPermutation (map sub_pair_of gs ++ entries (empty {R = nat_cmp})) (entries b.0)) (sym same) q.is in
    let first = one_map nat_cmp nat_cmp_total a.0 b.0 (IsPermutation-trans _ _ _ (IsPermutation-sym _ _ p.is) theirs) in
    let second = sym p.numbers_are ∙ (ap numbers_of same ∙ q.numbers_are) in
    λ i. (first i, second i)
