-- Proofs about gathering subscriptions one after the other.
use Rattle.std.specs.Prelude.{◌≡◌, ℕ, ℤ, pos, ◌<ℤ◌, ◌↔◌, List, [], ◌∷◌, refl}
use Rattle.std.specs.List.{AllByRecursion}
use Rattle.std.specs.FinMap.{empty}
use Rattle.std.proofs.Common.{sym, ap, ◌∙◌, subst}
use Rattle.entity_core.specs.declared.subscription.Sub.{Sub}
use Rattle.space_rows.specs.declared.rows.SubRow.{SubRow}
use Rattle.space_rows.specs.declared.rows.SubCellRow.{SubCellRow}
use Rattle.space_rows.proofs.SubRows.{one_sub}
use Rattle.space_sql_schema.proofs.Rising.{sub_cells_of}
use Rattle.space_sql_load.specs.Gathering.{GathersSubs, IsNextSub, Subs, with_sub}
use Rattle.space_sql_load.proofs.Fronts.{Front, less, later, one_front}

abbrev number_of : SubCellRow → ℤ
number_of c = c.subscription

later_cells : (serial : ℕ) (last : ℤ) (rows : List SubRow) (cs : List SubCellRow) (m a : Subs) → GathersSubs serial last rows cs m a → AllByRecursion (λ (c : SubCellRow). last <ℤ c.subscription) cs
later_cells serial last [] cs m a g = subst (AllByRecursion (λ (c : SubCellRow). last <ℤ c.subscription)) (sym g.0) tt
later_cells serial last (r ∷ rows) cs m a g =
    let s = g.0 in
    later number_of last r.num cs s.own s.more (less last r.num s.next.rising) (sub_cells_of r.num s.own _ s.next.spelt.cells_are) (later_cells serial r.num rows s.more (with_sub r s.sub m) a g.1) s.cells_are

-- The rows split into the first subscription and the others.
subs_first : (serial : ℕ) (last : ℤ) (r : SubRow) (rows : List SubRow) (cs oc mc : List SubCellRow) (m a : Subs) → Front (λ (c : SubCellRow). c.subscription ≡ r.num) cs oc mc → GathersSubs serial last (r ∷ rows) cs m a
    → (s : Sub) × IsNextSub serial last r oc m.0 s × GathersSubs serial r.num rows mc (with_sub r s m) a
subs_first serial last r rows cs oc mc m a f g =
    let s = g.0 in
    let c = one_front number_of r.num cs s.own s.more oc mc (sub_cells_of r.num s.own _ s.next.spelt.cells_are) (later_cells serial r.num rows s.more (with_sub r s.sub m) a g.1) s.cells_are f in (
      s.sub,
      subst (λ (l : List SubCellRow). IsNextSub serial last r l m.0 s.sub) c.0 s.next,
      subst (λ (l : List SubCellRow). GathersSubs serial r.num rows l (with_sub r s.sub m) a) c.1 g.1,
    )

-- Holds if the remaining rows are gathered exactly if all rows are.
abbrev pub SubsOn : ℕ → List SubRow → List SubCellRow → ℤ → List SubRow → List SubCellRow → Subs → Type 0
SubsOn serial rows cs last rest left m = (a : Subs) → GathersSubs serial (pos 0) rows cs (empty, []) a ↔ GathersSubs serial last rest left m a

pub subs_start : (serial : ℕ) (rows : List SubRow) (cs : List SubCellRow) (m : Subs) → m ≡ (empty, []) → SubsOn serial rows cs (pos 0) rows cs m
subs_start serial rows cs m e a = ((λ w. subst (λ (k : Subs). GathersSubs serial (pos 0) rows cs k a) (sym e) w), (λ w. subst (λ (k : Subs). GathersSubs serial (pos 0) rows cs k a) e w))

module _ (serial : ℕ) (rows : List SubRow) (cs : List SubCellRow) (last : ℤ) (r : SubRow) (rest more : List SubRow) (cl oc mc : List SubCellRow) (m : Subs) (is : rest ≡ r ∷ more) (f : Front (λ (c : SubCellRow). c.subscription ≡ r.num) cl oc mc) (g : SubsOn serial rows cs last rest cl m) where
  pub subs_more : (n : Subs) (s : Sub) → IsNextSub serial last r oc m.0 s → n ≡ with_sub r s m → SubsOn serial rows cs r.num more mc n
  subs_more n s t put a = (
    (λ w.
        let first = subs_first serial last r more cl oc mc m a f (subst (λ (l : List SubRow). GathersSubs serial last l cl m a) is ((g a).0 w)) in
        let same : first.0 ≡ s = one_sub r oc first.0 s first.1.spelt t.spelt in
        subst (λ (k : Subs). GathersSubs serial r.num more mc k a) (ap (λ (x : Sub). with_sub r x m) same ∙ sym put) first.2),
    (λ w.
        (g a).1 (subst (λ (l : List SubRow). GathersSubs serial last l cl m a) (sym is)
        (record { own = oc; more = mc; sub = s; cells_are = f.whole; next = t }, subst (λ (k : Subs). GathersSubs serial r.num more mc k a) put w))),
  )

  pub subs_none : ((s : Sub) → ¬ IsNextSub serial last r oc m.0 s) → (a : Subs) → ¬ GathersSubs serial (pos 0) rows cs (empty, []) a
  subs_none none a w =
      let first = subs_first serial last r more cl oc mc m a f (subst (λ (l : List SubRow). GathersSubs serial last l cl m a) is ((g a).0 w)) in
      none first.0 first.1

module _ (serial : ℕ) (rows : List SubRow) (cs : List SubCellRow) (last : ℤ) (rest : List SubRow) (cl : List SubCellRow) (m : Subs) (is : rest ≡ []) (g : SubsOn serial rows cs last rest cl m) where
  pub subs_all : cl ≡ [] → GathersSubs serial (pos 0) rows cs (empty, []) m
  subs_all c = (g m).1 (subst (λ (l : List SubRow). GathersSubs serial last l cl m m) (sym is) (c, refl))

  pub subs_over : ¬ (cl ≡ []) → (a : Subs) → ¬ GathersSubs serial (pos 0) rows cs (empty, []) a
  subs_over some a w = some (subst (λ (l : List SubRow). GathersSubs serial last l cl m a) is ((g a).0 w)).0
