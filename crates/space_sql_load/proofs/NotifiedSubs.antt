-- A proof that no index of the subscriptions that rows represent exceeds the serial.
use Rattle.std.specs.Prelude.{◌≡◌, ℕ, ℤ, pos, ◌≤◌, cond, List, [], ◌∷◌, Some, None, true, false}
use Rattle.std.proofs.Common.{sym, ◌∙◌, subst}
use Rattle.std.proofs.lemmas.Option.{same_Some}
use Rattle.std.proofs.lemmas.Cmp.{nat_cmp_total}
use Rattle.std.specs.Ordering.{eq_by_cmp, nat_cmp}
use Rattle.std.specs.FinMap.{get, insert, empty, get-empty, get-insert}
use Rattle.entity_core.specs.Airspace.{Subscriptions}
use Rattle.entity_core.specs.declared.subscription.Sub.{Sub}
use Rattle.space_rows.specs.declared.rows.SubRow.{SubRow}
use Rattle.space_rows.specs.declared.rows.SubCellRow.{SubCellRow}
use Rattle.space_sql_load.specs.declared.tables.SubTables.{SubTables}
use Rattle.space_sql_load.specs.Gathering.{GathersSubs, ListsSubs, Subs, with_sub}

-- Holds if no index exceeds the serial.
abbrev Told : Subscriptions → ℕ → Type 0
Told m serial = (id : ℕ) (s : Sub) → get m id ≡ Some s → s.index ≤ serial

none_told : (serial : ℕ) → Told empty serial
none_told serial id s there = let bad : None ≡ Some s = sym (get-empty nat_cmp id) ∙ there in cc

one_more : (serial : ℕ) (m : Subscriptions) (new : Sub) → new.index ≤ serial → Told m serial → Told (insert m new.id new) serial
one_more serial m new own before id s there =
    let now : cond (eq_by_cmp nat_cmp id new.id) (Some new) (get m id) ≡ Some s = sym (get-insert nat_cmp_total m new.id new id) ∙ there in
    elim (eq_by_cmp nat_cmp id new.id) as (λ b. cond b (Some new) (get m id) ≡ Some s → s.index ≤ serial) [
      | true ↦ λ e. subst (λ (x : Sub). x.index ≤ serial) (same_Some new s e) own
      | false ↦ λ e. before id s e
    ] now

gathered_told : (serial : ℕ) (last : ℤ) (rows : List SubRow) (cells : List SubCellRow) (before all : Subs) → Told before.0 serial → GathersSubs serial last rows cells before all → Told all.0 serial
gathered_told serial last [] cells before all told gathers = subst (λ (a : Subs). Told a.0 serial) gathers.1 told
gathered_told serial last (row ∷ rows) cells before all told gathers =
    gathered_told serial row.num rows gathers.0.more (with_sub row gathers.0.sub before) all (one_more serial before.0 gathers.0.sub gathers.0.next.index told) gathers.1

pub listed_told : (serial : ℕ) (t : SubTables) (all : Subs) → ListsSubs serial t all → Told all.0 serial
listed_told serial t all lists = gathered_told serial (pos 0) lists.rows lists.cells (empty, []) all (none_told serial) lists.gathered
