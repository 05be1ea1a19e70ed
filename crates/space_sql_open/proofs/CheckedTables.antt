-- Lemmas about the result of opening, given what was read.
use Rattle.std.proofs.Common.{◌≡◌, Ok, Err, Result, IfOk, OnOk, sym, subst}
use Rattle.std.specs.Prelude.{IfErr}
use Rattle.sqlite.specs.declared.error.Error.{Error}
use Rattle.space_sql_open.specs.declared.open_fault.OpenFault.{OpenFault}
use Rattle.space_sql_open.specs.declared.open_fault.OpenFault.TheVariants.{Store}

pub given : {X : Type 0} (P : X → Type 0) (A : Type 0) (r : Result X Error) → IfOk r (λ x. A → P x) → A → IfOk r P
given P A (Ok x) h a = h a
given P A (Err e) h a = tt

on_listed : {Y : Type 0} (s : Result Y OpenFault) (A : Type 0) → A → OnOk s A
on_listed (Ok l) A a = a
on_listed (Err f) A a = tt

-- A fact that holds after a successful read holds after a successful opening.
pub told_open : {X Y : Type 0} (r : Result X Error) (s : Result Y OpenFault) (A : Type 0) → IfErr r (λ _. s ≡ Err Store) → OnOk r A → OnOk s A
told_open (Ok j) s A failed a = on_listed s A a
told_open {X} {Y} (Err e) s A failed a = subst (λ (t : Result Y OpenFault). OnOk t A) (sym failed) tt

-- If the result is no fault of the store, the read succeeded.
pub told_rest : {X Y : Type 0} (r : Result X Error) (s : Result Y OpenFault) (A : Type 0) → IfErr r (λ _. s ≡ Err Store) → OnOk r A → (s ≡ Err Store → ⊥) → A
told_rest (Ok j) s A failed a other = a
told_rest (Err e) s A failed a other = absurd (other failed)
