-- An invalid query is rejected.
use Rattle.std.proofs.Common.{◌≡◌, ℕ, List, codes, None, Result, Ok, Err, subst, sym, inr}
use Rattle.std.specs.Prelude.{IfOk}
use Rattle.space_snapshot.specs.declared.snapshot.NoMirror.{NoMirror}
use Rattle.admin_http.specs.Airspace.{AnswersAirspace}
use Rattle.admin_http.specs.Answer.{text_of, type_of}

pub refused : {T V E : Type 0} (items : V → List ℕ) (r : Result V E) (shown : Result T NoMirror) (s : T) → shown ≡ Ok s
    → IfOk r (λ v. items v ≡ text_of 400 (type_of None) None (codes "invalid query\n"))
    → IfOk r (λ v. AnswersAirspace shown (items v))
refused items (Ok v) shown s is h = subst (λ x. AnswersAirspace x (items v)) (sym is) (inr h)
refused items (Err e) shown s is h = tt
