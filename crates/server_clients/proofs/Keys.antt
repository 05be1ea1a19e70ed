-- Lemmas: clients under their keys.
use Rattle.std.proofs.Common.{◌≡◌, ℕ, Bool, true, false, Option, Some, None, cond, refl, sym, ap, ◌∙◌}
use Rattle.std.specs.Prelude.{nat_eq}
use Rattle.std.proofs.lemmas.Bool.{eqb-true}
use Rattle.wire_http.specs.SetAt.{set_at}
use Rattle.server_clients.specs.ClientState.{ClientState}
use Rattle.server_clients.specs.ServerEvents.{Clients}

pub by_cases : {X : Type 0} (c : Bool) → (c ≡ true → X) → (c ≡ false → X) → X
by_cases true f g = f refl
by_cases false f g = g refl

never : (l : ClientState) (a b : Option ClientState) → Some l ≡ None → a ≡ b
never l a b h = cc

abbrev the : ClientState → Option ClientState → ClientState
the d None = d
the d (Some l) = l

pub at_other : (values : Clients) (other key : ℕ) (value : Option ClientState) → nat_eq key other ≡ false → set_at values other value key ≡ values key
at_other values other key value e = ap (λ (v : Bool). cond v value (values key)) e

pub at_same : (values : Clients) (other key : ℕ) (value : Option ClientState) → nat_eq key other ≡ true → set_at values other value key ≡ value
at_same values other key value e = ap (λ (v : Bool). cond v value (values key)) e

pub same_client : (values : Clients) (key other : ℕ) (l l0 : ClientState) → nat_eq key other ≡ true → values key ≡ Some l → values other ≡ Some l0 → l0 ≡ l
same_client values key other l l0 e is is0 = ap (λ (v : Option ClientState). the l v) (sym is0 ∙ ap values (sym (eqb-true key other e)) ∙ is)

pub beside : (values : Clients) (other key : ℕ) (value : Option ClientState) (l : ClientState) → values other ≡ None → values key ≡ Some l → set_at values other value key ≡ Some l
beside values other key value l none is = by_cases (nat_eq key other)
    (λ e. never l (set_at values other value key) (Some l) (sym is ∙ ap values (eqb-true key other e) ∙ none))
    (λ e. at_other values other key value e ∙ is)
