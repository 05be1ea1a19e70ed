-- Sets of the scopes that texts name.
use Rattle.std.proofs.Common.{◌≡◌, ℕ, ◌+◌, ◌<◌, Bool, true, false, List, [], ◌∷◌, length, get_or, drop, Option, Some, None, refl, sym, ap, ◌∙◌}
use Rattle.std.specs.Prelude.{◌||◌, option_and_then, option_map}
use Rattle.std.specs.List.{list_any}
use Rattle.std.specs.Cmp.Lexicographic.{bytes_decides}
use Rattle.toml.specs.Data.{as_str, item}
use Rattle.toml.specs.View.{items_view, view}
use Rattle.toml.specs.declared.value.Value.{Value}
use Rattle.toml.proofs.Views.{items_view-drop}
use Rattle.policy_core.specs.Scope.{Scopes, has_scope, no_scopes, scope_name, scopes_where}
use Rattle.policy_core.specs.declared.scope.Scope.{Scope}
use Rattle.token_conf.specs.TokenFile.{is_name_of, scopes_named, texts_of}

-- The set, plus the scopes that the texts name.
abbrev pub with_names : Scopes → List (List ℕ) → Scopes
with_names set texts = scopes_where (λ s. has_scope set s || list_any (is_name_of s) texts)

same_scopes : (p q : Scope → Bool) → ((s : Scope) → p s ≡ q s) → scopes_where p ≡ scopes_where q
same_scopes p q same = λ i. scopes_where (λ s. same s i)

or-false : (b : Bool) → (b || false) ≡ b
or-false true = refl
or-false false = refl

or-assoc : (a b c : Bool) → ((a || b) || c) ≡ (a || (b || c))
or-assoc true b c = refl
or-assoc false b c = refl

pub with_names-nil : (set : Scopes) → with_names set [] ≡ set
with_names-nil set = same_scopes _ _ (λ s. or-false (has_scope set s))

-- Before the first text, the set is empty.
pub with_names-none : (o : Option (List (List ℕ))) → option_map (with_names no_scopes) o ≡ option_map scopes_named o
unfolding scopes_named
with_names-none None = refl
with_names-none (Some texts) = refl

-- Reading one more text gives the set `r`.
pub with_names-cons : (set r : Scopes) (text : List ℕ) → ((s : Scope) → has_scope r s ≡ (has_scope set s || is_name_of s text)) → (o : Option (List (List ℕ))) → option_map (with_names r) o ≡ option_map (with_names set) (option_map (λ texts. text ∷ texts) o)
with_names-cons set r text gives None = refl
with_names-cons set r text gives (Some texts) =
    ap Some (same_scopes _ _ (λ s. ap (λ b. b || list_any (is_name_of s) texts) (gives s) ∙ or-assoc (has_scope set s) (is_name_of s text) _))

is_false : (b : Bool) → (b ≡ true → ⊥) → b ≡ false
is_false true never = absurd (never refl)
is_false false never = refl

-- A text that is no scope's name adds no scope.
pub not_named : (set : Scopes) (text : List ℕ) → ((s : Scope) → scope_name s ≡ text → ⊥) → (s : Scope) → has_scope set s ≡ (has_scope set s || is_name_of s text)
not_named set text none s =
    sym (ap (λ b. has_scope set s || b) (is_false (is_name_of s text) (λ h. none s ((bytes_decides (scope_name s) text).0 h))) ∙ or-false _)

-- The text at an index of a list of values is read.
pub texts_of-drop : (values : List Value) (i : ℕ) (value : Value) (text : List ℕ) → i < length values → value ≡ get_or values i value → as_str (view value) ≡ Some text → texts_of (items_view (drop i values)) ≡ option_map (λ texts. text ∷ texts) (texts_of (items_view (drop (i + 1) values)))
texts_of-drop values i value text within at is_text =
    ap texts_of (items_view-drop values i value within ∙ ap (λ v. item (view v) (items_view (drop (i + 1) values))) (sym at)) ∙ ap (λ o. option_and_then (λ t. option_map (λ texts. t ∷ texts) (texts_of (items_view (drop (i + 1) values)))) o) is_text
