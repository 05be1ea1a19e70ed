-- Lookups in tables of values.
use Rattle.std.proofs.Common.{◌≡◌, ℕ, ◌+◌, ◌<◌, true, false, List, [], ◌∷◌, ◌++◌, length, get_or, drop, map, Option, Some, None, refl, sym, ap, ◌∙◌}
use Rattle.std.specs.Prelude.{Bool, Vec, MatchOption, ◌||◌, is_some, option_and_then, option_map}
use Rattle.std.specs.Borrow.{Bor}
use Rattle.std.specs.Option.{option_map_or}
use Rattle.std.specs.List.{list_any}
use Rattle.std.specs.Cmp.Lexicographic.{bytes_decides}
use Rattle.std.specs.declared.alloc.Global.{Global}
use Rattle.toml.specs.Data.{Data, Items, as_array, as_str, item}
use Rattle.toml.specs.View.{array_view, items_of, items_view, view}
use Rattle.toml.specs.declared.value.Value.{Value}
use Rattle.toml.proofs.Views.{items_view-drop}
use Rattle.policy_core.specs.Scope.{scope_name}
use Rattle.policy_core.specs.declared.scope.Scope.{Scope}
use Rattle.policy_core.specs.declared.scope.Scope.TheVariants.{StrategicCoordination, ConformanceMonitoring, ConstraintProcessing, ConstraintManagement, AvailabilityArbitration}
use Rattle.token_conf.specs.TokenFile.{is_name_of, texts_of}
use Rattle.token_check.specs.TokenFileErrors.{errors_of_list, errors_of_tables, tables_of}
use Rattle.token_check.specs.declared.token_file_error.TokenFileError.TheVariants as file_error
use Rattle.token_check.specs.Warnings.{is_scope, scopes, warnings_of_list, warnings_of_member}

-- The tables of some values.
pub tables_of_items : (ds : List Data) → tables_of (items_of ds) ≡ ds
tables_of_items [] = refl
tables_of_items (d ∷ ds) = ap (λ (rest : List Data). d ∷ rest) (tables_of_items ds)

-- The member `token` if it is a list.
pub list_mistakes : (member : Option (Bor Value)) (value : Bor Value) (tables : Vec Value Global) → member ≡ Some value → Some (array_view tables) ≡ as_array (view value.now) → errors_of_list (option_map (λ v. view v.now) member) ≡ errors_of_tables [] (map view tables.items)
list_mistakes member value tables is array =
    ap (λ (m : Option (Bor Value)). errors_of_list (option_map (λ v. view v.now) m)) is
    ∙ ap (λ (o : Option Items). option_map_or (λ ds. errors_of_tables [] (tables_of ds)) o (file_error.List ∷ [])) (sym array)
    ∙ ap (errors_of_tables []) (tables_of_items (map view tables.items))

pub list_warnings : (member : Option (Bor Value)) (value : Bor Value) (tables : Vec Value Global) → member ≡ Some value → Some (array_view tables) ≡ as_array (view value.now) → warnings_of_member (option_map (λ v. view v.now) member) ≡ warnings_of_list (map view tables.items)
list_warnings member value tables is array =
    ap (λ (m : Option (Bor Value)). warnings_of_member (option_map (λ v. view v.now) m)) is
    ∙ ap (λ (o : Option Items). option_map_or (λ ds. warnings_of_list (tables_of ds)) o []) (sym array)
    ∙ ap warnings_of_list (tables_of_items (map view tables.items))

-- ---- texts of a list

is_some-map : {A B : Type 0} (f : A → B) (o : Option A) → is_some (option_map f o) ≡ is_some o
is_some-map f None = refl
is_some-map f (Some x) = refl

-- A text exists exactly if one was read.
pub is_some-read : (o : Option (Bor (List ℕ))) (read : Option (List ℕ)) (b : Bool) → option_map (λ s. s.now) o ≡ read → is_some o ≡ b → is_some read ≡ b
is_some-read o read b is some = ap is_some (sym is) ∙ is_some-map (λ s. s.now) o ∙ some

-- One more text at the front.
cons-some : (o : Option (List ℕ)) (rest : Option (List (List ℕ))) → is_some o ≡ true → is_some (option_and_then (λ text. option_map (λ texts. text ∷ texts) rest) o) ≡ is_some rest
cons-some None rest h = let bad : false ≡ true = h in cc
cons-some (Some text) rest h = is_some-map (λ texts. text ∷ texts) rest

cons-none : (o : Option (List ℕ)) (rest : Option (List (List ℕ))) → is_some o ≡ false → is_some (option_and_then (λ text. option_map (λ texts. text ∷ texts) rest) o) ≡ false
cons-none None rest h = refl
cons-none (Some text) rest h = let bad : true ≡ false = h in cc

texts-turn : (values : List Value) (i : ℕ) (value : Value) → i < length values → value ≡ get_or values i value → texts_of (items_view (drop i values)) ≡ option_and_then (λ text. option_map (λ texts. text ∷ texts) (texts_of (items_view (drop (i + 1) values)))) (as_str (view value))
texts-turn values i value within at = ap texts_of (items_view-drop values i value within ∙ ap (λ (v : Value). item (view v) (items_view (drop (i + 1) values))) (sym at))

-- If the value at an index is a text, the values from there on are all texts exactly if those after
-- it are.
pub texts-go_on : (values : List Value) (i : ℕ) (value : Value) → i < length values → value ≡ get_or values i value → is_some (as_str (view value)) ≡ true → is_some (texts_of (items_view (drop i values))) ≡ is_some (texts_of (items_view (drop (i + 1) values)))
texts-go_on values i value within at some = ap is_some (texts-turn values i value within at) ∙ cons-some (as_str (view value)) _ some

pub texts-stop : (values : List Value) (i : ℕ) (value : Value) → i < length values → value ≡ get_or values i value → is_some (as_str (view value)) ≡ false → is_some (texts_of (items_view (drop i values))) ≡ false
texts-stop values i value within at none = ap is_some (texts-turn values i value within at) ∙ cons-none (as_str (view value)) _ none

-- ---- names of scopes

is_false : (b : Bool) → (b ≡ true → ⊥) → b ≡ false
is_false true never = absurd (never refl)
is_false false never = refl

any-none : (p : Scope → Bool) (ss : List Scope) → ((s : Scope) → p s ≡ false) → list_any p ss ≡ false
any-none p [] none = refl
any-none p (s ∷ ss) none = ap (λ b. b || list_any p ss) (none s) ∙ any-none p ss none

or-true : (b : Bool) → (b || true) ≡ true
or-true true = refl
or-true false = refl

any-at : (p : Scope → Bool) (before : List Scope) (s : Scope) (after : List Scope) → p s ≡ true → list_any p (before ++ s ∷ after) ≡ true
any-at p [] s after is = ap (λ b. b || list_any p after) is
any-at p (x ∷ before) s after is = ap (λ b. p x || b) (any-at p before s after is) ∙ or-true (p x)

any-scope : (p : Scope → Bool) (s : Scope) → p s ≡ true → list_any p scopes ≡ true
any-scope p StrategicCoordination is = any-at p [] StrategicCoordination (ConformanceMonitoring ∷ ConstraintProcessing ∷ ConstraintManagement ∷ AvailabilityArbitration ∷ []) is
any-scope p ConformanceMonitoring is = any-at p (StrategicCoordination ∷ []) ConformanceMonitoring (ConstraintProcessing ∷ ConstraintManagement ∷ AvailabilityArbitration ∷ []) is
any-scope p ConstraintProcessing is = any-at p (StrategicCoordination ∷ ConformanceMonitoring ∷ []) ConstraintProcessing (ConstraintManagement ∷ AvailabilityArbitration ∷ []) is
any-scope p ConstraintManagement is = any-at p (StrategicCoordination ∷ ConformanceMonitoring ∷ ConstraintProcessing ∷ []) ConstraintManagement (AvailabilityArbitration ∷ []) is
any-scope p AvailabilityArbitration is = any-at p (StrategicCoordination ∷ ConformanceMonitoring ∷ ConstraintProcessing ∷ ConstraintManagement ∷ []) AvailabilityArbitration [] is

-- The result of a lookup of a scope by its name.
pub is_scope-named : (o : Option Scope) (name : List ℕ) → MatchOption o ((s : Scope) → scope_name s ≡ name → ⊥) (λ s. scope_name s ≡ name) → is_some o ≡ is_scope name
is_scope-named None name none =
    sym (any-none (λ s. is_name_of s name) scopes (λ s. is_false (is_name_of s name) (λ h. none s ((bytes_decides (scope_name s) name).0 h))))
is_scope-named (Some s) name is = sym (any-scope (λ t. is_name_of t name) s ((bytes_decides (scope_name s) name).1 is))

-- An option without a value is `None`.
pub none_of : {A : Type 0} (o : Option A) → is_some o ≡ false → o ≡ None
none_of None h = refl
none_of (Some x) h = let bad : true ≡ false = h in cc
