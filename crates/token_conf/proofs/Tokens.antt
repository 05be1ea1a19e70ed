-- Lists of tokens as maps, and the tables from which they come.
use Rattle.std.proofs.Common.{◌≡◌, ℕ, ◌+◌, ◌<◌, true, false, List, [], ◌∷◌, ◌++◌, cond, length, get_or, drop, Option, Some, None, Ok, refl, sym, ap, ◌∙◌}
use Rattle.std.specs.Prelude.{is_some, nat_eq}
use Rattle.std.proofs.lemmas.List.{drop_more}
use Rattle.std.specs.Cmp.Lexicographic.{pointwise, texts_ties, nat_list_cmp_total}
use Rattle.std.specs.FinMap.{contains_key, find, get, get-from_entries, from_entries_push, insert, nat_cmp-IsAntisymmetric, slice_cmp-IsAntisymmetric}
use Rattle.toml.specs.Data.{Data, Items, item}
use Rattle.toml.specs.View.{items_view, view}
use Rattle.toml.specs.declared.value.Value.{Value}
use Rattle.toml.proofs.Views.{items_view-drop}
use Rattle.entity_core.specs.Airspace.{text_cmp}
use Rattle.policy_core.specs.declared.scope.Caller.{Caller}
use Rattle.token_conf.specs.TokenFile.{callers_after, callers_in, token_of}

-- A lookup in the map is a scan of its list from the front.
pub get-callers_in : (tokens : List (List ℕ × Caller)) (text : List ℕ) → get (callers_in tokens) text ≡ find text_cmp text tokens
get-callers_in tokens text = get-from_entries nat_list_cmp_total tokens text

-- The scan at a token that has the text, and at one that has another.
pub find-same : (text : List ℕ) (token : List ℕ × Caller) (rest : List (List ℕ × Caller)) → pointwise nat_eq text token.0 ≡ true → find text_cmp text (token ∷ rest) ≡ Some token.1
find-same text token rest same = ap (λ b. cond b (Some token.1) (find text_cmp text rest)) (sym (texts_ties text token.0) ∙ same)

pub find-other : (text : List ℕ) (token : List ℕ × Caller) (rest : List (List ℕ × Caller)) → pointwise nat_eq text token.0 ≡ false → find text_cmp text (token ∷ rest) ≡ find text_cmp text rest
find-other text token rest other = ap (λ b. cond b (Some token.1) (find text_cmp text rest)) (sym (texts_ties text token.0) ∙ other)

-- The scan from the token at an index.
pub scan-same : (text : List ℕ) (tokens : List (List ℕ × Caller)) (i : ℕ) (token : List ℕ × Caller) → i < length tokens → token ≡ get_or tokens i token → pointwise nat_eq text token.0 ≡ true → find text_cmp text (drop i tokens) ≡ Some token.1
scan-same text tokens i token within at same =
    ap (find text_cmp text) (drop_more tokens i token within) ∙ ap (λ t. find text_cmp text (t ∷ drop (i + 1) tokens)) (sym at) ∙ find-same text token _ same

pub scan-other : (text : List ℕ) (tokens : List (List ℕ × Caller)) (i : ℕ) (token : List ℕ × Caller) → i < length tokens → token ≡ get_or tokens i token → pointwise nat_eq text token.0 ≡ false → find text_cmp text (drop i tokens) ≡ find text_cmp text (drop (i + 1) tokens)
scan-other text tokens i token within at other =
    ap (find text_cmp text) (drop_more tokens i token within) ∙ ap (λ t. find text_cmp text (t ∷ drop (i + 1) tokens)) (sym at) ∙ find-other text token _ other

none_of : (o : Option Caller) → is_some o ≡ false → o ≡ None
none_of None h = refl
none_of (Some x) h = cc

-- A token with a new text at the end of the list is one more entry of the map.
pub callers_in-push : (tokens : List (List ℕ × Caller)) (token : List ℕ × Caller) → contains_key (callers_in tokens) token.0 ≡ false → callers_in (tokens ++ token ∷ []) ≡ insert (callers_in tokens) token.0 token.1
callers_in-push tokens token new =
    from_entries_push nat_list_cmp_total (slice_cmp-IsAntisymmetric nat_cmp-IsAntisymmetric) tokens token.0 token.1 (sym (get-callers_in tokens token.0) ∙ none_of _ new)

-- The tables after one that was read.
callers_after-item : (d : Data) (ds : Items) (tokens : List (List ℕ × Caller)) (token : List ℕ × Caller) → token_of d (callers_in tokens) ≡ Ok token → contains_key (callers_in tokens) token.0 ≡ false → callers_after (item d ds) (callers_in tokens) ≡ callers_after ds (callers_in (tokens ++ token ∷ []))
callers_after-item d ds tokens token read new = rw (read, callers_in-push tokens token new) refl

-- The same at an index of the list of tables.
pub callers_after-drop : (values : List Value) (i : ℕ) (value : Value) (tokens : List (List ℕ × Caller)) (token : List ℕ × Caller) → i < length values → value ≡ get_or values i value → token_of (view value) (callers_in tokens) ≡ Ok token → contains_key (callers_in tokens) token.0 ≡ false → callers_after (items_view (drop i values)) (callers_in tokens) ≡ callers_after (items_view (drop (i + 1) values)) (callers_in (tokens ++ token ∷ []))
callers_after-drop values i value tokens token within at read new =
    ap (λ ds. callers_after ds (callers_in tokens)) (items_view-drop values i value within ∙ ap (λ v. item (view v) (items_view (drop (i + 1) values))) (sym at)) ∙ callers_after-item _ _ tokens token read new
