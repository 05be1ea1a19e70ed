-- The errors of a file explain what its reader returns.
use Rattle.std.proofs.Common.{◌≡◌, ℕ, ◌+◌, Bool, true, false, cond, List, [], ◌∷◌, ◌++◌, codes, length, Option, Some, None, Result, Ok, Err, refl, sym, ap, subst, ◌∙◌}
use Rattle.std.specs.Prelude.{◌||◌, if◌then◌else◌, is_some, nat_eq}
use Rattle.std.specs.Cmp.Lexicographic.{pointwise, texts_ties, nat_list_cmp_total}
use Rattle.std.specs.FinMap.{contains_key, empty, get, get-empty, get-insert, insert}
use Rattle.std.specs.List.{position_from}
use Rattle.std.specs.Option.{option_map_or}
use Rattle.toml.specs.Data.{Data, Items, Members, no_items, item, as_array, table}
use Rattle.toml.specs.Data as data_of
use Rattle.toml.specs.Parse.{parse_document}
use Rattle.entity_core.specs.Airspace.{text_cmp}
use Rattle.entity_core.specs.IdTexts.{name_fault}
use Rattle.policy_core.specs.Scope.{Scopes}
use Rattle.policy_core.specs.declared.scope.Caller.{Caller}
use Rattle.token_conf.specs.TokenFile.{◌>>=◌, Callers, TokenFile, callers_after, callers_at, file_of, or_fault, scopes_at, text_at, token_of}
use Rattle.token_conf.specs.declared.conf_fault.ConfFault.{ConfFault}
use Rattle.token_conf.specs.declared.conf_fault.ConfFault.TheVariants as fault
use Rattle.token_check.specs.TokenFileErrors.{Explain, has_text, holder_of, errors_in, errors_of, errors_of_list, errors_of_table, errors_of_tables, repeated_at, tables_of, token_text, unless}
use Rattle.token_check.specs.declared.token_file_error.TokenFileError.{TokenFileError}
use Rattle.token_check.specs.declared.token_file_error.TokenFileError.TheVariants as file_error

-- ---- known texts

or-true : (b : Bool) → (b || true) ≡ true
or-true true = refl
or-true false = refl

or-false : (b : Bool) → (b || false) ≡ b
or-false true = refl
or-false false = refl

some_if : (b : Bool) (n : ℕ) → is_some (cond b (Some n) None) ≡ b
some_if true n = refl
some_if false n = refl

some_more : (b q : Bool) (n : ℕ) (o later : Option ℕ) → is_some later ≡ (is_some o || q) → is_some (cond b (Some n) later) ≡ (is_some (cond b (Some n) o) || q)
some_more true q n o later h = refl
some_more false q n o later h = h

-- One more table at the end.
position-push : (p : Data → Bool) (n : ℕ) (ds : List Data) (d : Data) → is_some (position_from p n (ds ++ d ∷ [])) ≡ (is_some (position_from p n ds) || p d)
position-push p n [] d = some_if (p d) n
position-push p n (x ∷ ds) d = some_more (p x) (p d) n (position_from p (n + 1) ds) (position_from p (n + 1) (ds ++ d ∷ [])) (position-push p (n + 1) ds d)

-- The known texts are those of some tables.
KnowsTexts : Callers → List Data → Type 0
KnowsTexts known before = (text : List ℕ) → contains_key known text ≡ is_some (holder_of text before)

some_with : (b : Bool) (c : Caller) (o : Option Caller) → is_some (cond b (Some c) o) ≡ (is_some o || b)
some_with true c o = sym (or-true (is_some o))
some_with false c o = sym (or-false (is_some o))

knows-none : KnowsTexts empty []
unfolding KnowsTexts
knows-none text = ap is_some (get-empty text_cmp text)

knows-more : (known : Callers) (before : List Data) (d : Data) (t : List ℕ) (c : Caller) → token_text d ≡ Some t → KnowsTexts known before → KnowsTexts (insert known t c) (before ++ d ∷ [])
unfolding KnowsTexts
knows-more known before d t c has knows text =
    ap is_some (get-insert nat_list_cmp_total known t c text)
    ∙ some_with _ c (get known text)
    ∙ ap (λ b. is_some (get known text) || b) (sym (texts_ties text t) ∙ ap (λ o. option_map_or (λ u. pointwise nat_eq text u) o false) (sym has))
    ∙ ap (λ b. b || has_text text d) (knows text)
    ∙ sym (position-push (has_text text) 0 before d)

-- ---- one table

bind-assoc : {A B C : Type 0} (r : Result A ConfFault) (f : A → Result B ConfFault) (g : B → Result C ConfFault) → ((r >>= f) >>= g) ≡ (r >>= (λ x. f x >>= g))
bind-assoc (Ok x) f g = refl
bind-assoc (Err e) f g = refl

-- A text that occurred before, and one that did not.
explains_holder : (n : ℕ) (held : Option ℕ) (has : Bool) → has ≡ is_some held → (token : List ℕ × Caller) (rest : List TokenFileError) (next : List ℕ × Caller → Result TokenFile ConfFault) → Explain rest (next token) → Explain (repeated_at n held ++ rest) ((if has then Err fault.Repeated else Ok token) >>= next)
explains_holder n None true same token rest next goes = let bad : true ≡ false = same in cc
explains_holder n None false same token rest next goes = goes
explains_holder n (Some m) true same token rest next goes = refl
explains_holder n (Some m) false same token rest next goes = let bad : false ≡ true = same in cc

-- A table, given which of its text, USS and scopes are valid.
explains_parts : (n : ℕ) (text uss : Option (List ℕ)) (scopes : Option Scopes) (holder : List ℕ → Option ℕ) (has : List ℕ → Bool) → ((t : List ℕ) → has t ≡ is_some (holder t)) → (rest : List TokenFileError) (next : List ℕ × Caller → Result TokenFile ConfFault) → ((t : List ℕ) (c : Caller) → text ≡ Some t → Explain rest (next (t, c))) → Explain ((unless (is_some text) (file_error.Token n) ++ (unless (is_some uss) (file_error.Uss n) ++ (unless (is_some scopes) (file_error.Scopes n) ++ option_map_or (λ t. repeated_at n (holder t)) text []))) ++ rest) ((or_fault fault.Token text >>= (λ t. or_fault fault.Uss uss >>= (λ u. or_fault fault.Scopes scopes >>= (λ s. if has t then Err fault.Repeated else Ok (t, record { uss = u; scopes = s }))))) >>= next)
explains_parts n None uss scopes holder has same rest next goes = refl
explains_parts n (Some t) None scopes holder has same rest next goes = refl
explains_parts n (Some t) (Some u) None holder has same rest next goes = refl
explains_parts n (Some t) (Some u) (Some s) holder has same rest next goes =
    explains_holder n (holder t) (has t) (same t) (t, record { uss = u; scopes = s }) rest next (goes t (record { uss = u; scopes = s }) refl)

-- ---- all tables

explains_table : (d : Data) (before : List Data) (known : Callers) → KnowsTexts known before → (rest : List TokenFileError) (next : List ℕ × Caller → Result TokenFile ConfFault) → ((t : List ℕ) (c : Caller) → token_text d ≡ Some t → Explain rest (next (t, c))) → Explain (errors_of_table before d ++ rest) (token_of d known >>= next)
unfolding token_of KnowsTexts
explains_table d before known knows rest next goes =
    explains_parts (length before) (token_text d) (text_at (codes "uss") name_fault d) (scopes_at d) (λ t. holder_of t before) (contains_key known) knows rest next goes

explains_tables : (ds : Items) (before : List Data) (known : Callers) (file : Callers → TokenFile) → KnowsTexts known before → Explain (errors_of_tables before (tables_of ds)) (callers_after ds known >>= (λ callers. Ok (file callers)))
explains_tables no_items before known file knows = refl
explains_tables (item d ds) before known file knows =
    subst (Explain (errors_of_tables before (tables_of (item d ds))))
    (sym (bind-assoc (token_of d known) (λ token. callers_after ds (insert known token.0 token.1)) (λ callers. Ok (file callers))))
    (explains_table d before known knows (errors_of_tables (before ++ d ∷ []) (tables_of ds)) (λ token. callers_after ds (insert known token.0 token.1) >>= (λ callers. Ok (file callers)))
    (λ t c has. explains_tables ds (before ++ d ∷ []) (insert known t c) file (knows-more known before d t c has knows)))

explains_array : (o : Option Items) (file : Callers → TokenFile) → Explain (option_map_or (λ ds. errors_of_tables [] (tables_of ds)) o (file_error.List ∷ [])) ((or_fault fault.Token o >>= (λ ds. callers_after ds empty)) >>= (λ callers. Ok (file callers)))
explains_array None file = refl
explains_array (Some ds) file = explains_tables ds [] empty file knows-none

explains_list : (member : Option Data) (file : Callers → TokenFile) → Explain (errors_of_list member) (callers_at member >>= (λ callers. Ok (file callers)))
explains_list None file = refl
explains_list (Some d) file = explains_array (as_array d) file

-- ---- the whole text

explains_salt : (salt : Option (List ℕ)) (member : Option Data) → Explain (unless (is_some salt) file_error.Salt ++ errors_of_list member) (or_fault fault.Salt salt >>= (λ s. callers_at member >>= (λ callers. Ok (record { salt = s; callers = callers }))))
explains_salt None member = refl
explains_salt (Some s) member = explains_list member (λ callers. record { salt = s; callers = callers })

explains_parse : (parsed : Option Members) → Explain (option_map_or (λ members. errors_of (table members)) parsed (file_error.Toml ∷ [])) (or_fault fault.Toml parsed >>= (λ members. or_fault fault.Salt (text_at (codes "salt") name_fault (table members)) >>= (λ s. callers_at (data_of.get (codes "token") (table members)) >>= (λ callers. Ok (record { salt = s; callers = callers })))))
explains_parse None = refl
explains_parse (Some members) = explains_salt (text_at (codes "salt") name_fault (table members)) (data_of.get (codes "token") (table members))

-- The reader accepts a file exactly if it has no error; otherwise it returns the fault of the
-- first.
pub explains : (text : List ℕ) → Explain (errors_in text) (file_of text)
unfolding file_of
explains text = explains_parse (parse_document text)
