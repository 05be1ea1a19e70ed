-- Lemmas: the tokens of responses.
use Rattle.std.proofs.Common.{◌≡◌, ℕ, Bool, ◌+◌, ◌<◌, ◌≤◌, List, [], ◌∷◌, ◌++◌, length, get_or, map, take, refl, sym, ap, ◌∙◌, append_assoc, Option, Some, None, codes}
use Rattle.std.proofs.lemmas.List.{flat_map_more, take_all, take_more}
use Rattle.json.specs.Print.{print}
use Rattle.json.specs.Token.{Token, begin_array, begin_object, end_array, end_object, key}
use Rattle.json.specs.Tree.{items_tokens}
use Rattle.serde_json.specs.Data.{Data, array}
use Rattle.serde_json.specs.View.{items_of}
use Rattle.serde_json.specs.Written.{items_outline}
use Rattle.serde_json.proofs.Texts.{print-outline}
use Rattle.entity_core.specs.EntityId.{printed}
use Rattle.entity_core.specs.Entity.{kind_of}
use Rattle.entity_core.specs.declared.nature.Nature.{Nature}
use Rattle.entity_core.specs.declared.nature.Nature.TheVariants.{Intent, Constraint}
use Rattle.policy_core.specs.declared.reference.Reference.{Reference}
use Rattle.service_notify.specs.declared.notice.Notify.{Notify}
use Rattle.service_step.specs.declared.reply.Reply.{Reply}
use Rattle.wire_body.specs.Availability.{name_of}
use Rattle.wire_reply.specs.Answer.{reply_text}
use Rattle.wire_reply.specs.Built.{changed_data, reference_data, reply_data, subscribers_data}
use Rattle.wire_reply.specs.Reference.{reference_name}
use Rattle.wire_reply.specs.Tokens.{each_tokens, flag_tokens, nature_tokens, number_tokens, ovn_tokens, text_tokens, tokens_of}
use Rattle.wire_reply.proofs.Texts.{compact_reply}

-- Appends one more part.
pub more : (old front before part : List Token) {after : List Token} → before ≡ old ++ front → after ≡ before ++ part → after ≡ old ++ (front ++ part)
more old front before part is next = next ∙ ap (λ ts. ts ++ part) is ∙ append_assoc old front part

-- Appends a member with a text.
pub more_text : (old front before : List Token) {after : List Token} (name : List ℕ) {s t : List ℕ}
    → s ≡ t → before ≡ old ++ front → after ≡ before ++ text_tokens name s → after ≡ old ++ (front ++ text_tokens name t)
more_text old front before name {s} {t} same is next =
    more old front before (text_tokens name s) is next ∙ ap (λ u. old ++ (front ++ text_tokens name u)) same

-- Appends a member with a number.
pub more_number : (old front before : List Token) {after : List Token} (name : List ℕ) {m n : ℕ}
    → m ≡ n → before ≡ old ++ front → after ≡ before ++ number_tokens name m → after ≡ old ++ (front ++ number_tokens name n)
more_number old front before name {m} {n} same is next =
    more old front before (number_tokens name m) is next ∙ ap (λ k. old ++ (front ++ number_tokens name k)) same

-- Appends a member with a Boolean.
pub more_flag : (old front before : List Token) {after : List Token} (name : List ℕ) {a b : Bool}
    → a ≡ b → before ≡ old ++ front → after ≡ before ++ flag_tokens name a → after ≡ old ++ (front ++ flag_tokens name b)
more_flag old front before name {a} {b} same is next =
    more old front before (flag_tokens name a) is next ∙ ap (λ f. old ++ (front ++ flag_tokens name f)) same

-- The parts of a reference, in the order in which they are written.
abbrev pub reference_head : Reference → List Token
reference_head r = (((begin_object ∷ [] ++ text_tokens (codes "id") (printed r.id)) ++ text_tokens (codes "manager") r.manager) ++ ovn_tokens r.ovn) ++ nature_tokens r.nature

abbrev pub reference_parts : Reference → List Token
reference_parts r =
    (((((reference_head r ++ number_tokens (codes "time_end") r.time_end) ++ number_tokens (codes "time_start") r.time_start)
    ++ text_tokens (codes "uss_availability") (name_of r.availability)) ++ text_tokens (codes "uss_base_url") r.url)
    ++ number_tokens (codes "version") r.version) ++ end_object ∷ []

parts_by : (r : Reference) (ovn : Option (List ℕ)) (nature : Nature)
    → reference_parts (record r { ovn = ovn; nature = nature }) ≡ tokens_of (reference_data (record r { ovn = ovn; nature = nature }))
parts_by r None (Intent state named) = refl
parts_by r (Some ovn) (Intent state named) = refl
parts_by r None Constraint = refl
parts_by r (Some ovn) Constraint = refl

pub reference-parts : (r : Reference) → reference_parts r ≡ tokens_of (reference_data r)
reference-parts r = parts_by r r.ovn r.nature

-- The parts of the response to a change.
abbrev pub changed_parts : Reference → List Notify → List Token
changed_parts r ns =
    begin_object ∷ key (reference_name (kind_of r.nature))
    ∷ (tokens_of (reference_data r) ++ key (codes "subscribers") ∷ (tokens_of (subscribers_data ns) ++ end_object ∷ []))

changed_by : (r : Reference) (ns : List Notify) (nature : Nature) → changed_parts (record r { nature = nature }) ns ≡ tokens_of (changed_data (record r { nature = nature }) ns)
changed_by r ns (Intent state named) = refl
changed_by r ns Constraint = refl

pub changed-parts : (r : Reference) (ns : List Notify) → changed_parts r ns ≡ tokens_of (changed_data r ns)
changed-parts r ns = changed_by r ns r.nature

-- One more item of an array.
pub one_more : {A : Type 0} (data_of : A → Data) (front : List Token) {before after : List Token} (xs : List A) (i : ℕ) (x : A)
    → i < length xs → x ≡ get_or xs i x → before ≡ front ++ each_tokens data_of (take i xs) → after ≡ before ++ tokens_of (data_of x)
    → after ≡ front ++ each_tokens data_of (take (i + 1) xs)
one_more data_of front xs i x below is old next =
    next
    ∙ ap (λ ts. ts ++ tokens_of (data_of x)) old
    ∙ flat_map_more (λ y. tokens_of (data_of y)) front (take i xs) x
    ∙ ap (λ ys. front ++ each_tokens data_of ys) (ap (λ y. take i xs ++ y ∷ []) is ∙ sym (take_more xs i x below))

each_then : {A : Type 0} (data_of : A → Data) (xs : List A) → each_tokens data_of xs ++ end_array ∷ [] ≡ items_tokens (items_outline (items_of (map data_of xs)))
each_then data_of [] = refl
each_then data_of (x ∷ xs) =
    append_assoc (tokens_of (data_of x)) (each_tokens data_of xs) (end_array ∷ [])
    ∙ ap (λ ts. tokens_of (data_of x) ++ ts) (each_then data_of xs)

-- The end of an array of which all items are written.
pub array_end : {A : Type 0} (data_of : A → Data) (front : List Token) {before after : List Token} (xs : List A) (i : ℕ)
    → length xs ≤ i → before ≡ (front ++ begin_array ∷ []) ++ each_tokens data_of (take i xs) → after ≡ before ++ end_array ∷ []
    → after ≡ front ++ tokens_of (array (items_of (map data_of xs)))
array_end data_of front xs i all old next =
    next
    ∙ ap (λ ts. ts ++ end_array ∷ []) (old ∙ ap (λ ys. (front ++ begin_array ∷ []) ++ each_tokens data_of ys) (take_all i xs all))
    ∙ append_assoc (front ++ begin_array ∷ []) (each_tokens data_of xs) (end_array ∷ [])
    ∙ ap (λ ts. (front ++ begin_array ∷ []) ++ ts) (each_then data_of xs)
    ∙ append_assoc front (begin_array ∷ []) (items_tokens (items_outline (items_of (map data_of xs))))

-- What is printed for the tokens of a response is its text.
pub print-reply : (r : Reply) → print (tokens_of (reply_data r)) ≡ reply_text r
print-reply r = print-outline (reply_data r) ∙ compact_reply r
