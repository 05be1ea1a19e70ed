-- Lemmas: the bodies of denials with an explanation.
use Rattle.std.proofs.Common.{◌≡◌, ℕ, ◌<◌, List, [], ◌∷◌, ◌++◌, Bool, true, false, length, refl, sym, ap, ◌∙◌, append_assoc, append-nil, map, codes, arith, Option, Some, None, option_and_then, option_map, cond, max, ◌≤◌}
use Rattle.std.specs.Prelude.{String, string_bytes}
use Rattle.std.specs.declared.alloc.Global.{Global}
use Rattle.json.specs.Json as json
use Rattle.json.specs.Print.{print, quoted}
use Rattle.json.specs.Tree.{HasNumbers, ItemsHaveNumbers}
use Rattle.json.specs.Token.{Token}
use Rattle.json.specs.Tree as tree
use Rattle.json.proofs.Printed.Tokens.{tokens-print}
use Rattle.json.proofs.Printed.Trees.{ArePrintable-json_tokens, value-json_tokens}
use Rattle.serde_json.specs.Data.{Data, array, item, member, no_members, object, put, string}
use Rattle.serde_json.specs.Read.{max_depth, of_items, of_json, of_members, read}
use Rattle.serde_json.specs.View.{items_of}
use Rattle.serde_json.specs.Written.{compact_text, items_outline, outline}
use Rattle.serde_json.proofs.Texts.{print-outline}
use Rattle.policy_core.specs.declared.reference.Missing.{Missing}
use Rattle.policy_core.specs.declared.rule.Rule.{Rule}
use Rattle.policy_core.specs.declared.rule.Rule.TheVariants as rules
use Rattle.service_step.specs.declared.reply.Reply.{Reply}
use Rattle.service_step.specs.declared.reply.Reply.TheVariants.{Done, Denied, Fault, Stopped}
use Rattle.wire_reply.specs.Answer.{denied_text, message_text, reply_text, rule_text}
use Rattle.wire_reply.specs.Built.{explained_data, message_data}
use Rattle.wire_reply.specs.Explained.{AddsOneMember, body_with, explained_rule, explained_text, explanation_text, is_explained, notes_data}
use Rattle.wire_reply.specs.Json.{array_text, member_text, object_text}
use Rattle.wire_reply.specs.Tokens.{tokens_of}
use Rattle.wire_reply.proofs.Compact.{compact_text-array, compact_text-object, item_texts}
use Rattle.wire_reply.proofs.Texts.{compact_message}

-- ---- texts

-- A text as a JSON value.
abbrev pub note_data : String Global → Data
note_data note = string (string_bytes note)

notes_items : (notes : List (String Global)) → map note_data notes ≡ map string (map string_bytes notes)
notes_items [] = refl
notes_items (n ∷ ns) = ap (λ ds. note_data n ∷ ds) (notes_items ns)

pub notes-each : (notes : List (String Global)) → array (items_of (map note_data notes)) ≡ notes_data (map string_bytes notes)
notes-each notes = ap (λ ds. array (items_of ds)) (notes_items notes)

pub some_notes : (notes : List (String Global)) → 0 < length notes → 0 < length (map string_bytes notes)
some_notes [] some = some
some_notes (n ∷ ns) some = omega arith

item_texts-notes : (notes : List (List ℕ)) → item_texts (items_of (map string notes)) ≡ map quoted notes
item_texts-notes [] = refl
item_texts-notes (n ∷ ns) = ap (λ ts. quoted n ∷ ts) (item_texts-notes ns)

compact_notes : (notes : List (List ℕ)) → compact_text (notes_data notes) ≡ array_text (map quoted notes)
compact_notes notes = compact_text-array (items_of (map string notes)) ∙ ap array_text (item_texts-notes notes)

-- The text of a message with an explanation is that of the message with one more member.
compact_explained : (n : List ℕ) (ns : List (List ℕ)) (words : List ℕ) → compact_text (explained_data (n ∷ ns) words) ≡ body_with (n ∷ ns) (message_text words)
compact_explained n ns words =
    let message : List ℕ = member_text (codes "message", quoted words) in
    compact_text-object (member (codes "explanation") (notes_data (n ∷ ns)) (member (codes "message") (string words) no_members))
    ∙ ap (λ t. object_text ((codes "explanation", t) ∷ (codes "message", quoted words) ∷ [])) (compact_notes (n ∷ ns))
    ∙ ap (λ s. codes "{" ++ s) (append_assoc (explanation_text (n ∷ ns)) (codes "," ++ message) (codes "}"))

pub print-explained : (notes : List (List ℕ)) (words : List ℕ) → 0 < length notes → print (tokens_of (explained_data notes words)) ≡ body_with notes (message_text words)
print-explained [] words some = absurd (omega (arith, some))
print-explained (n ∷ ns) words some = print-outline (explained_data (n ∷ ns) words) ∙ compact_explained n ns words

-- ---- which replies

-- An explained denial has a message only.
message_only : (p : Rule) (m : Missing) → is_explained p ≡ true → denied_text p m ≡ message_text (rule_text p)
message_only rules.Route m e = refl
message_only rules.Method m e = refl
message_only rules.Token m e = refl
message_only rules.Scope m e = refl
message_only rules.Form m e = refl
message_only rules.Area m e = refl
message_only rules.Found m e = refl
message_only rules.Fresh m e = refl
message_only rules.Manager m e = refl
message_only rules.Version m e = refl
message_only rules.Role m e = refl
message_only rules.Change m e = refl
message_only rules.Ended m e = refl
message_only rules.Key m e = cc
message_only rules.Limit m e = refl
message_only rules.Subscription m e = refl
message_only rules.Depended m e = refl

explained_if : (p r : Rule) (m : Missing) (notes : List (List ℕ)) (b : Bool) → is_explained p ≡ b → cond b (Some p) None ≡ Some r
    → body_with notes (message_text (rule_text r)) ≡ body_with (cond b notes []) (denied_text p m)
explained_if p r m notes true t e =
    let same : p ≡ r = cc in
    ap (λ q. body_with notes (message_text (rule_text q))) (sym same) ∙ ap (body_with notes) (sym (message_only p m t))
explained_if p r m notes false t e = let none : None ≡ Some r = e in cc

explained_some : (reply : Reply) (r : Rule) (n : List ℕ) (ns : List (List ℕ)) → explained_rule reply ≡ Some r
    → body_with (n ∷ ns) (message_text (rule_text r)) ≡ explained_text (n ∷ ns) reply
explained_some (Done answer) r n ns e = let none : None ≡ Some r = e in cc
explained_some (Denied p m) r n ns e = explained_if p r m (n ∷ ns) (is_explained p) refl e
explained_some Fault r n ns e = let none : None ≡ Some r = e in cc
explained_some Stopped r n ns e = let none : None ≡ Some r = e in cc

pub explained_by : (reply : Reply) (r : Rule) (notes : List (List ℕ)) → 0 < length notes → explained_rule reply ≡ Some r
    → body_with notes (message_text (rule_text r)) ≡ explained_text notes reply
explained_by reply r [] some e = absurd (omega (arith, some))
explained_by reply r (n ∷ ns) some e = explained_some reply r n ns e

unexplained_if : (p : Rule) (notes : List (List ℕ)) (text : List ℕ) (b : Bool) → cond b (Some p) None ≡ None → body_with (cond b notes []) text ≡ text
unexplained_if p notes text true e = let none : Some p ≡ None = e in cc
unexplained_if p notes text false e = refl

pub unexplained : (reply : Reply) (notes : List (List ℕ)) → explained_rule reply ≡ None → explained_text notes reply ≡ reply_text reply
unexplained reply [] e = refl
unexplained (Done answer) (n ∷ ns) e = refl
unexplained (Denied p m) (n ∷ ns) e = unexplained_if p (n ∷ ns) (denied_text p m) (is_explained p) e
unexplained Fault (n ∷ ns) e = refl
unexplained Stopped (n ∷ ns) e = refl

pub without_notes : (notes : List (String Global)) (reply : Reply) → length notes ≡ 0 → reply_text reply ≡ explained_text (map string_bytes notes) reply
without_notes [] reply none = refl
without_notes (n ∷ ns) reply none = absurd (omega (arith, none))

-- ---- reading

abbrev whole : Option (json.Json × List Token) → Option Data
whole o = option_and_then of_json (option_and_then (λ p. json.if_last p.0 p.1) o)

-- A printed value without numbers that cannot be read, and without deep nesting, is read back.
read_print : (d e : Data) → HasNumbers (outline d) → tree.depth (outline d) ≤ max_depth → of_json (outline d) ≡ Some e → read (print (tokens_of d)) ≡ Some e
read_print d e numbers shallow of =
    ap whole (ap (json.value max_depth) (tokens-print (tokens_of d) (ArePrintable-json_tokens (outline d) numbers) ∙ sym (append-nil (tokens_of d)))
    ∙ value-json_tokens (outline d) max_depth [] shallow)
    ∙ of

notes_numbers : (notes : List (List ℕ)) → ItemsHaveNumbers (items_outline (items_of (map string notes)))
notes_numbers [] = tt
notes_numbers (n ∷ ns) = (tt, notes_numbers ns)

notes_depth : (notes : List (List ℕ)) → tree.items_depth (items_outline (items_of (map string notes))) ≡ 0
notes_depth [] = refl
notes_depth (n ∷ ns) = ap (λ d. max 0 d) (notes_depth ns)

notes_read : (notes : List (List ℕ)) → of_items (items_outline (items_of (map string notes))) ≡ Some (items_of (map string notes))
notes_read [] = refl
notes_read (n ∷ ns) = ap (option_map (item (string n))) (notes_read ns)

read_message : (words : List ℕ) → read (message_text words) ≡ Some (message_data words)
read_message words =
    ap read (sym (print-outline (message_data words) ∙ compact_message words))
    ∙ read_print (message_data words) (message_data words) (tt, tt) (omega arith) refl

read_explained : (n : List ℕ) (ns : List (List ℕ)) (words : List ℕ) → read (body_with (n ∷ ns) (message_text words)) ≡ Some (explained_data (n ∷ ns) words)
read_explained n ns words =
    let d : Data = explained_data (n ∷ ns) words in
    let shallow : tree.depth (outline d) ≤ max_depth = omega (arith, notes_depth (n ∷ ns)) in
    ap read (sym (print-outline d ∙ compact_explained n ns words))
    ∙ read_print d d (notes_numbers (n ∷ ns), (tt, tt)) shallow
    (ap (λ o. option_map object (option_and_then (λ v. of_members (json.member (codes "message") (json.string words) json.no_members) (put (codes "explanation") v no_members)) (option_map array o)))
    (notes_read (n ∷ ns)))

pub adds_one : AddsOneMember
adds_one p m n ns e = record {
  members = member (codes "message") (string (rule_text p)) no_members;
  policy = ap read (message_only p m e) ∙ read_message (rule_text p);
  more = ap read (sym (explained_if p p m (n ∷ ns) (is_explained p) refl (ap (λ b. cond b (Some p) None) e))) ∙ read_explained n ns (rule_text p);
}
