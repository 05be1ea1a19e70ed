-- The policy gives the same results on redacted airspaces.
use Rattle.std.specs.Prelude.{◌≡◌, ℕ, not, Bool, true, false, List, [], ◌∷◌, ◌++◌, map, filter, Option, Some, None, cond, find, refl, option_map}
use Rattle.std.proofs.Common.{sym, ap, ◌∙◌, subst}
use Rattle.std.specs.Cmp.Lexicographic.{same_text as one_text}
use Rattle.std.specs.Ordering.{eq_by_cmp, nat_cmp}
use Rattle.std.specs.FinMap as maps
use Rattle.std.specs.FinMap.{get, get-entries, entries}
use Rattle.entity_core.specs.IdTexts.{same_text}
use Rattle.entity_core.specs.Airspace.{Airspace, EntityKey, VersionedAvailability, Availabilities, key_cmp}
use Rattle.entity_core.specs.Entity.{kind_of}
use Rattle.entity_core.specs.Search.{dependents_in, is_naming}
use Rattle.entity_core.specs.declared.entity.Entity.{Entity}
use Rattle.entity_core.specs.declared.subscription.Sub.{Sub}
use Rattle.policy_core.specs.declared.scope.Caller.{Caller}
use Rattle.policy_core.specs.declared.call.Call.{Call}
use Rattle.policy_core.specs.declared.call.Operation.{Operation}
use Rattle.policy_core.specs.declared.call.Operation.TheVariants.{NoRoute, NoMethod, Malformed, Query, Read, Create, Update, Delete, ReadAvail, SetAvail, QuerySub, ReadSub, CreateSub, UpdateSub, DeleteSub}
use Rattle.policy_core.specs.declared.rule.Rule.{Rule}
use Rattle.policy_core.specs.declared.rule.Rule.TheVariants.{Manager, Version}
use Rattle.policy_core.specs.Policy.{breaks, breaks_given, early_rules, standing_rules}
use Rattle.policy_core.specs.Standing.{Facts, depended_of, facts_of, found_of, is_some_of, stated_of, sub_under}
use Rattle.policy_core.specs.Call.{subject_of}
use Rattle.policy_core.specs.Blind.{redacted, redacted_entry, redacted_sub, redacted_sub_entry, IsLike, is_uss}
use Rattle.policy_core.proofs.Finds.{or_else, find-append}

-- A USS is identified by its text.
pub one_uss : (m : List ℕ) (caller : Caller) → is_uss m (Some caller) ≡ true → caller.uss ≡ m
one_uss m caller h = one_text caller.uss m (sym h)

-- ---- lookups

find-veiled : (m : List ℕ) (k : EntityKey) (es : List (EntityKey × Entity)) → option_map (redacted m) (maps.find key_cmp k es) ≡ maps.find key_cmp k (map (redacted_entry m) es)
find-veiled m k [] = refl
find-veiled m k (e ∷ es) =
    elim (eq_by_cmp key_cmp k e.0) as (λ b. option_map (redacted m) (cond b (Some e.1) (maps.find key_cmp k es)) ≡ cond b (Some (redacted m e.1)) (maps.find key_cmp k (map (redacted_entry m) es))) [
      | true ↦ refl
      | false ↦ find-veiled m k es
    ]

get-veiled : (m : List ℕ) (a : Airspace) (k : EntityKey) → option_map (redacted m) (get a.entities k) ≡ maps.find key_cmp k (map (redacted_entry m) (entries a.entities))
get-veiled m a k = ap (option_map (redacted m)) (get-entries a.entities k) ∙ find-veiled m k (entries a.entities)

pub get_like : (m : List ℕ) (a b : Airspace) (k : EntityKey) → IsLike m a b → option_map (redacted m) (get a.entities k) ≡ option_map (redacted m) (get b.entities k)
get_like m a b k l = get-veiled m a k ∙ (ap (maps.find key_cmp k) l.entities ∙ sym (get-veiled m b k))

pub found_like : (m : List ℕ) (a b : Airspace) (op : Operation) → IsLike m a b → option_map (redacted m) (found_of a op) ≡ option_map (redacted m) (found_of b op)
found_like m a b NoRoute l = refl
found_like m a b NoMethod l = refl
found_like m a b (Malformed kind) l = refl
found_like m a b (Query kind area) l = refl
found_like m a b (Read kind id) l = get_like m a b (kind, id) l
found_like m a b (Create id put) l = get_like m a b (kind_of put.nature, id) l
found_like m a b (Update id ovn put) l = get_like m a b (kind_of put.nature, id) l
found_like m a b (Delete kind id ovn) l = get_like m a b (kind, id) l
found_like m a b (QuerySub area) l = refl
found_like m a b (ReadSub id) l = refl
found_like m a b (CreateSub id put) l = refl
found_like m a b (UpdateSub id version put) l = refl
found_like m a b (DeleteSub id version) l = refl
found_like m a b (ReadAvail uss) l = refl
found_like m a b (SetAvail uss old availability) l = refl

pub stated_like : (a b : Airspace) (op : Operation) → a.availabilities ≡ b.availabilities → stated_of a op ≡ stated_of b op
stated_like a b NoRoute l = refl
stated_like a b NoMethod l = refl
stated_like a b (Malformed kind) l = refl
stated_like a b (Query kind area) l = refl
stated_like a b (Read kind id) l = refl
stated_like a b (Create id put) l = refl
stated_like a b (Update id ovn put) l = refl
stated_like a b (Delete kind id ovn) l = refl
stated_like a b (QuerySub area) l = refl
stated_like a b (ReadSub id) l = refl
stated_like a b (CreateSub id put) l = refl
stated_like a b (UpdateSub id version put) l = refl
stated_like a b (DeleteSub id version) l = refl
stated_like a b (ReadAvail uss) l = ap (λ (x : Availabilities). get x uss) l
stated_like a b (SetAvail uss old availability) l = ap (λ (x : Availabilities). get x uss) l

-- ---- subscriptions

find_sub-veiled : (m : List ℕ) (k : ℕ) (ss : List (ℕ × Sub)) → option_map (redacted_sub m) (maps.find nat_cmp k ss) ≡ maps.find nat_cmp k (map (redacted_sub_entry m) ss)
find_sub-veiled m k [] = refl
find_sub-veiled m k (s ∷ ss) =
    elim (eq_by_cmp nat_cmp k s.0) as (λ b. option_map (redacted_sub m) (cond b (Some s.1) (maps.find nat_cmp k ss)) ≡ cond b (Some (redacted_sub m s.1)) (maps.find nat_cmp k (map (redacted_sub_entry m) ss))) [
      | true ↦ refl
      | false ↦ find_sub-veiled m k ss
    ]

get_sub-veiled : (m : List ℕ) (a : Airspace) (k : ℕ) → option_map (redacted_sub m) (get a.subscriptions k) ≡ maps.find nat_cmp k (map (redacted_sub_entry m) (entries a.subscriptions))
get_sub-veiled m a k = ap (option_map (redacted_sub m)) (get-entries a.subscriptions k) ∙ find_sub-veiled m k (entries a.subscriptions)

pub get_sub_like : (m : List ℕ) (a b : Airspace) (k : ℕ) → IsLike m a b → option_map (redacted_sub m) (get a.subscriptions k) ≡ option_map (redacted_sub m) (get b.subscriptions k)
get_sub_like m a b k l = get_sub-veiled m a k ∙ (ap (maps.find nat_cmp k) l.subscriptions ∙ sym (get_sub-veiled m b k))

pub under_like : (m : List ℕ) (a b : Airspace) (named : Option ℕ) → IsLike m a b → option_map (redacted_sub m) (sub_under a named) ≡ option_map (redacted_sub m) (sub_under b named)
under_like m a b None l = refl
under_like m a b (Some id) l = get_sub_like m a b id l

-- The intents that reference a subscription do not depend on OVNs.
dependents-veiled : (m : List ℕ) (id : ℕ) (es : List (EntityKey × Entity)) → map (λ e. e.id) (map (λ e. e.1) (filter (is_naming id) es)) ≡ map (λ e. e.id) (map (λ e. e.1) (filter (is_naming id) (map (redacted_entry m) es)))
dependents-veiled m id [] = refl
dependents-veiled m id (e ∷ es) =
    let rest : List (EntityKey × Entity) = filter (is_naming id) es in
    let others : List (EntityKey × Entity) = filter (is_naming id) (map (redacted_entry m) es) in
    elim (is_naming id e) as (λ b. map (λ x. x.id) (map (λ x. x.1) (cond b (e ∷ rest) rest)) ≡ map (λ x. x.id) (map (λ x. x.1) (cond b (redacted_entry m e ∷ others) others))) [
      | true ↦ ap (λ (ids : List ℕ). e.1.id ∷ ids) (dependents-veiled m id es)
      | false ↦ dependents-veiled m id es
    ]

pub dependents_like : (m : List ℕ) (a b : Airspace) (id : ℕ) → IsLike m a b → dependents_in a.entities id ≡ dependents_in b.entities id
unfolding dependents_in
dependents_like m a b id l =
    dependents-veiled m id (entries a.entities)
    ∙ (ap (λ (es : List (EntityKey × Entity)). map (λ e. e.id) (map (λ e. e.1) (filter (is_naming id) es))) l.entities
    ∙ sym (dependents-veiled m id (entries b.entities)))

pub depended_like : (m : List ℕ) (a b : Airspace) (op : Operation) → IsLike m a b → depended_of a op ≡ depended_of b op
depended_like m a b NoRoute l = refl
depended_like m a b NoMethod l = refl
depended_like m a b (Malformed kind) l = refl
depended_like m a b (Query kind area) l = refl
depended_like m a b (Read kind id) l = refl
depended_like m a b (Create id put) l = refl
depended_like m a b (Update id ovn put) l = refl
depended_like m a b (Delete kind id ovn) l = refl
depended_like m a b (ReadAvail uss) l = refl
depended_like m a b (SetAvail uss old availability) l = refl
depended_like m a b (QuerySub area) l = refl
depended_like m a b (ReadSub id) l = refl
depended_like m a b (CreateSub id put) l = refl
depended_like m a b (UpdateSub id version put) l = refl
depended_like m a b (DeleteSub id version) l = ap is_some_of (dependents_like m a b id l)

-- ---- P7 to P13, P16 and P17

-- The manager is checked before the OVN, so the OVN of another USS's entity does not matter.
manager_first : (own : Bool) (ovn present : List ℕ) (rest : Option Rule) → cond (not own) (Some Manager) (cond (not (same_text ovn present)) (Some Version) rest) ≡ cond (not own) (Some Manager) (cond (not (same_text ovn (cond own present []))) (Some Version) rest)
manager_first true ovn present rest = refl
manager_first false ovn present rest = refl

veiled_found : (caller : Caller) (found : Option Entity) (stated : Option VersionedAvailability) (serial t : ℕ) (sub : Option Sub) (depended : Bool) (op : Operation)
    → find (breaks_given (record { found = found; stated = stated; serial = serial; sub = sub; depended = depended }) t (record { caller = Some caller; op = op })) standing_rules
    ≡ find (breaks_given (record { found = option_map (redacted caller.uss) found; stated = stated; serial = serial; sub = sub; depended = depended }) t (record { caller = Some caller; op = op })) standing_rules
veiled_found caller None stated serial t sub depended op = refl
veiled_found caller (Some e) stated serial t sub depended NoRoute = refl
veiled_found caller (Some e) stated serial t sub depended NoMethod = refl
veiled_found caller (Some e) stated serial t sub depended (Malformed kind) = refl
veiled_found caller (Some e) stated serial t sub depended (Query kind area) = refl
veiled_found caller (Some e) stated serial t sub depended (Read kind id) = refl
veiled_found caller (Some e) stated serial t sub depended (Create id put) = refl
veiled_found caller (Some e) stated serial t sub depended (Update id ovn put) = manager_first (same_text e.manager caller.uss) ovn e.ovn _
veiled_found caller (Some e) stated serial t sub depended (Delete kind id ovn) = manager_first (same_text e.manager caller.uss) ovn e.ovn _
veiled_found caller (Some e) stated serial t sub depended (ReadAvail uss) = refl
veiled_found caller (Some e) stated serial t sub depended (SetAvail uss old availability) = refl
veiled_found caller (Some e) stated serial t sub depended (QuerySub area) = refl
veiled_found caller (Some e) stated serial t sub depended (ReadSub id) = refl
veiled_found caller (Some e) stated serial t sub depended (CreateSub id put) = refl
veiled_found caller (Some e) stated serial t sub depended (UpdateSub id version put) = refl
veiled_found caller (Some e) stated serial t sub depended (DeleteSub id version) = refl

veiled_subject : (caller : Caller) (found : Option Entity) (stated : Option VersionedAvailability) (serial t : ℕ) (sub : Option Sub) (depended : Bool) (op : Operation)
    → find (breaks_given (record { found = found; stated = stated; serial = serial; sub = sub; depended = depended }) t (record { caller = Some caller; op = op })) standing_rules
    ≡ find (breaks_given (record { found = found; stated = stated; serial = serial; sub = option_map (redacted_sub caller.uss) sub; depended = depended }) t (record { caller = Some caller; op = op })) standing_rules
veiled_subject caller found stated serial t None depended op = refl
veiled_subject caller found stated serial t (Some s) depended NoRoute = refl
veiled_subject caller found stated serial t (Some s) depended NoMethod = refl
veiled_subject caller found stated serial t (Some s) depended (Malformed kind) = refl
veiled_subject caller found stated serial t (Some s) depended (Query kind area) = refl
veiled_subject caller found stated serial t (Some s) depended (Read kind id) = refl
veiled_subject caller found stated serial t (Some s) depended (Create id put) = refl
veiled_subject caller found stated serial t (Some s) depended (Update id ovn put) = refl
veiled_subject caller found stated serial t (Some s) depended (Delete kind id ovn) = refl
veiled_subject caller found stated serial t (Some s) depended (ReadAvail uss) = refl
veiled_subject caller found stated serial t (Some s) depended (SetAvail uss old availability) = refl
veiled_subject caller found stated serial t (Some s) depended (QuerySub area) = refl
veiled_subject caller found stated serial t (Some s) depended (ReadSub id) = refl
veiled_subject caller found stated serial t (Some s) depended (CreateSub id put) = refl
veiled_subject caller found stated serial t (Some s) depended (UpdateSub id version put) = manager_first (same_text s.manager caller.uss) version s.version _
veiled_subject caller found stated serial t (Some s) depended (DeleteSub id version) = manager_first (same_text s.manager caller.uss) version s.version _

-- The facts with redacted entities and subscriptions.
abbrev redacted_facts : List ℕ → Facts → Facts
redacted_facts m f = record f { found = option_map (redacted m) f.found; sub = option_map (redacted_sub m) f.sub }

pub standing_veiled : (caller : Caller) (f : Facts) (t : ℕ) (op : Operation)
    → find (breaks_given f t (record { caller = Some caller; op = op })) standing_rules ≡ find (breaks_given (redacted_facts caller.uss f) t (record { caller = Some caller; op = op })) standing_rules
standing_veiled caller f t op =
    veiled_found caller f.found f.stated f.serial t f.sub f.depended op
    ∙ veiled_subject caller (option_map (redacted caller.uss) f.found) f.stated f.serial t f.sub f.depended op

facts_like : (m : List ℕ) (a b : Airspace) (op : Operation) → IsLike m a b → redacted_facts m (facts_of a op) ≡ redacted_facts m (facts_of b op)
facts_like m a b op l = λ i. record {
  found = found_like m a b op l i;
  stated = stated_like a b op l.availabilities i;
  serial = l.serial i;
  sub = under_like m a b (subject_of op) l i;
  depended = depended_like m a b op l i;
}

standing_by : (caller : Caller) (a b : Airspace) (t : ℕ) (op : Operation) → IsLike caller.uss a b → find (breaks a t (record { caller = Some caller; op = op })) standing_rules ≡ find (breaks b t (record { caller = Some caller; op = op })) standing_rules
standing_by caller a b t op l =
    let c : Call = record { caller = Some caller; op = op } in
    standing_veiled caller (facts_of a op) t op
    ∙ (ap (λ (f : Facts). find (breaks_given f t c) standing_rules) (facts_like caller.uss a b op l)
    ∙ sym (standing_veiled caller (facts_of b op) t op))

-- The first broken rule of P1 to P13, P16 and P17 is the same for airspaces that are alike to the
-- caller.
pub rules_like : (m : List ℕ) (a b : Airspace) (t : ℕ) (caller : Option Caller) (op : Operation) → IsLike m a b → is_uss m caller ≡ true
    → find (breaks a t (record { caller = caller; op = op })) (early_rules ++ standing_rules) ≡ find (breaks b t (record { caller = caller; op = op })) (early_rules ++ standing_rules)
rules_like m a b t None op l is = cc
rules_like m a b t (Some caller) op l is =
    let c : Call = record { caller = Some caller; op = op } in
    find-append (breaks a t c) early_rules standing_rules
    ∙ (ap (or_else (find (breaks a t c) early_rules)) (standing_by caller a b t op (subst (λ (u : List ℕ). IsLike u a b) (sym (one_uss m caller is)) l))
    ∙ sym (find-append (breaks b t c) early_rules standing_rules))
