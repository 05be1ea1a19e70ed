-- Lemmas: over any list of calls, a USS gets the same replies from airspaces that are alike to it.
use Rattle.std.specs.Prelude.{◌≡◌, ℕ, ◌||◌, not, Bool, true, false, List, [], ◌∷◌, ◌++◌, map, Option, Some, None, cond, find, refl, option_map, unwrap_or}
use Rattle.std.proofs.Common.{sym, ap, ◌∙◌}
use Rattle.std.specs.Ordering.{eq_by_cmp, nat_cmp}
use Rattle.std.specs.FinMap as maps
use Rattle.std.specs.FinMap.{get, get-entries, entries}
use Rattle.entity_core.specs.IdTexts.{same_text}
use Rattle.entity_core.specs.Airspace.{Airspace, EntityKey, key_cmp}
use Rattle.entity_core.specs.Entity.{kind_of}
use Rattle.entity_core.specs.declared.availability.Availability.TheVariants.{Unknown}
use Rattle.entity_core.specs.declared.entity.Entity.{Entity}
use Rattle.entity_core.specs.declared.subscription.Sub.{Sub}
use Rattle.policy_core.specs.Call.{subject_of}
use Rattle.policy_core.specs.declared.scope.Caller.{Caller}
use Rattle.policy_core.specs.declared.call.Call.{Call}
use Rattle.policy_core.specs.declared.call.Operation.{Operation}
use Rattle.policy_core.specs.declared.call.Operation.TheVariants.{NoRoute, NoMethod, Malformed, Query, Read, Create, Update, Delete, ReadAvail, SetAvail, QuerySub, ReadSub, CreateSub, UpdateSub, DeleteSub}
use Rattle.policy_core.specs.declared.rule.Rule.{Rule}
use Rattle.policy_core.specs.declared.rule.Rule.TheVariants.{Found, Fresh, Manager, Version, Role, Change, Ended, Subscription, Depended}
use Rattle.policy_core.specs.Blind.{redacted, redacted_entry, redacted_sub, redacted_sub_entry, IsLike, is_by, known, named, named_sub}
use Rattle.policy_core.specs.Policy.{breaks, early_rules, standing_rules, last_rules, first_broken, breaks_found, breaks_fresh, breaks_manager, breaks_version, breaks_role, breaks_change, breaks_ended, breaks_subscription, breaks_depended, has_another_ovn, has_another_version}
use Rattle.policy_core.specs.Standing.{depended_of, found_of, stated_of, sub_of}
use Rattle.policy_core.proofs.Finds.{or_else, find-append}
use Rattle.policy_core.proofs.Redactions.{found_like, under_like, depended_like}
use Rattle.service_calls.specs.Blind.{AllCalledAlike, replies_to}
use Rattle.service_calls.specs.Run.{TimedCall, replies_of, airspace_after}
use Rattle.service_step.specs.Step.{step}
use Rattle.service_calls.proofs.Alike.{last_like, stays_like, own_call}

-- ---- the version in a path

-- Whether a path has an entity's OVN follows from the redacted entity and from what is known of it.
seen_path : (own : Bool) (ovn present : List ℕ) → same_text ovn present ≡ cond own (same_text ovn (cond own present [])) (own || same_text ovn present)
seen_path true ovn present = refl
seen_path false ovn present = refl

-- Returns true if the entity of a key has another version, given the redacted entries and what is
-- known of each.
abbrev another_of : List ℕ → List ℕ → EntityKey → List (EntityKey × Entity) → List Bool → Bool
another_of m ovn k [] bs = false
another_of m ovn k (x ∷ xs) [] = false
another_of m ovn k (x ∷ xs) (b ∷ bs) = cond (eq_by_cmp key_cmp k x.0) (not (cond (same_text x.1.manager m) (same_text ovn x.1.ovn) b)) (another_of m ovn k xs bs)

another-veiled : (m ovn : List ℕ) (k : EntityKey) (es : List (EntityKey × Entity)) → has_another_ovn (maps.find key_cmp k es) ovn ≡ another_of m ovn k (map (redacted_entry m) es) (map (λ e. same_text e.1.manager m || same_text ovn e.1.ovn) es)
another-veiled m ovn k [] = refl
another-veiled m ovn k (x ∷ es) =
    elim (eq_by_cmp key_cmp k x.0) as (λ b. has_another_ovn (cond b (Some x.1) (maps.find key_cmp k es)) ovn
    ≡ cond b (not (cond (same_text x.1.manager m) (same_text ovn (cond (same_text x.1.manager m) x.1.ovn [])) (same_text x.1.manager m || same_text ovn x.1.ovn))) (another_of m ovn k (map (redacted_entry m) es) (map (λ e. same_text e.1.manager m || same_text ovn e.1.ovn) es))) [
      | true ↦ ap not (seen_path (same_text x.1.manager m) ovn x.1.ovn)
      | false ↦ another-veiled m ovn k es
    ]

another_like : (m ovn : List ℕ) (a b : Airspace) (k : EntityKey) → IsLike m a b → map (λ e. same_text e.1.manager m || same_text ovn e.1.ovn) (entries a.entities) ≡ map (λ e. same_text e.1.manager m || same_text ovn e.1.ovn) (entries b.entities)
    → has_another_ovn (get a.entities k) ovn ≡ has_another_ovn (get b.entities k) ovn
another_like m ovn a b k l n =
    ap (λ (o : Option Entity). has_another_ovn o ovn) (get-entries a.entities k)
    ∙ (another-veiled m ovn k (entries a.entities)
    ∙ ((λ i. another_of m ovn k (l.entities i) (n i))
    ∙ (sym (another-veiled m ovn k (entries b.entities))
    ∙ ap (λ (o : Option Entity). has_another_ovn o ovn) (sym (get-entries b.entities k)))))

-- Returns true if the subscription of an id has another version, given the redacted entries and
-- what is known of each.
abbrev another_sub_of : List ℕ → List ℕ → ℕ → List (ℕ × Sub) → List Bool → Bool
another_sub_of m version k [] bs = false
another_sub_of m version k (x ∷ xs) [] = false
another_sub_of m version k (x ∷ xs) (b ∷ bs) = cond (eq_by_cmp nat_cmp k x.0) (not (cond (same_text x.1.manager m) (same_text version x.1.version) b)) (another_sub_of m version k xs bs)

another_sub-veiled : (m version : List ℕ) (k : ℕ) (ss : List (ℕ × Sub)) → has_another_version (maps.find nat_cmp k ss) version ≡ another_sub_of m version k (map (redacted_sub_entry m) ss) (map (λ s. same_text s.1.manager m || same_text version s.1.version) ss)
another_sub-veiled m version k [] = refl
another_sub-veiled m version k (x ∷ ss) =
    elim (eq_by_cmp nat_cmp k x.0) as (λ b. has_another_version (cond b (Some x.1) (maps.find nat_cmp k ss)) version
    ≡ cond b (not (cond (same_text x.1.manager m) (same_text version (cond (same_text x.1.manager m) x.1.version [])) (same_text x.1.manager m || same_text version x.1.version))) (another_sub_of m version k (map (redacted_sub_entry m) ss) (map (λ s. same_text s.1.manager m || same_text version s.1.version) ss))) [
      | true ↦ ap not (seen_path (same_text x.1.manager m) version x.1.version)
      | false ↦ another_sub-veiled m version k ss
    ]

another_sub_like : (m version : List ℕ) (a b : Airspace) (k : ℕ) → IsLike m a b → map (λ s. same_text s.1.manager m || same_text version s.1.version) (entries a.subscriptions) ≡ map (λ s. same_text s.1.manager m || same_text version s.1.version) (entries b.subscriptions)
    → has_another_version (get a.subscriptions k) version ≡ has_another_version (get b.subscriptions k) version
another_sub_like m version a b k l n =
    ap (λ (o : Option Sub). has_another_version o version) (get-entries a.subscriptions k)
    ∙ (another_sub-veiled m version k (entries a.subscriptions)
    ∙ ((λ i. another_sub_of m version k (l.subscriptions i) (n i))
    ∙ (sym (another_sub-veiled m version k (entries b.subscriptions))
    ∙ ap (λ (o : Option Sub). has_another_version o version) (sym (get-entries b.subscriptions k)))))

stale_like : (m : List ℕ) (a b : Airspace) (op : Operation) → IsLike m a b → named m op a ≡ named m op b → named_sub m op a ≡ named_sub m op b → breaks_version op (found_of a op) (stated_of a op) (sub_of a op) ≡ breaks_version op (found_of b op) (stated_of b op) (sub_of b op)
stale_like m a b NoRoute l n v = refl
stale_like m a b NoMethod l n v = refl
stale_like m a b (Malformed kind) l n v = refl
stale_like m a b (Query kind area) l n v = refl
stale_like m a b (Read kind id) l n v = refl
stale_like m a b (Create id put) l n v = refl
stale_like m a b (Update id ovn put) l n v = another_like m ovn a b (kind_of put.nature, id) l n
stale_like m a b (Delete kind id ovn) l n v = another_like m ovn a b (kind, id) l n
stale_like m a b (ReadAvail uss) l n v = refl
stale_like m a b (SetAvail uss old availability) l n v = λ i. not (same_text old (unwrap_or (get (l.availabilities i) uss) (Unknown, [])).1)
stale_like m a b (QuerySub area) l n v = refl
stale_like m a b (ReadSub id) l n v = refl
stale_like m a b (CreateSub id put) l n v = refl
stale_like m a b (UpdateSub id version put) l n v = another_sub_like m version a b id l v
stale_like m a b (DeleteSub id version) l n v = another_sub_like m version a b id l v

-- ---- calls of another USS

-- The first broken rule of P7 to P13, P16 and P17, given whether P10 is broken.
abbrev rules_with : Option Caller → Option Entity → Option Sub → Bool → ℕ → Operation → Bool → Option Rule
rules_with caller found sub depended t op stale =
    cond (breaks_found op found sub) (Some Found) (cond (breaks_fresh op found sub) (Some Fresh) (cond (breaks_manager caller op found sub) (Some Manager) (cond stale (Some Version)
    (cond (breaks_role caller op) (Some Role) (cond (breaks_change op found) (Some Change) (cond (breaks_ended t op) (Some Ended)
    (cond (breaks_subscription caller op sub) (Some Subscription) (cond (breaks_depended op depended) (Some Depended) None))))))))

rules-veiled : (m : List ℕ) (caller : Caller) (found : Option Entity) (sub : Option Sub) (depended : Bool) (t : ℕ) (op : Operation) (stale : Bool) → rules_with (Some caller) found sub depended t op stale ≡ rules_with (Some caller) (option_map (redacted m) found) sub depended t op stale
rules-veiled m caller None sub depended t op stale = refl
rules-veiled m caller (Some e) sub depended t NoRoute stale = refl
rules-veiled m caller (Some e) sub depended t NoMethod stale = refl
rules-veiled m caller (Some e) sub depended t (Malformed kind) stale = refl
rules-veiled m caller (Some e) sub depended t (Query kind area) stale = refl
rules-veiled m caller (Some e) sub depended t (Read kind id) stale = refl
rules-veiled m caller (Some e) sub depended t (Create id put) stale = refl
rules-veiled m caller (Some e) sub depended t (Update id ovn put) stale = refl
rules-veiled m caller (Some e) sub depended t (Delete kind id ovn) stale = refl
rules-veiled m caller (Some e) sub depended t (ReadAvail uss) stale = refl
rules-veiled m caller (Some e) sub depended t (SetAvail uss old availability) stale = refl
rules-veiled m caller (Some e) sub depended t (QuerySub area) stale = refl
rules-veiled m caller (Some e) sub depended t (ReadSub id) stale = refl
rules-veiled m caller (Some e) sub depended t (CreateSub id put) stale = refl
rules-veiled m caller (Some e) sub depended t (UpdateSub id version put) stale = refl
rules-veiled m caller (Some e) sub depended t (DeleteSub id version) stale = refl

rules_sub-veiled : (m : List ℕ) (caller : Caller) (found : Option Entity) (sub : Option Sub) (depended : Bool) (t : ℕ) (op : Operation) (stale : Bool) → rules_with (Some caller) found sub depended t op stale ≡ rules_with (Some caller) found (option_map (redacted_sub m) sub) depended t op stale
rules_sub-veiled m caller found None depended t op stale = refl
rules_sub-veiled m caller found (Some s) depended t NoRoute stale = refl
rules_sub-veiled m caller found (Some s) depended t NoMethod stale = refl
rules_sub-veiled m caller found (Some s) depended t (Malformed kind) stale = refl
rules_sub-veiled m caller found (Some s) depended t (Query kind area) stale = refl
rules_sub-veiled m caller found (Some s) depended t (Read kind id) stale = refl
rules_sub-veiled m caller found (Some s) depended t (Create id put) stale = refl
rules_sub-veiled m caller found (Some s) depended t (Update id ovn put) stale = refl
rules_sub-veiled m caller found (Some s) depended t (Delete kind id ovn) stale = refl
rules_sub-veiled m caller found (Some s) depended t (ReadAvail uss) stale = refl
rules_sub-veiled m caller found (Some s) depended t (SetAvail uss old availability) stale = refl
rules_sub-veiled m caller found (Some s) depended t (QuerySub area) stale = refl
rules_sub-veiled m caller found (Some s) depended t (ReadSub id) stale = refl
rules_sub-veiled m caller found (Some s) depended t (CreateSub id put) stale = refl
rules_sub-veiled m caller found (Some s) depended t (UpdateSub id version put) stale = refl
rules_sub-veiled m caller found (Some s) depended t (DeleteSub id version) stale = refl

standing_like : (m : List ℕ) (a b : Airspace) (t : ℕ) (caller : Caller) (op : Operation) → IsLike m a b → named m op a ≡ named m op b → named_sub m op a ≡ named_sub m op b
    → find (breaks a t (record { caller = Some caller; op = op })) standing_rules ≡ find (breaks b t (record { caller = Some caller; op = op })) standing_rules
standing_like m a b t caller op l n v =
    let stale : Airspace → Bool = λ x. breaks_version op (found_of x op) (stated_of x op) (sub_of x op) in
    rules-veiled m caller (found_of a op) (sub_of a op) (depended_of a op) t op (stale a)
    ∙ (rules_sub-veiled m caller (option_map (redacted m) (found_of a op)) (sub_of a op) (depended_of a op) t op (stale a)
    ∙ ((λ i. rules_with (Some caller) (found_like m a b op l i) (under_like m a b (subject_of op) l i) (depended_like m a b op l i) t op (stale_like m a b op l n v i))
    ∙ (sym (rules_sub-veiled m caller (option_map (redacted m) (found_of b op)) (sub_of b op) (depended_of b op) t op (stale b))
    ∙ sym (rules-veiled m caller (found_of b op) (sub_of b op) (depended_of b op) t op (stale b)))))

-- A call without a caller breaks P1, P2 or P3 in every airspace.
no_caller : (a b : Airspace) (t : ℕ) (op : Operation) → first_broken a t (record { caller = None; op = op }) ≡ first_broken b t (record { caller = None; op = op })
unfolding first_broken
no_caller a b t NoRoute = refl
no_caller a b t NoMethod = refl
no_caller a b t (Malformed kind) = refl
no_caller a b t (Query kind area) = refl
no_caller a b t (Read kind id) = refl
no_caller a b t (Create id put) = refl
no_caller a b t (Update id ovn put) = refl
no_caller a b t (Delete kind id ovn) = refl
no_caller a b t (ReadAvail uss) = refl
no_caller a b t (SetAvail uss old availability) = refl
no_caller a b t (QuerySub area) = refl
no_caller a b t (ReadSub id) = refl
no_caller a b t (CreateSub id put) = refl
no_caller a b t (UpdateSub id version put) = refl
no_caller a b t (DeleteSub id version) = refl

others_first : (m : List ℕ) (a b : Airspace) (t : ℕ) (caller : Option Caller) (op : Operation) → IsLike m a b → known m op a ≡ known m op b → named m op a ≡ named m op b → named_sub m op a ≡ named_sub m op b
    → first_broken a t (record { caller = caller; op = op }) ≡ first_broken b t (record { caller = caller; op = op })
unfolding first_broken
others_first m a b t None op l k n v = no_caller a b t op
others_first m a b t (Some caller) op l k n v =
    let c : Call = record { caller = Some caller; op = op } in
    find-append (breaks a t c) early_rules (standing_rules ++ last_rules)
    ∙ (ap (or_else (find (breaks a t c) early_rules)) (
    find-append (breaks a t c) standing_rules last_rules
    ∙ ((λ i. or_else (standing_like m a b t caller op l n v i) (last_like m a b t caller op l k i))
    ∙ sym (find-append (breaks b t c) standing_rules last_rules)))
    ∙ sym (find-append (breaks b t c) early_rules (standing_rules ++ last_rules)))

-- ---- lists of calls

pub run_blind : (salt m : List ℕ) (cs : List TimedCall) (a b : Airspace) → IsLike m a b → AllCalledAlike salt m cs a b
    → (replies_to m cs (replies_of salt a cs) ≡ replies_to m cs (replies_of salt b cs)) × IsLike m (airspace_after salt a cs) (airspace_after salt b cs)
run_blind salt m [] a b l h = (refl, l)
run_blind salt m (c ∷ cs) a b l h =
    let x = step salt a c.0 c.1 in
    let y = step salt b c.0 c.1 in
    let later = λ (k : IsLike m x.0 y.0). run_blind salt m cs x.0 y.0 k h.1 in
    let rs = replies_to m cs (replies_of salt x.0 cs) in
    let qs = replies_to m cs (replies_of salt y.0 cs) in
    elim (is_by m c.1) as (λ own. is_by m c.1 ≡ own → (cond own (x.1 ∷ rs) rs ≡ cond own (y.1 ∷ qs) qs) × IsLike m (airspace_after salt x.0 cs) (airspace_after salt y.0 cs)) [
      | true ↦ λ is.
          let now = own_call salt m a b c.0 c.1.caller c.1.op l is (h.0.own is) in
          let rest = later now.1 in
          (λ i. now.0 i ∷ rest.0 i, rest.1)
      | false ↦ λ is.
          let told = h.0.others is in
          later (stays_like m salt a b c.0 c.1 l (others_first m a b c.0 c.1.caller c.1.op l told.known told.named told.named_sub))
    ] refl
