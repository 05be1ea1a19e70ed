-- Lemmas: replies to backward-looking calls after a purge.
use Rattle.std.specs.Prelude.{◌≡◌, ℕ, ◌&&◌, not, Bool, true, false, cond, List, [], ◌∷◌, ◌++◌, map, filter, find, Option, Some, None, refl}
use Rattle.std.proofs.Common.{sym, ap, ◌∙◌}
use Rattle.std.proofs.lemmas.Cmp.{nat_cmp_total}
use Rattle.std.specs.List.{AllByRecursion}
use Rattle.std.specs.FinMap.{entries, get, nat_cmp-IsAntisymmetric}
use Rattle.grid_core.specs.Extent.{Region}
use Rattle.entity_core.specs.Airspace.{Airspace, EntityKey, IsAirspace}
use Rattle.entity_core.specs.Entity.{kind_of}
use Rattle.entity_core.specs.Search.{dependents_in, is_for_near, is_naming, is_own_near, is_sought, meeting_in, subscribers_in, subscriptions_in}
use Rattle.entity_core.specs.declared.entity.Entity.{Entity}
use Rattle.entity_core.specs.declared.nature.Kind.{Kind}
use Rattle.entity_core.specs.declared.subscription.Sub.{Sub}
use Rattle.entity_core.proofs.Keys.{key_total, key_exact}
use Rattle.entity_purge.specs.Purge.{is_due_for_purge, has_ended, has_not_ended, if_kept, retained, purged}
use Rattle.entity_purge.proofs.Maps.{each_found, entries_kept}
use Rattle.entity_purge.proofs.Purges.{found_staying}
use Rattle.policy_core.specs.declared.call.Call.{Call}
use Rattle.policy_core.specs.declared.call.Operation.{Operation}
use Rattle.policy_core.specs.declared.call.Operation.TheVariants.{NoRoute, NoMethod, Malformed, Query, Read, Create, Update, Delete, ReadAvail, SetAvail, QuerySub, ReadSub, CreateSub, UpdateSub, DeleteSub}
use Rattle.policy_core.specs.declared.rule.Rule.{Rule}
use Rattle.policy_core.specs.declared.rule.Rule.TheVariants.{Found, Fresh, Manager, Version, Role, Change, Ended, Key, Limit, Subscription, Depended}
use Rattle.policy_core.specs.Missing.{nothing_missing}
use Rattle.policy_core.specs.Policy.{breaks, breaks_found, early_rules, first_broken, last_rules, standing_rules}
use Rattle.policy_core.specs.Standing.{found_of, sub_of}
use Rattle.policy_core.proofs.Finds.{find-append, or_else}
use Rattle.service_step.specs.declared.reply.Reply.TheVariants.{Denied}
use Rattle.service_step.specs.Step.{step, step_by}
use Rattle.service_purge.specs.Back.{LookingBackFindsLess, asks_for_one}

-- ---- lists

-- Searching the retained items finds the retained ones of what a search finds.
looked_kept : {X Y : Type 0} (f : X → Y) (look keep : X → Bool) (keep_one : Y → Bool) (xs : List X) → AllByRecursion (λ x. keep x ≡ keep_one (f x)) xs → map f (filter look (filter keep xs)) ≡ filter keep_one (map f (filter look xs))
looked_kept f look keep keep_one [] same = refl
looked_kept {X} {Y} f look keep keep_one (x ∷ xs) same =
    let rest = looked_kept f look keep keep_one xs same.1 in
    let kept : List X = filter look (filter keep xs) in
    let found : List X = filter look xs in
    elim (keep x) as (λ b. keep x ≡ b → map f (filter look (cond b (x ∷ filter keep xs) (filter keep xs))) ≡ filter keep_one (map f (cond (look x) (x ∷ found) found))) [
      | true ↦ λ t. elim (look x) as (λ b. map f (cond b (x ∷ kept) kept) ≡ filter keep_one (map f (cond b (x ∷ found) found))) [
        | true ↦ (λ i. f x ∷ rest i) ∙ ap (λ (b : Bool). cond b (f x ∷ filter keep_one (map f found)) (filter keep_one (map f found))) (sym (sym same.0 ∙ t))
        | false ↦ rest
      ]
      | false ↦ λ t. elim (look x) as (λ b. map f kept ≡ filter keep_one (map f (cond b (x ∷ found) found))) [
        | true ↦ rest ∙ ap (λ (b : Bool). cond b (f x ∷ filter keep_one (map f found)) (filter keep_one (map f found))) (sym (sym same.0 ∙ t))
        | false ↦ rest
      ]
    ] refl

each_same : {X : Type 0} (p q : X → Bool) (xs : List X) → ((x : X) → p x ≡ q x) → AllByRecursion (λ x. p x ≡ q x) xs
each_same p q [] same = tt
each_same p q (x ∷ xs) same = (same x, each_same p q xs same)

own_kept : (until : ℕ) (a : Airspace) (ss : List (ℕ × Sub)) → IsAirspace a → AllByRecursion (λ s. get a.subscriptions s.0 ≡ Some s.1) ss → AllByRecursion (λ s. not (is_due_for_purge until a s) ≡ not (is_due_for_purge until a (s.1.id, s.1))) ss
own_kept until a [] proper there = tt
own_kept until a (s ∷ ss) proper there = (ap (λ (id : ℕ). not (is_due_for_purge until a (id, s.1))) (sym (proper.own s.0 s.1 there.0)), own_kept until a ss proper there.1)

two_tests : {X Y : Type 0} (f : X → Y) (look keep : X → Bool) (xs : List X) → map f (filter look (filter keep xs)) ≡ map f (filter (λ x. look x && keep x) xs)
two_tests f look keep [] = refl
two_tests {X} f look keep (x ∷ xs) =
    let rest = two_tests f look keep xs in
    let both : List X = filter (λ y. look y && keep y) xs in
    elim (keep x) as (λ k. map f (filter look (cond k (x ∷ filter keep xs) (filter keep xs))) ≡ map f (cond (look x && k) (x ∷ both) both)) [
      | true ↦ elim (look x) as (λ l. map f (cond l (x ∷ filter look (filter keep xs)) (filter look (filter keep xs))) ≡ map f (cond (l && true) (x ∷ both) both)) [
        | true ↦ λ i. f x ∷ rest i
        | false ↦ rest
      ]
      | false ↦ elim (look x) as (λ l. map f (filter look (filter keep xs)) ≡ map f (cond (l && false) (x ∷ both) both)) [ true ↦ rest | false ↦ rest ]
    ]

-- ---- searches

meeting_back : (until : ℕ) (a : Airspace) (kind : Kind) (areas : List Region) (except : Option ℕ) → meeting_in (purged until a).entities kind areas except ≡ filter (λ e. not (has_ended until e)) (meeting_in a.entities kind areas except)
unfolding meeting_in
meeting_back until a kind areas except =
    let seen : List (EntityKey × Entity) → List Entity = λ es. map (λ e. e.1) (filter (is_sought kind areas except) es) in
    ap seen (entries_kept key_total key_exact (has_not_ended until) a.entities)
    ∙ looked_kept (λ (e : EntityKey × Entity). e.1) (is_sought kind areas except) (has_not_ended until) (λ e. not (has_ended until e)) (entries a.entities)
    (each_same (has_not_ended until) (has_not_ended until) (entries a.entities) (λ e. refl))

subs_back : (until : ℕ) (a : Airspace) (look : ℕ × Sub → Bool) → IsAirspace a → map (λ s. s.1) (filter look (entries (purged until a).subscriptions)) ≡ filter (λ s. not (is_due_for_purge until a (s.id, s))) (map (λ s. s.1) (filter look (entries a.subscriptions)))
subs_back until a look proper =
    ap (λ (ss : List (ℕ × Sub)). map {B = Sub} (λ s. s.1) (filter look ss)) (entries_kept nat_cmp_total nat_cmp-IsAntisymmetric (λ s. not (is_due_for_purge until a s)) a.subscriptions)
    ∙ looked_kept (λ (s : ℕ × Sub). s.1) look (λ s. not (is_due_for_purge until a s)) (λ s. not (is_due_for_purge until a (s.id, s))) (entries a.subscriptions) (own_kept until a (entries a.subscriptions) proper (each_found nat_cmp_total a.subscriptions))

own_back : (until : ℕ) (a : Airspace) (uss : List ℕ) (area : Region) → IsAirspace a → subscriptions_in (purged until a).subscriptions uss area ≡ filter (λ s. not (is_due_for_purge until a (s.id, s))) (subscriptions_in a.subscriptions uss area)
unfolding subscriptions_in
own_back until a uss area proper = subs_back until a (is_own_near uss area) proper

told_back : (until : ℕ) (a : Airspace) (kind : Kind) (areas : List Region) → IsAirspace a → subscribers_in (purged until a).subscriptions kind areas ≡ filter (λ s. not (is_due_for_purge until a (s.id, s))) (subscribers_in a.subscriptions kind areas)
unfolding subscribers_in
told_back until a kind areas proper = subs_back until a (is_for_near kind areas) proper

ids_of : (es : List (EntityKey × Entity)) → map (λ e. e.id) (map (λ e. e.1) es) ≡ map (λ e. e.1.id) es
ids_of [] = refl
ids_of (e ∷ es) = ap (λ (ids : List ℕ). e.1.id ∷ ids) (ids_of es)

naming_back : (until : ℕ) (a : Airspace) (id : ℕ) → dependents_in (purged until a).entities id ≡ map (λ e. e.1.id) (filter (λ e. is_naming id e && has_not_ended until e) (entries a.entities))
unfolding dependents_in
naming_back until a id =
    ids_of (filter (is_naming id) (entries (retained until a.entities)))
    ∙ (ap (λ (es : List (EntityKey × Entity)). map {B = ℕ} (λ e. e.1.id) (filter (is_naming id) es)) (entries_kept key_total key_exact (has_not_ended until) a.entities)
    ∙ two_tests (λ (e : EntityKey × Entity). e.1.id) (is_naming id) (has_not_ended until) (entries a.entities))

-- ---- lookups

gone : (until : ℕ) (a : Airspace) (k : EntityKey) (e : Entity) → get a.entities k ≡ Some e → has_ended until e ≡ true → get (purged until a).entities k ≡ None
gone until a k e there ended =
    found_staying until a.entities k ∙ (ap (if_kept (λ x. not (has_ended until x))) there ∙ ap (λ (b : Bool). cond (not b) (Some e) None) ended)

found_gone : (until : ℕ) (a : Airspace) (op : Operation) (sub : Option Sub) (e : Entity) → asks_for_one op ≡ true → found_of a op ≡ Some e → has_ended until e ≡ true → breaks_found op (found_of (purged until a) op) sub ≡ true
found_gone until a NoRoute sub e asks there ended = cc
found_gone until a NoMethod sub e asks there ended = cc
found_gone until a (Malformed kind) sub e asks there ended = cc
found_gone until a (Query kind area) sub e asks there ended = cc
found_gone until a (Read kind id) sub e asks there ended = ap (λ (o : Option Entity). breaks_found (Read kind id) o sub) (gone until a (kind, id) e there ended)
found_gone until a (Create id put) sub e asks there ended = cc
found_gone until a (Update id ovn put) sub e asks there ended = ap (λ (o : Option Entity). breaks_found (Update id ovn put) o sub) (gone until a (kind_of put.nature, id) e there ended)
found_gone until a (Delete kind id ovn) sub e asks there ended = ap (λ (o : Option Entity). breaks_found (Delete kind id ovn) o sub) (gone until a (kind, id) e there ended)
found_gone until a (ReadAvail uss) sub e asks there ended = cc
found_gone until a (SetAvail uss old availability) sub e asks there ended = cc
found_gone until a (QuerySub area) sub e asks there ended = cc
found_gone until a (ReadSub id) sub e asks there ended = cc
found_gone until a (CreateSub id put) sub e asks there ended = cc
found_gone until a (UpdateSub id version put) sub e asks there ended = cc
found_gone until a (DeleteSub id version) sub e asks there ended = cc

first_gone : (until : ℕ) (a : Airspace) (t : ℕ) (c : Call) → find (breaks a t c) early_rules ≡ None → breaks (purged until a) t c Found ≡ true → first_broken (purged until a) t c ≡ Some Found
unfolding first_broken
first_gone until a t c early found =
    let b : Airspace = purged until a in
    let rest : List Rule = standing_rules ++ last_rules in
    find-append (breaks b t c) early_rules rest
    ∙ (ap (λ (o : Option Rule). or_else o (find (breaks b t c) rest)) early
    ∙ ap (λ (x : Bool). cond x (Some Found) (find (breaks b t c) (Fresh ∷ Manager ∷ Version ∷ Role ∷ Change ∷ Ended ∷ Subscription ∷ Depended ∷ Key ∷ Limit ∷ []))) found)

asked_back : (until : ℕ) (a : Airspace) (salt : List ℕ) (t : ℕ) (c : Call) (e : Entity) → asks_for_one c.op ≡ true → found_of a c.op ≡ Some e → has_ended until e ≡ true → find (breaks a t c) early_rules ≡ None
    → (step salt (purged until a) t c).1 ≡ Denied Found nothing_missing
unfolding step
asked_back until a salt t c e asks there ended early =
    ap (λ (r : Option Rule). (step_by salt (purged until a) c r).1) (first_gone until a t c early (found_gone until a c.op (sub_of (purged until a) c.op) e asks there ended))

pub look_back : LookingBackFindsLess
look_back until a proper = record {
  meeting = meeting_back until a;
  own = λ uss area. own_back until a uss area proper;
  told = λ kind areas. told_back until a kind areas proper;
  naming = naming_back until a;
  asked = λ salt t c e asks there ended early. asked_back until a salt t c e asks there ended early;
}
