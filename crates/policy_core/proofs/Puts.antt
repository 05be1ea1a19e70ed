-- What a put knows, and what is missing from its key.
use Rattle.std.specs.Prelude.{◌≡◌, ℕ, ◌≤◌, ◌&&◌, ◌||◌, not, nat_eq, Bool, true, false, List, [], ◌∷◌, ◌++◌, map, filter, Option, Some, None, cond, find, refl, Contains}
use Rattle.std.proofs.Common.{arith, sym, ap, ◌∙◌, subst, inl, inr}
use Rattle.std.proofs.lemmas.Option.{same_Some}
use Rattle.std.specs.Cmp.{unsigned_tied}
use Rattle.std.specs.Cmp.Lexicographic.{same_text as one_text}
use Rattle.std.specs.Ordering.{eq_by_cmp}
use Rattle.std.specs.FinMap as maps
use Rattle.std.specs.FinMap.{get, entries, get-entries}
use Rattle.grid_core.specs.Extent.{Region, region_of, any_meet}
use Rattle.entity_core.specs.IdTexts.{same_text}
use Rattle.entity_core.specs.Airspace.{Airspace, EntityKey, key_cmp, key_of}
use Rattle.entity_core.specs.Entity.{kind_of, subscription_of}
use Rattle.entity_core.specs.Search.{meeting_in, is_sought}
use Rattle.entity_core.specs.declared.entity.Entity.{Entity}
use Rattle.entity_core.specs.declared.nature.Kind.{Kind}
use Rattle.entity_core.specs.declared.nature.Kind.TheVariants as kinds
use Rattle.entity_core.specs.declared.nature.Nature.{Nature}
use Rattle.entity_core.specs.declared.nature.Nature.TheVariants.{Intent, Constraint}
use Rattle.entity_core.proofs.Keys.{one_key}
use Rattle.policy_core.specs.declared.scope.Caller.{Caller}
use Rattle.policy_core.specs.declared.call.Call.{Call}
use Rattle.policy_core.specs.declared.call.Put.{Put}
use Rattle.policy_core.specs.declared.call.Operation.{Operation}
use Rattle.policy_core.specs.declared.call.Operation.TheVariants.{NoRoute, NoMethod, Malformed, Query, Read, Create, Update, Delete, ReadAvail, SetAvail, QuerySub, ReadSub, CreateSub, UpdateSub, DeleteSub}
use Rattle.policy_core.specs.declared.rule.Rule.{Rule}
use Rattle.policy_core.specs.declared.rule.Rule.TheVariants.{Route, Method, Token, Scope, Form, Area, Found, Fresh, Manager, Version, Role, Change, Ended, Key, Limit, Depended}
use Rattle.policy_core.specs.declared.reference.Reference.{Reference}
use Rattle.policy_core.specs.Known.{put_of, call_needs, listed, MayDeny, IsDeniedFor}
use Rattle.policy_core.specs.Missing.{in_key, is_missing_from, is_spared, key_shown, needs_kind, missing_from, needed, needed_put, needs_key, is_none_of, is_nothing, missing_put, missing_for}
use Rattle.policy_core.specs.Policy.{breaks, breaks_depended, early_rules, standing_rules, last_rules, first_broken}
use Rattle.policy_core.specs.Rule.{number_of}
use Rattle.policy_core.specs.Standing.{depended_of, sub_under}
use Rattle.policy_core.specs.View.{view_of}
use Rattle.policy_core.proofs.Finds.{or_else, find-append, find_has, find_rest, find_true}
use Rattle.policy_core.proofs.Filters.{both_at_once}
use Rattle.policy_core.proofs.Members.{no_member, later, passing, mapped}

-- ---- without a caller

-- A call without a caller breaks P1, P2 or P3.
none_asks : (a : Airspace) (t : ℕ) (op : Operation) → (p : Rule) × (first_broken a t (record { caller = None; op = op }) ≡ Some p) × (number_of p ≤ 3)
unfolding first_broken
none_asks a t NoRoute = (Route, refl, omega arith)
none_asks a t NoMethod = (Method, refl, omega arith)
none_asks a t (Malformed kind) = (Token, refl, omega arith)
none_asks a t (Query kind area) = (Token, refl, omega arith)
none_asks a t (Read kind id) = (Token, refl, omega arith)
none_asks a t (Create id put) = (Token, refl, omega arith)
none_asks a t (Update id ovn put) = (Token, refl, omega arith)
none_asks a t (Delete kind id ovn) = (Token, refl, omega arith)
none_asks a t (ReadAvail uss) = (Token, refl, omega arith)
none_asks a t (SetAvail uss old availability) = (Token, refl, omega arith)
none_asks a t (QuerySub area) = (Token, refl, omega arith)
none_asks a t (ReadSub id) = (Token, refl, omega arith)
none_asks a t (CreateSub id put) = (Token, refl, omega arith)
none_asks a t (UpdateSub id version put) = (Token, refl, omega arith)
none_asks a t (DeleteSub id version) = (Token, refl, omega arith)

-- ---- a put whose key misses nothing

both_true : (a b : Bool) → a && b ≡ true → (a ≡ true) × (b ≡ true)
both_true true b h = (refl, h)
both_true false b h = cc

-- If no entity found is missing, the key has the OVN of each.
none_missing : (v : Entity → Reference) (key : List (List ℕ)) (test : EntityKey × Entity → Bool) (es : List (EntityKey × Entity)) (q : EntityKey) (y : Entity)
    → is_none_of (map v (filter (is_missing_from key) (map (λ e. e.1) (filter test es)))) ≡ true → maps.find key_cmp q es ≡ Some y → test (q, y) ≡ true → in_key key y.ovn ≡ true
none_missing v key test [] q y n f s = cc
none_missing v key test (e ∷ es) q y n f s =
    let rest : List (EntityKey × Entity) = filter test es in
    let others : List Entity = filter (is_missing_from key) (map (λ x. x.1) rest) in
    elim (eq_by_cmp key_cmp q e.0) as (λ b. eq_by_cmp key_cmp q e.0 ≡ b → cond b (Some e.1) (maps.find key_cmp q es) ≡ Some y → in_key key y.ovn ≡ true) [
      | true ↦ λ t g.
          let same : e.1 ≡ y = same_Some e.1 y g in
          let key_is : e.0 ≡ q = sym (one_key q e.0 t) in
          let here : test (e.0, e.1) ≡ true = (λ i. test (key_is i, same i)) ∙ s in
          elim (in_key key e.1.ovn) as (λ b. in_key key e.1.ovn ≡ b → is_none_of (map v (cond (not b) (e.1 ∷ others) others)) ≡ true → in_key key y.ovn ≡ true) [
            | true ↦ λ k z. ap (λ (x : Entity). in_key key x.ovn) (sym same) ∙ k
            | false ↦ λ k z. cc
          ] refl (subst (λ (b : Bool). is_none_of (map v (filter (is_missing_from key) (map (λ x. x.1) (cond b (e ∷ rest) rest)))) ≡ true) here n)
      | false ↦ λ t g. none_missing v key test es q y (
          elim (test e) as (λ b. is_none_of (map v (filter (is_missing_from key) (map (λ x. x.1) (cond b (e ∷ rest) rest)))) ≡ true → is_none_of (map v others) ≡ true) [
            | true ↦ elim (in_key key e.1.ovn) as (λ b. is_none_of (map v (cond (not b) (e.1 ∷ others) others)) ≡ true → is_none_of (map v others) ≡ true) [
              | true ↦ λ z. z
              | false ↦ λ z. cc
            ]
            | false ↦ λ z. z
          ] n) g s
    ] refl f

none_met : (a : Airspace) (v : Entity → Reference) (key : List (List ℕ)) (test : EntityKey × Entity → Bool) (q : EntityKey) (y : Entity)
    → is_none_of (map v (filter (is_missing_from key) (map (λ e. e.1) (filter test (entries a.entities))))) ≡ true → get a.entities q ≡ Some y → test (q, y) ≡ true → in_key key y.ovn ≡ true
none_met a v key test q y n f s = none_missing v key test (entries a.entities) q y n (sym (get-entries a.entities q) ∙ f) s

other_id : (n id : ℕ) → eq_by_cmp key_cmp (kinds.Intent, n) (kinds.Intent, id) ≡ false → not (nat_eq n id) ≡ true
other_id n id h = ap not (sym (unsigned_tied n id) ∙ h)

-- Two intents with different keys have different ids.
other_intent : (n id : ℕ) (nature : Nature) → needs_key nature ≡ true → eq_by_cmp key_cmp (kinds.Intent, n) (kind_of nature, id) ≡ false → not (nat_eq n id) ≡ true
other_intent n id (Intent state named) needs h = other_id n id h
other_intent n id Constraint needs h = cc

-- If no entity that is met and not exempt is missing, the key has the OVN of each.
none_unspared : (a : Airspace) (v : Entity → Reference) (key : List (List ℕ)) (test : EntityKey × Entity → Bool) (q : EntityKey) (y : Entity)
    → is_none_of (map v (filter (is_missing_from key) (filter (λ e. not (is_spared a e)) (map (λ e. e.1) (filter test (entries a.entities)))))) ≡ true → get a.entities q ≡ Some y → test (q, y) ≡ true → is_spared a y ≡ false → in_key key y.ovn ≡ true
none_unspared a v key test q y n f s owed =
    none_met a v key (λ e. test e && not (is_spared a e.1)) q y
    (subst (λ (es : List Entity). is_none_of (map v (filter (is_missing_from key) es)) ≡ true) (both_at_once (λ (e : EntityKey × Entity). e.1) (λ e. not (is_spared a e)) test (entries a.entities)) n) f (λ i. s i && not (owed i))

-- True if a put needs to know entities of this nature.
abbrev needed_by : Airspace → Caller → Put → Nature → Bool
needed_by a caller put nature = needs_kind (kind_of nature) (Some caller) (subscription_of put.nature) (sub_under a (subscription_of put.nature))

-- If nothing is missing, the key of a put has the OVN of each other entity that it needs to know.
put_knows : (a : Airspace) (caller : Caller) (id : ℕ) (put : Put) (y : Entity) → is_nothing (missing_put a caller id put) ≡ true → get a.entities (key_of y) ≡ Some y
    → eq_by_cmp key_cmp (key_of y) (kind_of put.nature, id) ≡ false → needs_key put.nature ≡ true → any_meet y.volumes (map region_of put.volumes) ≡ true → needed_by a caller put y.nature ≡ true → is_spared a y ≡ false
    → in_key put.key y.ovn ≡ true
unfolding missing_from meeting_in
put_knows a caller id put y none found other needs meet owed unspared =
    let areas : List Region = map region_of put.volumes in
    let parts = both_true (is_none_of (missing_put a caller id put).intents) (is_none_of (missing_put a caller id put).constraints) none in
    let spare : List Entity → List Entity = λ es. filter (λ e. not (is_spared a e)) es in
    elim (y.nature) as (λ n. y.nature ≡ n → needed_by a caller put n ≡ true → get a.entities (kind_of n, y.id) ≡ Some y → eq_by_cmp key_cmp (kind_of n, y.id) (kind_of put.nature, id) ≡ false → in_key put.key y.ovn ≡ true) [
      | Intent state named ↦ λ is o f e.
          let none_of = subst (λ (b : Bool). is_none_of (map (view_of a caller.uss) (filter (is_missing_from put.key) (cond b (spare (map (λ x. x.1) (filter (is_sought kinds.Intent areas (Some id)) (entries a.entities)))) []))) ≡ true) (λ i. needs i && o i) parts.0 in
          none_unspared a (view_of a caller.uss) put.key (is_sought kinds.Intent areas (Some id)) (kinds.Intent, y.id) y none_of f (λ i. other_intent y.id id put.nature needs e i && meet i) unspared
      | Constraint ↦ λ is o f e.
          let none_of = subst (λ (b : Bool). is_none_of (map (view_of a caller.uss) (filter (is_missing_from put.key) (cond b (spare (map (λ x. x.1) (filter (is_sought kinds.Constraint areas None) (entries a.entities)))) []))) ≡ true) (λ i. needs i && o i) parts.1 in
          none_unspared a (view_of a caller.uss) put.key (is_sought kinds.Constraint areas None) (kinds.Constraint, y.id) y none_of f meet unspared
    ] refl owed found other

no_key : (k l : Bool) → cond k (Some Key) (cond l (Some Limit) None) ≡ None → not k ≡ true
no_key true l h = cc
no_key false l h = refl

not_not : (b : Bool) → not (not b) ≡ true → b ≡ true
not_not true h = refl
not_not false h = h

-- If a call breaks no rule, nothing is missing.
misses_nothing : (a : Airspace) (t : ℕ) (c : Call) → first_broken a t c ≡ None → is_nothing (missing_for a c.caller c.op) ≡ true
unfolding first_broken
misses_nothing a t c h =
    not_not (is_nothing (missing_for a c.caller c.op)) (no_key (breaks a t c Key) (breaks a t c Limit) (find_rest (breaks a t c) standing_rules last_rules (find_rest (breaks a t c) early_rules (standing_rules ++ last_rules) h)))

-- An OVN for which `in_key` is true is a member of the key.
in_list : (key : List (List ℕ)) (ovn : List ℕ) → in_key key ovn ≡ true → Contains key ovn
in_list [] ovn h = cc
in_list (k ∷ ks) ovn h =
    elim (same_text ovn k) as (λ b. same_text ovn k ≡ b → b || in_key ks ovn ≡ true → Contains (k ∷ ks) ovn) [
      | true ↦ λ t g. (0, omega arith, sym (one_text ovn k (sym t)))
      | false ↦ λ t g. later k ks ovn (in_list ks ovn g)
    ] refl h

put_knows_of : (a : Airspace) (caller : Caller) (i : ℕ) (p : Put) (id : ℕ) (put : Put) (y : Entity) → ◌≡◌ {A = ℕ × Put} (i, p) (id, put) → is_nothing (missing_put a caller i p) ≡ true → needs_key put.nature ≡ true
    → get a.entities (key_of y) ≡ Some y → eq_by_cmp key_cmp (key_of y) (kind_of put.nature, id) ≡ false → any_meet y.volumes (map region_of put.volumes) ≡ true → needed_by a caller p y.nature ≡ true
    → is_spared a y ≡ false → Contains put.key y.ovn
put_knows_of a caller i p id put y same none needs found other meet owed unspared =
    in_list put.key y.ovn (put_knows a caller id put y (subst (λ (q : ℕ × Put). is_nothing (missing_put a caller q.0 q.1) ≡ true) same none) found other needs meet (subst (λ (q : ℕ × Put). needed_by a caller q.1 y.nature ≡ true) same owed) unspared)

pub puts_know : (a : Airspace) (t : ℕ) (caller : Option Caller) (op : Operation) (id : ℕ) (put : Put) (y : Entity) → put_of op ≡ Some (id, put) → first_broken a t (record { caller = caller; op = op }) ≡ None
    → needs_key put.nature ≡ true → get a.entities (key_of y) ≡ Some y → eq_by_cmp key_cmp (key_of y) (kind_of put.nature, id) ≡ false → any_meet y.volumes (map region_of put.volumes) ≡ true
    → call_needs a (record { caller = caller; op = op }) y.nature ≡ true → is_spared a y ≡ false → Contains put.key y.ovn
puts_know a t None op id put y is h = let some = none_asks a t op in let bad : None ≡ Some some.0 = sym h ∙ some.1 in cc
puts_know a t (Some caller) NoRoute id put y is h = cc
puts_know a t (Some caller) NoMethod id put y is h = cc
puts_know a t (Some caller) (Malformed kind) id put y is h = cc
puts_know a t (Some caller) (Query kind area) id put y is h = cc
puts_know a t (Some caller) (Read kind n) id put y is h = cc
puts_know a t (Some caller) (Create i p) id put y is h =
    put_knows_of a caller i p id put y (same_Some (i, p) (id, put) is) (misses_nothing a t (record { caller = Some caller; op = Create i p }) h)
puts_know a t (Some caller) (Update i ovn p) id put y is h =
    put_knows_of a caller i p id put y (same_Some (i, p) (id, put) is) (misses_nothing a t (record { caller = Some caller; op = Update i ovn p }) h)
puts_know a t (Some caller) (Delete kind n ovn) id put y is h = cc
puts_know a t (Some caller) (ReadAvail uss) id put y is h = cc
puts_know a t (Some caller) (SetAvail uss old availability) id put y is h = cc
puts_know a t (Some caller) (QuerySub area) id put y is h = cc
puts_know a t (Some caller) (ReadSub n) id put y is h = cc
puts_know a t (Some caller) (CreateSub n p) id put y is h = cc
puts_know a t (Some caller) (UpdateSub n version p) id put y is h = cc
puts_know a t (Some caller) (DeleteSub n version) id put y is h = cc

-- ---- entities that are needed but not in the key

some_told : (v : Entity → Reference) (xs : List Entity) (y : Entity) → Contains xs y → is_none_of (map v xs) ≡ false
some_told v [] y h = absurd (no_member y h)
some_told v (x ∷ xs) y h = refl

told_missing_from : (key : List (List ℕ)) (xs : List Entity) (y : Entity) → Contains xs y → in_key key y.ovn ≡ false → Contains (missing_from key xs) y
unfolding missing_from
told_missing_from key xs y h k = passing (is_missing_from key) xs y h (ap not k)

neither : (a b : Bool) → a ≡ false → a && b ≡ false
neither true b h = cc
neither false b h = refl

nor : (a b : Bool) → b ≡ false → a && b ≡ false
nor true b h = h
nor false b h = refl

put_misses : (kind : Kind) (a : Airspace) (caller : Caller) (id : ℕ) (put : Put) (y : Entity) → Contains (needed_put kind a (Some caller) id put) y → in_key put.key y.ovn ≡ false
    → (is_nothing (missing_put a caller id put) ≡ false) × Contains (listed kind (missing_put a caller id put)) (view_of a caller.uss y)
put_misses kinds.Intent a caller id put y h k =
    let v : Entity → Reference = view_of a caller.uss in
    let es : List Entity = needed_put kinds.Intent a (Some caller) id put in
    let c = told_missing_from put.key es y h k in
    (neither (is_none_of (missing_put a caller id put).intents) (is_none_of (missing_put a caller id put).constraints) (some_told v (missing_from put.key es) y c), mapped v (missing_from put.key es) y c)
put_misses kinds.Constraint a caller id put y h k =
    let v : Entity → Reference = view_of a caller.uss in
    let es : List Entity = needed_put kinds.Constraint a (Some caller) id put in
    let c = told_missing_from put.key es y h k in
    (nor (is_none_of (missing_put a caller id put).intents) (is_none_of (missing_put a caller id put).constraints) (some_told v (missing_from put.key es) y c), mapped v (missing_from put.key es) y c)

-- ---- the call is denied

-- Holds for a rule that denies a call without listing what is missing.
abbrev Before : Rule → Type 0
Before rule = MayDeny rule × (rule ≡ Key → ⊥)

before : (rule : Rule) → number_of rule ≤ 13 → Before rule
before rule low = (inl (omega (arith, low)), λ is. let same : number_of rule ≡ 14 = ap number_of is in absurd (omega (arith, low, same)))

-- P1 to P13 and P16 are not P14. A call that needs to know an entity does not break P17.
earlier_rule : (a : Airspace) (t : ℕ) (c : Call) (p : Rule) → breaks a t c Depended ≡ false → find (breaks a t c) (early_rules ++ standing_rules) ≡ Some p → Before p
earlier_rule a t c p never h =
    let early = λ (r : Rule) (low : number_of r ≤ 13) (b : breaks a t c r ≡ true). before r low in
    find_has (λ (r : Rule). breaks a t c r ≡ true → Before r) (breaks a t c) (early_rules ++ standing_rules) p (
      early Route (omega arith),
      (
        early Method (omega arith),
        (
          early Token (omega arith),
          (
            early Scope (omega arith),
            (
              early Form (omega arith),
              (
                early Area (omega arith),
                (
                  early Found (omega arith),
                  (
                    early Fresh (omega arith),
                    (
                      early Manager (omega arith),
                      (
                        early Version (omega arith),
                        (
                          early Role (omega arith),
                          (
                            early Change (omega arith),
                            (
                              early Ended (omega arith),
                              ((λ b. (inr refl, λ is. let same : 16 ≡ 14 = ap number_of is in absurd (omega (arith, same)))), ((λ b. cc (b, never)), tt)),
                            ),
                          ),
                        ),
                      ),
                    ),
                  ),
                ),
              ),
            ),
          ),
        ),
      ),
    ) h (find_true (breaks a t c) (early_rules ++ standing_rules) p h)

-- A call that needs to know an entity does not delete a subscription.
not_depended : (kind : Kind) (a : Airspace) (caller : Option Caller) (op : Operation) (y : Entity) → Contains (needed kind a caller op) y → breaks_depended op (depended_of a op) ≡ false
not_depended kind a caller NoRoute y h = refl
not_depended kind a caller NoMethod y h = refl
not_depended kind a caller (Malformed of) y h = refl
not_depended kind a caller (Query of area) y h = refl
not_depended kind a caller (Read of id) y h = refl
not_depended kind a caller (Create id put) y h = refl
not_depended kind a caller (Update id ovn put) y h = refl
not_depended kind a caller (Delete of id ovn) y h = refl
not_depended kind a caller (ReadAvail uss) y h = refl
not_depended kind a caller (SetAvail uss old availability) y h = refl
not_depended kind a caller (QuerySub area) y h = refl
not_depended kind a caller (ReadSub id) y h = refl
not_depended kind a caller (CreateSub id put) y h = refl
not_depended kind a caller (UpdateSub id version put) y h = refl
not_depended kind a caller (DeleteSub id version) y h = absurd (no_member y h)

call_misses : (kind : Kind) (a : Airspace) (caller : Caller) (op : Operation) (y : Entity) → Contains (needed kind a (Some caller) op) y → in_key (key_shown op) y.ovn ≡ false
    → (is_nothing (missing_for a (Some caller) op) ≡ false) × Contains (listed kind (missing_for a (Some caller) op)) (view_of a caller.uss y)
call_misses kind a caller NoRoute y h k = absurd (no_member y h)
call_misses kind a caller NoMethod y h k = absurd (no_member y h)
call_misses kind a caller (Malformed of) y h k = absurd (no_member y h)
call_misses kind a caller (Query of area) y h k = absurd (no_member y h)
call_misses kind a caller (Read of id) y h k = absurd (no_member y h)
call_misses kind a caller (Create id put) y h k = put_misses kind a caller id put y h k
call_misses kind a caller (Update id ovn put) y h k = put_misses kind a caller id put y h k
call_misses kind a caller (Delete of id ovn) y h k = absurd (no_member y h)
call_misses kind a caller (ReadAvail uss) y h k = absurd (no_member y h)
call_misses kind a caller (SetAvail uss old availability) y h k = absurd (no_member y h)
call_misses kind a caller (QuerySub area) y h k = absurd (no_member y h)
call_misses kind a caller (ReadSub id) y h k = absurd (no_member y h)
call_misses kind a caller (CreateSub id put) y h k = absurd (no_member y h)
call_misses kind a caller (UpdateSub id version put) y h k = absurd (no_member y h)
call_misses kind a caller (DeleteSub id version) y h k = absurd (no_member y h)

denied_by : (a : Airspace) (t : ℕ) (caller : Caller) (op : Operation) (kind : Kind) (y : Entity) → breaks_depended op (depended_of a op) ≡ false → is_nothing (missing_for a (Some caller) op) ≡ false → Contains (listed kind (missing_for a (Some caller) op)) (view_of a caller.uss y)
    → IsDeniedFor kind a t (record { caller = Some caller; op = op }) y
unfolding first_broken
denied_by a t caller op kind y never some told =
    let c : Call = record { caller = Some caller; op = op } in
    elim (find (breaks a t c) (early_rules ++ standing_rules)) as (λ o. find (breaks a t c) (early_rules ++ standing_rules) ≡ o → first_broken a t c ≡ or_else o (find (breaks a t c) last_rules) → IsDeniedFor kind a t c y) [
      | Some p ↦ λ h first.
          let early : Before p = earlier_rule a t c p never h in
          record { rule = p; first = first; number = early.0; listed = λ is. absurd (early.1 is) }
      | None ↦ λ h first. record {
        rule = Key;
        first = first ∙ ap (λ (b : Bool). cond (not b) (Some Key) (cond (breaks a t c Limit) (Some Limit) None)) some;
        number = inl (omega arith);
        listed = λ is. told;
      }
    ] refl (find-append (breaks a t c) (early_rules ++ standing_rules) last_rules)

pub missing_denied : (a : Airspace) (t : ℕ) (caller : Option Caller) (op : Operation) (kind : Kind) (y : Entity) → Contains (needed kind a caller op) y → in_key (key_shown op) y.ovn ≡ false
    → IsDeniedFor kind a t (record { caller = caller; op = op }) y
missing_denied a t None op kind y h k =
    let some = none_asks a t op in
    let low : number_of some.0 ≤ 3 = some.2 in
    record { rule = some.0; first = some.1; number = inl (omega (arith, low)); listed = λ is. let same : number_of some.0 ≡ 14 = ap number_of is in absurd (omega (arith, low, same)) }
missing_denied a t (Some caller) op kind y h k = let m = call_misses kind a caller op y h k in denied_by a t caller op kind y (not_depended kind a (Some caller) op y h) m.0 m.1
