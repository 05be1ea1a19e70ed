-- Lemmas: the first broken rule, and the missing references.
use Rattle.std.specs.Prelude.{◌≡◌, ◌⊎◌, ℕ, ◌&&◌, Bool, true, false, List, [], ◌∷◌, ◌++◌, map, Option, Some, None, find, cond, refl, IfSome, not}
use Rattle.std.proofs.Common.{sym, ap, ◌∙◌, subst, inl, inr}
use Rattle.grid_core.specs.Extent.{Region, region_of}
use Rattle.entity_core.specs.Airspace.{Airspace}
use Rattle.entity_core.specs.Search.{meeting_in}
use Rattle.entity_core.specs.declared.entity.Entity.{Entity}
use Rattle.entity_core.specs.declared.subscription.Sub.{Sub}
use Rattle.entity_core.specs.Entity.{subscription_of}
use Rattle.entity_core.specs.declared.nature.Kind.{Kind}
use Rattle.entity_core.specs.declared.nature.Kind.TheVariants as kinds
use Rattle.policy_core.specs.declared.call.Call.{Call}
use Rattle.policy_core.specs.declared.call.Put.{Put}
use Rattle.policy_core.specs.declared.call.Operation.{Operation}
use Rattle.policy_core.specs.declared.call.Operation.TheVariants.{Create, Update}
use Rattle.policy_core.specs.declared.scope.Caller.{Caller}
use Rattle.policy_core.specs.declared.rule.Rule.{Rule}
use Rattle.policy_core.specs.declared.rule.Rule.TheVariants.{Key, Limit}
use Rattle.policy_core.specs.declared.reference.Missing.{Missing}
use Rattle.policy_core.specs.declared.reference.Reference.{Reference}
use Rattle.policy_core.specs.Missing.{is_nothing, missing_from, needs_kind, missing_for, missing_put, missing_with, needs_key, nothing_missing, unspared}
use Rattle.policy_core.specs.Policy.{breaks, breaks_given, early_rules, standing_rules, last_rules, first_broken}
use Rattle.policy_core.specs.Standing.{Facts, sub_of, sub_under}
use Rattle.policy_core.specs.View.{view_of}
use Rattle.policy_core.proofs.Finds.{find_has, find_rest}
use Rattle.service_step.specs.declared.admitted.Admitted.{Admitted}
use Rattle.service_step.specs.declared.look_up.OwnedFacts as own
use Rattle.service_step.specs.declared.needed.EvaluatedPut.{EvaluatedPut}
use Rattle.service_step.specs.Admitted.{IsAdmitted}
use Rattle.service_step.specs.Step.{missing_views}
use Rattle.service_step.specs.Looks.{facts_in, AreFacts}
use Rattle.service_calls.specs.Decision.{BreaksNoStandingBy, IsFirst, IsMissingFor, missing_by}

find_front : {X : Type 0} (p : X → Bool) (xs ys : List X) (x : X) → find p xs ≡ Some x → find p (xs ++ ys) ≡ Some x
find_front p [] ys x h = cc
find_front p (y ∷ xs) ys x h =
    elim (p y) as (λ b. cond b (Some y) (find p xs) ≡ Some x → cond b (Some y) (find p (xs ++ ys)) ≡ Some x) [
      | true ↦ λ e. e
      | false ↦ λ e. find_front p xs ys x e
    ] h

find_later : {X : Type 0} (p : X → Bool) (xs ys : List X) → find p xs ≡ None → find p (xs ++ ys) ≡ find p ys
find_later p [] ys h = refl
find_later p (y ∷ xs) ys h =
    elim (p y) as (λ b. cond b (Some y) (find p xs) ≡ None → cond b (Some y) (find p (xs ++ ys)) ≡ find p ys) [
      | true ↦ λ e. cc
      | false ↦ λ e. find_later p xs ys e
    ] h

find_none : {X : Type 0} (p : X → Bool) (xs ys : List X) → find p (xs ++ ys) ≡ None → find p xs ≡ None
find_none p [] ys h = refl
find_none p (y ∷ xs) ys h =
    elim (p y) as (λ b. cond b (Some y) (find p (xs ++ ys)) ≡ None → cond b (Some y) (find p xs) ≡ None) [
      | true ↦ λ e. cc
      | false ↦ λ e. find_none p xs ys e
    ] h

pub first_early : (a : Airspace) (t : ℕ) (c : Call) (r : Rule) → find (breaks a t c) early_rules ≡ Some r → first_broken a t c ≡ Some r
unfolding first_broken
first_early a t c r h = find_front (breaks a t c) early_rules (standing_rules ++ last_rules) r h

first_standing : (a : Airspace) (t : ℕ) (c : Call) (r : Rule) → find (breaks a t c) early_rules ≡ None → find (breaks a t c) standing_rules ≡ Some r → first_broken a t c ≡ Some r
unfolding first_broken
first_standing a t c r h k = find_later (breaks a t c) early_rules (standing_rules ++ last_rules) h ∙ find_front (breaks a t c) standing_rules last_rules r k

first_last : (a : Airspace) (t : ℕ) (c : Call) → find (breaks a t c) early_rules ≡ None → find (breaks a t c) standing_rules ≡ None → first_broken a t c ≡ find (breaks a t c) last_rules
unfolding first_broken
first_last a t c h k = find_later (breaks a t c) early_rules (standing_rules ++ last_rules) h ∙ find_later (breaks a t c) standing_rules last_rules k

pub standing_none : (a : Airspace) (t : ℕ) (c : Call) → first_broken a t c ≡ None → find (breaks a t c) standing_rules ≡ None
unfolding first_broken
standing_none a t c h = find_none (breaks a t c) standing_rules last_rules (find_rest (breaks a t c) early_rules (standing_rules ++ last_rules) h)

pub told_early : (a : Airspace) (t : ℕ) (c : Call) (r : Rule) → find (breaks a t c) early_rules ≡ Some r → missing_views a c r ≡ nothing_missing
told_early a t c r h = find_has (λ (p : Rule). missing_views a c p ≡ nothing_missing) (breaks a t c) early_rules r (refl, (refl, (refl, (refl, (refl, (refl, tt)))))) h

told_standing : (a : Airspace) (t : ℕ) (c : Call) (r : Rule) → find (breaks a t c) standing_rules ≡ Some r → missing_views a c r ≡ nothing_missing
told_standing a t c r h = find_has (λ (p : Rule). missing_views a c p ≡ nothing_missing) (breaks a t c) standing_rules r (refl, (refl, (refl, (refl, (refl, (refl, (refl, (refl, (refl, tt))))))))) h

-- ---- looked-up facts

module _ (q : Admitted) (g : own.OwnedFacts) where
  -- Borrowed facts have the same first broken rule.
  pub lent_first : (f : Facts) (r : Option Rule) → f ≡ facts_in g → r ≡ find (breaks_given f q.moment q.call.now) standing_rules → find (breaks_given (facts_in g) q.moment q.call.now) standing_rules ≡ r
  lent_first f r one is = sym (is ∙ ap (λ (x : Facts). find (breaks_given x q.moment q.call.now) standing_rules) one)

  pub lent_limit : (f : Facts) (limit : Bool) → f ≡ facts_in g → limit ≡ breaks_given f q.moment q.call.now Limit → limit ≡ breaks_given (facts_in g) q.moment q.call.now Limit
  lent_limit f limit one is = is ∙ ap (λ (x : Facts). breaks_given x q.moment q.call.now Limit) one

pub standing_from : (a : Airspace) (t : ℕ) (c : Call) (g : own.OwnedFacts) → AreFacts c.op a g → find (breaks_given (facts_in g) t c) standing_rules ≡ find (breaks a t c) standing_rules
standing_from a t c g is = ap (λ (f : Facts). find (breaks_given f t c) standing_rules) is

key_is : (a : Airspace) (t : ℕ) (c : Call) (m : Missing) (b : Bool) → m ≡ missing_for a c.caller c.op → b ≡ not (is_nothing m) → breaks a t c Key ≡ b
key_is a t c m b is h = ap (λ (x : Missing). not (is_nothing x)) (sym is) ∙ sym h

module _ (q : Admitted) (is_admitted : IsAdmitted q) (g : own.OwnedFacts) (a : Airspace) (regards : AreFacts q.call.now.op a g) where
  -- The first broken rule of P7 to P13, P16 and P17 is the first broken rule of all.
  pub judged_standing : (r : Rule) (m : Missing) → find (breaks_given (facts_in g) q.moment q.call.now) standing_rules ≡ Some r → m ≡ nothing_missing → IsFirst q a (Some (r, m))
  judged_standing r m is none =
      let e : find (breaks a q.moment q.call.now) standing_rules ≡ Some r = sym (standing_from a q.moment q.call.now g regards) ∙ is in
      (first_standing a q.moment q.call.now r (is_admitted.early a) e, none ∙ sym (told_standing a q.moment q.call.now r e))

  -- If a call breaks none of these, only the last rules remain.
  first_of_last : BreaksNoStandingBy q g → first_broken a q.moment q.call.now ≡ find (breaks a q.moment q.call.now) last_rules
  first_of_last is = first_last a q.moment q.call.now (is_admitted.early a) (sym (standing_from a q.moment q.call.now g regards) ∙ is)

  is_missing : (m : Missing) → IsMissingFor q g.sub a m → m ≡ missing_for a q.call.now.caller q.call.now.op
  is_missing m is = is (ap (λ (f : Facts). f.sub) regards) ∙ ap (λ (o : Option Caller). missing_for a o q.call.now.op) (sym is_admitted.caller)

  -- If a reference is missing, P14 is the first broken rule.
  pub judged_key : (m : Missing) → BreaksNoStandingBy q g → IsMissingFor q g.sub a m → true ≡ not (is_nothing m) → IsFirst q a (Some (Key, m))
  judged_key m none missing some =
      let f = is_missing m missing in
      (first_of_last none ∙ ap (λ (b : Bool). cond b (Some Key) (cond (breaks a q.moment q.call.now Limit) (Some Limit) None)) (key_is a q.moment q.call.now m true f some), f)

  -- If nothing is missing, only the limit remains.
  pub last_limit : (m : Missing) (limit : Bool) → BreaksNoStandingBy q g → IsMissingFor q g.sub a m → false ≡ not (is_nothing m) → limit ≡ breaks_given (facts_in g) q.moment q.call.now Limit → first_broken a q.moment q.call.now ≡ cond limit (Some Limit) None
  last_limit m limit none missing nothing l =
      let n : limit ≡ breaks a q.moment q.call.now Limit = l ∙ ap (λ (f : Facts). breaks_given f q.moment q.call.now Limit) regards in
      first_of_last none ∙ (ap (λ (b : Bool). cond b (Some Key) (cond (breaks a q.moment q.call.now Limit) (Some Limit) None)) (key_is a q.moment q.call.now m false (is_missing m missing) nothing)
      ∙ ap (λ (b : Bool). cond b (Some Limit) None) (sym n))

pub some_of_none : (o : Option Rule) (P : Rule → Type 0) → None ≡ o → IfSome o P
some_of_none o P e = subst (λ (x : Option Rule). IfSome x P) e tt

-- ---- missing references

both : (i j k l : List Reference) → i ≡ j → k ≡ l → ◌≡◌ {A = Missing} (record { intents = i; constraints = k }) (record { intents = j; constraints = l })
both i j k l h g = ap (λ (x : List Reference). record { intents = x; constraints = k }) h ∙ ap (λ (x : List Reference). record { intents = j; constraints = x }) g

missing_none : {A : Type 0} (f : Entity → A) (key : List (List ℕ)) → [] ≡ map f (missing_from key [])
unfolding missing_from
missing_none f key = refl

-- A put without a key needs to know nothing.
pub needs_nothing : (a : Airspace) (evaluated : EvaluatedPut) (m : Missing) → needs_key evaluated.put.now.nature ≡ false → m ≡ nothing_missing → m ≡ missing_by a evaluated
needs_nothing a evaluated m lacks none =
    let put = evaluated.put.now in
    let uss = evaluated.caller.now.uss in
    let areas : List Region = map region_of put.volumes in
    let told : Kind → Bool = λ kind. needs_kind kind (Some evaluated.caller.now) (subscription_of put.nature) evaluated.sub.now in
    none ∙ both [] _ [] _
    (missing_none (view_of a uss) put.key ∙ ap (λ (b : Bool). map (view_of a uss) (missing_from put.key (cond (b && told kinds.Intent) (unspared a (meeting_in a.entities kinds.Intent areas (Some evaluated.id))) []))) (sym lacks))
    (missing_none (view_of a uss) put.key ∙ ap (λ (b : Bool). map (view_of a uss) (missing_from put.key (cond (b && told kinds.Constraint) (unspared a (meeting_in a.entities kinds.Constraint areas None)) []))) (sym lacks))

-- Given the referenced subscription, the missing references are those of the policy.
put_missing : (a : Airspace) (caller : Caller) (op : Operation) (sub : Option Sub) (id : ℕ) (put : Put) (m : Missing) → missing_for a (Some caller) op ≡ missing_put a caller id put → sub_of a op ≡ sub_under a (subscription_of put.nature)
    → m ≡ missing_with a caller sub id put → sub ≡ sub_of a op → m ≡ missing_for a (Some caller) op
put_missing a caller op sub id put m one two is h = is ∙ (ap (λ (s : Option Sub). missing_with a caller s id put) (h ∙ two) ∙ sym one)

pub missing_is : (a : Airspace) (q : Admitted) (sub : Option Sub) (id : ℕ) (put : Put) (m : Missing) → (q.call.now.op ≡ Create id put) ⊎ ((ovn : List ℕ) × q.call.now.op ≡ Update id ovn put) → m ≡ missing_with a q.caller.now sub id put → IsMissingFor q sub a m
missing_is a q sub id put m op =
    elim op [
      | inl is ↦ put_missing a q.caller.now q.call.now.op sub id put m (ap (missing_for a (Some q.caller.now)) is) (ap (sub_of a) is)
      | inr is ↦ put_missing a q.caller.now q.call.now.op sub id put m (ap (missing_for a (Some q.caller.now)) is.1) (ap (sub_of a) is.1)
    ]
