-- Lemmas: the subscriptions that a change notifies, found by test and by id.
use Rattle.std.specs.Prelude.{◌≡◌, ℕ, ◌<◌, ◌≤◌, nat_eq, ◌||◌, Bool, true, false, cond, T, List, [], ◌∷◌, map, filter, Option, Some, None, option_map, refl, IsSome}
use Rattle.std.proofs.Common.{arith, sym, ap, ◌∙◌, subst}
use Rattle.std.proofs.lemmas.Bool.{eq-eqb, eqb-true}
use Rattle.std.proofs.lemmas.Cmp.{eq_by_cmp_equiv, nat_cmp_total}
use Rattle.std.proofs.lemmas.List.Elements.{All-from_recursion}
use Rattle.std.proofs.lemmas.Option.{same_Some}
use Rattle.std.specs.List.{AllByRecursion, list_any}
use Rattle.std.specs.Ordering.{eq_by_cmp, nat_cmp}
use Rattle.std.specs.FinMap as maps
use Rattle.std.specs.FinMap.{entries, entries_sorted, get, get-entries, nat_cmp-IsAntisymmetric, same_map}
use Rattle.std.specs.FinMap.Entries.{below_all, is_sorted}
use Rattle.grid_core.specs.Extent.{Region}
use Rattle.entity_core.specs.Airspace.{Airspace, IsAirspace, is_one_of, notified_again, notified_if, notified_where}
use Rattle.entity_core.specs.Search.{is_for_near, subscribers_in}
use Rattle.entity_core.specs.Serial.{max_serial}
use Rattle.entity_core.specs.declared.nature.Kind.{Kind}
use Rattle.entity_core.specs.declared.subscription.Sub.{Sub}
use Rattle.space_core.specs.Space.{AreThere}
use Rattle.entity_core.proofs.Entries.{first, second}
use Rattle.entity_core.proofs.Changes.{no_sub_below, one_id, told_once}
use Rattle.space_core.proofs.Risings.{OwnId, each_sub, found_in_order}
use Rattle.service_step.specs.Looks.{CanNotifyAll}

-- ---- ids and tests

-- The ids of the entries that pass a test.
abbrev ids_where : (ℕ × Sub → Bool) → List (ℕ × Sub) → List ℕ
ids_where test ss = map (λ s. s.id) (map (λ s. s.1) (filter test ss))

abbrev is_among : ℕ → List ℕ → Bool
is_among q ids = list_any (λ id. nat_eq id q) ids

other_id : (q k : ℕ) → eq_by_cmp nat_cmp q k ≡ false → nat_eq k q ≡ false
other_id q k h =
    elim (nat_eq k q) as (λ b. nat_eq k q ≡ b → b ≡ false) [
      | true ↦ λ t. sym ((eq_by_cmp_equiv nat_cmp_total).refl q) ∙ (ap (eq_by_cmp nat_cmp q) (sym (eqb-true k q t)) ∙ h)
      | false ↦ λ t. refl
    ] refl

-- An id without an entry is not among the ids.
absent : (test : ℕ × Sub → Bool) (q : ℕ) (ss : List (ℕ × Sub)) → AllByRecursion OwnId ss → maps.find nat_cmp q ss ≡ None → is_among q (ids_where test ss) ≡ false
absent test q [] own none = refl
absent test q (s ∷ ss) own none =
    elim (eq_by_cmp nat_cmp q s.0) as (λ b. eq_by_cmp nat_cmp q s.0 ≡ b → cond b (Some s.1) (maps.find nat_cmp q ss) ≡ None → is_among q (ids_where test (s ∷ ss)) ≡ false) [
      | true ↦ λ t e. cc
      | false ↦ λ t e.
          elim (test s) as (λ b. is_among q (map (λ x. x.id) (map (λ x. x.1) (cond b (s ∷ filter test ss) (filter test ss)))) ≡ false) [
            | true ↦ ap (λ (b : Bool). b || is_among q (ids_where test ss)) (other_id q s.1.id (ap (eq_by_cmp nat_cmp q) own.0 ∙ t)) ∙ absent test q ss own.1 e
            | false ↦ absent test q ss own.1 e
          ]
    ] refl none

-- An id with an entry is among the ids exactly if the entry passes the test.
among : (test : ℕ × Sub → Bool) (q : ℕ) (x : Sub) (ss : List (ℕ × Sub)) → AllByRecursion OwnId ss → T (is_sorted nat_cmp ss) → maps.find nat_cmp q ss ≡ Some x → is_among q (ids_where test ss) ≡ test (q, x)
among test q x [] own s h = cc
among test q x (e ∷ ss) own s h =
    elim (eq_by_cmp nat_cmp q e.0) as (λ b. eq_by_cmp nat_cmp q e.0 ≡ b → cond b (Some e.1) (maps.find nat_cmp q ss) ≡ Some x → is_among q (ids_where test (e ∷ ss)) ≡ test (q, x)) [
      | true ↦ λ t h.
          let here : q ≡ e.0 = one_id q e.0 t in
          let is : e.1 ≡ x = same_Some e.1 x h in
          let same : test e ≡ test (q, x) = λ i. test (sym here i, is i) in
          let none : maps.find nat_cmp q ss ≡ None = ap (λ (k : ℕ). maps.find nat_cmp k ss) here ∙ no_sub_below e.0 ss (first _ _ s) in
          elim (test e) as (λ b. is_among q (map (λ y. y.id) (map (λ y. y.1) (cond b (e ∷ filter test ss) (filter test ss)))) ≡ b) [
            | true ↦ ap (λ (b : Bool). b || is_among q (ids_where test ss)) (eq-eqb e.1.id q (own.0 ∙ sym here))
            | false ↦ absent test q ss own.1 none
          ] ∙ same
      | false ↦ λ t h.
          let rest = among test q x ss own.1 (second (below_all nat_cmp e.0 ss) _ s) h in
          elim (test e) as (λ b. is_among q (map (λ y. y.id) (map (λ y. y.1) (cond b (e ∷ filter test ss) (filter test ss)))) ≡ test (q, x)) [
            | true ↦ ap (λ (b : Bool). b || is_among q (ids_where test ss)) (other_id q e.1.id (ap (eq_by_cmp nat_cmp q) own.0 ∙ t)) ∙ rest
            | false ↦ rest
          ]
    ] refl h

same_told : (one two : ℕ × Sub → Bool) (q : ℕ) (o : Option Sub) → ((x : Sub) → o ≡ Some x → one (q, x) ≡ two (q, x)) → option_map (λ s. (notified_if one (q, s)).1) o ≡ option_map (λ s. (notified_if two (q, s)).1) o
same_told one two q None h = refl
same_told one two q (Some x) h = ap (λ (b : Bool). Some (cond b (notified_again x) x)) (h x refl)

-- Notifying subscriptions leaves their ids unchanged.
pub told_ids : (ss : List Sub) → map (λ s. s.id) (map notified_again ss) ≡ map (λ s. s.id) ss
told_ids [] = refl
told_ids (s ∷ ss) = ap (λ (ids : List ℕ). s.id ∷ ids) (told_ids ss)

-- A property of all values holds for the values of the entries that pass a test.
kept_values : (P : Sub → Type 0) (test : ℕ × Sub → Bool) (ss : List (ℕ × Sub)) → AllByRecursion (λ e. P e.1) ss → AllByRecursion P (map (λ e. e.1) (filter test ss))
kept_values P test [] all = tt
kept_values P test (s ∷ ss) all =
    elim (test s) as (λ b. AllByRecursion P (map (λ e. e.1) (cond b (s ∷ filter test ss) (filter test ss)))) [ true ↦ (all.0, kept_values P test ss all.1) | false ↦ kept_values P test ss all.1 ]

mapped_all : {X Y : Type 0} (f : X → Y) (P : Y → Type 0) (xs : List X) → AllByRecursion (λ x. P (f x)) xs → AllByRecursion P (map f xs)
mapped_all f P [] all = tt
mapped_all f P (x ∷ xs) all = (all.0, mapped_all f P xs all.1)

module _ (a : Airspace) (proper : IsAirspace a) where
  own_ids : AllByRecursion OwnId (entries a.subscriptions)
  own_ids = each_sub OwnId (entries a.subscriptions) (entries_sorted a.subscriptions) (λ k x h. proper.own k x (get-entries a.subscriptions k ∙ h))

  -- Notifying subscriptions by id and notifying them by test leave the same subscriptions.
  pub told_alike : (kind : Kind) (areas : List Region) → notified_where (is_one_of (map (λ s. s.id) (subscribers_in a.subscriptions kind areas))) a.subscriptions ≡ notified_where (is_for_near kind areas) a.subscriptions
  unfolding subscribers_in
  told_alike kind areas =
      let m = a.subscriptions in
      let test = is_for_near kind areas in
      let ids = ids_where test (entries m) in
      same_map nat_cmp_total nat_cmp-IsAntisymmetric (notified_where (is_one_of ids) m) (notified_where test m) (λ q.
      told_once m (is_one_of ids) q
      ∙ (same_told (is_one_of ids) test q (get m q) (λ x h. among test q x (entries m) own_ids (entries_sorted m) (sym (get-entries m q) ∙ h))
      ∙ sym (told_once m test q)))

  -- A property of every stored subscription holds for every notified one.
  notified_all : (P : Sub → Type 0) → ((id : ℕ) (s : Sub) → get a.subscriptions id ≡ Some s → P s) → (kind : Kind) (areas : List Region) → AllByRecursion P (subscribers_in a.subscriptions kind areas)
  unfolding subscribers_in
  notified_all P h kind areas =
      kept_values P (is_for_near kind areas) (entries a.subscriptions) (each_sub (λ e. P e.1) (entries a.subscriptions) (entries_sorted a.subscriptions) (λ k x is. h k x (get-entries a.subscriptions k ∙ is)))

  -- Every notified subscription exists.
  pub notified_there : (kind : Kind) (areas : List Region) → AreThere a (map (λ s. s.id) (subscribers_in a.subscriptions kind areas))
  notified_there kind areas = record {
    rising = (found_in_order a proper).subscribers kind areas;
    there =
        All-from_recursion (λ id. IsSome (get a.subscriptions id)) (map (λ s. s.id) (subscribers_in a.subscriptions kind areas))
        (mapped_all (λ s. s.id) (λ id. IsSome (get a.subscriptions id)) (subscribers_in a.subscriptions kind areas)
        (notified_all (λ s. IsSome (get a.subscriptions s.id)) (λ id s h. subst (λ (k : ℕ). IsSome (get a.subscriptions k)) (sym (proper.own id s h)) (subst IsSome (sym h) refl)) kind areas));
  }

  -- If the serial is below its maximum, every notified index can rise.
  pub notified_rise : a.serial < max_serial → (kind : Kind) (areas : List Region) → CanNotifyAll a kind areas
  notified_rise room kind areas = notified_all (λ s. s.index < max_serial) (λ id s h. let told : s.index ≤ a.serial = proper.told id s h in omega (arith, told, room)) kind areas
