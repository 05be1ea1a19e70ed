-- Proofs that subscriptions are notified one after the other, after a change.
use Rattle.std.proofs.Common.{◌≡◌, inl, inr, ℕ, zero, suc, ◌+◌, ◌<◌, ◌≤◌, List, [], ◌∷◌, ◌++◌, map, take, get_or, length, ◌||◌, Bool, true, false, cond, Some, Less, refl, sym, ap, subst, ◌∙◌, arith, nat_eq}
use Rattle.std.specs.Prelude.{IsSome, option_map}
use Rattle.std.specs.List.{list_any}
use Rattle.std.specs.List.Sorted.{IsStrictlySortedBy}
use Rattle.std.specs.Ordering.{nat_cmp}
use Rattle.std.specs.FinMap.{entries, get}
use Rattle.std.proofs.lemmas.Bool.{eqb-true}
use Rattle.std.proofs.lemmas.Bool.Decides.{eqb_tells}
use Rattle.std.proofs.lemmas.Cmp.{nat_cmp_total, tied_itself}
use Rattle.std.proofs.lemmas.List.{take_more}
use Rattle.std.proofs.lemmas.List.Elements.{All-nil, All-weaker}
use Rattle.std.proofs.lemmas.List.Folds.{list_any-append}
use Rattle.sqlite_keyed.proofs.ListLemmas.{map-map, map_same}
use Rattle.sqlite_rules.specs.Lists.{Has}
use Rattle.sqlite.specs.Effect.{Database, IsDatabase}
use Rattle.entity_core.specs.Airspace.{Airspace, Subscriptions, is_one_of, notified_again, notified_if, notified_where, with_entity, with_notified_subs, without_entity}
use Rattle.entity_core.specs.declared.subscription.Sub.{Sub}
use Rattle.entity_core.proofs.Changes.{entries-told, told_once}
use Rattle.space_core.specs.declared.space.Change.{Change}
use Rattle.space_core.specs.declared.space.Change.TheVariants.{Put, Remove, Avail, PutSub, RemoveSub}
use Rattle.space_core.specs.Space.{AreThere}
use Rattle.space_sql_schema.specs.Spelling.{Spells, IsSubGroup}
use Rattle.space_sql_write.specs.Numbering.{Makes}
use Rattle.space_sql_write.specs.Statements.{MakesChange}
use Rattle.space_sql_write.specs.SubPutting.{CanRise, CanNotify, NotifiesRows, NotifiesRow}
use Rattle.space_sql_write.proofs.Entries.{some_of}
use Rattle.space_sql_write.proofs.Lists.{all_there}
use Rattle.space_sql_write.proofs.Numbered.{numbers_stand, numbers_then}
use Rattle.space_sql_write.proofs.Notifying.{none_told, same_subs, spells_untold}
use Rattle.space_sql_write.proofs.Notifies.{sub_there}

-- ---- ascending ids are notified once

differ : (y x : ℕ) → nat_cmp y x ≡ Less → nat_eq y x ≡ false
differ y x less = elim (eqb_tells y x) [
  | inl same ↦ absurd (let tie = tied_itself nat_cmp_total x in let both = sym (ap (λ k. nat_cmp k x) same.1) ∙ less in let no' = sym tie ∙ both in cc)
  | inr other ↦ other.0
]

has_at : (xs : List ℕ) (i x : ℕ) → i < length xs → x ≡ get_or xs i x → Has xs x
has_at [] i x l e = absurd (omega (arith, l))
has_at (y ∷ xs) zero x l e = inl e
has_at (y ∷ xs) (suc i) x l e = inr (has_at xs i x (omega (arith, l)) e)

-- No earlier id is the same.
not_before : (xs : List ℕ) (i x : ℕ) → i < length xs → x ≡ get_or xs i x → IsStrictlySortedBy nat_cmp xs → list_any (λ k. nat_eq k x) (take i xs) ≡ false
unfolding IsStrictlySortedBy
not_before [] i x l e up = absurd (omega (arith, l))
not_before (y ∷ xs) zero x l e up = refl
not_before (y ∷ xs) (suc i) x l e up =
    let low : i < length xs = omega (arith, l) in
    ap (λ b. b || list_any (λ k. nat_eq k x) (take i xs)) (differ y x (all_there (λ z. nat_cmp y z ≡ Less) xs up.0 x (has_at xs i x low e))) ∙ not_before xs i x low e up.1

module _ (m : Subscriptions) (xs : List ℕ) (x : ℕ) (new : list_any (λ k. nat_eq k x) xs ≡ false) where
  abbrev pair_of : ℕ → Sub → ℕ × Sub
  pair_of id s = (id, s)

  both : (e : ℕ × Sub) (b c : Bool) → (b ≡ true → c ≡ false) → ◌≡◌ {A = ℕ × Sub} (e.0, cond b (notified_again (cond c (notified_again e.1) e.1)) (cond c (notified_again e.1) e.1)) (e.0, cond (c || b) (notified_again e.1) e.1)
  both e true true h = absurd (let no' = h refl in cc)
  both e true false h = refl
  both e false true h = refl
  both e false false h = refl

  one_true : (b : Bool) → (b || false) ≡ true → b ≡ true
  one_true true e = refl
  one_true false e = e

  each : (e : ℕ × Sub) → notified_if (is_one_of (x ∷ [])) (notified_if (is_one_of xs) e) ≡ notified_if (is_one_of (xs ++ x ∷ [])) e
  each e =
      both e (nat_eq x e.0 || false) (list_any (λ k. nat_eq k e.0) xs) (λ h. subst (λ n. list_any (λ k. nat_eq k n) xs ≡ false) (eqb-true x e.0 (one_true (nat_eq x e.0) h)) new)
      ∙ ap (λ b. pair_of e.0 (cond b (notified_again e.1) e.1)) (sym (list_any-append (λ k. nat_eq k e.0) xs (x ∷ [])))

  -- Notifying one more subscription adds it to the notified ones.
  told_twice : notified_where (is_one_of (x ∷ [])) (notified_where (is_one_of xs) m) ≡ notified_where (is_one_of (xs ++ x ∷ [])) m
  told_twice = same_subs _ _ (
      entries-told (is_one_of (x ∷ [])) (notified_where (is_one_of xs) m)
      ∙ (ap (map (notified_if (is_one_of (x ∷ [])))) (entries-told (is_one_of xs) m)
      ∙ (map-map (notified_if (is_one_of (x ∷ []))) (notified_if (is_one_of xs)) (entries m)
      ∙ (map_same (λ e. notified_if (is_one_of (x ∷ [])) (notified_if (is_one_of xs) e)) (notified_if (is_one_of (xs ++ x ∷ []))) each (entries m)
      ∙ sym (entries-told (is_one_of (xs ++ x ∷ [])) m)))))

  -- The subscription is the same as before.
  still : (s : Sub) → get m x ≡ Some s → get (notified_where (is_one_of xs) m) x ≡ Some s
  still s found = told_once m (is_one_of xs) x ∙ (ap (option_map (λ (y : Sub). (notified_if (is_one_of xs) (x, y)).1)) found ∙ ap (λ b. Some (cond b (notified_again s) s)) new)

-- A subscription that exists still exists when it is notified.
found_told : (test : ℕ × Sub → Bool) (m : Subscriptions) (id : ℕ) → IsSome (get m id) → IsSome (get (notified_where test m) id)
found_told test m id there =
    let some = some_of (get m id) there in
    subst IsSome (sym (told_once m test id ∙ ap (option_map (λ (y : Sub). (notified_if test (id, y)).1)) some.1)) refl

-- Holds if the first subscriptions are notified.
abbrev pub TellsFirst : ℕ → List ℕ → Database → Database → Type 0
TellsFirst i ids old new = (a : Airspace) → Spells old a → CanNotify a ids → IsDatabase old → Makes a (with_notified_subs a (is_one_of (take i ids))) old new

pub tells_none : (ids : List ℕ) (db : Database) → TellsFirst 0 ids db db
tells_none ids db a p can sound = (spells_untold db a p, sound, numbers_stand a (with_notified_subs a (is_one_of [])) db)

pub tells_more : (ids : List ℕ) (i x : ℕ) (old mid new : Database) → i < length ids → x ≡ get_or ids i x → TellsFirst i ids old mid → NotifiesRow x mid new → TellsFirst (i + 1) ids old new
tells_more ids i x old mid new l is first one a p can sound =
    let it = first a p can sound in
    let m = a.subscriptions in
    let xs = take i ids in
    let fresh = not_before ids i x l is can.rising in
    let rise : CanRise a x = subst (CanRise a) (sym is) (can.there i x l) in
    let next = one (with_notified_subs a (is_one_of xs)) it.0 (rise.0, still m xs x fresh rise.0 rise.1, rise.2) in
    let same = told_twice m xs x fresh ∙ ap (λ ys. notified_where (is_one_of ys) m) (sym (take_more ids i x l ∙ ap (λ y. xs ++ y ∷ []) (sym is))) in
    subst (λ (n : Subscriptions). Makes a (record a { subscriptions = n }) old new) same (next.0, next.1, numbers_then a (with_notified_subs a (is_one_of xs)) (with_notified_subs (with_notified_subs a (is_one_of xs)) (is_one_of (x ∷ []))) old mid new (λ k before after. before) (λ k before after. found_told (is_one_of xs) m k before) it.2 next.2)

-- ---- after a change

index_most : (db : Database) (a : Airspace) (p : Spells db a) (id : ℕ) (s : Sub) → get a.subscriptions id ≡ Some s → s.index ≤ a.serial
index_most db a p id s found = let it = sub_there db a p id s found in subst (λ (x : Sub). x.index ≤ a.serial) it.3 (all_there (IsSubGroup a.serial) p.subs p.each_sub it.0 it.1).index

nobody : (a : Airspace) → AreThere a []
unfolding IsStrictlySortedBy
nobody a = record { rising = tt; there = All-nil _ }

tells_nobody : (a : Airspace) → CanNotify a []
unfolding IsStrictlySortedBy
tells_nobody a = record { rising = tt; there = All-nil _ }

module _ (told : List ℕ) (old mid new : Database) (a b : Airspace) (p : Spells old a) (same : b.subscriptions ≡ a.subscriptions) (next : b.serial ≡ a.serial + 1) (tells : NotifiesRows told mid new) where
  can_rise : (id : ℕ) → IsSome (get a.subscriptions id) → CanRise b id
  can_rise id there =
      let it = some_of (get a.subscriptions id) there in
      let most = index_most old a p id it.0 it.1 in
      (it.0, ap (λ m. get m id) same ∙ it.1, omega (arith, most, next))

  -- The subscriptions that existed before are notified.
  told_of : Makes a (with_notified_subs b (is_one_of [])) old mid → AreThere a told → Makes a (with_notified_subs b (is_one_of told)) old new
  told_of it are =
      let plain = subst (λ m. Makes a (record b { subscriptions = m }) old mid) (none_told b.subscriptions) it in
      let after = tells b plain.0 (record { rising = are.rising; there = All-weaker (λ id. IsSome (get a.subscriptions id)) (CanRise b) can_rise told are.there }) plain.1 in
      (after.0, after.1, numbers_then a b (with_notified_subs b (is_one_of told)) old mid new (λ k before later. later) (λ k before later. subst (λ m. IsSome (get m k)) (sym same) before) plain.2 after.2)

-- No subscription is notified.
told_none : (told : List ℕ) (old mid new : Database) (a b : Airspace) → told ≡ [] → NotifiesRows told mid new → Makes a b old mid → Makes a b old new
told_none told old mid new a b none tells it =
    let after = subst (λ ids. NotifiesRows ids mid new) none tells b it.0 (tells_nobody b) it.1 in
    let plain = subst (λ m. Makes b (record b { subscriptions = m }) mid new) (none_told b.subscriptions) after in
    (plain.0, plain.1, numbers_then a b b old mid new (λ k before later. later) (λ k before later. later) it.2 plain.2)

-- A change without notifications, followed by the notifications, makes the change.
pub changes_told : (change : Change) (told : List ℕ) (old mid new : Database) → MakesChange change [] old mid → NotifiesRows told mid new → MakesChange change told old new
changes_told (Put e) told old mid new makes tells a p fits = told_of told old mid new a (with_entity a e) p refl refl tells (makes a p (record { room = fits.room; due = fits.due; tells = nobody a })) fits.tells
changes_told (Remove kind id) told old mid new makes tells a p fits = told_of told old mid new a (without_entity a (kind, id)) p refl refl tells (makes a p (record { room = fits.room; due = fits.due; tells = nobody a })) fits.tells
changes_told (Avail uss availability version) told old mid new makes tells a p fits = told_none told old mid new a _ fits.tells tells (makes a p (record { room = fits.room; due = fits.due; tells = refl }))
changes_told (PutSub s) told old mid new makes tells a p fits = told_none told old mid new a _ fits.tells tells (makes a p (record { room = fits.room; due = fits.due; tells = refl }))
changes_told (RemoveSub id) told old mid new makes tells a p fits = told_none told old mid new a _ fits.tells tells (makes a p (record { room = fits.room; due = fits.due; tells = refl }))
