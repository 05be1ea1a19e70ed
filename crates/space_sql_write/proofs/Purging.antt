-- Proofs that items are purged one after the other.
use Rattle.std.proofs.Common.{◌≡◌, ℕ, ◌+◌, ◌<◌, ◌≤◌, List, [], ◌∷◌, length, get_or, drop, Bool, true, false, cond, Option, None, sym, ap, subst, ◌∙◌, Ordering}
use Rattle.std.specs.Prelude.{IsSome}
use Rattle.std.specs.Cmp.{IsTotalOrder}
use Rattle.std.specs.Ordering.{eq_by_cmp}
use Rattle.std.specs.FinMap.{FinMap, get, get-remove, remove}
use Rattle.std.proofs.lemmas.Cmp.{nat_cmp_total}
use Rattle.std.proofs.lemmas.List.{drop_all, drop_more}
use Rattle.sqlite.specs.Effect.{Database}
use Rattle.entity_core.specs.Airspace.{Airspace, EntityKey}
use Rattle.entity_core.proofs.Keys.{key_total}
use Rattle.entity_purge.specs.declared.purge_item.PurgeItem.{PurgeItem}
use Rattle.entity_purge.specs.declared.purge_item.PurgeItem.TheVariants.{Entity, Subscription}
use Rattle.entity_purge.specs.PurgeItem.{without_items, without_item}
use Rattle.space_sql_write.specs.Statements.{MakesLess, MakesLessAll, MakesLessRest}
use Rattle.space_sql_write.proofs.Numbered.{numbers_stand, numbers_then}

-- ---- remaining items existed before

was_some : {X : Type 0} (b : Bool) (x : Option X) → IsSome (cond b None x) → IsSome x
was_some true x h = absurd (let none = h in cc)
was_some false x h = h

was_kept : {K X : Type 0} {R : K → K → Ordering} (o : IsTotalOrder R) (m : FinMap R X) (k j : K) → IsSome (get (remove m k) j) → IsSome (get m j)
was_kept {R = R} o m k j h = was_some (eq_by_cmp R j k) (get m j) (subst IsSome (get-remove o m k j) h)

pub entity_was : (gone : List PurgeItem) (a : Airspace) (k : EntityKey) → IsSome (get (without_items gone a).entities k) → IsSome (get a.entities k)
entity_was [] a k h = h
entity_was (Entity kind id ∷ gs) a k h = was_kept key_total a.entities (kind, id) k (entity_was gs (without_item a (Entity kind id)) k h)
entity_was (Subscription id ∷ gs) a k h = entity_was gs (without_item a (Subscription id)) k h

pub sub_was : (gone : List PurgeItem) (a : Airspace) (id : ℕ) → IsSome (get (without_items gone a).subscriptions id) → IsSome (get a.subscriptions id)
sub_was [] a id h = h
sub_was (Entity kind k ∷ gs) a id h = sub_was gs (without_item a (Entity kind k)) id h
sub_was (Subscription k ∷ gs) a id h = was_kept nat_cmp_total a.subscriptions k id (sub_was gs (without_item a (Subscription k)) id h)

-- ---- one after the other

-- Purging an item, then the remaining ones, purges all.
pub less_then : (g : PurgeItem) (gs : List PurgeItem) (old mid new : Database) → MakesLess g old mid → MakesLessRest gs mid new → MakesLessAll (g ∷ gs) old new
less_then g gs old mid new one others a p can =
    let b = without_item a g in
    let c = without_items gs b in
    let it = one a p can.0 in
    let rest = others b it.0 can.1 it.1 in
    (rest.0, rest.1, numbers_then a b c old mid new (λ k before after. entity_was gs b k after) (λ k before after. sub_was gs b k after) it.2 rest.2)

-- Holds if purging the items before an index, followed by any effect of the remaining ones, has the
-- effect of all.
abbrev pub LeadsTo : ℕ → List PurgeItem → Database → Database → Type 0
LeadsTo i gone old mid = (new : Database) → MakesLessRest (drop i gone) mid new → MakesLessRest gone old new

pub leads_start : (gone : List PurgeItem) (db : Database) → LeadsTo 0 gone db db
leads_start gone db new all = all

pub leads_on : (gone : List PurgeItem) (i : ℕ) (g : PurgeItem) (old mid next : Database) → i < length gone → g ≡ get_or gone i g → LeadsTo i gone old mid → MakesLess g mid next → LeadsTo (i + 1) gone old next
leads_on gone i g old mid next l is so_far one new others =
    let here : g ∷ drop (i + 1) gone ≡ drop i gone = ap (λ x. x ∷ drop (i + 1) gone) is ∙ sym (drop_more gone i g l) in
    so_far new (subst (λ gs. MakesLessRest gs mid new) here (λ a p can sound. less_then g (drop (i + 1) gone) mid next new one others a p can))

none_left : (db : Database) → MakesLessRest [] db db
none_left db a p can sound = (p, sound, numbers_stand a a db)

pub leads_end : (gone : List PurgeItem) (i : ℕ) (old new : Database) → length gone ≤ i → LeadsTo i gone old new → MakesLessRest gone old new
leads_end gone i old new l so_far = so_far new (subst (λ gs. MakesLessRest gs new new) (sym (drop_all i gone l)) (none_left new))
