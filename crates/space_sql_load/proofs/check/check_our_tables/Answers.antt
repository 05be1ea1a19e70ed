use Rattle.std.proofs.Common.{ℕ, List, ◌∙◌, sym, ap, subst}
use Rattle.entity_core.specs.Airspace.{Airspace}
use Rattle.space_sql_select.proofs.Metas.{one_serial, not_other}
use Rattle.space_sql_load.specs.declared.naming.Numbered.{Numbered}
use Rattle.space_sql_load.specs.Gathering.{ListsEntities, ListsSubs, Subs, subs_of}
use Rattle.space_sql_load.proofs.Listings.{one_listed}
use Rattle.space_sql_load.proofs.NotifiedSubs.{listed_told}
use Rattle.space_sql_load.proofs.check.check_our_tables.Goals as goal

pub returns-in_default : goal.returns-in_default
returns-in_default c = (
  (λ (a : Airspace) l.
      let serial = one_serial c.args.tables.now.metas.items a.serial c.args.serial l.meta c.requires.meta in
      (rw c.in_default.is at c.in_ok-known.ensures.lists) (a.subscriptions, l.numbers) (subst (λ (n : ℕ). ListsSubs n c.args.tables.now.subscriptions (a.subscriptions, l.numbers)) serial l.subscriptions)),
  not_other c.args.tables.now.metas.items c.args.serial c.requires.meta,
)

pub returns-in_default-2 : goal.returns-in_default-2
returns-in_default-2 c = (
  (λ (a : Airspace) l.
      let serial = one_serial c.args.tables.now.metas.items a.serial c.args.serial l.meta c.requires.meta in
      let mine : ListsSubs c.args.serial c.args.tables.now.subscriptions (subs_of c.in-Some.known) = rw c.in-Some.is at c.in_ok-known.ensures.lists in
      let theirs = subst (λ (n : ℕ). ListsSubs n c.args.tables.now.subscriptions (a.subscriptions, l.numbers)) serial l.subscriptions in
      let same = one_listed c.args.serial c.args.tables.now.subscriptions (a.subscriptions, l.numbers) (subs_of c.in-Some.known) theirs mine in
      let listed = subst (λ (n : ℕ). ListsEntities n l.numbers c.args.tables.now.entities a.entities) serial l.entities in
      (rw c.in_default-2.is at c.in_ok-entities.ensures) a.entities (subst (λ (n : List Numbered). ListsEntities c.args.serial n c.args.tables.now.entities a.entities) (ap (λ (s : Subs). s.1) same ∙ sym c.as_slice-numbers.ensures.value) listed)),
  not_other c.args.tables.now.metas.items c.args.serial c.requires.meta,
)

pub invariant_of-result : goal.invariant_of-result
invariant_of-result c =
    let mine : ListsSubs c.args.serial c.args.tables.now.subscriptions (subs_of c.in-Some.known) = rw c.in-Some.is at c.in_ok-known.ensures.lists in
    record { told = listed_told c.args.serial c.args.tables.now.subscriptions (subs_of c.in-Some.known) mine }
