-- Proofs that the changes of a batch are made one after the other.
use Rattle.std.proofs.Common.{◌≡◌, ℕ, ◌+◌, ◌<◌, ◌≤◌, List, [], ◌∷◌, length, get_or, drop, sym, ap, subst, ◌∙◌}
use Rattle.std.proofs.lemmas.List.{drop_all, drop_more}
use Rattle.sqlite.specs.Effect.{Database}
use Rattle.entity_core.specs.Airspace.{Airspace}
use Rattle.space_core.specs.declared.batch.BatchChange.{BatchChange}
use Rattle.space_core.specs.Batch.{changed_once}
use Rattle.space_sql_write.specs.Numbering.{KeepsNumbers, KeepsNumbersThroughout, Throughout}
use Rattle.space_sql_write.specs.Statements.{MakesChange, MakesRest, MakesBatch}

-- A property that holds throughout a batch holds at its start.
at_start : (P : Airspace → Type 0) (batch : List BatchChange) (a : Airspace) → Throughout P batch a → P a
at_start P [] a all = all
at_start P (c ∷ cs) a all = all.0

numbers_on : (c : BatchChange) (cs : List BatchChange) (a : Airspace) (old mid new : Database) → KeepsNumbers a (changed_once c a) old mid → KeepsNumbersThroughout cs (changed_once c a) mid new → KeepsNumbersThroughout (c ∷ cs) a old new
numbers_on c cs a old mid new one others = record {
  entities = λ k all num at. others.entities k all.1 num (one.entities k all.0 (at_start _ cs (changed_once c a) all.1) num at);
  subscriptions = λ id all num at. others.subscriptions id all.1 num (one.subscriptions id all.0 (at_start _ cs (changed_once c a) all.1) num at);
}

-- A change, followed by the remaining changes, makes the batch.
pub change_then : (c : BatchChange) (cs : List BatchChange) (old mid new : Database) → MakesChange c.change c.notify.items old mid → MakesRest cs mid new → MakesBatch (c ∷ cs) old new
change_then c cs old mid new one others a p fits =
    let it = one a p fits.0 in
    let rest = others (changed_once c a) it.0 fits.1 it.1 in
    (rest.0, rest.1, numbers_on c cs a old mid new it.2 rest.2)

-- Holds if the changes before an index, followed by any effect of the remaining ones, have the
-- effect of all.
abbrev pub LeadsTo : ℕ → List BatchChange → Database → Database → Type 0
LeadsTo i batch old mid = (new : Database) → MakesRest (drop i batch) mid new → MakesRest batch old new

pub leads_start : (batch : List BatchChange) (db : Database) → LeadsTo 0 batch db db
leads_start batch db new all = all

pub leads_on : (batch : List BatchChange) (i : ℕ) (c : BatchChange) (old mid next : Database) → i < length batch → c ≡ get_or batch i c → LeadsTo i batch old mid → MakesChange c.change c.notify.items mid next → LeadsTo (i + 1) batch old next
leads_on batch i c old mid next l is so_far one new others =
    let here : c ∷ drop (i + 1) batch ≡ drop i batch = ap (λ x. x ∷ drop (i + 1) batch) is ∙ sym (drop_more batch i c l) in
    so_far new (subst (λ cs. MakesRest cs mid new) here (λ a p fits sound. change_then c (drop (i + 1) batch) mid next new one others a p fits))

none_left : (db : Database) → MakesRest [] db db
none_left db a p fits sound = (p, sound, record { entities = λ k all num at. at; subscriptions = λ id all num at. at })

pub leads_end : (batch : List BatchChange) (i : ℕ) (old new : Database) → length batch ≤ i → LeadsTo i batch old new → MakesRest batch old new
leads_end batch i old new l so_far = so_far new (subst (λ cs. MakesRest cs new new) (sym (drop_all i batch l)) (none_left new))
