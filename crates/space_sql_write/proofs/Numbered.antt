-- Proofs that entities and subscriptions keep their numbers.
use Rattle.std.proofs.Common.{◌≡◌, ℕ, ◌<◌, ◌^◌, ℤ, List, [], ◌∷◌, map, true, refl, sym, ap, subst, ◌∙◌}
use Rattle.std.specs.Prelude.{IsPermutation, IsSome}
use Rattle.std.specs.Ordering.{nat_cmp}
use Rattle.std.specs.FinMap.{get, nat_cmp-IsAntisymmetric}
use Rattle.std.proofs.lemmas.Bool.Decides.{Decides-int_eq}
use Rattle.std.proofs.lemmas.Cmp.{nat_cmp_total, nat_list_cmp_total, tied_itself}
use Rattle.std.proofs.lemmas.List.Sorted.{IsPermutation-sym}
use Rattle.sqlite_rules.specs.Lists.{Has}
use Rattle.sqlite.specs.declared.types.Value.{Value}
use Rattle.sqlite.specs.declared.types.Value.TheVariants.{Int, Text}
use Rattle.sqlite.specs.Order.{Row, column}
use Rattle.sqlite.specs.Effect.{Database, IsDatabase}
use Rattle.entity_core.specs.declared.entity.Entity.{Entity}
use Rattle.entity_core.specs.declared.subscription.Sub.{Sub}
use Rattle.entity_core.specs.EntityId.{printed}
use Rattle.entity_core.specs.Airspace.{Airspace, EntityKey, is_one_of, key_cmp, with_notified_subs}
use Rattle.entity_core.proofs.Keys.{key_total, key_exact}
use Rattle.space_rows.specs.Rows.{kind_number}
use Rattle.space_sql_schema.specs.Spelling.{Spells, Group, IsGroup, IsSubGroup, IsSubNumber, SubGroup, entity_columns, entity_values, pair_of, sub_columns, sub_pair_of, sub_values}
use Rattle.space_sql_write.specs.Layout.{IsNumberOf, Layout, LaysOut, has_id}
use Rattle.space_sql_write.specs.Numbering.{IsEntityAt, IsSubAt, KeepsNumbers, Makes, entity_head, sub_head}
use Rattle.space_sql_write.specs.Statements.{is_of}
use Rattle.space_sql_write.proofs.Entries.{some_of}
use Rattle.space_sql_write.proofs.Groups.{IsAt, group_there}
use Rattle.space_sql_write.proofs.Lists.{all_there, mapped_from, mapped_there, moved}
use Rattle.space_sql_write.proofs.Numbers.{id_from, key_from}
use Rattle.space_sql_write.proofs.Spelt.{AreRowsOf, spell_out}
use Rattle.space_sql_write.proofs.Notifying.{none_told}

-- ---- groups by their numbers

abbrev pub number : Group → ℤ
number g = g.row.num

abbrev pub IsGroupAt : ℤ → EntityKey → List Group → Type 0
IsGroupAt num k gs = IsAt number pair_of key_cmp key_total key_exact num k gs

pub at_of : (num : ℤ) (k : EntityKey) (gs : List Group) → IsNumberOf num k gs → IsGroupAt num k gs
at_of num k gs it = (it.group, it.there, it.number, it.key)

pub of_at : (num : ℤ) (k : EntityKey) (gs : List Group) → IsGroupAt num k gs → IsNumberOf num k gs
of_at num k gs it = record { group = it.0; there = it.1; number = it.2; key = it.3 }

abbrev pub sub_number : SubGroup → ℤ
sub_number s = s.row.num

pub at_from : (num : ℤ) (id : ℕ) (ss : List SubGroup) → IsSubNumber ss num id → IsAt sub_number sub_pair_of nat_cmp nat_cmp_total nat_cmp-IsAntisymmetric num id ss
at_from num id ss there =
    let it = mapped_from (λ (s : SubGroup). (s.row.num, s.sub.id)) ss (num, id) there in
    (it.0, it.1, sym (ap (λ (x : ℤ × ℕ). x.0) it.2), sym (ap (λ (x : ℤ × ℕ). x.1) it.2))

pub number_from : (num : ℤ) (id : ℕ) (ss : List SubGroup) (s : SubGroup) → Has ss s → s.row.num ≡ num → s.sub.id ≡ id → IsSubNumber ss num id
number_from num id ss s there number own = subst (λ (x : ℤ × ℕ). Has {X = ℤ × ℕ} (map (λ (s : SubGroup). (s.row.num, s.sub.id)) ss) x) (λ i. (number i, own i)) (mapped_there (λ (s : SubGroup). (s.row.num, s.sub.id)) ss s there)

-- ---- rows of a table and typed rows

module _ {R : Type 0} (values : R → Row) (columns : Row → Row) (rs : List R) (rows : List Row) (same : IsPermutation (map values rs) (map columns rows)) where
  -- Each row has a typed row.
  typed_of : (row : Row) → Has rows row → (r : R) × Has rs r × (columns row ≡ values r)
  typed_of row there = mapped_from values rs (columns row) (moved (map values rs) (map columns rows) (columns row) same (mapped_there columns rows row there))

  -- Each typed row has a row.
  row_of : (r : R) → Has rs r → (row : Row) × Has rows row × (values r ≡ columns row)
  row_of r there = mapped_from columns rows (values r) (moved (map columns rows) (map values rs) (values r) (IsPermutation-sym _ _ same) (mapped_there values rs r there))

same_ints : (m n : ℤ) → ◌≡◌ {A = Value} (Int m) (Int n) → m ≡ n
same_ints m n e = cc

same_texts : (m n : List ℕ) → ◌≡◌ {A = Value} (Text m) (Text n) → m ≡ n
same_texts m n e = cc

-- ---- rows of entities

module _ (db : Database) (a : Airspace) (p : Spells db a) where
  -- A row with a kind and an id is that of their entity.
  number_in : (k : EntityKey) (num : ℤ) → k.1 < 2 ^ 128 → IsEntityAt db k num → IsNumberOf num k p.groups
  number_in k num low at =
      let row = mapped_from entity_head (db.trees 1) _ at in
      let it = typed_of (λ (g : Group). entity_values g.row) entity_columns p.groups (db.trees 1) p.entities row.0 row.1 in
      let own = same_ints it.0.row.num num (sym (ap (λ c. column c 0) it.2) ∙ sym (ap (λ c. column c 0) row.2)) in
      let kind = same_ints it.0.row.kind (kind_number k.0) (sym (ap (λ c. column c 1) it.2) ∙ sym (ap (λ c. column c 1) row.2)) in
      let id = same_texts it.0.row.id (printed k.1) (sym (ap (λ c. column c 2) it.2) ∙ sym (ap (λ c. column c 2) row.2)) in
      let passes : is_of (kind_number k.0) (printed k.1) it.0.row ≡ true = rw (kind, id, (Decides-int_eq (kind_number k.0) (kind_number k.0)).1 refl, tied_itself nat_list_cmp_total (printed k.1)) in
      record { group = it.0; there = it.1; number = own; key = key_from a.serial p.subs k it.0 low (all_there (IsGroup a.serial p.subs) p.groups p.each it.0 it.1) passes }

  -- The id of an entity fits 128 bits.
  short_key : (k : EntityKey) → IsSome (get a.entities k) → k.1 < 2 ^ 128
  short_key k there =
      let some = some_of (get a.entities k) there in
      let it = group_there number pair_of key_cmp key_total key_exact p.groups a.entities p.kept k some.0 some.1 in
      subst (λ n. n < 2 ^ 128) (ap (λ (x : EntityKey × Entity). x.0.1) it.2) (all_there (IsGroup a.serial p.subs) p.groups p.each it.0 it.1).spelt.kept.id

  sub_number_in : (id : ℕ) (num : ℤ) → id < 2 ^ 128 → IsSubAt db id num → IsSubNumber p.subs num id
  sub_number_in id num low at =
      let row = mapped_from sub_head (db.trees 9) _ at in
      let it = typed_of (λ (s : SubGroup). sub_values s.row) sub_columns p.subs (db.trees 9) p.sub_rows row.0 row.1 in
      let own = same_ints it.0.row.num num (sym (ap (λ c. column c 0) it.2) ∙ sym (ap (λ c. column c 0) row.2)) in
      let text = same_texts it.0.row.id (printed id) (sym (ap (λ c. column c 1) it.2) ∙ sym (ap (λ c. column c 1) row.2)) in
      let passes : has_id (printed id) it.0.row ≡ true = rw (text, tied_itself nat_list_cmp_total (printed id)) in
      number_from num id p.subs it.0 it.1 own (id_from a.serial id it.0 low (all_there (IsSubGroup a.serial) p.subs p.each_sub it.0 it.1) passes)

  short_id : (id : ℕ) → IsSome (get a.subscriptions id) → id < 2 ^ 128
  short_id id there =
      let some = some_of (get a.subscriptions id) there in
      let it = group_there sub_number sub_pair_of nat_cmp nat_cmp_total nat_cmp-IsAntisymmetric p.subs a.subscriptions p.subs_kept id some.0 some.1 in
      subst (λ n. n < 2 ^ 128) (ap (λ (x : ℕ × Sub). x.0) it.2) (all_there (IsSubGroup a.serial) p.subs p.each_sub it.0 it.1).spelt.kept.id

module _ (db : Database) (l : Layout) (ss : List SubGroup) (gs : List Group) (b : Airspace) (has : LaysOut db l) (are : AreRowsOf l ss gs b) where
  number_out : (k : EntityKey) (num : ℤ) → IsNumberOf num k gs → IsEntityAt db k num
  number_out k num it =
      let typed = moved l.entities (map (λ (g : Group). g.row) gs) it.group.row (IsPermutation-sym _ _ are.entities.rows_are) (mapped_there (λ (g : Group). g.row) gs it.group it.there) in
      let row = row_of entity_values entity_columns l.entities (db.trees 1) has.entities.same it.group.row typed in
      let head = all_there (IsGroup b.serial ss) gs are.entities.each it.group it.there in
      let at = λ (n : ℕ). ap (λ c. column c n) (sym row.2) in
      let own = at 0 ∙ ap Int it.number in
      let kind = at 1 ∙ ap Int (head.spelt.entity.kind ∙ ap (λ (q : EntityKey). kind_number q.0) it.key) in
      let id = at 2 ∙ ap Text (head.spelt.entity.id ∙ ap (λ (q : EntityKey). printed q.1) it.key) in
      subst (Has (map entity_head (db.trees 1))) (λ i. own i ∷ kind i ∷ id i ∷ []) (mapped_there entity_head (db.trees 1) row.0 row.1)

  sub_number_out : (id : ℕ) (num : ℤ) → IsSubNumber ss num id → IsSubAt db id num
  sub_number_out id num there =
      let it = at_from num id ss there in
      let typed = moved l.subs (map (λ (s : SubGroup). s.row) ss) it.0.row (IsPermutation-sym _ _ are.subs.rows_are) (mapped_there (λ (s : SubGroup). s.row) ss it.0 it.1) in
      let row = row_of sub_values sub_columns l.subs (db.trees 9) has.subs.same it.0.row typed in
      let head = all_there (IsSubGroup b.serial) ss are.subs.each it.0 it.1 in
      let at = λ (n : ℕ). ap (λ c. column c n) (sym row.2) in
      let own = at 0 ∙ ap Int it.2 in
      let text = at 1 ∙ ap Text (head.spelt.sub.id ∙ ap printed it.3) in
      subst (Has (map sub_head (db.trees 9))) (λ i. own i ∷ text i ∷ []) (mapped_there sub_head (db.trees 9) row.0 row.1)

-- A number that is kept in groups is kept in rows.
pub keeps_numbers : (old new : Database) (a b : Airspace) (p : Spells old a) (l : Layout) (ss : List SubGroup) (gs : List Group) → LaysOut new l → AreRowsOf l ss gs b → ((num : ℤ) (k : EntityKey) → IsNumberOf num k p.groups → IsSome (get b.entities k) → IsNumberOf num k gs)
    → ((num : ℤ) (id : ℕ) → IsSubNumber p.subs num id → IsSome (get b.subscriptions id) → IsSubNumber ss num id) → KeepsNumbers a b old new
keeps_numbers old new a b p l ss gs has are entities subs = record {
  entities = λ k before after num at. number_out new l ss gs b has are k num (entities num k (number_in old a p k num (short_key old a p k before) at) after);
  subscriptions = λ id before after num at. sub_number_out new l ss gs b has are id num (subs num id (sub_number_in old a p id num (short_id old a p id before) at) after);
}

-- ---- the result of a change

-- The rows of the changed airspace are its result.
pub made : (old new : Database) (a b : Airspace) (p : Spells old a) (l : Layout) (ss : List SubGroup) (gs : List Group) → LaysOut new l → IsDatabase new → AreRowsOf l ss gs b → ((num : ℤ) (k : EntityKey) → IsNumberOf num k p.groups → IsSome (get b.entities k) → IsNumberOf num k gs)
    → ((num : ℤ) (id : ℕ) → IsSubNumber p.subs num id → IsSome (get b.subscriptions id) → IsSubNumber ss num id) → Makes a b old new
made old new a b p l ss gs has sound are entities subs = (spell_out new l ss gs b has are, sound, keeps_numbers old new a b p l ss gs has are entities subs)

-- If no subscription is notified, the result is the same.
pub made_untold : (old new : Database) (a b : Airspace) → Makes a b old new → Makes a (with_notified_subs b (is_one_of [])) old new
made_untold old new a b it = subst (λ m. Makes a (record b { subscriptions = m }) old new) (sym (none_told b.subscriptions)) it

-- ---- one change after another

pub numbers_then : (a b c : Airspace) (old mid new : Database) → ((k : EntityKey) → IsSome (get a.entities k) → IsSome (get c.entities k) → IsSome (get b.entities k)) → ((id : ℕ) → IsSome (get a.subscriptions id) → IsSome (get c.subscriptions id) → IsSome (get b.subscriptions id))
    → KeepsNumbers a b old mid → KeepsNumbers b c mid new → KeepsNumbers a c old new
numbers_then a b c old mid new entities subs first second = record {
  entities = λ k before after num at. let there = entities k before after in second.entities k there after num (first.entities k before there num at);
  subscriptions = λ id before after num at. let there = subs id before after in second.subscriptions id there after num (first.subscriptions id before there num at);
}

pub numbers_stand : (a b : Airspace) (db : Database) → KeepsNumbers a b db db
numbers_stand a b db = record { entities = λ k before after num at. at; subscriptions = λ id before after num at. at }
