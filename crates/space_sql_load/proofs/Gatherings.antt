-- Proofs about gathering entities one after the other.
use Rattle.std.specs.Prelude.{◌≡◌, ℕ, ℤ, pos, ◌<ℤ◌, ◌↔◌, List, [], ◌∷◌, Option, Some, None, refl}
use Rattle.std.specs.List.{AllByRecursion}
use Rattle.std.specs.FinMap.{insert, empty}
use Rattle.std.proofs.Common.{sym, ap, ◌∙◌, subst}
use Rattle.entity_core.specs.declared.entity.Entity.{Entity}
use Rattle.entity_core.specs.Airspace.{Entities, key_of}
use Rattle.space_rows.specs.declared.rows.EntityRow.{EntityRow}
use Rattle.space_rows.specs.declared.rows.VolumeRow.{VolumeRow}
use Rattle.space_rows.specs.declared.rows.CellRow.{CellRow}
use Rattle.space_rows.proofs.OneEntity.{one_entity}
use Rattle.space_sql_schema.proofs.Rising.{volumes_of, cells_of}
use Rattle.space_sql_select.specs.declared.sub_rows.NamingRow.{NamingRow}
use Rattle.space_sql_load.specs.declared.naming.Numbered.{Numbered}
use Rattle.space_sql_load.specs.Gathering.{Gathers, IsNext, NamesBy, Parts, id_in, joined}
use Rattle.space_sql_load.proofs.Fronts.{Front, less, later, one_front}

-- ---- referenced subscriptions

pub own_namings : (numbers : List Numbered) (num : ℤ) (own : List NamingRow) (named : Option ℕ) → NamesBy numbers num own named → AllByRecursion (λ (n : NamingRow). n.entity ≡ num) own
own_namings numbers num own None h = subst (AllByRecursion (λ (n : NamingRow). n.entity ≡ num)) (sym h) tt
own_namings numbers num own (Some id) h = subst (AllByRecursion (λ (n : NamingRow). n.entity ≡ num)) (sym h.1) (refl, tt)

first_at : List NamingRow → ℤ
first_at [] = pos 0
first_at (n ∷ ns) = n.subscription

-- The rows reference at most one id.
pub one_id : (numbers : List Numbered) (num : ℤ) (own : List NamingRow) (a b : Option ℕ) → NamesBy numbers num own a → NamesBy numbers num own b → a ≡ b
unfolding first_at
one_id numbers num own None None p q = refl
one_id numbers num own None (Some y) p q = absurd (let e = sym p ∙ q.1 in cc)
one_id numbers num own (Some x) None p q = absurd (let e = sym q ∙ p.1 in cc)
one_id numbers num own (Some x) (Some y) p q =
    let same : p.0 ≡ q.0 = ap first_at (sym p.1 ∙ q.1) in
    sym p.2 ∙ (ap (id_in numbers) same ∙ q.2)

-- ---- the parts of the next entity

pub record Fronts (num : ℤ) (rest own more : Parts) : Type 0 where
  pub volumes : Front (λ (v : VolumeRow). v.entity ≡ num) rest.volumes own.volumes more.volumes
  pub cells : Front (λ (c : CellRow). c.entity ≡ num) rest.cells own.cells more.cells
  pub namings : Front (λ (n : NamingRow). n.entity ≡ num) rest.namings own.namings more.namings

whole : (num : ℤ) (rest own more : Parts) → Fronts num rest own more → rest ≡ joined own more
whole num rest own more f = λ i. record { volumes = f.volumes.whole i; cells = f.cells.whole i; namings = f.namings.whole i }

abbrev of_volume : VolumeRow → ℤ
of_volume v = v.entity

abbrev of_cell : CellRow → ℤ
of_cell c = c.entity

abbrev of_naming : NamingRow → ℤ
of_naming n = n.entity

record AllLater (last : ℤ) (parts : Parts) : Type 0 where
  volumes : AllByRecursion (λ (v : VolumeRow). last <ℤ v.entity) parts.volumes
  cells : AllByRecursion (λ (c : CellRow). last <ℤ c.entity) parts.cells
  namings : AllByRecursion (λ (n : NamingRow). last <ℤ n.entity) parts.namings

module _ (serial : ℕ) (numbers : List Numbered) where
  later_parts : (last : ℤ) (rows : List EntityRow) (parts : Parts) (m n : Entities) → Gathers serial numbers last rows parts m n → AllLater last parts
  later_parts last [] parts m n g = subst (AllLater last) (sym g.0) (record { volumes = tt; cells = tt; namings = tt })
  later_parts last (r ∷ rows) parts m n g =
      let s = g.0 in
      let up = less last r.num s.next.rising in
      let more = later_parts r.num rows s.more (insert m (key_of s.entity) s.entity) n g.1 in
      record {
        volumes = later of_volume last r.num parts.volumes s.own.volumes s.more.volumes up (volumes_of r.num s.own.volumes _ s.next.spelt.volumes_are) more.volumes (ap (λ (p : Parts). p.volumes) s.parts_are);
        cells = later of_cell last r.num parts.cells s.own.cells s.more.cells up (cells_of r.num s.own.cells _ s.next.spelt.cells_are) more.cells (ap (λ (p : Parts). p.cells) s.parts_are);
        namings = later of_naming last r.num parts.namings s.own.namings s.more.namings up (own_namings numbers r.num s.own.namings s.named s.names) more.namings (ap (λ (p : Parts). p.namings) s.parts_are);
      }

  -- The split into the first entity and the others.
  record First (last : ℤ) (r : EntityRow) (rows : List EntityRow) (own more : Parts) (m n : Entities) : Type 0 where
    named : Option ℕ
    entity : Entity
    names : NamesBy numbers r.num own.namings named
    next : IsNext serial last r own.volumes own.cells named m entity
    rest : Gathers serial numbers r.num rows more (insert m (key_of entity) entity) n

  first : (last : ℤ) (r : EntityRow) (rows : List EntityRow) (parts own more : Parts) (m n : Entities) → Fronts r.num parts own more → Gathers serial numbers last (r ∷ rows) parts m n → First last r rows own more m n
  first last r rows parts own more m n f g =
      let s = g.0 in
      let after = later_parts r.num rows s.more (insert m (key_of s.entity) s.entity) n g.1 in
      let v = one_front of_volume r.num parts.volumes s.own.volumes s.more.volumes own.volumes more.volumes (volumes_of r.num s.own.volumes _ s.next.spelt.volumes_are) after.volumes (ap (λ (p : Parts). p.volumes) s.parts_are) f.volumes in
      let c = one_front of_cell r.num parts.cells s.own.cells s.more.cells own.cells more.cells (cells_of r.num s.own.cells _ s.next.spelt.cells_are) after.cells (ap (λ (p : Parts). p.cells) s.parts_are) f.cells in
      let k = one_front of_naming r.num parts.namings s.own.namings s.more.namings own.namings more.namings (own_namings numbers r.num s.own.namings s.named s.names) after.namings (ap (λ (p : Parts). p.namings) s.parts_are) f.namings in
      let mine : s.own ≡ own = λ i. record { volumes = v.0 i; cells = c.0 i; namings = k.0 i } in
      let others : s.more ≡ more = λ i. record { volumes = v.1 i; cells = c.1 i; namings = k.1 i } in
      record {
        named = s.named;
        entity = s.entity;
        names = subst (λ (p : Parts). NamesBy numbers r.num p.namings s.named) mine s.names;
        next = subst (λ (p : Parts). IsNext serial last r p.volumes p.cells s.named m s.entity) mine s.next;
        rest = subst (λ (p : Parts). Gathers serial numbers r.num rows p (insert m (key_of s.entity) s.entity) n) others g.1;
      }

  -- Holds if the remaining rows are gathered exactly if all rows are.
  abbrev pub GathersOn : List EntityRow → Parts → ℤ → List EntityRow → Parts → Entities → Type 0
  GathersOn rows parts last rest left m = (n : Entities) → Gathers serial numbers (pos 0) rows parts empty n ↔ Gathers serial numbers last rest left m n

  pub gathers_start : (rows : List EntityRow) (parts : Parts) (m : Entities) → m ≡ empty → GathersOn rows parts (pos 0) rows parts m
  gathers_start rows parts m e n = ((λ w. subst (λ (k : Entities). Gathers serial numbers (pos 0) rows parts k n) (sym e) w), (λ w. subst (λ (k : Entities). Gathers serial numbers (pos 0) rows parts k n) e w))

  module _ (rows : List EntityRow) (parts : Parts) (last : ℤ) (r : EntityRow) (rest more : List EntityRow) (left own others : Parts) (m : Entities) (is : rest ≡ r ∷ more) (f : Fronts r.num left own others) (g : GathersOn rows parts last rest left m) where
    first_left : (n : Entities) → Gathers serial numbers (pos 0) rows parts empty n → First last r more own others m n
    first_left n w = first last r more left own others m n f (subst (λ (l : List EntityRow). Gathers serial numbers last l left m n) is ((g n).0 w))

    pub gathers_more : (named : Option ℕ) (e : Entity) (n : Entities) → NamesBy numbers r.num own.namings named → IsNext serial last r own.volumes own.cells named m e → n ≡ insert m (key_of e) e → GathersOn rows parts r.num more others n
    gathers_more named e n names t put a = (
      (λ w.
          let h = first_left a w in
          let called = one_id numbers r.num own.namings h.named named h.names names in
          let spelt = subst (λ (k : Option ℕ). IsNext serial last r own.volumes own.cells k m h.entity) called h.next in
          let same : h.entity ≡ e = one_entity r own.volumes own.cells named h.entity e spelt.spelt t.spelt in
          subst (λ (k : Entities). Gathers serial numbers r.num more others k a) (ap (λ (x : Entity). insert m (key_of x) x) same ∙ sym put) h.rest),
      (λ w.
          (g a).1 (subst (λ (l : List EntityRow). Gathers serial numbers last l left m a) (sym is)
          (record { own = own; more = others; named = named; entity = e; parts_are = whole r.num left own others f; names = names; next = t }, subst (λ (k : Entities). Gathers serial numbers r.num more others k a) put w))),
    )

    -- If no entity fits the rows and the referenced id, nothing is gathered from the rows.
    pub gathers_none : (named : Option ℕ) → NamesBy numbers r.num own.namings named → ((e : Entity) → ¬ IsNext serial last r own.volumes own.cells named m e) → (n : Entities) → ¬ Gathers serial numbers (pos 0) rows parts empty n
    gathers_none named names none n w =
        let h = first_left n w in
        let called = one_id numbers r.num own.namings h.named named h.names names in
        none h.entity (subst (λ (k : Option ℕ). IsNext serial last r own.volumes own.cells k m h.entity) called h.next)

    -- If the rows of `naming` fit no reference, nothing is gathered from the rows.
    pub gathers_unnamed : ((named : Option ℕ) → ¬ NamesBy numbers r.num own.namings named) → (n : Entities) → ¬ Gathers serial numbers (pos 0) rows parts empty n
    gathers_unnamed none n w = let h = first_left n w in none h.named h.names

  module _ (rows : List EntityRow) (parts : Parts) (last : ℤ) (rest : List EntityRow) (left : Parts) (m : Entities) (is : rest ≡ []) (g : GathersOn rows parts last rest left m) where
    pub gathers_all : left.volumes ≡ [] → left.cells ≡ [] → left.namings ≡ [] → Gathers serial numbers (pos 0) rows parts empty m
    gathers_all v c k = (g m).1 (subst (λ (l : List EntityRow). Gathers serial numbers last l left m m) (sym is) ((λ i. record { volumes = v i; cells = c i; namings = k i }), refl))

    pub gathers_over : ¬ ((left.volumes ≡ []) × (left.cells ≡ []) × (left.namings ≡ [])) → (n : Entities) → ¬ Gathers serial numbers (pos 0) rows parts empty n
    gathers_over some n w =
        let h = (subst (λ (l : List EntityRow). Gathers serial numbers last l left m n) is ((g n).0 w)).0 in
        some (ap (λ (p : Parts). p.volumes) h, ap (λ (p : Parts). p.cells) h, ap (λ (p : Parts). p.namings) h)
