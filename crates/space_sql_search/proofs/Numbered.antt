-- Proofs about reading entities and subscriptions, one number after the other.
use Rattle.std.proofs.Common.{◌≡◌, ℕ, ℤ, List, [], Some, None, ap}
use Rattle.std.specs.FinMap.{insert, nat_cmp-IsAntisymmetric}
use Rattle.std.specs.Ordering.{nat_cmp}
use Rattle.std.proofs.lemmas.Cmp.{nat_cmp_total}
use Rattle.std.proofs.lemmas.Option.{same_Some}
use Rattle.sqlite.specs.Effect.{Database}
use Rattle.entity_core.specs.declared.entity.Entity.{Entity}
use Rattle.entity_core.specs.declared.subscription.Sub.{Sub}
use Rattle.entity_core.specs.Airspace.{EntityKey, key_cmp, key_of}
use Rattle.entity_core.proofs.Keys.{key_total, key_exact}
use Rattle.entity_maps.specs.Entities.{entity_map}
use Rattle.entity_maps.specs.Subscriptions.{subscription_map}
use Rattle.space_sql_lookup.specs.Entity.{FindsNumbered}
use Rattle.space_sql_lookup.specs.Subscription.{FindsSubNumbered}
use Rattle.space_sql_search.specs.Candidates.{AddsNumbered, HoldsEntities, HoldsSubs, spelt_entities, spelt_subs}
use Rattle.space_sql_search.proofs.Found.{none_numbered, adds_none, adds_one}

-- ---- entities

pub no_entities : (db : Database) (es : List Entity) → es ≡ [] → HoldsEntities [] db es
no_entities db es is a s = none_numbered key_cmp key_total key_exact (spelt_entities s) s.kept (entity_map es) (ap (λ (l : List Entity). entity_map l) is)

pub adds_no_entity : (num : ℤ) (db : Database) (es : List Entity) → FindsNumbered num db None → AddsNumbered HoldsEntities num db es es
adds_no_entity num db es none numbers h a s = adds_none key_cmp key_total key_exact (spelt_entities s) s.kept num numbers (entity_map es) (λ g there same. let no_such = (none a s).own g there same in cc) (h a s)

pub adds_entity : (num : ℤ) (db : Database) (old new : List Entity) (e : Entity) → entity_map new ≡ insert (entity_map old) (key_of e) e → FindsNumbered num db (Some e) → AddsNumbered HoldsEntities num db old new
adds_entity num db old new e put found numbers h a s =
    let k = (found a s).kept in
    let pair : Entity → EntityKey × Entity = λ x. (key_of x, x) in
    adds_one key_cmp key_total key_exact (spelt_entities s) s.kept num numbers (entity_map old) (entity_map new) (pair e) put (λ g there same. ap pair (same_Some e g.entity ((found a s).own g there same))) (k.0, k.1, ap pair k.3) (h a s)

-- ---- subscriptions

pub no_subs : (db : Database) (ss : List Sub) → ss ≡ [] → HoldsSubs [] db ss
no_subs db ss is a s = none_numbered nat_cmp nat_cmp_total nat_cmp-IsAntisymmetric (spelt_subs s) s.subs_kept (subscription_map ss) (ap (λ (l : List Sub). subscription_map l) is)

pub adds_no_sub : (num : ℤ) (db : Database) (ss : List Sub) → FindsSubNumbered num db None → AddsNumbered HoldsSubs num db ss ss
adds_no_sub num db ss none numbers h a s = adds_none nat_cmp nat_cmp_total nat_cmp-IsAntisymmetric (spelt_subs s) s.subs_kept num numbers (subscription_map ss) (λ g there same. let no_such = (none a s).own g there same in cc) (h a s)

pub adds_sub : (num : ℤ) (db : Database) (old new : List Sub) (t : Sub) → subscription_map new ≡ insert (subscription_map old) t.id t → FindsSubNumbered num db (Some t) → AddsNumbered HoldsSubs num db old new
adds_sub num db old new t put found numbers h a s =
    let k = (found a s).kept in
    let pair : Sub → ℕ × Sub = λ x. (x.id, x) in
    adds_one nat_cmp nat_cmp_total nat_cmp-IsAntisymmetric (spelt_subs s) s.subs_kept num numbers (subscription_map old) (subscription_map new) (pair t) put (λ g there same. ap pair (same_Some t g.sub ((found a s).own g there same))) (k.0, k.1, ap pair k.3) (h a s)
