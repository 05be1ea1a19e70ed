-- Lemmas: the operation of a body is of its kind and within all limits.
use Rattle.std.proofs.Common.{arith, ◌≡◌, ◌≢◌, ◌≤◌, ℕ, List, [], length, codes, refl, ap, subst, Option, Some, None, ◌∙◌}
use Rattle.std.specs.Prelude.{sum_by, ◌&&◌, nat_le, unwrap_or, option_and_then}
use Rattle.std.specs.List.{AllByRecursion}
use Rattle.std.proofs.lemmas.Bool.{and_parts, leb-true}
use Rattle.serde_json.specs.Data.{Data}
use Rattle.serde_json.specs.Find.{as_str}
use Rattle.grid_core.specs.Extent.{Extent, Region, region_of, region_with, extent_of, region_fault}
use Rattle.entity_core.specs.Entity as entities
use Rattle.entity_core.specs.Entity.{subscription_of}
use Rattle.entity_core.specs.EntityId.{spelled}
use Rattle.entity_core.specs.IdTexts.{name_fault, ovn_fault, url_fault}
use Rattle.entity_core.specs.declared.id_fault.IdFault.{IdFault}
use Rattle.entity_core.specs.declared.nature.Kind.{Kind}
use Rattle.entity_core.specs.declared.nature.Kind.TheVariants as entity_kinds
use Rattle.entity_core.specs.declared.nature.Nature.{Nature}
use Rattle.entity_core.specs.declared.nature.Nature.TheVariants as natures
use Rattle.policy_core.specs.Call.{kind_of}
use Rattle.policy_core.specs.declared.call.OpKind.{OpKind}
use Rattle.policy_core.specs.declared.call.OpKind.TheVariants as kinds
use Rattle.policy_core.specs.declared.call.Operation.{Operation}
use Rattle.policy_core.specs.declared.call.Operation.TheVariants.{Query, Read, Create, Update, Delete, ReadAvail, SetAvail, QuerySub, ReadSub, CreateSub, UpdateSub, DeleteSub}
use Rattle.policy_core.specs.declared.call.Put.{Put}
use Rattle.policy_core.specs.declared.call.SubPut.{SubPut}
use Rattle.wire_body.specs.Body.{IsBody, Words, only_parameter, is_query, id_named, ovn_named, uss_parameter, availability_of, old_version_of, short_text_in, short_text, query_area, query_of, read_of, create_of, update_of, delete_of, availability_read_of, setting_of, sub_query_of, sub_read_of, sub_create_of, sub_update_of, sub_delete_of}
use Rattle.wire_body.specs.Laws.{IsPutWithinLimits, IsSubPutWithinLimits, IsWithinLimits, KeepsKind, KeepsLimits}
use Rattle.wire_body.specs.Member.{without_fault, member_of, required, optional, if_there, list_of}
use Rattle.wire_body.specs.Naming.{zero_id, unless_zero, id_in, naming_of}
use Rattle.wire_body.specs.SubPut.{interest_of, volume_of, sub_put_of}
use Rattle.wire_body.specs.Put.{text_in, are_few_cells, few_volumes, volumes_in, volumes_of, few_ovns, key_in, key_of, state_in, nature_of, url_of, put_of}
use Rattle.wire_body.specs.Volume.{volume_in, area_in, altitudes_of, times_of, cells_of, altitude_bounds_of, time_bounds_of}
use Rattle.wire_body.proofs.Chains.{both_steps, mapped, faultless, passed, let_through, unless_same, list_holds}

-- ---- parts of a put

text_faultless : (fault : List ℕ → Option IdFault) (d : Data) (s : List ℕ) → text_in fault d ≡ Some s → fault s ≡ None
text_faultless fault d s e =
    let parts = both_steps (as_str d) (λ t. without_fault (fault t) t) s e in
    let none = faultless (fault parts.0) parts.0 s parts.2 in
    subst (λ (t : List ℕ). fault t ≡ None) none.1 none.0

volume_faultless : (d : Data) (e : Extent) → volume_in d ≡ Some e → region_fault (region_of e) ≡ None
unfolding volume_in
volume_faultless d e is =
    let altitudes = both_steps (altitudes_of d) _ e is in
    let times = both_steps (times_of d) _ e altitudes.2 in
    let cells = both_steps (cells_of d) _ e times.2 in
    let none = faultless (region_fault (region_of (extent_of cells.0 altitudes.0 times.0))) (extent_of cells.0 altitudes.0 times.0) e cells.2 in
    subst (λ (x : Extent). region_fault (region_of x) ≡ None) none.1 none.0

area_faultless : (d : Data) (r : Region) → area_in d ≡ Some r → region_fault r ≡ None
unfolding area_in
area_faultless d r is =
    let altitudes = both_steps (altitude_bounds_of d) _ r is in
    let times = both_steps (time_bounds_of d) _ r altitudes.2 in
    let cells = both_steps (cells_of d) _ r times.2 in
    let none = faultless (region_fault (region_with cells.0 altitudes.0 times.0)) (region_with cells.0 altitudes.0 times.0) r cells.2 in
    subst (λ (x : Region). region_fault x ≡ None) none.1 none.0

record HasFewVolumes (es : List Extent) : Type 0 where
  least : 1 ≤ length es
  most : length es ≤ 32
  cells : sum_by (λ e. length e.cells) es ≤ 2048
  volumes : AllByRecursion (λ e. region_fault (region_of e) ≡ None) es

few : (d : Data) (es : List Extent) → volumes_of d ≡ Some es → HasFewVolumes es
unfolding volumes_of volumes_in
few d es is =
    let found = both_steps (member_of (codes "extents") d) volumes_in es is in
    let read = both_steps (list_of volume_in found.0) few_volumes es found.2 in
    let test = passed ((nat_le 1 (length read.0) && nat_le (length read.0) 32) && are_few_cells read.0) read.0 es read.2 in
    let parts = and_parts (nat_le 1 (length read.0) && nat_le (length read.0) 32) (are_few_cells read.0) test.0 in
    let sizes = and_parts (nat_le 1 (length read.0)) (nat_le (length read.0) 32) parts.0 in
    let all = list_holds volume_in (λ e. region_fault (region_of e) ≡ None) volume_faultless found.0 read.0 read.1 in
    let right : HasFewVolumes read.0 = record { least = leb-true _ _ sizes.0; most = leb-true _ _ sizes.1; cells = leb-true _ _ parts.1; volumes = all } in
    subst HasFewVolumes test.1 right

record HasFewVersions (vs : List (List ℕ)) : Type 0 where
  entries : length vs ≤ 4096
  key : AllByRecursion (λ v. ovn_fault v ≡ None) vs

few_in : (d : Data) (vs : List (List ℕ)) → key_in d ≡ Some vs → HasFewVersions vs
unfolding key_in
few_in d vs is =
    let read = both_steps (list_of (text_in ovn_fault) d) few_ovns vs is in
    let test = passed (nat_le (length read.0) 4096) read.0 vs read.2 in
    let right : HasFewVersions read.0 = record { entries = leb-true _ _ test.0; key = list_holds (text_in ovn_fault) (λ v. ovn_fault v ≡ None) (text_faultless ovn_fault) d read.0 read.1 } in
    subst HasFewVersions test.1 right

none_few : HasFewVersions []
none_few = record { entries = omega arith; key = tt }

few_there : (o : Option Data) (key : Option (List (List ℕ))) → if_there key_in o ≡ Some key → HasFewVersions (unwrap_or key [])
few_there None None is = none_few
few_there None (Some vs) is = absurd (let h : ⊥ = cc in h)
few_there (Some d) key is = let read = mapped (key_in d) Some key is in subst (λ (k : Option (List (List ℕ))). HasFewVersions (unwrap_or k [])) read.2 (few_in d read.0 read.1)

few_keys : (kind : Kind) (d : Data) (vs : List (List ℕ)) → key_of kind d ≡ Some vs → HasFewVersions vs
unfolding key_of
few_keys entity_kinds.Intent d vs is =
    let key = mapped (optional key_in (codes "key") d) (λ k. unwrap_or k []) vs is in
    subst HasFewVersions key.2 (few_there (member_of (codes "key") d) key.0 key.1)
few_keys entity_kinds.Constraint d vs is = let e : [] ≡ vs = cc in subst HasFewVersions e none_few

-- An id that is read is not the zero id.
not_zero : (id n : ℕ) → unless_zero id ≡ Some n → n ≢ zero_id
not_zero id n is = unless_same zero_id id n is

named_not_zero : (id n : Option ℕ) → option_and_then unless_zero id ≡ n → n ≢ Some zero_id
named_not_zero None n is = λ e. let h : ⊥ = cc in h
named_not_zero (Some id) n is = λ e. not_zero id zero_id (is ∙ e) refl

right_naming : (d : Data) (named : Option ℕ) → naming_of d ≡ Some named → named ≢ Some zero_id
unfolding naming_of
right_naming d named is =
    let read = mapped (optional id_in (codes "subscription_id") d) (λ id. option_and_then unless_zero id) named is in named_not_zero read.0 named read.2

record IsRightNature (kind : Kind) (n : Nature) : Type 0 where
  same_kind : entities.kind_of n ≡ kind
  named : subscription_of n ≢ Some zero_id

right_nature : (kind : Kind) (d : Data) (n : Nature) → nature_of kind d ≡ Some n → IsRightNature kind n
unfolding nature_of
right_nature entity_kinds.Intent d n is =
    let state = both_steps (required state_in (codes "state") d) _ n is in
    let named = both_steps (naming_of d) _ n state.2 in
    let same : natures.Intent state.0 named.0 ≡ n = cc in
    let right : IsRightNature entity_kinds.Intent (natures.Intent state.0 named.0) = record { same_kind = refl; named = right_naming d named.0 named.1 } in
    subst (IsRightNature entity_kinds.Intent) same right
right_nature entity_kinds.Constraint d n is =
    let same : natures.Constraint ≡ n = cc in
    let right : IsRightNature entity_kinds.Constraint natures.Constraint = record { same_kind = refl; named = λ e. let h : ⊥ = cc in h } in
    subst (IsRightNature entity_kinds.Constraint) same right

-- ---- puts

record IsRightPut (kind : Kind) (p : Put) : Type 0 where
  same_kind : entities.kind_of p.nature ≡ kind
  limits : IsPutWithinLimits p

right_put : (kind : Kind) (d : Data) (p : Put) → put_of kind d ≡ Some p → IsRightPut kind p
unfolding put_of url_of
right_put kind d p is =
    let nature = both_steps (nature_of kind d) _ p is in
    let volumes = both_steps (volumes_of d) _ p nature.2 in
    let key = both_steps (key_of kind d) _ p volumes.2 in
    let url = both_steps (url_of d) _ p key.2 in
    let text = both_steps (member_of (codes "uss_base_url") d) (text_in url_fault) url.0 url.1 in
    let n = right_nature kind d nature.0 nature.1 in
    let v = few d volumes.0 volumes.1 in
    let k = few_keys kind d key.0 key.1 in
    let q : Put = record { nature = nature.0; volumes = volumes.0; key = key.0; url = url.0 } in
    let same : q ≡ p = cc in
    let right : IsRightPut kind q = record {
      same_kind = n.same_kind;
      limits = record {
        least = v.least;
        most = v.most;
        cells = v.cells;
        volumes = v.volumes;
        entries = k.entries;
        key = k.key;
        url = text_faultless url_fault text.0 url.0 text.2;
        subscription = n.named;
      };
    } in
    subst (IsRightPut kind) same right

right_sub_put : (d : Data) (p : SubPut) → sub_put_of d ≡ Some p → IsSubPutWithinLimits p
unfolding sub_put_of volume_of url_of
right_sub_put d p is =
    let interest = both_steps (interest_of d) _ p is in
    let volume = both_steps (volume_of d) _ p interest.2 in
    let found = both_steps (member_of (codes "extents") d) volume_in volume.0 volume.1 in
    let url = both_steps (url_of d) _ p volume.2 in
    let text = both_steps (member_of (codes "uss_base_url") d) (text_in url_fault) url.0 url.1 in
    let q : SubPut = record { volume = volume.0; url = url.0; interest = interest.0 } in
    let same : q ≡ p = cc in
    let right : IsSubPutWithinLimits q = record { volume = volume_faultless found.0 volume.0 found.2; url = text_faultless url_fault text.0 url.0 text.2 } in
    subst IsSubPutWithinLimits same right

-- ---- path parameters

new_id : (id : Option ℕ) (n : ℕ) → option_and_then unless_zero id ≡ Some n → n ≢ zero_id
new_id id n is = let read = both_steps id unless_zero n is in not_zero read.0 n read.2

ovn_faultless : (words : Words) (v : List ℕ) → ovn_named words ≡ Some v → ovn_fault v ≡ None
unfolding ovn_named
ovn_faultless words v is =
    let word = both_steps words.second (λ s. without_fault (ovn_fault s) s) v is in
    let none = faultless (ovn_fault word.0) word.0 v word.2 in
    subst (λ (s : List ℕ). ovn_fault s ≡ None) none.1 none.0

supplier_faultless : (words : Words) (uss : List ℕ) → uss_parameter words ≡ Some uss → name_fault uss ≡ None
unfolding uss_parameter
supplier_faultless words uss is =
    let word = both_steps (only_parameter words) (λ s. without_fault (name_fault s) s) uss is in
    let none = faultless (name_fault word.0) word.0 uss word.2 in
    subst (λ (s : List ℕ). name_fault s ≡ None) none.1 none.0

short_there : (o : Option Data) (v : Option (List ℕ)) → if_there short_text_in o ≡ Some v → length (unwrap_or v []) ≤ 128
short_there None None is = omega arith
short_there None (Some v) is = absurd (let h : ⊥ = cc in h)
short_there (Some d) v is =
    let read = mapped (short_text_in d) Some v is in
    let text = both_steps (as_str d) short_text read.0 read.1 in
    let test = passed (nat_le (length text.0) 128) text.0 read.0 text.2 in
    let short : length read.0 ≤ 128 = subst (λ (s : List ℕ). length s ≤ 128) test.1 (leb-true _ _ test.0) in
    subst (λ (w : Option (List ℕ)). length (unwrap_or w []) ≤ 128) read.2 short

short_version : (d : Data) (v : List ℕ) → old_version_of d ≡ Some v → length v ≤ 128
unfolding old_version_of
short_version d v is =
    let version = mapped (optional short_text_in (codes "old_version") d) (λ w. unwrap_or w []) v is in
    subst (λ (s : List ℕ). length s ≤ 128) version.2 (short_there (member_of (codes "old_version") d) version.0 version.1)

-- ---- operations

record IsRightFor (kind : OpKind) (op : Operation) : Type 0 where
  same_kind : kind_of op ≡ Some kind
  limits : IsWithinLimits op

asked_faultless : (words : Words) (d : Data) (r : Region) → query_area words d ≡ Some r → region_fault r ≡ None
unfolding query_area
asked_faultless words d r is =
    let test = let_through (is_query words) (required area_in (codes "area_of_interest") d) r is in
    let found = both_steps (member_of (codes "area_of_interest") d) area_in r test.1 in
    area_faultless found.0 r found.2

right_query : (kind : Kind) (words : Words) (d : Data) (op : Operation) → query_of kind words d ≡ Some op → IsRightFor (kinds.Query kind) op
unfolding query_of
right_query kind words d op is =
    let area = mapped (query_area words d) (Query kind) op is in
    let right : IsRightFor (kinds.Query kind) (Query kind area.0) = record { same_kind = refl; limits = asked_faultless words d area.0 area.1 } in
    subst (IsRightFor (kinds.Query kind)) area.2 right

right_read : (kind : Kind) (words : Words) (op : Operation) → read_of kind words ≡ Some op → IsRightFor (kinds.Read kind) op
unfolding read_of
right_read kind words op is =
    let id = mapped (id_named words) (Read kind) op is in
    let right : IsRightFor (kinds.Read kind) (Read kind id.0) = record { same_kind = refl; limits = tt } in
    subst (IsRightFor (kinds.Read kind)) id.2 right

right_create : (kind : Kind) (words : Words) (d : Data) (op : Operation) → create_of kind words d ≡ Some op → IsRightFor (kinds.Create kind) op
unfolding create_of
right_create kind words d op is =
    let id = both_steps (id_named words) _ op is in
    let put = both_steps (put_of kind d) _ op id.2 in
    let p = right_put kind d put.0 put.1 in
    let same : Create id.0 put.0 ≡ op = cc in
    let right : IsRightFor (kinds.Create kind) (Create id.0 put.0) = record { same_kind = ap (λ k. Some (kinds.Create k)) p.same_kind; limits = p.limits } in
    subst (IsRightFor (kinds.Create kind)) same right

right_update : (kind : Kind) (words : Words) (d : Data) (op : Operation) → update_of kind words d ≡ Some op → IsRightFor (kinds.Update kind) op
unfolding update_of
right_update kind words d op is =
    let id = both_steps (spelled words.first) _ op is in
    let ovn = both_steps (ovn_named words) _ op id.2 in
    let put = both_steps (put_of kind d) _ op ovn.2 in
    let p = right_put kind d put.0 put.1 in
    let same : Update id.0 ovn.0 put.0 ≡ op = cc in
    let right : IsRightFor (kinds.Update kind) (Update id.0 ovn.0 put.0) = record { same_kind = ap (λ k. Some (kinds.Update k)) p.same_kind; limits = (ovn_faultless words ovn.0 ovn.1, p.limits) } in
    subst (IsRightFor (kinds.Update kind)) same right

right_delete : (kind : Kind) (words : Words) (op : Operation) → delete_of kind words ≡ Some op → IsRightFor (kinds.Delete kind) op
unfolding delete_of
right_delete kind words op is =
    let id = both_steps (spelled words.first) _ op is in
    let ovn = both_steps (ovn_named words) _ op id.2 in
    let same : Delete kind id.0 ovn.0 ≡ op = cc in
    let right : IsRightFor (kinds.Delete kind) (Delete kind id.0 ovn.0) = record { same_kind = refl; limits = ovn_faultless words ovn.0 ovn.1 } in
    subst (IsRightFor (kinds.Delete kind)) same right

right_availability : (words : Words) (op : Operation) → availability_read_of words ≡ Some op → IsRightFor kinds.ReadAvail op
unfolding availability_read_of
right_availability words op is =
    let uss = mapped (uss_parameter words) ReadAvail op is in
    let right : IsRightFor kinds.ReadAvail (ReadAvail uss.0) = record { same_kind = refl; limits = supplier_faultless words uss.0 uss.1 } in
    subst (IsRightFor kinds.ReadAvail) uss.2 right

right_setting : (words : Words) (d : Data) (op : Operation) → setting_of words d ≡ Some op → IsRightFor kinds.SetAvail op
unfolding setting_of
right_setting words d op is =
    let uss = both_steps (uss_parameter words) _ op is in
    let availability = both_steps (availability_of d) _ op uss.2 in
    let version = both_steps (old_version_of d) _ op availability.2 in
    let same : SetAvail uss.0 version.0 availability.0 ≡ op = cc in
    let right : IsRightFor kinds.SetAvail (SetAvail uss.0 version.0 availability.0) = record { same_kind = refl; limits = (supplier_faultless words uss.0 uss.1, short_version d version.0 version.1) } in
    subst (IsRightFor kinds.SetAvail) same right

right_sub_query : (words : Words) (d : Data) (op : Operation) → sub_query_of words d ≡ Some op → IsRightFor kinds.QuerySub op
unfolding sub_query_of
right_sub_query words d op is =
    let area = mapped (query_area words d) QuerySub op is in
    let right : IsRightFor kinds.QuerySub (QuerySub area.0) = record { same_kind = refl; limits = asked_faultless words d area.0 area.1 } in
    subst (IsRightFor kinds.QuerySub) area.2 right

right_sub_read : (words : Words) (op : Operation) → sub_read_of words ≡ Some op → IsRightFor kinds.ReadSub op
unfolding sub_read_of
right_sub_read words op is =
    let id = mapped (id_named words) ReadSub op is in
    let right : IsRightFor kinds.ReadSub (ReadSub id.0) = record { same_kind = refl; limits = tt } in
    subst (IsRightFor kinds.ReadSub) id.2 right

right_sub_create : (words : Words) (d : Data) (op : Operation) → sub_create_of words d ≡ Some op → IsRightFor kinds.CreateSub op
unfolding sub_create_of
right_sub_create words d op is =
    let id = both_steps (option_and_then unless_zero (id_named words)) _ op is in
    let put = both_steps (sub_put_of d) _ op id.2 in
    let same : CreateSub id.0 put.0 ≡ op = cc in
    let right : IsRightFor kinds.CreateSub (CreateSub id.0 put.0) = record { same_kind = refl; limits = (new_id (id_named words) id.0 id.1, right_sub_put d put.0 put.1) } in
    subst (IsRightFor kinds.CreateSub) same right

right_sub_update : (words : Words) (d : Data) (op : Operation) → sub_update_of words d ≡ Some op → IsRightFor kinds.UpdateSub op
unfolding sub_update_of
right_sub_update words d op is =
    let id = both_steps (option_and_then unless_zero (spelled words.first)) _ op is in
    let ovn = both_steps (ovn_named words) _ op id.2 in
    let put = both_steps (sub_put_of d) _ op ovn.2 in
    let same : UpdateSub id.0 ovn.0 put.0 ≡ op = cc in
    let right : IsRightFor kinds.UpdateSub (UpdateSub id.0 ovn.0 put.0) = record { same_kind = refl; limits = (new_id (spelled words.first) id.0 id.1, ovn_faultless words ovn.0 ovn.1, right_sub_put d put.0 put.1) } in
    subst (IsRightFor kinds.UpdateSub) same right

right_sub_delete : (words : Words) (op : Operation) → sub_delete_of words ≡ Some op → IsRightFor kinds.DeleteSub op
unfolding sub_delete_of
right_sub_delete words op is =
    let id = both_steps (spelled words.first) _ op is in
    let ovn = both_steps (ovn_named words) _ op id.2 in
    let same : DeleteSub id.0 ovn.0 ≡ op = cc in
    let right : IsRightFor kinds.DeleteSub (DeleteSub id.0 ovn.0) = record { same_kind = refl; limits = ovn_faultless words ovn.0 ovn.1 } in
    subst (IsRightFor kinds.DeleteSub) same right

right_body : (kind : OpKind) (words : Words) (bytes : List ℕ) (op : Operation) → IsBody kind words bytes op → IsRightFor kind op
right_body (kinds.Query kind) words bytes op (d, json, is) = right_query kind words d op is
right_body (kinds.Read kind) words bytes op is = right_read kind words op is
right_body (kinds.Create kind) words bytes op (d, json, is) = right_create kind words d op is
right_body (kinds.Update kind) words bytes op (d, json, is) = right_update kind words d op is
right_body (kinds.Delete kind) words bytes op is = right_delete kind words op is
right_body kinds.ReadAvail words bytes op is = right_availability words op is
right_body kinds.SetAvail words bytes op (d, json, is) = right_setting words d op is
right_body kinds.QuerySub words bytes op (d, json, is) = right_sub_query words d op is
right_body kinds.ReadSub words bytes op is = right_sub_read words op is
right_body kinds.CreateSub words bytes op (d, json, is) = right_sub_create words d op is
right_body kinds.UpdateSub words bytes op (d, json, is) = right_sub_update words d op is
right_body kinds.DeleteSub words bytes op is = right_sub_delete words op is

pub keeps_kind_lem : KeepsKind
keeps_kind_lem kind words bytes op is = (right_body kind words bytes op is).same_kind

pub keeps_limits_lem : KeepsLimits
keeps_limits_lem kind words bytes op is = (right_body kind words bytes op is).limits
