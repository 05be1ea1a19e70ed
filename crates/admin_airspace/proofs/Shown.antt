-- The admin port shows an entity by its extents and its reference.
use Rattle.std.proofs.Common.{◌≡◌, ℕ, ◌+◌, ◌<◌, List, [], ◌∷◌, ◌++◌, codes, Result, Ok, Err, ap, ap₂, ◌∙◌, sym, refl, subst, length, get_or, map, take}
use Rattle.std.specs.Prelude.{IfOk}
use Rattle.std.proofs.lemmas.List.{map_push, map_more}
use Rattle.entity_core.specs.declared.subscription.Sub.{Sub}
use Rattle.admin_airspace.specs.Page.{AreShown, IsEntityShown, IsSubShown, present_of, sub_members}
use Rattle.entity_maps.specs.declared.availabilities.AvailabilityEntry.{AvailabilityEntry}
use Rattle.entity_core.specs.Entity.{kind_of}
use Rattle.entity_core.specs.declared.availability.Availability.{Availability}
use Rattle.entity_core.specs.declared.entity.Entity.{Entity}
use Rattle.serde_json.specs.Data.{Data, no_members, object, put}
use Rattle.serde_json.specs.View.{view}
use Rattle.serde_json.specs.declared.value.Value.{Value}
use Rattle.wire_reply.specs.Built.{reference_data}
use Rattle.wire_reply.specs.Reference.{reference_name}
use Rattle.admin_airspace.specs.Reference.{IsShownAs, shown_of}

pub shown_as : {E : Type 0} (r : Result Value E) (e : Entity) (a : Availability) (extents reference : Data) (name : List ℕ)
    → name ≡ reference_name (kind_of e.nature) → reference ≡ reference_data (shown_of e a)
    → IfOk r (λ v. view v ≡ object (put name reference (put (codes "extents") extents no_members)))
    → IfOk r (λ v. IsShownAs e a (view v))
shown_as (Ok v) e a extents reference name named spelled same =
    (extents, same ∙ ap₂ (λ n r. object (put n r (put (codes "extents") extents no_members))) named spelled)
shown_as (Err x) e a extents reference name named spelled same = tt

pub sub_shown : {E : Type 0} (r : Result Value E) (s : Sub) (a : Availability) (extents : Data)
    → IfOk r (λ v. view v ≡ object (sub_members s a extents))
    → IfOk r (λ v. (x : Data) × (view v ≡ object (sub_members s a x)))
sub_shown (Ok v) s a extents same = (extents, same)
sub_shown (Err x) s a extents same = tt

-- ---- lists of values

-- One more value.
pub shown_more : {X : Type 0} (Shows : X → Data → Type 0) (xs : List X) (ds : List Data) (x : X) (d : Data)
    → AreShown Shows xs ds → Shows x d → AreShown Shows (xs ++ x ∷ []) (ds ++ d ∷ [])
shown_more Shows [] [] x d all one = (one, tt)
shown_more Shows [] (e ∷ ds) x d all one = absurd all
shown_more Shows (y ∷ xs) [] x d all one = absurd all
shown_more Shows (y ∷ xs) (e ∷ ds) x d all one = (all.0, shown_more Shows xs ds x d all.1 one)

-- The next item of a list, and a value for it.
pub shown_next : {R X : Type 0} (Shows : X → Data → Type 0) (now : R → X) (rs : List R) (i : ℕ) (r : R) (vs : List Value) (v : Value)
    → i < length rs → r ≡ get_or rs i r → AreShown Shows (map now (take i rs)) (map view vs) → Shows (now r) (view v)
    → AreShown Shows (map now (take (i + 1) rs)) (map view (vs ++ v ∷ []))
shown_next Shows now rs i r vs v below is all one =
    subst (λ xs. AreShown Shows xs (map view (vs ++ v ∷ [])))
    (sym (map_more now rs i r below ∙ ap (λ e. map now (take i rs) ++ now e ∷ []) (sym is)))
    (subst (λ ds. AreShown Shows (map now (take i rs) ++ now r ∷ []) ds) (sym (map_push view vs v))
    (shown_more Shows (map now (take i rs)) (map view vs) (now r) (view v) all one))

-- An entity with the availability that was found.
pub entity_shown_by : (settings : List AvailabilityEntry) (e : Entity) (a : Availability) (d : Data)
    → a ≡ present_of settings e.manager → IsShownAs e a d → IsEntityShown settings e d
entity_shown_by settings e a d is shown = subst (λ b. IsShownAs e b d) is shown

pub sub_shown_by : (settings : List AvailabilityEntry) (s : Sub) (a : Availability) (d : Data)
    → a ≡ present_of settings s.manager → (x : Data) × (d ≡ object (sub_members s a x)) → IsSubShown settings s d
sub_shown_by settings s a d is shown = subst (λ b. (x : Data) × (d ≡ object (sub_members s b x))) is shown
