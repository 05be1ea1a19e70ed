-- Every entity found under a key has that key. All of it is proved. It is in `specs/` because a law
-- of an `impl` can cite only `specs/`.
use Rattle.std.specs.Prelude.{◌≡◌, true, false, List, [], ◌∷◌, Some, cond, refl}
use Rattle.std.proofs.Common.{sym, ap, ◌∙◌}
use Rattle.std.proofs.lemmas.Option.{same_Some}
use Rattle.std.specs.Ordering.{eq_by_cmp}
use Rattle.std.specs.FinMap as maps
use Rattle.entity_core.specs.Airspace.{EntityKey, key_cmp, key_of}
use Rattle.entity_core.specs.declared.entity.Entity.{Entity}
use Rattle.entity_core.proofs.Keys.{one_key}
use Rattle.entity_maps.specs.Entities.{pair_of}
use Rattle.entity_maps.specs.Sorted.{keyed}

pub own_key : (es : List Entity) (k : EntityKey) (x : Entity) → maps.find key_cmp k (keyed pair_of es) ≡ Some x → key_of x ≡ k
own_key [] k x h = cc
own_key (e ∷ es) k x h =
    elim (eq_by_cmp key_cmp k (key_of e)) as (λ b. eq_by_cmp key_cmp k (key_of e) ≡ b → cond b (Some e) (maps.find key_cmp k (keyed pair_of es)) ≡ Some x → key_of x ≡ k) [
      | true ↦ λ t s. ap key_of (sym (same_Some e x s)) ∙ sym (one_key k (key_of e) t)
      | false ↦ λ t s. own_key es k x s
    ] refl h
