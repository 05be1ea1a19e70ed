-- Lemmas: the airspaces along the one list, and the replies.
use Rattle.std.proofs.Common.{◌≡◌, ℕ, suc, ◌+◌, List, [], ◌∷◌, ◌++◌, length, Some, slice_get, refl, ap, ◌∙◌, arith}
use Rattle.std.specs.Prelude.{Contains}
use Rattle.std.proofs.lemmas.List.{map-append}
use Rattle.std.proofs.lemmas.List.Elements.{Contains-append_right}
use Rattle.entity_core.specs.Airspace.{Airspace}
use Rattle.pool_core.specs.Acts.{Act, act_step, airspace_by}
use Rattle.pool_core.specs.Events.{Batch}
use Rattle.pool_core.specs.OneList.{ListedAct, listed_acts}
use Rattle.pool_core.proofs.Acts.{after_append}
use Rattle.pool_core.proofs.Build.{at_slot, batch_acts, listed_act, upto}
use Rattle.pool_core.proofs.Lists.{contains_head}
use Rattle.pool_core.proofs.Readings.{Reading}

module _ (salt : List ℕ) where
  -- Calls that change nothing.
  pub after_inert : (a : Airspace) (cs : List ListedAct) → ((c : ListedAct) → Contains cs c → (act_step salt a c.act).0 ≡ a) → airspace_by salt a (listed_acts cs) ≡ a
  after_inert a [] h = refl
  after_inert a (c ∷ cs) h =
      ap (λ v. airspace_by salt v (listed_acts cs)) (h c (contains_head c cs)) ∙ after_inert a cs (λ x k. h x (Contains-append_right (c ∷ []) cs x k))

  module _ (acts_of : List ℕ → List Act) (rs : List Reading) (at : ℕ → Airspace) (inert : (n : ℕ) (c : ListedAct) → Contains (at_slot n rs) c → (act_step salt (at n) c.act).0 ≡ at n) where
    -- The airspace behind the calls of the first entries and the readings before them.
    pub upto_state : (k : ℕ) (log : List Batch) → ((n m : ℕ) (b : Batch) → slice_get log n ≡ Some b → m ≡ k + n → airspace_by salt (at m) (acts_of b.bytes) ≡ at (suc m))
        → airspace_by salt (at k) (listed_acts (upto acts_of rs k log)) ≡ at (k + length log)
    upto_state k [] h = let e : k ≡ k + 0 = omega arith in ap at e
    upto_state k (b ∷ log) h =
        let these = at_slot k rs in
        let batch = batch_acts acts_of rs b in
        let rest = upto acts_of rs (suc k) log in
        let e : suc k + length log ≡ k + suc (length log) = omega arith in
        let z : k ≡ k + 0 = omega arith in
        ap (λ v. airspace_by salt (at k) v) (map-append (λ (c : ListedAct). c.act) these (batch ++ rest) ∙ ap (λ v. listed_acts these ++ v) (map-append (λ (c : ListedAct). c.act) batch rest))
        ∙ after_append salt (at k) (listed_acts these) (listed_acts batch ++ listed_acts rest)
        ∙ ap (λ v. airspace_by salt v (listed_acts batch ++ listed_acts rest)) (after_inert (at k) these (inert k))
        ∙ after_append salt (at k) (listed_acts batch) (listed_acts rest)
        ∙ ap (λ v. airspace_by salt (airspace_by salt (at k) v) (listed_acts rest)) (listed_act b.writer b.ids (acts_of b.bytes))
        ∙ ap (λ v. airspace_by salt v (listed_acts rest)) (h 0 k b refl z)
        ∙ upto_state (suc k) log (λ n m x g w. h (suc n) m x g (omega (arith, w)))
        ∙ ap at e
