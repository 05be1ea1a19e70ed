-- A space that enforces a quota for each USS.
use Rattle.std.specs.Prelude.{◌≡◌, ℕ, ◌+◌, ◌*◌, ◌≤◌, Bool, true, false, List, Option, Some, None, Result, min, ◌⊎◌, refl}
use Rattle.std.specs.Coded.{Coded, code_by, coded×, coded_ℕ, coded_bool}
use Rattle.entity_purge.specs.PurgeItem.{without_items}
use Rattle.entity_purge.specs.declared.purge_item.PurgeItem.{PurgeItem}
use Rattle.space_core.specs.declared.space.Change.{Change}
use Rattle.space_core.specs.declared.space.Change.TheVariants.{Put, Remove, Avail, PutSub, RemoveSub}
use Rattle.space_core.specs.declared.space.Space.{Ghosts}
use Rattle.space_core.specs.declared.space.SpaceFault.{SpaceFault}
use Rattle.space_core.specs.Space.{Changes, ReportsFault, changed, max_count}
use Rattle.space_quota.specs.declared.usage.Usage.{Usage}

-- ---- usage

-- The quota of cells, given the quota of entities and subscriptions.
abbrev pub max_cells : ℕ → ℕ
max_cells most = most * 64

-- Holds if a count is at most its quota or at most its previous value.
abbrev pub IsWithinQuota : ℕ → ℕ → ℕ → Type 0
IsWithinQuota most before after = (after ≤ most) ⊎ (after ≤ before)

-- Holds if each count is at most its quota or at most its previous value.
pub record IsWithin (most : ℕ) (before after : Usage) : Type 0 where
  pub things : IsWithinQuota most before.things after.things
  pub cells : IsWithinQuota (max_cells most) before.cells after.cells

-- ---- the space

-- The model of a space with quotas in contracts.
pub record QuotaModel (S : Type 0) : Type 0 where
  pub space : S
  -- The number of `Unchanged` results for changes and purges that were not passed to the inner
  -- space.
  pub over : ℕ
  pub is_bounded : Bool

abbrev pub quota_model : {S : Type 0} → S → ℕ → Bool → QuotaModel S
quota_model space over is_bounded = record { space = space; over = over; is_bounded = is_bounded }

abbrev pub bound_code : {S : Type 0} → Coded S → Coded (QuotaModel S)
bound_code {S} space =
    code_by (S × (ℕ × Bool))
    (coded× space (coded× coded_ℕ coded_bool))
    (λ k. (k.space, (k.over, k.is_bounded)))
    (λ p. record { space = p.0; over = p.1.0; is_bounded = p.1.1 }) (λ _. refl)

abbrev pub is_some : {X : Type 0} → Option X → Bool
is_some (Some x) = true
is_some None = false

-- The number of `Unchanged` results: those of the inner space plus its own.
abbrev pub refusals_in : {S : Type 0} → Ghosts S → QuotaModel S → ℕ
refusals_in g s = min (g.refusals s.space + s.over) max_count

-- Holds for changes that put an entity or a subscription.
abbrev pub IsPut : Change → Type 0
IsPut (Put e) = Unit {0}
IsPut (Remove kind id) = ⊥
IsPut (Avail uss availability version) = ⊥
IsPut (PutSub s) = Unit {0}
IsPut (RemoveSub id) = ⊥

-- Holds if a call that changes has its results and effects. The quota itself fails only puts.
pub record Applying {S T : Type 0} (g : Ghosts S) (old new : QuotaModel S) (change : Change)
    (told : List ℕ) (result : Result T SpaceFault) : Type 0 where
  pub fixed : g.fixed new.space ≡ g.fixed old.space
  pub tells : ReportsFault (refusals_in g old) (refusals_in g new)
      (g.is_broken old.space) (g.is_broken new.space) result
  pub changes : Changes (λ s a. g.holds s.space a) (λ s. g.is_sound s.space)
      (λ s. g.is_whole s.space) (g.is_broken old.space) old new result (changed change told)
  pub unbounded : old.is_bounded ≡ false → new.over ≡ old.over
  pub puts : ¬ IsPut change → new.over ≡ old.over

-- Holds if a purge has its results and effects.
pub record QuotaPurgeEffect {S T : Type 0} (g : Ghosts S) (old new : QuotaModel S) (items : List PurgeItem)
    (result : Result T SpaceFault) : Type 0 where
  pub tells : ReportsFault (refusals_in g old) (refusals_in g new)
      (g.is_broken old.space) (g.is_broken new.space) result
  pub changes : Changes (λ s a. g.holds s.space a) (λ s. g.is_sound s.space)
      (λ s. g.is_whole s.space) (g.is_broken old.space) old new result (without_items items)
