-- The entries of an instance on their way to etcd.
use Rattle.std.specs.Prelude.{◌≡◌, ℕ, List, Option, Some, None, nat_lt, if◌then◌else◌}
use Rattle.std.specs.Str.{bytes_eq}
use Rattle.pool_etcd.specs.declared.etcd_fault.Loss.{Loss}
use Rattle.pool_etcd.specs.declared.etcd_fault.Loss.TheVariants as losses
use Rattle.pool_etcd.specs.declared.own_entries.OwnState.{OwnState}
use Rattle.pool_etcd.specs.declared.own_entries.OwnState.TheVariants.{Unknown, Fencing, Idle, Sending, Settling, Unmade, Lost}
use Rattle.pool_etcd.specs.declared.own_entries.OwnEntries.{OwnEntries}
use Rattle.pool_etcd.specs.declared.own_entries.DuePut.{DuePut}
use Rattle.pool_etcd.specs.declared.response.PutOutcome.{PutOutcome}
use Rattle.pool_etcd.specs.declared.response.PutResponse.{PutResponse}
use Rattle.pool_etcd.specs.declared.response.PutOutcome.TheVariants.{Stored, Refused}
use Rattle.pool_etcd.specs.declared.response.StoredValue.{StoredValue}

-- A put: the value, and the revision that the last change of the key must have.
pub record Put : Type 0 where
  pub value : List ℕ
  pub revision : ℕ

abbrev pub put_of : DuePut → Put
put_of due = record { value = due.value.now; revision = due.revision }

-- The put that is due in a state: the fence, or the value offered last. While a fence settles the
-- outcome of the value, the value is not put again.
abbrev pub due_in : OwnState → List ℕ → List ℕ → Option Put
due_in Unknown fence value = None
due_in (Fencing revision) fence value = Some (record { value = fence; revision = revision })
due_in (Idle revision) fence value = None
due_in (Sending revision) fence value = Some (record { value = value; revision = revision })
due_in (Settling revision) fence value = Some (record { value = fence; revision = revision })
due_in (Unmade revision) fence value = None
due_in Lost fence value = None

abbrev pub due_of : OwnEntries → Option Put
due_of own = due_in own.state own.fence own.value

-- Holds if the state is idle, at some revision.
abbrev pub IsIdle : OwnState → Type 0
IsIdle Unknown = ⊥
IsIdle (Fencing revision) = ⊥
IsIdle (Idle revision) = Unit {0}
IsIdle (Sending revision) = ⊥
IsIdle (Settling revision) = ⊥
IsIdle (Unmade revision) = ⊥
IsIdle Lost = ⊥

-- Holds if a value was taken: it is due where the value before was stored.
abbrev pub Takes : OwnState → OwnState → Type 0
Takes Unknown new = ⊥
Takes (Fencing revision) new = ⊥
Takes (Idle revision) new = new ≡ Sending revision
Takes (Sending revision) new = ⊥
Takes (Settling revision) new = ⊥
Takes (Unmade revision) new = ⊥
Takes Lost new = ⊥

-- The state once the revision of the key is known. It matters only if it was unknown.
abbrev pub after_revision : OwnState → ℕ → OwnState
after_revision Unknown revision = Fencing revision
after_revision (Fencing before) revision = Fencing before
after_revision (Idle before) revision = Idle before
after_revision (Sending before) revision = Sending before
after_revision (Settling before) revision = Settling before
after_revision (Unmade before) revision = Unmade before
after_revision Lost revision = Lost

-- The state once the fence is to settle the outcome of a value, in place of the value, if one is on
-- its way.
abbrev pub after_settle : OwnState → OwnState
after_settle Unknown = Unknown
after_settle (Fencing revision) = Fencing revision
after_settle (Idle revision) = Idle revision
after_settle (Sending revision) = Settling revision
after_settle (Settling revision) = Settling revision
after_settle (Unmade revision) = Unmade revision
after_settle Lost = Lost

-- The revision at which the outcome has the value stored, if it does.
abbrev pub stored_at : List ℕ → PutOutcome → Option ℕ
stored_at value (Stored revision) = Some revision
stored_at value (Refused None) = None
stored_at value (Refused (Some other)) =
    if bytes_eq other.value value then Some other.revision else None

-- Idle where the value was stored, or another state.
abbrev pub idle_or : OwnState → Option ℕ → OwnState
idle_or other None = other
idle_or other (Some revision) = Idle revision

-- Idle at a revision behind another one, or lost.
abbrev pub idle_behind : (revision : ℕ) → Option ℕ → OwnState
idle_behind revision None = Lost
idle_behind revision (Some stored) = if nat_lt revision stored then Idle stored else Lost

-- The state once the fence that settles the outcome of a value was stored or refused. The value
-- follows the last own change, at this revision. If the fence was stored in its place, it is not. If
-- the fence was refused and the key has the value behind that change, the value was stored.
abbrev pub settled_in : (revision : ℕ) (value : List ℕ) → PutOutcome → OwnState
settled_in revision value (Stored place) = Unmade place
settled_in revision value (Refused found) = idle_behind revision (stored_at value (Refused found))

-- The state once the outcome of the put that is due is known. A first fence that was refused is
-- tried again. A value that was refused means that another process writes under the key.
abbrev pub outcome_in : OwnState → List ℕ → List ℕ → PutOutcome → OwnState
outcome_in Unknown fence value outcome = Unknown
outcome_in (Fencing revision) fence value outcome = idle_or Unknown (stored_at fence outcome)
outcome_in (Idle revision) fence value outcome = Idle revision
outcome_in (Sending revision) fence value outcome = idle_or Lost (stored_at value outcome)
outcome_in (Settling revision) fence value outcome = settled_in revision value outcome
outcome_in (Unmade revision) fence value outcome = Unmade revision
outcome_in Lost fence value outcome = Lost

abbrev pub after_outcome : OwnEntries → PutOutcome → OwnState
after_outcome own outcome = outcome_in own.state own.fence own.value outcome

-- The revision of the last own change before a value whose outcome is open.
abbrev pub open_in : OwnState → Option ℕ
open_in Unknown = None
open_in (Fencing revision) = None
open_in (Idle revision) = None
open_in (Sending revision) = Some revision
open_in (Settling revision) = Some revision
open_in (Unmade revision) = None
open_in Lost = None

-- Why the log is lost if the last change of the key is another one than the last own one, at this
-- revision. The own fence in its place shows that a value was not stored. Another later change is of
-- another process.
abbrev pub loss_by : (revision : ℕ) (fence : List ℕ) → StoredValue → Loss
loss_by revision fence other =
    if nat_lt revision other.revision
    then (if bytes_eq other.value fence then losses.Unmade else losses.Replaced)
    else losses.Shortened

-- Why the log is lost, if a put was refused whose key had its last own change at this revision.
-- Without a value, the key was deleted behind the own change, unless the store does not reach it.
abbrev pub loss_of : (revision : ℕ) (fence : List ℕ) (store : ℕ) → PutOutcome → Option Loss
loss_of revision fence store (Stored at) = None
loss_of revision fence store (Refused None) =
    Some (if nat_lt store revision then losses.Shortened else losses.Deleted)
loss_of revision fence store (Refused (Some other)) = Some (loss_by revision fence other)

-- Why the log is lost in a state after the outcome of a put is known, if a value was open before.
abbrev pub loss_in : OwnState → (before : Option ℕ) (fence : List ℕ) → PutResponse → Option Loss
loss_in state None fence response = None
loss_in Unknown (Some revision) fence response = None
loss_in (Fencing other) (Some revision) fence response = None
loss_in (Idle stored) (Some revision) fence response = None
loss_in (Sending other) (Some revision) fence response = None
loss_in (Settling other) (Some revision) fence response = None
loss_in (Unmade place) (Some revision) fence response = Some losses.Unmade
loss_in Lost (Some revision) fence response =
    loss_of revision fence response.store response.outcome

abbrev pub loss_after : OwnEntries → PutResponse → Option Loss
loss_after own response =
    loss_in (after_outcome own response.outcome) (open_in own.state) own.fence response
