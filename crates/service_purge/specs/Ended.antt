-- Entities that have ended are those that the policy denies putting.
use Rattle.std.specs.Prelude.{◌≡◌, ℕ, nat_le, List}
use Rattle.entity_purge.specs.Purge.{have_ended}
use Rattle.policy_core.specs.Policy.{breaks_ended}
use Rattle.policy_core.specs.declared.call.Put.{Put}
use Rattle.policy_core.specs.declared.call.SubPut.{SubPut}
use Rattle.policy_core.specs.declared.call.Operation.TheVariants.{Create, Update, CreateSub, UpdateSub}

-- States that P13 ENDED denies putting at a time exactly what a purge up to that time would delete.
pub record EndedIsRefused : Type 0 where
  pub creation : (now id : ℕ) (put : Put)
      → breaks_ended now (Create id put) ≡ have_ended now put.volumes
  pub update : (now id : ℕ) (ovn : List ℕ) (put : Put)
      → breaks_ended now (Update id ovn put) ≡ have_ended now put.volumes
  pub sub_creation : (now id : ℕ) (put : SubPut)
      → breaks_ended now (CreateSub id put) ≡ nat_le put.volume.time.1 now
  pub sub_update : (now id : ℕ) (version : List ℕ) (put : SubPut)
      → breaks_ended now (UpdateSub id version put) ≡ nat_le put.volume.time.1 now
