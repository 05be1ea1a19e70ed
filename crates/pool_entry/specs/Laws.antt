-- Laws of entries.
use Rattle.std.specs.Prelude.{◌≡◌, ◌<◌, ◌≤◌, ◌+◌, ◌^◌, ℕ, List, [], ◌∷◌, length, map, Option, Some}
use Rattle.httparse.specs.Grammar.{RequestHead}
use Rattle.policy_core.specs.declared.call.Call.{Call}
use Rattle.policy_core.specs.declared.scope.Caller.{Caller}
use Rattle.pool_core.specs.Acts.{Purges, makes_all}
use Rattle.token_conf.specs.TokenFile.{Callers}
use Rattle.wire_route.specs.declared.endpoint.Endpoint.{Endpoint}
use Rattle.wire_operation.specs.Asked.{IsCallOf}
use Rattle.wire_operation.specs.Operation.{GivesOperation}
use Rattle.pool_entry.specs.declared.pool_call.PoolCall.{PoolCall}
use Rattle.pool_entry.specs.Spelling.{IsBatch, IsCall, SpellsBatch, SpellsPurge, purge_text}
use Rattle.pool_entry.specs.Acts.{acts_of}
use Rattle.pool_entry.specs.Calls.{operation_of, timed_call, written_for}
use Rattle.pool_entry.specs.declared.limits.TheConstants.{MAX_BYTES}

-- States that no bytes represent two batches.
abbrev pub OneBatch : Type 0
OneBatch = (bytes : List ℕ) (calls others : List PoolCall)
    → SpellsBatch bytes calls → SpellsBatch bytes others → others ≡ calls

-- States that no bytes represent two purges, or a purge and a batch.
pub record OnePurge : Type 0 where
  pub one : (bytes : List ℕ) (until other : ℕ) → SpellsPurge bytes until → SpellsPurge bytes other
      → other ≡ until
  pub apart : (bytes : List ℕ) (until : ℕ) (calls : List PoolCall) → SpellsPurge bytes until
      → SpellsBatch bytes calls → ⊥

-- States that the bytes of a batch represent its calls, in order and each once, and that the bytes
-- of a purge represent it.
pub record WrittenIsRead : Type 0 where
  pub calls : (bytes : List ℕ) (calls : List PoolCall)
      → SpellsBatch bytes calls → acts_of bytes ≡ makes_all (map timed_call calls)
  pub purge : (bytes : List ℕ) (until : ℕ) → SpellsPurge bytes until
      → acts_of bytes ≡ Purges until ∷ []

-- States that bytes that represent neither a batch nor a purge represent no acts.
abbrev pub NoEntryIsNoActs : Type 0
NoEntryIsNoActs = (bytes : List ℕ)
    → ((calls : List PoolCall) → SpellsBatch bytes calls → ⊥)
    → ((until : ℕ) → SpellsPurge bytes until → ⊥) → acts_of bytes ≡ []

-- States that path, method and body of a request give the operation of its call.
abbrev pub GivesItsOperation : Type 0
GivesItsOperation = (path method body : List ℕ)
    → GivesOperation path method body (operation_of path method body)

-- States that every instance makes the call that the writer's request makes, at the writer's time.
abbrev pub MakesWritersCall : Type 0
MakesWritersCall = (callers : Callers) (h : RequestHead) (body : List ℕ)
    (endpoint : Option Endpoint) (call : Call) (caller : Caller) (moment : ℕ)
    → IsCallOf callers h body endpoint call → call.caller ≡ Some caller
    → timed_call (written_for moment caller h body) ≡ (moment, call)

-- States that the call of each request fits in an entry: one with at most 8 KiB of head and 1 MiB
-- of body.
abbrev pub OneCallFits : Type 0
OneCallFits = (c : PoolCall) → IsCall c → length c.method + length c.path ≤ 8192
    → length c.body ≤ 1048576 → IsBatch (c ∷ [])

-- States that each purge fits in an entry.
abbrev pub PurgeFits : Type 0
PurgeFits = (until : ℕ) → until < 2 ^ 64 → length (purge_text until) ≤ MAX_BYTES
