-- Proofs about testing a connection with a text without a statement, which it rejects without a
-- change.
use Rattle.std.specs.Prelude.{◌≡◌, Option, Some, None, IsSome, List, [], Result, Ok, Err, ℕ, OnOk, refl}
use Rattle.std.proofs.Common.{inl, inr, ap, subst, sym, ◌∙◌}
use Rattle.sqlite_tied.specs.Compute.{everything}
use Rattle.sqlite_schema.specs.declared.command.Returning.{Returning}
use Rattle.sqlite_schema.specs.declared.schema.Schema.{Schema}
use Rattle.sqlite_resolve.specs.declared.compiled.Compiled.{Compiled}
use Rattle.sqlite_resolve.specs.declared.error.CompileError.{CompileError}
use Rattle.sqlite_trees.specs.Tree.{Trees}
use Rattle.sqlite_trees.specs.declared.error.StoreError.{StoreError}
use Rattle.sqlite_trees.specs.declared.error.StoreError.TheVariants.{OutOfMemory, Io, Corrupt, Full, Broken, Unstorable}
use Rattle.sqlite_value.specs.Order.{Row}
use Rattle.sqlite.specs.declared.error.Error.{Error}
use Rattle.sqlite.specs.declared.error.Error.TheVariants.{InvalidQuery}
use Rattle.sqlite.specs.Listing.{understood}
use Rattle.sqlite.specs.State.{State, CommitsShowing, FailsToQuery, FailsToShow, IsNotRun, IsUnchanged, QueriesRow, store_error}

returning_of : Result Compiled CompileError → Option Returning
returning_of (Ok c) = c.returning
returning_of (Err e) = None

-- No schema makes it a statement that returns rows.
shows_none : (schema : Schema) → returning_of (understood schema []) ≡ None
unfolding understood everything returning_of
shows_none schema = refl

none_is_not_some : {X : Type 0} (o : Option X) → o ≡ None → IsSome o → ⊥
none_is_not_some None e h = cc
none_is_not_some (Some x) e h = cc

pub commits_none : (s : State) (db : Trees) → CommitsShowing [] [] s db → ⊥
unfolding CommitsShowing returning_of
commits_none s db h = none_is_not_some h.0.returning (sym (ap returning_of h.1.is) ∙ shows_none s.now.schema) h.2

not_of_store : (cause : StoreError) → InvalidQuery ≡ store_error cause → ⊥
not_of_store OutOfMemory e = cc
not_of_store Io e = cc
not_of_store Corrupt e = cc
not_of_store Full e = cc
not_of_store Broken e = cc
not_of_store Unstorable e = cc

not_run : (old new : State) (sql : List ℕ) (params : Row) → IsNotRun old new sql params InvalidQuery → IsUnchanged old new
unfolding IsNotRun
not_run old new sql params (inl it) = it.1
not_run old new sql params (inr it) = absurd (not_of_store it.0 it.1)

not_shown : (old new : State) (sql : List ℕ) (c : Compiled) (params : Row) (what : Option Returning) → FailsToShow old new sql c params InvalidQuery what → IsUnchanged old new
not_shown old new sql c params None h = h.3
not_shown old new sql c params (Some what) (inl it) = it.1
not_shown old new sql c params (Some what) (inr it) = absurd (not_of_store it.0 it.1)

pub refused_is_same : (old new : State) (sql : List ℕ) (params : Row) → QueriesRow sql params old new (Err InvalidQuery) → IsUnchanged old new
unfolding QueriesRow FailsToQuery
refused_is_same old new sql params (inl (inl it)) = not_run old new sql params it
refused_is_same old new sql params (inl (inr it)) = not_shown old new sql it.0 _ it.0.returning it.2
refused_is_same old new sql params (inr it) = absurd (let e = it.0 in cc)

pub alive_is_same : {X : Type 0} (old new : State) (r : Result X Error) (told : Result Row Error) → OnOk r (told ≡ Err InvalidQuery) → QueriesRow [] [] old new told → OnOk r (IsUnchanged old new)
alive_is_same old new (Ok x) told is h = refused_is_same old new [] [] (subst (λ q. QueriesRow [] [] old new q) is h)
alive_is_same old new (Err e) told is h = tt
