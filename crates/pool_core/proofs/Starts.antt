-- Lemmas: a new instance that is given the first entries at once.
use Rattle.std.proofs.Common.{◌≡◌, ℕ, List, [], ◌∷◌, ◌++◌, length, map, take, drop, Some, slice_get, refl, sym, ap, subst, ◌∙◌, append_assoc, arith, length-append}
use Rattle.std.proofs.lemmas.List.{append-nil, take-append-drop}
use Rattle.pool_core.specs.Events.{Batch, Gets, PoolEvent, entries_given, events_at}
use Rattle.pool_core.specs.Pool.{count_given, entry_of_batch}
use Rattle.pool_core.specs.Starts.{MayStartBehind, gets_of}
use Rattle.pool_core.proofs.Atomic.{Shares, get_untold, gives_one, shares_more}
use Rattle.pool_core.proofs.Lists.{get_at}
use Rattle.pool_core.proofs.Projections.{at_append, at_own, event_of, given_append}

given_these : (i : ℕ) (batches : List Batch) → entries_given (events_at i (gets_of i batches)) ≡ map entry_of_batch batches
given_these i [] = refl
given_these i (b ∷ batches) = ap (λ v. entries_given v) (at_own i (Gets (entry_of_batch b)) (gets_of i batches)) ∙ ap (λ v. entry_of_batch b ∷ v) (given_these i batches)

given_with : (i : ℕ) (events : List PoolEvent) (batches : List Batch) → entries_given (events_at i (events ++ gets_of i batches)) ≡ entries_given (events_at i events) ++ map entry_of_batch batches
given_with i events batches =
    ap (λ v. entries_given v) (at_append i events (gets_of i batches)) ∙ given_append (events_at i events) (events_at i (gets_of i batches))
    ∙ ap (λ v. entries_given (events_at i events) ++ v) (given_these i batches)

gives_all : (i : ℕ) (events : List PoolEvent) (log front batches back : List Batch) → Shares events log → log ≡ front ++ (batches ++ back) → count_given i events ≡ length front → Shares (events ++ gets_of i batches) log
gives_all i events log front [] back s split count = subst (λ (v : List PoolEvent). Shares v log) (sym (append-nil events)) s
gives_all i events log front (b ∷ batches) back s split count =
    let e = event_of i (Gets (entry_of_batch b)) in
    let there : slice_get log (count_given i events) ≡ Some b = ap (λ n. slice_get log n) count ∙ ap (λ v. slice_get v (length front)) split ∙ get_at front b (batches ++ back) in
    let one = shares_more events log e s (get_untold i (entry_of_batch b) log) (λ j. gives_one j i events log b s there) in
    let long : count_given i (events ++ e ∷ []) ≡ length (front ++ b ∷ []) =
    omega (arith, ap (λ v. length v) (given_with i events (b ∷ [])), length-append (entries_given (events_at i events)) (entry_of_batch b ∷ []), length-append front (b ∷ []), count) in
    subst (λ (v : List PoolEvent). Shares v log) (append_assoc events (e ∷ []) (gets_of i batches))
    (gives_all i (events ++ e ∷ []) log (front ++ b ∷ []) batches back one (split ∙ sym (append_assoc front (b ∷ []) (batches ++ back))) long)

pub may_start_behind : MayStartBehind
may_start_behind events pool i count none le =
    let these = take count pool.log in
    let shares : Shares events pool.log = record { one = pool.one; own = pool.own; caused = pool.caused; end = pool.end; within = pool.within } in
    let new : count_given i events ≡ 0 = ap (λ v. length (entries_given v)) none in
    let s = gives_all i events pool.log [] these (drop count pool.log) shares (sym (take-append-drop count pool.log)) new in (
      record { log = pool.log; one = s.one; own = s.own; caused = s.caused; end = s.end; within = s.within },
      refl,
      given_with i events these ∙ ap (λ v. entries_given v ++ map entry_of_batch these) none,
    )
