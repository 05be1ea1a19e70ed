-- Lemmas: a pool of two instances that answer, and one in which an instance purges.
use Rattle.std.proofs.Common.{◌≡◌, ◌==◌, ℕ, ◌+◌, ◌≤◌, Bool, true, false, cond, List, [], ◌∷◌, ◌++◌, slice_get, refl, sym, ap, subst, arith}
use Rattle.std.specs.Prelude.{Contains}
use Rattle.entity_core.specs.Airspace.{Airspace}
use Rattle.policy_core.specs.declared.call.Call.{Call}
use Rattle.service_step.specs.declared.reply.Reply.{Reply}
use Rattle.service_step.specs.Step.{step}
use Rattle.service_calls.specs.Run.{TimedCall}
use Rattle.pool_core.specs.Acts.{Act, Makes, Purges, act_step, airspace_by, replies_by}
use Rattle.pool_core.specs.Atomic.{Accepts, AtomicLog, Gives, Happens, PoolCanAnswer, PoolCanPurge, Starts, Tells}
use Rattle.pool_core.specs.Events.{AfterFirst, Answers, AsksForEnd, Batch, Gets, InPlace, InstanceEvent, LearnsEnd, Offers, PoolEvent, Receives, events_at}
use Rattle.pool_core.specs.Log.{LogEntry}
use Rattle.pool_core.specs.Serves.{AreOpen, ServesPool}
use Rattle.pool_core.proofs.Lists.{contains_head, contains_none}
use Rattle.pool_core.proofs.Projections.{event_of}

bit_fits : (b : Bool) → 0 + cond b 1 0 ≤ 1
bit_fits true = omega arith
bit_fits false = omega arith

pub is_open : (call : Call) (more : List InstanceEvent) → Contains (Receives 1 call ∷ more) (Receives 1 call)
is_open call more = contains_head (Receives 1 call) more

-- The first instance writes an entry of one act. The second one answers a reading after it.
module _ (acts_of : List ℕ → List Act) (salt : List ℕ) (start : Airspace) (bytes : List ℕ) (act : Act) (read : TimedCall) (spells : acts_of bytes ≡ act ∷ []) where
  abbrev pub entry : LogEntry
  entry = record { writer = 1; bytes = bytes }

  abbrev pub batch : List ℕ → Batch
  batch ids = record { writer = 1; ids = ids; bytes = bytes }

  abbrev pub middle : Airspace
  middle = (act_step salt start act).0

  abbrev pub second : Airspace × Reply
  second = step salt middle read.0 read.1

  abbrev pub one_offers : List ℕ → PoolEvent
  one_offers ids = event_of 1 (Offers ids bytes)

  abbrev pub one_gets : PoolEvent
  one_gets = event_of 1 (Gets entry)

  abbrev pub two_receives : PoolEvent
  two_receives = event_of 2 (Receives 1 read.1)

  abbrev pub two_asks : PoolEvent
  two_asks = event_of 2 (AsksForEnd 7)

  abbrev pub two_learns : PoolEvent
  two_learns = event_of 2 (LearnsEnd 7 1)

  abbrev pub two_gets : PoolEvent
  two_gets = event_of 2 (Gets entry)

  abbrev pub two_answers : PoolEvent
  two_answers = event_of 2 (Answers 1 (AfterFirst 1 read) second.1)

  abbrev pub by_two : List PoolEvent
  by_two = two_receives ∷ two_asks ∷ two_learns ∷ two_gets ∷ two_answers ∷ []

  two_serves : second.0 ≡ middle → ServesPool acts_of salt start 2 (events_at 2 by_two)
  two_serves inert = (
    λ other h. contains_none (Receives 1 other) h,
    (
      tt,
      (
        tt,
        (
          tt,
          (
            (
              record { received = is_open read.1 (AsksForEnd 7 ∷ LearnsEnd 7 1 ∷ Gets entry ∷ []); unended = refl },
              record {
                unoffered = refl;
                given = omega arith;
                end = record { earlier = []; waiting = []; asking = []; later = Gets entry ∷ []; question = 7; end = 1; events = refl; reached = omega arith };
                is_policy = subst (λ v. step salt (airspace_by salt start (v ++ [])) read.0 read.1 ≡ (airspace_by salt start (v ++ []), second.1)) (sym spells) (ap (λ (v : Airspace). (v, second.1)) inert);
              },
            ),
            tt,
          ),
        ),
      ),
    ),
  )

-- ---- a call

module _ (acts_of : List ℕ → List Act) (salt : List ℕ) (start : Airspace) (bytes : List ℕ) (timed read : TimedCall) (spells : acts_of bytes ≡ Makes timed ∷ []) where
  abbrev pub make : Act
  make = Makes timed

  abbrev pub one_receives : PoolEvent
  one_receives = event_of 1 (Receives 1 timed.1)

  abbrev pub one_answers : PoolEvent
  one_answers = event_of 1 (Answers 1 InPlace (step salt start timed.0 timed.1).1)

  abbrev pub calls_by_one : List PoolEvent
  calls_by_one = one_receives ∷ one_offers acts_of salt start bytes make read spells (1 ∷ []) ∷ one_gets acts_of salt start bytes make read spells ∷ one_answers ∷ []

  abbrev pub calls : List PoolEvent
  calls = calls_by_one ++ by_two acts_of salt start bytes make read spells

  abbrev pub called : Batch
  called = batch acts_of salt start bytes make read spells (1 ∷ [])

  calls_atomic : AtomicLog calls (called ∷ [])
  calls_atomic =
      let offers = one_offers acts_of salt start bytes make read spells (1 ∷ []) in
      let gets = one_gets acts_of salt start bytes make read spells in
      let receives = two_receives acts_of salt start bytes make read spells in
      let asks = two_asks acts_of salt start bytes make read spells in
      let learns = two_learns acts_of salt start bytes make read spells in
      let also_gets = two_gets acts_of salt start bytes make read spells in
      let answers = two_answers acts_of salt start bytes make read spells in
      let offered = Happens (one_receives ∷ []) [] offers tt (Happens [] [] one_receives tt Starts) in
      let accepted = Accepts (one_receives ∷ offers ∷ []) [] called [] refl offered in
      let given = Gives (one_receives ∷ offers ∷ []) (called ∷ []) 1 called refl accepted in
      let answered = Happens (one_receives ∷ offers ∷ gets ∷ []) (called ∷ []) one_answers tt given in
      let received = Happens calls_by_one (called ∷ []) receives tt answered in
      let asked = Happens (calls_by_one ++ receives ∷ []) (called ∷ []) asks tt received in
      let told = Tells (calls_by_one ++ receives ∷ asks ∷ []) (called ∷ []) 2 7 asked in
      let also = Gives (calls_by_one ++ receives ∷ asks ∷ learns ∷ []) (called ∷ []) 2 called refl told in
      Happens (calls_by_one ++ receives ∷ asks ∷ learns ∷ also_gets ∷ []) (called ∷ []) answers tt also

  pub one_calls : ServesPool acts_of salt start 1 (events_at 1 calls)
  one_calls = (
    λ other h. contains_none (Receives 1 other) h,
    (
      record {
        calls = subst (λ v. AreOpen (Receives 1 timed.1 ∷ []) (1 ∷ []) v) (sym spells) (record { received = is_open timed.1 []; unended = refl }, tt);
        once = λ id. bit_fits (id == 1);
      },
      (
        tt,
        (
          (
            (timed.1, record { received = is_open timed.1 (Offers (1 ∷ []) bytes ∷ Gets (entry acts_of salt start bytes make read spells) ∷ []); unended = refl }),
            record {
              index = 0;
              entry = entry acts_of salt start bytes make read spells;
              given = refl;
              own = refl;
              batch = called;
              offered = refl;
              position = 0;
              asked = refl;
              is_policy = ap (λ v. slice_get (replies_by salt start (v ++ [])) 0) spells;
            },
          ),
          tt,
        ),
      ),
    ),
  )

pub pool_answers : PoolCanAnswer
pool_answers acts_of salt start bytes timed read spells inert = (
  calls acts_of salt start bytes timed read spells,
  (called acts_of salt start bytes timed read spells ∷ [], calls_atomic acts_of salt start bytes timed read spells),
  one_calls acts_of salt start bytes timed read spells,
  two_serves acts_of salt start bytes (Makes timed) read spells inert,
  (3, omega arith, refl),
  (8, omega arith, refl),
)

-- ---- a purge

module _ (acts_of : List ℕ → List Act) (salt : List ℕ) (start : Airspace) (bytes : List ℕ) (until : ℕ) (read : TimedCall) (spells : acts_of bytes ≡ Purges until ∷ []) where
  abbrev purge : Act
  purge = Purges until

  abbrev purges_by_one : List PoolEvent
  purges_by_one = one_offers acts_of salt start bytes purge read spells [] ∷ one_gets acts_of salt start bytes purge read spells ∷ []

  abbrev purges : List PoolEvent
  purges = purges_by_one ++ by_two acts_of salt start bytes purge read spells

  abbrev written : Batch
  written = batch acts_of salt start bytes purge read spells []

  purges_atomic : AtomicLog purges (written ∷ [])
  purges_atomic =
      let offers = one_offers acts_of salt start bytes purge read spells [] in
      let receives = two_receives acts_of salt start bytes purge read spells in
      let asks = two_asks acts_of salt start bytes purge read spells in
      let learns = two_learns acts_of salt start bytes purge read spells in
      let also_gets = two_gets acts_of salt start bytes purge read spells in
      let answers = two_answers acts_of salt start bytes purge read spells in
      let accepted = Accepts (offers ∷ []) [] written [] refl (Happens [] [] offers tt Starts) in
      let given = Gives (offers ∷ []) (written ∷ []) 1 written refl accepted in
      let received = Happens purges_by_one (written ∷ []) receives tt given in
      let asked = Happens (purges_by_one ++ receives ∷ []) (written ∷ []) asks tt received in
      let told = Tells (purges_by_one ++ receives ∷ asks ∷ []) (written ∷ []) 2 7 asked in
      let also = Gives (purges_by_one ++ receives ∷ asks ∷ learns ∷ []) (written ∷ []) 2 written refl told in
      Happens (purges_by_one ++ receives ∷ asks ∷ learns ∷ also_gets ∷ []) (written ∷ []) answers tt also

  one_purges : ServesPool acts_of salt start 1 (events_at 1 purges)
  one_purges = (
    record {
      calls = subst (λ v. AreOpen [] [] v) (sym spells) tt;
      once = λ id. omega arith;
    },
    (tt, tt),
  )

pub pool_purges : PoolCanPurge
pool_purges acts_of salt start bytes until read spells inert = (
  purges acts_of salt start bytes until read spells,
  (written acts_of salt start bytes until read spells ∷ [], purges_atomic acts_of salt start bytes until read spells),
  one_purges acts_of salt start bytes until read spells,
  two_serves acts_of salt start bytes (Purges until) read spells inert,
  (0, omega arith, refl),
  (6, omega arith, refl),
)
