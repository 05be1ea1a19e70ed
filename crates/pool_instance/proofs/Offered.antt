-- Lemmas: what an offer of the first changes does, and one of a purge.
use Rattle.std.proofs.Common.{◌≡◌, ◌==◌, ℕ, zero, suc, ◌+◌, ◌<◌, ◌≤◌, false, true, List, [], ◌∷◌, length, map, take, drop, Option, Some, None, Ok, refl, sym, ap, subst, ◌∙◌, arith}
use Rattle.std.specs.Prelude.{is_some}
use Rattle.std.specs.Global.{Vec}
use Rattle.std.proofs.lemmas.List.{take-append-drop}
use Rattle.space_core.specs.declared.space.Space as spaces
use Rattle.pool_core.specs.Acts.{Makes, Purges, makes_all}
use Rattle.pool_core.specs.Log.{TakesBatch}
use Rattle.pool_core.specs.declared.log.Log as logs
use Rattle.pool_entry.specs.Acts.{acts_of}
use Rattle.pool_core.specs.Serves.{AreOpen}
use Rattle.pool_entry.specs.Spelling.{SpellsBatch, SpellsPurge}
use Rattle.pool_entry.proofs.Entries.{written_is_read_lem}
use Rattle.pool_instance.specs.Does.{OfferedSo, OffersFirst, PurgeOfferedSo}
use Rattle.pool_instance.specs.Lists.{AreWritten, IsFirstBatch}
use Rattle.pool_instance.specs.Parts.{heard_in, log_of, readings_in, retention_in, sent_by, unsent_in}
use Rattle.pool_instance.specs.Request.{call_of}
use Rattle.pool_instance.specs.State.{AreOfBatch}
use Rattle.pool_instance.specs.declared.instance.Instance.{Instance}
use Rattle.pool_instance.specs.declared.requests.Draft.{Draft}
use Rattle.pool_instance.specs.declared.waiting.Held.{Held}
use Rattle.pool_instance.proofs.Agreed.{batch_agreed, purge_agreed}
use Rattle.pool_instance.proofs.Batch.{written_calls}
use Rattle.pool_instance.proofs.Did.{Kept}
use Rattle.pool_instance.proofs.Ends.{calls_open, slots_of}
use Rattle.pool_instance.proofs.Entries.{did_offer, offer_flight, slots_of_batch}
use Rattle.pool_instance.proofs.Pending.{id_of_held}

pub some_waits : (n : ℕ) → false ≡ (n == 0) → 0 < n
some_waits zero h = absurd cc
some_waits (suc n) h = omega arith

pub none_flies : {X : Type 0} (o : Option X) → is_some o ≡ false → o ≡ None
none_flies None h = refl
none_flies (Some x) h = absurd cc

makes_each : (now : ℕ) (hs : List Held) → makes_all (map (λ (h : Held). (now, call_of h.request)) hs) ≡ map (λ (h : Held). Makes (now, call_of h.request)) hs
makes_each now [] = refl
makes_each now (h ∷ hs) = ap (λ v. Makes (now, call_of h.request) ∷ v) (makes_each now hs)

-- The bytes of a first batch represent the calls of its requests.
first_calls : (now : ℕ) (hs : List Held) (draft : Draft) (n : ℕ) (bytes : List ℕ) → IsFirstBatch now hs draft → SpellsBatch bytes draft.batch → n ≡ length draft.sent.items
    → acts_of bytes ≡ map (λ (h : Held). Makes (now, call_of h.request)) (take n hs)
first_calls now hs draft n bytes first spells count =
    written_is_read_lem.calls bytes draft.batch spells ∙ ap makes_all (written_calls now (take n hs) draft.batch (subst (λ (v : ℕ). AreWritten now (take v hs) draft.batch) (sym count) first.calls))
    ∙ makes_each now (take n hs)

first_numbers : (now : ℕ) (hs : List Held) (draft : Draft) (n : ℕ) → IsFirstBatch now hs draft → n ≡ length draft.sent.items → draft.sent.items ≡ slots_of (take n hs)
first_numbers now hs draft n first count = first.numbers ∙ ap (λ (v : ℕ). slots_of (take v hs)) (sym count)

module _ {L S : Type 0} (gl : logs.Ghosts L) (gs : spaces.Ghosts S) where
  -- A first batch has as many requests as have room.
  offers_first : (now : ℕ) (hs : List Held) (draft : Draft) (n : ℕ) (bytes : List ℕ) → IsFirstBatch now hs draft → SpellsBatch bytes draft.batch → n ≡ length draft.sent.items → 0 < length hs → OffersFirst gl gs now hs n bytes
  offers_first now hs draft n bytes first spells count waits = record {
    calls = first_calls now hs draft n bytes first spells count;
    some = omega (arith, count, first.some waits);
    most = λ written are fits. count ∙ first.most written (subst (λ (v : ℕ). AreWritten now (take (v + 1) hs) written) count are) fits;
  }

  module _ (old new : Instance L S) (now : ℕ) (draft : Draft) (bytes : List ℕ) (first : IsFirstBatch now (unsent_in old) draft) (spells : SpellsBatch bytes draft.batch)
      (waits : 0 < length (unsent_in old)) (k : Kept gl gs old new (TakesBatch bytes ∷ [])) (none : old.in_flight ≡ None) (some : new.in_flight ≡ Some draft.sent)
      (same : readings_in new ≡ readings_in old) (received : new.received ≡ old.received) where
    -- The instance offered the first changes.
    pub offered_first : (n : ℕ) → n ≡ length draft.sent.items → unsent_in new ≡ drop n (unsent_in old) → OfferedSo gl gs now old new (Ok n)
    offered_first zero count rest = absurd (omega (arith, count, first.some waits))
    offered_first (suc n) count rest =
        let hs = unsent_in old in
        let front = take (suc n) hs in
        let numbers = first_numbers now hs draft (suc n) first count in (
          bytes,
          did_offer gl gs old new front (drop (suc n) hs) bytes k (sym (take-append-drop (suc n) hs)) rest same received none
              (λ events held. subst (λ v. AreOpen events (map id_of_held front) v) (sym (first_calls now hs draft (suc n) bytes first spells count)) (calls_open events front now held))
              (ap (λ v. sent_by v) some ∙ numbers)
              (λ events h. offer_flight (gl.writer (log_of old)) events (map id_of_held front) bytes old.in_flight new.in_flight draft.sent none some
              (subst (λ (v : List (Option ℕ)). AreOfBatch v (map id_of_held front)) (sym numbers) (slots_of_batch front)) h)
              (λ events h. batch_agreed (retention_in old) (gl.writer (log_of old)) events (map id_of_held front) bytes now front (first_calls now hs draft (suc n) bytes first spells count)),
          offers_first now hs draft (suc n) bytes first spells count waits,
        )

  -- Holds if a purge up to a time keeps the retention by both clocks.
  abbrev IsDue : (now until : ℕ) → Instance L S → Type 0
  IsDue now until x = (seconds : ℕ) × ((time : ℕ)
      × (retention_in x ≡ Some seconds) × (heard_in x ≡ Some time)
      × (until + seconds ≤ now) × (until + seconds ≤ time))

  -- The instance offered a purge.
  pub offered_purge : (old new : Instance L S) (now until : ℕ) (bytes : List ℕ) (sent : Vec (Option ℕ)) → IsDue now until old → SpellsPurge bytes until → Kept gl gs old new (TakesBatch bytes ∷ []) → old.in_flight ≡ None → new.in_flight ≡ Some sent → sent.items ≡ []
      → readings_in new ≡ readings_in old → unsent_in new ≡ unsent_in old → new.received ≡ old.received → PurgeOfferedSo gl gs now old new (Ok true)
  offered_purge old new now until bytes sent due spells k none some empty rs hs received =
      let acts : acts_of bytes ≡ Purges until ∷ [] = written_is_read_lem.purge bytes until spells in (
        bytes,
        did_offer gl gs old new [] (unsent_in old) bytes k refl hs rs received none
            (λ events held. subst (λ v. AreOpen events [] v) (sym acts) tt)
            (ap (λ v. sent_by v) some ∙ empty)
            (λ events h. offer_flight (gl.writer (log_of old)) events [] bytes old.in_flight new.in_flight sent none some (subst (λ (v : List (Option ℕ)). AreOfBatch v []) (sym empty) tt) h)
            (λ events h. purge_agreed (retention_in old) (heard_in old) (gl.writer (log_of old)) events [] bytes until due.0 due.1.0 acts due.1.1 due.1.2 due.1.4 h),
        record { until = until; acts = acts; seconds = due.0; retained = due.1.1; past = due.1.3 },
      )
