-- Segments, batches and calls that begin with a call, a commit or a purge.
use Rattle.std.proofs.Common.{◌≡◌, ◌∙◌, ℕ, List, [], ◌∷◌, ◌++◌, map, Result, Err, refl, sym, ap, subst, append_assoc, append-nil}
use Rattle.std.specs.List.{flat_map}
use Rattle.service_calls.specs.declared.service.Service.{Service}
use Rattle.service_calls.specs.Batches.{Batch, CallRecord, CalledInOrder, IsCommitted, MadeBatches, delivered_reply, replies_delivered, uncommitted}
use Rattle.service_calls.specs.Purged.{MadeSegments, PurgesOnce, Segment, all_delivered_in}
use Rattle.service_step.specs.declared.reply.Reply.{Reply}
use Rattle.space_core.specs.declared.group_commit.GroupCommit as commits
use Rattle.space_core.specs.declared.space.Space as spaces
use Rattle.space_core.specs.declared.space.SpaceFault.{SpaceFault}
use Rattle.space_core.specs.declared.space.SpaceFault.TheVariants.{Unchanged}
use Rattle.database_backend.specs.Batches.{Act, Commits, Sweeps, acts_of_batch, acts_of_calls, acts_of_segment}

-- A cut without its events.
pub record Chain {S : Type 0} (g : spaces.Ghosts S) (k : commits.Ghosts S) (old new : Service S) : Type 0 where
  pub segments : List Segment
  pub batches : List Batch
  pub calls : List CallRecord
  pub last : Service S
  pub committed : Service S
  pub segments_made : MadeSegments g k old segments last
  pub made : MadeBatches g k last batches committed
  pub calls_made : CalledInOrder g k committed calls new

-- What follows the calls of an open batch: nothing, or its commit and a chain.
pub data Next {S : Type 0} (g : spaces.Ghosts S) (k : commits.Ghosts S) (called new : Service S) : Type 0 where
  Stays : (same : new ≡ called) → Next g k called new
  Goes : (outcome : Result (Unit {0}) SpaceFault) → (end : Service S) → (is : IsCommitted g k called end outcome) → (chain : Chain g k end new) → Next g k called new

-- The calls of an open batch, and what follows them.
pub record Rest {S : Type 0} (g : spaces.Ghosts S) (k : commits.Ghosts S) (old new : Service S) : Type 0 where
  pub calls : List CallRecord
  pub called : Service S
  pub made : CalledInOrder g k old calls called
  pub next : Next g k called new

-- The acts and the delivered replies of segments, and of the batches and calls after them.
abbrev pub acts_in : List Segment → List Batch → List CallRecord → List Act
acts_in segments batches calls = flat_map acts_of_segment segments ++ (flat_map acts_of_batch batches ++ acts_of_calls calls)

abbrev pub delivered_in : List Segment → List Batch → List CallRecord → List Reply
delivered_in segments batches calls = all_delivered_in segments (batches ++ uncommitted calls ∷ [])

module _ {S : Type 0} (g : spaces.Ghosts S) (k : commits.Ghosts S) where
  abbrev pub acts_of_next : (called new : Service S) → Next g k called new → List Act
  acts_of_next called new (Stays same) = []
  acts_of_next called new (Goes outcome end is c) = Commits outcome ∷ acts_in c.segments c.batches c.calls

  abbrev pub outcome_of_next : (called new : Service S) → Next g k called new → Result (Unit {0}) SpaceFault
  outcome_of_next called new (Stays same) = Err Unchanged
  outcome_of_next called new (Goes outcome end is c) = outcome

  abbrev pub delivered_of_next : (called new : Service S) → Next g k called new → List Reply
  delivered_of_next called new (Stays same) = []
  delivered_of_next called new (Goes outcome end is c) = delivered_in c.segments c.batches c.calls

  -- Holds if nothing was called after the last commit.
  abbrev pub IsCommittedNext : (called new : Service S) → Next g k called new → Type 0
  IsCommittedNext called new (Stays same) = ⊥
  IsCommittedNext called new (Goes outcome end is c) = c.calls ≡ []

  -- A chain with these acts and replies.
  pub record ChainOf (old new : Service S) (acts : List Act) (delivered : List Reply) : Type 0 where
    pub chain : Chain g k old new
    pub acts_are : acts_in chain.segments chain.batches chain.calls ≡ acts
    pub delivered_are : delivered_in chain.segments chain.batches chain.calls ≡ delivered

  -- A batch before segments, batches and calls.
  pub record Joined (b : Batch) (segments : List Segment) (batches : List Batch) (calls : List CallRecord) (old new : Service S) : Type 0 where
    pub it : ChainOf old new (acts_of_batch b ++ acts_in segments batches calls) (replies_delivered b ++ delivered_in segments batches calls)
    pub calls_are : it.chain.calls ≡ calls

  joined : (b : Batch) (old called end new last committed : Service S) (segments : List Segment) (batches : List Batch) (calls : List CallRecord)
      → CalledInOrder g k old b.calls called → IsCommitted g k called end b.settled → MadeSegments g k end segments last
      → MadeBatches g k last batches committed → CalledInOrder g k committed calls new → Joined b segments batches calls old new
  joined b old called end new last committed [] batches calls p q s m c = record {
    it = record {
      chain = record {
        segments = [];
        batches = b ∷ batches;
        calls = calls;
        last = old;
        committed = committed;
        segments_made = refl;
        made = (called, end, p, q, subst (λ (v : Service S). MadeBatches g k v batches committed) s m);
        calls_made = c;
      };
      acts_are = append_assoc (acts_of_batch b) (flat_map acts_of_batch batches) (acts_of_calls calls);
      delivered_are = refl;
    };
    calls_are = refl;
  }
  joined b old called end new last committed (x ∷ xs) batches calls p q s m c =
      let ab = acts_of_batch b in
      let fx = flat_map acts_of_batch x.batches in
      let sw : List Act = Sweeps x.until ∷ [] in
      let fxs = flat_map acts_of_segment xs in
      let t = flat_map acts_of_batch batches ++ acts_of_calls calls in
      record {
        it = record {
          chain = record {
            segments = record { batches = b ∷ x.batches; until = x.until } ∷ xs;
            batches = batches;
            calls = calls;
            last = last;
            committed = committed;
            segments_made = (s.0, s.1, (called, end, p, q, s.2), s.3, s.4);
            made = m;
            calls_made = c;
          };
          acts_are = ap (λ v. (v ++ fxs) ++ t) (append_assoc ab fx sw) ∙ ap (λ v. v ++ t) (append_assoc ab (fx ++ sw) fxs)
              ∙ append_assoc ab ((fx ++ sw) ++ fxs) t;
          delivered_are = append_assoc (replies_delivered b) (flat_map replies_delivered x.batches) (all_delivered_in xs (batches ++ uncommitted calls ∷ []));
        };
        calls_are = refl;
      }

  -- The calls of an open batch, and what follows them, as a chain.
  pub record Closed (called new : Service S) (calls : List CallRecord) (next : Next g k called new) (old : Service S) : Type 0 where
    pub it : ChainOf old new (acts_of_calls calls ++ acts_of_next called new next)
        (map (λ made. delivered_reply (outcome_of_next called new next) made) calls ++ delivered_of_next called new next)
    pub ends : IsCommittedNext called new next → it.chain.calls ≡ []

  pub closed : (old called new : Service S) (calls : List CallRecord) → CalledInOrder g k old calls called → (next : Next g k called new)
      → Closed called new calls next old
  closed old called new calls made (Stays same) = record {
    it = record {
      chain = record {
        segments = [];
        batches = [];
        calls = calls;
        last = old;
        committed = old;
        segments_made = refl;
        made = refl;
        calls_made = subst (λ (v : Service S). CalledInOrder g k old calls v) (sym same) made;
      };
      acts_are = sym (append-nil (acts_of_calls calls));
      delivered_are = refl;
    };
    ends = λ no. absurd no;
  }
  closed old called new calls made (Goes outcome end is c) =
      let b : Batch = record { calls = calls; settled = outcome } in
      let j = joined b old called end new c.last c.committed c.segments c.batches c.calls made is c.segments_made c.made c.calls_made in
      record {
        it = record {
          chain = j.it.chain;
          acts_are = j.it.acts_are ∙ append_assoc (acts_of_calls calls) (Commits outcome ∷ []) (acts_in c.segments c.batches c.calls);
          delivered_are = j.it.delivered_are;
        };
        ends = λ none. j.calls_are ∙ none;
      }

  -- A purge before a chain.
  abbrev pub purged_before : (until : ℕ) (old mid new : Service S) → PurgesOnce g k until old mid → (c : Chain g k mid new) → Chain g k old new
  purged_before until old mid new purged c = record {
    segments = record { batches = []; until = until } ∷ c.segments;
    batches = c.batches;
    calls = c.calls;
    last = c.last;
    committed = c.committed;
    segments_made = (old, mid, refl, purged, c.segments_made);
    made = c.made;
    calls_made = c.calls_made;
  }
