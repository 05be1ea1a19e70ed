-- Lemmas: what an instance heard, and the purges that it offered.
use Rattle.std.proofs.Common.{◌≡◌, ◌==◌, ◌≤◌, ◌+◌, ℕ, Bool, true, false, List, [], ◌∷◌, ◌++◌, length, map, Option, Some, sym, ap, subst, ◌∙◌, arith, inl, inr, eq-eqb, length-append}
use Rattle.std.specs.Prelude.{Contains}
use Rattle.std.proofs.lemmas.List.{append-nil}
use Rattle.std.proofs.lemmas.List.Elements.{Contains-append_left}
use Rattle.std.proofs.lemmas.Option.{IfSome_then}
use Rattle.pool_core.specs.Acts.{Act, Makes, Purges}
use Rattle.pool_core.specs.Events.{Batch, Gets, InstanceEvent, Offers, batches_offered, entries_given}
use Rattle.pool_core.specs.Log.{LogEntry}
use Rattle.pool_core.proofs.Lists.{contains_at, contains_one, contains_same, heads, prefixes, tails}
use Rattle.pool_core.proofs.Projections.{given_append, offered_append}
use Rattle.pool_entry.specs.Acts.{acts_of}
use Rattle.pool_instance.specs.Effects.{HearsEntry, IsLastTime}
use Rattle.pool_instance.specs.Purging.{AreAgreed, HasHeard, IsAgreed, IsHeard}
use Rattle.pool_instance.specs.Request.{call_of}
use Rattle.pool_instance.specs.declared.waiting.Held.{Held}
use Rattle.pool_instance.proofs.Times.{both, image_of}

-- ---- what was heard

pub heard_more : (me : ℕ) (events more : List InstanceEvent) (time : ℕ) → HasHeard me events time → HasHeard me (events ++ more) time
heard_more me events more time h = record {
  entry = h.entry;
  given =
      contains_same (entries_given (events ++ more)) (entries_given events ++ entries_given more) h.entry (given_append events more)
      (Contains-append_left (entries_given events) (entries_given more) h.entry h.given);
  other = h.other;
  timed = h.timed;
  makes = h.makes;
  at = h.at;
}

-- The instance heard nothing more.
pub still_heard : (me : ℕ) (events more : List InstanceEvent) (old new : Option ℕ) → new ≡ old → IsHeard me events old → IsHeard me (events ++ more) new
still_heard me events more old new same h =
    subst (λ (v : Option ℕ). IsHeard me (events ++ more) v) (sym same) (IfSome_then old h (λ time k. heard_more me events more time k))

-- The instance heard a call of an entry of another instance.
entry_heard : (me : ℕ) (events more : List InstanceEvent) (entry : LogEntry) (last : Option ℕ) → (entry.writer ≡ me → ⊥) → IsLastTime (acts_of entry.bytes) last → IsHeard me (events ++ Gets entry ∷ more) last
entry_heard me events more entry last other h = IfSome_then last h (λ time k. record {
  entry = entry;
  given =
      contains_same (entries_given (events ++ Gets entry ∷ more)) (entries_given events ++ entry ∷ entries_given more) entry (given_append events (Gets entry ∷ more))
      (contains_at (entries_given events) entry (entries_given more));
  other = other;
  timed = k.0;
  makes = k.1;
  at = k.2;
})

pub hears_then : (b : Bool) (me : ℕ) (events more : List InstanceEvent) (entry : LogEntry) (old new : Option ℕ) → (entry.writer == me) ≡ b → HearsEntry b (acts_of entry.bytes) old new → IsHeard me events old
    → IsHeard me (events ++ Gets entry ∷ more) new
hears_then true me events more entry old new is hears h = still_heard me events (Gets entry ∷ more) old new hears h
hears_then false me events more entry old new is hears h = elim hears [
  | inl same ↦ still_heard me events (Gets entry ∷ more) old new same h
  | inr last ↦ entry_heard me events more entry new (λ e. both (entry.writer == me) (eq-eqb entry.writer me e) is) last
]

-- ---- purges that were offered

-- Holds if each purge that more events offer was agreed then.
abbrev pub AreAgreedThen : (retention : Option ℕ) (me : ℕ) → (events more : List InstanceEvent) → Type 0
AreAgreedThen retention me events more =
    (mid later : List InstanceEvent) (ids bytes : List ℕ) (until : ℕ) → more ≡ mid ++ Offers ids bytes ∷ later → Contains (acts_of bytes) (Purges until)
    → IsAgreed retention me (events ++ mid) until

agreed_case : (retention : Option ℕ) (me : ℕ) (events more earlier later : List InstanceEvent) (ids bytes : List ℕ) (until : ℕ) → AreAgreed retention me events → AreAgreedThen retention me events more → Contains (acts_of bytes) (Purges until)
    → (r : List InstanceEvent) → events ≡ earlier ++ r → Offers ids bytes ∷ later ≡ r ++ more → IsAgreed retention me earlier until
agreed_case retention me events more earlier later ids bytes until old new c [] e h =
    subst (λ (v : List InstanceEvent). IsAgreed retention me v until) (append-nil events ∙ e ∙ append-nil earlier) (new [] later ids bytes until (sym h) c)
agreed_case retention me events more earlier later ids bytes until old new c (x ∷ r) e h =
    old earlier r ids bytes until (e ∙ ap (λ (v : InstanceEvent). earlier ++ v ∷ r) (sym (heads (Offers ids bytes) x later (r ++ more) h))) c

pub agreed_append : (retention : Option ℕ) (me : ℕ) (events more : List InstanceEvent) → AreAgreed retention me events → AreAgreedThen retention me events more → AreAgreed retention me (events ++ more)
agreed_append retention me events more old new earlier later ids bytes until e c = elim (prefixes events more earlier (Offers ids bytes ∷ later) e) [
  | inl u ↦ subst (λ (v : List InstanceEvent). IsAgreed retention me v until) (sym u.1) (new u.0 later ids bytes until u.2 c)
  | inr u ↦ agreed_case retention me events more earlier later ids bytes until old new c u.0 u.1 u.2
]

-- No batch was offered.
pub none_agreed : (retention : Option ℕ) (me : ℕ) (events more : List InstanceEvent) → batches_offered me more ≡ [] → AreAgreedThen retention me events more
none_agreed retention me events more none mid later ids bytes until e c =
    let batch : Batch = record { writer = me; ids = ids; bytes = bytes } in
    let one : batches_offered me mid ++ batch ∷ batches_offered me later ≡ [] =
    sym (offered_append me mid (Offers ids bytes ∷ later)) ∙ ap (λ (v : List InstanceEvent). batches_offered me v) (sym e) ∙ none in
    absurd (omega (arith, ap (λ (v : List Batch). length v) one, length-append (batches_offered me mid) (batch ∷ batches_offered me later)))

pub nothing_behind : (mid : List InstanceEvent) (x : InstanceEvent) (later : List InstanceEvent) → [] ≡ mid ++ x ∷ later → ⊥
nothing_behind [] x later h = cc
nothing_behind (y ∷ mid) x later h = cc

same_bytes : (ids bytes others those : List ℕ) → Offers ids bytes ≡ Offers others those → bytes ≡ those
same_bytes ids bytes others those h = cc

one_case : (retention : Option ℕ) (me : ℕ) (events : List InstanceEvent) (ids bytes : List ℕ) → ((until : ℕ) → Contains (acts_of bytes) (Purges until) → IsAgreed retention me events until)
    → (mid later : List InstanceEvent) (others those : List ℕ) (until : ℕ) → Offers ids bytes ∷ [] ≡ mid ++ Offers others those ∷ later → Contains (acts_of those) (Purges until) → IsAgreed retention me (events ++ mid) until
one_case retention me events ids bytes agreed [] later others those until e c =
    let same : bytes ≡ those = same_bytes ids bytes others those (heads (Offers ids bytes) (Offers others those) [] later e) in
    subst (λ (v : List InstanceEvent). IsAgreed retention me v until) (sym (append-nil events)) (agreed until (subst (λ (v : List ℕ). Contains (acts_of v) (Purges until)) (sym same) c))
one_case retention me events ids bytes agreed (x ∷ mid) later others those until e c =
    absurd (nothing_behind mid (Offers others those) later (tails (Offers ids bytes) x [] (mid ++ Offers others those ∷ later) e))

-- One batch or purge was offered.
pub one_agreed : (retention : Option ℕ) (me : ℕ) (events : List InstanceEvent) (ids bytes : List ℕ) → ((until : ℕ) → Contains (acts_of bytes) (Purges until) → IsAgreed retention me events until) → AreAgreedThen retention me events (Offers ids bytes ∷ [])
one_agreed retention me events ids bytes agreed mid later others those until e c = one_case retention me events ids bytes agreed mid later others those until e c

call_is_no_purge : (now until : ℕ) (h : Held) → Makes (now, call_of h.request) ≡ Purges until → ⊥
call_is_no_purge now until h e = cc

-- A batch has no purge.
pub batch_agreed : (retention : Option ℕ) (me : ℕ) (events : List InstanceEvent) (ids bytes : List ℕ) (now : ℕ) (hs : List Held) → acts_of bytes ≡ map (λ (h : Held). Makes (now, call_of h.request)) hs → AreAgreedThen retention me events (Offers ids bytes ∷ [])
batch_agreed retention me events ids bytes now hs acts =
    one_agreed retention me events ids bytes (λ until c.
    let o = image_of (λ (h : Held). Makes (now, call_of h.request)) hs (Purges until) (subst (λ (v : List Act). Contains v (Purges until)) acts c) in
    absurd (call_is_no_purge now until o.one o.same))

same_end : (until other : ℕ) → Purges until ≡ Purges other → until ≡ other
same_end until other h = cc

-- A purge keeps the retention by the time that the instance heard.
pub purge_agreed : (retention heard : Option ℕ) (me : ℕ) (events : List InstanceEvent) (ids bytes : List ℕ) (until seconds time : ℕ) → acts_of bytes ≡ Purges until ∷ [] → retention ≡ Some seconds → heard ≡ Some time → until + seconds ≤ time
    → IsHeard me events heard → AreAgreedThen retention me events (Offers ids bytes ∷ [])
purge_agreed retention heard me events ids bytes until seconds time acts retained last past h =
    one_agreed retention me events ids bytes (λ other c.
    let same : until ≡ other = same_end until other (contains_one (Purges until) (Purges other) (subst (λ (v : List Act). Contains v (Purges other)) acts c)) in
    subst (λ (v : ℕ). IsAgreed retention me events v) same
    (record { seconds = seconds; retained = retained; time = time; heard = subst (λ (v : Option ℕ). IsHeard me events v) last h; past = past }))
