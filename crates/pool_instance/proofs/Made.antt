-- Lemmas: replies that are all those of the policy, and acts.
use Rattle.std.proofs.Common.{◌≡◌, ◌+◌, ℕ, zero, suc, Bool, true, false, List, [], ◌∷◌, ◌++◌, length, map, take, Option, Some, None, slice_get, get_or, refl, sym, ap, subst, ◌∙◌, arith}
use Rattle.std.specs.Prelude.{All, Contains, ◌<◌, if◌then◌else◌}
use Rattle.std.proofs.lemmas.List.{append-nil, take_more}
use Rattle.std.proofs.lemmas.List.Elements.{All-head, All-nil, All-push, All-tail}
use Rattle.space_core.specs.Space.{IsContent}
use Rattle.space_core.specs.declared.space.Space.{Ghosts}
use Rattle.service_step.specs.declared.reply.Reply.{Reply}
use Rattle.service_step.specs.declared.reply.Reply.TheVariants.{Done, Denied, Fault, Stopped}
use Rattle.service_step.specs.Step.{IsDoneOrDenied}
use Rattle.service_calls.specs.Held.{is_shut, salt_of, space_of}
use Rattle.service_calls.specs.Run.{Answered, AskedInOrder, IsReplyTo, TimedCall, airspace_after, answered_calls, delivered_replies, has_stopped, replies_of}
use Rattle.service_calls.specs.declared.service.Service.{Service}
use Rattle.service_calls.proofs.Runs.{answered, asked_more}
use Rattle.entity_core.specs.Airspace.{Airspace}
use Rattle.pool_core.specs.Acts.{Act, Makes, Purges, makes_all}
use Rattle.pool_core.proofs.Acts.{calls_are_acts}
use Rattle.pool_core.proofs.Lists.{contains_get}
use Rattle.pool_core.specs.Purging.{Keeps, PurgesAll}
use Rattle.pool_core.proofs.Purges.{keeps_stays}
use Rattle.pool_instance.specs.Lists.{DidActs, DidKeeping}
use Rattle.pool_instance.proofs.Times.{image_in}

deliver_one : (r : Reply) (rs : List Reply) → IsDoneOrDenied r → delivered_replies (r ∷ rs) ≡ r ∷ delivered_replies rs
deliver_one (Done x) rs h = refl
deliver_one (Denied p m) rs h = refl
deliver_one Fault rs h = absurd h
deliver_one Stopped rs h = absurd h

answer_one : (c : TimedCall) (cs : List TimedCall) (r : Reply) (rs : List Reply) → IsDoneOrDenied r → answered_calls (c ∷ cs) (r ∷ rs) ≡ c ∷ answered_calls cs rs
answer_one c cs (Done x) rs h = refl
answer_one c cs (Denied p m) rs h = refl
answer_one c cs Fault rs h = absurd h
answer_one c cs Stopped rs h = absurd h

go_one : (r : Reply) (rs : List Reply) → IsDoneOrDenied r → has_stopped (r ∷ rs) ≡ has_stopped rs
go_one (Done x) rs h = refl
go_one (Denied p m) rs h = refl
go_one Fault rs h = absurd h
go_one Stopped rs h = absurd h

delivered : (rs : List Reply) → All IsDoneOrDenied rs → delivered_replies rs ≡ rs
delivered [] h = refl
delivered (r ∷ rs) h = deliver_one r rs (All-head IsDoneOrDenied r rs h) ∙ ap (λ v. r ∷ v) (delivered rs (All-tail IsDoneOrDenied r rs h))

none_stopped : (rs : List Reply) → All IsDoneOrDenied rs → has_stopped rs ≡ false
none_stopped [] h = refl
none_stopped (r ∷ rs) h = go_one r rs (All-head IsDoneOrDenied r rs h) ∙ none_stopped rs (All-tail IsDoneOrDenied r rs h)

all_answered : (cs : List TimedCall) (rs : List Reply) → length rs ≡ length cs → All IsDoneOrDenied rs → answered_calls cs rs ≡ cs
all_answered [] rs e h = refl
all_answered (c ∷ cs) [] e h = absurd (omega (arith, e))
all_answered (c ∷ cs) (r ∷ rs) e h = answer_one c cs r rs (All-head IsDoneOrDenied r rs h) ∙ ap (λ v. c ∷ v) (all_answered cs rs (omega (arith, e)) (All-tail IsDoneOrDenied r rs h))

-- ---- calls

pub made_calls : {S : Type 0} (g : Ghosts S) (old new : Service S) (cs : List TimedCall) (rs : List Reply) → Answered g old cs rs new → All IsDoneOrDenied rs → is_shut old ≡ false → DidActs g (makes_all cs) old new rs
made_calls g old new cs rs a all goes =
    let same : answered_calls cs rs ≡ cs = all_answered cs rs a.one_each all in
    record {
      goes = a.shuts goes ∙ none_stopped rs all;
      made = λ sound b content.
          let r = a.runs goes sound b content in
          let told : rs ≡ replies_of (salt_of old) b cs = sym (delivered rs all) ∙ r.replies ∙ ap (λ (v : List TimedCall). replies_of (salt_of old) b v) same in (
            record {
              others = [];
              none = λ k x lt. absurd (omega (arith, lt));
              are = calls_are_acts.replies (salt_of old) b cs ∙ ap (λ (v : List Reply). map (λ r. Some r) v) (sym told) ∙ sym (append-nil (map (λ r. Some r) rs));
            },
            subst (λ (v : Airspace). IsContent g.holds (space_of new) v) (sym (calls_are_acts.airspace (salt_of old) b cs))
                (subst (λ (v : List TimedCall). IsContent g.holds (space_of new) (airspace_after (salt_of old) b v)) same (r.whole (none_stopped rs all))),
          );
    }

-- ---- replies that are kept

keep_next : (b : Bool) (r : Reply) (rs kept kept' : List Reply) → kept ≡ (if b then rs else []) → (b ≡ true → kept' ≡ kept ++ r ∷ []) → (b ≡ false → kept' ≡ kept) → kept' ≡ (if b then rs ++ r ∷ [] else [])
keep_next true r rs kept kept' h own other = own refl ∙ ap (λ (v : List Reply). v ++ r ∷ []) h
keep_next false r rs kept kept' h own other = other refl ∙ h

no_replies : (b : Bool) (kept : List Reply) → kept ≡ [] → kept ≡ (if b then [] else [])
no_replies true kept h = h
no_replies false kept h = h

module _ {S : Type 0} (g : Ghosts S) (is_own : Bool) where
  -- Holds if the service made these calls, and kept these of the replies, which are all of the policy.
  pub record KeptSome (old : Service S) (calls : List TimedCall) (new : Service S) (kept : List Reply) : Type 0 where
    pub replies : List Reply
    pub asked : AskedInOrder g old calls replies new
    pub final : All IsDoneOrDenied replies
    pub keeps : kept ≡ (if is_own then replies else [])

  pub kept_none : (old : Service S) (kept : List Reply) → kept ≡ [] → KeptSome old [] old kept
  kept_none old kept none = record { replies = []; asked = refl; final = All-nil IsDoneOrDenied; keeps = no_replies is_own kept none }

  pub kept_made : (old : Service S) (calls : List TimedCall) (new : Service S) (kept : List Reply) → KeptSome old calls new kept → DidKeeping g is_own (makes_all calls) old new kept
  kept_made old calls new kept k = record {
    replies = k.replies;
    did = λ goes. made_calls g old new calls k.replies (answered g old calls k.replies new k.asked) k.final goes;
    keeps = k.keeps;
  }

  pub kept_stays : (old : Service S) (calls : List TimedCall) (new : Service S) (kept : List Reply) → KeptSome old calls new kept → Keeps g old new
  kept_stays old calls new kept k = keeps_stays g old new (answered g old calls k.replies new k.asked).stays

  module _ (old : Service S) (calls : List TimedCall) (n : ℕ) (mid new : Service S) (kept : List Reply) (k : KeptSome old (take n calls) mid kept)
      (c : TimedCall) (there : n < length calls) (is : c ≡ get_or calls n c) (r : Reply) (reply : IsReplyTo g mid new c.0 c.1 r) where
    one_more : take (n + 1) calls ≡ take n calls ++ c ∷ []
    one_more = take_more calls n c there ∙ ap (λ (v : TimedCall). take n calls ++ v ∷ []) (sym is)

    asked_next : AskedInOrder g old (take n calls ++ c ∷ []) (k.replies ++ r ∷ []) new
    asked_next = asked_more g old (take n calls) k.replies mid new c r k.asked reply

    -- Also a call that failed left what a service keeps.
    pub stays_next : Keeps g old new
    stays_next = keeps_stays g old new (answered g old (take n calls ++ c ∷ []) (k.replies ++ r ∷ []) new asked_next).stays

    pub kept_next : IsDoneOrDenied r → (kept' : List Reply) → (is_own ≡ true → kept' ≡ kept ++ r ∷ []) → (is_own ≡ false → kept' ≡ kept) → KeptSome old (take (n + 1) calls) new kept'
    kept_next final kept' own other = record {
      replies = k.replies ++ r ∷ [];
      asked = subst (λ (v : List TimedCall). AskedInOrder g old v (k.replies ++ r ∷ []) new) (sym one_more) asked_next;
      final = All-push IsDoneOrDenied k.replies r k.final final;
      keeps = keep_next is_own r k.replies kept kept' k.keeps own other;
    }

pub acts_keeping : {S : Type 0} (g : Ghosts S) (is_own : Bool) (xs ys : List Act) (old new : Service S) (kept : List Reply) → xs ≡ ys → DidKeeping g is_own xs old new kept → DidKeeping g is_own ys old new kept
acts_keeping g is_own xs ys old new kept e did = subst (λ (v : List Act). DidKeeping g is_own v old new kept) e did

-- The call at a place of a list is among the acts that make these calls.
pub made_at : (calls : List TimedCall) (n : ℕ) (timed : TimedCall) → Some timed ≡ slice_get calls n → Contains (makes_all calls) (Makes timed)
made_at calls n timed h = image_in (λ (v : TimedCall). Makes v) calls timed (contains_get calls n timed (sym h))

-- ---- a purge

none_one : All (λ (o : Option Reply). o ≡ None) (None ∷ [])
none_one zero o lt = refl
none_one (suc k) o lt = absurd (omega (arith, lt))

pub did_purge : {S : Type 0} (g : Ghosts S) (until : ℕ) (old new : Service S) → PurgesAll g until old new → DidActs g (Purges until ∷ []) old new []
did_purge g until old new all = record {
  goes = all.goes;
  made = λ sound a content. (
    record { others = None ∷ []; none = none_one; are = refl },
    all.content sound a content,
  );
}

pub purge_keeping : {S : Type 0} (g : Ghosts S) (is_own : Bool) (until : ℕ) (old new : Service S) (kept : List Reply) → kept ≡ [] → (is_shut old ≡ false → PurgesAll g until old new) → DidKeeping g is_own (Purges until ∷ []) old new kept
purge_keeping g is_own until old new kept none all = record { replies = []; did = λ goes. did_purge g until old new (all goes); keeps = no_replies is_own kept none }
