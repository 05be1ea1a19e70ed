-- Lemmas: a call that is forward-looking from a time is forward-looking from each earlier time.
use Rattle.std.specs.Prelude.{◌≡◌, ℕ, ◌≤◌, ◌&&◌, not, nat_lt, Bool, true, false, List, [], ◌∷◌, ◌++◌, Option, Some, None, refl}
use Rattle.std.proofs.Common.{arith, sym, ap, ◌∙◌}
use Rattle.std.specs.FinMap.{get}
use Rattle.grid_core.specs.Extent.{Region}
use Rattle.entity_core.specs.Airspace.{Airspace, Entities}
use Rattle.entity_core.specs.declared.subscription.Sub.{Sub}
use Rattle.entity_purge.specs.Purge.{is_due_for_purge, has_ended, is_referenced_in, retained}
use Rattle.entity_purge.proofs.Maps.{apart, kept_was}
use Rattle.entity_purge.proofs.Purges.{ended_later, found_staying, gone_unnamed, named_by_one, staying_join, sub_ended_later, who_names}
use Rattle.policy_core.specs.declared.call.Call.{Call}
use Rattle.service_step.specs.Step.{step}
use Rattle.service_calls.specs.Run.{TimedCall, airspace_after}
use Rattle.service_purge.specs.Ahead.{AllLookAhead, BeginAfter, LooksAhead, is_after}

still_false : (x y : Bool) → (x ≡ true → y ≡ true) → y ≡ false → x ≡ false
still_false true y on h = absurd (apart y (on refl) h)
still_false false y on h = refl

-- ---- areas

less_first : (u v f : ℕ) → u ≤ v → nat_lt v f ≡ true → nat_lt u f ≡ true
less_first u v f h t = grind arith

after_earlier : (u v : ℕ) (first : Option ℕ) → u ≤ v → is_after v first ≡ true → is_after u first ≡ true
after_earlier u v None h t = t
after_earlier u v (Some f) h t = less_first u v f h t

begin_earlier : (u v : ℕ) (areas : List Region) → u ≤ v → BeginAfter v areas → BeginAfter u areas
begin_earlier u v [] h begin = tt
begin_earlier u v (area ∷ areas) h begin = (after_earlier u v area.first h begin.0, begin_earlier u v areas h begin.1)

-- ---- subscriptions

-- A subscription that a later retained entity references is referenced by an earlier retained one.
named_earlier : (u v : ℕ) (m : Entities) (id : ℕ) → u ≤ v → is_referenced_in (retained v m) id ≡ true → is_referenced_in (retained u m) id ≡ true
named_earlier u v m id h t =
    let by = who_names (retained v (retained u m)) id (ap (λ (x : Entities). is_referenced_in x id) (staying_join u v m h) ∙ t) in
    let was = kept_was (λ e. not (has_ended v e)) (get (retained u m) by.0) by.1 (sym (found_staying v (retained u m) by.0) ∙ by.2) in
    named_by_one (retained u m) id by.0 by.1 was.0 by.3

goes_later : (u v : ℕ) (a : Airspace) (id : ℕ) (s : Sub) → u ≤ v → is_due_for_purge u a (id, s) ≡ true → is_due_for_purge v a (id, s) ≡ true
goes_later u v a id s h t =
    let gone = gone_unnamed u (retained u a.entities) id s t in
    let free : is_referenced_in (retained v a.entities) id ≡ false = still_false (is_referenced_in (retained v a.entities) id) (is_referenced_in (retained u a.entities) id) (named_earlier u v a.entities id h) gone.1 in
    ap (λ (b : Bool). b && not (is_referenced_in (retained v a.entities) id)) (sub_ended_later u v s h gone.0) ∙ ap not free

stays_earlier : (u v : ℕ) (a : Airspace) (id : ℕ) (s : Sub) → u ≤ v → is_due_for_purge v a (id, s) ≡ false → is_due_for_purge u a (id, s) ≡ false
stays_earlier u v a id s h = still_false (is_due_for_purge u a (id, s)) (is_due_for_purge v a (id, s)) (goes_later u v a id s h)

-- ---- calls

look_earlier : (u v : ℕ) (a : Airspace) (c : Call) → u ≤ v → LooksAhead v a c → LooksAhead u a c
look_earlier u v a c h look = record {
  begins = begin_earlier u v _ h look.begins;
  names = λ e found. still_false (has_ended u e) (has_ended v e) (ended_later u v e.volumes h) (look.names e found);
  names_sub = λ id s is there. stays_earlier u v a id s h (look.names_sub id s is there);
  told = λ id s there notified. stays_earlier u v a id s h (look.told id s there notified);
  shows = λ id shown k e there ended. look.shows id shown k e there (ended_later u v e.volumes h ended);
}

pub all_earlier : (u v : ℕ) (salt : List ℕ) (cs : List TimedCall) (a : Airspace) → u ≤ v → AllLookAhead v salt cs a → AllLookAhead u salt cs a
all_earlier u v salt [] a h all = tt
all_earlier u v salt (c ∷ cs) a h all = (look_earlier u v a c.1 h all.0, all_earlier u v salt cs (step salt a c.0 c.1).0 h all.1)

pub all_split : (until : ℕ) (salt : List ℕ) (cs ds : List TimedCall) (a : Airspace) → AllLookAhead until salt (cs ++ ds) a → AllLookAhead until salt cs a × AllLookAhead until salt ds (airspace_after salt a cs)
all_split until salt [] ds a all = (tt, all)
all_split until salt (c ∷ cs) ds a all =
    let rest = all_split until salt cs ds (step salt a c.0 c.1).0 all.1 in
    ((all.0, rest.0), rest.1)
