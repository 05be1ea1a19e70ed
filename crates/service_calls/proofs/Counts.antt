-- Lemmas: after a run, each index is the number of calls that notified its subscription.
use Rattle.std.specs.Prelude.{◌≡◌, ℕ, ◌+◌, Bool, true, false, List, [], ◌∷◌, filter, length, Option, Some, None, cond, refl, ◌⊎◌}
use Rattle.std.proofs.Common.{arith, sym, ap, ◌∙◌, subst, inl, inr}
use Rattle.std.proofs.lemmas.Option.{same_Some}
use Rattle.std.specs.Ordering.{eq_by_cmp, nat_cmp}
use Rattle.std.specs.List.{AllByRecursion}
use Rattle.std.specs.FinMap.{get, get-empty, get-insert}
use Rattle.std.proofs.lemmas.Cmp.{nat_cmp_total}
use Rattle.entity_core.specs.Airspace.{Airspace, empty_at, notified_again, notified_where}
use Rattle.entity_core.specs.Entity.{kind_of}
use Rattle.entity_core.specs.Search.{is_for_near}
use Rattle.entity_core.specs.declared.entity.Entity.{Entity}
use Rattle.entity_core.specs.declared.nature.Kind.{Kind}
use Rattle.entity_core.specs.declared.subscription.Sub.{Sub}
use Rattle.entity_core.proofs.Changes.{one_id, stayed_sub, told_was}
use Rattle.policy_core.specs.declared.scope.Caller.{Caller}
use Rattle.policy_core.specs.declared.call.Call.{Call}
use Rattle.policy_core.specs.declared.call.Put.{Put}
use Rattle.policy_core.specs.declared.call.SubPut.{SubPut}
use Rattle.policy_core.specs.declared.call.Operation.{Operation}
use Rattle.policy_core.specs.declared.call.Operation.TheVariants.{NoRoute, NoMethod, Malformed, Query, Read, Create, Update, Delete, ReadAvail, SetAvail, QuerySub, ReadSub, CreateSub, UpdateSub, DeleteSub}
use Rattle.policy_core.specs.Policy.{first_broken}
use Rattle.space_core.specs.declared.space.Space.{Ghosts}
use Rattle.service_step.specs.declared.reply.Reply.{Reply}
use Rattle.service_step.specs.declared.reply.Reply.TheVariants.{Done, Denied, Fault, Stopped}
use Rattle.service_calls.specs.Aware.{MadeCall, is_done, left_by}
use Rattle.service_calls.specs.Count.{Counts, IsCounted, creates_sub, done_calls, notified, notifies_one}
use Rattle.service_notify.specs.Notices.{notifies, touched, volumes_of}
use Rattle.service_calls.specs.Run.{TimedCall, Runs, replies_of, airspace_after, answered_calls, delivered_replies, has_stopped}
use Rattle.service_step.specs.Step.{step, step_by, effect, update_effect, delete_effect, read_effect, sub_stored_as, read_sub_effect, update_sub_effect, delete_sub_effect}
use Rattle.service_calls.proofs.Awares.{step_left}

-- ---- one call

-- A subscription that exists after an operation existed before it, and was notified or not.
record Since (id : ℕ) (a : Airspace) (op : Operation) (x : Sub) : Type 0 where
  other : creates_sub id op ≡ false
  was : Sub
  there : get a.subscriptions id ≡ Some was
  index : x.index ≡ was.index + cond (notifies a op (id, was)) 1 0

record Created (id : ℕ) (op : Operation) (x : Sub) : Type 0 where
  creates : creates_sub id op ≡ true
  zeroth : x.index ≡ 0

-- Holds if the subscription was created by the operation or existed before it.
abbrev One : ℕ → Airspace → Operation → Sub → Type 0
One id a op x = Created id op x ⊎ Since id a op x

told_index : (b : Bool) (s : Sub) → (cond b (notified_again s) s).index ≡ s.index + cond b 1 0
told_index true s = refl
told_index false s = omega arith

-- An operation that notifies nobody leaves each index.
same_one : (id : ℕ) (a : Airspace) (op : Operation) (x : Sub) → creates_sub id op ≡ false → ((s : Sub) → notifies a op (id, s) ≡ false) → get a.subscriptions id ≡ Some x → One id a op x
same_one id a op x other quiet h = inr (record { other = other; was = x; there = h; index = sym (ap (λ (b : Bool). x.index + cond b 1 0) (quiet x) ∙ omega arith) })

told_one : (id : ℕ) (a : Airspace) (op : Operation) (x : Sub) (test : ℕ × Sub → Bool) → creates_sub id op ≡ false → ((s : Sub) → test (id, s) ≡ notifies a op (id, s)) → get (notified_where test a.subscriptions) id ≡ Some x → One id a op x
told_one id a op x test other is h =
    let was = told_was test a.subscriptions id x h in
    inr (record { other = other; was = was.0; there = was.1; index = ap (λ (y : Sub). y.index) (sym was.2) ∙ (told_index (test (id, was.0)) was.0 ∙ ap (λ (b : Bool). was.0.index + cond b 1 0) (is was.0)) })

update_one : (salt : List ℕ) (a : Airspace) (uss : List ℕ) (k : ℕ) (ovn : List ℕ) (put : Put) (o : Option Entity) (id : ℕ) (x : Sub) → get a.entities (kind_of put.nature, k) ≡ o → is_done (update_effect salt a uss k put o).1 ≡ true
    → get (update_effect salt a uss k put o).0.subscriptions id ≡ Some x → One id a (Update k ovn put) x
update_one salt a uss k ovn put None id x there done h = cc
update_one salt a uss k ovn put (Some e) id x there done h =
    told_one id a (Update k ovn put) x (is_for_near (kind_of put.nature) (touched e.volumes put.volumes)) refl
    (λ s. ap (λ (o : Option Entity). is_for_near (kind_of put.nature) (touched (volumes_of o) put.volumes) (id, s)) (sym there)) h

delete_one : (a : Airspace) (uss : List ℕ) (kind : Kind) (k : ℕ) (ovn : List ℕ) (o : Option Entity) (id : ℕ) (x : Sub) → get a.entities (kind, k) ≡ o → is_done (delete_effect a uss (kind, k) o).1 ≡ true
    → get (delete_effect a uss (kind, k) o).0.subscriptions id ≡ Some x → One id a (Delete kind k ovn) x
delete_one a uss kind k ovn None id x there done h = cc
delete_one a uss kind k ovn (Some e) id x there done h =
    told_one id a (Delete kind k ovn) x (is_for_near kind (touched e.volumes [])) refl
    (λ s. ap (λ (o : Option Entity). is_for_near kind (touched (volumes_of o) []) (id, s)) (sym there)) h

read_one : (a : Airspace) (uss : List ℕ) (kind : Kind) (k : ℕ) (o : Option Entity) (id : ℕ) (x : Sub) → get (read_effect a uss o).0.subscriptions id ≡ Some x → One id a (Read kind k) x
read_one a uss kind k None id x h = same_one id a (Read kind k) x refl (λ s. refl) h
read_one a uss kind k (Some e) id x h = same_one id a (Read kind k) x refl (λ s. refl) h

read_sub_one : (a : Airspace) (k : ℕ) (o : Option Sub) (id : ℕ) (x : Sub) → get (read_sub_effect a o).0.subscriptions id ≡ Some x → One id a (ReadSub k) x
read_sub_one a k None id x h = same_one id a (ReadSub k) x refl (λ s. refl) h
read_sub_one a k (Some r) id x h = same_one id a (ReadSub k) x refl (λ s. refl) h

delete_sub_one : (a : Airspace) (k : ℕ) (version : List ℕ) (o : Option Sub) (id : ℕ) (x : Sub) → get (delete_sub_effect a k o).0.subscriptions id ≡ Some x → One id a (DeleteSub k version) x
delete_sub_one a k version None id x h = same_one id a (DeleteSub k version) x refl (λ s. refl) h
delete_sub_one a k version (Some r) id x h = same_one id a (DeleteSub k version) x refl (λ s. refl) (stayed_sub a.subscriptions k id x h)

-- An update keeps the index of the subscription.
update_sub_one : (salt : List ℕ) (a : Airspace) (uss : List ℕ) (k : ℕ) (version : List ℕ) (put : SubPut) (o : Option Sub) (id : ℕ) (x : Sub) → get a.subscriptions k ≡ o
    → get (update_sub_effect salt a uss k put o).0.subscriptions id ≡ Some x → One id a (UpdateSub k version put) x
update_sub_one salt a uss k version put None id x there h = same_one id a (UpdateSub k version put) x refl (λ s. refl) h
update_sub_one salt a uss k version put (Some r) id x there h =
    let new : Sub = sub_stored_as salt (a.serial + 1) r.manager r.index k put in
    elim (eq_by_cmp nat_cmp id k) as (λ b. eq_by_cmp nat_cmp id k ≡ b → cond b (Some new) (get a.subscriptions id) ≡ Some x → One id a (UpdateSub k version put) x) [
      | true ↦ λ t e. inr (record { other = refl; was = r; there = ap (get a.subscriptions) (one_id id k t) ∙ there; index = ap (λ (y : Sub). y.index) (sym (same_Some new x e)) ∙ omega arith })
      | false ↦ λ t e. same_one id a (UpdateSub k version put) x refl (λ s. refl) e
    ] refl (sym (get-insert nat_cmp_total a.subscriptions k new id) ∙ h)

-- A created subscription has the index 0.
create_sub_one : (salt : List ℕ) (a : Airspace) (caller : Caller) (k : ℕ) (put : SubPut) (id : ℕ) (x : Sub)
    → get (effect salt a (Some caller) (CreateSub k put)).0.subscriptions id ≡ Some x → One id a (CreateSub k put) x
create_sub_one salt a caller k put id x h =
    let new : Sub = sub_stored_as salt (a.serial + 1) caller.uss 0 k put in
    elim (eq_by_cmp nat_cmp id k) as (λ b. eq_by_cmp nat_cmp id k ≡ b → cond b (Some new) (get a.subscriptions id) ≡ Some x → One id a (CreateSub k put) x) [
      | true ↦ λ t e. inl (record { creates = t; zeroth = ap (λ (y : Sub). y.index) (sym (same_Some new x e)) })
      | false ↦ λ t e. same_one id a (CreateSub k put) x t (λ s. refl) e
    ] refl (sym (get-insert nat_cmp_total a.subscriptions k new id) ∙ h)

effect_one : (salt : List ℕ) (a : Airspace) (caller : Option Caller) (op : Operation) (id : ℕ) (x : Sub) → is_done (effect salt a caller op).1 ≡ true → get (effect salt a caller op).0.subscriptions id ≡ Some x → One id a op x
effect_one salt a None op id x done h = cc
effect_one salt a (Some caller) NoRoute id x done h = cc
effect_one salt a (Some caller) NoMethod id x done h = cc
effect_one salt a (Some caller) (Malformed kind) id x done h = cc
effect_one salt a (Some caller) (Query kind area) id x done h = same_one id a (Query kind area) x refl (λ s. refl) h
effect_one salt a (Some caller) (Read kind k) id x done h = read_one a caller.uss kind k (get a.entities (kind, k)) id x h
effect_one salt a (Some caller) (Create k put) id x done h = told_one id a (Create k put) x (is_for_near (kind_of put.nature) (touched [] put.volumes)) refl (λ s. refl) h
effect_one salt a (Some caller) (Update k ovn put) id x done h = update_one salt a caller.uss k ovn put (get a.entities (kind_of put.nature, k)) id x refl done h
effect_one salt a (Some caller) (Delete kind k ovn) id x done h = delete_one a caller.uss kind k ovn (get a.entities (kind, k)) id x refl done h
effect_one salt a (Some caller) (ReadAvail uss) id x done h = same_one id a (ReadAvail uss) x refl (λ s. refl) h
effect_one salt a (Some caller) (SetAvail uss old availability) id x done h = same_one id a (SetAvail uss old availability) x refl (λ s. refl) h
effect_one salt a (Some caller) (QuerySub area) id x done h = same_one id a (QuerySub area) x refl (λ s. refl) h
effect_one salt a (Some caller) (ReadSub k) id x done h = read_sub_one a k (get a.subscriptions k) id x h
effect_one salt a (Some caller) (CreateSub k put) id x done h = create_sub_one salt a caller k put id x h
effect_one salt a (Some caller) (UpdateSub k version put) id x done h = update_sub_one salt a caller.uss k version put (get a.subscriptions k) id x refl h
effect_one salt a (Some caller) (DeleteSub k version) id x done h = delete_sub_one a k version (get a.subscriptions k) id x h

step_one : (salt : List ℕ) (a : Airspace) (t : ℕ) (c : Call) (id : ℕ) (x : Sub) → is_done (step salt a t c).1 ≡ true → get (step salt a t c).0.subscriptions id ≡ Some x → One id a c.op x
unfolding step
step_one salt a t c id x =
    elim (first_broken a t c) as (λ r. is_done (step_by salt a c r).1 ≡ true → get (step_by salt a c r).0.subscriptions id ≡ Some x → One id a c.op x) [
      | None ↦ λ done h. effect_one salt a c.caller c.op id x done h
      | Some p ↦ λ done h. cc
    ]

-- ---- lists of calls

-- Holds if the subscription was created by one of the calls and counted since, or existed before
-- them.
pub record Older (id : ℕ) (made : List MadeCall) (a : Airspace) (x : Sub) : Type 0 where
  pub none : AllByRecursion (λ m. creates_sub id m.call.op ≡ false) made
  pub was : Sub
  pub there : get a.subscriptions id ≡ Some was
  pub index : x.index ≡ was.index + length (filter (notified id) made)

abbrev pub Tally : ℕ → List MadeCall → Airspace → Sub → Type 0
Tally id made a x = IsCounted id made x.index ⊎ Older id made a x

one_more : (b : Bool) (m : MadeCall) (ms : List MadeCall) → length (cond b (m ∷ ms) ms) ≡ cond b 1 0 + length ms
one_more true m ms = omega arith
one_more false m ms = omega arith

sum : (x s r k n l : ℕ) → x ≡ r + n → r ≡ s + k → l ≡ k + n → x ≡ s + l
sum x s r k n l p q e = omega (arith, p, q, e)

none_before : (x r n : ℕ) → x ≡ r + n → r ≡ 0 → x ≡ n
none_before x r n p q = omega (arith, p, q)

tally_on : (id : ℕ) (a b : Airspace) (c : Call) (made : List MadeCall) (x : Sub) → ((r : Sub) → get b.subscriptions id ≡ Some r → One id a c.op r) → Tally id made b x → Tally id (record { before = a; call = c } ∷ made) a x
tally_on id a b c made x one (inl counted) = inl (record {
  earlier = record { before = a; call = c } ∷ counted.earlier;
  creation = counted.creation;
  later = counted.later;
  split = ap (λ (ms : List MadeCall). record { before = a; call = c } ∷ ms) counted.split;
  creates = counted.creates;
  last = counted.last;
  count = counted.count;
})
tally_on id a b c made x one (inr was) =
    elim (one was.was was.there) [
      | inl new ↦ inl (record {
        earlier = [];
        creation = record { before = a; call = c };
        later = made;
        split = refl;
        creates = new.creates;
        last = was.none;
        count = none_before x.index was.was.index (length (filter (notified id) made)) was.index new.zeroth;
      })
      | inr old ↦
          let m : MadeCall = record { before = a; call = c } in
          let is : notified id m ≡ notifies a c.op (id, old.was) = ap (notifies_one a c.op id) old.there in
          inr (record {
            none = (old.other, was.none);
            was = old.was;
            there = old.there;
            index = sum x.index old.was.index was.was.index (cond (notifies a c.op (id, old.was)) 1 0) (length (filter (notified id) made)) (length (filter (notified id) (m ∷ made))) was.index old.index
                (one_more (notified id m) m (filter (notified id) made) ∙ ap (λ (y : Bool). cond y 1 0 + length (filter (notified id) made)) is);
          })
    ]

pub tally_run : (salt : List ℕ) (cs : List TimedCall) (rs : List Reply) (a : Airspace) → has_stopped rs ≡ false → delivered_replies rs ≡ replies_of salt a (answered_calls cs rs) → (id : ℕ) (x : Sub)
    → get (airspace_after salt a (answered_calls cs rs)).subscriptions id ≡ Some x → Tally id (done_calls salt a cs rs) a x
tally_run salt [] rs a goes told id x h = inr (record { none = tt; was = x; there = h; index = omega arith })
tally_run salt (c ∷ cs) [] a goes told id x h = inr (record { none = tt; was = x; there = h; index = omega arith })
tally_run salt (c ∷ cs) (Fault ∷ rs) a goes told id x h = tally_run salt cs rs a goes told id x h
tally_run salt (c ∷ cs) (Stopped ∷ rs) a goes told id x h = cc
tally_run salt (c ∷ cs) (Done r ∷ rs) a goes told id x h =
    let b : Airspace = (step salt a c.0 c.1).0 in
    let head : Done r ≡ (step salt a c.0 c.1).1 = cc in
    let rest : delivered_replies rs ≡ replies_of salt b (answered_calls cs rs) = cc in
    tally_on id a b c.1 (done_calls salt b cs rs) x (λ y k. step_one salt a c.0 c.1 id y (ap is_done (sym head)) k) (tally_run salt cs rs b goes rest id x h)
tally_run salt (c ∷ cs) (Denied p m ∷ rs) a goes told id x h =
    let b : Airspace = (step salt a c.0 c.1).0 in
    let head : Denied p m ≡ (step salt a c.0 c.1).1 = cc in
    let rest : delivered_replies rs ≡ replies_of salt b (answered_calls cs rs) = cc in
    let same : b ≡ a = sym (ap (left_by salt a c) head ∙ step_left salt a c) in
    tally_run salt cs rs a goes (subst (λ (y : Airspace). delivered_replies rs ≡ replies_of salt y (answered_calls cs rs)) same rest) id x
    (subst (λ (y : Airspace). get (airspace_after salt y (answered_calls cs rs)).subscriptions id ≡ Some x) same h)

pub counts_after : (salt : List ℕ) (n : ℕ) (cs : List TimedCall) (rs : List Reply) → delivered_replies rs ≡ replies_of salt (empty_at n) (answered_calls cs rs) → has_stopped rs ≡ false
    → Counts salt (empty_at n) cs rs (airspace_after salt (empty_at n) (answered_calls cs rs))
counts_after salt n cs rs told goes id x h =
    elim (tally_run salt cs rs (empty_at n) goes told id x h) [
      | inl counted ↦ counted
      | inr was ↦ let e : None ≡ Some was.was = sym (get-empty nat_cmp id) ∙ was.there in cc
    ]

-- ---- the airspace after a run
pub held_counts : {S : Type 0} (g : Ghosts S) (salt : List ℕ) (n : ℕ) (cs : List TimedCall) (rs : List Reply) (new : S) → Runs g salt (empty_at n) cs rs new → has_stopped rs ≡ false → (a : Airspace) → g.holds new a → Counts salt (empty_at n) cs rs a
held_counts g salt n cs rs new t h a held = subst (Counts salt (empty_at n) cs rs) (sym ((t.whole h).only a held)) (counts_after salt n cs rs t.replies h)
