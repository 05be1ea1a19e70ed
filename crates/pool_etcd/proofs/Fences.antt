-- Lemmas: the entries of a process around a fence that it puts.
use Rattle.std.proofs.Common.{◌≡◌, ℕ, ◌<◌, ◌≤◌, nat_lt, List, [], ◌∷◌, ◌++◌, Bool, true, false, cond, Option, Some, None, ◌⊎◌, inl, inr, refl, sym, ◌∙◌, ap, subst, append_assoc, arith}
use Rattle.std.proofs.lemmas.Bool.{ltb-true}
use Rattle.std.proofs.lemmas.List.{append_cancel_right}
use Rattle.pool_etcd.specs.declared.own_entries.OwnState.{OwnState}
use Rattle.pool_etcd.specs.declared.own_entries.OwnState.TheVariants.{Unknown, Fencing, Idle, Sending, Settling, Unmade, Lost}
use Rattle.pool_etcd.specs.declared.response.PutOutcome.{PutOutcome}
use Rattle.pool_etcd.specs.declared.response.PutOutcome.TheVariants.{Stored, Refused}
use Rattle.pool_etcd.specs.OwnEntries.{Put, Takes, after_revision, after_settle, due_in, idle_behind, idle_or, outcome_in, stored_at}
use Rattle.pool_etcd.specs.OneKey.{Write, SentPut, KeyState, Among, AreInOrder, IsAllOrAllButLast, IsAnswer, IsStart, KeyEvent, Takes_value, Settles, Sends, Stores, Other, Learns_revision, Learns_outcome, Leads, Run, FenceSettles, last_revision, own_values}
use Rattle.pool_etcd.proofs.OneKeys.{CanWrite, Done, Found, Keeps, NotYet, OpenPut, Over, Phase, WasSentAt, answered, at_start, later, never_over, not_yet_more, one_step, over_more, result, same_values, settled_found, whole_run}

-- ---- a process whose last value has no place any more

-- The process does not take another value: the last one is open at the revision, or the log is lost.
abbrev IsStuck : (r : ℕ) (v : List ℕ) → OwnState → List ℕ → Type 0
IsStuck r v Unknown value = ⊥
IsStuck r v (Fencing q) value = ⊥
IsStuck r v (Idle q) value = ⊥
IsStuck r v (Sending q) value = (q ≡ r) × (value ≡ v)
IsStuck r v (Settling q) value = (q ≡ r) × (value ≡ v)
IsStuck r v (Unmade q) value = Unit {0}
IsStuck r v Lost value = Unit {0}

record Stuck (mine : List ℕ → Bool) (r : ℕ) (v : List ℕ) (k : KeyState) : Type 0 where
  fence : mine k.own.fence ≡ false
  order : AreInOrder k.writes
  state : IsStuck r v k.own.state k.own.value
  over : Over mine r v k.sent k.writes k.taken

takes_none : (r : ℕ) (v : List ℕ) (st next : OwnState) (value : List ℕ) → IsStuck r v st value → Takes st next → ⊥
takes_none r v Unknown next value is t = t
takes_none r v (Fencing q) next value is t = t
takes_none r v (Idle q) next value is t = is
takes_none r v (Sending q) next value is t = t
takes_none r v (Settling q) next value is t = t
takes_none r v (Unmade q) next value is t = t
takes_none r v Lost next value is t = t

stuck_settles : (r : ℕ) (v : List ℕ) (st : OwnState) (value : List ℕ) → IsStuck r v st value → IsStuck r v (after_settle st) value
stuck_settles r v Unknown value is = is
stuck_settles r v (Fencing q) value is = is
stuck_settles r v (Idle q) value is = is
stuck_settles r v (Sending q) value is = is
stuck_settles r v (Settling q) value is = is
stuck_settles r v (Unmade q) value is = is
stuck_settles r v Lost value is = is

stuck_revision : (r : ℕ) (v : List ℕ) (st : OwnState) (value : List ℕ) (q : ℕ) → IsStuck r v st value → IsStuck r v (after_revision st q) value
stuck_revision r v Unknown value q is = absurd is
stuck_revision r v (Fencing o) value q is = is
stuck_revision r v (Idle o) value q is = is
stuck_revision r v (Sending o) value q is = is
stuck_revision r v (Settling o) value q is = is
stuck_revision r v (Unmade o) value q is = is
stuck_revision r v Lost value q is = is

-- The put that is due can write the last value only where it was put first.
due_low : (mine : List ℕ → Bool) (r : ℕ) (v : List ℕ) (st : OwnState) (fence value : List ℕ) (writes : List Write) (put : Put)
    → mine fence ≡ false → r < last_revision writes → IsStuck r v st value → due_in st fence value ≡ Some put → mine put.value ≡ true
    → CanWrite r v (record { put = put; writes = writes })
due_low mine r v Unknown fence value writes put f past is due m = absurd is
due_low mine r v (Fencing q) fence value writes put f past is due m = absurd is
due_low mine r v (Idle q) fence value writes put f past is due m = absurd is
due_low mine r v (Sending q) fence value writes put f past is due m =
    let same : record { value = value; revision = q } ≡ put = cc in
    let at : put.revision ≡ r = sym (ap (λ (x : Put). x.revision) same) ∙ is.0 in
    let of : put.value ≡ v = sym (ap (λ (x : Put). x.value) same) ∙ is.1 in
    inr (at, of, omega arith)
due_low mine r v (Settling q) fence value writes put f past is due m =
    let same : record { value = fence; revision = q } ≡ put = cc in
    let no : mine put.value ≡ false = sym (ap (λ (x : Put). mine x.value) same) ∙ f in
    let h : ⊥ = cc in absurd h
due_low mine r v (Unmade q) fence value writes put f past is due m = let h : ⊥ = cc in absurd h
due_low mine r v Lost fence value writes put f past is due m = let h : ⊥ = cc in absurd h

sends_low : (mine : List ℕ → Bool) (r : ℕ) (v : List ℕ) (st : OwnState) (fence value : List ℕ) (sent : List SentPut) (writes : List Write) (taken : List (List ℕ)) (put : Put)
    → mine fence ≡ false → IsStuck r v st value → due_in st fence value ≡ Some put → Over mine r v sent writes taken
    → Over mine r v (record { put = put; writes = writes } ∷ sent) writes taken
sends_low mine r v st fence value sent writes taken put f is due p = record {
  puts = now;
  past = p.past;
  is_mine = p.is_mine;
  yet = p.yet;
}
  where
    now : (s : SentPut) → Among s (record { put = put; writes = writes } ∷ sent) → mine s.put.value ≡ true → CanWrite r v s
    now s (inl e) m =
        subst (λ (x : SentPut). CanWrite r v x) (sym e)
        (due_low mine r v st fence value writes put f p.past is due (sym (ap (λ (x : SentPut). mine x.put.value) e) ∙ m))
    now s (inr h) m = p.puts s h m

over_stores : (mine : List ℕ → Bool) (r : ℕ) (v : List ℕ) (sent : List SentPut) (writes : List Write) (taken : List (List ℕ)) (s : SentPut) (q : ℕ) (b : Bool)
    → mine s.put.value ≡ b → Among s sent → s.put.revision ≡ last_revision writes → last_revision writes < q
    → Over mine r v sent writes taken → Over mine r v sent (record { revision = q; value = s.put.value } ∷ writes) taken
over_stores mine r v sent writes taken s q true m among at low p = absurd (never_over mine r v sent writes taken s among m at p)
over_stores mine r v sent writes taken s q false m among at low p = over_more mine r v sent writes taken (record { revision = q; value = s.put.value }) m low p

none_found : (mine : List ℕ → Bool) (r : ℕ) (v : List ℕ) (k : KeyState) (q : ℕ) → Over mine r v k.sent k.writes k.taken → Found k.writes v q → r < q → ⊥
none_found mine r v k q p found low =
    let at : found.0.revision ≡ q = found.2 in
    let no : mine found.0.value ≡ false = p.yet.after found.0 found.1 (omega arith) in
    let yes : mine found.0.value ≡ true = ap mine found.3 ∙ p.is_mine in
    let h : ⊥ = cc in h

stuck_learns : (mine : List ℕ → Bool) (r : ℕ) (v : List ℕ) (k : KeyState) (st : OwnState) (fence value : List ℕ) (put : Put) (o : PutOutcome)
    → AreInOrder k.writes → IsStuck r v st value → due_in st fence value ≡ Some put → IsAnswer k put o → Over mine r v k.sent k.writes k.taken
    → IsStuck r v (outcome_in st fence value o) value
stuck_learns mine r v k Unknown fence value put o order is due a p = absurd is
stuck_learns mine r v k (Fencing q) fence value put o order is due a p = absurd is
stuck_learns mine r v k (Idle q) fence value put o order is due a p = absurd is
stuck_learns mine r v k (Sending q) fence value put o order is due a p = by (stored_at value o) refl
  where
    same : record { value = value; revision = q } ≡ put
    same = cc

    at : put.revision ≡ r
    at = sym (ap (λ (x : Put). x.revision) same) ∙ is.0

    of : put.value ≡ v
    of = sym (ap (λ (x : Put). x.value) same) ∙ is.1

    behind : (s : SentPut) → s.put.revision ≡ r → CanWrite r v s → r ≤ last_revision s.writes
    behind s here (inl old) = absurd (omega arith)
    behind s here (inr can) = can.2

    since : WasSentAt k.sent put
    since s among e =
        let here : s.put.revision ≡ r = ap (λ (x : Put). x.revision) e ∙ at in
        let m : mine s.put.value ≡ true = ap (λ (x : Put). mine x.value) e ∙ ap mine of ∙ p.is_mine in
        let far : r ≤ last_revision s.writes = behind s here (p.puts s among m) in
        let low : put.revision ≡ r = at in
        omega arith

    by : (x : Option ℕ) → stored_at value o ≡ x → IsStuck r v (idle_or Lost x) value
    by None e = tt
    by (Some c) e =
        let there : stored_at put.value o ≡ Some c = ap (λ (x : List ℕ). stored_at x o) (sym (ap (λ (x : Put). x.value) same)) ∙ e in
        let found : Found k.writes v c = subst (λ (x : List ℕ). Found k.writes x c) of (answered k put o c a there) in
        let low : put.revision < c = later k put o c order since a there in
        let here : put.revision ≡ r = at in
        absurd (none_found mine r v k c p found (omega arith))
stuck_learns mine r v k (Settling q) fence value put (Stored c) order is due a p = tt
stuck_learns mine r v k (Settling q) fence value put (Refused f) order is due a p = by (stored_at value (Refused f)) refl
  where
    behind : (c : ℕ) (b : Bool) → nat_lt q c ≡ b → stored_at value (Refused f) ≡ Some c → IsStuck r v (cond b (Idle c) Lost) value
    behind c true low e =
        let found : Found k.writes v c = subst (λ (x : List ℕ). Found k.writes x c) is.1 (settled_found k put value f c a e) in
        let far : q < c = ltb-true q c low in
        let at : q ≡ r = is.0 in
        none_found mine r v k c p found (omega arith)
    behind c false low e = tt

    by : (x : Option ℕ) → stored_at value (Refused f) ≡ x → IsStuck r v (idle_behind q x) value
    by None e = tt
    by (Some c) e = behind c (nat_lt q c) refl e
stuck_learns mine r v k (Unmade q) fence value put o order is due a p = tt
stuck_learns mine r v k Lost fence value put o order is due a p = tt

-- Holds if nothing was taken, and the process is stuck still.
abbrev StaysStuck : (List ℕ → Bool) → ℕ → List ℕ → KeyState → KeyState → Type 0
StaysStuck mine r v k n = Stuck mine r v n × (n.taken ≡ k.taken)

stuck_step : (mine : List ℕ → Bool) (r : ℕ) (v : List ℕ) (k n : KeyState) (e : KeyEvent) → Stuck mine r v k → Leads mine k e n → StaysStuck mine r v k n
stuck_step mine r v k n (Takes_value u) h l = absurd (takes_none r v k.own.state l.0 k.own.value h.state l.2)
stuck_step mine r v k n Settles h l =
    subst (λ (x : KeyState). StaysStuck mine r v k x) (sym l) (
      record {
        fence = h.fence;
        order = h.order;
        state = stuck_settles r v k.own.state k.own.value h.state;
        over = h.over;
      },
      refl,
    )
stuck_step mine r v k n (Sends put) h l =
    subst (λ (x : KeyState). StaysStuck mine r v k x) (sym l.1) (
      record {
        fence = h.fence;
        order = h.order;
        state = h.state;
        over = sends_low mine r v k.own.state k.own.fence k.own.value k.sent k.writes k.taken put h.fence h.state l.0 h.over;
      },
      refl,
    )
stuck_step mine r v k n (Stores s q) h l =
    subst (λ (x : KeyState). StaysStuck mine r v k x) (sym l.3) (
      record {
        fence = h.fence;
        order = (l.2, h.order);
        state = h.state;
        over = over_stores mine r v k.sent k.writes k.taken s q (mine s.put.value) refl l.0 l.1 l.2 h.over;
      },
      refl,
    )
stuck_step mine r v k n (Other w) h l =
    subst (λ (x : KeyState). StaysStuck mine r v k x) (sym l.2) (
      record {
        fence = h.fence;
        order = (l.1, h.order);
        state = h.state;
        over = over_more mine r v k.sent k.writes k.taken w l.0 l.1 h.over;
      },
      refl,
    )
stuck_step mine r v k n (Learns_revision q) h l =
    subst (λ (x : KeyState). StaysStuck mine r v k x) (sym l) (
      record {
        fence = h.fence;
        order = h.order;
        state = stuck_revision r v k.own.state k.own.value q h.state;
        over = h.over;
      },
      refl,
    )
stuck_step mine r v k n (Learns_outcome put o) h l =
    subst (λ (x : KeyState). StaysStuck mine r v k x) (sym l.2) (
      record {
        fence = h.fence;
        order = h.order;
        state = stuck_learns mine r v k k.own.state k.own.fence k.own.value put o h.order h.state l.0 l.1 h.over;
        over = h.over;
      },
      refl,
    )

stuck_run : (mine : List ℕ → Bool) (r : ℕ) (v : List ℕ) (k n : KeyState) (es : List KeyEvent) → Stuck mine r v k → Run mine k es n → StaysStuck mine r v k n
stuck_run mine r v k n [] h run = (subst (λ (x : KeyState). Stuck mine r v x) (sym run) h, ap (λ (x : KeyState). x.taken) run)
stuck_run mine r v k n (e ∷ es) h run =
    let one = stuck_step mine r v k run.0 e h run.1 in
    let rest = stuck_run mine r v run.0 n es one.0 run.2 in
    (rest.0, rest.1 ∙ one.1)

-- ---- writes and values are added in front

record Grows (k n : KeyState) : Type 0 where
  writes : List Write
  taken : List (List ℕ)
  written : n.writes ≡ writes ++ k.writes
  given : n.taken ≡ taken ++ k.taken

grows : (mine : List ℕ → Bool) (k n : KeyState) (e : KeyEvent) → Leads mine k e n → Grows k n
grows mine k n (Takes_value v) l = record { writes = []; taken = v ∷ []; written = ap (λ (x : KeyState). x.writes) l.3; given = ap (λ (x : KeyState). x.taken) l.3 }
grows mine k n Settles l = record { writes = []; taken = []; written = ap (λ (x : KeyState). x.writes) l; given = ap (λ (x : KeyState). x.taken) l }
grows mine k n (Sends put) l = record { writes = []; taken = []; written = ap (λ (x : KeyState). x.writes) l.1; given = ap (λ (x : KeyState). x.taken) l.1 }
grows mine k n (Stores s q) l = record {
  writes = record { revision = q; value = s.put.value } ∷ [];
  taken = [];
  written = ap (λ (x : KeyState). x.writes) l.3;
  given = ap (λ (x : KeyState). x.taken) l.3;
}
grows mine k n (Other w) l = record { writes = w ∷ []; taken = []; written = ap (λ (x : KeyState). x.writes) l.2; given = ap (λ (x : KeyState). x.taken) l.2 }
grows mine k n (Learns_revision r) l = record { writes = []; taken = []; written = ap (λ (x : KeyState). x.writes) l; given = ap (λ (x : KeyState). x.taken) l }
grows mine k n (Learns_outcome put o) l = record { writes = []; taken = []; written = ap (λ (x : KeyState). x.writes) l.2; given = ap (λ (x : KeyState). x.taken) l.2 }

grows_more : (k m n : KeyState) → Grows k m → Grows m n → Grows k n
grows_more k m n a b = record {
  writes = b.writes ++ a.writes;
  taken = b.taken ++ a.taken;
  written = b.written ∙ ap (λ (ws : List Write). b.writes ++ ws) a.written ∙ sym (append_assoc b.writes a.writes k.writes);
  given = b.given ∙ ap (λ (vs : List (List ℕ)). b.taken ++ vs) a.given ∙ sym (append_assoc b.taken a.taken k.taken);
}

grows_run : (mine : List ℕ → Bool) (k n : KeyState) (es : List KeyEvent) → Run mine k es n → Grows k n
grows_run mine k n [] run = record { writes = []; taken = []; written = ap (λ (x : KeyState). x.writes) run; given = ap (λ (x : KeyState). x.taken) run }
grows_run mine k n (e ∷ es) run = grows_more k run.0 n (grows mine k run.0 e run.1) (grows_run mine run.0 n es run.2)

cond_append : (b : Bool) (x : List ℕ) (us vs : List (List ℕ)) → cond b (x ∷ (us ++ vs)) (us ++ vs) ≡ cond b (x ∷ us) us ++ vs
cond_append true x us vs = refl
cond_append false x us vs = refl

values_append : (mine : List ℕ → Bool) (ws vs : List Write) → own_values mine (ws ++ vs) ≡ own_values mine ws ++ own_values mine vs
values_append mine [] vs = refl
values_append mine (w ∷ ws) vs =
    ap (λ (us : List (List ℕ)). cond (mine w.value) (w.value ∷ us) us) (values_append mine ws vs)
    ∙ cond_append (mine w.value) w.value (own_values mine ws) (own_values mine vs)

-- ---- the fence

-- All values are written, or the last one has no place any more.
abbrev AtFence : (List ℕ → Bool) → OwnState → List ℕ → List SentPut → List Write → List (List ℕ) → Type 0
AtFence mine st value sent writes taken = (taken ≡ own_values mine writes)
    ⊎ ((r : ℕ) × (v : List ℕ) × IsStuck r v st value × Over mine r v sent writes taken)

open_at_fence : (mine : List ℕ → Bool) (r : ℕ) (v : List ℕ) (st : OwnState) (value : List ℕ) (sent : List SentPut) (writes : List Write) (taken : List (List ℕ)) (w : Write)
    → mine w.value ≡ false → last_revision writes < w.revision → IsStuck r v st value → OpenPut mine r v sent writes taken → AtFence mine st value sent (w ∷ writes) taken
open_at_fence mine r v st value sent writes taken w other low is p = by p.stored
  where
    by : NotYet mine r v writes taken ⊎ Done mine r writes taken → AtFence mine st value sent (w ∷ writes) taken
    by (inl n) =
        let reach : r ≤ last_revision writes = p.reached in
        inr (
          r,
          v,
          is,
          record {
            puts = p.puts;
            past = omega arith;
            is_mine = p.is_mine;
            yet = not_yet_more mine r v writes taken w other n;
          },
        )
    by (inr d) = inl (d.all ∙ same_values mine writes w other)

at_fence : (mine : List ℕ → Bool) (st : OwnState) (value : List ℕ) (sent : List SentPut) (writes : List Write) (taken : List (List ℕ)) (w : Write)
    → mine w.value ≡ false → last_revision writes < w.revision → Phase mine st value sent writes taken → AtFence mine st value sent (w ∷ writes) taken
at_fence mine Unknown value sent writes taken w other low p = inl (p.none ∙ sym p.stored ∙ same_values mine writes w other)
at_fence mine (Fencing r) value sent writes taken w other low p = inl (p.none ∙ sym p.stored ∙ same_values mine writes w other)
at_fence mine (Idle r) value sent writes taken w other low p = inl (p.all ∙ same_values mine writes w other)
at_fence mine (Sending r) value sent writes taken w other low p = open_at_fence mine r value (Sending r) value sent writes taken w other low (refl, refl) p
at_fence mine (Settling r) value sent writes taken w other low p = open_at_fence mine r value (Settling r) value sent writes taken w other low (refl, refl) p
at_fence mine (Unmade q) value sent writes taken w other low p = inr (p.0, p.1, tt, over_more mine p.0 p.1 sent writes taken w other low p.2)
at_fence mine Lost value sent writes taken w other low p = open_at_fence mine p.0 p.1 Lost value sent writes taken w other low tt p.2

-- What stands behind the fence.
abbrev Behind : (List ℕ → Bool) → KeyState → KeyState → Type 0
Behind mine k n = (writes : List Write) × (taken : List (List ℕ))
    × (n.writes ≡ writes ++ k.writes) × (n.taken ≡ taken ++ k.taken)
    × IsAllOrAllButLast (own_values mine writes) taken

behind_stuck : (mine : List ℕ → Bool) (r : ℕ) (v : List ℕ) (k n : KeyState) (es : List KeyEvent) → Stuck mine r v k → Run mine k es n → Behind mine k n
behind_stuck mine r v k n es h run =
    let kept = stuck_run mine r v k n es h run in
    let g = grows_run mine k n es run in
    let now : n.taken ≡ v ∷ own_values mine n.writes = kept.0.over.yet.but_last in
    let before : k.taken ≡ v ∷ own_values mine k.writes = h.over.yet.but_last in
    let values : own_values mine n.writes ≡ own_values mine g.writes ++ own_values mine k.writes =
    ap (own_values mine) g.written ∙ values_append mine g.writes k.writes in
    let same : v ∷ own_values mine k.writes ≡ v ∷ own_values mine n.writes = sym before ∙ sym kept.1 ∙ now in
    let tail : own_values mine k.writes ≡ own_values mine n.writes = cc in
    let none : [] ≡ own_values mine g.writes = append_cancel_right [] (own_values mine g.writes) (own_values mine k.writes) (tail ∙ values) in
    (g.writes, [], g.written, kept.1, inl none)

behind_all : (mine : List ℕ → Bool) (k n : KeyState) (es : List KeyEvent) → k.taken ≡ own_values mine k.writes → Keeps mine n → Run mine k es n → Behind mine k n
behind_all mine k n es all h run = (g.writes, g.taken, g.written, g.given, by (result mine n.own.state n.own.value n.sent n.writes n.taken h.phase))
  where
    g : Grows k n
    g = grows_run mine k n es run

    values : own_values mine n.writes ≡ own_values mine g.writes ++ own_values mine k.writes
    values = ap (own_values mine) g.written ∙ values_append mine g.writes k.writes

    given : n.taken ≡ g.taken ++ own_values mine k.writes
    given = g.given ∙ ap (λ (vs : List (List ℕ)). g.taken ++ vs) all

    by : IsAllOrAllButLast (own_values mine n.writes) n.taken → IsAllOrAllButLast (own_values mine g.writes) g.taken
    by (inl e) = inl (append_cancel_right g.taken (own_values mine g.writes) (own_values mine k.writes) (sym given ∙ e ∙ values))
    by (inr e) =
        inr (
          e.0,
          append_cancel_right g.taken (e.0 ∷ own_values mine g.writes) (own_values mine k.writes)
              (sym given ∙ e.1 ∙ ap (λ (vs : List (List ℕ)). e.0 ∷ vs) values),
        )

behind_fence : (mine : List ℕ → Bool) (k n : KeyState) (es : List KeyEvent) → Keeps mine k → AtFence mine k.own.state k.own.value k.sent k.writes k.taken
    → Run mine k es n → Behind mine k n
behind_fence mine k n es h (inl all) run = behind_all mine k n es all (whole_run mine k n es h run) run
behind_fence mine k n es h (inr o) run =
    behind_stuck mine o.0 o.1 k n es (record { fence = h.fence; order = h.order; state = o.2; over = o.3 }) run

pub fence_settles : FenceSettles
fence_settles mine start before fenced end first later sent q h run is_fence l run2 =
    let kept = whole_run mine start before first (at_start mine start h) run in
    let here = one_step mine before fenced (Stores sent q) kept l in
    let other : mine sent.put.value ≡ false = ap mine is_fence ∙ h.fence in
    let at =
    at_fence mine before.own.state before.own.value before.sent before.writes before.taken (record { revision = q; value = sent.put.value })
    other l.2 kept.phase in
    behind_fence mine fenced end later here
    (subst (λ (x : KeyState). AtFence mine x.own.state x.own.value x.sent x.writes x.taken) (sym l.3) at) run2
