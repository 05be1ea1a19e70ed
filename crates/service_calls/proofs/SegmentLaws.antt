-- Lemmas: the durable airspace after segments and batches from the empty airspace.
use Rattle.std.specs.Prelude.{◌≡◌, ℕ, ◌≤◌, true, false, cond, T, List, [], ◌∷◌, Option, Some, refl}
use Rattle.std.proofs.Common.{sym, ap, ◌∙◌, subst}
use Rattle.std.proofs.lemmas.Cmp.{tied_itself}
use Rattle.std.specs.declared.cmp.Ordering.{Ordering}
use Rattle.std.specs.declared.cmp.Ordering.TheVariants.{Less, Equal}
use Rattle.std.specs.Ordering.{eq_by_cmp, is_eq, is_lt}
use Rattle.std.specs.Cmp.{Equal-is, IsTotalOrder}
use Rattle.std.specs.List.{AllByRecursion}
use Rattle.std.specs.FinMap.{entries, entries_sorted, find, get-entries}
use Rattle.std.specs.FinMap.Entries.{below_all, is_sorted}
use Rattle.entity_core.specs.Airspace.{Airspace, EntityKey, empty_at, key_cmp}
use Rattle.entity_core.proofs.Entries.{first, less, second}
use Rattle.entity_core.proofs.Keys.{key_total}
use Rattle.entity_purge.specs.Purge.{IsPartlyPurged}
use Rattle.space_core.specs.declared.group_commit.GroupCommit as settles
use Rattle.service_calls.specs.declared.service.Service.{Service}
use Rattle.service_calls.specs.Aware.{MadeCall}
use Rattle.service_calls.specs.Held.{space_of}
use Rattle.service_calls.specs.Run.{answered_calls, has_stopped}
use Rattle.service_calls.specs.Batches.{IfStopped, MayHavePersisted, Batch, all_timed, all_delivered}
use Rattle.service_calls.specs.Stale.{AllNumbered, IsNumbered}
use Rattle.service_calls.specs.Purged.{MayHavePersistedPurged, RunsPurged, Segment, airspace_after_batches}
use Rattle.service_calls.proofs.Awares.{Kept, kept_empty, kept_run}
use Rattle.service_calls.proofs.Kept.{all_found}
use Rattle.service_calls.proofs.BatchLaws.{kept_numbered}

-- ---- a property of each found entry holds for all

below_found : {K X : Type 0} (R : K → K → Ordering) (k q : K) (x : X) (es : List (K × X)) → IsTotalOrder R → T (below_all R k es) → find R q es ≡ Some x → eq_by_cmp R q k ≡ true → ⊥
below_found R k q x [] o below h t = cc
below_found {X = X} R k q x (e ∷ es) o below h t =
    elim (eq_by_cmp R q e.0) as (λ b. eq_by_cmp R q e.0 ≡ b → cond b (Some e.1) (find R q es) ≡ Some x → ⊥) [
      | true ↦ λ s g.
          let one : R q k ≡ Equal = (Equal-is (R q k)).0 t in
          let two : R q e.0 ≡ Equal = (Equal-is (R q e.0)).0 s in
          let three : R k e.0 ≡ R q e.0 = sym (o.congr q k e.0 one) in
          let four : R k e.0 ≡ Less = less (R k e.0) (first _ _ below) in
          cc
      | false ↦ λ s g. below_found R k q x es o (second (is_lt (R k e.0)) _ below) g t
    ] refl h

all_entries : {K X : Type 0} (R : K → K → Ordering) (P : X → Type 0) (es : List (K × X)) → IsTotalOrder R → T (is_sorted R es) → ((k : K) (x : X) → find R k es ≡ Some x → P x) → AllByRecursion (λ e. P e.1) es
all_entries R P [] o rises found = tt
all_entries R P (e ∷ es) o rises found = (
  found e.0 e.1 (ap (λ (r : Ordering). cond (is_eq r) (Some e.1) (find R e.0 es)) (tied_itself o e.0)),
  all_entries R P es o (second (below_all R e.0 es) _ rises)
      (λ k x h. found k x (elim (eq_by_cmp R k e.0) as (λ b. eq_by_cmp R k e.0 ≡ b → cond b (Some e.1) (find R k es) ≡ Some x) [
        | true ↦ λ s. absurd (below_found R e.0 k x es o (first _ _ rises) h s)
        | false ↦ λ s. h
      ] refl)),
)

-- ---- purges

-- A partly purged airspace keeps the invariant.
pub kept_partly : (salt : List ℕ) (last : EntityKey → Option MadeCall) (until : ℕ) (a b : Airspace) → Kept salt last a → IsPartlyPurged until a b → Kept salt last b
kept_partly salt last until a b is partly =
    let serial : b.serial ≡ a.serial = ap (λ (x : Airspace). x.serial) partly.same in
    record {
      proper = record {
        keyed = λ k x h. is.proper.keyed k x (partly.entities k x h);
        own = λ id s h. is.proper.own id s (partly.subscriptions id s h);
        told = λ id s h. subst (λ (n : ℕ). s.index ≤ n) (sym serial) (is.proper.told id s (partly.subscriptions id s h));
      };
      numbered = all_entries key_cmp (IsNumbered salt b.serial) (entries b.entities) key_total (entries_sorted b.entities)
          (λ k x h. subst (λ (n : ℕ). IsNumbered salt n x) (sym serial)
          (all_found (IsNumbered salt a.serial) (entries a.entities) k x is.numbered (sym (get-entries a.entities k) ∙ partly.entities k x (get-entries b.entities k ∙ h))));
      serials = λ k l x y hx hy same. is.serials k l x y (partly.entities k x hx) (partly.entities l y hy) same;
      knew = λ k l x y hx hy older needs meet. is.knew k l x y (partly.entities k x hx) (partly.entities l y hy) older needs meet;
    }

numbered_purged : (salt : List ℕ) (segments : List Segment) (batches : List Batch) (last : EntityKey → Option MadeCall) (a b : Airspace) → Kept salt last a → MayHavePersistedPurged salt a segments batches b → AllNumbered salt b
numbered_purged salt [] batches last a b is kept = kept_numbered salt batches last a b is kept
numbered_purged salt (segment ∷ segments) batches last a b is kept =
    elim (has_stopped (all_delivered segment.batches)) as (λ x. IfStopped x (MayHavePersisted salt a segment.batches b)
    ((c : Airspace) × IsPartlyPurged segment.until (airspace_after_batches salt a segment.batches) c × MayHavePersistedPurged salt c segments batches b) → AllNumbered salt b) [
      | true ↦ λ left. kept_numbered salt segment.batches last a b is left
      | false ↦ λ more.
          numbered_purged salt segments batches _ more.0 b
          (kept_partly salt _ segment.until (airspace_after_batches salt a segment.batches) more.0 (kept_run salt last (answered_calls (all_timed segment.batches) (all_delivered segment.batches)) a is) more.1) more.2
    ] kept.1

pub purged_numbered : {S : Type 0} (k : settles.Ghosts S) (salt : List ℕ) (n : ℕ) (segments : List Segment) (batches : List Batch) (new : Service S) (a : Airspace) → RunsPurged k salt (empty_at n) segments batches new → k.persists (space_of new) a → AllNumbered salt a
purged_numbered k salt n segments batches new a runs held = numbered_purged salt segments batches _ (empty_at n) a (kept_empty salt n) (runs.kept a held)
