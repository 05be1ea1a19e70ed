-- Proofs about runs of a service over files.
use Rattle.std.specs.Prelude.{◌≡◌, ℕ, List, [], ◌∷◌, Bool, false, Option, Some, None, IsSome, cond, refl}
use Rattle.std.proofs.Common.{inl, inr, sym, ap, subst, subst₂, ◌∙◌}
use Rattle.std.proofs.Math.Logic.{∥∥₁_elim, ∥∥₁_map}
use Rattle.std.proofs.lemmas.Cmp.{eq_by_cmp_equiv}
use Rattle.std.specs.FinMap.{get, get-insert, insert}
use Rattle.sqlite_disk.specs.declared.Disk as disk
use Rattle.sqlite_disk.specs.declared.Files.{Files}
use Rattle.sqlite_store.specs.declared.store.FileStore.{FileStore}
use Rattle.sqlite_trees.specs.declared.store.Store as stores
use Rattle.sqlite.specs.Files.{image_of, over_files}
use Rattle.sqlite.specs.Held.{Held}
use Rattle.sqlite.specs.Recovery.{Image}
use Rattle.sqlite.specs.WalReads.{AreClean}
use Rattle.entity_core.specs.Airspace.{Airspace, Entities, EntityKey, empty_at}
use Rattle.entity_core.specs.Entity.{kind_of}
use Rattle.entity_core.specs.declared.entity.Entity.{Entity}
use Rattle.entity_core.proofs.Keys.{key_total}
use Rattle.policy_core.specs.declared.call.Call.{Call}
use Rattle.policy_core.specs.declared.call.Operation.{Operation}
use Rattle.policy_core.specs.declared.call.Operation.TheVariants.{Create}
use Rattle.policy_core.specs.declared.call.Put.{Put}
use Rattle.policy_core.specs.declared.rule.Rule.{Rule}
use Rattle.policy_core.specs.declared.scope.Caller.{Caller}
use Rattle.policy_core.specs.Policy.{first_broken}
use Rattle.space_core.specs.Space.{IsContent}
use Rattle.space_core.specs.declared.space.Space as spaces
use Rattle.service_step.specs.Step.{effect, step, step_by}
use Rattle.service_step.specs.declared.reply.Answer.{Answer}
use Rattle.service_step.specs.declared.reply.Reply.{Reply}
use Rattle.service_step.specs.declared.reply.Reply.TheVariants.{Done}
use Rattle.service_calls.specs.declared.service.Service.{Service}
use Rattle.service_calls.specs.Held.{is_shut, salt_of, space_of}
use Rattle.service_calls.specs.Run.{AskedInOrder, IsReplyTo, TimedCall}
use Rattle.service_calls.specs.Service.{Leaves}
use Rattle.service_recovery.specs.Life.{Continues, StandFor}
use Rattle.service_recovery.proofs.Crashes.{words_of}
use Rattle.service_recovery.proofs.Lives as lives
use Rattle.space_sql_schema.specs.declared.format.Format.TheVariants.{Two}
use Rattle.space_sql.specs.Found.{AreUnmade, FilesSpell, FindsSpelt}
use Rattle.space_sql.specs.Holding.{SqlSpaceModel, holds_of, is_sound_of, is_whole_of}
use Rattle.test_sql_files.specs.Runs.{ClosedRun, CrashedRun, HasCreated, LeavesConnection, Life, StartedRun, ThreeRuns, after, run_for}
use Rattle.test_sql_files.specs.declared.runs.Told.{Told}

own_entity : (m : Entities) (k : EntityKey) (e : Entity) → IsSome (get (insert m k e) k)
own_entity m k e =
    let found = get-insert key_total m k e k ∙ ap (λ (b : Bool). cond b (Some e) (get m k)) ((eq_by_cmp_equiv key_total).refl k) in
    subst IsSome (sym found) refl

created_effect : (salt : List ℕ) (a : Airspace) (caller : Option Caller) (id : ℕ) (put : Put) (answer : Answer) → (effect salt a caller (Create id put)).1 ≡ Done answer
    → IsSome (get (effect salt a caller (Create id put)).0.entities (kind_of put.nature, id))
created_effect salt a (Some caller) id put answer h = own_entity a.entities (kind_of put.nature, id) _
created_effect salt a None id put answer h = absurd (let e = h in cc)

created_by : (salt : List ℕ) (a : Airspace) (call : Call) (broken : Option Rule) (id : ℕ) (put : Put) (answer : Answer) → call.op ≡ Create id put → (step_by salt a call broken).1 ≡ Done answer
    → IsSome (get (step_by salt a call broken).0.entities (kind_of put.nature, id))
created_by salt a call (Some p) id put answer is h = absurd (let e = h in cc)
created_by salt a call None id put answer is h =
    subst (λ (op : Operation). IsSome (get (effect salt a call.caller op).0.entities (kind_of put.nature, id))) (sym is)
    (created_effect salt a call.caller id put answer (subst (λ (op : Operation). (effect salt a call.caller op).1 ≡ Done answer) is h))

-- A creation that is done leaves its entity.
has_created : (salt : List ℕ) (a : Airspace) (call : TimedCall) (answer : Answer) → (step salt a call.0 call.1).1 ≡ Done answer → HasCreated call (after salt a call)
unfolding step
has_created salt a call answer h id put is = created_by salt a call.1 (first_broken a call.0 call.1) id put answer is h

three : (x y z p q r : Reply) → p ≡ x → q ≡ y → r ≡ z → x ∷ y ∷ z ∷ [] ≡ p ∷ q ∷ r ∷ []
three x y z p q r e f h = λ i. sym e i ∷ sym f i ∷ sym h i ∷ []

-- The run of a service over a space that was opened.
pub leaves_connection : {S : Type 0} (g : stores.Ghosts S) (before : Image) (salt : List ℕ) (call : TimedCall) (reply : Reply) (opened end : SqlSpaceModel S) (conn : Held S) (old new : Service (SqlSpaceModel S)) → salt_of old ≡ salt → is_shut old ≡ false → space_of old ≡ opened → FindsSpelt before (words_of g) opened
    → IsReplyTo (words_of g) old new call.0 call.1 reply → end ≡ space_of new → conn ≡ end.conn → LeavesConnection (words_of g) before salt call reply conn
leaves_connection {S} g before salt call reply opened end conn old new salted goes over finds is same left =
    let at : FindsSpelt before (words_of g) (space_of old) = subst (λ (k : SqlSpaceModel S). FindsSpelt before (words_of g) k) (sym over) finds in
    let run : StartedRun (words_of g) before salt call reply = record { old = old; new = new; salted = salted; goes = goes; finds = at; replies = is } in
    (run, left ∙ ap (λ (k : SqlSpaceModel S). k.conn) same)

module _ {D : Type 0} {g : disk.Ghosts D} where
  abbrev words : spaces.Ghosts (SqlSpaceModel (FileStore D g))
  words = words_of over_files

  -- A run with an answer, over a copy of the salt.
  pub closed_as : (before : Image) (own salt : List ℕ) (call : TimedCall) (reply : Reply) (answer : Answer) (files : Files D) → own ≡ salt → reply ≡ Done answer → ClosedRun words before own call reply files → ClosedRun words before salt call (Done answer) files
  closed_as before own salt call reply answer files same is run = subst₂ (λ (s : List ℕ) (r : Reply). ClosedRun words before s call r files) same is run

  pub crashed_as : (before : Image) (own salt : List ℕ) (call : TimedCall) (reply : Reply) (answer : Answer) (files : Files D) → own ≡ salt → reply ≡ Done answer → CrashedRun words before own call reply files → CrashedRun words before salt call (Done answer) files
  crashed_as before own salt call reply answer files same is run = subst₂ (λ (s : List ℕ) (r : Reply). CrashedRun words before s call r files) same is run

  module _ (before : Image) (salt : List ℕ) (call : TimedCall) (reply : Reply) (run : StartedRun words before salt call reply) (sound : is_sound_of over_files (space_of run.new)) where
    was_sound : is_sound_of over_files (space_of run.old)
    was_sound = run.replies.stays.sound sound

    content : (a : Airspace) → StandFor before a → IsContent (holds_of over_files) (space_of run.old) a
    content a stands = lives.content_found before words (space_of run.old) run.finds was_sound a stands

    whole : (a : Airspace) → StandFor before a → is_whole_of over_files (space_of run.new)
    whole a stands = run.replies.stays.whole sound (run.finds.whole was_sound a (content a stands).held)

    left : (a : Airspace) → StandFor before a → Leaves words salt a call.0 call.1 reply (space_of run.new)
    left a stands = subst (λ (s : List ℕ). Leaves words s a call.0 call.1 reply (space_of run.new)) run.salted ((run.replies.answers run.goes).step sound a (content a stands))

    asked : AskedInOrder words run.old (call ∷ []) (reply ∷ []) run.new
    asked = (run.new, run.replies, refl)

  module _ (before : Image) (salt : List ℕ) (call : TimedCall) (files : Files D) where
    closed_continues : (reply : Reply) (r : ClosedRun words before salt call reply files) → AreClean g files.log files.db → Continues before (run_for salt call reply) (image_of g files)
    closed_continues reply r clean =
        let run = r.run in
        let all = asked before salt call reply run (r.closes.sound clean) in
        subst (λ (s : List ℕ). Continues before (run_for s call reply) (image_of g files)) run.salted
        (lives.closed before run.old run.new (call ∷ []) (reply ∷ []) run.goes run.finds all (image_of g files) files r.closes clean (inl refl)).0

    crashed_continues : (reply : Reply) (r : CrashedRun words before salt call reply files) → AreClean g files.log files.db → Continues before (run_for salt call reply) (image_of g files)
    crashed_continues reply r clean =
        let run = r.run in
        let all = asked before salt call reply run (r.leaves.sound (r.clean clean)) in
        subst (λ (s : List ℕ). Continues before (run_for s call reply) (image_of g files)) run.salted
        (lives.served before run.old run.new (call ∷ []) (reply ∷ []) run.goes run.finds all (image_of g files) r.last r.leaves (r.clean clean) (r.left clean))

    module _ (answer : Answer) (a : Airspace) (stands : StandFor before a) (clean : AreClean g files.log files.db) where
      closed_spells : (r : ClosedRun words before salt call (Done answer) files) → ∥ FilesSpell Two (image_of g files) (after salt a call) ∥₁
      closed_spells r =
          let sound = r.closes.sound clean in
          let is = left before salt call (Done answer) r.run sound a stands in
          ∥∥₁_map (r.closes.held clean (whole before salt call (Done answer) r.run sound a stands) (image_of g files) (inl refl)) (λ it.
          subst (λ b. FilesSpell Two (image_of g files) b) (is.1.only it.0 it.1) it.2)

      crashed_spells : (r : CrashedRun words before salt call (Done answer) files) → ∥ FilesSpell Two (image_of g files) (after salt a call) ∥₁
      crashed_spells r =
          let sound = r.leaves.sound (r.clean clean) in
          let is = left before salt call (Done answer) r.run sound a stands in
          r.leaves.content (r.clean clean) (whole before salt call (Done answer) r.run sound a stands) (after salt a call) is.1 (image_of g files) (r.left clean)

      closed_answers : (r : ClosedRun words before salt call (Done answer) files) → (step salt a call.0 call.1).1 ≡ Done answer
      closed_answers r = (left before salt call (Done answer) r.run (r.closes.sound clean) a stands).0

      crashed_answers : (r : CrashedRun words before salt call (Done answer) files) → (step salt a call.0 call.1).1 ≡ Done answer
      crashed_answers r = (left before salt call (Done answer) r.run (r.leaves.sound (r.clean clean)) a stands).0

  -- Three runs over new files, on a disk that returned what was written, are a life.
  pub lives_thrice : (salt : List ℕ) (first second third : TimedCall) (told : Told) (new last : Files D) (runs : ThreeRuns words salt first second third told new last)
      → AreClean g runs.closed.log runs.closed.db → AreClean g runs.crashed.log runs.crashed.db → AreClean g last.log last.db → AreUnmade (image_of g new) → Life words salt first second third told
  lives_thrice salt first second third told new last runs clean₁ clean₂ clean₃ unmade =
      let a₁ = after salt (empty_at 0) first in
      let a₂ = after salt a₁ second in
      let start : StandFor (image_of g new) (empty_at 0) = inr (unmade, refl) in
      let one = closed_answers (image_of g new) salt first runs.closed told.first (empty_at 0) start clean₁ runs.first_run in
      let spelt = closed_spells (image_of g new) salt first runs.closed told.first (empty_at 0) start clean₁ runs.first_run in
      let stands₁ = λ (it : FilesSpell Two (image_of g runs.closed) a₁). let s : StandFor (image_of g runs.closed) a₁ = inl (Two, it) in s in
      let spelt₂ = ∥∥₁_elim spelt squash₁ (λ it. crashed_spells (image_of g runs.closed) salt second runs.crashed told.second a₁ (stands₁ it) clean₂ runs.second_run) in
      let stands₂ = λ (it : FilesSpell Two (image_of g runs.crashed) a₂). let s : StandFor (image_of g runs.crashed) a₂ = inl (Two, it) in s in
      let sound₂ = was_sound (image_of g runs.closed) salt second (Done told.second) runs.second_run.run (runs.second_run.leaves.sound (runs.second_run.clean clean₂)) in
      let sound₃ = was_sound (image_of g runs.crashed) salt third (Done told.third) runs.third_run.run (runs.third_run.closes.sound clean₃) in
      record {
        new = new;
        last = last;
        runs = runs;
        clean = (clean₁, clean₂, clean₃);
        unmade = unmade;
        lives = (
          image_of g runs.closed,
          closed_continues (image_of g new) salt first runs.closed (Done told.first) runs.first_run clean₁,
          (
            image_of g runs.crashed,
            crashed_continues (image_of g runs.closed) salt second runs.crashed (Done told.second) runs.second_run clean₂,
            (image_of g last, closed_continues (image_of g runs.crashed) salt third last (Done told.third) runs.third_run clean₃, refl),
          ),
        );
        created = has_created salt (empty_at 0) first told.first one;
        spelt = spelt;
        sound = (sound₂, sound₃);
        found = ∥∥₁_map spelt (λ it. runs.second_run.run.finds.spelt sound₂ Two a₁ it);
        found_again = ∥∥₁_map spelt₂ (λ it. runs.third_run.run.finds.spelt sound₃ Two a₂ it);
        answers = ∥∥₁_elim spelt squash₁ (λ it. ∥∥₁_map spelt₂ (λ later. three _ _ _ _ _ _ one
            (crashed_answers (image_of g runs.closed) salt second runs.crashed told.second a₁ (stands₁ it) clean₂ runs.second_run)
            (closed_answers (image_of g runs.crashed) salt third last told.third a₂ (stands₂ later) clean₃ runs.third_run)));
      }
