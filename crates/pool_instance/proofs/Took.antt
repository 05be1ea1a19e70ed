-- Lemmas: an entry that was taken, or given as the instance ended.
use Rattle.std.proofs.Common.{◌≡◌, ◌==◌, ℕ, Bool, true, false, List, [], ◌∷◌, map, Option, Some, None, Ok, refl, sym, ap, subst, ◌∙◌, inr}
use Rattle.std.specs.List.{flat_map}
use Rattle.std.specs.declared.vec.Vec.{Vec}
use Rattle.space_core.specs.declared.space.Space as spaces
use Rattle.service_step.specs.declared.reply.Reply.{Reply}
use Rattle.pool_core.specs.Log.{Continues, GivesEntry, LogEntry}
use Rattle.pool_core.specs.declared.log.Log as logs
use Rattle.pool_entry.specs.Acts.{acts_of}
use Rattle.pool_instance.specs.Does.{AreTold, FailedSo, TookSo}
use Rattle.pool_instance.specs.Effects.{HearsEntry, MadeEntry, MakesEntry, TellsOwn, with_end}
use Rattle.pool_instance.specs.Parts.{heard_in, ids_of, is_ended, log_of, number_of, readings_in, sent_by, sent_in, unsent_in}
use Rattle.pool_instance.specs.declared.fault.InstanceFault.TheVariants.{Ended}
use Rattle.pool_instance.specs.declared.instance.Instance.{Instance}
use Rattle.pool_instance.proofs.After.{Stayed}
use Rattle.pool_instance.proofs.Entries.{did_end_given, did_take}
use Rattle.pool_instance.proofs.Take.{told_ids}

module _ {L S : Type 0} (gl : logs.Ghosts L) (gs : spaces.Ghosts S) where
  abbrev numbers : List (ℕ × Reply) → List ℕ
  numbers told = map (λ (t : ℕ × Reply). t.0) told

  told_false : (old new : Instance L S) (replies : List Reply) (told : List (ℕ × Reply)) → TellsOwn false old.in_flight new.in_flight replies told → AreTold gl gs old new false (numbers told)
  told_false old new replies told own = (ap (λ (v : List (ℕ × Reply)). numbers v) own.0, ap (λ v. sent_by v) own.1)

  module _ (old new : Instance L S) (entry : LogEntry) (l : L) (history : Continues (gl.history (log_of old)) (gl.history l) (GivesEntry entry ∷ [])) (writer : gl.writer l ≡ gl.writer (log_of old)) where
    abbrev mid : Instance L S
    mid = record old { log = l }

    given_stayed : {A : Type 0} (result : Option (Vec (ℕ × Reply) A)) → MakesEntry gl gs entry mid new result → Stayed gl gs old new (GivesEntry entry ∷ [])
    given_stayed result m = record {
      history = subst (λ (v : L). Continues (gl.history (log_of old)) (gl.history v) (GivesEntry entry ∷ [])) (sym m.log) history;
      writer = ap (λ (v : L). gl.writer v) m.log ∙ writer;
      salt = m.stays.salt;
      retention = m.retention;
      sound = m.stays.sound;
    }

    pub took_end : {A : Type 0} (result : Option (Vec (ℕ × Reply) A)) → result ≡ None → MakesEntry gl gs entry mid new result → FailedSo gl gs old (with_end new) Ended
    took_end result none m =
        let stayed = given_stayed result m in (
          refl,
          ap (λ v. ids_of v (unsent_in new) (sent_in new)) m.readings ∙ ap (λ v. ids_of (readings_in old) v (sent_in new)) m.unsent ∙ ap (λ v. ids_of (readings_in old) (unsent_in old) v) (m.fails none),
          inr (entry, did_end_given gl gs old (with_end new) entry (record { history = stayed.history; writer = stayed.writer; salt = stayed.salt; retention = stayed.retention; sound = stayed.sound }) refl m.readings m.unsent (m.fails none) m.received (m.deaf none)),
        )

    made_entry : {A : Type 0} (told : Vec (ℕ × Reply) A) → MakesEntry gl gs entry mid new (Some told) → MadeEntry gl gs entry old new told.items
    made_entry told m = record {
      taken = m.makes.taken;
      replies = m.makes.replies;
      made = m.makes.made;
      own = subst (λ (n : ℕ). TellsOwn (entry.writer == n) old.in_flight new.in_flight m.makes.replies told.items) writer m.makes.own;
      hears = subst (λ (n : ℕ). HearsEntry (entry.writer == n) (acts_of entry.bytes) (heard_in old) (heard_in new)) writer m.makes.hears;
    }

    pub did_took : {A : Type 0} (told : Vec (ℕ × Reply) A) → is_ended old ≡ false → MakesEntry gl gs entry mid new (Some told) → (b : Bool) → (entry.writer == gl.writer (log_of old)) ≡ b
        → ((replies : List Reply) → TellsOwn b old.in_flight new.in_flight replies told.items → AreTold gl gs old new b (numbers told.items)) → TookSo gl gs old new (Ok (Some told))
    did_took told going m b is tell =
        let made = made_entry told m in (
          entry,
          did_take gl gs old new entry told.items going (given_stayed (Some told) m) m.readings m.unsent m.received m.ended made,
          made.taken,
          m.ended ∙ going,
          subst (λ (v : Bool). AreTold gl gs old new v (numbers told.items)) (sym is)
              (tell made.replies (subst (λ (v : Bool). TellsOwn v old.in_flight new.in_flight made.replies told.items) is made.own)),
        )

  told_true : {A : Type 0} (f f' : Option (Vec (Option ℕ) A)) (replies : List Reply) (told : List (ℕ × Reply)) → TellsOwn true f f' replies told → (numbers told ≡ flat_map number_of (sent_by f)) × (sent_by f' ≡ [])
  told_true None f' replies told own = absurd own
  told_true (Some sent) f' replies told own = (ap (λ (v : List (ℕ × Reply)). numbers v) own.1 ∙ told_ids sent.items replies own.0, ap (λ v. sent_by v) own.2)

  are_told : (old new : Instance L S) (b : Bool) (replies : List Reply) (told : List (ℕ × Reply)) → TellsOwn b old.in_flight new.in_flight replies told → AreTold gl gs old new b (numbers told)
  are_told old new true replies told own = told_true old.in_flight new.in_flight replies told own
  are_told old new false replies told own = told_false old new replies told own

  -- The instance took an entry.
  pub took_some : {A : Type 0} (old new : Instance L S) (entry : LogEntry) (l : L) (told : Vec (ℕ × Reply) A) → Continues (gl.history (log_of old)) (gl.history l) (GivesEntry entry ∷ []) → gl.writer l ≡ gl.writer (log_of old)
      → is_ended old ≡ false → MakesEntry gl gs entry (record old { log = l }) new (Some told) → TookSo gl gs old new (Ok (Some told))
  took_some old new entry l told history writer going m =
      did_took old new entry l history writer told going m (entry.writer == gl.writer (log_of old)) refl
      (λ replies own. are_told old new (entry.writer == gl.writer (log_of old)) replies told.items own)
