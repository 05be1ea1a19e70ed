-- Lemmas: which calls are forward-looking.
use Rattle.std.specs.Prelude.{◌≡◌, ℕ, true, false, List, [], ◌∷◌, ◌++◌, map, Option, Some, None, is_some, refl}
use Rattle.std.proofs.Common.{sym, ap, ◌∙◌, subst}
use Rattle.std.specs.FinMap.{get}
use Rattle.grid_core.specs.Extent.{Region, region_of}
use Rattle.grid_core.specs.Volumes.{meets_some}
use Rattle.entity_core.specs.Airspace.{Airspace}
use Rattle.entity_core.specs.Entity.{kind_of, subscription_of}
use Rattle.entity_core.specs.Search.{is_for_near, is_naming}
use Rattle.entity_core.specs.Subscription.{wants}
use Rattle.entity_core.specs.declared.entity.Entity.{Entity}
use Rattle.entity_core.specs.declared.nature.Kind.{Kind}
use Rattle.entity_core.specs.declared.subscription.Sub.{Sub}
use Rattle.service_notify.specs.Notices.{touched, volumes_of}
use Rattle.service_purge.specs.Ahead.{BeginAfter, BeginsAfter, EntityIsAhead, IsUnnamed, TheseLookAhead}
use Rattle.entity_purge.specs.Purge.{ReferencesExist, is_due_for_purge, retained, sub_has_ended}
use Rattle.service_purge.proofs.Apart.{none_met, not_ended_stays, not_true}
use Rattle.service_purge.proofs.Leaves.{named_one}
use Rattle.entity_purge.proofs.Maps.{apart, both_hold}
use Rattle.entity_purge.proofs.Purges.{le_holds}

-- A subscription that meets a later area is not due.
near_later : (until : ℕ) (a : Airspace) (kind : Kind) (areas : List Region) (id : ℕ) (s : Sub) → BeginAfter until areas → is_for_near kind areas (id, s) ≡ true → is_due_for_purge until a (id, s) ≡ false
near_later until a kind areas id s begin near =
    let met : meets_some s.volume areas ≡ true = (both_hold (wants s.interest kind) (meets_some s.volume areas) near).1 in
    not_ended_stays until (retained until a.entities) id s
    (not_true (sub_has_ended until s) (meets_some s.volume areas) (λ h. none_met until s.volume areas (le_holds s.volume.time.1 until h) begin) met)

both_begin : (until : ℕ) (rs qs : List Region) → BeginAfter until rs → BeginAfter until qs → BeginAfter until (rs ++ qs)
both_begin until [] qs b c = c
both_begin until (r ∷ rs) qs b c = (b.0, both_begin until rs qs b.1 c)

old_begin : (until : ℕ) (o : Option Entity) → ((e : Entity) → o ≡ Some e → EntityIsAhead until e) → BeginsAfter until (volumes_of o)
old_begin until None ahead = tt
old_begin until (Some e) ahead = (ahead e refl).begins

-- If every referenced subscription exists, no entity references one that does not exist.
none_names : (until : ℕ) (a : Airspace) (id : ℕ) → ReferencesExist a → get a.subscriptions id ≡ None → IsUnnamed until a id
none_names until a id stand none k e there ended =
    elim (is_naming id (k, e)) as (λ b. is_naming id (k, e) ≡ b → b ≡ false) [
      | true ↦ λ names. absurd (apart (is_some (get a.subscriptions id)) (stand k e id there (named_one id (subscription_of e.nature) names)) (ap is_some none))
      | false ↦ λ names. refl
    ] refl

pub look_ahead : TheseLookAhead
look_ahead until a caller = record {
  query = λ kind area begin. record {
    begins = (begin, tt);
    names = λ e h. cc;
    names_sub = λ id s is there. cc;
    told = λ id s there h. cc;
    shows = λ id h. absurd h;
  };
  reading = λ kind id lasts. record {
    begins = tt;
    names = lasts;
    names_sub = λ k s is there. cc;
    told = λ k s there h. cc;
    shows = λ k h. absurd h;
  };
  creation = λ id put begin none fresh. record {
    begins = begin;
    names = λ e h. let no : None ≡ Some e = sym fresh ∙ h in cc;
    names_sub = none;
    told = λ k s there h. near_later until a (kind_of put.nature) (touched [] put.volumes) k s begin h;
    shows = λ k h. absurd h;
  };
  update = λ id ovn put begin none ahead. record {
    begins = begin;
    names = λ e h. (ahead e h).lasts;
    names_sub = none;
    told = λ k s there h. near_later until a (kind_of put.nature) (touched (volumes_of (get a.entities (kind_of put.nature, id))) put.volumes) k s
        (both_begin until (map region_of (volumes_of (get a.entities (kind_of put.nature, id)))) (map region_of put.volumes) (old_begin until (get a.entities (kind_of put.nature, id)) ahead) begin) h;
    shows = λ k h. absurd h;
  };
  deletion = λ kind id ovn ahead. record {
    begins = tt;
    names = λ e h. (ahead e h).lasts;
    names_sub = λ k s is there. cc;
    told = λ k s there h. near_later until a kind (touched (volumes_of (get a.entities (kind, id))) []) k s
        (both_begin until (map region_of (volumes_of (get a.entities (kind, id)))) [] (old_begin until (get a.entities (kind, id)) ahead) tt) h;
    shows = λ k h. absurd h;
  };
  sub_creation = λ id put begin stand fresh. record {
    begins = (begin, tt);
    names = λ e h. cc;
    names_sub = λ k s is there. let one : id ≡ k = cc in let no : None ≡ Some s = sym fresh ∙ (ap (get a.subscriptions) one ∙ there) in cc;
    told = λ k s there h. cc;
    shows = λ k is. subst (IsUnnamed until a) is (none_names until a id stand fresh);
  };
  availability = λ uss. record {
    begins = tt;
    names = λ e h. cc;
    names_sub = λ id s is there. cc;
    told = λ id s there h. cc;
    shows = λ id h. absurd h;
  };
  setting = λ uss old availability. record {
    begins = tt;
    names = λ e h. cc;
    names_sub = λ id s is there. cc;
    told = λ id s there h. cc;
    shows = λ id h. absurd h;
  };
}
