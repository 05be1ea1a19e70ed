-- Lemmas: a purge preserves what is known of an airspace after a run.
use Rattle.std.specs.Prelude.{◌≡◌, ℕ, List, [], ◌∷◌, Some}
use Rattle.std.proofs.Common.{sym, subst}
use Rattle.std.specs.List.{AllByRecursion}
use Rattle.std.specs.FinMap.{entries, get}
use Rattle.entity_core.specs.Airspace.{Airspace, EntityKey}
use Rattle.entity_core.specs.declared.entity.Entity.{Entity}
use Rattle.entity_core.proofs.Keys.{key_total, key_exact}
use Rattle.entity_purge.specs.Purge.{IsPartlyPurged}
use Rattle.entity_purge.proofs.Maps.{all_at, each_found}
use Rattle.entity_purge.proofs.Chunks.{part_proper, same_serial}
use Rattle.service_calls.specs.Stale.{IsNumbered}
use Rattle.service_purge.specs.Kept.{PurgeKeepsAware, PurgeKeepsCounts, PurgeKeepsNumbers}

pub keeps_counts : PurgeKeepsCounts
keeps_counts until salt from cs rs a b part counted id s h = counted id s (part.subscriptions id s h)

pub keeps_aware : PurgeKeepsAware
keeps_aware until salt from cs rs a b part aware = record {
  proper = part_proper until a b part aware.proper;
  serials = λ k l x y h g. aware.serials k l x y (part.entities k x h) (part.entities l y g);
  knew = λ k l x y h g. aware.knew k l x y (part.entities k x h) (part.entities l y g);
}

all_numbered : (salt : List ℕ) (a b : Airspace) (until : ℕ) (es : List (EntityKey × Entity)) → IsPartlyPurged until a b → AllByRecursion (λ e. IsNumbered salt a.serial e.1) (entries a.entities) → AllByRecursion (λ e. get b.entities e.0 ≡ Some e.1) es
    → AllByRecursion (λ e. IsNumbered salt b.serial e.1) es
all_numbered salt a b until [] part all there = tt
all_numbered salt a b until (e ∷ es) part all there = (
  subst (λ (n : ℕ). IsNumbered salt n e.1) (sym (same_serial until a b part)) (all_at key_exact (λ x. IsNumbered salt a.serial x.1) a.entities e.0 e.1 (part.entities e.0 e.1 there.0) all),
  all_numbered salt a b until es part all there.1,
)

pub keeps_numbers : PurgeKeepsNumbers
keeps_numbers until salt a b part all = all_numbered salt a b until (entries b.entities) part all (each_found key_total b.entities)
