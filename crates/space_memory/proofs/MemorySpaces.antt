-- The empty in-memory space, and the notification indexes after a change.
use Rattle.std.specs.Prelude.{◌≡◌, ℕ, ◌<◌, ◌≤◌, List, [], Some, None}
use Rattle.std.specs.Ordering.{nat_cmp}
use Rattle.std.specs.FinMap.{get, get-empty}
use Rattle.std.proofs.Common.{arith, sym, ap, ◌∙◌, subst}
use Rattle.entity_core.specs.declared.entity.Entity.{Entity}
use Rattle.entity_core.specs.declared.subscription.Sub.{Sub}
use Rattle.entity_core.specs.Airspace.{Airspace, empty_at, is_one_of, IsAirspace, key_cmp, Subscriptions, text_cmp}
use Rattle.entity_core.proofs.Changes.{proper_with_told, proper_without_told, proper_stated, proper_sub, proper_without_sub}
use Rattle.entity_core.specs.Serial.{max_serial}
use Rattle.entity_maps.specs.declared.availabilities.AvailabilityEntry.{AvailabilityEntry}
use Rattle.entity_maps.specs.Entities.{entity_map}
use Rattle.entity_maps.specs.Entities.{pair_of as entity_pair}
use Rattle.entity_maps.specs.Availabilities.{availability_map}
use Rattle.entity_maps.specs.Subscriptions.{AllNotified, CanNotify, subscription_map}
use Rattle.entity_maps.specs.Subscriptions.{pair_of as sub_pair}
use Rattle.space_core.specs.Space.{Fits, changed}
use Rattle.space_core.specs.declared.space.Change.{Change}
use Rattle.space_core.specs.declared.space.Change.TheVariants.{Put, Remove, Avail, PutSub, RemoveSub}
use Rattle.entity_maps.specs.Availabilities.{pair_of as setting_pair}
use Rattle.entity_maps.specs.Lists.{airspace_of}
use Rattle.space_memory.specs.Memory.{CanFollow}
use Rattle.entity_maps.proofs.Maps.{map_of_none}

pub empty_content : (es : List Entity) (ss : List Sub) (settings : List AvailabilityEntry) (n : ℕ) → es ≡ [] → ss ≡ [] → settings ≡ [] → empty_at n ≡ airspace_of es ss settings n
empty_content es ss settings n p r q = λ i. record {
  entities = (sym (ap entity_map p ∙ map_of_none key_cmp entity_pair)) i;
  subscriptions = (sym (ap subscription_map r ∙ map_of_none nat_cmp sub_pair)) i;
  availabilities = (sym (ap availability_map q ∙ map_of_none text_cmp setting_pair)) i;
  serial = n;
}

-- Without subscriptions, no index exceeds any serial.
pub none_told : (ss : List Sub) (n : ℕ) → ss ≡ [] → AllNotified ss n
none_told ss n e id s h =
    let none : None ≡ Some s = sym (get-empty nat_cmp id) ∙ (ap (λ (m : Subscriptions). get m id) (sym (ap subscription_map e ∙ map_of_none nat_cmp sub_pair)) ∙ h) in cc

-- An in-memory space can replicate a change that fits.
pub can_follow : (change : Change) (told : List ℕ) (a : Airspace) → Fits change told a → CanFollow change a
can_follow (Put e) told a fits = record { room = fits.room; within = tt }
can_follow (Remove kind id) told a fits = record { room = fits.room; within = tt }
can_follow (Avail uss availability version) told a fits = record { room = fits.room; within = tt }
can_follow (PutSub s) told a fits = record { room = fits.room; within = fits.due.1 }
can_follow (RemoveSub id) told a fits = record { room = fits.room; within = tt }

-- A change that can be replicated leaves a valid airspace.
pub proper_changed : (change : Change) (told : List ℕ) (a : Airspace) → CanFollow change a → IsAirspace a → IsAirspace (changed change told a)
proper_changed (Put e) told a can proper = proper_with_told a e (is_one_of told) proper
proper_changed (Remove kind id) told a can proper = proper_without_told a (kind, id) (is_one_of told) proper
proper_changed (Avail uss availability version) told a can proper = proper_stated a uss (availability, version) proper
proper_changed (PutSub s) told a can proper = proper_sub a s can.within proper
proper_changed (RemoveSub id) told a can proper = proper_without_sub a id proper

-- The indexes of an in-memory space do not exceed its serial.
pub told_after : (change : Change) (told : List ℕ) (a : Airspace) (es : List Entity) (ss : List Sub) (settings : List AvailabilityEntry) (n : ℕ) → CanFollow change a → IsAirspace a → airspace_of es ss settings n ≡ changed change told a → AllNotified ss n
told_after change told a es ss settings n can proper is = (subst IsAirspace (sym is) (proper_changed change told a can proper)).told

-- Below the maximum serial each index can be incremented.
pub can_rise : (ss : List Sub) (n : ℕ) → AllNotified ss n → n < max_serial → CanNotify ss
can_rise ss n told room id s there = let within : s.index ≤ n = told id s there in omega (arith, within, room)
