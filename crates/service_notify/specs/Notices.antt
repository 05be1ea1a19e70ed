-- Definitions of the subscriptions that a change of an entity notifies, and of the notices.
use Rattle.std.specs.Prelude.{ℕ, Bool, false, List, [], ◌++◌, map, filter, Option, Some, None}
use Rattle.std.specs.FinMap.{entries, from_entries, get}
use Rattle.grid_core.specs.Extent.{Extent, Region, region_of}
use Rattle.entity_core.specs.Airspace.{Airspace, text_cmp, notified_again, with_notified_subs}
use Rattle.entity_core.specs.Entity.{kind_of}
use Rattle.entity_core.specs.IdTexts.{same_text}
use Rattle.entity_core.specs.Search.{is_for_near, subscribers_in}
use Rattle.entity_core.specs.declared.entity.Entity.{Entity}
use Rattle.entity_core.specs.declared.nature.Kind.{Kind}
use Rattle.entity_core.specs.declared.subscription.Sub.{Sub}
use Rattle.policy_core.specs.declared.call.Operation.{Operation}
use Rattle.policy_core.specs.declared.call.Operation.TheVariants.{Create, Update, Delete}
use Rattle.service_notify.specs.declared.notice.Notify.{Notify}

-- ---- notified subscriptions

-- The areas of the old and of the new volumes of an entity.
abbrev pub touched : List Extent → List Extent → List Region
touched old new = map region_of old ++ map region_of new

-- The volumes of an entity, if there is one.
abbrev pub volumes_of : Option Entity → List Extent
volumes_of None = []
volumes_of (Some e) = e.volumes

-- Returns true if a call in an airspace notifies a subscription. It is for the kind of the created,
-- updated or deleted entity, and its volume meets an old or a new volume of it. Its manager does
-- not matter.
abbrev pub notifies : Airspace → Operation → ℕ × Sub → Bool
notifies a (Create id put) s = is_for_near (kind_of put.nature) (touched [] put.volumes) s
notifies a (Update id ovn put) s =
    is_for_near (kind_of put.nature)
    (touched (volumes_of (get a.entities (kind_of put.nature, id))) put.volumes) s
notifies a (Delete kind id ovn) s =
    is_for_near kind (touched (volumes_of (get a.entities (kind, id))) []) s
notifies a op s = false

-- The airspace after the subscriptions that are for a kind and meet an area were notified.
abbrev pub with_notified : Kind → List Region → Airspace → Airspace
with_notified kind areas a = with_notified_subs a (is_for_near kind areas)

-- The notified subscriptions, in ascending order of ids, with their new indexes.
abbrev pub notified_in : Airspace → Kind → List Region → List Sub
notified_in a kind areas = map notified_again (subscribers_in a.subscriptions kind areas)

-- ---- notices

-- A URL as a key, without a value.
abbrev pub alone : List ℕ → List ℕ × Unit {0}
alone url = (url, tt)

-- The URLs of some subscriptions, each once, in the order of their bytes.
unfoldable pub urls_of : List Sub → List (List ℕ)
urls_of ss = map (λ e. e.0) (entries (from_entries {R = text_cmp} (map (λ s. alone s.url) ss)))

-- The id and the index of each subscription that has a URL, in their order.
abbrev pub states_at : List Sub → List ℕ → List (ℕ × ℕ)
states_at ss url = map (λ s. (s.id, s.index)) (filter (λ s. same_text s.url url) ss)

-- The notice at a URL.
abbrev pub notice_at : List Sub → List ℕ → Notify
notice_at ss url = record { url = url; states = states_at ss url }

-- The notice of each URL.
abbrev pub notices_of : List Sub → List Notify
notices_of ss = map (notice_at ss) (urls_of ss)

-- The notices that a change of an entity of a kind causes, given the areas that it touches.
abbrev pub notices_in : Airspace → Kind → List Region → List Notify
notices_in a kind areas = notices_of (notified_in a kind areas)
