-- Definitions of notices, gathered by URL.
use Rattle.std.specs.Prelude.{◌≡◌, ℕ, Bool, List, Option, Some, None, if◌then◌else◌}
use Rattle.std.specs.BTreeMap.{BTreeMap, get_by}
use Rattle.std.specs.Borrow.{Bor}
use Rattle.std.specs.List.{list_any}
use Rattle.entity_core.specs.Airspace.{text_cmp}
use Rattle.entity_core.specs.IdTexts.{same_text}
use Rattle.entity_core.specs.declared.subscription.Sub.{Sub}
use Rattle.service_notify.specs.Notices.{notice_at}
use Rattle.service_notify.specs.declared.notice.Notify.{Notify}

-- Returns true if some subscription has the URL.
abbrev pub is_url_of : List Sub → List ℕ → Bool
is_url_of ss url = list_any (λ s. same_text s.url url) ss

-- The notice at a URL, if some subscription has it.
abbrev pub notified_url_at : List Sub → List ℕ → Option Notify
notified_url_at ss url = if is_url_of ss url then Some (notice_at ss url) else None

-- Holds if the map has, at each URL, the notice of the subscriptions there.
abbrev pub IsNotifiedAt : List Sub → BTreeMap (Bor (List ℕ)) Notify → Type 0
IsNotifiedAt ss told =
    (url : List ℕ) → get_by (λ k. text_cmp url k.now) told ≡ notified_url_at ss url
