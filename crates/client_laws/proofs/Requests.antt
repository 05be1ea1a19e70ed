-- Requests that causes have, and lists that are parted.
use Rattle.std.proofs.Common.{◌≡◌, ◌∙◌, ◌+◌, ℕ, zero, suc, List, [], ◌∷◌, ◌++◌, drop, length, map, refl, ap}
use native.Mathlib.Omega.{arith}
use Rattle.std.proofs.lemmas.List.Concat.{flat_map-append}
use Rattle.wire_http.specs.Wire.{RequestCall}
use Rattle.server_clients.specs.ClientEvents.{Asks, EndsStream, ReadsClock, Steps}
use Rattle.server_clients.specs.ServerEvents.{Accepts, Acts, Closes, Confirms, Looks, Moves, Refuses, ServerEvent, Stops, Tells, Works}
use Rattle.database_laws.specs.Requests.{all_requests, requests_in}
use Rattle.database_laws.specs.Responses.{Cause, Finishes, Requests, all_causes}

-- The requests of causes.
abbrev pub asked_in : List Cause → List RequestCall
asked_in [] = []
asked_in (Requests key asked responds ∷ more) = asked ∷ asked_in more
asked_in (Finishes key end ∷ more) = asked_in more

pub asked_by : (events : List ServerEvent) → asked_in (all_causes events) ≡ all_requests events
asked_by [] = refl
asked_by (Acts key name (Asks asked made received texts lost) ∷ events) = ap (λ (v : List RequestCall). asked ∷ v) (asked_by events)
asked_by (Acts key name (EndsStream end) ∷ events) = asked_by events
asked_by (Acts key name (Steps step) ∷ events) = asked_by events
asked_by (Acts key name (ReadsClock moment) ∷ events) = asked_by events
asked_by (Accepts key name ∷ events) = asked_by events
asked_by (Refuses name ∷ events) = asked_by events
asked_by (Tells event ticket outcome lost ∷ events) = asked_by events
asked_by (Works event ∷ events) = asked_by events
asked_by (Moves moment held now ∷ events) = asked_by events
asked_by (Looks now found ∷ events) = asked_by events
asked_by (Confirms ∷ events) = asked_by events
asked_by (Stops ∷ events) = asked_by events
asked_by (Closes key ∷ events) = asked_by events

pub parted : (before during rest : List ServerEvent) (key name : ℕ) → all_requests (before ++ Accepts key name ∷ (during ++ rest)) ≡ all_requests before ++ (all_requests during ++ all_requests rest)
parted before during rest key name =
    flat_map-append requests_in before (Accepts key name ∷ (during ++ rest)) ∙ ap (λ (v : List RequestCall). all_requests before ++ v) (flat_map-append requests_in during rest)

module _ {X Y : Type 0} (f : X → Y) where
  drop_one : (ys zs : List X) → drop (length ys) (map f (ys ++ zs)) ≡ map f zs
  drop_one [] zs = refl
  drop_one (y ∷ ys) zs = drop_one ys zs

  -- What is left of a list behind its first two parts.
  pub drop_two : (xs ys zs : List X) → drop (length xs + length ys) (map f (xs ++ (ys ++ zs))) ≡ map f zs
  drop_two [] ys zs =
      let none : zero + length ys ≡ length ys = omega arith in
      ap (λ (n : ℕ). drop n (map f (ys ++ zs))) none ∙ drop_one ys zs
  drop_two (x ∷ xs) ys zs =
      let one : suc (length xs) + length ys ≡ suc (length xs + length ys) = omega arith in
      ap (λ (n : ℕ). drop n (f x ∷ map f (xs ++ (ys ++ zs)))) one ∙ drop_two xs ys zs
