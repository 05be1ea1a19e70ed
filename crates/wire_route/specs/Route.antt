-- The paths of each endpoint, and their parameters. Paths are compared byte by byte, and nothing in
-- them is decoded.
use Rattle.std.specs.Prelude.{◌≡◌, ◌==◌, ◌&&◌, ◌++◌, ℕ, Bool, true, not, nat_lt, List, length, codes, Some, None}
use Rattle.std.specs.Str.{bytes_eq}
use Rattle.std.specs.List.{list_any}
use Rattle.wire_body.specs.Body.{Words}
use Rattle.wire_route.specs.declared.endpoint.Endpoint.{Endpoint}
use Rattle.wire_route.specs.declared.endpoint.Endpoint.TheVariants.{Query, Entity, EntityAtOvn, Availability, SubscriptionQuery, Subscription, SubscriptionAtVersion}
use Rattle.wire_route.specs.Endpoint.{front_of}

abbrev pub has_slash : List ℕ → Bool
has_slash text = list_any (λ b. b == 47) text

-- Returns true if the text is a path segment: not empty, and without a slash.
abbrev pub is_part : List ℕ → Bool
is_part text = nat_lt 0 (length text) && not (has_slash text)

-- Returns true if the segment may be an id: any segment but `query`.
abbrev pub may_be_id : List ℕ → Bool
may_be_id text = is_part text && not (bytes_eq text (codes "query"))

abbrev pub one_parameter : List ℕ → Words
one_parameter first = record { first = first; second = None }

abbrev pub two_parameters : List ℕ → List ℕ → Words
two_parameters first second = record { first = first; second = Some second }

-- Holds if the rest is a segment that may be an id, a slash, and another segment.
pub record AreTwoWords (rest : List ℕ) (words : Words) : Type 0 where
  pub id : List ℕ
  pub ovn : List ℕ
  pub splits : rest ≡ id ++ (codes "/" ++ ovn)
  pub names : may_be_id id ≡ true
  pub part : is_part ovn ≡ true
  pub words_are : words ≡ two_parameters id ovn

-- Holds if the rest may follow the prefix of the endpoint, and these are its parameters.
abbrev pub AreWordsOf : Endpoint → List ℕ → Words → Type 0
AreWordsOf (Query kind) rest words = (rest ≡ codes "query") × (words ≡ one_parameter rest)
AreWordsOf (Entity kind) rest words = (may_be_id rest ≡ true) × (words ≡ one_parameter rest)
AreWordsOf (EntityAtOvn kind) rest words = AreTwoWords rest words
AreWordsOf Availability rest words = (is_part rest ≡ true) × (words ≡ one_parameter rest)
AreWordsOf SubscriptionQuery rest words = (rest ≡ codes "query") × (words ≡ one_parameter rest)
AreWordsOf Subscription rest words = (may_be_id rest ≡ true) × (words ≡ one_parameter rest)
AreWordsOf SubscriptionAtVersion rest words = AreTwoWords rest words

-- Holds if the path leads to the endpoint, with these parameters.
abbrev pub IsRoute : List ℕ → Endpoint → Words → Type 0
IsRoute path endpoint words = (rest : List ℕ) × (path ≡ front_of endpoint ++ rest)
    × AreWordsOf endpoint rest words

-- Holds if the path leads to no endpoint.
abbrev pub HasNoRoute : List ℕ → Type 0
HasNoRoute path = (endpoint : Endpoint) (words : Words) → IsRoute path endpoint words → ⊥
