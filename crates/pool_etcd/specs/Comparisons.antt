-- The comparisons with other organizations.
use Rattle.std.specs.Prelude.{◌≡◌, ℕ, ◌+◌, ◌<◌, List, [], ◌∷◌, ◌++◌, Bool, if◌then◌else◌}
use Rattle.std.specs.Str.{bytes_eq}
use Rattle.pool_etcd.specs.declared.comparisons.Comparison.{Comparison}

-- The comparisons without that with an organization.
abbrev pub without : (organization : List ℕ) → List Comparison → List Comparison
without organization [] = []
without organization (c ∷ comparisons) =
    if bytes_eq c.organization organization then comparisons
    else c ∷ without organization comparisons

-- The comparisons with the last one with an organization.
abbrev pub noted : (organization : List ℕ) → (differs : Bool) → List Comparison → List Comparison
noted organization differs comparisons =
    without organization comparisons ++ record { organization = organization; differs = differs } ∷ []

abbrev pub all_noted : (organization : List ℕ) → List Bool → List Comparison → List Comparison
all_noted organization [] comparisons = comparisons
all_noted organization (differs ∷ rest) comparisons =
    all_noted organization rest (noted organization differs comparisons)

-- The number of organizations that differ, and of those that agree.
abbrev pub differing : List Comparison → ℕ
differing [] = 0
differing (c ∷ comparisons) = (if c.differs then 1 else 0) + differing comparisons

abbrev pub agreeing : List Comparison → ℕ
agreeing [] = 0
agreeing (c ∷ comparisons) = (if c.differs then 0 else 1) + agreeing comparisons

-- Holds if more organizations differ than agree. The own one agrees.
abbrev pub IsDiverged : List Comparison → Type 0
IsDiverged comparisons = agreeing comparisons + 1 < differing comparisons

-- Whatever links one organization puts, it alone makes no instance of another one end.
abbrev pub OneOrganizationEndsNobody : Type 0
OneOrganizationEndsNobody =
    (organization : List ℕ) (links : List Bool) → IsDiverged (all_noted organization links []) → ⊥
