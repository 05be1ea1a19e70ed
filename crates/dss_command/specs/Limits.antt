-- The line with the limits of the command `serve`.
use Rattle.std.specs.Prelude.{ℕ, List, Option, Some, None, ◌++◌, codes, decimal}

-- The line with its line end: the maximum number of clients at once, the number of connections if
-- limited, and the quota of each USS if there is one.
abbrev pub limits_line : ℕ → Option ℕ → Option ℕ → List ℕ
limits_line clients None None =
    codes "dss: limits: "
    ++ (decimal clients ++ codes " clients at once, any number of connections\n")
limits_line clients (Some count) None =
    codes "dss: limits: "
    ++ (decimal clients ++ (codes " clients at once, " ++ (decimal count ++ codes " connections\n")))
limits_line clients None (Some most) =
    codes "dss: limits: "
    ++ (decimal clients
    ++ (codes " clients at once, any number of connections, at most "
    ++ (decimal most ++ codes " kept of each supplier\n")))
limits_line clients (Some count) (Some most) =
    codes "dss: limits: "
    ++ (decimal clients
    ++ (codes " clients at once, "
    ++ (decimal count
    ++ (codes " connections, at most " ++ (decimal most ++ codes " kept of each supplier\n")))))
