-- No change is pending in an in-memory space. All of it is proved. It is in `specs/` because a law
-- of an `impl` can cite only `specs/`.
use Rattle.std.specs.Prelude.{◌≡◌, false, true}

pub never : {P : Type 0} → false ≡ true → P
never waits = absurd (let no : false ≡ true = waits in cc)
