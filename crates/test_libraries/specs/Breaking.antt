-- The inner space of a space that is not broken.
use Rattle.std.specs.Prelude.{◌≡◌, ◌||◌, Bool, true, false}

-- If neither space is broken, the inner one is not.
pub unbroken_inside : (own inside : Bool) → (own || inside) ≡ false → inside ≡ false
unbroken_inside true inside h = cc
unbroken_inside false inside h = h
