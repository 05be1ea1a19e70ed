use Rattle.std.proofs.Common.{◌≡◌, take}
use Rattle.std.specs.Str.Parse.{AllDigits, digits_value}
use Rattle.grid_core.proofs.token.value_of.Given as goal

abbrev pub invariant-loop-byte : goal.invariant-loop-byte
invariant-loop-byte l = record {
  digits : AllDigits 16 (take l.byte-index l.text);
  value : l.value ≡ digits_value 16 (take l.byte-index l.text);
}
