-- The protocol rules: their numbers, names and statuses.
use Rattle.std.specs.Prelude.{ℕ, List, codes}
use Rattle.wire_head.specs.declared.rule.WireRule.{WireRule}
use Rattle.wire_head.specs.declared.rule.WireRule.TheVariants.{Head, HeadSize, Transfer, Length, BodySize}

abbrev pub number_of : WireRule → ℕ
number_of Head = 1
number_of HeadSize = 2
number_of Transfer = 3
number_of Length = 4
number_of BodySize = 5

abbrev pub name_of : WireRule → List ℕ
name_of Head = codes "HEAD"
name_of HeadSize = codes "HEADSIZE"
name_of Transfer = codes "TRANSFER"
name_of Length = codes "LENGTH"
name_of BodySize = codes "BODYSIZE"

abbrev pub status_of : WireRule → ℕ
status_of Head = 400
status_of HeadSize = 431
status_of Transfer = 501
status_of Length = 400
status_of BodySize = 413
