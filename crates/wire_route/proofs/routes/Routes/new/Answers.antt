use Rattle.std.proofs.Common.{refl}
use Rattle.wire_route.specs.Table.{table}
use Rattle.wire_route.proofs.Tables.{fits_1, fits_2, fits_3, fits_4, fits_5, fits_6, fits_7, fits_8, fits_9, fits_10}
use Rattle.wire_route.proofs.routes.Routes.new.Goals as goal

pub put-requires : goal.put-requires
put-requires c = rw (c.new-router.ensures) fits_1

pub put-requires-2 : goal.put-requires-2
put-requires-2 c = rw (c.in_ok-put.ensures, c.new-router.ensures) fits_2

pub put-requires-3 : goal.put-requires-3
put-requires-3 c = rw (c.in_ok-put-2.ensures, c.in_ok-put.ensures, c.new-router.ensures) fits_3

pub put-requires-4 : goal.put-requires-4
put-requires-4 c = rw (c.in_ok-put-3.ensures, c.in_ok-put-2.ensures, c.in_ok-put.ensures, c.new-router.ensures) fits_4

pub put-requires-5 : goal.put-requires-5
put-requires-5 c = rw (c.in_ok-put-4.ensures, c.in_ok-put-3.ensures, c.in_ok-put-2.ensures, c.in_ok-put.ensures, c.new-router.ensures) fits_5

pub put-requires-6 : goal.put-requires-6
put-requires-6 c = rw (c.in_ok-put-5.ensures, c.in_ok-put-4.ensures, c.in_ok-put-3.ensures, c.in_ok-put-2.ensures, c.in_ok-put.ensures, c.new-router.ensures) fits_6

pub put-requires-7 : goal.put-requires-7
put-requires-7 c = rw (c.in_ok-put-6.ensures, c.in_ok-put-5.ensures, c.in_ok-put-4.ensures, c.in_ok-put-3.ensures, c.in_ok-put-2.ensures, c.in_ok-put.ensures, c.new-router.ensures) fits_7

pub put-requires-8 : goal.put-requires-8
put-requires-8 c = rw (c.in_ok-put-7.ensures, c.in_ok-put-6.ensures, c.in_ok-put-5.ensures, c.in_ok-put-4.ensures, c.in_ok-put-3.ensures, c.in_ok-put-2.ensures, c.in_ok-put.ensures, c.new-router.ensures) fits_8

pub put-requires-9 : goal.put-requires-9
put-requires-9 c = rw (c.in_ok-put-8.ensures, c.in_ok-put-7.ensures, c.in_ok-put-6.ensures, c.in_ok-put-5.ensures, c.in_ok-put-4.ensures, c.in_ok-put-3.ensures, c.in_ok-put-2.ensures, c.in_ok-put.ensures, c.new-router.ensures) fits_9

pub put-requires-10 : goal.put-requires-10
put-requires-10 c = rw (c.in_ok-put-9.ensures, c.in_ok-put-8.ensures, c.in_ok-put-7.ensures, c.in_ok-put-6.ensures, c.in_ok-put-5.ensures, c.in_ok-put-4.ensures, c.in_ok-put-3.ensures, c.in_ok-put-2.ensures, c.in_ok-put.ensures, c.new-router.ensures) fits_10

pub invariant_of-result : goal.invariant_of-result
unfolding table
invariant_of-result c =
    rw (
      c.in_ok-put-10.ensures,
      c.in_ok-put-9.ensures,
      c.in_ok-put-8.ensures,
      c.in_ok-put-7.ensures,
      c.in_ok-put-6.ensures,
      c.in_ok-put-5.ensures,
      c.in_ok-put-4.ensures,
      c.in_ok-put-3.ensures,
      c.in_ok-put-2.ensures,
      c.in_ok-put.ensures,
      c.new-router.ensures,
    ) refl
