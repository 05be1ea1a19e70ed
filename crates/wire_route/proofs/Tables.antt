-- Lemmas: the rows of the routes.
use Rattle.std.proofs.Common.{[], refl}
use Rattle.matchit.proofs.OnLiterals.{matchit_on_literals}
use Rattle.entity_core.specs.declared.nature.Kind.TheVariants.{Intent, Constraint}
use Rattle.wire_route.specs.declared.endpoint.Endpoint.TheVariants.{Query, Entity, EntityAtOvn, Availability, SubscriptionQuery, Subscription, SubscriptionAtVersion}
use Rattle.wire_route.specs.Table.{Rows, Fits, with_route}

abbrev pub rows_1 : Rows
rows_1 = with_route (Query Intent) []

abbrev pub rows_2 : Rows
rows_2 = with_route (Entity Intent) rows_1

abbrev pub rows_3 : Rows
rows_3 = with_route (EntityAtOvn Intent) rows_2

abbrev pub rows_4 : Rows
rows_4 = with_route (Query Constraint) rows_3

abbrev pub rows_5 : Rows
rows_5 = with_route (Entity Constraint) rows_4

abbrev pub rows_6 : Rows
rows_6 = with_route (EntityAtOvn Constraint) rows_5

abbrev pub rows_7 : Rows
rows_7 = with_route Availability rows_6

abbrev pub rows_8 : Rows
rows_8 = with_route SubscriptionQuery rows_7

abbrev pub rows_9 : Rows
rows_9 = with_route Subscription rows_8

pub fits_1 : Fits (Query Intent) []
unfolding matchit_on_literals with_route Fits
fits_1 = refl

pub fits_2 : Fits (Entity Intent) rows_1
unfolding matchit_on_literals with_route Fits
fits_2 = refl

pub fits_3 : Fits (EntityAtOvn Intent) rows_2
unfolding matchit_on_literals with_route Fits
fits_3 = refl

pub fits_4 : Fits (Query Constraint) rows_3
unfolding matchit_on_literals with_route Fits
fits_4 = refl

pub fits_5 : Fits (Entity Constraint) rows_4
unfolding matchit_on_literals with_route Fits
fits_5 = refl

pub fits_6 : Fits (EntityAtOvn Constraint) rows_5
unfolding matchit_on_literals with_route Fits
fits_6 = refl

pub fits_7 : Fits Availability rows_6
unfolding matchit_on_literals with_route Fits
fits_7 = refl

pub fits_8 : Fits SubscriptionQuery rows_7
unfolding matchit_on_literals with_route Fits
fits_8 = refl

pub fits_9 : Fits Subscription rows_8
unfolding matchit_on_literals with_route Fits
fits_9 = refl

pub fits_10 : Fits SubscriptionAtVersion rows_9
unfolding matchit_on_literals with_route Fits
fits_10 = refl
