-- The numbers of the trees of the tables. `sqlite` numbers the trees of tables and indexes in the
-- order of their creation. The numbers between these are those of the indexes of keys. Those of the
-- other indexes follow.
use Rattle.std.specs.Prelude.{ℕ}

abbrev pub meta_tree : ℕ
meta_tree = 0

abbrev pub entity_tree : ℕ
entity_tree = 1

abbrev pub volume_tree : ℕ
volume_tree = 3

abbrev pub cell_tree : ℕ
cell_tree = 5

abbrev pub availability_tree : ℕ
availability_tree = 7

abbrev pub subscription_tree : ℕ
subscription_tree = 9

abbrev pub subscription_cell_tree : ℕ
subscription_cell_tree = 11

abbrev pub naming_tree : ℕ
naming_tree = 13

-- ---- the old order, in which earlier versions created the tables

-- In the old order the index on the ranges of cells precedes `availability`, and the one on the
-- ranges of cells of subscriptions precedes `naming`.
abbrev pub old_availability_tree : ℕ
old_availability_tree = 8

abbrev pub old_subscription_tree : ℕ
old_subscription_tree = 10

abbrev pub old_subscription_cell_tree : ℕ
old_subscription_cell_tree = 12

abbrev pub old_naming_tree : ℕ
old_naming_tree = 15
