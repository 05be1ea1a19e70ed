-- Proofs of what the statements mean.
use Rattle.std.proofs.Common.{◌≡◌, ℕ, List, refl, codes, [], ◌∷◌, None, pos, negsuc, false, map}
use Rattle.sqlite.specs.declared.types.Value.TheVariants.{Int}
use Rattle.sqlite_tied.specs.Compute.{everything}
use Rattle.sqlite.specs.Listing.{understood, reads_listing}
use Rattle.sqlite.proofs.Callers.{IsPlain, command_of}
use Rattle.sqlite.specs.Command.TheVariants.{Select}
use Rattle.sqlite.specs.Query.{Query, inner, end}
use Rattle.sqlite.specs.Term.{Term, lit, col}
use Rattle.sqlite_value.specs.Keys.{ascending}
use Rattle.sqlite_value.specs.declared.keys.Key.{Key}
use Rattle.sqlite.specs.Collation.TheVariants.{Binary}
use Rattle.space_sql_schema.specs.Tables.{dss_schema}
use Rattle.space_sql_select.proofs.Texts.{metas_read}

-- The query that shows some columns of all rows of a table that pass some tests.
abbrev pub simple : ℕ → List Term → List Term → Query
simple t filter project = record {
  from = inner t end;
  filter = filter;
  group = None;
  project = project;
  distinct = false;
  collations = [];
  order = [];
  limit = lit (Int (negsuc 0));
  offset = lit (Int (pos 0));
}

abbrev pub up : ℕ → Term × Key
up place = (col 1 place, ascending Binary)

abbrev pub cols : List ℕ → List Term
cols places = map (col 1) places

-- The query that shows some columns of the rows of a table that pass some tests, in an order.
abbrev pub listing : ℕ → List Term → List ℕ → List ℕ → Query
listing t tests shown order = record (simple t tests (cols shown)) { order = map up order }

-- Holds if the text means such a query without tests.
pub record Lists (text : List ℕ) (t : ℕ) (shown order : List ℕ) : Type 0 where
  pub names : List (List ℕ)
  pub is : command_of (understood dss_schema text) ≡ Select (record { lets = []; body = listing t [] shown order }) names
  pub plain : IsPlain (understood dss_schema text)
  pub unlisted : reads_listing dss_schema text ≡ false

pub metas_list : Lists metas_read 0 (0 ∷ 2 ∷ 3 ∷ []) []
unfolding understood everything
metas_list = record { names = codes "one" ∷ codes "format" ∷ codes "serial" ∷ []; is = refl; plain = (refl, refl); unlisted = refl }
