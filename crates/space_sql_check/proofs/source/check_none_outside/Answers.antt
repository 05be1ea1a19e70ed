use Rattle.std.proofs.Common.{◌≡◌, ◌∙◌, [], ◌∷◌, length, ℕ, Bool, true, ap, refl, subst, sym, List}
use Rattle.std.proofs.Math.Dec.{eqb-suc-zero}
use Rattle.std.specs.Prelude.{◌==◌}
use Rattle.sqlite.specs.Held.{state}
use Rattle.sqlite.specs.declared.types.Value.TheVariants.{Int}
use Rattle.space_sql_select.specs.Selecting.{Answers, IsSelect}
use Rattle.space_sql_select.proofs.Readings.{reads_asked}
use Rattle.space_sql_check.specs.Source.{outside_text}
use Rattle.space_sql_check.specs.Parts.{HasNoneOutside, least, greatest}
use Rattle.space_sql_check.proofs.Sequences.{reads_so}
use Rattle.space_sql_check.proofs.Shown.{outside_select, outside_shown}
use Rattle.space_sql_check.proofs.source.check_none_outside.Goals as goal

is_none : {X : Type 0} (xs : List X) (n : ℕ) (b : Bool) → n ≡ length xs → b ≡ (n == 0) → b ≡ true → xs ≡ []
is_none [] n b long is t = refl
is_none (x ∷ xs) n b long is t =
    let e : b ≡ (length (x ∷ xs) == 0) = is ∙ ap (λ (m : ℕ). m == 0) long in
    cc (eqb-suc-zero (length xs))

pub query-requires : goal.query-requires
query-requires g c = subst IsSelect (sym c.text_outside.ensures) (outside_select c.args.source)

pub returns-then-is_empty-clause-reads : goal.returns-then-is_empty-clause-reads
returns-then-is_empty-clause-reads g c =
    let old = state g.S.Store c.args.tx.now.conn.now in
    let new = state g.S.Store c.query.new.tx.conn.now in
    let text = outside_text c.args.source in
    let bounds = Int least ∷ Int greatest ∷ [] in
    let none : c.in_ok-rows.rows.items ≡ [] = is_none c.in_ok-rows.rows.items c.in_ok-rows.rows.len c.is_empty.result c.in_ok-rows.rows.ok.0 c.is_empty.ensures c.if-is_empty.true in
    reads_so (λ db rows. Answers text bounds db rows.items) (λ db _. HasNoneOutside c.args.source db) old new c.in_ok-rows.rows _
    (λ db has h. outside_shown c.args.source db c.in_ok-rows.rows.items h none)
    (reads_asked old new _ _ text _ bounds c.text_outside.ensures (rw (c.params-to_sql.ensures, c.params-to_sql-2.ensures) refl) c.in_ok-rows.ensures.reads)
