use Rattle.std.proofs.Common.{◌≡◌, refl, sym, subst, rules, arith}
use Rattle.sqlite.specs.Effect.{Database, IsDatabase}
use Rattle.sqlite.specs.Held.{state}
use Rattle.sqlite.specs.State.{HasCleanDisk, Survives}
use Rattle.sqlite.specs.Tree.{Trees}
use Rattle.sqlite.proofs.Callers.{survives_begin}
use Rattle.sqlite.proofs.StateLemmas.{survives_then}
use Rattle.entity_core.specs.Airspace.{Airspace}
use Rattle.space_sql_schema.specs.declared.format.Format.TheVariants.{Two}
use Rattle.space_sql_schema.specs.Spelling.{SpellsAs}
use Rattle.space_sql_schema.specs.Tables.{schema_of}
use Rattle.space_sql_open.specs.Opening.{MayHaveUpgraded, Refuses, format_before}
use Rattle.space_sql_open.specs.declared.open_fault.OpenFault.{OpenFault}
use Rattle.space_sql_open.specs.declared.open_fault.OpenFault.TheVariants.{Store}
use Rattle.space_sql_open.proofs.upgrading.upgrade_tables.Goals as goal

pub returns-in-Err-clause-moves : goal.returns-in-Err-clause-moves
returns-in-Err-clause-moves g c =
    let from = c.args.from in
    let old = state g.S.Store c.args.conn.now in
    let begun = c.transaction-tx.ensures.begun in
    let moves = rw begun at c.in-Err.ensures.moves in
    let same : c.drop-tx.new.self.0 ≡ c.conn-1.given.0 = search rules in
    subst (λ h. HasCleanDisk (state g.S.Store h) → old.now.schema ≡ schema_of (format_before from) → Refuses (format_before from) old.now c.in-Err.fault) same
    (λ clean has. moves.done (omega (arith, c.drop-tx.ensures.survives.clean)) has)

pub returns-in-Ok-commit-clause-moves : goal.returns-in-Ok-commit-clause-moves
returns-in-Ok-commit-clause-moves g c =
    let from = c.args.from in
    let old = state g.S.Store c.args.conn.now in
    let begun = c.transaction-tx.ensures.begun in
    let moves = rw begun at c.in-Ok.ensures.moves in
    let same : c.commit.new.self.0 ≡ c.conn-2-1.given.0 = search rules in
    subst (λ h. HasCleanDisk (state g.S.Store h) → old.now.schema ≡ schema_of (format_before from) → (a : Airspace) × SpellsAs (format_before from) old.now a × SpellsAs Two (state g.S.Store h).now a × IsDatabase (state g.S.Store h).now) same
    (λ clean has.
    let it = c.in-Ok-commit.ensures.ok clean in
    subst (λ (d : Database). (a : Airspace) × SpellsAs (format_before from) old.now a × SpellsAs Two d a × IsDatabase d) (sym it.1.now_is) (moves.done (omega (arith, c.commit.ensures.survives.clean)) has))

pub returns-in-Err-commit-clause-left : goal.returns-in-Err-commit-clause-left
returns-in-Err-commit-clause-left g c =
    let from = c.args.from in
    let old = state g.S.Store c.args.conn.now in
    let last = state g.S.Store c.upgrade_inside.new.tx.conn.now in
    let begun = c.transaction-tx.ensures.begun in
    let moves = rw begun at c.in-Ok.ensures.moves in
    let P = λ (trees : Trees). (◌≡◌ {A = OpenFault} Store Store) × MayHaveUpgraded from old trees in
    let whole = survives_then old last (state g.S.Store c.commit.new.self.0) _ _ P (λ _ db none. absurd none)
    (λ clean db is. (
      refl,
      (λ has.
          let it = moves.done (omega (arith, c.commit.ensures.survives.clean)) has in
          (it.0, it.1, (last.now, is, it.3, it.2))),
    )) (survives_begin g.S.Store c.args.conn.now last _ moves.survives) c.commit.ensures.survives in
    let same : c.commit.new.self.0 ≡ c.conn-2-1.given.0 = search rules in
    subst (λ h. Survives old (state g.S.Store h) P) same whole
