use Rattle.std.proofs.Common.{◌≡◌, ◌∙◌, sym}
use Rattle.std.proofs.lemmas.Result.{IfErr-weaker, IfOk-weaker}
use Rattle.sqlite.specs.Held.{state}
use Rattle.entity_core.specs.Airspace.{Airspace}
use Rattle.space_core.specs.Space.{IsContent}
use Rattle.space_sql_schema.specs.Spelling.{SpellsAs}
use Rattle.space_sql_schema.specs.declared.format.Format.TheVariants.{One, TwoUnindexed, Two, OldOne, OldTwoUnindexed, OldTwo}
use Rattle.space_sql_schema.specs.declared.presence.Presence.TheVariants.{Missing, Whole}
use Rattle.space_sql_open.specs.Opening.{MayHaveUpgraded, Refuses}
use Rattle.space_sql_open.specs.declared.old_format.OldFormat.TheVariants as old_format
use Rattle.space_sql_open.specs.declared.open_fault.OpenFault.TheVariants.{Store}
use Rattle.space_sql.specs.Holding.{holds_of}
use Rattle.space_sql.proofs.Openings.{left_as, left_made, of_format, stands_as, stands_seen, tells_found}
use Rattle.space_sql.proofs.space.SqlSpace.adopt.Goals as goal

pub returns-in-Missing-clause-left : goal.returns-in-Missing-clause-left
returns-in-Missing-clause-left g c =
    left_made (state g.S.Store c.args.conn) (λ h. state g.S.Store h) c.make_new.result (stands_seen c.schema.ensures.value c.in-Missing.ensures.exact) c.make_new.ensures.store c.make_new.ensures.left

pub returns-in-Missing-clause-taken : goal.returns-in-Missing-clause-taken
returns-in-Missing-clause-taken g c =
    let old = state g.S.Store c.args.conn in
    let stands = stands_seen c.schema.ensures.value c.in-Missing.ensures.exact in
    IfOk-weaker c.make_new.result _ _ (λ t it format sound has. absurd (let same : Missing ≡ Whole format = sym stands ∙ stands_as format old.now.schema has in cc)) c.make_new.ensures.new

pub returns-in-Missing-clause-upgraded : goal.returns-in-Missing-clause-upgraded
returns-in-Missing-clause-upgraded g c =
    let stands = stands_seen c.schema.ensures.value c.in-Missing.ensures.exact in
    IfOk-weaker c.make_new.result _ _ (λ t is. tells_found t.0.upgraded _ Missing is stands) c.make_new.ensures.new

pub returns-in-Whole-One-clause-taken : goal.returns-in-Whole-One-clause-taken
returns-in-Whole-One-clause-taken g c =
    let old = state g.S.Store c.args.conn in
    let stands = stands_seen c.schema.ensures.value (rw c.in-Whole-One.field-0-is at c.in-Whole-One.ensures.exact) in
    IfOk-weaker c.adopt_old.result _ _ (λ t it format sound. of_format old.now.schema (λ format. (a : Airspace) × SpellsAs format old.now a × IsContent (holds_of g.S.Store) t.0 a) One stands (it sound) format) c.adopt_old.ensures.taken

pub returns-in-Whole-One-clause-refused : goal.returns-in-Whole-One-clause-refused
returns-in-Whole-One-clause-refused g c =
    let old = state g.S.Store c.args.conn in
    let stands = stands_seen c.schema.ensures.value (rw c.in-Whole-One.field-0-is at c.in-Whole-One.ensures.exact) in
    IfErr-weaker c.adopt_old.result _ _ (λ e it format clean. of_format old.now.schema (λ format. Refuses format old.now e.0) One stands (it clean) format) c.adopt_old.ensures.refused

pub returns-in-Whole-One-clause-left : goal.returns-in-Whole-One-clause-left
returns-in-Whole-One-clause-left g c =
    let old = state g.S.Store c.args.conn in
    let stands = stands_seen c.schema.ensures.value (rw c.in-Whole-One.field-0-is at c.in-Whole-One.ensures.exact) in
    left_as old (λ h. state g.S.Store h) (Whole One) (λ fault trees. (fault ≡ Store) × MayHaveUpgraded old_format.One old trees) c.adopt_old.result stands (λ fault trees it. it) c.adopt_old.ensures.left

pub returns-in-Whole-One-clause-upgraded : goal.returns-in-Whole-One-clause-upgraded
returns-in-Whole-One-clause-upgraded g c =
    let stands = stands_seen c.schema.ensures.value (rw c.in-Whole-One.field-0-is at c.in-Whole-One.ensures.exact) in
    IfOk-weaker c.adopt_old.result _ _ (λ t is. tells_found t.0.upgraded _ (Whole One) is stands) c.adopt_old.ensures.upgraded

pub returns-in-Whole-TwoUnindexed-clause-taken : goal.returns-in-Whole-TwoUnindexed-clause-taken
returns-in-Whole-TwoUnindexed-clause-taken g c =
    let old = state g.S.Store c.args.conn in
    let stands = stands_seen c.schema.ensures.value (rw c.in-Whole-TwoUnindexed.field-0-is at c.in-Whole-TwoUnindexed.ensures.exact) in
    IfOk-weaker c.adopt_old-in-Whole-TwoUnindexed.result _ _ (λ t it format sound. of_format old.now.schema (λ format. (a : Airspace) × SpellsAs format old.now a × IsContent (holds_of g.S.Store) t.0 a) TwoUnindexed stands (it sound) format) c.adopt_old-in-Whole-TwoUnindexed.ensures.taken

pub returns-in-Whole-TwoUnindexed-clause-refused : goal.returns-in-Whole-TwoUnindexed-clause-refused
returns-in-Whole-TwoUnindexed-clause-refused g c =
    let old = state g.S.Store c.args.conn in
    let stands = stands_seen c.schema.ensures.value (rw c.in-Whole-TwoUnindexed.field-0-is at c.in-Whole-TwoUnindexed.ensures.exact) in
    IfErr-weaker c.adopt_old-in-Whole-TwoUnindexed.result _ _ (λ e it format clean. of_format old.now.schema (λ format. Refuses format old.now e.0) TwoUnindexed stands (it clean) format) c.adopt_old-in-Whole-TwoUnindexed.ensures.refused

pub returns-in-Whole-TwoUnindexed-clause-left : goal.returns-in-Whole-TwoUnindexed-clause-left
returns-in-Whole-TwoUnindexed-clause-left g c =
    let old = state g.S.Store c.args.conn in
    let stands = stands_seen c.schema.ensures.value (rw c.in-Whole-TwoUnindexed.field-0-is at c.in-Whole-TwoUnindexed.ensures.exact) in
    left_as old (λ h. state g.S.Store h) (Whole TwoUnindexed) (λ fault trees. (fault ≡ Store) × MayHaveUpgraded old_format.TwoUnindexed old trees) c.adopt_old-in-Whole-TwoUnindexed.result stands (λ fault trees it. it) c.adopt_old-in-Whole-TwoUnindexed.ensures.left

pub returns-in-Whole-TwoUnindexed-clause-upgraded : goal.returns-in-Whole-TwoUnindexed-clause-upgraded
returns-in-Whole-TwoUnindexed-clause-upgraded g c =
    let stands = stands_seen c.schema.ensures.value (rw c.in-Whole-TwoUnindexed.field-0-is at c.in-Whole-TwoUnindexed.ensures.exact) in
    IfOk-weaker c.adopt_old-in-Whole-TwoUnindexed.result _ _ (λ t is. tells_found t.0.upgraded _ (Whole TwoUnindexed) is stands) c.adopt_old-in-Whole-TwoUnindexed.ensures.upgraded

pub returns-in-Whole-Two-clause-taken : goal.returns-in-Whole-Two-clause-taken
returns-in-Whole-Two-clause-taken g c =
    let old = state g.S.Store c.args.conn in
    let stands = stands_seen c.schema.ensures.value (rw c.in-Whole-Two.field-0-is at c.in-Whole-Two.ensures.exact) in
    IfOk-weaker c.adopt_format_2.result _ _ (λ t it format sound. of_format old.now.schema (λ format. (a : Airspace) × SpellsAs format old.now a × IsContent (holds_of g.S.Store) t.0 a) Two stands (it sound) format) c.adopt_format_2.ensures.taken

pub returns-in-Whole-Two-clause-refused : goal.returns-in-Whole-Two-clause-refused
returns-in-Whole-Two-clause-refused g c =
    let old = state g.S.Store c.args.conn in
    let stands = stands_seen c.schema.ensures.value (rw c.in-Whole-Two.field-0-is at c.in-Whole-Two.ensures.exact) in
    IfErr-weaker c.adopt_format_2.result _ _ (λ e it format clean. of_format old.now.schema (λ format. Refuses format old.now e.0) Two stands (it clean) format) c.adopt_format_2.ensures.refused

pub returns-in-Whole-Two-clause-left : goal.returns-in-Whole-Two-clause-left
returns-in-Whole-Two-clause-left g c =
    let old = state g.S.Store c.args.conn in
    let stands = stands_seen c.schema.ensures.value (rw c.in-Whole-Two.field-0-is at c.in-Whole-Two.ensures.exact) in
    left_as old (λ h. state g.S.Store h) (Whole Two) (λ _ _. ⊥) c.adopt_format_2.result stands (λ fault trees none. absurd none) c.adopt_format_2.ensures.left

pub returns-in-Whole-Two-clause-upgraded : goal.returns-in-Whole-Two-clause-upgraded
returns-in-Whole-Two-clause-upgraded g c =
    let stands = stands_seen c.schema.ensures.value (rw c.in-Whole-Two.field-0-is at c.in-Whole-Two.ensures.exact) in
    IfOk-weaker c.adopt_format_2.result _ _ (λ t is. tells_found t.0.upgraded _ (Whole Two) is stands) c.adopt_format_2.ensures.same

pub returns-in-Whole-OldOne-clause-taken : goal.returns-in-Whole-OldOne-clause-taken
returns-in-Whole-OldOne-clause-taken g c =
    let old = state g.S.Store c.args.conn in
    let stands = stands_seen c.schema.ensures.value (rw c.in-Whole-OldOne.field-0-is at c.in-Whole-OldOne.ensures.exact) in
    IfOk-weaker c.adopt_old-in-Whole-OldOne.result _ _ (λ t it format sound. of_format old.now.schema (λ format. (a : Airspace) × SpellsAs format old.now a × IsContent (holds_of g.S.Store) t.0 a) OldOne stands (it sound) format) c.adopt_old-in-Whole-OldOne.ensures.taken

pub returns-in-Whole-OldOne-clause-refused : goal.returns-in-Whole-OldOne-clause-refused
returns-in-Whole-OldOne-clause-refused g c =
    let old = state g.S.Store c.args.conn in
    let stands = stands_seen c.schema.ensures.value (rw c.in-Whole-OldOne.field-0-is at c.in-Whole-OldOne.ensures.exact) in
    IfErr-weaker c.adopt_old-in-Whole-OldOne.result _ _ (λ e it format clean. of_format old.now.schema (λ format. Refuses format old.now e.0) OldOne stands (it clean) format) c.adopt_old-in-Whole-OldOne.ensures.refused

pub returns-in-Whole-OldOne-clause-left : goal.returns-in-Whole-OldOne-clause-left
returns-in-Whole-OldOne-clause-left g c =
    let old = state g.S.Store c.args.conn in
    let stands = stands_seen c.schema.ensures.value (rw c.in-Whole-OldOne.field-0-is at c.in-Whole-OldOne.ensures.exact) in
    left_as old (λ h. state g.S.Store h) (Whole OldOne) (λ fault trees. (fault ≡ Store) × MayHaveUpgraded old_format.OldOne old trees) c.adopt_old-in-Whole-OldOne.result stands (λ fault trees it. it) c.adopt_old-in-Whole-OldOne.ensures.left

pub returns-in-Whole-OldOne-clause-upgraded : goal.returns-in-Whole-OldOne-clause-upgraded
returns-in-Whole-OldOne-clause-upgraded g c =
    let stands = stands_seen c.schema.ensures.value (rw c.in-Whole-OldOne.field-0-is at c.in-Whole-OldOne.ensures.exact) in
    IfOk-weaker c.adopt_old-in-Whole-OldOne.result _ _ (λ t is. tells_found t.0.upgraded _ (Whole OldOne) is stands) c.adopt_old-in-Whole-OldOne.ensures.upgraded

pub returns-in-Whole-OldTwoUnindexed-clause-taken : goal.returns-in-Whole-OldTwoUnindexed-clause-taken
returns-in-Whole-OldTwoUnindexed-clause-taken g c =
    let old = state g.S.Store c.args.conn in
    let stands = stands_seen c.schema.ensures.value (rw c.in-Whole-OldTwoUnindexed.field-0-is at c.in-Whole-OldTwoUnindexed.ensures.exact) in
    IfOk-weaker c.adopt_old-in-Whole-OldTwoUnindexed.result _ _ (λ t it format sound. of_format old.now.schema (λ format. (a : Airspace) × SpellsAs format old.now a × IsContent (holds_of g.S.Store) t.0 a) OldTwoUnindexed stands (it sound) format) c.adopt_old-in-Whole-OldTwoUnindexed.ensures.taken

pub returns-in-Whole-OldTwoUnindexed-clause-refused : goal.returns-in-Whole-OldTwoUnindexed-clause-refused
returns-in-Whole-OldTwoUnindexed-clause-refused g c =
    let old = state g.S.Store c.args.conn in
    let stands = stands_seen c.schema.ensures.value (rw c.in-Whole-OldTwoUnindexed.field-0-is at c.in-Whole-OldTwoUnindexed.ensures.exact) in
    IfErr-weaker c.adopt_old-in-Whole-OldTwoUnindexed.result _ _ (λ e it format clean. of_format old.now.schema (λ format. Refuses format old.now e.0) OldTwoUnindexed stands (it clean) format) c.adopt_old-in-Whole-OldTwoUnindexed.ensures.refused

pub returns-in-Whole-OldTwoUnindexed-clause-left : goal.returns-in-Whole-OldTwoUnindexed-clause-left
returns-in-Whole-OldTwoUnindexed-clause-left g c =
    let old = state g.S.Store c.args.conn in
    let stands = stands_seen c.schema.ensures.value (rw c.in-Whole-OldTwoUnindexed.field-0-is at c.in-Whole-OldTwoUnindexed.ensures.exact) in
    left_as old (λ h. state g.S.Store h) (Whole OldTwoUnindexed) (λ fault trees. (fault ≡ Store) × MayHaveUpgraded old_format.OldTwoUnindexed old trees) c.adopt_old-in-Whole-OldTwoUnindexed.result stands (λ fault trees it. it) c.adopt_old-in-Whole-OldTwoUnindexed.ensures.left

pub returns-in-Whole-OldTwoUnindexed-clause-upgraded : goal.returns-in-Whole-OldTwoUnindexed-clause-upgraded
returns-in-Whole-OldTwoUnindexed-clause-upgraded g c =
    let stands = stands_seen c.schema.ensures.value (rw c.in-Whole-OldTwoUnindexed.field-0-is at c.in-Whole-OldTwoUnindexed.ensures.exact) in
    IfOk-weaker c.adopt_old-in-Whole-OldTwoUnindexed.result _ _ (λ t is. tells_found t.0.upgraded _ (Whole OldTwoUnindexed) is stands) c.adopt_old-in-Whole-OldTwoUnindexed.ensures.upgraded

pub returns-in-Whole-OldTwo-clause-taken : goal.returns-in-Whole-OldTwo-clause-taken
returns-in-Whole-OldTwo-clause-taken g c =
    let old = state g.S.Store c.args.conn in
    let stands = stands_seen c.schema.ensures.value (rw c.in-Whole-OldTwo.field-0-is at c.in-Whole-OldTwo.ensures.exact) in
    IfOk-weaker c.adopt_old-in-Whole-OldTwo.result _ _ (λ t it format sound. of_format old.now.schema (λ format. (a : Airspace) × SpellsAs format old.now a × IsContent (holds_of g.S.Store) t.0 a) OldTwo stands (it sound) format) c.adopt_old-in-Whole-OldTwo.ensures.taken

pub returns-in-Whole-OldTwo-clause-refused : goal.returns-in-Whole-OldTwo-clause-refused
returns-in-Whole-OldTwo-clause-refused g c =
    let old = state g.S.Store c.args.conn in
    let stands = stands_seen c.schema.ensures.value (rw c.in-Whole-OldTwo.field-0-is at c.in-Whole-OldTwo.ensures.exact) in
    IfErr-weaker c.adopt_old-in-Whole-OldTwo.result _ _ (λ e it format clean. of_format old.now.schema (λ format. Refuses format old.now e.0) OldTwo stands (it clean) format) c.adopt_old-in-Whole-OldTwo.ensures.refused

pub returns-in-Whole-OldTwo-clause-left : goal.returns-in-Whole-OldTwo-clause-left
returns-in-Whole-OldTwo-clause-left g c =
    let old = state g.S.Store c.args.conn in
    let stands = stands_seen c.schema.ensures.value (rw c.in-Whole-OldTwo.field-0-is at c.in-Whole-OldTwo.ensures.exact) in
    left_as old (λ h. state g.S.Store h) (Whole OldTwo) (λ fault trees. (fault ≡ Store) × MayHaveUpgraded old_format.OldTwo old trees) c.adopt_old-in-Whole-OldTwo.result stands (λ fault trees it. it) c.adopt_old-in-Whole-OldTwo.ensures.left

pub returns-in-Whole-OldTwo-clause-upgraded : goal.returns-in-Whole-OldTwo-clause-upgraded
returns-in-Whole-OldTwo-clause-upgraded g c =
    let stands = stands_seen c.schema.ensures.value (rw c.in-Whole-OldTwo.field-0-is at c.in-Whole-OldTwo.ensures.exact) in
    IfOk-weaker c.adopt_old-in-Whole-OldTwo.result _ _ (λ t is. tells_found t.0.upgraded _ (Whole OldTwo) is stands) c.adopt_old-in-Whole-OldTwo.ensures.upgraded
