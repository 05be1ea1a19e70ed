use Rattle.std.proofs.Common.{◌≡◌, sym, subst, List, ℕ, ℤ, pos, ◌≤ℤ◌, to_z, of_z, w64, rules}
use Rattle.entity_core.specs.Serial.{max_serial}
use Rattle.entity_core.specs.IdTexts.{name_fault, ovn_fault, url_fault}
use Rattle.space_rows.specs.Head.{SpellsId, SpellsText, SpellsCount}
use Rattle.space_rows.specs.Subs.{SpellsInterest}
use Rattle.space_rows.specs.SubHead.{SpellsIndex}
use Rattle.space_rows.proofs.sub_head.sub_head_of.Goals as goal

pub returns-in_default-2 : goal.returns-in_default-2
returns-in_default-2 c = λ x h. (rw c.in_default-2.is at c.in_ok-id.ensures) x.id (subst (λ (l : List ℕ). SpellsId l x.id) (sym c.text.ensures) h.id)

pub returns-in_default-5 : goal.returns-in_default-5
returns-in_default-5 c = λ x h. (rw c.in_default-5.is at c.in_ok-url.ensures) x.url (subst (λ (l : List ℕ). SpellsText url_fault l x.url) (sym c.text-4.ensures) h.url)

pub returns : goal.returns
returns c =
    let r = c.args.row.now in
    let m : to_z w64 (of_z w64 r.num) ≡ r.num = search rules in
    let t : to_z w64 (of_z w64 r.serial) ≡ r.serial = search rules in
    let k : to_z w64 (of_z w64 r.notes) ≡ r.notes = search rules in
    let i : to_z w64 (of_z w64 r.for_intents) ≡ r.for_intents = search rules in
    let o : to_z w64 (of_z w64 r.for_constraints) ≡ r.for_constraints = search rules in
    let n = c.is_numbered.ensures.0 c.if-not-is_numbered.false in
    let told = c.in-Some-interest_of.interest in
    record {
      least = subst (λ (z : ℤ). pos 1 ≤ℤ z) m n.0;
      most = subst (λ (z : ℤ). z ≤ℤ pos c.in-Some.serial) m n.1;
      id = subst (λ (l : List ℕ). SpellsId l c.in-Some-2.id) c.text.ensures (rw c.in-Some-2.is at c.in_ok-id.ensures);
      manager = subst (λ (l : List ℕ). SpellsText name_fault l c.in-Some-3.manager) c.text-2.ensures (rw c.in-Some-3.is at c.in_ok-manager.ensures);
      serial = subst (λ (z : ℤ). SpellsCount max_serial z c.in-Some.serial) t c.in-Some.ensures;
      version = subst (λ (l : List ℕ). SpellsText ovn_fault l c.in-Some-4.version) c.text-3.ensures (rw c.in-Some-4.is at c.in_ok-version.ensures);
      notes = subst (λ (z : ℤ). SpellsIndex z c.in-Some-index_of.index) k c.in-Some-index_of.ensures;
      url = subst (λ (l : List ℕ). SpellsText url_fault l c.in-Some-5.url) c.text-4.ensures (rw c.in-Some-5.is at c.in_ok-url.ensures);
      interest = subst (λ (z : ℤ). SpellsInterest z r.for_constraints told) i (subst (λ (z : ℤ). SpellsInterest (to_z w64 (of_z w64 r.for_intents)) z told) o c.in-Some-interest_of.ensures);
    }
