-- Proofs about what a row of `entity` represents.
use Rattle.std.specs.Prelude.{◌≡◌, ℕ, List, length, Some, Err}
use Rattle.std.proofs.Common.{sym, ap, ◌∙◌}
use Rattle.entity_core.specs.declared.id_fault.IdFault.{IdFault}
use Rattle.entity_core.specs.declared.id_fault.IdFault.TheVariants.{Length, Form, Memory}
use Rattle.entity_core.specs.EntityId.{printed, spelled, ReadsId}
use Rattle.entity_core.proofs.Ids.{printed_spells, length-printed}
use Rattle.space_rows.specs.Head.{SpellsId}

pub no_id : (text : List ℕ) (e : IdFault) → ReadsId text (Err e) → (x : ℕ) → ¬ SpellsId text x
no_id text Length r x h = r (ap length h.text_is ∙ length-printed x)
no_id text Form r x h = let s = printed_spells x text h.text_is h.fits in let n = r.1 in cc
no_id text Memory r x h = r

pub other_id : (text shown : List ℕ) (id : ℕ) → spelled text ≡ Some id → shown ≡ printed id → ¬ (shown ≡ text) → (x : ℕ) → ¬ SpellsId text x
other_id text shown id s p other x h =
    let t = printed_spells x text h.text_is h.fits in
    let same : x ≡ id = cc in
    other (p ∙ ap printed (sym same) ∙ sym h.text_is)
