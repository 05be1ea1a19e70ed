use Rattle.std.proofs.Common.{◌≡◌, ◌∙◌, ℕ, List, [], ◌∷◌, ap, sym}
use Rattle.std.specs.List.{slice_get}
use Rattle.sqlite_value.specs.declared.value.Value.TheVariants.{Text}
use Rattle.sqlite.specs.Order.{Row, column}
use Rattle.entity_core.specs.EntityId.{printed}
use Rattle.entity_core.proofs.Ids.{printed_spells}
use Rattle.space_sql_lookup.proofs.values.id_among.Goals as goal

same_text : (s t : List ℕ) → Text s ≡ Text t → s ≡ t
same_text s t e = cc

pub returns-in-Ok : goal.returns-in-Ok
returns-in-Ok c = λ n fits e.
    let row : c.in-Some.row.now ≡ Text (printed n) ∷ [] = let both = c.in-Some.ensures.value ∙ ap (λ (l : List Row). slice_get l 0) e in cc in
    let letters = same_text _ (printed n) (sym c.in_ok-letters.ensures.ok.1 ∙ ap (λ (r : Row). column r 0) row) in
    let both = sym c.in-Ok.ensures ∙ printed_spells n c.as_str.result.now (c.as_str.ensures.value ∙ letters) fits in
    cc
