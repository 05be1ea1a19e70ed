use Rattle.std.proofs.Common.{◌≡◌, ◌++◌, List, map, sym, ap, subst, ◌∙◌}
use Rattle.std.specs.Prelude.{OnOk}
use Rattle.toml.specs.View.{view}
use Rattle.toml.specs.declared.value.Value.{Value}
use Rattle.token_check.specs.Warnings.{warnings_of_list}
use Rattle.token_check.specs.declared.warning.Warning.{Warning}
use Rattle.token_check.proofs.Found.{list_warnings}
use Rattle.token_check.proofs.warnings.put_warnings_of_member.Goals as goal

pub returns-in-Some-as_array : goal.returns-in-Some-as_array
returns-in-Some-as_array c =
    subst (λ (ws : List Warning). OnOk c.put_warnings_of_list.result (c.put_warnings_of_list.new.found.items ≡ c.args.found.now.items ++ ws))
    (sym (list_warnings c.args.member c.in-Some.value c.in-Some-as_array.tables.now c.in-Some.is c.in-Some-as_array.ensures ∙ ap (λ (vs : List Value). warnings_of_list (map view vs)) (sym c.as_slice.ensures.value)))
    c.put_warnings_of_list.ensures
