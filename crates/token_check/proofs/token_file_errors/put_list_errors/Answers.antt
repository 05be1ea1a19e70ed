use Rattle.std.proofs.Common.{◌≡◌, ◌++◌, [], List, map, sym, ap, subst, ◌∙◌}
use Rattle.std.specs.Prelude.{OnOk}
use Rattle.toml.specs.View.{view}
use Rattle.toml.specs.declared.value.Value.{Value}
use Rattle.token_check.specs.TokenFileErrors.{errors_of_tables}
use Rattle.token_check.specs.declared.token_file_error.TokenFileError.{TokenFileError}
use Rattle.token_check.proofs.Found.{list_mistakes}
use Rattle.token_check.proofs.token_file_errors.put_list_errors.Goals as goal

pub returns-in-Some-as_array : goal.returns-in-Some-as_array
returns-in-Some-as_array c =
    subst (λ (ms : List TokenFileError). OnOk c.put_all_table_errors.result (c.put_all_table_errors.new.found.items ≡ c.args.found.now.items ++ ms))
    (sym (list_mistakes c.args.member c.in-Some.value c.in-Some-as_array.tables.now c.in-Some.is c.in-Some-as_array.ensures ∙ ap (λ (vs : List Value). errors_of_tables [] (map view vs)) (sym c.as_slice.ensures.value)))
    c.put_all_table_errors.ensures
