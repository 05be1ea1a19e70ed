-- The grammar of the command line, in terms of `clap`: its subcommands, and the rule of each
-- argument.
use Rattle.std.specs.Prelude.{◌≡◌, ℕ, Some, codes, false, true}
use Rattle.clap.specs.Simple.{on_top}
use Rattle.clap.specs.Words.{
  App,
  Rule,
  Text,
  app_of,
  new_app,
  new_rule,
  with_rule,
  with_subcommand,
}
use Rattle.clap.specs.declared.builder.command.Command.{Command}
use Rattle.clap.specs.declared.builder.command.Command.TheViews.{out-Command}
use Rattle.clap.specs.declared.builder.value_parser.ValueParser.TheVariants.{Unsigned}
use Rattle.clap.specs.declared.builder.action.ArgAction.TheVariants.{Append, SetTrue}
use Rattle.dss_args.specs.declared.command_args.TheConstants.{
  MAX_QUOTA,
  MAX_TIME,
  MAX_PORT,
  MAX_CONNECTIONS,
  MAX_RESPONSE_MEMORY,
  MAX_COUNT,
}

-- Holds if the command has this grammar, and none of its arguments is global.
abbrev pub HasGrammar : App → Command → Type 0
HasGrammar app command = (app_of command ≡ app) × ((out-Command command).has_globals ≡ false)

-- ---- arguments

-- A required option with a value.
abbrev pub option_rule : Text → Rule
option_rule name = record (new_rule name) { long = Some name; required = true }

abbrev pub tokens_rule : Rule
tokens_rule = record (option_rule (codes "tokens")) { value_names = 1 }

-- The value is a Unix time, up to the last one.
abbrev pub now_rule : Rule
now_rule = record (option_rule (codes "now")) {
  value_names = 1;
  parser = Some (Unsigned 0 MAX_TIME);
}

-- The end of a purge: a Unix time, up to the last one.
abbrev pub until_rule : Rule
until_rule = record (option_rule (codes "until")) {
  value_names = 1;
  parser = Some (Unsigned 0 MAX_TIME);
}

-- The database, which is optional.
abbrev pub database_rule : Rule
database_rule = record (new_rule (codes "db")) { long = Some (codes "db"); value_names = 1 }

-- The database of a subcommand that requires one.
abbrev pub store_rule : Rule
store_rule = record (option_rule (codes "db")) { value_names = 1 }

-- A required option with a value that has a name.
abbrev pub needed_rule : Text → Rule
needed_rule name = record (option_rule name) { value_names = 1 }

-- An optional argument with a number in this range.
abbrev pub number_rule : Text → ℕ → ℕ → Rule
number_rule name least greatest = record (new_rule name) {
  long = Some name;
  value_names = 1;
  parser = Some (Unsigned least greatest);
}

-- An optional argument with a value.
abbrev pub choice_rule : Text → Rule
choice_rule name = record (new_rule name) { long = Some name; value_names = 1 }

-- The addresses to listen on: an option with a value, as often as it is given.
abbrev pub listen_rule : Rule
listen_rule = record (choice_rule (codes "listen")) { action = Some Append }

-- A flag, which is set or not.
abbrev pub flag_rule : Text → Rule
flag_rule name = record (new_rule name) { long = Some name; action = Some SetTrue }

-- A required positional argument.
abbrev pub word_rule : Text → Rule
word_rule name = record (new_rule name) { required = true }

abbrev pub requests_rule : Rule
requests_rule = record (word_rule (codes "requests")) { value_names = 1 }

abbrev pub request_rule : Rule
request_rule = record (word_rule (codes "request")) { value_names = 1 }

abbrev pub token_rule : Rule
token_rule = record (word_rule (codes "token")) { value_names = 1 }

abbrev pub method_rule : Rule
method_rule = record (word_rule (codes "method")) { value_names = 1 }

abbrev pub target_rule : Rule
target_rule = record (word_rule (codes "target")) { value_names = 1 }

abbrev pub to_rule : Rule
to_rule = record (word_rule (codes "to")) { value_names = 1 }

abbrev pub file_rule : Rule
file_rule = record (word_rule (codes "file")) { value_names = 1 }

-- ---- subcommands

abbrev pub run_app : App
run_app =
    with_rule
    (with_rule (with_rule (with_rule (new_app (codes "run")) tokens_rule) now_rule) database_rule)
    requests_rule

-- The token file of `serve`, and its database.
abbrev pub serve_files : App
serve_files =
    with_rule (with_rule (new_app (codes "serve")) tokens_rule) (choice_rule (codes "db"))

-- The options of `serve` for an instance of a pool.
abbrev pub serve_pool : App
serve_pool =
    with_rule
    (with_rule
    (with_rule
    (with_rule serve_files (choice_rule (codes "pool")))
    (choice_rule (codes "as")))
    (choice_rule (codes "etcd-user")))
    (choice_rule (codes "files"))

-- The port of `serve`, and its options that limit what it serves and stores.
abbrev pub serve_bounds : App
serve_bounds =
    with_rule
    (with_rule
    (with_rule
    (with_rule
    (with_rule
    (with_rule serve_pool (number_rule (codes "port") 1 MAX_PORT))
    (number_rule (codes "count") 1 MAX_COUNT))
    (number_rule (codes "max-connections") 1 MAX_CONNECTIONS))
    (number_rule (codes "response-memory") 1 MAX_RESPONSE_MEMORY))
    (number_rule (codes "quota") 1 MAX_QUOTA))
    (number_rule (codes "retention") 1 MAX_TIME)

-- The options of `serve` for its operator.
abbrev pub serve_watch : App
serve_watch =
    with_rule
    (with_rule
    (with_rule
    (with_rule serve_bounds (choice_rule (codes "admin-port")))
    (choice_rule (codes "backup-dir")))
    listen_rule)
    (choice_rule (codes "access-log"))

abbrev pub serve_app : App
serve_app =
    with_rule
    (with_rule
    (with_rule serve_watch (flag_rule (codes "double-sync")))
    (flag_rule (codes "explain")))
    (flag_rule (codes "verbose"))

abbrev pub begin_app : App
begin_app =
    with_rule
    (with_rule
    (with_rule (with_rule (new_app (codes "begin")) tokens_rule) store_rule)
    (needed_rule (codes "files")))
    (flag_rule (codes "verbose"))

abbrev pub follow_app : App
follow_app =
    with_rule
    (with_rule
    (with_rule
    (with_rule
    (with_rule
    (with_rule (new_app (codes "follow")) tokens_rule)
    (needed_rule (codes "pool")))
    (needed_rule (codes "as")))
    (needed_rule (codes "files")))
    (choice_rule (codes "etcd-user")))
    (flag_rule (codes "verbose"))

abbrev pub self_app : App
self_app =
    with_rule (with_rule (with_rule (new_app (codes "self")) tokens_rule) now_rule) request_rule

abbrev pub cell_app : App
cell_app = with_rule (new_app (codes "cell")) token_rule

abbrev pub explain_app : App
explain_app =
    with_rule
    (with_rule
    (with_rule (new_app (codes "explain")) (number_rule (codes "now") 0 MAX_TIME))
    method_rule)
    target_rule

abbrev pub report_app : App
report_app =
    with_rule (with_rule (new_app (codes "report")) store_rule) (flag_rule (codes "cells"))

abbrev pub backup_app : App
backup_app =
    with_rule (with_rule (with_rule (new_app (codes "backup")) store_rule) (flag_rule (codes "live")))
    to_rule

abbrev pub verify_app : App
verify_app = with_rule (new_app (codes "verify")) file_rule

abbrev pub upgrade_app : App
upgrade_app = with_rule (new_app (codes "upgrade")) store_rule

abbrev pub purge_app : App
purge_app =
    with_rule
    (with_rule (with_rule (new_app (codes "purge")) store_rule) until_rule)
    (number_rule (codes "now") 0 MAX_TIME)

abbrev pub tokens_app : App
tokens_app =
    with_rule
    (with_rule
    (with_rule
    (with_rule (new_app (codes "tokens")) (choice_rule (codes "check")))
    (choice_rule (codes "new-token")))
    (choice_rule (codes "scopes")))
    (flag_rule (codes "new-salt"))

-- The program's own command. It requires a subcommand, or prints the version.
abbrev pub own_app : App
own_app =
    on_top (λ s. record s { subcommand_required = true; has_version = true })
    (new_app (codes "dss"))

abbrev pub dss_app : App
dss_app =
    with_subcommand
    (with_subcommand
    (with_subcommand
    (with_subcommand
    (with_subcommand
    (with_subcommand
    (with_subcommand
    (with_subcommand
    (with_subcommand
    (with_subcommand
    (with_subcommand
    (with_subcommand
    (with_subcommand own_app run_app.top)
    serve_app.top)
    begin_app.top)
    follow_app.top)
    self_app.top)
    cell_app.top)
    explain_app.top)
    report_app.top)
    backup_app.top)
    verify_app.top)
    upgrade_app.top)
    purge_app.top)
    tokens_app.top
