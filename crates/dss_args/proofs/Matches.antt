-- What the getters of `clap`'s matches read from the rows of the matches.
use Rattle.std.proofs.Common.{◌≡◌, ◌<◌, ◌^◌, ℕ, List, Option, Some, None, codes, refl, sym, inl, inr, ap, ◌∙◌, arith, false}
use Rattle.std.specs.Prelude.{Bool, IfNone, IfSome, find, is_some, not, option_and_then, option_map, slice_get, true, ◌⊎◌}
use Rattle.std.specs.Borrow.{Bor}
use Rattle.std.specs.Str.{bytes_eq}
use Rattle.std.specs.Str.Parse.{IsNumeral, digits_value, without_leading_plus}
use Rattle.std.proofs.lemmas.Bool.Decides.{not_from_Decides}
use Rattle.std.proofs.lemmas.Slice.Eq.{bytes_eq-Decides}
use Rattle.clap.specs.Matches.{one_text}
use Rattle.clap.specs.Kinds.{IsAmong}
use Rattle.clap.specs.Values.{read_as}
use Rattle.clap.specs.Walk.{row_text}
use Rattle.clap.specs.Words.{Row, Text, first_of, rows_of}
use Rattle.clap.specs.declared.parser.matches.Found.{Found}
use Rattle.clap.proofs.WalkLemmas.{one_text-rows}
use Rattle.clap.specs.declared.error.kind.ErrorKind.{ErrorKind}
use Rattle.clap.specs.declared.error.kind.ErrorKind.TheVariants.{DisplayHelp, DisplayVersion, OutOfMemory}
use Rattle.dss_args.specs.CommandArgs.{Asks, AsksNothing, Explains, HasBegin, HasChoice, HasFollow, HasNumber, HasNumberIn, HasPool, HasServing, HasValues, asks_pool, is_set, line_of_options}
use Rattle.dss_args.specs.declared.begin_args.BeginArgs.{BeginArgs}
use Rattle.dss_args.specs.declared.follow_args.FollowArgs.{FollowArgs}
use Rattle.dss_args.specs.declared.pool_args.PoolArgs.{PoolArgs}
use Rattle.dss_args.specs.declared.serve_args.ServeArgs.{ServeArgs}
use Rattle.dss_args.specs.LineFault.{IsFaultOf}
use Rattle.dss_args.specs.declared.fault.LineFault.{LineFault}
use Rattle.dss_args.specs.declared.fault.LineFault.TheVariants as fault
use Rattle.dss_args.specs.declared.command_args.CommandArgs.TheVariants.{Backup, Begin, Cell, CheckTokens, Explain, Follow, Loopback, NewSalt, NewToken, Pool, Report, Run, Serve, Purge, Upgrade, Verify}

-- A number that was read is that of the argument's text.
pub number_from_text : (f : Found) (id : Text) (n : ℕ) → (one_text f id ≡ None → Some n ≡ None) → ((t : List ℕ) → one_text f id ≡ Some t → (IsNumeral 10 (without_leading_plus t) × (digits_value 10 (without_leading_plus t) < 2 ^ 64)) × (n ≡ digits_value 10 (without_leading_plus t))) → HasNumber id (rows_of f) n
number_from_text f id n none some = go (one_text f id) refl
  where
    go : (o : Option (List ℕ)) → one_text f id ≡ o → HasNumber id (rows_of f) n
    go None e = let bad : Some n ≡ None = none e in cc
    go (Some t) e = (t, sym (one_text-rows f id) ∙ e, (some t e).0.0, (some t e).1)

-- If no number was read, the argument has no 64-bit number.
pub no_number : (f : Found) (id : Text) → ((t : List ℕ) → one_text f id ≡ Some t → IsNumeral 10 (without_leading_plus t) × (digits_value 10 (without_leading_plus t) < 2 ^ 64) → ⊥) → (n : ℕ) → HasNumber id (rows_of f) n → n < 2 ^ 64 → ⊥
no_number f id none n (text, is, numeral, value) within = none text (one_text-rows f id ∙ is) (numeral, omega arith)

-- An argument has at most one number.
pub same_number : (id : Text) (rows : List Row) (m n : ℕ) → HasNumber id rows m → HasNumber id rows n → m ≡ n
same_number id rows m n (t, t_is, t_numeral, m_is) (u, u_is, u_numeral, n_is) =
    let same : Some t ≡ Some u = sym t_is ∙ u_is in
    let texts : t ≡ u = cc in
    m_is ∙ ap (λ x. digits_value 10 (without_leading_plus x)) texts ∙ sym n_is

-- ---- command lines that request nothing

-- Texts whose bytes differ are different.
other : (a b : Text) → bytes_eq a b ≡ false → a ≡ b → ⊥
other a b differ same = not_from_Decides (bytes_eq a b) (bytes_eq-Decides a b) differ same

-- The subcommand `run` requests nothing if no command line has the values.
pub nothing_of_run : (rows : List Row) → ((tokens : Bor (List ℕ)) (now : ℕ) (database : Option (Bor (List ℕ))) (requests : Bor (List ℕ)) → HasValues rows (Run tokens now database requests) → ⊥) → AsksNothing (Some (codes "run", rows))
nothing_of_run rows none (Run tokens now database requests) asks = none tokens now database requests asks.1
nothing_of_run rows none (Serve given) asks = other _ _ refl asks.0
nothing_of_run rows none (Pool given) asks = other _ _ refl asks.0
nothing_of_run rows none (Begin given) asks = other _ _ refl asks.0
nothing_of_run rows none (Follow given) asks = other _ _ refl asks.0
nothing_of_run rows none (Loopback tokens now request) asks = other _ _ refl asks.0
nothing_of_run rows none (Cell token) asks = other _ _ refl asks.0
nothing_of_run rows none (Explain method target now) asks = other _ _ refl asks.0
nothing_of_run rows none (Report database places) asks = other _ _ refl asks.0
nothing_of_run rows none (Backup database to live) asks = other _ _ refl asks.0
nothing_of_run rows none (Verify file) asks = other _ _ refl asks.0
nothing_of_run rows none (Upgrade database) asks = other _ _ refl asks.0
nothing_of_run rows none (Purge database until now) asks = other _ _ refl asks.0
nothing_of_run rows none (CheckTokens file) asks = other _ _ refl asks.0
nothing_of_run rows none (NewToken uss scopes) asks = other _ _ refl asks.0
nothing_of_run rows none NewSalt asks = other _ _ refl asks.0

-- No arguments of `serve` have the values, without and with `--pool`.
abbrev pub NoServing : List Row → Type 0
NoServing rows = (given : ServeArgs) → HasServing rows given → ⊥

abbrev pub NoPool : List Row → Type 0
NoPool rows = (given : PoolArgs) → HasPool rows given → ⊥

-- The subcommand `serve` requests nothing if no command line has the values.
pub nothing_of_serve : (rows : List Row) → NoServing rows → NoPool rows → AsksNothing (Some (codes "serve", rows))
nothing_of_serve rows none pool (Run tokens now database requests) asks = other _ _ refl asks.0
nothing_of_serve rows none pool (Serve given) asks = none given asks.1
nothing_of_serve rows none pool (Pool given) asks = pool given asks.1
nothing_of_serve rows none pool (Begin given) asks = other _ _ refl asks.0
nothing_of_serve rows none pool (Follow given) asks = other _ _ refl asks.0
nothing_of_serve rows none pool (Loopback tokens now request) asks = other _ _ refl asks.0
nothing_of_serve rows none pool (Cell token) asks = other _ _ refl asks.0
nothing_of_serve rows none pool (Explain method target now) asks = other _ _ refl asks.0
nothing_of_serve rows none pool (Report database places) asks = other _ _ refl asks.0
nothing_of_serve rows none pool (Backup database to live) asks = other _ _ refl asks.0
nothing_of_serve rows none pool (Verify file) asks = other _ _ refl asks.0
nothing_of_serve rows none pool (Upgrade database) asks = other _ _ refl asks.0
nothing_of_serve rows none pool (Purge database until now) asks = other _ _ refl asks.0
nothing_of_serve rows none pool (CheckTokens file) asks = other _ _ refl asks.0
nothing_of_serve rows none pool (NewToken uss scopes) asks = other _ _ refl asks.0
nothing_of_serve rows none pool NewSalt asks = other _ _ refl asks.0

-- The subcommand `begin` requests nothing if no command line has the values.
pub nothing_of_begin : (rows : List Row) → ((given : BeginArgs) → HasBegin rows given → ⊥) → AsksNothing (Some (codes "begin", rows))
nothing_of_begin rows none (Run tokens now database requests) asks = other _ _ refl asks.0
nothing_of_begin rows none (Serve given) asks = other _ _ refl asks.0
nothing_of_begin rows none (Pool given) asks = other _ _ refl asks.0
nothing_of_begin rows none (Begin given) asks = none given asks.1
nothing_of_begin rows none (Follow given) asks = other _ _ refl asks.0
nothing_of_begin rows none (Loopback tokens now request) asks = other _ _ refl asks.0
nothing_of_begin rows none (Cell token) asks = other _ _ refl asks.0
nothing_of_begin rows none (Explain method target now) asks = other _ _ refl asks.0
nothing_of_begin rows none (Report database places) asks = other _ _ refl asks.0
nothing_of_begin rows none (Backup database to live) asks = other _ _ refl asks.0
nothing_of_begin rows none (Verify file) asks = other _ _ refl asks.0
nothing_of_begin rows none (Upgrade database) asks = other _ _ refl asks.0
nothing_of_begin rows none (Purge database until now) asks = other _ _ refl asks.0
nothing_of_begin rows none (CheckTokens file) asks = other _ _ refl asks.0
nothing_of_begin rows none (NewToken uss scopes) asks = other _ _ refl asks.0
nothing_of_begin rows none NewSalt asks = other _ _ refl asks.0

-- No arguments of `follow` have the values.
abbrev pub NoFollow : List Row → Type 0
NoFollow rows = (given : FollowArgs) → HasFollow rows given → ⊥

-- The subcommand `follow` requests nothing if no command line has the values.
pub nothing_of_follow : (rows : List Row) → NoFollow rows → AsksNothing (Some (codes "follow", rows))
nothing_of_follow rows none (Run tokens now database requests) asks = other _ _ refl asks.0
nothing_of_follow rows none (Serve given) asks = other _ _ refl asks.0
nothing_of_follow rows none (Pool given) asks = other _ _ refl asks.0
nothing_of_follow rows none (Begin given) asks = other _ _ refl asks.0
nothing_of_follow rows none (Follow given) asks = none given asks.1
nothing_of_follow rows none (Loopback tokens now request) asks = other _ _ refl asks.0
nothing_of_follow rows none (Cell token) asks = other _ _ refl asks.0
nothing_of_follow rows none (Explain method target now) asks = other _ _ refl asks.0
nothing_of_follow rows none (Report database places) asks = other _ _ refl asks.0
nothing_of_follow rows none (Backup database to live) asks = other _ _ refl asks.0
nothing_of_follow rows none (Verify file) asks = other _ _ refl asks.0
nothing_of_follow rows none (Upgrade database) asks = other _ _ refl asks.0
nothing_of_follow rows none (Purge database until now) asks = other _ _ refl asks.0
nothing_of_follow rows none (CheckTokens file) asks = other _ _ refl asks.0
nothing_of_follow rows none (NewToken uss scopes) asks = other _ _ refl asks.0
nothing_of_follow rows none NewSalt asks = other _ _ refl asks.0

-- The subcommand `self` requests nothing if no command line has the values.
pub nothing_of_self : (rows : List Row) → ((tokens : Bor (List ℕ)) (now : ℕ) (request : Bor (List ℕ)) → HasValues rows (Loopback tokens now request) → ⊥) → AsksNothing (Some (codes "self", rows))
nothing_of_self rows none (Run tokens now database requests) asks = other _ _ refl asks.0
nothing_of_self rows none (Serve given) asks = other _ _ refl asks.0
nothing_of_self rows none (Pool given) asks = other _ _ refl asks.0
nothing_of_self rows none (Begin given) asks = other _ _ refl asks.0
nothing_of_self rows none (Follow given) asks = other _ _ refl asks.0
nothing_of_self rows none (Loopback tokens now request) asks = none tokens now request asks.1
nothing_of_self rows none (Cell token) asks = other _ _ refl asks.0
nothing_of_self rows none (Explain method target now) asks = other _ _ refl asks.0
nothing_of_self rows none (Report database places) asks = other _ _ refl asks.0
nothing_of_self rows none (Backup database to live) asks = other _ _ refl asks.0
nothing_of_self rows none (Verify file) asks = other _ _ refl asks.0
nothing_of_self rows none (Upgrade database) asks = other _ _ refl asks.0
nothing_of_self rows none (Purge database until now) asks = other _ _ refl asks.0
nothing_of_self rows none (CheckTokens file) asks = other _ _ refl asks.0
nothing_of_self rows none (NewToken uss scopes) asks = other _ _ refl asks.0
nothing_of_self rows none NewSalt asks = other _ _ refl asks.0

-- The subcommand `cell` requests nothing if no command line has the values.
pub nothing_of_cell : (rows : List Row) → ((token : Bor (List ℕ)) → HasValues rows (Cell token) → ⊥) → AsksNothing (Some (codes "cell", rows))
nothing_of_cell rows none (Run tokens now database requests) asks = other _ _ refl asks.0
nothing_of_cell rows none (Serve given) asks = other _ _ refl asks.0
nothing_of_cell rows none (Pool given) asks = other _ _ refl asks.0
nothing_of_cell rows none (Begin given) asks = other _ _ refl asks.0
nothing_of_cell rows none (Follow given) asks = other _ _ refl asks.0
nothing_of_cell rows none (Loopback tokens now request) asks = other _ _ refl asks.0
nothing_of_cell rows none (Cell token) asks = none token asks.1
nothing_of_cell rows none (Explain method target now) asks = other _ _ refl asks.0
nothing_of_cell rows none (Report database places) asks = other _ _ refl asks.0
nothing_of_cell rows none (Backup database to live) asks = other _ _ refl asks.0
nothing_of_cell rows none (Verify file) asks = other _ _ refl asks.0
nothing_of_cell rows none (Upgrade database) asks = other _ _ refl asks.0
nothing_of_cell rows none (Purge database until now) asks = other _ _ refl asks.0
nothing_of_cell rows none (CheckTokens file) asks = other _ _ refl asks.0
nothing_of_cell rows none (NewToken uss scopes) asks = other _ _ refl asks.0
nothing_of_cell rows none NewSalt asks = other _ _ refl asks.0

-- The subcommand `explain` requests nothing if no command line has the values.
pub nothing_of_explain : (rows : List Row) → ((method target : Bor (List ℕ)) (now : Option ℕ) → HasValues rows (Explain method target now) → ⊥) → AsksNothing (Some (codes "explain", rows))
nothing_of_explain rows none (Run tokens now database requests) asks = other _ _ refl asks.0
nothing_of_explain rows none (Serve given) asks = other _ _ refl asks.0
nothing_of_explain rows none (Pool given) asks = other _ _ refl asks.0
nothing_of_explain rows none (Begin given) asks = other _ _ refl asks.0
nothing_of_explain rows none (Follow given) asks = other _ _ refl asks.0
nothing_of_explain rows none (Loopback tokens now request) asks = other _ _ refl asks.0
nothing_of_explain rows none (Cell token) asks = other _ _ refl asks.0
nothing_of_explain rows none (Explain method target now) asks = none method target now asks.1
nothing_of_explain rows none (Report database places) asks = other _ _ refl asks.0
nothing_of_explain rows none (Backup database to live) asks = other _ _ refl asks.0
nothing_of_explain rows none (Verify file) asks = other _ _ refl asks.0
nothing_of_explain rows none (Upgrade database) asks = other _ _ refl asks.0
nothing_of_explain rows none (Purge database until now) asks = other _ _ refl asks.0
nothing_of_explain rows none (CheckTokens file) asks = other _ _ refl asks.0
nothing_of_explain rows none (NewToken uss scopes) asks = other _ _ refl asks.0
nothing_of_explain rows none NewSalt asks = other _ _ refl asks.0

-- The subcommand `report` requests nothing if no command line has the values.
pub nothing_of_report : (rows : List Row) → ((database : Bor (List ℕ)) (places : Bool) → HasValues rows (Report database places) → ⊥) → AsksNothing (Some (codes "report", rows))
nothing_of_report rows none (Run tokens now database requests) asks = other _ _ refl asks.0
nothing_of_report rows none (Serve given) asks = other _ _ refl asks.0
nothing_of_report rows none (Pool given) asks = other _ _ refl asks.0
nothing_of_report rows none (Begin given) asks = other _ _ refl asks.0
nothing_of_report rows none (Follow given) asks = other _ _ refl asks.0
nothing_of_report rows none (Loopback tokens now request) asks = other _ _ refl asks.0
nothing_of_report rows none (Cell token) asks = other _ _ refl asks.0
nothing_of_report rows none (Explain method target now) asks = other _ _ refl asks.0
nothing_of_report rows none (Report database places) asks = none database places asks.1
nothing_of_report rows none (Backup database to live) asks = other _ _ refl asks.0
nothing_of_report rows none (Verify file) asks = other _ _ refl asks.0
nothing_of_report rows none (Upgrade database) asks = other _ _ refl asks.0
nothing_of_report rows none (Purge database until now) asks = other _ _ refl asks.0
nothing_of_report rows none (CheckTokens file) asks = other _ _ refl asks.0
nothing_of_report rows none (NewToken uss scopes) asks = other _ _ refl asks.0
nothing_of_report rows none NewSalt asks = other _ _ refl asks.0

-- The subcommand `backup` requests nothing if no command line has the values.
pub nothing_of_backup : (rows : List Row) → ((database to : Bor (List ℕ)) (live : Bool) → HasValues rows (Backup database to live) → ⊥) → AsksNothing (Some (codes "backup", rows))
nothing_of_backup rows none (Run tokens now database requests) asks = other _ _ refl asks.0
nothing_of_backup rows none (Serve given) asks = other _ _ refl asks.0
nothing_of_backup rows none (Pool given) asks = other _ _ refl asks.0
nothing_of_backup rows none (Begin given) asks = other _ _ refl asks.0
nothing_of_backup rows none (Follow given) asks = other _ _ refl asks.0
nothing_of_backup rows none (Loopback tokens now request) asks = other _ _ refl asks.0
nothing_of_backup rows none (Cell token) asks = other _ _ refl asks.0
nothing_of_backup rows none (Explain method target now) asks = other _ _ refl asks.0
nothing_of_backup rows none (Report database places) asks = other _ _ refl asks.0
nothing_of_backup rows none (Backup database to live) asks = none database to live asks.1
nothing_of_backup rows none (Verify file) asks = other _ _ refl asks.0
nothing_of_backup rows none (Upgrade database) asks = other _ _ refl asks.0
nothing_of_backup rows none (Purge database until now) asks = other _ _ refl asks.0
nothing_of_backup rows none (CheckTokens file) asks = other _ _ refl asks.0
nothing_of_backup rows none (NewToken uss scopes) asks = other _ _ refl asks.0
nothing_of_backup rows none NewSalt asks = other _ _ refl asks.0

-- The subcommand `verify` requests nothing if no command line has the values.
pub nothing_of_verify : (rows : List Row) → ((file : Bor (List ℕ)) → HasValues rows (Verify file) → ⊥) → AsksNothing (Some (codes "verify", rows))
nothing_of_verify rows none (Run tokens now database requests) asks = other _ _ refl asks.0
nothing_of_verify rows none (Serve given) asks = other _ _ refl asks.0
nothing_of_verify rows none (Pool given) asks = other _ _ refl asks.0
nothing_of_verify rows none (Begin given) asks = other _ _ refl asks.0
nothing_of_verify rows none (Follow given) asks = other _ _ refl asks.0
nothing_of_verify rows none (Loopback tokens now request) asks = other _ _ refl asks.0
nothing_of_verify rows none (Cell token) asks = other _ _ refl asks.0
nothing_of_verify rows none (Explain method target now) asks = other _ _ refl asks.0
nothing_of_verify rows none (Report database places) asks = other _ _ refl asks.0
nothing_of_verify rows none (Backup database to live) asks = other _ _ refl asks.0
nothing_of_verify rows none (Verify file) asks = none file asks.1
nothing_of_verify rows none (Upgrade database) asks = other _ _ refl asks.0
nothing_of_verify rows none (Purge database until now) asks = other _ _ refl asks.0
nothing_of_verify rows none (CheckTokens file) asks = other _ _ refl asks.0
nothing_of_verify rows none (NewToken uss scopes) asks = other _ _ refl asks.0
nothing_of_verify rows none NewSalt asks = other _ _ refl asks.0

-- The subcommand `upgrade` requests nothing if no command line has the values.
pub nothing_of_upgrade : (rows : List Row) → ((database : Bor (List ℕ)) → HasValues rows (Upgrade database) → ⊥) → AsksNothing (Some (codes "upgrade", rows))
nothing_of_upgrade rows none (Run tokens now database requests) asks = other _ _ refl asks.0
nothing_of_upgrade rows none (Serve given) asks = other _ _ refl asks.0
nothing_of_upgrade rows none (Pool given) asks = other _ _ refl asks.0
nothing_of_upgrade rows none (Begin given) asks = other _ _ refl asks.0
nothing_of_upgrade rows none (Follow given) asks = other _ _ refl asks.0
nothing_of_upgrade rows none (Loopback tokens now request) asks = other _ _ refl asks.0
nothing_of_upgrade rows none (Cell token) asks = other _ _ refl asks.0
nothing_of_upgrade rows none (Explain method target now) asks = other _ _ refl asks.0
nothing_of_upgrade rows none (Report database places) asks = other _ _ refl asks.0
nothing_of_upgrade rows none (Backup database to live) asks = other _ _ refl asks.0
nothing_of_upgrade rows none (Verify file) asks = other _ _ refl asks.0
nothing_of_upgrade rows none (Upgrade database) asks = none database asks.1
nothing_of_upgrade rows none (Purge database until now) asks = other _ _ refl asks.0
nothing_of_upgrade rows none (CheckTokens file) asks = other _ _ refl asks.0
nothing_of_upgrade rows none (NewToken uss scopes) asks = other _ _ refl asks.0
nothing_of_upgrade rows none NewSalt asks = other _ _ refl asks.0

-- The subcommand `purge` requests nothing if no command line has the values.
pub nothing_of_purge : (rows : List Row) → ((database : Bor (List ℕ)) (until : ℕ) (now : Option ℕ) → HasValues rows (Purge database until now) → ⊥) → AsksNothing (Some (codes "purge", rows))
nothing_of_purge rows none (Run tokens now database requests) asks = other _ _ refl asks.0
nothing_of_purge rows none (Serve given) asks = other _ _ refl asks.0
nothing_of_purge rows none (Pool given) asks = other _ _ refl asks.0
nothing_of_purge rows none (Begin given) asks = other _ _ refl asks.0
nothing_of_purge rows none (Follow given) asks = other _ _ refl asks.0
nothing_of_purge rows none (Loopback tokens now request) asks = other _ _ refl asks.0
nothing_of_purge rows none (Cell token) asks = other _ _ refl asks.0
nothing_of_purge rows none (Explain method target now) asks = other _ _ refl asks.0
nothing_of_purge rows none (Report database places) asks = other _ _ refl asks.0
nothing_of_purge rows none (Backup database to live) asks = other _ _ refl asks.0
nothing_of_purge rows none (Verify file) asks = other _ _ refl asks.0
nothing_of_purge rows none (Upgrade database) asks = other _ _ refl asks.0
nothing_of_purge rows none (Purge database until now) asks = none database until now asks.1
nothing_of_purge rows none (CheckTokens file) asks = other _ _ refl asks.0
nothing_of_purge rows none (NewToken uss scopes) asks = other _ _ refl asks.0
nothing_of_purge rows none NewSalt asks = other _ _ refl asks.0

-- The text of an argument, if there is one.
abbrev text_of : Option (Bor (List ℕ)) → Option Text
text_of o = option_map (λ word. word.now) o

-- Options from which no command of `tokens` follows do not have the values of one.
no_check : (check new scopes : Option (Bor (List ℕ))) (flag : Bool) (file : Text) → text_of check ≡ Some file → text_of new ≡ None → text_of scopes ≡ None → flag ≡ false → line_of_options check new scopes flag ≡ None → ⊥
no_check None new scopes flag file a b c d none = cc
no_check (Some f) (Some n) scopes flag file a b c d none = cc
no_check (Some f) None (Some s) flag file a b c d none = cc
no_check (Some f) None None true file a b c d none = cc
no_check (Some f) None None false file a b c d none = cc

no_token : (check new scopes : Option (Bor (List ℕ))) (flag : Bool) (uss names : Text) → text_of check ≡ None → text_of new ≡ Some uss → text_of scopes ≡ Some names → flag ≡ false → line_of_options check new scopes flag ≡ None → ⊥
no_token (Some f) new scopes flag uss names a b c d none = cc
no_token None None scopes flag uss names a b c d none = cc
no_token None (Some n) None flag uss names a b c d none = cc
no_token None (Some n) (Some s) true uss names a b c d none = cc
no_token None (Some n) (Some s) false uss names a b c d none = cc

no_salt : (check new scopes : Option (Bor (List ℕ))) (flag : Bool) → text_of check ≡ None → text_of new ≡ None → text_of scopes ≡ None → flag ≡ true → line_of_options check new scopes flag ≡ None → ⊥
no_salt (Some f) new scopes flag a b c d none = cc
no_salt None (Some n) scopes flag a b c d none = cc
no_salt None None (Some s) flag a b c d none = cc
no_salt None None None false a b c d none = cc
no_salt None None None true a b c d none = cc

-- The subcommand `tokens` requests nothing if no command follows from its options.
pub nothing_of_tokens : (rows : List Row) (check new scopes : Option (Bor (List ℕ))) (flag : Bool) → text_of check ≡ first_of (codes "check") rows → text_of new ≡ first_of (codes "new-token") rows → text_of scopes ≡ first_of (codes "scopes") rows → flag ≡ is_set (codes "new-salt") rows → line_of_options check new scopes flag ≡ None → AsksNothing (Some (codes "tokens", rows))
nothing_of_tokens rows check new scopes flag a b c d none (Run tokens now database requests) asks = other _ _ refl asks.0
nothing_of_tokens rows check new scopes flag a b c d none (Serve given) asks = other _ _ refl asks.0
nothing_of_tokens rows check new scopes flag a b c d none (Pool given) asks = other _ _ refl asks.0
nothing_of_tokens rows check new scopes flag a b c d none (Begin given) asks = other _ _ refl asks.0
nothing_of_tokens rows check new scopes flag a b c d none (Follow given) asks = other _ _ refl asks.0
nothing_of_tokens rows check new scopes flag a b c d none (Loopback tokens now request) asks = other _ _ refl asks.0
nothing_of_tokens rows check new scopes flag a b c d none (Cell token) asks = other _ _ refl asks.0
nothing_of_tokens rows check new scopes flag a b c d none (Explain method target now) asks = other _ _ refl asks.0
nothing_of_tokens rows check new scopes flag a b c d none (Report database places) asks = other _ _ refl asks.0
nothing_of_tokens rows check new scopes flag a b c d none (Backup database to live) asks = other _ _ refl asks.0
nothing_of_tokens rows check new scopes flag a b c d none (Verify file) asks = other _ _ refl asks.0
nothing_of_tokens rows check new scopes flag a b c d none (Upgrade database) asks = other _ _ refl asks.0
nothing_of_tokens rows check new scopes flag a b c d none (Purge database until now) asks = other _ _ refl asks.0
nothing_of_tokens rows check new scopes flag a b c d none (CheckTokens file) (named, has) =
    no_check check new scopes flag file.now (a ∙ has.0) (b ∙ has.1) (c ∙ has.2) (d ∙ has.3) none
nothing_of_tokens rows check new scopes flag a b c d none (NewToken uss names) (named, has) =
    no_token check new scopes flag uss.now names.now (a ∙ has.0) (b ∙ has.1) (c ∙ has.2) (d ∙ has.3) none
nothing_of_tokens rows check new scopes flag a b c d none NewSalt (named, has) =
    no_salt check new scopes flag (a ∙ has.0) (b ∙ has.1) (c ∙ has.2) (d ∙ has.3) none

-- A command that follows from its options is requested.
pub line_of_tokens : (rows : List Row) (check new scopes : Option (Bor (List ℕ))) (flag : Bool) → text_of check ≡ first_of (codes "check") rows → text_of new ≡ first_of (codes "new-token") rows → text_of scopes ≡ first_of (codes "scopes") rows → flag ≡ is_set (codes "new-salt") rows → IfSome (line_of_options check new scopes flag) (Asks (Some (codes "tokens", rows)))
line_of_tokens rows (Some file) None None false a b c d = (refl, (sym a, sym b, sym c, sym d))
line_of_tokens rows None (Some uss) (Some names) false a b c d = (refl, (sym a, sym b, sym c, sym d))
line_of_tokens rows None None None true a b c d = (refl, (sym a, sym b, sym c, sym d))
line_of_tokens rows check new scopes flag a b c d = tt

-- A consequence of a missing value holds if the value is missing.
pub if_none : {A : Type 0} (o : Option A) (P : Type 0) → (o ≡ None → P) → IfNone o P
if_none None P p = p refl
if_none (Some x) P p = tt

-- An absent argument has no value.
pub absent : (found : Option Text) (text : Text) → found ≡ None → found ≡ Some text → ⊥
absent found text none some = let bad : None ≡ Some text = sym none ∙ some in cc

-- A fact that always holds also holds if there is no value.
pub anyway : {A : Type 0} (o : Option A) (P : Type 0) → P → IfNone o P
anyway None P p = p
anyway (Some x) P p = tt

-- An implication carries over to the case without a value.
pub none_too : {A : Type 0} (o : Option A) (P Q : Type 0) → (P → Q) → IfNone o P → IfNone o Q
none_too None P Q more p = more p
none_too (Some x) P Q more p = tt

-- An implication carries over to the case with a value.
pub some_too : {A : Type 0} (o : Option A) (P Q : A → Type 0) → ((a : A) → P a → Q a) → IfSome o P → IfSome o Q
some_too None P Q more p = tt
some_too (Some x) P Q more p = more x p

-- A text is found if it is present.
pub found_where : (o : Option (Bor (List ℕ))) (found : Option Text) → option_map (λ word. word.now) o ≡ found → is_some found ≡ is_some o
found_where None found is = ap is_some (sym is)
found_where (Some word) found is = ap is_some (sym is)

-- A text is not found if it is absent.
pub absent_where : (o : Option (Bor (List ℕ))) (found : Option Text) (none : Bool) → is_some o ≡ not none → option_map (λ word. word.now) o ≡ found → none ≡ not (is_some found)
absent_where o found true none is = sym (ap not (found_where o found is ∙ none))
absent_where o found false none is = sym (ap not (found_where o found is ∙ none))

-- An absent text is not found.
pub no_text : (o : Option (Bor (List ℕ))) (found : Option Text) → is_some o ≡ false → option_map (λ word. word.now) o ≡ found → found ≡ None
no_text None found none is = sym is
no_text (Some word) found none is = let bad : true ≡ false = none in cc

-- A present text is found.
pub some_text : (o : Option (Bor (List ℕ))) (found : Option Text) → is_some o ≡ true → option_map (λ word. word.now) o ≡ found → found ≡ None → ⊥
some_text None found some is none = let bad : false ≡ true = some in cc
some_text (Some word) found some is none = let bad : Some word.now ≡ None = is ∙ none in cc

-- An argument with a number is present.
pub number_present : (id : Text) (rows : List Row) (n : ℕ) → HasNumber id rows n → first_of id rows ≡ None → ⊥
number_present id rows n (text, is, numeral, value) none = go (find (λ r. bytes_eq r.id id) rows) is none
  where
    more : (r : Row) (o : Option Text) → option_map (read_as r.reading) o ≡ Some text → o ≡ None → ⊥
    more r None some none = let bad : None ≡ Some text = some in cc
    more r (Some v) some none = let bad : Some v ≡ None = none in cc

    go : (o : Option Row) → option_and_then row_text o ≡ Some text → option_and_then (λ (r : Row). slice_get r.values 0) o ≡ None → ⊥
    go None some none = let bad : None ≡ Some text = some in cc
    go (Some r) some none = more r (slice_get r.values 0) some none

-- An option that is present, and whose value is no number in its range, has no choice.
pub no_choice : (id : Text) (least greatest : ℕ) (rows : List Row) → ((n : ℕ) → HasNumberIn id least greatest rows n → ⊥) → (first_of id rows ≡ None → ⊥) → (choice : Option ℕ) → HasChoice id least greatest rows choice → ⊥
no_choice id least greatest rows number there None has = there has
no_choice id least greatest rows number there (Some n) has = number n has

-- The fault of an error whose kind is an error of the arguments, or out of memory.
pub fault_of_kind : (mistakes : List ErrorKind) (subcommand : Option (Text × List Row)) (kind : ErrorKind) (found : LineFault) → (kind ≡ OutOfMemory) ⊎ IsAmong kind mistakes → IsFaultOf kind found → Explains mistakes subcommand found
fault_of_kind mistakes subcommand kind fault.Memory has is = tt
fault_of_kind mistakes subcommand kind (fault.Shown text) (inr mistake) is = (kind, mistake, is)
fault_of_kind mistakes subcommand kind (fault.Shown text) (inl out) is =
    elim is [
      | inl help ↦ let bad : OutOfMemory ≡ DisplayHelp = sym out ∙ help in cc
      | inr version ↦ let bad : OutOfMemory ≡ DisplayVersion = sym out ∙ version in cc
    ]
fault_of_kind mistakes subcommand kind (fault.Refused text) (inr mistake) is = inl (kind, mistake, is)
fault_of_kind mistakes subcommand kind (fault.Refused text) (inl out) is = absurd (is.2 out)

-- Without `--pool` the arguments request no instance of a pool.
pub no_pool : (rows : List Row) → asks_pool rows ≡ false → NoPool rows
no_pool rows none given has =
    let some : asks_pool rows ≡ true = ap is_some has.endpoints.1 in
    let bad : false ≡ true = sym none ∙ some in cc
