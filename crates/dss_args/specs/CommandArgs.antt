-- What a command line requests.
use Rattle.std.specs.Prelude.{
  ◌≡◌,
  ◌≤◌,
  ◌⊎◌,
  ℕ,
  Bool,
  true,
  false,
  List,
  [],
  ◌∷◌,
  Option,
  Some,
  None,
  codes,
  is_some,
  length,
  map,
  nat_eq,
  nat_le,
  not,
  option_map,
  ◌&&◌,
  ◌==◌,
  ◌||◌,
}
use Rattle.std.specs.Cmp.Lexicographic.{pointwise}
use Rattle.std.specs.List.{list_all, slice_split}
use Rattle.std.specs.Option.{option_map_or}
use Rattle.std.specs.Borrow.{Bor}
use Rattle.std.specs.Net.Addr.{IsLoopbackV6, IsV4And, MatchIp, ipv4_octets}
use Rattle.std.specs.Net.Grammar.{IsIpText, IsSocketText}
use Rattle.std.specs.Net.Socket.{IsPlainSocket, socket_ip, socket_port}
use Rattle.std.specs.declared.net.ip_addr.IpAddr.{IpAddr}
use Rattle.std.specs.declared.net.ipv4_addr.Ipv4Addr.{Ipv4Addr}
use Rattle.std.specs.declared.net.socket_addr.SocketAddr.{SocketAddr}
use Rattle.std.specs.Str.Parse.{IsNumeral, digits_value, without_leading_plus}
use Rattle.clap.specs.Kinds.{IsAmong}
use Rattle.clap.specs.Words.{Row, Text, all_of, first_of, one_of}
use Rattle.clap.specs.declared.error.kind.ErrorKind.{ErrorKind}
use Rattle.dss_args.specs.LineFault.{IsFaultOf}
use Rattle.dss_args.specs.declared.fault.LineFault.{LineFault}
use Rattle.dss_args.specs.declared.fault.LineFault.TheVariants as fault
use Rattle.dss_args.specs.declared.command_args.TheConstants.{
  MAX_QUOTA,
  MAX_TIME,
  MAX_PORT,
  MAX_CONNECTIONS,
  MAX_RESPONSE_MEMORY,
  RESPONSE_MEMORY,
  MAX_COUNT,
}
use Rattle.dss_args.specs.declared.command_args.CommandArgs.{CommandArgs}
use Rattle.dss_args.specs.declared.command_args.CommandArgs.TheVariants.{
  Backup,
  Begin,
  Cell,
  CheckTokens,
  Explain,
  Follow,
  Loopback,
  NewSalt,
  NewToken,
  Pool,
  Report,
  Run,
  Serve,
  Purge,
  Upgrade,
  Verify,
}
use Rattle.dss_args.specs.declared.begin_args.BeginArgs.{BeginArgs}
use Rattle.dss_args.specs.declared.follow_args.FollowArgs.{FollowArgs}
use Rattle.dss_args.specs.declared.pool_args.PoolArgs.{PoolArgs}
use Rattle.dss_args.specs.declared.serve_args.ServeArgs.{ServeArgs}

-- The texts of some arguments.
abbrev pub texts : List (Bor (List ℕ)) → List Text
texts words = map (λ word. word.now) words

-- Holds if the value of an argument is this decimal number.
abbrev pub HasNumber : Text → List Row → ℕ → Type 0
HasNumber id rows n =
    (text : List ℕ) × (one_of id rows ≡ Some text) × IsNumeral 10 (without_leading_plus text)
    × (n ≡ digits_value 10 (without_leading_plus text))

-- Holds if the value is this number, in the range from `least` to `greatest`.
abbrev pub HasNumberIn : Text → ℕ → ℕ → List Row → ℕ → Type 0
HasNumberIn id least greatest rows n = HasNumber id rows n × (least ≤ n) × (n ≤ greatest)

-- Holds if an optional argument has this number, or is absent.
abbrev pub HasChoice : Text → ℕ → ℕ → List Row → Option ℕ → Type 0
HasChoice id least greatest rows None = first_of id rows ≡ None
HasChoice id least greatest rows (Some n) = HasNumberIn id least greatest rows n

-- Holds if an optional argument has this number, or is absent and this is the default.
abbrev pub HasNumberOr : Text → ℕ → ℕ → ℕ → List Row → ℕ → Type 0
HasNumberOr id least greatest otherwise rows n =
    HasNumberIn id least greatest rows n ⊎ ((first_of id rows ≡ None) × (n ≡ otherwise))

-- The address 127.0.0.1.
abbrev pub IsLocalV4 : Ipv4Addr → Type 0
IsLocalV4 ip = ipv4_octets ip ≡ 127 ∷ 0 ∷ 0 ∷ 1 ∷ []

-- Holds if this is 127.0.0.1 with the port.
abbrev pub IsLocal : SocketAddr → ℕ → Type 0
IsLocal a port = IsV4And (socket_ip a) IsLocalV4 × IsPlainSocket a port

-- Holds if this is 127.0.0.1 or ::1.
abbrev pub IsLoopback : IpAddr → Type 0
IsLoopback ip = MatchIp ip IsLocalV4 IsLoopbackV6

-- Holds if the text is this address with its port, which is not 0.
abbrev pub IsAddress : Text → SocketAddr → Type 0
IsAddress text a = IsSocketText text a × (1 ≤ socket_port a)

-- Holds if the text of `--listen` is this address. A text without a port has that of `--port`.
abbrev pub IsListen : (port : Option ℕ) → Text → SocketAddr → Type 0
IsListen port text a =
    ((n : ℕ) × (port ≡ Some n) × IsIpText text (socket_ip a) × IsPlainSocket a n) ⊎ IsAddress text a

-- Holds if the texts of `--listen` are these addresses, in order.
abbrev pub AreListens : (port : Option ℕ) → List Text → List SocketAddr → Type 0
AreListens port [] [] = Unit {0}
AreListens port [] (a ∷ addresses) = ⊥
AreListens port (text ∷ rest) [] = ⊥
AreListens port (text ∷ rest) (a ∷ addresses) =
    IsListen port text a × AreListens port rest addresses

-- The addresses to listen on: those of `--listen`, or 127.0.0.1 with the port of `--port`.
abbrev pub ListensOn : (port : Option ℕ) → Option (List Text) → List SocketAddr → Type 0
ListensOn port None addresses =
    (a : SocketAddr) × (n : ℕ) × (addresses ≡ a ∷ []) × (port ≡ Some n) × IsLocal a n
ListensOn port (Some texts) addresses = AreListens port texts addresses

-- The addresses to listen on, of these arguments.
abbrev pub HasListen : List Row → List SocketAddr → Type 0
HasListen rows addresses =
    (port : Option ℕ) × HasChoice (codes "port") 1 MAX_PORT rows port
    × ListensOn port (all_of (codes "listen") rows) addresses

-- The address of the admin port: 127.0.0.1 with the option's number, or the option's address.
abbrev pub HasAdmin : List Row → Option SocketAddr → Type 0
HasAdmin rows None = first_of (codes "admin-port") rows ≡ None
HasAdmin rows (Some a) =
    ((n : ℕ) × HasNumberIn (codes "admin-port") 1 MAX_PORT rows n × IsLocal a n)
    ⊎ ((text : List ℕ) × (first_of (codes "admin-port") rows ≡ Some text) × IsAddress text a
    × IsLoopback (socket_ip a))

-- True if a flag is set.
abbrev pub is_set : Text → List Row → Bool
is_set id rows =
    option_map_or (λ text. pointwise nat_eq text (codes "true")) (first_of id rows) false

-- Holds if the options and the flag of the subcommand `tokens` have these values.
abbrev pub HasOptions : List Row → Option Text → Option Text → Option Text → Bool → Type 0
HasOptions rows check new scopes new_salt =
    (first_of (codes "check") rows ≡ check)
    × (first_of (codes "new-token") rows ≡ new)
    × (first_of (codes "scopes") rows ≡ scopes)
    × (is_set (codes "new-salt") rows ≡ new_salt)

-- Holds if an option has this value, or is absent.
abbrev pub HasText : Text → List Row → Option (Bor Text) → Type 0
HasText id rows word = first_of id rows ≡ option_map (λ text. text.now) word

-- True if a backup directory is given without an admin port, on which backups are requested.
abbrev pub lacks_port : List Row → Bool
lacks_port rows =
    is_some (first_of (codes "backup-dir") rows) && not (is_some (first_of (codes "admin-port") rows))

-- True if an option is given.
abbrev pub is_given : Text → List Row → Bool
is_given id rows = is_some (first_of id rows)

-- ---- an instance of a pool

-- True if the arguments of `serve` request an instance of a pool.
abbrev pub asks_pool : List Row → Bool
asks_pool rows = is_given (codes "pool") rows

-- True if an option is given that only an instance of a pool has.
abbrev pub has_pool_option : List Row → Bool
has_pool_option rows =
    is_given (codes "as") rows || is_given (codes "etcd-user") rows || is_given (codes "files") rows

-- True if an option is given that an instance of a pool does not have.
abbrev pub has_store_option : List Row → Bool
has_store_option rows =
    is_given (codes "db") rows || is_given (codes "quota") rows
    || is_given (codes "response-memory") rows || is_given (codes "backup-dir") rows
    || is_set (codes "double-sync") rows

-- The parts of a text, separated by commas.
abbrev pub parts_of : Text → List Text
parts_of text = slice_split (λ byte. byte == 44) text

-- The addresses of etcd: the parts of the option's text, each with its port. There is at least one
-- part.
abbrev pub HasEndpoints : List Row → List SocketAddr → Type 0
HasEndpoints rows addresses =
    (text : List ℕ) × (first_of (codes "pool") rows ≡ Some text)
    × AreListens None (parts_of text) addresses

-- True for ASCII letters, digits, '-', '.' and '_'.
abbrev pub is_name_byte : ℕ → Bool
is_name_byte b =
    (nat_le 48 b && nat_le b 57) || (nat_le 65 b && nat_le b 90) || (nat_le 97 b && nat_le b 122)
    || b == 45 || b == 46 || b == 95

-- True if the text can be the name of an instance.
abbrev pub is_instance_name : Text → Bool
is_instance_name text =
    nat_le 1 (length text) && nat_le (length text) 64 && list_all is_name_byte text

-- The name of the instance, which has the form of one.
abbrev pub HasName : List Row → Bor Text → Type 0
HasName rows name =
    (first_of (codes "as") rows ≡ Some name.now) × (is_instance_name name.now ≡ true)

-- Holds if the arguments of the subcommand `serve` request an instance of a pool, and have these
-- values.
pub record HasPool (rows : List Row) (given : PoolArgs) : Type 0 where
  pub tokens : first_of (codes "tokens") rows ≡ Some given.tokens.now
  pub endpoints : HasEndpoints rows given.endpoints.items
  pub name : HasName rows given.name
  pub etcd_user : HasText (codes "etcd-user") rows given.etcd_user
  pub files : HasText (codes "files") rows given.files
  pub retention : HasChoice (codes "retention") 1 MAX_TIME rows given.retention
  pub listen : HasListen rows given.listen.items
  pub count : HasChoice (codes "count") 1 MAX_COUNT rows given.count
  pub max_connections :
      HasNumberOr (codes "max-connections") 1 MAX_CONNECTIONS MAX_CONNECTIONS rows
      given.max_connections
  pub admin_port : HasAdmin rows given.admin_port
  pub access_log : HasText (codes "access-log") rows given.access_log
  pub no_store : has_store_option rows ≡ false
  pub explain : is_set (codes "explain") rows ≡ given.explain
  pub verbose : is_set (codes "verbose") rows ≡ given.verbose

-- Holds if the arguments of the subcommand `begin` have these values.
pub record HasBegin (rows : List Row) (given : BeginArgs) : Type 0 where
  pub tokens : first_of (codes "tokens") rows ≡ Some given.tokens.now
  pub database : first_of (codes "db") rows ≡ Some given.database.now
  pub files : first_of (codes "files") rows ≡ Some given.files.now
  pub verbose : is_set (codes "verbose") rows ≡ given.verbose

-- Holds if the arguments of the subcommand `follow` have these values.
pub record HasFollow (rows : List Row) (given : FollowArgs) : Type 0 where
  pub tokens : first_of (codes "tokens") rows ≡ Some given.tokens.now
  pub endpoints : HasEndpoints rows given.endpoints.items
  pub name : HasName rows given.name
  pub files : first_of (codes "files") rows ≡ Some given.files.now
  pub etcd_user : HasText (codes "etcd-user") rows given.etcd_user
  pub verbose : is_set (codes "verbose") rows ≡ given.verbose

-- ---- commands

-- Holds if the arguments of the subcommand `serve` request no instance of a pool, and have these
-- values.
pub record HasServing (rows : List Row) (given : ServeArgs) : Type 0 where
  pub alone : asks_pool rows ≡ false
  pub no_pool : has_pool_option rows ≡ false
  pub tokens : first_of (codes "tokens") rows ≡ Some given.tokens.now
  pub database : first_of (codes "db") rows ≡ Some given.database.now
  pub listen : HasListen rows given.listen.items
  pub count : HasChoice (codes "count") 1 MAX_COUNT rows given.count
  pub max_connections :
      HasNumberOr (codes "max-connections") 1 MAX_CONNECTIONS MAX_CONNECTIONS rows
      given.max_connections
  pub response_memory :
      HasNumberOr (codes "response-memory") 1 MAX_RESPONSE_MEMORY RESPONSE_MEMORY rows
      given.response_memory
  pub quota : HasChoice (codes "quota") 1 MAX_QUOTA rows given.quota
  pub retention : HasChoice (codes "retention") 1 MAX_TIME rows given.retention
  pub admin_port : HasAdmin rows given.admin_port
  pub backup_dir : HasText (codes "backup-dir") rows given.backup_dir
  pub access_log : HasText (codes "access-log") rows given.access_log
  pub copies : lacks_port rows ≡ false
  pub double_sync : is_set (codes "double-sync") rows ≡ given.double_sync
  pub explain : is_set (codes "explain") rows ≡ given.explain
  pub verbose : is_set (codes "verbose") rows ≡ given.verbose

-- The name of the subcommand that requests the command.
abbrev pub name_of : CommandArgs → Text
name_of (Run tokens now database requests) = codes "run"
name_of (Serve given) = codes "serve"
name_of (Pool given) = codes "serve"
name_of (Begin given) = codes "begin"
name_of (Follow given) = codes "follow"
name_of (Loopback tokens now request) = codes "self"
name_of (Cell token) = codes "cell"
name_of (Explain method target now) = codes "explain"
name_of (Report database places) = codes "report"
name_of (Backup database to live) = codes "backup"
name_of (Verify file) = codes "verify"
name_of (Upgrade database) = codes "upgrade"
name_of (Purge database until now) = codes "purge"
name_of (CheckTokens file) = codes "tokens"
name_of (NewToken uss scopes) = codes "tokens"
name_of NewSalt = codes "tokens"

-- Holds if the arguments have the values of the command.
abbrev pub HasValues : List Row → CommandArgs → Type 0
HasValues rows (Run tokens now database requests) =
    (first_of (codes "tokens") rows ≡ Some tokens.now)
    × HasNumberIn (codes "now") 0 MAX_TIME rows now
    × HasText (codes "db") rows database
    × (first_of (codes "requests") rows ≡ Some requests.now)
HasValues rows (Serve given) = HasServing rows given
HasValues rows (Pool given) = HasPool rows given
HasValues rows (Begin given) = HasBegin rows given
HasValues rows (Follow given) = HasFollow rows given
HasValues rows (Loopback tokens now request) =
    (first_of (codes "tokens") rows ≡ Some tokens.now)
    × HasNumberIn (codes "now") 0 MAX_TIME rows now
    × (first_of (codes "request") rows ≡ Some request.now)
HasValues rows (Cell token) = first_of (codes "token") rows ≡ Some token.now
HasValues rows (Explain method target now) =
    (first_of (codes "method") rows ≡ Some method.now)
    × (first_of (codes "target") rows ≡ Some target.now)
    × HasChoice (codes "now") 0 MAX_TIME rows now
HasValues rows (Report database places) =
    (first_of (codes "db") rows ≡ Some database.now) × (is_set (codes "cells") rows ≡ places)
HasValues rows (Backup database to live) =
    (first_of (codes "db") rows ≡ Some database.now) × (first_of (codes "to") rows ≡ Some to.now)
    × (is_set (codes "live") rows ≡ live)
HasValues rows (Verify file) = first_of (codes "file") rows ≡ Some file.now
HasValues rows (Upgrade database) = first_of (codes "db") rows ≡ Some database.now
HasValues rows (Purge database until now) =
    (first_of (codes "db") rows ≡ Some database.now)
    × HasNumberIn (codes "until") 0 MAX_TIME rows until
    × HasChoice (codes "now") 0 MAX_TIME rows now
HasValues rows (CheckTokens file) = HasOptions rows (Some file.now) None None false
HasValues rows (NewToken uss scopes) = HasOptions rows None (Some uss.now) (Some scopes.now) false
HasValues rows NewSalt = HasOptions rows None None None true

-- The command of these options of `tokens`: only a file to check, only a USS with scopes, or only
-- the flag.
abbrev pub line_of_options
    : Option (Bor Text) → Option (Bor Text) → Option (Bor Text) → Bool → Option CommandArgs
line_of_options (Some file) None None false = Some (CheckTokens file)
line_of_options None (Some uss) (Some scopes) false = Some (NewToken uss scopes)
line_of_options None None None true = Some NewSalt
line_of_options _ _ _ _ = None

-- Holds if the subcommand of that name, with the values of these arguments, requests the command.
abbrev pub Asks : Option (Text × List Row) → CommandArgs → Type 0
Asks None line = ⊥
Asks (Some (name, rows)) line = (name ≡ name_of line) × HasValues rows line

-- Holds if the subcommand, if any, requests no command.
abbrev pub AsksNothing : Option (Text × List Row) → Type 0
AsksNothing subcommand = (line : CommandArgs) → Asks subcommand line → ⊥

-- Holds if the fault explains a command line that has these errors, or this subcommand if there are
-- none. The fault is one of the errors, or there is no error and no command is requested. Memory
-- may run out at any command line.
abbrev pub Explains : List ErrorKind → Option (Text × List Row) → LineFault → Type 0
Explains mistakes subcommand fault.Memory = Unit {0}
Explains mistakes subcommand (fault.Shown text) = (kind : ErrorKind) × IsAmong kind mistakes
    × IsFaultOf kind (fault.Shown text)
Explains mistakes subcommand (fault.Refused text) =
    ((kind : ErrorKind) × IsAmong kind mistakes
    × IsFaultOf kind (fault.Refused text)) ⊎ ((mistakes ≡ []) × AsksNothing subcommand)
