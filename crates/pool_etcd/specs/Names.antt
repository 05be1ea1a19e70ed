-- The keys of a log.
use Rattle.std.specs.Prelude.{ℕ, List, ◌++◌, ◌-◌, length, take, drop, codes}
use Rattle.std.specs.List.{suffix_len}
use Rattle.std.specs.Char.{is_ascii_digit}

-- The prefix of the keys of a log, and the first key behind all of these.
abbrev pub prefix : List ℕ
prefix = codes "in/"

abbrev pub prefix_end : List ℕ
prefix_end = codes "in0"

-- The key under which an instance of that name writes.
abbrev pub key_of : List ℕ → List ℕ
key_of name = prefix ++ name

-- The key of the supplier list. No instance has its name.
abbrev pub list_key : List ℕ
list_key = codes "in/@suppliers"

-- A name without the digits at its end.
abbrev pub without_digits : List ℕ → List ℕ
without_digits name = take (length name - suffix_len is_ascii_digit name) name

-- The organization of a key: the name behind the prefix, without the digits at its end.
abbrev pub organization_of : List ℕ → List ℕ
organization_of key = without_digits (drop (length prefix) key)
