-- The links in a line of changes.
use Rattle.std.specs.Prelude.{◌≡◌, ℕ, ◌==◌, List, [], ◌++◌, Bool, ◌||◌}
use Rattle.std.specs.List.{list_any}
use Rattle.pool_chain.specs.Known.{Known, joined, kept_more}
use Rattle.pool_etcd.specs.declared.line_links.LineLinks.{LineLinks}
use Rattle.pool_etcd.specs.declared.log_value.LogEntry.{LogEntry}
use Rattle.pool_etcd.specs.declared.log_value.LogValue.{LogValue}
use Rattle.pool_etcd.specs.declared.watch_line.Change.{Change}
use Rattle.pool_etcd.specs.Linked.{item_of, linked, unlinked, verdicts}

-- True if an entry of this writer is among the entries.
abbrev pub has_writer : ℕ → List LogEntry → Bool
has_writer writer entries = list_any (λ e. e.writer == writer) entries

-- Holds if the link of the value was judged behind the changes of the chain and of the line: its
-- verdict was added, and whether it is of an own entry that is passed over.
pub record Judges (k : Known) (writer : ℕ) (value : LogValue) (old new : LineLinks) : Type 0 where
  pub verdicts : new.verdicts.items
      ≡ old.verdicts.items ++ verdicts (joined k old.chain) value
  pub unlinked : new.is_unlinked
      ≡ (old.is_unlinked || has_writer writer (unlinked (joined k old.chain) value))
  pub chain : new.chain ≡ old.chain
