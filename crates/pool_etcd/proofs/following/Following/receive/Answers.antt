use Rattle.std.proofs.Common.{◌≡◌, ℕ, List, ◌++◌, Bool, Option, Some, ap, sym, ◌∙◌, rules}
use Rattle.std.specs.Prelude.{unwrap_or}
use Rattle.pool_chain.specs.Known.{Known, shortened}
use Rattle.pool_etcd.specs.declared.following.Following.{Following}
use Rattle.pool_etcd.specs.declared.following.LineValues.{LineValues}
use Rattle.pool_etcd.specs.declared.line_links.Verdict.{Verdict}
use Rattle.pool_etcd.specs.declared.log_value.LogEntry.{LogEntry}
use Rattle.pool_etcd.specs.Following.{AddsLine, HasLine}
use Rattle.pool_etcd.specs.Linked.{linked_in}
use Rattle.pool_etcd.proofs.Followings.{admitted_line, known_pool, linked_line, refused_line, unlinked_line}
use Rattle.pool_etcd.proofs.following.Following.receive.Goals.{in_default-via-in-None-1, in_default-via-in-Some+else-pool-self}
use Rattle.pool_etcd.proofs.following.Following.receive.Goals as goal

pub returns-then-line-clause-refuses : goal.returns-then-line-clause-refuses
returns-then-line-clause-refuses c =
    let has : HasLine c.args.self.now c.args.changes.now c.in_ok-line.line = c.in_ok-line.ensures.values in
    let agrees : (pool : ℕ) → c.or-pool.result ≡ Some pool → pool ≡ c.args.self.now.settings =
    elim c.in_default.branch [
      | in_default-via-in-None-1 w ↦ search rules
      | in_default-via-in-Some+else-pool-self w ↦ λ pool e. cc
    ] in
    λ _. refused_line c.args.self.now c.args.changes.now c.in_ok-line.line c.or-pool.result has c.if-line.true c.or-pool.ensures agrees

pub returns-then-line-2-clause-unlinks : goal.returns-then-line-2-clause-unlinks
returns-then-line-2-clause-unlinks c =
    let has : HasLine c.args.self.now c.args.changes.now c.in_ok-line.line = c.in_ok-line.ensures.values in
    let agrees : (pool : ℕ) → c.or-pool.result ≡ Some pool → pool ≡ c.args.self.now.settings =
    elim c.in_default.branch [
      | in_default-via-in-None-1 w ↦ search rules
      | in_default-via-in-Some+else-pool-self w ↦ λ pool e. cc
    ] in
    λ _. unlinked_line c.args.self.now c.args.changes.now c.in_ok-line.line c.or-pool.result has c.if-line-2.true c.or-pool.ensures agrees

pub returns-2-clause-values : goal.returns-2-clause-values
returns-2-clause-values c =
    let old = c.args.self.now in
    let line = c.in_ok-line.line in
    let has : HasLine old c.args.changes.now line = c.in_ok-line.ensures.values in
    let adds : AddsLine old c.add_line.new.self line c.add_line.new.line c.args.changes.now = c.in_ok-add_line.ensures.added in
    let known : c.in_default.pool ≡ c.or-pool.result =
    elim c.in_default.branch [
      | in_default-via-in-None-1 w ↦ w.pool-is
      | in_default-via-in-Some+else-pool-self w ↦ w.pool-is ∙ sym w.in-Some.is
    ] in
    let agrees : (pool : ℕ) → c.or-pool.result ≡ Some pool → pool ≡ old.settings =
    elim c.in_default.branch [
      | in_default-via-in-None-1 w ↦ search rules
      | in_default-via-in-Some+else-pool-self w ↦ λ pool e. cc
    ] in
    let settings : c.add_line.new.self.settings ≡ old.settings = ap (λ (f : Following). f.settings) adds.others in
    record {
      values = has.values;
      given = has.given;
      added = adds.entries ∙ ap (λ (es : List LogEntry). old.entries.items ++ es) has.entries;
      counted = search rules;
      pool = known ∙ known_pool old c.args.changes.now line has c.or-pool.result c.or-pool.ensures;
      agrees = λ pool e. agrees pool (sym known ∙ e) ∙ sym settings;
      settings = settings;
      suppliers = c.replace_list.ensures
          ∙ ap (λ (o : Option (List ℕ)). unwrap_or o c.add_line.new.self.suppliers) (c.take.ensures.value ∙ ap (λ (l : LineValues). l.suppliers) adds.left)
          ∙ ap (λ (f : Following). unwrap_or line.suppliers f.suppliers) adds.others
          ∙ has.suppliers;
      writer = ap (λ (f : Following). f.writer) adds.others;
      admitted = admitted_line old c.args.changes.now line has c.if-line.false;
      linked = linked_line old c.args.changes.now line has c.if-line-2.false;
      verdicts = adds.verdicts ∙ ap (λ (us : List Verdict). old.verdicts.items ++ us) has.verdicts;
      chain = c.shorten-2.ensures ∙ ap (λ (k : Known). shortened k) (adds.chain ∙ has.chain);
      next = adds.next;
      counts = λ key. c.shorten.ensures key ∙ adds.counts key;
      fence = ap (λ (f : Following). record f.own { is_given = c.news-news.result.is_given }) adds.others
          ∙ ap (λ (b : Bool). record old.own { is_given = b }) c.news-news.ensures.given;
      kept = λ d. let yes = c.news-news.ensures.deleted.1 d in let no = c.if-news.false in let h : ⊥ = cc in h;
    }
