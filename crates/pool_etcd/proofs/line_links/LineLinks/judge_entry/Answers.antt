use Rattle.pool_etcd.proofs.Judgings.{judges_same, linked_same}
use Rattle.pool_etcd.proofs.line_links.LineLinks.judge_entry.Goals as goal

pub returns-in-Same-clause-value : goal.returns-in-Same-clause-value
returns-in-Same-clause-value c = linked_same _ c.args.entry c.judge-judgement.result c.judge-judgement.ensures c.in-Same.is

pub returns-in-Same-clause-judged : goal.returns-in-Same-clause-judged
returns-in-Same-clause-judged c =
    judges_same c.args.known.now c.args.writer c.args.entry c.judge-judgement.result c.bytes.result.now c.in_ok-verdict.verdict c.args.self.now c.push.new.self
    c.judge-judgement.ensures c.in-Same.is c.bytes.ensures c.in_ok-verdict.ensures c.in_ok-push.ensures.added c.push.ensures.unlinked c.push.ensures.chain
