use Rattle.pool_etcd.proofs.Judgings.{judges_link}
use Rattle.pool_etcd.proofs.line_links.LineLinks.judge_link.Goals as goal

pub returns-clause-judged : goal.returns-clause-judged
returns-clause-judged c =
    judges_link c.args.known.now c.args.writer c.args.link c.judge-judgement.result c.bytes.result.now c.in_ok-verdict.verdict c.args.self.now c.push.new.self
    c.judge-judgement.ensures c.bytes.ensures c.in_ok-verdict.ensures c.in_ok-push.ensures.added c.push.ensures.unlinked c.push.ensures.chain
