use Rattle.std.proofs.Common.{sym, subst}
use Rattle.pool_etcd.specs.declared.log_value.LogValue.{LogValue}
use Rattle.pool_etcd.specs.Following.{Adds}
use Rattle.pool_etcd.proofs.Followings.{adds_link, adds_nothing}
use Rattle.pool_etcd.proofs.following.Following.add_value.Goals as goal

pub returns-in-Link-clause-added : goal.returns-in-Link-clause-added
returns-in-Link-clause-added c =
    subst (λ (v : LogValue). Adds c.args.self.now v c.args.line.now c.args.line.now) (sym c.in-Link.is) (adds_link c.args.self.now c.in-Link.field-0 c.args.line.now)

pub returns-clause-added : goal.returns-clause-added
returns-clause-added c =
    subst (λ (v : LogValue). Adds c.args.self.now v c.args.line.now c.args.line.now) (sym c.in-Other.is) (adds_nothing c.args.self.now c.args.line.now)
