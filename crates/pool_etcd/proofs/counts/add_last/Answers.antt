use Rattle.std.proofs.Common.{◌≡◌, ℕ, List, ◌∷◌, ◌++◌, true, refl, sym, ◌∙◌, subst}
use Rattle.pool_etcd.specs.Counts.{has_key}
use Rattle.pool_etcd.proofs.Countings.{left_out}
use Rattle.pool_etcd.proofs.counts.add_last.Goals as goal

pub returns-then-has_key : goal.returns-then-has_key
returns-then-has_key c = λ key.
    left_out key c.args.last.now.items c.args.count.now c.args.later.now (c.args.last.now.items ++ c.args.count.now ∷ c.args.later.now)
    (subst (λ (k : List ℕ). has_key k c.args.later.now ≡ true) c.bytes.ensures (sym c.has_key.ensures ∙ c.if-has_key.true)) refl
