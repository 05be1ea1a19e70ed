use Rattle.std.proofs.Common.{◌≡◌, ◌-◌, length, take, drop}
use Rattle.std.specs.Str.{bytes_eq}
use Rattle.pool_etcd.proofs.ListLines.{behind_space, other_front}
use Rattle.pool_etcd.proofs.suppliers.is_line_of.Goals as goal

pub returns-then-first-eq-SPACE : goal.returns-then-first-eq-SPACE
returns-then-first-eq-SPACE c =
    let behind = c.in-Some-len1-up.field-0.now in
    let cases = c.in-Some-len1-up.ensures.cases in
    let e : c.eq.result ≡ bytes_eq (take (length behind - 1) (drop 1 behind)) c.args.uss.now = c.eq.ensures in
    behind_space c.args.line.now c.args.organization.now c.args.uss.now behind c.eq.result cases.0 cases.1 c.in-Some-len1-up.len_at_least c.if-first-eq-SPACE.true e

pub returns-in_default-2 : goal.returns-in_default-2
returns-in_default-2 c =
    let other = rw c.in_default.is at c.strip_prefix.ensures.cases in
    (λ t. let h : ⊥ = cc in absurd h, λ e. absurd (other_front c.args.line.now c.args.organization.now c.args.uss.now other e))
