use Rattle.std.proofs.Common.{sym, subst, ℕ, List}
use Rattle.std.specs.Prelude.{IsUtf8}
use Rattle.std.proofs.lemmas.Fmt.{IsAscii-decimal}
use Rattle.std.proofs.lemmas.Str.{IsUtf8-from_ascii}
use Rattle.pool_etcd.proofs.Numbers.{number_of-other}
use Rattle.pool_etcd.proofs.number.number_in_bytes.Goals as goal

pub returns-in_default : goal.returns-in_default
returns-in_default c =
    sym (number_of-other c.args.bytes.now
    (λ n low e. c.in_default.ensures.cases.0 (subst (λ (bs : List ℕ). IsUtf8 bs) (sym e) (IsUtf8-from_ascii _ (IsAscii-decimal n low)))))
