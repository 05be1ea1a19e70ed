use Rattle.std.proofs.Common.{ap, sym, ◌∙◌, Some, List, ℕ}
use Rattle.std.specs.Result.{result_ok}
use Rattle.base64.specs.Engines.{standard}
use Rattle.base64.specs.GeneralPurpose.{decode_of}
use Rattle.pool_etcd.specs.Member.{bytes_of}
use Rattle.pool_etcd.proofs.member.bytes_of.Goals as goal

pub returns-in-Ok : goal.returns-in-Ok
unfolding bytes_of
returns-in-Ok c =
    ap (λ (s : List ℕ). result_ok (decode_of standard s)) (sym c.as_bytes.ensures.value)
    ∙ ap result_ok c.in-Ok.ensures.ok
    ∙ ap (λ (b : List ℕ). Some b) (sym c.from_vec.ensures)

pub returns-in-Err-DecodeError : goal.returns-in-Err-DecodeError
unfolding bytes_of
returns-in-Err-DecodeError c =
    ap (λ (s : List ℕ). result_ok (decode_of standard s)) (sym c.as_bytes.ensures.value)
    ∙ ap result_ok (rw c.in-Err-DecodeError.field-0-is at c.in-Err-DecodeError.ensures.err)
