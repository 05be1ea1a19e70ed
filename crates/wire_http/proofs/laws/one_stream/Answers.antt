use Rattle.wire_http.proofs.StreamUnique.{one_stream}
use Rattle.wire_http.proofs.laws.one_stream.Goals as goal

pub returns : goal.returns
returns g c = λ one callers bound rest clock all others n m left last d e end other x f y h.
    let same = one_stream g.M.Moments.gives callers one bound rest clock all others n m left last d e end other x f y h in
    (same.asked, same.left_is, same.clock, same.ends)
