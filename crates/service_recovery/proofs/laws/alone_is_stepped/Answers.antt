use Rattle.service_recovery.proofs.Persisting as kept
use Rattle.service_recovery.proofs.laws.alone_is_stepped.Goals as goal

pub returns : goal.returns
returns c = λ salt a b calls replies. kept.alone_is_stepped salt a b calls replies
