-- What the bytes of a token file say.
use Rattle.std.proofs.Common.{◌≡◌, ℕ, List, Result, Ok, Err, subst}
use Rattle.token_conf.specs.TokenFile.{TokenFile}
use Rattle.server_base.specs.declared.server_log.TokenReloadFault.{TokenReloadFault}
use Rattle.server_base.specs.declared.server_log.TokenReloadFault.TheVariants as fault
use Rattle.server_watch.specs.Tokens.{ComesOf, IsVerdict}

-- What a text says, its bytes say.
pub verdict_of : (first : TokenFile) (text bytes : List ℕ) (found : Result TokenFile TokenReloadFault) → text ≡ bytes → ComesOf first text found → IsVerdict first bytes found
verdict_of first text bytes (Ok table) same comes = subst (λ (x : List ℕ). ComesOf first x (Ok table)) same comes
verdict_of first text bytes (Err (fault.Wrong why)) same comes = subst (λ (x : List ℕ). ComesOf first x (Err (fault.Wrong why))) same comes
verdict_of first text bytes (Err fault.OtherSalt) same comes = subst (λ (x : List ℕ). ComesOf first x (Err fault.OtherSalt)) same comes
verdict_of first text bytes (Err fault.Unread) same comes = absurd comes
