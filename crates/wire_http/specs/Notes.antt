-- The texts that explain a response, and what is written with them.
use Rattle.std.specs.Prelude.{◌≡◌, ℕ, Bool, List, [], Option}
use Rattle.std.specs.Io.KnownBytes.{Appends}
use Rattle.service_step.specs.declared.reply.Reply.{Reply}
use Rattle.wire_route.specs.declared.endpoint.Endpoint.{Endpoint}
use Rattle.wire_http.specs.declared.explaining.Explaining.{Explaining}
use Rattle.wire_http.specs.declared.explaining.Explaining.TheVariants.{Off, On}
use Rattle.wire_http.specs.Text.{noted_text, response_text}

-- Holds if these may be the texts of a response. Without the option there are none. With it nothing
-- is claimed of them.
abbrev pub MayBeNotes : Explaining → List (List ℕ) → Type 0
MayBeNotes Off notes = notes ≡ []
MayBeNotes On notes = Unit {0}

-- Holds if the response to that reply was written. Without the option it is that of the policy.
-- With it, an explained denial may have one more member, with some texts.
abbrev pub IsWritten : Explaining → (before text : Option (List ℕ)) → Option Endpoint → Bool
    → Reply → Type 0
IsWritten Off before text endpoint closing reply =
    Appends before text (response_text endpoint closing reply)
IsWritten On before text endpoint closing reply = (notes : List (List ℕ))
    × Appends before text (noted_text notes endpoint closing reply)
