-- The response to a request for the airspace.
use Rattle.std.specs.Prelude.{◌≡◌, ◌⊎◌, ℕ, List, None, Some, Result, Ok, Err, codes}
use Rattle.space_snapshot.specs.declared.snapshot.NoMirror.{NoMirror}
use Rattle.space_snapshot.specs.declared.snapshot.NoMirror.TheVariants as copies
use Rattle.admin_http.specs.declared.admin_route.AdminRoute.TheVariants as page
use Rattle.admin_http.specs.Answer.{text_of, type_of}

-- The reason why there is no mirror, in words.
abbrev pub words_of : NoMirror → List ℕ
words_of copies.None = codes "no mirror: out of memory\n"
words_of copies.Dropped = codes "no mirror: dropped after a failed commit\n"

-- Holds if the response is a page, or says that the query is invalid. Without a snapshot it gives
-- the reason.
abbrev pub AnswersAirspace : {T : Type 0} → Result T NoMirror → (text : List ℕ) → Type 0
AnswersAirspace (Ok shown) text =
    ((body : List ℕ) × (text ≡ text_of 200 (type_of (Some page.Airspace)) None body))
    ⊎ (text ≡ text_of 400 (type_of None) None (codes "invalid query\n"))
AnswersAirspace (Err why) text = text ≡ text_of 503 (type_of None) None (words_of why)
