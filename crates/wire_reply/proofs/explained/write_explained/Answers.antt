use Rattle.std.proofs.Common.{[], ◌∷◌, map}
use Rattle.std.specs.Prelude.{string_bytes}
use Rattle.std.proofs.lemmas.Result.{on_ok_weaker}
use Rattle.json.specs.Token.{end_object}
use Rattle.wire_reply.specs.Explained.{notes_data}
use Rattle.wire_reply.specs.Tokens.{tokens_of}
use Rattle.wire_reply.proofs.Tokens.{more}
use Rattle.wire_reply.proofs.explained.write_explained.Goals as goal

pub returns-clause-adds : goal.returns-clause-adds
returns-clause-adds c =
    let old = c.args.out.now.tokens in
    let notes = more old _ _ (tokens_of (notes_data (map string_bytes c.args.notes.now))) c.in_ok-begin_with.ensures.adds c.in_ok-write_notes.ensures.adds in
    let mid = c.write_notes.new.out.tokens in
    let message = c.in_ok-write_text.ensures.adds in
    on_ok_weaker c.end_object.result
    (λ e. more old _ _ _ notes (more mid _ _ (end_object ∷ []) message e)) c.end_object.ensures.ok
