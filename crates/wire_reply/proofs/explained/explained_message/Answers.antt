use Rattle.std.proofs.Common.{◌≡◌, [], ◌++◌, ap, map, ◌∙◌, rules}
use Rattle.std.specs.Prelude.{string_bytes}
use Rattle.json.specs.Print.{print}
use Rattle.wire_reply.specs.Built.{explained_data}
use Rattle.wire_reply.specs.Tokens.{tokens_of}
use Rattle.wire_reply.proofs.Explanations.{print-explained, some_notes}
use Rattle.wire_reply.proofs.explained.explained_message.Goals as goal

pub returns : goal.returns
returns c =
    let before : c.write_explained.new.out.before ≡ [] = search rules in
    let tokens : c.write_explained.new.out.tokens ≡ tokens_of (explained_data (map string_bytes c.args.notes.now) c.args.words.now) = search rules in
    c.into_inner.ensures.items
    ∙ ap (λ bytes. bytes ++ print c.write_explained.new.out.tokens) before
    ∙ ap print tokens
    ∙ print-explained (map string_bytes c.args.notes.now) c.args.words.now (some_notes c.args.notes.now c.requires.some)
