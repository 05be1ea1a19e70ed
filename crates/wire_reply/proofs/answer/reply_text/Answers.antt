use Rattle.std.proofs.Common.{◌≡◌, [], ◌++◌, ap, ◌∙◌, rules}
use Rattle.json.specs.Print.{print}
use Rattle.wire_reply.specs.Built.{reply_data}
use Rattle.wire_reply.specs.Tokens.{tokens_of}
use Rattle.wire_reply.proofs.Tokens.{print-reply}
use Rattle.wire_reply.proofs.answer.reply_text.Goals as goal

pub returns : goal.returns
returns c =
    let before : c.write_reply.new.out.before ≡ [] = search rules in
    let tokens : c.write_reply.new.out.tokens ≡ tokens_of (reply_data c.args.reply.now) = search rules in
    c.into_inner.ensures.items
    ∙ ap (λ bytes. bytes ++ print c.write_reply.new.out.tokens) before
    ∙ ap print tokens
    ∙ print-reply c.args.reply.now
