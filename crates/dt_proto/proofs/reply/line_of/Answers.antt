-- What is to be shown of `line_of`.
use Rattle.std.proofs.Common.{◌≡◌, ◌∷◌, ◌++◌, [], ap, ◌∙◌, rules}
use Rattle.serde_json.specs.Written.{has_float, compact_text}
use Rattle.dt_proto.proofs.Floats.{no_float}
use Rattle.dt_proto.proofs.reply.line_of.Goals as goal

pub returns : goal.returns
returns c answer same =
    let text = c.in_ok-line.ensures.text (ap has_float c.requires.1 ∙ no_float c.requires.0) in
    let whole : c.push.new.self.items ≡ c.in_ok-line.line.items ++ 10 ∷ [] = search rules in
    whole ∙ ap (λ line. line ++ 10 ∷ []) (text ∙ ap compact_text same)
