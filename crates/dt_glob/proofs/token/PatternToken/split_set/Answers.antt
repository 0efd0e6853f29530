-- What the proof of `PatternToken::split_set` is told at its goals.
use Rattle.std.proofs.Common.{ap}
use Rattle.dt_glob.specs.PatternItem.{OneOf}
use Rattle.dt_glob.specs.Sign.{text_of_signs}
use Rattle.dt_glob.proofs.TokenLemmas.{begins_closes, finds_set, set_negated, set_plain}
use Rattle.dt_glob.proofs.token.PatternToken.split_set.Goals as goal

pub split_at_closing-requires : goal.split_at_closing-requires
split_at_closing-requires c =
    let h = c.requires.3 in
    (text_of_signs h.inner, c.requires.2, begins_closes c.args.text.now c.requires.0 c.requires.1 c.requires.2 h)

pub returns-in-Some-clause-set : goal.returns-in-Some-clause-set
returns-in-Some-clause-set c negated elements behind h =
    let found = finds_set c.args.text.now c.split_at_closing.result.0.now c.split_at_closing.result.1.now negated
    elements behind c.split_at_closing.ensures.split h in
    let set = set_negated negated elements c.split_at_closing.result.0.now c.in-Some.elements.now found.0
    c.in-Some.ensures.some in
    ((elements, ap (λ b. OneOf b elements) set.0, set.1), found.1)

pub returns-in-None-clause-set : goal.returns-in-None-clause-set
returns-in-None-clause-set c negated elements behind h =
    let found = finds_set c.args.text.now c.split_at_closing.result.0.now c.split_at_closing.result.1.now negated
    elements behind c.split_at_closing.ensures.split h in
    let set = set_plain negated elements c.split_at_closing.result.0.now found.0 c.in-None.ensures.none in
    ((elements, ap (λ b. OneOf b elements) set.0, set.1), found.1)
