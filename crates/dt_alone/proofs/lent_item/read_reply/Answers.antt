-- What is to be shown of `read_reply`.
use Rattle.std.proofs.Common.{◌≡◌, ◌∷◌, ◌++◌, codes, Some, None, sym, ap, ◌∙◌, subst}
use Rattle.std.proofs.lemmas.Bool.Decides.{Decides-eqb}
use Rattle.std.proofs.lemmas.List.Elements.{All-drop}
use Rattle.std.proofs.lemmas.Slice.Eq.{strip_prefix_is}
use Rattle.dt_alone.specs.Parts.{HasNo}
use Rattle.dt_alone.proofs.Cuts.{Other, same_cut, no_cut}
use Rattle.dt_alone.proofs.TrailItems.{reply_clean, reply_whole}
use Rattle.dt_alone.proofs.lent_item.read_reply.Goals as goal

pub returns-in_err-first-clause-none : goal.returns-in_err-first-clause-none
returns-in_err-first-clause-none c =
    rw c.from_residual.ensures (λ reply rest clean is. no_cut 10 c.args.text.now (codes "reply " ++ reply) rest
    c.in_err-first.ensures.none (is ∙ reply_whole reply rest))

pub returns-in_err-strip_prefix-clause-none : goal.returns-in_err-strip_prefix-clause-none
returns-in_err-strip_prefix-clause-none c =
    let cut = c.in_ok-first.ensures.found in
    rw c.from_residual-in_err-strip_prefix.ensures (λ reply rest clean is.
    let both = same_cut 10 c.in_ok-first.first.now (codes "reply " ++ reply) c.in_ok-first.rest.now rest cut.first
    (reply_clean reply clean) (sym cut.whole ∙ is ∙ reply_whole reply rest) in
    strip_prefix_is Decides-eqb c.in_ok-first.first.now (codes "reply ") None c.in_err-strip_prefix.ensures.cases
    reply both.0)

pub returns-clause-found : goal.returns-clause-found
returns-clause-found c =
    let cut = c.in_ok-first.ensures.found in
    let reply = c.in_ok-strip_prefix.field-0.now in
    let whole : c.in_ok-first.first.now ≡ codes "reply " ++ reply =
    strip_prefix_is Decides-eqb c.in_ok-first.first.now (codes "reply ") (Some c.in_ok-strip_prefix.field-0)
    c.in_ok-strip_prefix.ensures.cases in (
      All-drop (Other 10) 6 (codes "reply " ++ reply) (subst (HasNo 10) whole cut.first),
      cut.whole ∙ ap (λ line. line ++ (10 ∷ c.in_ok-first.rest.now)) whole
          ∙ sym (reply_whole reply c.in_ok-first.rest.now),
    )
