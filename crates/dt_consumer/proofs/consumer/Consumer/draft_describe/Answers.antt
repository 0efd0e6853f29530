-- The reply of a `describe` is told, and changes nothing.
use Rattle.std.proofs.Common.{List, map, refl, sym, ap, ◌∙◌, subst}
use Rattle.dt_ecb.specs.declared.parts.Ecb.{Ecb}
use Rattle.dt_lang.specs.Program.{form_of_clause}
use Rattle.dt_life.specs.Ask.{describe}
use Rattle.dt_life.specs.Life.{ecbs, set_up}
use Rattle.dt_life.specs.Placed.{AreEcbs}
use Rattle.dt_consumer.proofs.DraftLemmas.{counted_draft}
use Rattle.dt_consumer.proofs.consumer.Consumer.draft_describe.Goals as goal

pub returns-clause-drafted : goal.returns-clause-drafted
returns-clause-drafted c = λ account life m.
    let registry = c.args.machine.now.registry in
    let k = m.stands.keeps in
    counted_draft account registry life (describe c.args.epid) c.reply_to_describe.result m.in_quota
    (c.reply_to_describe.ensures account life (ap (map form_of_clause) c.clauses-clauses.ensures.value ∙ k.clauses)
    (subst (λ (es : List Ecb). AreEcbs (set_up account registry life).clauses (ecbs account registry life) es)
    (sym c.ecbs-ecbs.ensures.value) k.ecbs)) refl refl
