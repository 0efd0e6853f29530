-- The reply of a `describe`, of the runner's own clauses and ECBs.
use Rattle.std.proofs.Common.{List, map, sym, ap, ◌∙◌, subst}
use Rattle.dt_ecb.specs.declared.parts.Ecb.{Ecb}
use Rattle.dt_lang.specs.Program.{form_of_clause}
use Rattle.dt_life.specs.Life.{ecbs, set_up}
use Rattle.dt_life.specs.Placed.{AreEcbs}
use Rattle.dt_alone.proofs.runner.Runner.describe.Goals as goal

pub returns : goal.returns
returns c = λ account life h.
    let registry = c.args.machine.now.registry in
    c.reply_to_describe.ensures account life (ap (map form_of_clause) c.deref.ensures.value ∙ h.within.clauses)
    (subst (λ (es : List Ecb). AreEcbs (set_up account registry life).clauses (ecbs account registry life) es)
    (sym c.deref-2.ensures.value) h.within.ecbs)
