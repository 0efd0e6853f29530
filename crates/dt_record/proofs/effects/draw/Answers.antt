-- What the proof of `draw` is told at its goals.
use Rattle.std.proofs.Common.{◌≡◌, ◌∷◌, [], pos, subst, to_z, w64, rules}
use Rattle.dt_expr.specs.Scene.{scene_of}
use Rattle.dt_locals.specs.History.{locals_after}
use Rattle.dt_locals.specs.LocalsAreAt.{LocalsAreAt}
use Rattle.dt_speculation.specs.Parts.{draw_answer}
use Rattle.dt_speculation.specs.laws.Parts.{draw_answers}
use Rattle.dt_record.specs.Taking.{draws, assignment_in, past_with}
use Rattle.dt_record.specs.TracingAt.{TracingAt}
use Rattle.dt_record.proofs.effects.draw.Goals as goal

pub returns-clause-done : goal.returns-clause-done
returns-clause-done c = λ past at.
    let id = c.draw-id.result in
    let read : id ≡ draw_answer past.specs =
    c.one_answer.ensures.one past.specs.nspec past.specs.events id (draw_answer past.specs)
    (c.draw-id.ensures.answers past.specs at.speculations) (draw_answers past.specs) in
    let number : to_z w64 id ≡ pos id = search (rules, c.draw-id.ensures.few) in
    subst (λ n. TracingAt
    (past_with past (draws n (assignment_in (scene_of c.args.scene.now) c.args.name.now (pos n)) ∷ []))
    c.set.new.self c.draw-id.new.self) read
    (record {
      variables = subst (λ z. LocalsAreAt (locals_after past.locals (assignment_in (scene_of c.args.scene.now) c.args.name.now z))
          c.set.new.self) number (c.set.ensures.stands past.locals at.variables);
      speculations = c.draw-id.ensures.stands past.specs at.speculations;
    })
