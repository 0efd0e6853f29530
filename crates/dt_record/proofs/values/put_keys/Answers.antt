-- What the proof of `put_keys` is told at its goals.
use Rattle.std.proofs.Common.{◌++◌, ◌∷◌, [], ap, ◌∙◌, rules}
use Rattle.std.proofs.lemmas.List.{append_assoc}
use Rattle.dt_expr.specs.Scene.{scene_of}
use Rattle.dt_program.specs.Clause.{form_of_argument}
use Rattle.dt_record.specs.Taking.{argument_value}
use Rattle.dt_record.proofs.Loops.{on_err, each-turn, each-stop}
use Rattle.dt_record.proofs.values.put_keys.Goals as goal

pub returns-in_err-put_key-clause-fault : goal.returns-in_err-put_key-clause-fault
returns-in_err-put_key-clause-fault c =
    on_err c.from_residual.result (λ past at.
    each-stop form_of_argument (argument_value (scene_of c.args.scene.now) past) c.args.keys.now c.loop-key.key-index
    c.key-item.result c.loop-key-test.true c.key-item.is (c.in_err-put_key.ensures.fault past at))

pub loop-key-preserved : goal.loop-key-preserved
loop-key-preserved c =
    record {
      given = λ past at.
          let given = c.loop-key.invariant.given past at in
          let one = c.in_ok-put_key.ensures.given past at in (
            given.0 ++ one.0 ∷ [],
            each-turn form_of_argument (argument_value (scene_of c.args.scene.now) past) c.args.keys.now c.loop-key.key-index
                c.key-item.result c.loop-key-test.true c.key-item.is given.0 one.0 given.1 one.1,
            one.2 ∙ ap (λ vs. vs ++ one.0 ∷ []) given.2
                ∙ append_assoc c.args.values.now.items given.0 (one.0 ∷ []),
          );
      long = search rules;
    }
