-- What the proof of `add_argument` is told at its goals.
use Rattle.std.proofs.Common.{◌++◌, ap, ◌∙◌, rules}
use Rattle.std.specs.Option.{option_map}
use Rattle.dt_expr.specs.Scene.{scene_of, text_value}
use Rattle.dt_expr.specs.declared.text.Value.TheVariants as val
use Rattle.dt_program.specs.Clause.{form_of_argument}
use Rattle.dt_program.specs.declared.clause.Argument.{Argument}
use Rattle.dt_record.specs.Taking.{argument_value}
use Rattle.dt_record.proofs.bare_record.add_argument.Goals as goal

pub returns-in_ok-number-in-Number-clause-written : goal.returns-in_ok-number-in-Number-clause-written
returns-in_ok-number-in-Number-clause-written c = λ past at. (
  val.Number c.in_ok-number-in-Number.number,
  ap (λ (a : Argument). argument_value (scene_of c.args.scene.now) past (form_of_argument a)) c.in-Number.is
      ∙ ap (option_map val.Number) (c.in_ok-number-in-Number.ensures past at),
  search rules,
)

pub returns-in-Text-clause-written : goal.returns-in-Text-clause-written
returns-in-Text-clause-written c = λ past at. (
  text_value (scene_of c.args.scene.now) c.in-Text.text,
  ap (λ (a : Argument). argument_value (scene_of c.args.scene.now) past (form_of_argument a)) c.in-Text.is,
  c.add_bytes.ensures.written ∙ ap (λ shown. c.args.record.now.items ++ shown) c.shown.ensures,
)
