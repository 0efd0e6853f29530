-- A description is listed as the one reading that it has.
use Rattle.std.proofs.Common.{Some, None, Ok, Err, refl, ap}
use Rattle.dt_lang.specs.Description.{form_of_description}
use Rattle.dt_lang.specs.declared.fault.Why.TheVariants.{Probe}
use Rattle.dt_life.specs.Answer.{listed}
use Rattle.dt_life.specs.Ask.{description_of, is_described}
use Rattle.dt_life.specs.declared.refusal.Refusal.TheVariants.{Program}
use Rattle.dt_life.proofs.told.reply_to_list.Goals as goal

pub returns-in-Err : goal.returns-in-Err
returns-in-Err c = λ life.
    let text = c.args.text.now in
    rw (c.one_description.ensures text (description_of text) (Err c.in-Err.field-0) (is_described text) c.in-Err.ensures.fault)
    (Some (Program 0 Probe), refl, refl)

pub returns : goal.returns
returns c = λ life.
    let text = c.args.text.now in
    let form = form_of_description c.in-Ok.description in
    rw (c.one_description.ensures text (description_of text) (Ok form) (is_described text) c.in-Ok.ensures.found) (
      None,
      refl,
      ap listed c.in_ok-probes.ensures,
    )
