-- An option is set, or there is none such.
use Rattle.std.proofs.Common.{refl, sym, ap, ◌∙◌}
use Rattle.std.specs.Option.{option_map}
use Rattle.dt_life.specs.Forms.{form_of_options}
use Rattle.dt_alone.proofs.Replying.{early, option_set, option_unset}
use Rattle.dt_life.specs.Options.{setting_of, with_setting}
use Rattle.dt_alone.proofs.runner.Runner.set_option.Goals as goal

pub returns-in-Some : goal.returns-in-Some
returns-in-Some c = λ account registry life k.
    option_set account registry life c.args.self.now k _ c.in-Some.options _
    (early account registry life c.args.self.now k
    (sym c.is_inactive.ensures ∙ c.if-not-is_inactive.false))
    (c.in-Some.ensures ∙ ap (λ name. option_map (with_setting (form_of_options c.args.self.now.options))
    (setting_of name c.args.value.now)) c.as_str.ensures.value)
    (record { account = refl; seen = refl; since = refl }) refl refl refl refl refl

pub returns-in-None : goal.returns-in-None
returns-in-None c = λ account registry life k.
    option_unset account registry life c.args.self.now k _
    (early account registry life c.args.self.now k
    (sym c.is_inactive.ensures ∙ c.if-not-is_inactive.false))
    (c.in-None.ensures ∙ ap (λ name. option_map (with_setting (form_of_options c.args.self.now.options))
    (setting_of name c.args.value.now)) c.as_str.ensures.value)
