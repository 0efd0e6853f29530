-- What is to be shown of `bytes`.
use Rattle.std.proofs.Common.{ap, ◌∙◌}
use Rattle.dt_lang.specs.Word.{word_bytes}
use Rattle.dt_lang.specs.laws.Words.{action_named, function_named, destructive_named, number_named, text_named, made_of}
use Rattle.dt_lang.proofs.word.Word.bytes.Goals as goal

pub returns-in-Action : goal.returns-in-Action
returns-in-Action c =
    made_of c.args.self _ _ _ (ap word_bytes c.in-Action.is) (action_named c.in-Action.action)
    (c.as_bytes.ensures.value ∙ c.name.ensures) c.new.ensures.valid c.new.ensures.value

pub returns-in-Function : goal.returns-in-Function
returns-in-Function c =
    made_of c.args.self _ _ _ (ap word_bytes c.in-Function.is) (function_named c.in-Function.function)
    (c.as_bytes-in-Function.ensures.value ∙ c.name-in-Function.ensures) c.new-in-Function.ensures.valid c.new-in-Function.ensures.value

pub returns-in-Destructive : goal.returns-in-Destructive
returns-in-Destructive c =
    made_of c.args.self _ _ _ (ap word_bytes c.in-Destructive.is) (destructive_named c.in-Destructive.destructive)
    (c.as_bytes-in-Destructive.ensures.value ∙ c.name-in-Destructive.ensures) c.new-in-Destructive.ensures.valid c.new-in-Destructive.ensures.value

pub returns-in-Number : goal.returns-in-Number
returns-in-Number c =
    made_of c.args.self _ _ _ (ap word_bytes c.in-Number.is) (number_named c.in-Number.variable)
    (c.as_bytes-in-Number.ensures.value ∙ c.name_of_number.ensures) c.new-in-Number.ensures.valid c.new-in-Number.ensures.value

pub returns-in-Text : goal.returns-in-Text
returns-in-Text c =
    made_of c.args.self _ _ _ (ap word_bytes c.in-Text.is) (text_named c.in-Text.variable)
    (c.as_bytes-in-Text.ensures.value ∙ c.name_of_text.ensures) c.new-in-Text.ensures.valid c.new-in-Text.ensures.value
