-- Refusals without where their texts lie in memory.
use Rattle.std.specs.Prelude.{option_map}
use Rattle.dt_front.specs.Refusals.{RefusalForm}
use Rattle.dt_front.specs.declared.refusal.ToldRefusal.{ToldRefusal}

abbrev pub form_of_refusal : ToldRefusal → RefusalForm
form_of_refusal refusal = record {
  number = refusal.number;
  at = refusal.at;
  clause = refusal.clause;
  why = option_map (λ text. text.now) refusal.why;
  what = option_map (λ text. text.now) refusal.what;
}
