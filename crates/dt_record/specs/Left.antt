-- What a clause leaves while it is taken.
use Rattle.std.specs.Prelude.{ℕ, List, [], ◌++◌, length, Option, unwrap_or}
use Rattle.std.specs.Option.{option_map, option_or}
use Rattle.arrayvec.specs.ArrayVec.{ArrayVec}
use Rattle.dt_record.specs.Taking.{Effect, TakenForm, contributed, effect_exit, effect_spec, ended_by, recorded}

-- its bytes so far, where there is one
abbrev pub bytes_of : Option (ArrayVec ℕ) → Option (List ℕ)
bytes_of record' = option_map (λ bytes. bytes.items) record'

-- how many these are; 0 where there is none
abbrev pub record_len : Option (ArrayVec ℕ) → ℕ
record_len record' = length (unwrap_or (bytes_of record') [])

-- what is left, and what an effect adds to it
abbrev pub left_with : TakenForm → Effect → TakenForm
left_with left effect = record {
  record_bytes = option_map (λ bytes. bytes ++ recorded effect) left.record_bytes;
  spec = option_or left.spec (effect_spec effect);
  values = left.values ++ contributed effect;
  ends = left.ends ++ ended_by effect;
  exit = option_or left.exit (effect_exit effect);
}
