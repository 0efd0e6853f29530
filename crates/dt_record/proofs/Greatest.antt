-- Clauses within the limits of a program that leave as much as there can be.
use Rattle.std.proofs.Common.{◌≡◌, ℕ, pos, length, List, [], ◌∷◌, Some, None, codes, replicate, refl, lit≤}
use Rattle.std.specs.Int.{int_wrap}
use Rattle.dt_expr.specs.Form.{Num}
use Rattle.dt_expr.specs.Scene.{SceneForm}
use Rattle.dt_expr.specs.declared.text.Value.TheVariants as val
use Rattle.dt_program.specs.Clause.{ClauseForm, StatementForm}
use Rattle.dt_program.specs.Clause as program
use Rattle.dt_record.specs.Pasts.{TracingPast}
use Rattle.dt_record.specs.Limits.{record_max, values_max}
use Rattle.dt_record.specs.Taking.{TakenForm, Effect, records, gives, frames_bytes, taken_of, leaves, taking}
use Rattle.dt_record.specs.Within.{IsWithinLimits}
use Rattle.dt_record.proofs.Examples.{the_past, the_scene}

abbrev clause_of : StatementForm → ClauseForm
clause_of statement = record { descriptions = []; predicate = None; statements = replicate 8 statement }

abbrev left_of : StatementForm → Effect → TakenForm
left_of statement done = taken_of 1 (replicate 8 statement) (replicate 8 done)

-- eight times stack(8)
abbrev frames : StatementForm
frames = program.stack 8

abbrev frames_left : TakenForm
frames_left = left_of frames (records (frames_bytes 8 the_scene.firing.kstack))

pub greatest_record : (scene : SceneForm) × (past : TracingPast) × (clause : ClauseForm) × (left : TakenForm)
    × (bytes : List ℕ) × IsWithinLimits clause × ((taking 1 scene past clause).outcome ≡ leaves left) × (left.record_bytes ≡ Some bytes)
    × (length bytes ≡ record_max)
greatest_record = (the_scene, the_past, clause_of frames, frames_left, _, within, refl, refl, refl)
  where
    within : IsWithinLimits (clause_of frames)
    within = record {
      few = lit≤ tt;
      each = (lit≤ tt, (lit≤ tt, (lit≤ tt, (lit≤ tt, (lit≤ tt, (lit≤ tt, (lit≤ tt, (lit≤ tt, tt))))))));
    }

-- eight times @a[1, 1, 1, 1] = count()
abbrev counting : StatementForm
counting = program.aggregate (codes "a") (replicate 4 (program.number (Num (pos 1)))) program.count

abbrev values_left : TakenForm
values_left = left_of counting (gives (val.Number (pos 1) ∷ val.Number (pos 1) ∷ val.Number (pos 1) ∷ val.Number (pos 1)
    ∷ val.Number (pos 0) ∷ []))

pub most_values : (scene : SceneForm) × (past : TracingPast) × (clause : ClauseForm) × (left : TakenForm)
    × IsWithinLimits clause × ((taking 1 scene past clause).outcome ≡ leaves left) × (length left.values ≡ values_max)
unfolding int_wrap
most_values = (the_scene, the_past, clause_of counting, values_left, within, refl, refl)
  where
    within : IsWithinLimits (clause_of counting)
    within = record {
      few = lit≤ tt;
      each = (lit≤ tt, (lit≤ tt, (lit≤ tt, (lit≤ tt, (lit≤ tt, (lit≤ tt, (lit≤ tt, (lit≤ tt, tt))))))));
    }
