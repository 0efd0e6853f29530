-- A clause with each kind of field, and a scene in which it can be taken.
use Rattle.std.proofs.Common.{◌≡◌, ◌≤◌, ℕ, pos, length, List, [], ◌∷◌, Some, None, replicate, codes, refl, sym, subst, lit<, lit≤, FitsSigned}
use Rattle.std.specs.Int.{w64, int_wrap}
use Rattle.std.specs.List.{flat_map}
use Rattle.byteorder.specs.Endian.{big_bytes}
use Rattle.dt_cred.specs.declared.account.Process.{Process}
use Rattle.dt_cred.specs.declared.class.Class.TheVariants.{Syscall}
use Rattle.dt_cred.specs.declared.firing.Firing.{Firing}
use Rattle.dt_cred.specs.declared.probe.Probe.{Probe}
use Rattle.dt_cred.specs.declared.rights.Mode.TheVariants.{User}
use Rattle.dt_expr.specs.Form.{Num, Named, Local, Joined}
use Rattle.dt_expr.specs.Scene.{SceneForm, number_named, text_named, padded}
use Rattle.dt_expr.specs.declared.operators.BinaryOp.TheVariants.{Add}
use Rattle.dt_expr.specs.declared.scene.NumberVariable.{NumberVariable}
use Rattle.dt_expr.specs.declared.scene.NumberVariable.TheVariants.{Arg0, Arg1, Arg2, Arg3, Arg4, Arg5, Arg6, Arg7, Arg8}
use Rattle.dt_expr.specs.declared.scene.NumberVariable.TheVariants.{Arg9, Cpu, Pid, Tid, Uid, Timestamp, Id, Epid}
use Rattle.dt_expr.specs.declared.scene.TextVariable.{TextVariable}
use Rattle.dt_expr.specs.declared.scene.TextVariable.TheVariants.{Execname, Probeprov, Probemod, Probefunc, Probename}
use Rattle.dt_expr.specs.declared.text.Text.TheVariants.{Variable}
use Rattle.dt_locals.specs.Chosen.{locals_choice, value_after}
use Rattle.dt_locals.specs.History.{new_locals_past}
use Rattle.dt_locals.specs.laws.After.{fresh_value}
use Rattle.dt_program.specs.Clause.{ClauseForm, StatementForm}
use Rattle.dt_program.specs.Clause as program
use Rattle.dt_speculation.specs.History.{new_spec_past}
use Rattle.dt_record.specs.Layout as layout
use Rattle.dt_record.specs.Pasts.{TracingPast}
use Rattle.dt_record.specs.Layout.{layout_of}
use Rattle.dt_record.specs.Showing.{CanBeTaken, IsSceneInBounds}
use Rattle.dt_record.specs.Split.{AreFrames}
use Rattle.dt_record.specs.Taking.{TakenForm, assigns, assignment_in, draws, records, speculates, number_bytes, taken_of, leaves, taking}

abbrev the_process : Process
the_process = record { pid = 7; uid = 0; execname = codes "cat" }

abbrev the_probe : Probe
the_probe = record {
  id = 3;
  tuple = record { provider = codes "syscall"; «module» = []; function = codes "read"; name = codes "entry" };
  class = Syscall;
  classed = ∣ refl ∣₁;
}

abbrev the_stack : List ℕ
the_stack = 4096 ∷ replicate 7 0

abbrev the_firing : Firing
the_firing = record {
  cpu = 0;
  place = 0;
  probe = 3;
  pid = 7;
  tid = 1;
  mode = User;
  timestamp = pos 5;
  args = pos 4 ∷ replicate 9 (pos 0);
  kstack = the_stack;
  ustack = the_stack;
}

abbrev pub the_scene : SceneForm
the_scene = record { epid = 1; probe = the_probe; process = the_process; firing = the_firing }

-- nothing came to variables and speculations
abbrev pub the_past : TracingPast
the_past = record { locals = new_locals_past 64; specs = new_spec_past 1 4 }

-- self->n = arg0 + 1; self->s = speculation(); speculate(self->s); trace(self->n); trace(execname); stack(2); ustack(1)
abbrev the_statements : List StatementForm
the_statements = program.assign (codes "n") (Joined Add (Named Arg0) (Num (pos 1))) ∷ program.draw (codes "s")
    ∷ program.speculate (Local (codes "s")) ∷ program.trace (program.number (Local (codes "n")))
    ∷ program.trace (program.text (Variable Execname)) ∷ program.stack 2 ∷ program.ustack 1 ∷ []

abbrev the_clause : ClauseForm
the_clause = record { descriptions = []; predicate = None; statements = the_statements }

stack_in_bounds : AreFrames 8 the_stack
stack_in_bounds = record {
  many = refl;
  each = (lit< tt, (lit< tt, (lit< tt, (lit< tt, (lit< tt, (lit< tt, (lit< tt, (lit< tt, tt))))))));
}

numbers_in_bounds : (variable : NumberVariable) → FitsSigned w64 (number_named the_scene variable)
numbers_in_bounds Arg0 = record { sfits = lit< tt }
numbers_in_bounds Arg1 = record { sfits = lit< tt }
numbers_in_bounds Arg2 = record { sfits = lit< tt }
numbers_in_bounds Arg3 = record { sfits = lit< tt }
numbers_in_bounds Arg4 = record { sfits = lit< tt }
numbers_in_bounds Arg5 = record { sfits = lit< tt }
numbers_in_bounds Arg6 = record { sfits = lit< tt }
numbers_in_bounds Arg7 = record { sfits = lit< tt }
numbers_in_bounds Arg8 = record { sfits = lit< tt }
numbers_in_bounds Arg9 = record { sfits = lit< tt }
numbers_in_bounds Cpu = record { sfits = lit< tt }
numbers_in_bounds Pid = record { sfits = lit< tt }
numbers_in_bounds Tid = record { sfits = lit< tt }
numbers_in_bounds Uid = record { sfits = lit< tt }
numbers_in_bounds Timestamp = record { sfits = lit< tt }
numbers_in_bounds Id = record { sfits = lit< tt }
numbers_in_bounds Epid = record { sfits = lit< tt }

scene_in_bounds : IsSceneInBounds the_scene
scene_in_bounds = record {
  numbers = numbers_in_bounds;
  texts = texts;
  kstack = stack_in_bounds;
  ustack = stack_in_bounds;
}
  where
    texts : (variable : TextVariable) → length (text_named the_scene variable) ≤ 32
    texts Execname = lit≤ tt
    texts Probeprov = lit≤ tt
    texts Probemod = lit≤ tt
    texts Probefunc = lit≤ tt
    texts Probename = lit≤ tt

abbrev the_left : TakenForm
the_left = taken_of 1 the_statements
    (assigns (assignment_in the_scene (codes "n") (pos 5)) ∷ draws 1 (assignment_in the_scene (codes "s") (pos 1))
    ∷ speculates 1 ∷ records (number_bytes (pos 5)) ∷ records (padded (codes "cat")) ∷ records (flat_map (big_bytes 8) (4096 ∷ 0 ∷ []))
    ∷ records (flat_map (big_bytes 8) (4096 ∷ [])) ∷ [])

-- the premises of the law of records are met by a clause with each kind of field
pub some_taken : (scene : SceneForm) × (past : TracingPast) × (clause : ClauseForm) × (left : TakenForm)
    × CanBeTaken scene past clause × ((taking 1 scene past clause).outcome ≡ leaves left) × (left.spec ≡ Some 1)
    × (layout_of clause ≡ Some (layout.number ∷ layout.text ∷ layout.stack 2 ∷ layout.ustack 1 ∷ []))
unfolding int_wrap locals_choice value_after
some_taken = (the_scene, the_past, the_clause, the_left, can, refl, refl, refl)
  where
    can : CanBeTaken the_scene the_past the_clause
    can = record {
      scene_in_bounds = scene_in_bounds;
      locals_in_bounds = λ variable. subst (FitsSigned w64) (sym (fresh_value 64 variable)) (record { sfits = lit< tt });
      few_identifiers = lit≤ tt;
      statements_in_bounds = ((tt, record { sfits = lit< tt }), (tt, (tt, (tt, (tt, (lit≤ tt, (lit≤ tt, tt)))))));
    }
