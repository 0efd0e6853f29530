-- What the variables of an expression name.
use Rattle.std.specs.Prelude.{ℕ, ◌-◌, ◌++◌, List, length, replicate, ℤ, pos, slice_index_or}
use Rattle.dt_cred.specs.declared.account.Process.{Process}
use Rattle.dt_cred.specs.declared.probe.Probe.{Probe}
use Rattle.dt_cred.specs.declared.firing.Firing.{Firing}
use Rattle.dt_names.specs.Limits.{padded_size}
use Rattle.dt_expr.specs.declared.scene.NumberVariable.{NumberVariable}
use Rattle.dt_expr.specs.declared.scene.NumberVariable.TheVariants.{Arg0, Arg1, Arg2, Arg3, Arg4, Arg5, Arg6, Arg7, Arg8, Arg9, Cpu, Pid, Tid, Uid, Timestamp, Id, Epid}
use Rattle.dt_expr.specs.declared.scene.Scene.{Scene}
use Rattle.dt_expr.specs.declared.scene.TextVariable.{TextVariable}
use Rattle.dt_expr.specs.declared.scene.TextVariable.TheVariants.{Execname, Probeprov, Probemod, Probefunc, Probename}
use Rattle.dt_expr.specs.declared.text.Text.{Text}
use Rattle.dt_expr.specs.declared.text.Text.TheVariants.{Literal, Variable}
use Rattle.dt_expr.specs.declared.text.Value.{Value}
use Rattle.dt_expr.specs.declared.text.Value.TheVariants.{Text as TextValue}

-- A firing of a probe in a process, and the number of the enabling that it is shown to.
pub record SceneForm : Type 0 where
  pub epid : ℕ
  pub probe : Probe
  pub process : Process
  pub firing : Firing

-- a scene without where its parts lie in memory
abbrev pub scene_of : Scene → SceneForm
scene_of scene =
    record { epid = scene.epid; probe = scene.probe.now; process = scene.process.now; firing = scene.firing.now }

-- an argument of the firing, from 0 on
abbrev pub argument : SceneForm → ℕ → ℤ
argument scene place = slice_index_or scene.firing.args place (pos 0)

-- the number that a variable names
abbrev pub number_named : SceneForm → NumberVariable → ℤ
number_named scene Arg0 = argument scene 0
number_named scene Arg1 = argument scene 1
number_named scene Arg2 = argument scene 2
number_named scene Arg3 = argument scene 3
number_named scene Arg4 = argument scene 4
number_named scene Arg5 = argument scene 5
number_named scene Arg6 = argument scene 6
number_named scene Arg7 = argument scene 7
number_named scene Arg8 = argument scene 8
number_named scene Arg9 = argument scene 9
number_named scene Cpu = pos scene.firing.cpu
number_named scene Pid = pos scene.firing.pid
number_named scene Tid = pos scene.firing.tid
number_named scene Uid = pos scene.process.uid
number_named scene Timestamp = scene.firing.timestamp
number_named scene Id = pos scene.probe.id
number_named scene Epid = pos scene.epid

-- the text that a variable names
abbrev pub text_named : SceneForm → TextVariable → List ℕ
text_named scene Execname = scene.process.execname
text_named scene Probeprov = scene.probe.tuple.provider
text_named scene Probemod = scene.probe.tuple.module
text_named scene Probefunc = scene.probe.tuple.function
text_named scene Probename = scene.probe.tuple.name

-- the bytes of a text: those that are written, or those of the text that the variable names
abbrev pub text_bytes : SceneForm → Text → List ℕ
text_bytes scene (Literal bytes) = bytes
text_bytes scene (Variable variable) = text_named scene variable

-- the bytes, and zeros up to 32 bytes in all
abbrev pub padded : List ℕ → List ℕ
padded bytes = bytes ++ replicate (padded_size - length bytes) 0

-- a text as a record shows it
abbrev pub text_value : SceneForm → Text → Value
text_value scene text = TextValue (padded (text_bytes scene text))
