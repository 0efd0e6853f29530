-- What is answered to a line, without where it lies in memory.
use Rattle.std.specs.Prelude.{ℕ, List, Bool, Option, map}
use Rattle.dt_aggfn.specs.declared.function.AggFn.{AggFn}
use Rattle.dt_aggstore.specs.EntryNames.{form_of_row}
use Rattle.dt_aggstore.specs.Table.{RowForm}
use Rattle.dt_cred.specs.declared.probe.Probe.{Probe}
use Rattle.dt_record.specs.Layout.{FieldForm}
use Rattle.dt_record.specs.Fields.{form_of_layout}
use Rattle.dt_life.specs.declared.phase.Phase.{Phase}
use Rattle.dt_life.specs.declared.refusal.Refusal.{Refusal}
use Rattle.dt_life.specs.declared.reply.Reply.{Reply}
use Rattle.dt_life.specs.declared.reply.Reply.TheVariants.{Done, Enabled, Snapped, Aggregated, Status, Listed}
use Rattle.dt_life.specs.declared.reply.Reply.TheVariants.{Described, Refused}

pub data Answer : Type 0 where
  done : Answer
  enabled : (count first : ℕ) → Answer
  snapped : (cpu : ℕ) (bytes : List ℕ) (drops : ℕ) (filled : Bool) → Answer
  aggregated : (name : List ℕ) → AggFn → List RowForm → Answer
  status : Phase → (seen : ℕ) (errors aggdrops dyndrops specdrops : List ℕ) (specfails : ℕ) → Answer
  listed : List Probe → Answer
  described : (epid : ℕ) → Probe → Option (List FieldForm) → Answer
  refused : Refusal → Answer

abbrev pub answer_of : Reply → Answer
answer_of Done = done
answer_of (Enabled count first) = enabled count first
answer_of (Snapped cpu bytes drops filled) = snapped cpu bytes.items drops filled
answer_of (Aggregated name function rows) = aggregated name function (map form_of_row rows.items)
answer_of (Status phase seen errors aggdrops dyndrops specdrops specfails) =
    status phase seen errors.items aggdrops.items dyndrops.items specdrops.items specfails
answer_of (Listed probes) = listed probes.items
answer_of (Described epid probe layout) = described epid probe (form_of_layout layout)
answer_of (Refused refusal) = refused refusal
