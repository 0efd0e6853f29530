-- What the proof of `read_processes` is told at its goals.
use Rattle.std.proofs.Common.{◌+◌, ◌≡◌, ◌∙◌, ◌<◌, ◌^◌, ℕ, ap, sym, take, find, length, All, IsSome, List, Option, Some}
use Rattle.std.proofs.Common.{None, arith, refl, subst, [], ◌∷◌, ◌++◌}
use Rattle.std.proofs.lemmas.List.{length-map}
use Rattle.std.proofs.lemmas.List.Elements.{All-push}
use Rattle.serde_json.specs.View.{view}
use Rattle.dt_cred.specs.declared.account.Process.{Process}
use Rattle.dt_machine.specs.declared.fault.FaultNumber.TheVariants.{Process as ProcessNumber}
use Rattle.dt_machine.specs.Found.{IsFoundOfProcess}
use Rattle.dt_machine.proofs.Told.{process_wrong, missed_row}
use Rattle.dt_machine.specs.Rows.{ProcessRow, process_row, process, number_in, IsGivenBelow, IsRightProcess}
use Rattle.dt_machine.specs.Sections.{process_rows, Indexes}
use Rattle.dt_machine.specs.laws.Soundness.{at_pid}
use Rattle.dt_machine.proofs.ByPid.{indexes_more}
use Rattle.dt_machine.specs.laws.Scripts.{length-front}
use Rattle.dt_machine.proofs.Searching.{row_at, right_more, right_all, map_next, take_next}
use Rattle.dt_machine.proofs.Searching.{length-rows}
use Rattle.dt_machine.proofs.processes.read_processes.Goals as goal
use Rattle.dt_machine.specs.Limits.{pid_max}

some_below : (limit : ℕ) (number : Option ℕ) → IsGivenBelow limit number → IsSome number
some_below limit None h = absurd h
some_below limit (Some n) h = refl

small_pid : (p : Process) (number : Option ℕ) → p.pid ≡ number_in number → IsGivenBelow (pid_max + 1) number → p.pid < 2 ^ 32
small_pid p None e h = absurd h
small_pid p (Some n) e h = omega arith

pub loop-value-preserved : goal.loop-value-preserved
loop-value-preserved c =
    let rows = process_rows c.args.rows.now in
    let i = c.loop-value.value-index in
    let row = process_row (view c.value-item.result) in
    let there = row_at process_row c.args.rows.now i c.value-item.result c.loop-value-test.true c.value-item.is in
    let few = length-front rows i row there in
    let read = c.loop-value.invariant.read in
    let found : List Process → Type 0 = Indexes c.loop-value.by_pid in
    let counted : c.len.result ≡ length (take i rows) =
    omega (arith, ap length read, length-map (take i rows) process) in
    let right = c.in-Ok.ensures (take i rows) counted c.loop-value.invariant.known
    (subst found read c.loop-value.invariant.indexes) in
    let p = c.in-Ok.process in
    let fresh : find (at_pid p.pid) c.loop-value.processes.items ≡ None = ap (find (at_pid p.pid)) read ∙ right.2 in
    let pushed : c.push.new.self.items ≡ c.loop-value.processes.items ++ p ∷ [] = c.in_ok-push-in-Ok.ensures.items in
    let placed : c.len-in-Ok.result ≡ length c.loop-value.processes.items = omega arith in
    let K : List ProcessRow → Type 0 = All (λ (r : ProcessRow). IsSome r.pid) in
    let S : List Process → Type 0 = All (λ (found : Process). found.pid < 2 ^ 32) in
    let I : List Process → Type 0 = Indexes c.insert.new.self in
    record {
      few = omega (arith, right.0.few);
      right = right_more IsRightProcess rows i row c.loop-value.invariant.right there right.0;
      known = subst K (sym (take_next rows i row there))
          (All-push (λ (r : ProcessRow). IsSome r.pid) (take i rows) row c.loop-value.invariant.known
          (some_below (pid_max + 1) row.pid right.0.pid));
      read = pushed ∙ ap (λ found. c.loop-value.processes.items ++ found ∷ []) right.1
          ∙ map_next process rows i row c.loop-value.processes.items there read;
      small = subst S (sym pushed) (All-push (λ (found : Process). found.pid < 2 ^ 32) c.loop-value.processes.items
          p c.loop-value.invariant.small (small_pid p row.pid (ap (λ (found : Process). found.pid) right.1)
          right.0.pid));
      indexes = subst I (sym pushed) (indexes_more c.insert.new.self c.loop-value.by_pid
          c.loop-value.processes.items p c.len-in-Ok.result placed c.loop-value.invariant.indexes
          c.in_ok-insert-in-Ok.ensures fresh);
    }

pub returns-in-Err-clause-fault : goal.returns-in-Err-clause-fault
returns-in-Err-clause-fault c other =
    let rows = process_rows c.args.rows.now in
    let i = c.loop-value.value-index in
    let row = process_row (view c.value-item.result) in
    let there = row_at process_row c.args.rows.now i c.value-item.result c.loop-value-test.true c.value-item.is in
    let few = length-front rows i row there in
    let read = c.loop-value.invariant.read in
    let found : List Process → Type 0 = Indexes c.loop-value.by_pid in
    let counted : c.len.result ≡ length (take i rows) =
    omega (arith, ap length read, length-map (take i rows) process) in
    let at : c.len-in-Err.result ≡ i = omega (arith, few, ap length read, length-map (take i rows) process) in
    let F : ℕ → Type 0 = λ n. IsFoundOfProcess n (take i rows) row c.in-Err.found in
    let told = subst F (omega (arith, counted, few)) (c.in-Err.ensures (take i rows) counted c.loop-value.invariant.known
    (subst found read c.loop-value.invariant.indexes)) in
    let E : ℕ → Type 0 = λ n. c.at_row.result
    ≡ record { number = ProcessNumber; cpu = 0; row = n; found = Some c.in-Err.found } in
    missed_row ProcessNumber IsRightProcess IsFoundOfProcess rows i row c.in-Err.found c.at_row.result
    (subst E at c.at_row.ensures) c.loop-value.invariant.right there
    (process_wrong i (take i rows) row c.in-Err.found told) told

pub returns-clause-right : goal.returns-clause-right
returns-clause-right c =
    right_all IsRightProcess (process_rows c.args.rows.now) c.loop-value.value-index
    (omega (arith, length-rows process_row c.args.rows.now, c.loop-value-test.false)) c.loop-value.invariant.right
