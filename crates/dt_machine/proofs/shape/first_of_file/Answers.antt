-- What the proof of `first_of_file` is told at its goals.
use Rattle.std.proofs.Common.{◌≡◌, ◌∙◌, true, codes, inl, inr, sym}
use Rattle.serde_json.specs.Find.{get}
use Rattle.serde_json.specs.View.{view}
use Rattle.dt_machine.specs.declared.found.FileKey.TheVariants as key
use Rattle.dt_machine.specs.declared.found.Part.TheVariants.{File}
use Rattle.dt_machine.specs.Found.{of, IsMisshapenAccount, IsMisshapenProcess, IsMisshapenProbe}
use Rattle.dt_machine.specs.Given.{is_integer, is_text, has_field}
use Rattle.dt_machine.specs.Shape.{is_account, is_process}
use Rattle.dt_machine.proofs.Shapes.{field_wrong, file_answer}
use Rattle.dt_machine.proofs.shape.first_of_file.Goals as goal

pub returns-in-Some : goal.returns-in-Some
returns-in-Some c =
    let d = view c.args.file.now in
    let cpus : has_field (codes "cpus") is_integer d ≡ true = sym c.has_integer.ensures ∙ c.if-not-has_integer.false in
    let wrong = field_wrong (of File key.Accounts) is_account IsMisshapenAccount (get (codes "accounts") d) c.in-Some.found
    c.in-Some.ensures in
    inr (cpus, inl (wrong, c.in-Some.ensures))

pub returns-in-Some-first_of_processes : goal.returns-in-Some-first_of_processes
returns-in-Some-first_of_processes c =
    let d = view c.args.file.now in
    let cpus : has_field (codes "cpus") is_integer d ≡ true = sym c.has_integer.ensures ∙ c.if-not-has_integer.false in
    let told = c.in-Some-first_of_processes.ensures in
    let wrong = field_wrong (of File key.Processes) is_process IsMisshapenProcess (get (codes "processes") d)
    c.in-Some-first_of_processes.found told in
    inr (cpus, inr (c.in_default.ensures, inl (wrong, told)))

pub returns-in-Some-first_of_probes : goal.returns-in-Some-first_of_probes
returns-in-Some-first_of_probes c =
    let d = view c.args.file.now in
    let cpus : has_field (codes "cpus") is_integer d ≡ true = sym c.has_integer.ensures ∙ c.if-not-has_integer.false in
    let told = c.in-Some-first_of_probes.ensures in
    let wrong = field_wrong (of File key.Probes) is_text IsMisshapenProbe (get (codes "probes") d)
    c.in-Some-first_of_probes.found told in
    inr (cpus, inr (c.in_default.ensures, inr (c.in_default-first_of_processes.ensures, inl (wrong, told))))

pub returns : goal.returns
returns c =
    let d = view c.args.file.now in
    let cpus : has_field (codes "cpus") is_integer d ≡ true = sym c.has_integer.ensures ∙ c.if-not-has_integer.false in
    file_answer c.first_of_scripts.result d cpus c.in_default.ensures c.in_default-first_of_processes.ensures
    c.in_default-first_of_probes.ensures c.first_of_scripts.ensures
