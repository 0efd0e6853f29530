-- What the proof of `probe_of` is told at its goals.
use Rattle.std.proofs.Common.{◌≡◌, ◌≢◌, ◌∙◌, ◌==◌, ℕ, true, IsSome, subst, sym, codes, arith}
use Rattle.std.proofs.Common.{inl, inr, ◌<◌, length}
use Rattle.std.specs.Prelude.{find}
use Rattle.dt_machine.specs.Found.{SpellsNew, HasProvider, IsFoundOfProbe}
use Rattle.dt_machine.proofs.Exits.{missed_text, found_text, refused_with}
use Rattle.dt_names.specs.Tuple.{SpellsTuple}
use Rattle.dt_names.specs.declared.tuple.ProbeTuple.{ProbeTuple}
use Rattle.dt_cred.specs.Class.{NamesProcess, IsClassOf}
use Rattle.dt_machine.specs.laws.Spelling.{spells_one, length-probes, spelled_at}
use Rattle.dt_machine.proofs.Spelling.{new_spelling, traced_by_class}
use Rattle.dt_machine.proofs.Spelling.{class_traced, all_at}
use Rattle.dt_machine.proofs.probes.probe_of.Goals as goal
use Rattle.dt_machine.specs.Limits.{probes_max}

pub returns-then-before-ge-PROBES_MAX : goal.returns-then-before-ge-PROBES_MAX
returns-then-before-ge-PROBES_MAX c rows are =
    let counted = length-probes 3 rows c.args.before.now are in
    let many : length rows < probes_max → ⊥ = λ few. omega arith in
    inl (many, c.has.ensures)

pub returns-in_err-tuple : goal.returns-in_err-tuple
returns-in_err-tuple c rows are =
    let counted = length-probes 3 rows c.args.before.now are in
    let few : length rows < probes_max = omega arith in
    let m = missed_text c.parse.result c.has-2.result c.in_err-tuple.field-0.0 _ c.parse.ensures.none
    c.in_err-tuple.ensures.value in
    let none : SpellsNew rows c.args.text.now → ⊥ = λ new. m.0 new.0 new.1 in
    refused_with _ (IsFoundOfProbe c.args.processes.now (length c.args.before.now) rows c.args.text.now)
    c.from_residual.result c.in_err-tuple.field-0.0 c.from_residual.ensures.1
    (inr (few, inl (none, m.1 ∙ c.has-2.ensures)))

pub returns-then-is_taken : goal.returns-then-is_taken
returns-then-is_taken c rows are =
    let counted = length-probes 3 rows c.args.before.now are in
    let few : length rows < probes_max = omega arith in
    let tuple = c.in_ok-tuple.tuple in
    let spelled = found_text c.parse.result (SpellsTuple c.args.text.now) tuple c.in_ok-tuple.ensures.ok_part
    c.parse.ensures.found in
    let taken = c.if-is_taken.ensures in
    let at = spelled_at 3 rows c.args.before.now taken.0 taken.1 are taken.2 in
    let repeated : SpellsNew rows c.args.text.now → ⊥ = λ new.
    let one = spells_one c.args.text.now tuple new.0 spelled new.1 in
    let S : ProbeTuple → Type 0 = SpellsTuple at.text in
    all_at rows taken.0 at.text (λ earlier. SpellsTuple earlier new.0 → ⊥) at.there new.2
    (subst S (taken.3 ∙ one) at.spelled) in
    inr (few, inl (repeated, c.has-then-is_taken.ensures))

pub returns-then-not-is_traced : goal.returns-then-not-is_traced
returns-then-not-is_traced c rows are =
    let counted = length-probes 3 rows c.args.before.now are in
    let few : length rows < probes_max = omega arith in
    let tuple = c.in_ok-tuple.tuple in
    let spelled = found_text c.parse.result (SpellsTuple c.args.text.now) tuple c.in_ok-tuple.ensures.ok_part
    c.parse.ensures.found in
    let new : SpellsNew rows c.args.text.now = (
      tuple,
      spelled,
      new_spelling 3 rows c.args.before.now tuple are c.if-is_taken.ensures,
    ) in
    let untraced : HasProvider c.args.processes.now c.args.text.now → ⊥ = λ has.
    let one = spells_one c.args.text.now has.0 tuple has.1 spelled in
    let D : ProbeTuple → Type 0 = λ t. t.provider ≢ codes "dtrace" in
    let T : ProbeTuple → Type 0 = λ t. (pid : ℕ) → NamesProcess t.provider pid
    → IsSome (find (λ process. process.pid == pid) c.args.processes.now) in
    let traced = class_traced c.args.processes.now tuple.provider c.new-probe.result.class
    c.new-probe.ensures.class (subst D one has.2) (subst T one has.3) in
    let yes = c.is_traced.ensures.1 traced in
    cc in
    inr (few, inr (new, inl (untraced, c.has-then-not-is_traced.ensures)))

pub returns : goal.returns
returns c rows are =
    let tuple = c.in_ok-tuple.tuple in
    let spelled = found_text c.parse.result (SpellsTuple c.args.text.now) tuple c.in_ok-tuple.ensures.ok_part
    c.parse.ensures.found in
    let yes : c.is_traced.result ≡ true = cc in
    let traced = traced_by_class c.args.processes.now tuple.provider c.new-probe.result.class
    c.new-probe.ensures.class (c.is_traced.ensures.0 yes) in
    let S : ProbeTuple → Type 0 = SpellsTuple c.args.text.now in
    let C : ProbeTuple → Type 0 = λ t. IsClassOf t.provider c.new-probe.result.class in (
      record {
        few = let few = length-probes 3 rows c.args.before.now are in omega arith;
        tuple = tuple;
        spelled = spelled;
        given = traced.0;
        new = new_spelling 3 rows c.args.before.now tuple are c.if-is_taken.ensures;
        traced = traced.1;
      },
      c.new-probe.ensures.id,
      subst S (sym c.new-probe.ensures.tuple) spelled,
      subst C (sym c.new-probe.ensures.tuple) c.new-probe.ensures.class,
    )
