-- What the proof of `first_foreign` is told at its goals.
use Rattle.std.proofs.Common.{◌≡◌, ◌∙◌, ◌<◌, List, Vec, Global, Some, option_map, map, length, slice_get, get_or, ℕ}
use Rattle.std.proofs.Common.{ap, sym, refl, subst, arith}
use Rattle.std.proofs.lemmas.List.{length-map}
use Rattle.std.proofs.lemmas.Option.{slice_get-map, slice_get_read}
use Rattle.dt_cred.specs.declared.firing.Firing.{Firing}
use Rattle.dt_machine.specs.Registry.{Belongs}
use Rattle.dt_machine.specs.Reading.{AllRight, IsFirstWrong}
use Rattle.dt_machine.specs.Sections.{registry_of}
use Rattle.dt_machine.proofs.Searching.{right_more, right_all}
use Rattle.dt_machine.proofs.belonging.first_foreign.Goals as goal
use Rattle.dt_machine.specs.Limits.{script_max}

abbrev shown : Vec Firing Global → List Firing
shown script = script.items

script_there : (scripts : List (Vec Firing Global)) (k : ℕ) (script : Vec Firing Global) → k < length scripts
    → script ≡ get_or scripts k script → slice_get (map shown scripts) k ≡ Some script.items
script_there scripts k script inside is =
    slice_get-map shown scripts k ∙ ap (option_map shown)
    (slice_get_read scripts (length scripts) k script refl inside is)

pub first_foreign_in-requires-clause-short : goal.first_foreign_in-requires-clause-short
first_foreign_in-requires-clause-short c =
    let S : List Firing → Type 0 = AllRight (λ before _. length before < script_max) in
    subst S (sym c.as_slice.ensures.value) (c.requires.short c.loop-cpu.cpu c.index-scripts-cpu.result.items
    (script_there c.args.scripts.now c.loop-cpu.cpu c.index-scripts-cpu.result c.loop-cpu-test.true
    c.index-scripts-cpu.is))

pub returns-in-Some : goal.returns-in-Some
returns-in-Some c =
    let F : List Firing → Type 0 = λ script. IsFirstWrong
    (λ _ firing. Belongs (registry_of c.args.sections.now) firing) script c.in-Some.row in
    record {
      script = c.index-scripts-cpu.result.items;
      there = script_there c.args.scripts.now c.loop-cpu.cpu c.index-scripts-cpu.result c.loop-cpu-test.true
          c.index-scripts-cpu.is;
      first = subst F c.as_slice.ensures.value c.in-Some.ensures;
      right_before = c.loop-cpu.invariant;
    }

pub loop-cpu-preserved : goal.loop-cpu-preserved
loop-cpu-preserved c =
    let S : List Firing → Type 0 = AllRight (λ _ firing. Belongs (registry_of c.args.sections.now) firing) in
    right_more (λ _ script. AllRight (λ _ firing. Belongs (registry_of c.args.sections.now) firing) script)
    (map shown c.args.scripts.now) c.loop-cpu.cpu c.index-scripts-cpu.result.items c.loop-cpu.invariant
    (script_there c.args.scripts.now c.loop-cpu.cpu c.index-scripts-cpu.result c.loop-cpu-test.true
    c.index-scripts-cpu.is)
    (subst S c.as_slice.ensures.value c.in_default.ensures)

pub returns : goal.returns
returns c =
    right_all (λ _ script. AllRight (λ _ firing. Belongs (registry_of c.args.sections.now) firing) script)
    (map shown c.args.scripts.now) c.loop-cpu.cpu
    (omega (arith, length-map c.args.scripts.now shown, c.loop-cpu-test.false)) c.loop-cpu.invariant
