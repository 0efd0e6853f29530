-- What becomes of the program.
use Rattle.std.proofs.Common.{◌∙◌, ◌++◌, ap, sym, length, arith}
use Rattle.std.proofs.lemmas.List.{length-map}
use Rattle.dt_program.specs.Program.{form_of_program, form_of_clause}
use Rattle.dt_ecb.specs.Forms.{form_of_ecb, shapes_of}
use Rattle.dt_ecb.specs.laws.Enabled.{matched_many, length-added}
use Rattle.dt_ecb.specs.Shapes.{any_clash}
use Rattle.dt_ecb.proofs.EnableLemmas.{no_answer, much_is, forms_are, placed}
use Rattle.dt_ecb.proofs.VerdictLaws.{all_pass}
use Rattle.dt_ecb.proofs.enabling.enable.Goals as goal

pub returns-then-is_too_much-clause-refused : goal.returns-then-is_too_much-clause-refused
returns-then-is_too_much-clause-refused c =
    let clauses = form_of_program c.args.program.now in
    let accepted = shapes_of c.args.shapes.now in
    let own = shapes_of c.in_ok-own.own in (
      no_answer _ _ _ c.in_default.not-Some c.first_unallowed.ensures,
      sym (ap (any_clash accepted) c.in_ok-own.ensures)
          ∙ no_answer _ _ _ c.in_default-first_clash.not-Some c.first_clash.ensures,
      c.in_ok-ecbs.ensures.matched,
      sym (much_is c.args.account.now c.args.machine.now.registry accepted c.args.next_epid clauses
          c.in_ok-ecbs.ecbs.items c.in_ok-ecbs.ensures.value c.len.result (accepted ++ own)
          (omega (arith, c.len.ensures)) (ap (λ uses. accepted ++ uses) c.in_ok-own.ensures))
          ∙ sym c.is_too_much.ensures ∙ c.if-is_too_much.true,
    )

pub returns-clause-enabled : goal.returns-clause-enabled
returns-clause-enabled c =
    let clauses = form_of_program c.args.program.now in
    let account = c.args.account.now in
    let registry = c.args.machine.now.registry in
    let accepted = shapes_of c.args.shapes.now in
    let own = shapes_of c.in_ok-own.own in
    let made = c.in_ok-ecbs.ensures.value in (
      all_pass _ _ _ _
          (no_answer _ _ _ c.in_default.not-Some c.first_unallowed.ensures)
          (sym (ap (any_clash accepted) c.in_ok-own.ensures)
          ∙ no_answer _ _ _ c.in_default-first_clash.not-Some c.first_clash.ensures)
          c.in_ok-ecbs.ensures.matched
          (sym (much_is account registry accepted c.args.next_epid clauses c.in_ok-ecbs.ecbs.items made c.len.result
          (accepted ++ own) (omega (arith, c.len.ensures)) (ap (λ uses. accepted ++ uses) c.in_ok-own.ensures))
          ∙ sym c.is_too_much.ensures ∙ c.if-is_too_much.false),
      forms_are account registry accepted c.args.next_epid clauses c.in_ok-ecbs.ecbs.items made,
    )

pub returns-clause-placed : goal.returns-clause-placed
returns-clause-placed c =
    placed c.args.account.now c.args.machine.now.registry (shapes_of c.args.shapes.now) c.args.next_epid
    (form_of_program c.args.program.now) c.in_ok-ecbs.ecbs.items c.in_ok-ecbs.ensures.value
    (length c.args.program.now.clauses.items)
    (omega (arith, length-map c.args.program.now.clauses.items form_of_clause))

pub returns-clause-each : goal.returns-clause-each
returns-clause-each c =
    let clauses = form_of_program c.args.program.now in
    let account = c.args.account.now in
    let registry = c.args.machine.now.registry in
    let ecbs = c.in_ok-ecbs.ecbs.items in
    let made = forms_are account registry (shapes_of c.args.shapes.now) c.args.next_epid clauses ecbs
    c.in_ok-ecbs.ensures.value in
    omega (
      arith,
      matched_many account registry clauses c.in_ok-ecbs.ensures.matched,
      length-added account registry c.args.next_epid clauses,
      ap length made,
      length-map ecbs (form_of_ecb clauses),
      length-map c.args.program.now.clauses.items form_of_clause,
    )
