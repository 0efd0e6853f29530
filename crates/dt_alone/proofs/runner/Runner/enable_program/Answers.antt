-- A program is enabled, or refused for its first fault.
use Rattle.std.proofs.Common.{◌++◌, refl, length, map, ap, ◌∙◌, arith}
use Rattle.dt_lang.specs.Program.{form_of_program}
use Rattle.dt_ecb.specs.Forms.{shapes_of, verdict_of}
use Rattle.dt_alone.proofs.Replying.{next_is, program_asked, program_done, program_refused}
use Rattle.dt_life.specs.Placed.{placed_after}
use Rattle.dt_alone.proofs.runner.Runner.enable_program.Goals as goal

pub returns-in-Ok : goal.returns-in-Ok
returns-in-Ok c = λ account life k off.
    let registry = c.args.machine.now.registry in
    let r = c.args.self.now in
    program_done account registry life r k
    (c.ecbs_go_on.ensures account registry) c.uses_of_both.ensures c.args.program.clauses.items
    c.in-Ok.ecbs.items c.extend.new.self _ _ _ off
    (next_is account registry life r k _ (omega (arith, c.len.ensures)))
    c.in-Ok.ensures.enabled c.in-Ok.ensures.placed (omega (arith, c.len-in-Ok.ensures))
    c.in_ok-extend-in-Ok.ensures.clauses
    (c.in_ok-extend-in-Ok.ensures.ecbs
    ∙ ap (λ es. r.programs.ecbs.items ++ map (placed_after (length r.programs.clauses.items)) es)
    c.deref.ensures.value)
    (ap shapes_of c.in_ok-extend-in-Ok.ensures.shapes ∙ c.in_ok-shapes-in-Ok.ensures)
    (record { account = refl; seen = refl; since = refl }) refl refl refl refl refl

pub returns-in-Some : goal.returns-in-Some
returns-in-Some c = λ account life k off.
    let registry = c.args.machine.now.registry in
    let two = program_refused account registry life c.args.self.now k c.one_verdict.ensures
    (form_of_program c.args.program) (verdict_of c.in-Err.fault) c.in-Some.refusal off
    (program_asked account registry life c.args.self.now k (form_of_program c.args.program) _
    (verdict_of c.in-Err.fault)
    (next_is account registry life c.args.self.now k _ (omega (arith, c.len.ensures))) c.in-Err.ensures.refused)
    c.in-Some.ensures in
    let h = two.1.has in (
      two.0,
      record {
        has = record {
          within = record {
            same_account = h.within.same_account;
            options = h.within.options;
            clauses = h.within.clauses;
            ecbs = h.within.ecbs;
            shapes = h.within.shapes;
            standing = h.within.standing;
            idle = h.within.idle;
            seen = h.within.seen;
            brings = h.within.brings;
          };
          kept = h.kept;
        };
        counted = two.1.counted;
      },
    )
