-- The program's ECBs, each with the place of its clause among all.
use Rattle.std.proofs.Common.{◌≡◌, true, ◌<◌, ◌+◌, List, ◌++◌, length, map, sym, ap, ◌∙◌, subst, arith}
use Rattle.std.specs.List.{All}
use Rattle.std.proofs.lemmas.List.{length-map}
use Rattle.dt_lang.specs.Program.{form_of_clause}
use Rattle.dt_ecb.specs.Enable.{is_enabled}
use Rattle.dt_ecb.specs.Shapes.{ShapeForm, uses_of}
use Rattle.dt_life.specs.Placed.{placed_after}
use Rattle.dt_life.specs.Life.{SetUp, set_up}
use Rattle.std.specs.Vec.{vec_len}
use Rattle.dt_consumer.specs.Placing.{IsPlaced}
use Rattle.dt_consumer.proofs.Drafting.{program_draft}
use Rattle.dt_consumer.proofs.Tracings.{placed_behind}
use Rattle.dt_life.specs.laws.Placed.{are_placed}
use Rattle.dt_consumer.proofs.consumer.Consumer.draft_enabled.Goals as goal

pub returns-clause-drafted : goal.returns-clause-drafted
returns-clause-drafted c = λ account registry life m off first holds are.
    let s : SetUp = set_up account registry life in
    let clauses = c.args.program.clauses in
    let H : List ShapeForm → Type 0 = λ shapes.
    is_enabled account registry shapes c.args.first
    (map form_of_clause c.args.program.clauses.items) ≡ true in
    program_draft account registry life _ c.args.first clauses c.in_ok-ecbs.ecbs c.in_ok-shapes.shapes c.in_ok-room.room m.in_quota
    off
    first
    (subst H m.stands.keeps.shapes holds)
    (are_placed s.clauses (map form_of_clause clauses.items) _ (length c.clauses.result.now) c.args.ecbs.items
    c.in_ok-ecbs.ecbs.items
    (omega (
      arith,
      ap length c.clauses.ensures.value,
      ap length m.stands.keeps.clauses,
      length-map c.args.self.now.programs.clauses.items form_of_clause,
    ))
    (record {
      forms = are;
      placed = subst (λ n. All (λ ecb. ecb.clause < n) c.args.ecbs.items)
          (sym (length-map c.args.program.clauses.items form_of_clause)) c.requires.placed;
    })
    (c.in_ok-ecbs.ensures ∙ ap (map (placed_after (length c.clauses.result.now))) c.deref.ensures.value))
    (omega (arith, c.len.ensures))
    (c.in_ok-shapes.ensures
    ∙ ap
    (λ shapes. shapes ++ uses_of (map form_of_clause c.args.program.clauses.items))
    m.stands.keeps.shapes)

pub returns-clause-fits : goal.returns-clause-fits
returns-clause-fits c =
    let before = length c.clauses.result.now in
    let ecbs = c.args.ecbs.items in
    let many = ap length c.in_ok-ecbs.ensures ∙ length-map c.deref.result.now (placed_after before)
    ∙ ap length c.deref.ensures.value in
    record {
      fits = (
        c.requires.untraced,
        omega (arith, many, c.requires.each),
        omega (arith, many, c.requires.room),
        subst (All (IsPlaced (vec_len c.args.self.now.programs.clauses + vec_len c.args.program.clauses)))
            (sym (c.in_ok-ecbs.ensures ∙ ap (map (placed_after before)) c.deref.ensures.value))
            (subst (λ n. All (IsPlaced n) (map (placed_after before) ecbs))
            (omega (arith, ap length c.clauses.ensures.value))
            (placed_behind before (length c.args.program.clauses.items) ecbs c.requires.placed)),
        (
          omega (arith, c.len.ensures, c.in_ok-room.ensures.0),
          omega (arith, c.len.ensures, c.in_ok-room.ensures.1),
          omega (arith, many, c.len-2.ensures, c.in_ok-room.ensures.2),
        ),
      );
    }
