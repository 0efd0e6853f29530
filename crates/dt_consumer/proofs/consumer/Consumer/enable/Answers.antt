-- The program's clauses and ECBs are added, and there is room for them.
use Rattle.std.proofs.Common.{map, ap, ◌∙◌, arith}
use Rattle.dt_lang.specs.Program.{form_of_clause}
use Rattle.dt_ecb.specs.Forms.{shapes_of}
use Rattle.dt_life.specs.Life.{set_up, with_program}
use Rattle.dt_life.specs.laws.Verdicts.{program_added}
use Rattle.dt_life.specs.laws.Lines.{after_counted, quota_left}
use Rattle.dt_consumer.proofs.Stands.{stands_changed, keeps_program}
use Rattle.dt_consumer.proofs.consumer.Consumer.enable.Goals as goal

pub returns : goal.returns
returns c = λ account registry life line s drafted.
    let old = c.args.self.now in
    let own = set_up account registry life in
    let clauses = c.args.clauses.items in
    let ecbs = c.args.ecbs.items in
    let forms = map form_of_clause clauses in
    rw (after_counted life line drafted.0, drafted.2)
    (stands_changed account registry old life s _ _ (with_program own forms)
    (program_added account registry life forms drafted.1 drafted.3)
    (omega (arith, quota_left life drafted.0, s.counted, c.saturating_add-self.ensures))
    (keeps_program account registry old own s.keeps clauses ecbs drafted.1 drafted.3 drafted.4
    (c.ecbs_go_on.ensures account registry) c.uses_of_both.ensures _ c.extend.new.self
    c.extend.ensures.clauses c.extend.ensures.ecbs (ap shapes_of c.extend.ensures.shapes ∙ drafted.5)))
