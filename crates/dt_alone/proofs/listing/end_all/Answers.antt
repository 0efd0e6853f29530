-- One speculation more has ended.
use Rattle.std.proofs.Common.{◌+◌, ◌∷◌, [], map, take, ap, sym, ◌∙◌, subst, arith}
use Rattle.std.specs.Global.{Vec}
use Rattle.dt_alone.specs.Happened.{left_count, only_attempts, told_both, told_on}
use Rattle.dt_alone.specs.declared.happened.Happened.{Happened}
use Rattle.dt_life.specs.Takings.{freed_by, part_out, parts_out}
use Rattle.dt_life.specs.laws.Parts.{freed_more}
use Rattle.dt_record.specs.Forms.{form_of_end}
use Rattle.dt_record.specs.Taking.{committed, discarded}
use Rattle.dt_record.specs.declared.parts.SpecEnd.TheVariants.{Commit, Discard}
use Rattle.dt_speculation.specs.History.{free, specs_then}
use Rattle.dt_speculation.specs.IsAt.{SpecsAt, cpus_of, fails_of}
use Rattle.dt_alone.proofs.Bringing.{both_nothing}
use Rattle.dt_alone.proofs.ListSteps.{end_step, ends_step}
use Rattle.dt_alone.proofs.Telling.{events_both, events_none}
use Rattle.dt_alone.proofs.listing.end_all.Goals as goal
use Rattle.dt_alone.proofs.listing.end_all.Goals.{in-Commit+in_ok-commit-in-Commit, in-Discard}

pub loop-end-init : goal.loop-end-init
loop-end-init c = record {
  told = λ past at on inside. sym (both_nothing (told_on on c.args.happened.now.items));
  stands = λ past at. subst (λ x. SpecsAt x c.args.specs.now) (sym (events_none past)) at;
  left = omega arith;
  fails = omega arith;
  cpus = omega arith;
}

pub loop-end-preserved : goal.loop-end-preserved
loop-end-preserved c =
    let in_end = c.args.in_end in
    let all = c.args.ends.now in
    let i = c.loop-end.end-index in
    let done = map form_of_end (take c.loop-end.end-index c.args.ends.now) in
    let held = c.loop-end.invariant in
    elim c.match-end.branch [
      | in-Commit+in_ok-commit-in-Commit w ↦
          let id = w.in-Commit.id in
          let next = ends_step all i (Commit 0) (Commit id) c.loop-end-test.true w.in-Commit.is in
          let did = w.in_ok-commit-in-Commit.ensures in
          record {
            told = λ past at on inside.
                let so_far = specs_then past (freed_by done) in
                ap (λ (v : Vec Happened). told_on on v.items) w.happened-is
                ∙ did.told so_far (held.stands past at) on inside
                ∙ ap (λ t. told_both t (only_attempts in_end (part_out on so_far (committed id)))) (held.told past at on inside)
                ∙ end_step in_end on past (told_on on c.args.happened.now.items) done (committed id)
                ∙ ap (λ es. told_both (told_on on c.args.happened.now.items) (only_attempts in_end (parts_out on past es))) (sym next);
            stands = λ past at.
                subst (SpecsAt (specs_then past (freed_by (map form_of_end (take (i + 1) all))))) (sym w.specs-is)
                (subst (λ x. SpecsAt x w.commit.new.specs)
                (events_both past (freed_by done) (free id ∷ [])
                ∙ ap (specs_then past) (sym (freed_more 0 past done (committed id)) ∙ ap freed_by (sym next)))
                (did.stands (specs_then past (freed_by done)) (held.stands past at)));
            left = omega (arith, ap (λ (v : Vec Happened). left_count v.items) w.happened-is, did.left, held.left);
            fails = ap fails_of w.specs-is ∙ did.fails ∙ held.fails;
            cpus = ap cpus_of w.specs-is ∙ did.cpus ∙ held.cpus;
          }
      | in-Discard w ↦
          let id = w.in-Discard.id in
          let next = ends_step all i (Commit 0) (Discard id) c.loop-end-test.true w.in-Discard.is in
          let did = w.free.ensures in
          record {
            told = λ past at on inside.
                let so_far = specs_then past (freed_by done) in
                ap (λ (v : Vec Happened). told_on on v.items) w.happened-is
                ∙ held.told past at on inside
                ∙ sym (both_nothing (told_both (told_on on c.args.happened.now.items) (only_attempts in_end (parts_out on past done))))
                ∙ end_step in_end on past (told_on on c.args.happened.now.items) done (discarded id)
                ∙ ap (λ es. told_both (told_on on c.args.happened.now.items) (only_attempts in_end (parts_out on past es))) (sym next);
            stands = λ past at.
                subst (SpecsAt (specs_then past (freed_by (map form_of_end (take (i + 1) all))))) (sym w.specs-is)
                (subst (λ x. SpecsAt x w.free.new.self)
                (events_both past (freed_by done) (free id ∷ [])
                ∙ ap (specs_then past) (sym (freed_more 0 past done (discarded id)) ∙ ap freed_by (sym next)))
                (did.stands (specs_then past (freed_by done)) (held.stands past at)));
            left = omega (arith, ap (λ (v : Vec Happened). left_count v.items) w.happened-is, held.left);
            fails = ap fails_of w.specs-is ∙ did.fails ∙ held.fails;
            cpus = ap cpus_of w.specs-is ∙ did.cpus ∙ held.cpus;
          }
    ]
