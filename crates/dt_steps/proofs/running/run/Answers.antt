-- A run: the world of the steps so far, and what it told of them.
use Rattle.std.proofs.Common.{◌≡◌, ◌∙◌, ◌+◌, ◌^◌, ◌<◌, ◌∷◌, ◌++◌, [], ℕ, length, map, take, sym, ap, subst, arith}
use Rattle.std.proofs.Math.Seq.{take-length}
use Rattle.std.proofs.lemmas.List.{map-append, length-map, length-take-le, take_more}
use Rattle.dt_steps.specs.Ran.{HasTold, AreReplies}
use Rattle.dt_steps.specs.Stands.{EngineIsAt}
use Rattle.dt_steps.specs.Steps.{form_of_step, after_step, world_after}
use Rattle.dt_steps.specs.World.{number_on}
use Rattle.dt_steps.proofs.Questions.{told_alone}
use Rattle.dt_steps.proofs.Taking.{few_after, world_after-end}
use Rattle.dt_steps.proofs.running.run.Goals as goal

pub loop-step-preserved : goal.loop-step-preserved
loop-step-preserved c =
    let registry = c.args.machine.now.registry in
    let steps = c.args.steps.now in
    let i = c.loop-step.step-index in
    let item = c.step-item.result in
    let past = map form_of_step (take i steps) in
    let world = world_after registry past in
    let low : i < length steps = omega arith in
    let more : take (i + 1) steps ≡ take i steps ++ item ∷ [] =
    take_more steps i item low ∙ ap (λ x. take i steps ++ x ∷ []) (sym c.step-item.is) in
    let later : world_after registry (map form_of_step (take (i + 1) steps)) ≡ after_step registry world (form_of_step item) =
    ap (λ xs. world_after registry (map form_of_step xs)) more
    ∙ ap (world_after registry) (map-append form_of_step (take i steps) (item ∷ []))
    ∙ world_after-end registry past (form_of_step item) in
    let counted : length past ≡ i = length-map (take i steps) form_of_step ∙ length-take-le i steps (omega arith) in
    let few : (seat : ℕ) → number_on world seat + 1 < 2 ^ 64 = λ seat.
    let h = few_after registry past seat in omega (arith, h, counted) in
    let did = c.in_ok-outcome.ensures world few c.loop-step.invariant.at in
    record {
      at = subst (λ w. EngineIsAt registry w c.take.new.self) (sym later) did.0;
      told = subst (λ w. HasTold registry w (map (λ reply. (reply.0, reply.1.items)) c.tell.new.self.replies.items)
          c.tell.new.self.masks.items) (sym later)
          (c.in_ok-tell.ensures registry world (after_step registry world (form_of_step item)) did.1
          c.loop-step.invariant.told);
    }

pub returns-clause-alone : goal.returns-clause-alone
returns-clause-alone c =
    let registry = c.args.machine.now.registry in
    let steps = c.args.steps.now in
    let end : c.loop-step.step-index ≡ length steps = omega arith in
    let all : take c.loop-step.step-index steps ≡ steps = ap (λ n. take n steps) end ∙ take-length steps in
    told_alone registry (map form_of_step steps) (map (λ reply. (reply.0, reply.1.items)) c.loop-step.ran.replies.items)
    (subst (λ xs. AreReplies registry (world_after registry (map form_of_step xs)).questions
    (map (λ reply. (reply.0, reply.1.items)) c.loop-step.ran.replies.items)) all c.loop-step.invariant.told.replies)
