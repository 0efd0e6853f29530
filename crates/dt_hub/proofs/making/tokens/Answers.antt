-- What is to be shown of `tokens`.
use Rattle.std.proofs.Common.{ℕ, ap, ◌∙◌, arith}
use Rattle.std.proofs.lemmas.List.{length-set}
use Rattle.dt_facts.specs.Handles.{making}
use Rattle.dt_hub.proofs.Offers.{get_set_other}
use Rattle.dt_hub.proofs.making.tokens.Goals as goal
use Rattle.dt_hub.specs.Hubs.{IsFresh}
use Rattle.dt_hub.specs.Processors.{Processing}
use Rattle.dt_life.specs.laws.Lists.{pushed}

pub processors-preserved : goal.processors-preserved
processors-preserved g c =
    let inv = c.processors.invariant in
    record {
      many = grind (arith, c.in_ok-push.ensures.items, inv.many);
      hands = length-set c.processors.hands.items c.processors.cpu c.replace-followers.new.dest ∙ inv.hands;
      rest = λ k le. get_set_other c.processors.hands.items c.processors.cpu k c.replace-followers.new.dest (λ e. absurd (omega (arith, le, e)))
          ∙ inv.rest k (omega (arith, le));
      each = rw c.in_ok-push.ensures.items
          (pushed (λ (k : ℕ) (p : Processing). IsFresh k p) c.processors.made.items c.in_ok-new.field-0 inv.each
          (rw inv.many c.in_ok-new.ensures));
      maker = c.make-log.ensures.maker ∙ rw (c.requires.facts, inv.maker) (ap (making g.J.HubSite.word) (omega arith));
    }
