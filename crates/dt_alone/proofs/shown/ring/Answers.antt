-- The longest end is shown.
use Rattle.std.proofs.Common.{ap, ◌∙◌}
use Rattle.std.specs.List.{concat}
use Rattle.dt_alone.specs.Happened.{fitting_on}
use Rattle.dt_alone.proofs.Showing.{shows_ring, take_rest}
use Rattle.dt_alone.proofs.shown.ring.Goals as goal

pub returns-clause-shows : goal.returns-clause-shows
returns-clause-shows c =
    shows_ring c.args.size c.args.cpu c.args.happened.now c.start_of_end-start.result c.count_too_long.result
    c.in_ok-fitting_bytes.field-0.items c.start_of_end-start.ensures.within c.start_of_end-start.ensures.fits
    c.start_of_end-start.ensures.least
    (c.in_ok-fitting_bytes.ensures
    ∙ ap (λ hs. concat (fitting_on c.args.size c.args.cpu hs))
    (take_rest c.args.happened.now c.start_of_end-start.result))
    c.count_too_long.ensures
