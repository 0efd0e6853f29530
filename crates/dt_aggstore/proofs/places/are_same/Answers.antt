-- Keys that are ordered as equal are the same.
use Rattle.std.proofs.Common.{sym, ◌∙◌}
use Rattle.dt_aggstore.specs.Shares.{parts_told}
use Rattle.dt_aggstore.proofs.Parts.{equal_same}
use Rattle.dt_aggstore.proofs.places.are_same.Goals as goal

pub returns : goal.returns
returns c =
    c.is_eq.ensures
    ∙ equal_same (parts_told c.args.one.now) (parts_told c.args.other.now) c.order.result (sym c.order.ensures)
