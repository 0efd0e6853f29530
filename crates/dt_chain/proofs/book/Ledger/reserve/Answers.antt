use Rattle.std.proofs.Common.{◌≡◌, sym, ◌∙◌, ap, ◌+◌, ◌*◌, length}
use Rattle.dt_chain.proofs.Adding.{reserves_moves}
use Rattle.dt_chain.proofs.book.Ledger.reserve.Goals as goal

pub compare_exchange-found-requires : goal.compare_exchange-found-requires
compare_exchange-found-requires c =
    let h = c.self.invariant in
    let seen = c.again-seen.ensures in
    let offer = c.plain-offer.ensures in
    let pen = c.no_pen-pen.ensures in
    let same : c.again-seen.result.book ≡ c.self.inside.head.book =
    ap (λ s. s.book) seen ∙ (ap (λ m. m.book) c.end.view_is ∙ (c.requires.book ∙ sym c.self.view_is)) in (
      ap (λ w. w.tracked) h,
      same,
      pen.0 ∙ same,
      offer.0,
      rw (ap (λ w. w.key) h, pen.1, offer.3)
          (reserves_moves c.again-seen.result.log c.plain-offer.result.ask c.args.more (3 * c.end.inside.count + c.args.more)
          c.requires.more
          (ap (λ n. 3 * n + c.args.more) (c.end.invariant ∙ ap (λ s. length s.log) (sym seen)))),
    )
