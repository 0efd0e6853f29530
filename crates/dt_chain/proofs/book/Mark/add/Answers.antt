use Rattle.std.proofs.Common.{◌≡◌, sym, ◌∙◌, ap, ◌+◌, ◌*◌, length}
use Rattle.dt_chain.proofs.Adding.{adds_moves}
use Rattle.dt_chain.proofs.book.Mark.add.Goals as goal

pub compare_exchange-found-requires : goal.compare_exchange-found-requires
compare_exchange-found-requires c =
    let h = c.ledger.invariant in
    let offer = c.plain-offer.ensures in
    let same : c.self.inside.seen.book ≡ c.ledger.inside.head.book =
    ap (λ m. m.book) c.self.view_is ∙ (c.requires.book.0 ∙ sym c.ledger.view_is) in (
      ap (λ w. w.tracked) h,
      same,
      c.requires.book.1 ∙ sym c.ledger.view_is,
      offer.0,
      rw (ap (λ w. w.key) h, offer.1, offer.3)
          (adds_moves c.self.inside.seen.log c.args.write.now c.args.pen.now.nib (3 * c.self.inside.count + 2) c.requires.pen.0
          (c.requires.pen.1 ∙ ap (λ m. length m.log + 2) (sym c.self.view_is)) (ap (λ n. 3 * n + 2) c.self.invariant)),
    )
