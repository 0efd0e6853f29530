-- What a note knows grows.
use Rattle.std.proofs.Common.{◌≢◌, [], ◌∷◌, ◌++◌, refl, sym, ◌∙◌, subst}
use Rattle.dt_trail.specs.Items.{whose}
use Rattle.dt_trail.specs.declared.seen.Seen.{Seen}
use Rattle.dt_trail.specs.Known.{Noted, KnowsNext, Grows}
use Rattle.dt_trail.specs.laws.Starts.{starts_self, starts_trans}
use Rattle.dt_trail.proofs.Begins.{own_pushed_else}

module _ {K : Type 0} where
  pub grows_self : (a : Noted K) → Grows a a
  grows_self a = record { row = refl; number = refl; longer = starts_self a.knows; same_own = refl }

  pub grows_next : (a b c : Noted K) (seen : Seen) → Grows a b → KnowsNext b seen c → Grows a c
  grows_next a b c seen g k =
      let other : whose k.item ≢ a.number = (λ e. k.other (e ∙ sym g.number)) in
      subst (λ (n : Noted K). Grows a n) (sym k.next) (record {
        row = g.row;
        number = g.number;
        longer = starts_trans (b.knows ++ k.item ∷ []) b.knows a.knows (k.item ∷ [], refl) g.longer;
        same_own = own_pushed_else a.number b.knows k.item other ∙ g.same_own;
      })
