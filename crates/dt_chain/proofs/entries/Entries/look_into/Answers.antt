-- The seats that are listed are asked, each by its slot.
use Rattle.std.proofs.Common.{◌≡◌, ℕ, Some, None, subst, sym, ap, ◌∙◌, Option, ◌↔◌}
use Rattle.std.specs.List.{slice_index_or}
use Rattle.std.specs.Option.{IsSomeAnd}
use Rattle.dt_cred.specs.declared.firing.Firing.{Firing}
use Rattle.dt_chain.specs.Lists.{is_seat_listed}
use Rattle.dt_chain.specs.Look.{IsLook, NamesFiring}
use Rattle.dt_chain.specs.Seats.{has, life_at}
use Rattle.dt_chain.specs.Writes.{published_on}
use Rattle.dt_chain.proofs.Listing.{along}
use Rattle.dt_chain.proofs.Looking.{look_at}
use Rattle.dt_chain.proofs.entries.Entries.look_into.Goals as goal

pub returns-clause-look : goal.returns-clause-look
returns-clause-look c = λ writes at.
    let registry = c.args.machine.now.registry in
    let m = c.in_ok-context.context in
    let is = c.in_ok-context.ensures.value in
    let lists = c.args.self.now.lists in
    let slot = λ (seat : ℕ). slice_index_or c.args.self.now.slots seat None in
    let F : Firing → Type 0 = λ f. IsLook registry writes f (life_at c.show_all.new.mask) in
    subst F is.1 (record {
      exactly = λ seat life.
          let listed = along _ _ _
          (c.of-seats.ensures seat ∙ ap (λ (f : Firing). is_seat_listed lists f.probe seat) (sym is.1))
          (at.listed m.firing.now.probe seat) in
          let P : Option ℕ → Type 0 = λ o. (o ≡ Some life) ↔ IsSomeAnd (published_on writes seat)
          (λ publication. (publication.life ≡ life) × NamesFiring registry publication m.firing.now) in
          subst P (sym (c.show_all.ensures registry is.0 seat))
          (look_at registry m.firing.now is.0.belongs (has c.of-seats.result seat) (slot seat) (published_on writes seat)
          (at.kept seat) listed life);
    })
