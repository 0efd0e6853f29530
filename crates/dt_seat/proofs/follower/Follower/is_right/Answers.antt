-- What is to be shown of `is_right`.
use Rattle.std.proofs.Common.{◌≡◌, ◌≤◌, ℕ, Option, sym, ap, ◌∙◌, subst}
use Rattle.std.specs.Option.{option_map_or}
use Rattle.dt_facts.specs.Lives.{IsRowOfLife, lives_over}
use Rattle.dt_facts.specs.declared.fact.LastNote.{LastNote}
use Rattle.dt_life.specs.laws.Options.{if_some_map}
use Rattle.dt_seat.proofs.Known.{named_over}
use Rattle.dt_seat.proofs.follower.Follower.is_right.Goals as goal
use Rattle.dt_seat.specs.Keeps.{IsEarlier, IsToldOf, took_in}

pub returns-clause-orderly : goal.returns-clause-orderly
returns-clause-orderly g c =
    let inside = c.self.inside in
    rw (← c.self.view_is)
    (if_some_map (IsToldOf inside.lives.lists.lives inside.known.lists.items (took_in inside.share.fact))
    (λ t. (t.life ≤ lives_over inside.lives.lists.lives) × IsEarlier t.life (took_in inside.share.fact)) inside.told
    (λ t h. (named_over inside.lives.lists.lives t.life h.row h.named, h.later)) c.self.invariant.heard)

pub returns-clause-row : goal.returns-clause-row
returns-clause-row g c =
    let inside = c.self.inside in
    rw (← c.self.view_is) (λ life note has took.
    let one = c.self.invariant.one note has in
    let same : inside.life ≡ life = ap (λ (o : Option LastNote). option_map_or (λ (l : LastNote). l.life) o life) (sym one.0 ∙ took) in
    subst (λ (l : ℕ). IsRowOfLife l note.row inside.lives.lists.lives) same one.2)
