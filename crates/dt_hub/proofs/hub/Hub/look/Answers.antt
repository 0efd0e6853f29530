-- What is to be shown of `look`.
use Rattle.std.proofs.Common.{rules, ◌≡◌, refl}
use Rattle.dt_facts.specs.laws.Beginnings.{prefix_self}
use Rattle.dt_hub.proofs.Tracks.{all_writes, look_knows}
use Rattle.dt_hub.proofs.hub.Hub.look.Goals as goal
use Rattle.dt_hub.proofs.hub.Hub.look.Goals.{in-Some-look, in-None}
use Rattle.dt_hub.specs.Processors.{places_in}

pub invariant_of-cpu_seat : goal.invariant_of-cpu_seat
invariant_of-cpu_seat g c =
    let inside = c.cpu_seat.inside in
    let inv = c.cpu_seat.invariant in
    record {
      there = inv.there;
      seats = inv.seats;
      many = inv.many;
      log_is = inv.log_is;
      places = inv.places;
      tracked = all_writes g.J.Traced.contents inside.reader.told c.look.new.self.told (places_in inside.log.fact) inside.followers.items
          (look_knows c.look.result inside.reader c.look.new.self c.look.ensures.told c.look.ensures.all c.look.ensures.none) inv.tracked;
    }

pub returns : goal.returns
returns g c = elim c.match-look.branch [
  | in-Some-look w ↦
      let found = w.in-Some-look.ensures in
      let mask = rw c.self.invariant.0 at found.mask in
      let all : c.look.new.self.told ≡ c.look.new.self.seen = found.all in
      rw (w.result-is, ← c.cpu_seat.view_is, all) (
        c.in-Some.firing.now,
        record {
          place_is = refl;
          firing_is = search rules;
          of_processor = (search rules, search rules);
          seen = found.seen;
          told = found.told;
          knows = prefix_self c.look.new.self.seen;
          mask_is = mask;
        },
        refl,
      )
  | in-None w ↦ rw (w.result-is, w.in-None.ensures.none) c.cpu_seat.view_is
]
