-- What is to be shown of `new`.
use Rattle.std.proofs.Common.{rules, ◌≡◌, List, [], length, refl, ap, sym, subst}
use Rattle.std.specs.List.{slice_get}
use Rattle.dt_facts.specs.declared.fact.Knew.{Knew}
use Rattle.dt_facts.specs.Handles.{HeldFact}
use Rattle.dt_hub.proofs.cpu_seat.CpuSeat.new.Goals as goal
use Rattle.dt_hub.specs.Processors.{IsAtSeat, counts_at, places_in}
use Rattle.dt_life.specs.laws.Options.{if_some_map}
use Rattle.dt_seat.specs.Keeps.{Followed, followed_at}
use Rattle.dt_seat.specs.Tracked.{AreTracked}
use Rattle.dt_seat.specs.laws.Tracked.{tracked_new}

pub invariant_of-result : goal.invariant_of-result
invariant_of-result g c =
    let contents = g.J.Traced.contents in
    let log = c.go_on.new.both in
    let none : places_in log.fact ≡ [] = ap (λ (h : HeldFact). places_in h.fact) c.go_on.ensures in
    record {
      there = search rules;
      seats = record {
        many = search rules;
        each = λ seat. if_some_map (λ (f : Followed). f ≡ followed_at seat c.args.cpu) (IsAtSeat c.args.cpu 0 seat) (slice_get c.args.followers.items seat)
            (λ f is. subst (IsAtSeat c.args.cpu 0 seat) (sym is) (record { seat_is = refl; cpu_is = refl; below = tt })) (c.requires.followers seat);
      };
      many = search rules;
      log_is = search rules;
      places = ap length none;
      tracked = λ seat. if_some_map (λ (f : Followed). f ≡ followed_at seat c.args.cpu)
          (AreTracked contents c.args.reader.told (counts_at seat (places_in log.fact))) (slice_get c.args.followers.items seat)
          (λ f is. subst (AreTracked contents c.args.reader.told (counts_at seat (places_in log.fact))) (sym is)
          (tracked_new contents seat c.args.cpu c.args.reader.told (counts_at seat (places_in log.fact))
          (λ life. ap (λ (l : List (List Knew)). counts_at seat l life) none))) (c.requires.followers seat);
    }
