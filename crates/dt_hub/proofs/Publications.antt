-- What a processor knows to be published, as its firing is offered to one seat after the other.
use Rattle.std.proofs.Common.{◌≡◌, ℕ, List, Option, Some, None, sym, subst}
use Rattle.std.specs.List.{slice_get}
use Rattle.std.specs.Option.{IfSome}
use mathlib.Core.List.{IsPrefix}
use Rattle.dt_chain.specs.Seats.{life_at}
use Rattle.dt_chain.specs.Writes.{Write}
use Rattle.dt_chain.specs.declared.seat_mask.SeatMask.{SeatMask}
use Rattle.dt_hub.specs.Firings.{KnowsPublicationAt}
use Rattle.dt_life.specs.laws.Options.{if_some_map}
use Rattle.dt_machine.specs.Registry.{Contents}
use Rattle.dt_seat.specs.Keeps.{Followed}
use Rattle.dt_seat.specs.Seats.{KnowsPublication}
use Rattle.dt_seat.specs.laws.Publications.{still_known}

module _ (contents : Contents) (mask : SeatMask) (seat : ℕ) where
  -- at a seat that isn't named
  pub known_unnamed : (at_seats : List Followed) (told : List Write) → life_at mask seat ≡ None → KnowsPublicationAt contents mask at_seats told seat
  known_unnamed at_seats told e =
      subst (λ (o : Option ℕ). IfSome o (λ life. IfSome (slice_get at_seats seat) (λ f. KnowsPublication contents life f told))) (sym e) tt

  -- at the seat that was just offered the firing
  pub known_here : (at_seats : List Followed) (told : List Write) (life : ℕ) (f : Followed) → life_at mask seat ≡ Some life → slice_get at_seats seat ≡ Some f
      → KnowsPublication contents life f told → KnowsPublicationAt contents mask at_seats told seat
  known_here at_seats told life f e there h =
      subst (λ (o : Option ℕ). IfSome o (λ life. IfSome (slice_get at_seats seat) (λ f. KnowsPublication contents life f told))) (sym e)
      (subst (λ (o : Option Followed). IfSome o (λ f. KnowsPublication contents life f told)) (sym there) h)

  -- at one that was offered it before
  pub known_before : (old new : List Followed) (told more : List Write) → slice_get new seat ≡ slice_get old seat → IsPrefix told more
      → KnowsPublicationAt contents mask old told seat → KnowsPublicationAt contents mask new more seat
  known_before old new told more same begins h =
      if_some_map (λ life. IfSome (slice_get old seat) (λ f. KnowsPublication contents life f told))
      (λ life. IfSome (slice_get new seat) (λ f. KnowsPublication contents life f more)) (life_at mask seat)
      (λ life at. subst (λ (o : Option Followed). IfSome o (λ f. KnowsPublication contents life f more)) (sym same)
      (if_some_map (λ f. KnowsPublication contents life f told) (λ f. KnowsPublication contents life f more) (slice_get old seat)
      (λ f. still_known contents life f told more begins) at)) h
