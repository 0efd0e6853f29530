-- What is known to be published stays so, as more is.
use Rattle.std.proofs.Common.{ℕ, List, subst}
use Rattle.std.proofs.lemmas.List.Elements.{Contains-append_left}
use Rattle.std.specs.List.{Contains}
use mathlib.Core.List.{IsPrefix}
use Rattle.dt_chain.specs.Writes.{Write}
use Rattle.dt_cred.specs.declared.account.Account.{Account}
use Rattle.dt_machine.specs.Registry.{Contents}
use Rattle.dt_seat.specs.Keeps.{Followed}
use Rattle.dt_seat.specs.Publications.{IsPublished}
use Rattle.dt_seat.specs.Seats.{KnowsPublication}
use Rattle.dt_trail.specs.Items.{TrailItem}

pub contained_still : (writes more : List Write) (write : Write) → IsPrefix writes more → Contains writes write → Contains more write
contained_still writes more write begins has =
    subst (λ (l : List Write). Contains l write) begins.1 (Contains-append_left writes begins.0 write has)

pub still_published : (contents : Contents) (seat life : ℕ) (account : Account) (row : List TrailItem) (writes more : List Write) → IsPrefix writes more
    → IsPublished contents seat life account row writes → IsPublished contents seat life account row more
still_published contents seat life account row writes more begins h = λ before item at mine go.
    let found = h before item at mine go in (found.0, contained_still writes more found.0 begins found.1, found.2)

pub still_known : (contents : Contents) (life : ℕ) (f : Followed) (told more : List Write) → IsPrefix told more → KnowsPublication contents life f told
    → KnowsPublication contents life f more
still_known contents life f told more begins h = λ note has.
    still_published contents f.seat life note.row.account note.knows told more begins (h note has)
