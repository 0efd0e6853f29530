-- What is published, written in another way.
use Rattle.std.proofs.Common.{◌≡◌, ℕ, ◌==◌, Bool, true, false, cond, List, ◌∷◌, Option, Some, None, IsSomeAnd, IsTrue}
use Rattle.std.proofs.Common.{◌↔◌}
use Rattle.std.specs.List.{slice_index_or}
use Rattle.std.specs.Option.{option_map}
use Rattle.dt_cred.specs.declared.account.Account.{Account}
use Rattle.dt_machine.specs.Interest as interest
use Rattle.dt_chain.specs.IsAt.{EntriesAreAt}
use Rattle.dt_chain.specs.Kept.{slot_of}
use Rattle.dt_chain.specs.Lists.{is_seat_listed}
use Rattle.dt_chain.specs.Writes.{Write, Published, published, published_on}
use Rattle.dt_chain.specs.declared.entries.Entries.{Entries}
use Rattle.dt_chain.specs.declared.entries.SeatSlot.{SeatSlot}

slot_at : (n : ℕ) (account : Account) (probes others : List Bool) (before : Option Published) (same : Bool)
    (slot : Option SeatSlot)
    → slot ≡ option_map slot_of (cond same (Some (record { life = n; account = account; probes = probes })) before)
    → slot ≡ option_map slot_of (cond same (Some (record { life = n; account = account; probes = others })) before)
slot_at n account probes others before true slot h = h
slot_at n account probes others before false slot h = h

listed_at : (n : ℕ) (account : Account) (probes others : List Bool) (before : Option Published) (same : Bool)
    (probe : ℕ)
    (listed : Bool) → interest.Names probes probe ↔ interest.Names others probe
    → IsTrue listed ↔ IsSomeAnd (cond same (Some (record { life = n; account = account; probes = probes })) before)
    (λ (publication : Published). interest.Names publication.probes probe)
    → IsTrue listed ↔ IsSomeAnd (cond same (Some (record { life = n; account = account; probes = others })) before)
    (λ (publication : Published). interest.Names publication.probes probe)
listed_at n account probes others before true probe listed alike h =
    (λ e. alike.0 (h.0 e), λ names. h.1 (alike.1 names))
listed_at n account probes others before false probe listed alike h = h

-- `Entries` see a publication by the probes that it names: two sets of the same probes are published alike.
pub published_alike : (seat n : ℕ) (account : Account) (probes others : List Bool) (writes : List Write) (entries : Entries)
    → ((id : ℕ) → interest.Names probes id ↔ interest.Names others id)
    → EntriesAreAt (published seat n account probes ∷ writes) entries
    → EntriesAreAt (published seat n account others ∷ writes) entries
published_alike seat n account probes others writes entries alike h = record {
  kept = λ at. slot_at n account probes others (published_on writes at) (seat == at)
      (slice_index_or entries.slots at None)
      (h.kept at);
  listed = λ probe at. listed_at n account probes others (published_on writes at) (seat == at) probe
      (is_seat_listed entries.lists probe at) (alike probe) (h.listed probe at);
}
