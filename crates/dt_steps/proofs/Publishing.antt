-- A seat after its interest was published.
use Rattle.std.proofs.Common.{◌≡◌, ◌≢◌, ◌<◌, ℕ, Bool, true, false, not, List, [], ◌∷◌, Option, Some, None, ◌↔◌, MatchOption}
use Rattle.std.proofs.Common.{MatchBool, IsTrue, length, refl, sym, subst}
use Rattle.std.specs.Option.{option_map_or}
use Rattle.dt_machine.specs.Interest as interest
use Rattle.dt_machine.specs.declared.interest.Interest.{Interest}
use Rattle.dt_machine.specs.laws.Flags.{names_flags}
use Rattle.dt_machine.specs.Limits.{probe_id_max}
use Rattle.dt_machine.specs.Registry.{Registry}
use Rattle.dt_chain.specs.IsAt as chain
use Rattle.dt_chain.specs.Writes.{Write, published}
use Rattle.dt_chain.specs.declared.entries.Entries.{Entries}
use Rattle.dt_ecb.specs.Ecbs.{EcbForm, of_probe}
use Rattle.dt_life.specs.Life.{ecbs}
use Rattle.dt_steps.specs.Stands.{IsSession, IsPlace, IsPublishedOn, is_unpublished, with_present}
use Rattle.dt_ecb.specs.Interest.{interest_of}
use Rattle.dt_steps.specs.World as world
use Rattle.dt_steps.specs.World.{life_in, waiting}
use Rattle.dt_steps.specs.declared.place.Place.{Place}
use Rattle.dt_steps.specs.declared.session.Session.{Session}
use Rattle.dt_steps.proofs.Holding.{serves}
use Rattle.dt_ecb.specs.laws.Interest.{interest_from, interest_to, wanted_from, wanted_to}
use Rattle.dt_chain.specs.laws.Publishing.{published_alike}

-- the probes that ECBs name are those of their interest
interest_alike : (own : List EcbForm) (probes : Interest)
    → ((id : ℕ) → probe_id_max < id → interest.has_probe probes id ≡ false)
    → ((id : ℕ) → IsTrue (interest.has_probe probes id) ↔ (of_probe id own ≢ []))
    → (id : ℕ) → interest.Names (interest.flags_of probes) id ↔ interest.Names (interest_of own) id
interest_alike own probes bounded named id =
    let flag = names_flags probes bounded id in (
      λ h. interest_to own id (wanted_to own id ((named id).0 (flag.0 h))),
      λ h. flag.1 ((named id).1 (wanted_from own id (interest_from own id h))),
    )

-- the pending `go` of a session is to be published
module _ (Same : Type 0) (Later : world.Session → world.Pending → Type 0) where
  pending_does : (session : world.Session) (pending : world.Pending) (done : Bool) → not done ≡ true → Later session pending
      → MatchBool done Same (Later session pending)
  pending_does session pending true is h = cc
  pending_does session pending false is h = h

  go_does : (session : world.Session) (waits : Option world.Pending)
      → option_map_or (λ (pending : world.Pending). not pending.published) waits false ≡ true
      → ((pending : world.Pending) → waits ≡ Some pending → Later session pending)
      → MatchOption waits Same (λ pending. MatchBool pending.published Same (Later session pending))
  go_does session None is h = cc
  go_does session (Some pending) is h = pending_does session pending pending.published is (h pending refl)

  present_does : (present : Option world.Session) (session : world.Session) → present ≡ Some session
      → is_unpublished session ≡ true
      → ((pending : world.Pending) → session.go ≡ Some pending → Later session pending)
      → MatchOption present Same (λ own. MatchOption own.go Same
      (λ pending. MatchBool pending.published Same (Later own pending)))
  present_does present session at is h =
      subst (λ o. MatchOption o Same (λ own. MatchOption own.go Same
      (λ pending. MatchBool pending.published Same (Later own pending)))) (sym at)
      (go_does session session.go is h)

module _ (registry : Registry) (place : world.Place) (held : Place) (h : IsPlace registry place held) (seat : ℕ)
    (writes : List Write) where
  abbrev Later : Place → Entries → world.Session → world.Pending → Type 0
  Later after later session pending =
      IsPlace registry (with_present place (waiting session pending.line true)) after
      × chain.EntriesAreAt (published seat (length place.earlier) session.account
      (interest_of (ecbs session.account registry (life_in registry session))) ∷ writes) later

  pub published-now : (later : Entries) (served after : Session) (probes : Interest)
      → ((id : ℕ) → probe_id_max < id → interest.has_probe probes id ≡ false) → held.present ≡ Some served
      → ((session : world.Session) → IsSession registry session served → is_unpublished session ≡ true)
      → ((session : world.Session) (pending : world.Pending) → IsSession registry session served → session.go ≡ Some pending
      → IsSession registry (waiting session pending.line true) after)
      → ((session : world.Session) → IsSession registry session served → (id : ℕ)
      → IsTrue (interest.has_probe probes id)
      ↔ (of_probe id (ecbs session.account registry (life_in registry session)) ≢ []))
      → chain.EntriesAreAt (published seat held.earlier served.account (interest.flags_of probes) ∷ writes) later
      → IsPublishedOn registry seat place writes (record { present = Some after; earlier = held.earlier }) later
  published-now later served after probes bounded is due sets named at =
      let flags = interest.flags_of probes in
      let s = serves registry place held h served is in
      let session = s.session in
      let own = ecbs session.account registry (life_in registry session) in
      let now_published : chain.EntriesAreAt (published seat (length place.earlier) session.account
      (interest_of own) ∷ writes)
      later =
      published_alike seat (length place.earlier) session.account flags (interest_of own) writes later
      (interest_alike own probes bounded (named session s.kept))
      (subst (λ n. chain.EntriesAreAt (published seat n session.account flags ∷ writes) later) h.counted
      (subst (λ a. chain.EntriesAreAt (published seat held.earlier a flags ∷ writes) later) s.kept.owner at)) in
      present_does
      (IsPlace registry place (record { present = Some after; earlier = held.earlier })
      × chain.EntriesAreAt writes later)
      (Later (record { present = Some after; earlier = held.earlier }) later) place.present session s.is
      (due session s.kept)
      (λ pending waits. (record { counted = h.counted; present = sets session pending s.kept waits }, now_published))
