-- What a processor that holds no lock keeps track of, as it looks, fires, is told and meets.
use Rattle.std.proofs.Common.{Some, ◌≡◌, ◌≢◌, ◌+◌, ℕ, true, false, List, [], ◌∷◌, ◌++◌, length, refl, sym, ap, ◌∙◌, subst, ⊎_elim, arith, append-nil}
use Rattle.std.proofs.lemmas.List.{length-append}
use mathlib.Core.List.{IsPrefix}
use Rattle.dt_chain.specs.Chains.{IsMaskAfter}
use Rattle.dt_chain.specs.Seats.{life_at}
use Rattle.dt_chain.specs.Writes.{Write, published, writes_of}
use Rattle.dt_chain.specs.declared.seat_mask.SeatMask.{SeatMask}
use Rattle.dt_cred.specs.declared.account.Account.{Account}
use Rattle.dt_cred.specs.declared.firing.Firing.{Firing}
use Rattle.dt_legal.specs.Rows.{IsLegalRow, life_of_row}
use Rattle.dt_ecb.specs.Ecbs.{EcbForm, of_probe}
use Rattle.dt_life.specs.Life.{ecbs, is_stopped, phase}
use Rattle.dt_life.specs.declared.phase.Phase.{Phase}
use Rattle.dt_life.specs.declared.phase.Phase.TheVariants.{Active}
use Rattle.dt_machine.specs.Registry.{Contents, firing_at}
use Rattle.dt_meeting.specs.Keeping.{GoIsPublished, KeepsTrack}
use Rattle.dt_meeting.specs.Order.{IsInOrder}
use Rattle.dt_meeting.specs.Sharing.{IsShared, is_seen_after}
use Rattle.dt_meeting.specs.Stages.{Stage, never, named, past, stage}
use Rattle.dt_meeting.specs.Tracking.{GoIsAnnounced, IsPassedBy, Tracks}
use Rattle.dt_meeting.specs.laws.Announcing.{announced_fired, announced_on, published_is_announced}
use Rattle.dt_meeting.specs.laws.Going.{HasGone, active_has_gone}
use Rattle.dt_meeting.specs.laws.Lasting.{ecbs_since}
use Rattle.dt_meeting.specs.laws.Looking.{look_passes, mask_names}
use Rattle.dt_meeting.specs.laws.Owning.{own_between, own_starts}
use Rattle.dt_meeting.specs.laws.Seen.{unseen_after_to}
use Rattle.dt_meeting.specs.laws.Sharing.{shared_late}
use Rattle.dt_meeting.specs.laws.Staging.{prefix_self, prefix_trans, stage_past}
use Rattle.dt_meeting.specs.laws.Tracking.{at_most_still, grown, tracks_kept, tracks_known, tracks_new, tracks_passed, tracks_unseen, tracks_writes}
use Rattle.dt_trail.specs.Items.{StartsWith, TrailItem, fired, own}
use Rattle.dt_trail.specs.laws.Starts.{starts_trans}

stopped_off : (p : Phase) → is_stopped p ≡ true → p ≢ Active
stopped_off p is e = let bad : false ≡ true = sym (ap is_stopped e) ∙ is in cc bad

module _ (account : Account) (contents : Contents) where
  -- nothing is known yet
  pub keeps_new : (cpu life : ℕ) (seen : List Write) (mine : List TrailItem) → KeepsTrack account contents cpu life seen [] mine []
  keeps_new cpu life seen mine writes trail b t same legal order = tracks_new account contents cpu life seen

  -- more writes are seen
  pub keeps_writes : (cpu life : ℕ) (seen more : List Write) (known mine : List TrailItem) (knew : List ℕ) → IsPrefix seen more
      → KeepsTrack account contents cpu life seen known mine knew → KeepsTrack account contents cpu life more known mine knew
  keeps_writes cpu life seen more known mine knew begins h writes trail b t same legal order =
      let tracks = h writes trail (prefix_trans seen more writes begins b) t same legal order in
      tracks_writes account contents cpu life seen more known knew begins
      (announced_on account contents life seen more writes known trail begins b t legal order tracks.announced) tracks

  -- More items are known. They may have further firings of the processor: then there is no trail to speak of.
  pub keeps_known : (cpu seat life : ℕ) (seen : List Write) (known mine more : List TrailItem) (knew : List ℕ)
      → StartsWith more known → StartsWith (own (cpu + 1) known) mine → IsLegalRow account contents more
      → GoIsPublished account contents seat life more seen
      → KeepsTrack account contents cpu life seen known mine knew → KeepsTrack account contents cpu life seen more mine knew
  keeps_known cpu seat life seen known mine more knew a its whole told h writes trail b t same legal order =
      let later = starts_trans trail more known t a in
      let alike : own (cpu + 1) more ≡ own (cpu + 1) known =
      own_between (cpu + 1) trail more mine t (own_starts (cpu + 1) more known mine a its) same
      ∙ sym (own_between (cpu + 1) trail known mine later its same) in
      tracks_known account contents cpu life seen known more knew a alike whole
      (published_is_announced account contents seat life seen writes more trail b t legal order told)
      (h writes trail b later same legal order)

  -- the processor fires, and its writes don't offer the firing to the life
  pub keeps_passed : (cpu life : ℕ) (seen : List Write) (known mine : List TrailItem) (knew : List ℕ)
      → IsPassedBy account contents cpu (length knew) (stage life seen) → KeepsTrack account contents cpu life seen known mine knew
      → KeepsTrack account contents cpu life seen known mine (knew ++ length known ∷ [])
  keeps_passed cpu life seen known mine knew passed h writes trail b t same legal order =
      tracks_passed account contents cpu life seen known knew passed (h writes trail b t same legal order)

  -- the processor fires, and a look after these writes doesn't name the seat with the life
  pub keeps_looked : (cpu seat life : ℕ) (writes : List Write) (known mine : List TrailItem) (knew : List ℕ)
      (firing : Firing) (mask : SeatMask)
      → firing_at contents.scripts cpu (length knew) ≡ Some firing → IsMaskAfter contents.registry writes firing mask
      → life_at mask seat ≢ Some life → KeepsTrack account contents cpu life (writes_of writes seat) known mine knew
      → KeepsTrack account contents cpu life (writes_of writes seat) known mine (knew ++ length known ∷ [])
  keeps_looked cpu seat life writes known mine knew firing mask found look unnamed h all trail b t same legal order =
      tracks_passed account contents cpu life (writes_of writes seat) known knew
      (look_passes account contents cpu (length knew) life seat writes firing mask found look unnamed
      (λ before at by probes p. order.its_account before at by probes
      (prefix_trans (before ++ published at life by probes ∷ []) (writes_of writes seat) all p b)))
      (h all trail b t same legal order)

  -- the life is over, and all writes of the seat are seen, which have come past it
  pub keeps_gone : (cpu life : ℕ) (seen whole : List Write) (known mine : List TrailItem) (knew : List ℕ) → IsPrefix seen whole
      → stage life whole ≡ past → KeepsTrack account contents cpu life seen known mine knew
      → KeepsTrack account contents cpu life whole known mine (knew ++ length known ∷ [])
  keeps_gone cpu life seen whole known mine knew begins is h =
      keeps_passed cpu life whole known mine knew (subst (IsPassedBy account contents cpu (length knew)) (sym is) tt)
      (keeps_writes cpu life seen whole known mine knew begins h)

  -- the firing is offered after this trail, and isn't seen there
  pub keeps_unseen : (cpu seat life : ℕ) (seen : List Write) (known mine more : List TrailItem) (knew : List ℕ)
      → StartsWith more known → StartsWith (own (cpu + 1) known) mine → own (cpu + 1) more ≡ mine → IsLegalRow account contents more
      → is_seen_after account contents more cpu (length knew) ≡ false → GoIsPublished account contents seat life more seen
      → KeepsTrack account contents cpu life seen known mine knew
      → KeepsTrack account contents cpu life seen more mine (knew ++ length known ∷ [])
  keeps_unseen cpu seat life seen known mine more knew a its just whole unseen told h writes trail b t same legal order =
      by_case (stage life seen) refl
    where
      alike : own (cpu + 1) more ≡ own (cpu + 1) known
      alike = just ∙ sym (own_between (cpu + 1) more known mine a its just)

      tracks : Tracks account contents cpu life seen known knew
      tracks = h writes trail b (starts_trans trail more known t a) same legal order

      announced : GoIsAnnounced account contents more (stage life seen)
      announced = published_is_announced account contents seat life seen writes more trail b t legal order told

      at_hand : stage life seen ≢ past → Tracks account contents cpu life seen more (knew ++ length known ∷ [])
      at_hand still = tracks_unseen account contents cpu life seen known more knew still a alike whole unseen announced tracks

      late : stage life seen ≡ past → Tracks account contents cpu life seen more (knew ++ length known ∷ [])
      late e = tracks_known account contents cpu life seen known more (knew ++ length known ∷ []) a alike whole announced
          (tracks_passed account contents cpu life seen known knew (subst (IsPassedBy account contents cpu (length knew)) (sym e) tt) tracks)

      by_case : (at : Stage) → stage life seen ≡ at → Tracks account contents cpu life seen more (knew ++ length known ∷ [])
      by_case never e = at_hand (λ p. let bad : never ≡ past = sym e ∙ p in cc bad)
      by_case (named probes) e = at_hand (λ p. let bad : named probes ≡ past = sym e ∙ p in cc bad)
      by_case past e = late e

  -- where nothing is traced no firing is seen
  quiet : (trail : List TrailItem) (cpu : ℕ) → phase account contents.registry (life_of_row account contents trail) ≢ Active
      → (place : ℕ) → is_seen_after account contents trail cpu place ≡ false
  quiet trail cpu off place = unseen_after_to account contents trail cpu place (λ firing found sees. off sees.active)

  -- the firing is offered after this trail, and kept, and all writes of the seat are in order then
  pub keeps_kept : (cpu seat life : ℕ) (seen all : List Write) (known mine more : List TrailItem) (knew : List ℕ)
      → IsPrefix seen all → IsInOrder account contents life all more
      → StartsWith more known → StartsWith (own (cpu + 1) known) mine → own (cpu + 1) more ≡ mine → IsLegalRow account contents more
      → is_seen_after account contents more cpu (length knew) ≡ true
      → IsLegalRow account contents (more ++ fired cpu (length knew) ∷ [])
      → GoIsPublished account contents seat life more seen
      → KeepsTrack account contents cpu life seen known mine knew
      → KeepsTrack account contents cpu life seen (more ++ fired cpu (length knew) ∷ []) (mine ++ fired cpu (length knew) ∷ [])
      (knew ++ length known ∷ [])
  keeps_kept cpu seat life seen all known mine more knew begins now a its just whole seen_there longer told h
      writes trail b t same legal order =
      tracks_kept account contents cpu life seen known more knew still a
      (just ∙ sym (own_between (cpu + 1) more known mine a its just)) whole seen_there longer
      (announced_fired account contents more (stage life seen) cpu (length knew)
      (published_is_announced account contents seat life seen all more more begins ([], sym (append-nil more)) whole now told))
      (h all more begins a just whole now)
    where
      still : stage life seen ≢ past
      still e =
          let off = stopped_off _ (now.ended (stage_past life seen all begins e)) in
          let bad : true ≡ false = sym seen_there ∙ quiet more cpu off (length knew) in cc bad

  -- Where writes are in order for a trail, those before them that haven't come past the life are in order for each earlier trail that traces.
  earlier_in_order : (life : ℕ) (seen writes : List Write) (more trail : List TrailItem) → IsPrefix seen writes → stage life seen ≢ past
      → StartsWith trail more → IsLegalRow account contents more → IsLegalRow account contents trail
      → phase account contents.registry (life_of_row account contents more) ≡ Active
      → IsInOrder account contents life writes trail → IsInOrder account contents life seen more
  earlier_in_order life seen writes more trail b still t legal longer on h = record {
    its_account = λ before at by probes p.
        h.its_account before at by probes (prefix_trans (before ++ published at life by probes ∷ []) seen writes p b);
    growing = λ shorter later fewer other s l es el. h.growing shorter later fewer other s (prefix_trans later seen writes l b) es el;
    enabled = λ beginning probes p e id n.
        subst (λ (l : List EcbForm). of_probe id l ≢ []) alike
        (h.enabled beginning probes (prefix_trans beginning seen writes p b) e id n);
    once = λ before write p e. h.once before write (prefix_trans (before ++ write ∷ []) seen writes p b) e;
    ended = λ e. absurd (still e);
  }
    where
      gone : HasGone account contents more
      gone = active_has_gone account contents more legal on

      alike : ecbs account contents.registry (life_of_row account contents trail) ≡ ecbs account contents.registry (life_of_row account contents more)
      alike =
          ecbs_since account contents trail gone.before gone.item longer
          (starts_trans trail more (gone.before ++ gone.item ∷ []) t gone.begins) gone.mine gone.go
          ∙ sym gone.same

  -- the firing is offered after this trail, as a look names the seat with the life, and kept
  pub keeps_offered : (cpu seat life : ℕ) (writes : List Write) (known mine more : List TrailItem) (knew : List ℕ)
      (firing : Firing) (mask : SeatMask)
      → IsMaskAfter contents.registry writes firing mask → life_at mask seat ≡ Some life
      → StartsWith more known → StartsWith (own (cpu + 1) known) mine → own (cpu + 1) more ≡ mine → IsLegalRow account contents more
      → phase account contents.registry (life_of_row account contents more) ≡ Active
      → is_seen_after account contents more cpu (length knew) ≡ true
      → IsLegalRow account contents (more ++ fired cpu (length knew) ∷ [])
      → GoIsPublished account contents seat life more (writes_of writes seat)
      → KeepsTrack account contents cpu life (writes_of writes seat) known mine knew
      → KeepsTrack account contents cpu life (writes_of writes seat) (more ++ fired cpu (length knew) ∷ [])
      (mine ++ fired cpu (length knew) ∷ []) (knew ++ length known ∷ [])
  keeps_offered cpu seat life writes known mine more knew firing mask look named_there a its just whole on seen_there longer told h
      all trail b t same legal order =
      let seen = writes_of writes seat in
      let still = mask_names contents life seat writes firing mask look named_there
      (λ before write p. order.once before write (prefix_trans (before ++ write ∷ []) seen all p b)) in
      let there = starts_trans trail (more ++ fired cpu (length knew) ∷ []) more t (fired cpu (length knew) ∷ [], refl) in
      keeps_kept cpu seat life seen seen known mine more knew (prefix_self seen)
      (earlier_in_order life seen all more trail b still there whole legal on order)
      a its just whole seen_there longer told h all trail b t same legal order

  -- under both locks, all writes of the seat and its trail are at hand
  pub keeps_shared : (cpu life : ℕ) (seen all : List Write) (known mine trail : List TrailItem) (knew : List ℕ)
      → IsPrefix seen all → IsInOrder account contents life all trail
      → StartsWith trail known → StartsWith (own (cpu + 1) known) mine → own (cpu + 1) trail ≡ mine → IsLegalRow account contents trail
      → KeepsTrack account contents cpu life seen known mine knew
      → (row : List TrailItem) × IsShared account contents cpu trail knew row
  keeps_shared cpu life seen all known mine trail knew begins now a its just legal h =
      ⊎_elim
      (λ (e : tracks.late ≡ []). (
        tracks.shared ++ a.0,
        subst (λ (l : List ℕ). IsShared account contents cpu trail l (tracks.shared ++ a.0))
            (sym (tracks.all ∙ ap (λ (l : List ℕ). tracks.early ++ l) e ∙ append-nil tracks.early)) early,
      ))
      (λ (e : stage life seen ≡ past).
      let none = quiet trail cpu (stopped_off _ (now.ended (stage_past life seen all begins e))) in
      let few = at_most_still tracks.late (length known) (length trail) tracks.few (omega (arith, ap length a.1, length-append known a.0)) in
      let r = shared_late account contents cpu trail tracks.early tracks.late (tracks.shared ++ a.0) early none few in
      (r.0, subst (λ (l : List ℕ). IsShared account contents cpu trail l r.0) (sym tracks.all) r.1))
      tracks.over
    where
      tracks : Tracks account contents cpu life seen known knew
      tracks = h all trail begins a just legal now

      early : IsShared account contents cpu trail tracks.early (tracks.shared ++ a.0)
      early =
          grown account contents cpu life seen known trail knew tracks a
          (just ∙ sym (own_between (cpu + 1) trail known mine a its just)) legal
