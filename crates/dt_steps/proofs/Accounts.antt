-- The sessions of a seat keep their numbers and their accounts, whatever happens there.
use Rattle.std.proofs.Common.{◌≡◌, ℕ, suc, ◌<◌, ◌==◌, Bool, true, false, cond, List, [], ◌∷◌, Option, Some, None}
use Rattle.std.proofs.Common.{IfSome, IsSomeAnd, length, refl, sym, ap, ◌∙◌, subst, arith}
use Rattle.std.proofs.lemmas.Bool.{eqb-true, ne_eqb, eq-eqb, cond_both}
use Rattle.std.specs.Option.{option_map, option_map_or}
use Rattle.dt_cred.specs.declared.account.Account.{Account}
use Rattle.dt_cred.specs.declared.firing.Firing.{Firing}
use Rattle.dt_machine.specs.Registry.{Registry}
use Rattle.dt_machine.specs.Shown.{IsShown}
use Rattle.dt_chain.specs.Writes.{Published}
use Rattle.dt_proto.specs.Alone.{firing_made}
use Rattle.dt_steps.specs.Sound.{IsOfSession, IsDueToShown}
use Rattle.dt_steps.specs.Steps.{passed, offered}
use Rattle.dt_steps.specs.World.{Session, Place, DueOffer, session_numbered, account_numbered, reached}

-- Each session of a seat is one of it still, by its number and with its account.
pub record KeepsAccounts (place later : Place) : Type 0 where
  pub stays : (n : ℕ) (account : Account) → account_numbered place n ≡ Some account
      → account_numbered later n ≡ Some account

pub keeps_all : (place : Place) → KeepsAccounts place place
keeps_all place = record { stays = λ n account is. is }

abbrev account_in : List Session → ℕ → Option Account
account_in sessions n = option_map (λ session. session.account) (session_numbered sessions n)

-- a session has a number below theirs
numbered_low : (sessions : List Session) (n : ℕ) (account : Account) → account_in sessions n ≡ Some account
    → n < length sessions
numbered_low [] n account is = cc
numbered_low (session ∷ earlier) n account is =
    low (length earlier == n) refl is (numbered_low earlier n account) where
      low : (own : Bool) → (length earlier == n) ≡ own
          → option_map (λ s. s.account) (cond own (Some session) (session_numbered earlier n)) ≡ Some account
          → (account_in earlier n ≡ Some account → n < length earlier) → n < suc (length earlier)
      low true same h before = let at : length earlier ≡ n = eqb-true (length earlier) n same in omega arith
      low false same h before = let at : n < length earlier = before h in omega arith

-- the session on the seat, another with its account
same_account : (own : Bool) (session other : Session) (rest : Option Session) → other.account ≡ session.account
    → option_map (λ s. s.account) (cond own (Some session) rest)
    ≡ option_map (λ s. s.account) (cond own (Some other) rest)
same_account true session other rest same = ap Some (sym same)
same_account false session other rest same = refl

pub keeps_changed : (place : Place) (session other : Session) → place.present ≡ Some session
    → other.account ≡ session.account
    → KeepsAccounts place (record { present = Some other; earlier = place.earlier })
keeps_changed place session other is same = record {
  stays = λ n account h.
      sym (same_account (length place.earlier == n) session other (session_numbered place.earlier n) same)
      ∙ rw is at h;
}

-- a further session
pub keeps_opened : (place : Place) (session : Session) → place.present ≡ None
    → KeepsAccounts place (record { present = Some session; earlier = place.earlier })
keeps_opened place session is = record {
  stays = λ n account h.
      let before : account_in place.earlier n ≡ Some account = rw is at h in
      let low : n < length place.earlier = numbered_low place.earlier n account before in
      let other : (length place.earlier == n) ≡ false = ne_eqb (length place.earlier) n (λ e. omega arith) in
      ap (λ own. option_map (λ (s : Session). s.account) (cond own (Some session) (session_numbered place.earlier n))) other
      ∙ before;
}

-- the session there is closed
pub keeps_closed : (place : Place) (session : Session) → place.present ≡ Some session
    → KeepsAccounts place (record { present = None; earlier = session ∷ place.earlier })
keeps_closed place session is = record { stays = λ n account h. rw is at h }

-- a firing is offered to the session there, or passes it
pub keeps_offered : (due : DueOffer) (place : Place) → KeepsAccounts place (offered due place)
keeps_offered due place = offered_case place.present refl where
  offered_case : (present : Option Session) → place.present ≡ present
      → KeepsAccounts place (option_map_or (λ session. cond (due.life == length place.earlier)
      (record place { present = Some (reached session (firing_made due.firing)) }) place) present place)
  offered_case None is = keeps_all place
  offered_case (Some session) is =
      cond_both (due.life == length place.earlier) _ _ (KeepsAccounts place)
      (λ yes. keeps_changed place session (reached session (firing_made due.firing)) is refl) (λ no. keeps_all place)

pub keeps_passed : (firing : Firing) (named : Option ℕ) (place : Place) → KeepsAccounts place (passed firing named place)
keeps_passed firing named place = passed_case place.present refl where
  passed_case : (present : Option Session) → place.present ≡ present
      → KeepsAccounts place (option_map_or (λ session.
      cond (option_map_or (λ life. life == length place.earlier) named false) place
      (record place { present = Some (reached session (firing_made firing)) })) present place)
  passed_case None is = keeps_all place
  passed_case (Some session) is =
      cond_both (option_map_or (λ life. life == length place.earlier) named false) _ _ (KeepsAccounts place)
      (λ yes. keeps_all place) (λ no. keeps_changed place session (reached session (firing_made firing)) is refl)

-- the session on a seat has the number of those before it
pub own_number : (session : Session) (earlier : List Session)
    → account_numbered (record { present = Some session; earlier = earlier }) (length earlier) ≡ Some session.account
own_number session earlier =
    ap (λ own. option_map (λ (s : Session). s.account)
    (cond own (Some session) (session_numbered earlier (length earlier))))
    (eq-eqb (length earlier) (length earlier) refl)

-- what is due to it is a firing that it is shown
pub shown_present : (registry : Registry) (place : Place) (session : Session) (due : DueOffer)
    → place.present ≡ Some session → due.life ≡ length place.earlier → IsDueToShown registry place due
    → IsShown session.account registry due.firing
shown_present registry place session due is own shown =
    let there : account_numbered place due.life ≡ Some session.account =
    ap (account_numbered place) own ∙ rw is (own_number session place.earlier) in
    subst (λ o. IsSomeAnd o (λ account. IsShown account registry due.firing)) there shown

-- so what was published of one of them still is, and what is due to one of them too
pub of_later : (place later : Place) (publication : Option Published) → KeepsAccounts place later
    → IfSome publication (IsOfSession place) → IfSome publication (IsOfSession later)
of_later place later None keeps h = h
of_later place later (Some one) keeps h = keeps.stays one.life one.account h

some_later : (before after : Option Account) (P : Account → Type 0)
    → ((account : Account) → before ≡ Some account → after ≡ Some account)
    → IsSomeAnd before P → IsSomeAnd after P
some_later None after P stays h = absurd h
some_later (Some account) after P stays h = subst (λ o. IsSomeAnd o P) (sym (stays account refl)) h

pub due_later : (registry : Registry) (place later : Place) (due : Option DueOffer) → KeepsAccounts place later
    → IfSome due (IsDueToShown registry place) → IfSome due (IsDueToShown registry later)
due_later registry place later None keeps h = h
due_later registry place later (Some one) keeps h =
    some_later (account_numbered place one.life) (account_numbered later one.life) _ (keeps.stays one.life) h
