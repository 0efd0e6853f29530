-- What is answered after a shared row is what is answered after its trail: unseen firings change nothing.
use Rattle.std.proofs.Common.{◌≡◌, ◌↔◌, ℕ, Bool, true, false, cond, List, [], ◌∷◌, ◌++◌, Option, Some, None, refl, sym, ap, ◌∙◌, subst, append-nil, append_assoc}
use Rattle.std.specs.Option.{option_map, option_map_or, option_to_list}
use Rattle.dt_cred.specs.declared.account.Account.{Account}
use Rattle.dt_cred.specs.declared.firing.Firing.{Firing}
use Rattle.dt_legal.specs.Rows.{IsLegalRow, life_of_row, past_of}
use Rattle.dt_legal.specs.laws.Beginning.{legal_beginning, past_of_last}
use Rattle.dt_life.specs.Answer.{Answer}
use Rattle.dt_life.specs.Life.{Item}
use Rattle.dt_life.specs.Tests.{is_seen}
use Rattle.dt_machine.specs.Registry.{Contents, firing_at}
use Rattle.dt_meeting.specs.Sharing.{is_seen_after, seen_row}
use Rattle.dt_meeting.specs.laws.Seen.{seen_last, seen_starts}
use Rattle.dt_proto.specs.Alone.{Alone, Reached, firing_made, own_line}
use Rattle.dt_proto.specs.Lines.{line_form}
use Rattle.dt_proto.specs.Lines.{long_line as long_form}
use Rattle.dt_proto.specs.Told.{view_told}
use Rattle.dt_proto.specs.Views.{life_of, seen_view}
use Rattle.dt_proto.specs.laws.Legal.{life_told}
use Rattle.dt_proto.specs.laws.Views.{alone_of_seen, alone_seen, life-seen_view}
use Rattle.dt_trail.specs.Items.{StartsWith, TrailItem, line, long_line, fired}

module _ (account : Account) (contents : Contents) where
  -- the view that a row tells
  abbrev pub view_of : List TrailItem → List Reached
  view_of row = view_told contents (past_of row)

  -- what is seen of the view is what the seen part of the row tells
  abbrev SeesAlike : List TrailItem → Type 0
  SeesAlike row = seen_view account contents.registry (view_of row) ≡ view_of (seen_row account contents row)

  legal_start : (row more : List TrailItem) → StartsWith row more → IsLegalRow account contents row → IsLegalRow account contents more
  legal_start row more s legal = legal_beginning account contents more s.0 (subst (IsLegalRow account contents) s.1 legal)

  -- a life is that of what is seen
  same_life : (row : List TrailItem) → SeesAlike row → IsLegalRow account contents (seen_row account contents row)
      → life_of account contents.registry (view_of row) ≡ life_of_row account contents (seen_row account contents row)
  same_life row h legal =
      sym (life-seen_view account contents.registry (view_of row))
      ∙ ap (life_of account contents.registry) h
      ∙ sym (life_told account contents (past_of (seen_row account contents row)) legal)

  fired_alike : (row : List TrailItem) (cpu place : ℕ) → SeesAlike row → IsLegalRow account contents (seen_row account contents row)
      → SeesAlike (row ++ fired cpu place ∷ [])
  fired_alike row cpu place h legal =
      rw (past_of_last row (fired cpu place), seen_last account contents row (fired cpu place))
      (by_firing (firing_at contents.scripts cpu place) refl)
    where
      seen : List TrailItem
      seen = seen_row account contents row

      reached : Option Firing → List Reached
      reached o = option_to_list (option_map firing_made o) ++ view_of row

      after : Bool → List TrailItem
      after b = cond b (seen ++ fired cpu place ∷ []) seen

      by_seen : (firing : Firing) → firing_at contents.scripts cpu place ≡ Some firing → (b : Bool)
          → cond b (firing_made firing ∷ seen_view account contents.registry (view_of row)) (seen_view account contents.registry (view_of row))
          ≡ view_of (after b)
      by_seen firing e false = h
      by_seen firing e true = rw (past_of_last seen (fired cpu place), e) (ap (λ (l : List Reached). firing_made firing ∷ l) h)

      by_firing : (o : Option Firing) → firing_at contents.scripts cpu place ≡ o
          → seen_view account contents.registry (reached (firing_at contents.scripts cpu place))
          ≡ view_of (after (is_seen_after account contents seen cpu place))
      by_firing None e =
          ap (λ (x : Option Firing). seen_view account contents.registry (reached x)) e
          ∙ h
          ∙ sym (ap (λ (x : Option Firing). view_of (after (option_map_or (is_seen account contents.registry (life_of_row account contents seen)) x false))) e)
      by_firing (Some firing) e =
          ap (λ (x : Option Firing). seen_view account contents.registry (reached x)) e
          ∙ ap (λ (life : List Item). cond (is_seen account contents.registry life firing)
          (firing_made firing ∷ seen_view account contents.registry (view_of row)) (seen_view account contents.registry (view_of row)))
          (same_life row h legal)
          ∙ by_seen firing e (is_seen account contents.registry (life_of_row account contents seen) firing)
          ∙ sym (ap (λ (x : Option Firing). view_of (after (option_map_or (is_seen account contents.registry (life_of_row account contents seen)) x false))) e)

  step : (row : List TrailItem) (item : TrailItem) → SeesAlike row → IsLegalRow account contents (seen_row account contents row)
      → SeesAlike (row ++ item ∷ [])
  step row (line bytes) h legal =
      rw (past_of_last row (line bytes), seen_last account contents row (line bytes), past_of_last (seen_row account contents row) (line bytes))
      (ap (λ (l : List Reached). own_line (line_form bytes) ∷ l) h)
  step row long_line h legal =
      rw (past_of_last row long_line, seen_last account contents row long_line, past_of_last (seen_row account contents row) long_line)
      (ap (λ (l : List Reached). own_line long_form ∷ l) h)
  step row (fired cpu place) h legal = fired_alike row cpu place h legal

  alike_from : (before rest : List TrailItem) → IsLegalRow account contents (seen_row account contents (before ++ rest)) → SeesAlike before
      → SeesAlike (before ++ rest)
  alike_from before [] legal h = subst SeesAlike (sym (append-nil before)) h
  alike_from before (item ∷ rest) legal h =
      let one = append_assoc before (item ∷ []) rest in
      subst SeesAlike one
      (alike_from (before ++ item ∷ []) rest
      (subst (λ (l : List TrailItem). IsLegalRow account contents (seen_row account contents l)) (sym one) legal)
      (step before item h
      (legal_start (seen_row account contents (before ++ item ∷ rest)) (seen_row account contents before) (seen_starts account contents before (item ∷ rest)) legal)))

  pub sees_alike : (row : List TrailItem) → IsLegalRow account contents (seen_row account contents row)
      → seen_view account contents.registry (view_of row) ≡ view_of (seen_row account contents row)
  sees_alike row legal = alike_from [] row legal refl

  -- a consumer is answered alone to a row what it is answered to the part that is seen
  pub answered_alike : (row : List TrailItem) (answers : List Answer) → IsLegalRow account contents (seen_row account contents row)
      → Alone account contents.registry (view_of row) answers ↔ Alone account contents.registry (view_of (seen_row account contents row)) answers
  answered_alike row answers legal =
      let same = sees_alike row legal in (
        λ h. subst (λ (view : List Reached). Alone account contents.registry view answers) same (alone_seen account contents.registry (view_of row) answers h),
        λ h. alone_of_seen account contents.registry (view_of row) answers
            (subst (λ (view : List Reached). Alone account contents.registry view answers) (sym same) h),
      )
