-- Rows without what isn't seen, as they go on.
use Rattle.std.proofs.Common.{◌≡◌, ℕ, Bool, true, false, cond, List, [], ◌∷◌, ◌++◌, Option, Some, None, refl, sym, ap, ◌∙◌, subst, append-nil, append_assoc}
use Rattle.std.proofs.lemmas.List.Sums.{fold-append}
use Rattle.std.specs.Prelude.{fold}
use Rattle.std.specs.Option.{option_map_or}
use Rattle.dt_cred.specs.declared.account.Account.{Account}
use Rattle.dt_cred.specs.declared.firing.Firing.{Firing}
use Rattle.dt_legal.specs.Rows.{IsLegalRow, life_of_row}
use Rattle.dt_legal.specs.laws.Beginning.{legal_beginning, past_of_last}
use Rattle.dt_legal.specs.laws.Starts.{starts_more}
use Rattle.dt_life.specs.Sees.{Sees}
use Rattle.dt_life.specs.Tests.{is_seen}
use Rattle.dt_life.specs.laws.Seeing.{seen_to, unseen_to}
use Rattle.dt_machine.specs.Registry.{Contents, firing_at}
use Rattle.dt_meeting.specs.Sharing.{is_seen_after, seen_row, seen_with}
use Rattle.dt_proto.specs.Legal.{IsLegal}
use Rattle.dt_trail.specs.Items.{StartsWith, TrailItem, line, long_line, fired}
use Rattle.dt_trail.specs.laws.Starts.{starts_self, starts_trans}

module _ (account : Account) (contents : Contents) where
  pub seen_last : (row : List TrailItem) (item : TrailItem)
      → seen_row account contents (row ++ item ∷ []) ≡ seen_with account contents (seen_row account contents row) item
  seen_last row item = fold-append (seen_with account contents) [] row (item ∷ [])

  -- a seen firing is seen
  pub seen_after_to : (row : List TrailItem) (cpu place : ℕ) (firing : Firing) → firing_at contents.scripts cpu place ≡ Some firing
      → Sees account contents.registry (life_of_row account contents row) firing → is_seen_after account contents row cpu place ≡ true
  seen_after_to row cpu place firing found sees =
      ap (λ (o : Option Firing). option_map_or (is_seen account contents.registry (life_of_row account contents row)) o false) found
      ∙ seen_to account contents.registry (life_of_row account contents row) firing sees

  -- where no firing that may stand there is seen, this one isn't
  pub unseen_after_to : (row : List TrailItem) (cpu place : ℕ)
      → ((firing : Firing) → firing_at contents.scripts cpu place ≡ Some firing
      → Sees account contents.registry (life_of_row account contents row) firing → ⊥)
      → is_seen_after account contents row cpu place ≡ false
  unseen_after_to row cpu place none = by_case (firing_at contents.scripts cpu place) refl
    where
      by_case : (o : Option Firing) → firing_at contents.scripts cpu place ≡ o → is_seen_after account contents row cpu place ≡ false
      by_case None e = ap (λ (o : Option Firing). option_map_or (is_seen account contents.registry (life_of_row account contents row)) o false) e
      by_case (Some firing) e =
          ap (λ (o : Option Firing). option_map_or (is_seen account contents.registry (life_of_row account contents row)) o false) e
          ∙ unseen_to account contents.registry (life_of_row account contents row) firing (none firing e)

  -- an item that may stand after a legal row is seen there
  kept : (seen : List TrailItem) (item : TrailItem) → IsLegalRow account contents (seen ++ item ∷ [])
      → seen_with account contents seen item ≡ seen ++ item ∷ []
  kept seen (line bytes) legal = refl
  kept seen long_line legal = refl
  kept seen (fired cpu place) legal =
      let stands = (subst (IsLegal account contents) (past_of_last seen (fired cpu place)) legal).1 in
      let firing = stands.1 in
      ap (λ (b : Bool). cond b (seen ++ fired cpu place ∷ []) seen) (seen_after_to seen cpu place firing.0 firing.1 firing.2)

  pub legal_front : (row : List TrailItem) (item : TrailItem) (rest : List TrailItem) → IsLegalRow account contents (row ++ item ∷ rest)
      → IsLegalRow account contents (row ++ item ∷ [])
  legal_front row item rest legal =
      legal_beginning account contents (row ++ item ∷ []) rest
      (subst (IsLegalRow account contents) (sym (append_assoc row (item ∷ []) rest)) legal)

  -- the rest of a legal row is seen
  pub seen_on : (seen rest : List TrailItem) → IsLegalRow account contents (seen ++ rest)
      → fold (seen_with account contents) seen rest ≡ seen ++ rest
  seen_on seen [] legal = sym (append-nil seen)
  seen_on seen (item ∷ rest) legal =
      ap (λ (l : List TrailItem). fold (seen_with account contents) l rest) (kept seen item (legal_front seen item rest legal))
      ∙ seen_on (seen ++ item ∷ []) rest (subst (IsLegalRow account contents) (sym (append_assoc seen (item ∷ []) rest)) legal)
      ∙ append_assoc seen (item ∷ []) rest

  -- a legal row is all seen
  pub legal_is_seen : (row : List TrailItem) → IsLegalRow account contents row → seen_row account contents row ≡ row
  legal_is_seen row legal = seen_on [] row legal

  -- a row whose seen part is legal with what comes more
  pub seen_more : (row trail more : List TrailItem) → seen_row account contents row ≡ trail → IsLegalRow account contents (trail ++ more)
      → seen_row account contents (row ++ more) ≡ trail ++ more
  seen_more row trail more is legal =
      fold-append (seen_with account contents) [] row more
      ∙ ap (λ (l : List TrailItem). fold (seen_with account contents) l more) is
      ∙ seen_on trail more legal

  with_starts : (seen : List TrailItem) (item : TrailItem) → StartsWith (seen_with account contents seen item) seen
  with_starts seen (line bytes) = starts_more seen (line bytes)
  with_starts seen long_line = starts_more seen long_line
  with_starts seen (fired cpu place) = by_case (is_seen_after account contents seen cpu place)
    where
      by_case : (b : Bool) → StartsWith (cond b (seen ++ fired cpu place ∷ []) seen) seen
      by_case true = starts_more seen (fired cpu place)
      by_case false = starts_self seen

  -- what was seen stays
  pub fold_starts : (seen rest : List TrailItem) → StartsWith (fold (seen_with account contents) seen rest) seen
  fold_starts seen [] = starts_self seen
  fold_starts seen (item ∷ rest) =
      starts_trans _ (seen_with account contents seen item) seen
      (fold_starts (seen_with account contents seen item) rest) (with_starts seen item)

  pub seen_starts : (before after : List TrailItem) → StartsWith (seen_row account contents (before ++ after)) (seen_row account contents before)
  seen_starts before after =
      subst (λ (l : List TrailItem). StartsWith l (seen_row account contents before))
      (sym (fold-append (seen_with account contents) [] before after))
      (fold_starts (seen_row account contents before) after)
