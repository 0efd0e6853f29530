-- A beginning of a legal row is legal.
use Rattle.std.proofs.Common.{◌≡◌, List, [], ◌∷◌, ◌++◌, map, reverse, ap, ◌∙◌, subst}
use Rattle.std.proofs.lemmas.List.{map-append, reverse-append}
use Rattle.dt_cred.specs.declared.account.Account.{Account}
use Rattle.dt_machine.specs.Registry.{Contents}
use Rattle.dt_proto.specs.Legal.{IsLegal}
use Rattle.dt_proto.specs.laws.Legal.{legal_before}
use Rattle.dt_trail.specs.Items.{TrailItem}
use Rattle.dt_legal.specs.Rows.{told_as, past_of, IsLegalRow}

-- what comes later stands first in the past
pub past_of_both : (xs ys : List TrailItem) → past_of (xs ++ ys) ≡ past_of ys ++ past_of xs
past_of_both xs ys = ap reverse (map-append told_as xs ys) ∙ reverse-append (map told_as xs) (map told_as ys)

pub past_of_last : (row : List TrailItem) (item : TrailItem) → past_of (row ++ item ∷ []) ≡ told_as item ∷ past_of row
past_of_last row item = past_of_both row (item ∷ [])

pub legal_beginning : (account : Account) (contents : Contents) (xs ys : List TrailItem)
    → IsLegalRow account contents (xs ++ ys) → IsLegalRow account contents xs
legal_beginning account contents xs ys h =
    legal_before account contents (past_of ys) (past_of xs)
    (subst (IsLegal account contents) (past_of_both xs ys) h)
