-- The accounts of a machine that a file describes have plain names, and are found by them.
use Rattle.std.proofs.Common.{◌≡◌, ◌≢◌, ℕ, suc, ◌<◌, Bool, true, false, cond, List, [], ◌∷◌, Some, map}
use Rattle.std.proofs.Common.{refl, subst, ⊎_elim, arith}
use Rattle.std.proofs.lemmas.List.Elements.{All-weaker}
use Rattle.std.proofs.lemmas.Slice.Eq.{bytes_eq-Decides}
use Rattle.std.specs.List.{All, find, slice_get}
use Rattle.std.specs.Str.{bytes_eq}
use Rattle.dt_cred.specs.declared.account.Account.{Account}
use Rattle.dt_machine.specs.Reading.{IsDescribed, accounts_in}
use Rattle.dt_machine.specs.Registry.{Contents, account_of}
use Rattle.dt_machine.specs.Rows.{AccountRow, account, IsAccountByte, IsAccountName}
use Rattle.dt_machine.specs.declared.fault.FaultNumber.TheVariants as number

-- what is found passes the test, and is one of the list
found_passes : (test : Account → Bool) (one : Account) (accounts : List Account) → find test accounts ≡ Some one
    → test one ≡ true
found_passes test one [] e = cc
found_passes test one (a ∷ accounts) e = by_test (test a) refl (found_passes test one accounts) e where
  by_test : (b : Bool) → test a ≡ b → (find test accounts ≡ Some one → test one ≡ true)
      → cond b (Some a) (find test accounts) ≡ Some one → test one ≡ true
  by_test true is later e = let same : a ≡ one = cc in subst (λ x. test x ≡ true) same is
  by_test false is later e = later e

found_named : (test : Account → Bool) (one : Account) (rows : List AccountRow)
    → ((k : ℕ) (row : AccountRow) → slice_get rows k ≡ Some row → IsAccountName row.name)
    → find test (map account rows) ≡ Some one → IsAccountName one.name
found_named test one [] named e = cc
found_named test one (row ∷ rows) named e =
    by_test (test (account row)) (found_named test one rows (λ k. named (suc k))) e
  where
    by_test : (b : Bool) → (find test (map account rows) ≡ Some one → IsAccountName one.name)
        → cond b (Some (account row)) (find test (map account rows)) ≡ Some one → IsAccountName one.name
    by_test true later e = let same : account row ≡ one = cc in subst (λ a. IsAccountName a.name) same (named 0 row refl)
    by_test false later e = later e

module _ (text : List ℕ) (contents : Contents) (described : IsDescribed text contents) (name : List ℕ) (one : Account)
    (is : account_of contents.registry name ≡ Some one) where
  -- its name is a plain one
  pub account_named : IsAccountName one.name
  account_named =
      found_named (λ a. bytes_eq a.name name) one (accounts_in described.data_of)
      (λ k row there. (described.right number.Account k row there).named)
      (subst (λ accounts. find (λ a. bytes_eq a.name name) accounts ≡ Some one) described.registry.accounts is)

  -- it is the name that it was found by
  pub found_by_name : one.name ≡ name
  found_by_name = (bytes_eq-Decides one.name name).0
      (found_passes (λ a. bytes_eq a.name name) one contents.registry.accounts is)

  -- none of its bytes is below a hyphen
  pub name_has_no : (byte : ℕ) → byte < 45 → All (λ other. other ≢ byte) one.name
  name_has_no byte low = All-weaker IsAccountByte (λ other. other ≢ byte) plain one.name account_named.plain where
    plain : (other : ℕ) → IsAccountByte other → other ≢ byte
    plain other h same =
        ⊎_elim (λ letter. omega (arith, letter.0, same, low))
        (λ more. ⊎_elim (λ digit. omega (arith, digit.0, same, low))
        (λ sign. ⊎_elim (λ line. omega (arith, line, same, low)) (λ hyphen. omega (arith, hyphen, same, low)) sign) more) h
