-- Whether a program is enabled, or for what it is refused first.
use Rattle.std.specs.Prelude.{◌≡◌, ℕ, ◌+◌, ◌-◌, ◌<◌, ◌==◌, ◌&&◌, ◌||◌, Bool, true, false, not, List, ◌++◌, length, IsSomeAnd, IfSome, slice_get, nat_lt}
use Rattle.std.specs.List.{list_any}
use Rattle.dt_cred.specs.declared.account.Account.{Account}
use Rattle.dt_machine.specs.Registry.{Registry}
use Rattle.dt_program.specs.Program.{ClauseForm, StatementForm}
use Rattle.dt_program.specs.Program as program
use Rattle.dt_ecb.specs.Ecbs.{added}
use Rattle.dt_ecb.specs.Matching.{matched}
use Rattle.dt_ecb.specs.Shapes.{ShapeForm, uses_of, IsFirstClash, any_clash, names_count}
use Rattle.dt_ecb.specs.Limits.{ecbs_max, aggregations_max}

-- the first clause for which a test holds has this number, counted from 1
pub record IsFirstSuch (holds : ClauseForm → Bool) (clauses : List ClauseForm) (number : ℕ) : Type 0 where
  pub place : ℕ
  pub counted : number ≡ place + 1
  pub here : IsSomeAnd (slice_get clauses place) (λ clause. holds clause ≡ true)
  pub before : (i : ℕ) → i < place → IfSome (slice_get clauses i) (λ clause. holds clause ≡ false)

-- the statement records the kernel's stack
abbrev pub is_stack : StatementForm → Bool
is_stack (program.stack frames) = true
is_stack _ = false

-- a clause with such a statement
abbrev pub has_stack : ClauseForm → Bool
has_stack clause = list_any is_stack clause.statements

-- what becomes of a program: it is enabled, or refused for its first fault
pub data EnableVerdict : Type 0 where
  enabled : EnableVerdict
  privilege : (clause : ℕ) → EnableVerdict
  clash : (name : List ℕ) → EnableVerdict
  unmatched : (clause : ℕ) → EnableVerdict
  limit : EnableVerdict

module _ (account : Account) (registry : Registry) where
  -- the clause takes effect on no probe
  abbrev pub is_unmatched : ClauseForm → Bool
  is_unmatched clause = length (matched account registry clause) == 0

  module _ (accepted : List ShapeForm) (epid : ℕ) (clauses : List ClauseForm) where
    -- the account may do all that the clauses do
    abbrev pub may_do_all : Bool
    may_do_all = account.privs.dtrace_kernel || not (list_any has_stack clauses)

    -- more than one consumer may have
    abbrev pub is_too_much : Bool
    is_too_much =
        nat_lt ecbs_max (epid - 1 + length (added account registry epid clauses))
        || nat_lt aggregations_max (names_count (accepted ++ uses_of clauses))

    -- A program is enabled after these accepted aggregations and with this next EPID.
    abbrev pub is_enabled : Bool
    is_enabled = may_do_all && (not (any_clash accepted (uses_of clauses))
        && (not (list_any is_unmatched clauses) && not is_too_much))

    -- It is refused for the first of these that holds, in this order.
    abbrev pub IsVerdict : EnableVerdict → Type 0
    IsVerdict (privilege number) = (account.privs.dtrace_kernel ≡ false) × IsFirstSuch has_stack clauses number
    IsVerdict (clash name) = (may_do_all ≡ true) × IsFirstClash accepted (uses_of clauses) name
    IsVerdict (unmatched number) =
        (may_do_all ≡ true) × (any_clash accepted (uses_of clauses) ≡ false) × IsFirstSuch is_unmatched clauses number
    IsVerdict limit =
        (may_do_all ≡ true) × (any_clash accepted (uses_of clauses) ≡ false)
        × (list_any is_unmatched clauses ≡ false) × (is_too_much ≡ true)
    IsVerdict enabled = is_enabled ≡ true
