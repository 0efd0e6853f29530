-- An account is its uid and its privileges: under another name it may do and is shown the same.
use Rattle.std.proofs.Common.{◌≡◌, ℕ, List, Option, Some, None, refl}
use Rattle.std.proofs.Math.Path.{fun_ext}
use Rattle.dt_cred.specs.Rights.{may_enable, admits}
use Rattle.dt_cred.specs.declared.account.Account.{Account}
use Rattle.dt_cred.specs.declared.account.Process.{Process}
use Rattle.dt_cred.specs.declared.class.Class.{Class}
use Rattle.dt_cred.specs.declared.class.Class.TheVariants.{Dtrace, Syscall, Profile, Pid, Other}
use Rattle.dt_cred.specs.declared.rights.Mode.{Mode}

-- the account under another name
abbrev pub renamed : Account → List ℕ → Account
renamed account name = record { name = name; uid = account.uid; privs = account.privs }

module _ (account : Account) (name : List ℕ) where
  enables_one : (class : Class) (process : Option Process)
      → may_enable (renamed account name) class process ≡ may_enable account class process
  enables_one Dtrace process = refl
  enables_one Syscall process = refl
  enables_one Profile process = refl
  enables_one (Pid pid) (Some process) = refl
  enables_one (Pid pid) None = refl
  enables_one Other process = refl

  pub enables : may_enable (renamed account name) ≡ may_enable account
  enables = fun_ext (λ class. fun_ext (enables_one class))

  admits_one : (class : Class) (mode : Mode) (process : Process)
      → admits (renamed account name) class mode process ≡ admits account class mode process
  admits_one Dtrace mode process = refl
  admits_one Syscall mode process = refl
  admits_one Profile mode process = refl
  admits_one (Pid pid) mode process = refl
  admits_one Other mode process = refl

  pub admits_alike : admits (renamed account name) ≡ admits account
  admits_alike = fun_ext (λ class. fun_ext (λ mode. fun_ext (admits_one class mode)))
