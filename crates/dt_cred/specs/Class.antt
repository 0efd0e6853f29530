-- Which class of probes a provider's name stands for.
use Rattle.std.specs.Prelude.{◌≡◌, ◌≢◌, ℕ, ◌+◌, ◌-◌, ◌*◌, ◌<◌, ◌≤◌, List, ◌++◌, length, slice_index, fold, All, codes}
use Rattle.dt_names.specs.Bytes.{zero_digit, nine_digit}
use Rattle.dt_cred.specs.declared.class.Class.{Class}
use Rattle.dt_cred.specs.declared.class.Class.TheVariants.{Dtrace, Syscall, Profile, Pid, Other}

abbrev pub IsDigit : ℕ → Type 0
IsDigit byte = (zero_digit ≤ byte) × (byte ≤ nine_digit)

-- the number that decimal digits stand for
abbrev pub number_of : List ℕ → ℕ
number_of digits = fold (λ number digit. 10 * number + (digit - zero_digit)) 0 digits

-- The digits write a decimal number without a leading zero; zero is a single 0.
pub record WritesDecimal (digits : List ℕ) : Type 0 where
  pub some : 0 < length digits
  pub each : All IsDigit digits
  pub no_leading_zero : slice_index digits 0 ≡ zero_digit → length digits ≡ 1

-- The provider is `pid` and the decimal number of a process.
pub record NamesProcess (provider : List ℕ) (pid : ℕ) : Type 0 where
  pub digits : List ℕ
  pub spelled : provider ≡ codes "pid" ++ digits
  pub decimal : WritesDecimal digits
  pub stands_for : number_of digits ≡ pid

-- The class of a provider's probes. What has none of the four names is of class Other.
abbrev pub IsClassOf : List ℕ → Class → Type 0
IsClassOf provider Dtrace = provider ≡ codes "dtrace"
IsClassOf provider Syscall = provider ≡ codes "syscall"
IsClassOf provider Profile = provider ≡ codes "profile"
IsClassOf provider (Pid pid) = NamesProcess provider pid
IsClassOf provider Other = (provider ≢ codes "dtrace") × (provider ≢ codes "syscall") × (provider ≢ codes "profile")
    × ((pid : ℕ) → NamesProcess provider pid → ⊥)
