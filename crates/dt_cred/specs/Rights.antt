-- What an account may enable, and which firings it is shown: the table of privileges.
use Rattle.std.specs.Prelude.{◌≡◌, ◌==◌, ◌&&◌, ◌||◌, ◌⊎◌, Bool, true, false, Option, Some, None, IsTrue}
use Rattle.dt_cred.specs.declared.account.Account.{Account}
use Rattle.dt_cred.specs.declared.account.Privs.{Privs}
use Rattle.dt_cred.specs.declared.account.Process.{Process}
use Rattle.dt_cred.specs.declared.class.Class.{Class}
use Rattle.dt_cred.specs.declared.class.Class.TheVariants.{Dtrace, Syscall, Profile, Pid, Other}
use Rattle.dt_cred.specs.declared.rights.Mode.{Mode}
use Rattle.dt_cred.specs.declared.rights.Mode.TheVariants.{User, Kernel}

abbrev pub HasUser : Account → Type 0
HasUser account = IsTrue account.privs.dtrace_user

abbrev pub HasProc : Account → Type 0
HasProc account = IsTrue account.privs.dtrace_proc

abbrev pub HasKernel : Account → Type 0
HasKernel account = IsTrue account.privs.dtrace_kernel

abbrev pub HasOwner : Account → Type 0
HasOwner account = IsTrue account.privs.proc_owner

-- One of the three dtrace privileges, without which an account can open no session.
abbrev pub HasDtrace : Privs → Type 0
HasDtrace privs = IsTrue privs.dtrace_user ⊎ (IsTrue privs.dtrace_proc ⊎ IsTrue privs.dtrace_kernel)

-- Permission over a process: an equal uid, or proc_owner.
abbrev pub Permits : Account → Process → Type 0
Permits account process = (account.uid ≡ process.uid) ⊎ HasOwner account

-- A process whose `pidN` probes an account may enable: dtrace_proc and permission over it, or dtrace_kernel and an
-- equal uid.
abbrev pub MayTrace : Account → Process → Type 0
MayTrace account process =
    (HasProc account × Permits account process) ⊎ (HasKernel account × (process.uid ≡ account.uid))

-- The probes of a class that an account may enable. At a provider `pidN` the process is N, if there is one.
abbrev pub MayEnable : Account → Class → Option Process → Type 0
MayEnable account Dtrace process = HasDtrace account.privs
MayEnable account Syscall process = HasUser account ⊎ HasKernel account
MayEnable account Profile process = HasUser account ⊎ HasKernel account
MayEnable account (Pid pid) (Some process) = (process.pid ≡ pid) × MayTrace account process
MayEnable account (Pid pid) None = ⊥
MayEnable account Other process = HasKernel account

-- The firings of a class that an account is shown, by the mode and the process in which the probe fired.
abbrev pub Admits : Account → Class → Mode → Process → Type 0
Admits account Dtrace mode process = Unit {0}
Admits account Syscall mode process = HasKernel account ⊎ Permits account process
Admits account Profile mode process = HasKernel account ⊎ (Permits account process × (mode ≡ User))
Admits account (Pid pid) mode process = Unit {0}
Admits account Other mode process = Unit {0}

-- The same as tests, for definitions that filter lists by them; `tests_agree` says that they are the same.
abbrev pub permits : Account → Process → Bool
permits account process = (account.uid == process.uid) || account.privs.proc_owner

abbrev pub may_trace : Account → Process → Bool
may_trace account process =
    (account.privs.dtrace_proc && permits account process)
    || (account.privs.dtrace_kernel && (process.uid == account.uid))

abbrev pub has_dtrace : Privs → Bool
has_dtrace privs = privs.dtrace_user || (privs.dtrace_proc || privs.dtrace_kernel)

abbrev pub may_enable : Account → Class → Option Process → Bool
may_enable account Dtrace process = has_dtrace account.privs
may_enable account Syscall process = account.privs.dtrace_user || account.privs.dtrace_kernel
may_enable account Profile process = account.privs.dtrace_user || account.privs.dtrace_kernel
may_enable account (Pid pid) (Some process) = (process.pid == pid) && may_trace account process
may_enable account (Pid pid) None = false
may_enable account Other process = account.privs.dtrace_kernel

abbrev pub is_user : Mode → Bool
is_user User = true
is_user Kernel = false

abbrev pub admits : Account → Class → Mode → Process → Bool
admits account Dtrace mode process = true
admits account Syscall mode process = account.privs.dtrace_kernel || permits account process
admits account Profile mode process = account.privs.dtrace_kernel || (permits account process && is_user mode)
admits account (Pid pid) mode process = true
admits account Other mode process = true
