-- Who may have a session.
use Rattle.std.specs.Prelude.{ℕ, List, Option, Some, None, option_and_then, if◌then◌else◌}
use Rattle.dt_cred.specs.Rights.{has_dtrace}
use Rattle.dt_cred.specs.declared.account.Account.{Account}
use Rattle.dt_machine.specs.Registry.{Registry, account_of}

-- the account of a session that is opened by this name: the machine's, where it has a dtrace privilege
abbrev pub session_account : Registry → List ℕ → Option Account
session_account registry name = option_and_then
    (λ account. if has_dtrace account.privs then Some account else None) (account_of registry name)
