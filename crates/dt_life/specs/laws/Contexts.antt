-- The contexts in which BEGIN and END fire.
use Rattle.std.proofs.Common.{◌≡◌, ℕ, Option, Some, None, refl, sym, ap, ◌∙◌}
use Rattle.std.specs.Option.{IsSomeAnd, option_and_then, option_map}
use Rattle.dt_cred.specs.declared.account.Account.{Account}
use Rattle.dt_cred.specs.declared.account.Process.{Process}
use Rattle.dt_cred.specs.declared.probe.Probe.{Probe}
use Rattle.dt_machine.specs.Registry.{Registry, probe_of, process_of}
use Rattle.dt_cred.specs.declared.firing.Firing.{Firing}
use Rattle.dt_life.specs.Takings.{own_firing, own_context, own_process}
use Rattle.dt_machine.specs.Context.{ContextForm, IsContext, form_of_context, context_of}
use Rattle.dt_machine.specs.declared.context.Context.{Context}

-- the context of BEGIN or END
pub own_is : (account : Account) (registry : Registry) (id : ℕ) (probe : Probe) (process : Process) (firing : Firing)
    → Some probe ≡ probe_of registry id → process ≡ own_process account → firing ≡ own_firing id
    → own_context account registry id ≡ Some (record { probe = probe; process = process; firing = firing })
own_is account registry id probe process firing is own fires =
    ap
    (λ o. option_and_then
    (λ (p : Probe). option_map
    (λ (q : Process). record { probe = p; process = q; firing = own_firing id })
    (Some (own_process account)))
    o)
    (sym is)
    ∙ ap (λ (q : Process). Some (record { probe = probe; process = q; firing = own_firing id })) (sym own)
    ∙ ap (λ (f : Firing). Some (record { probe = probe; process = process; firing = f })) (sym fires)

-- a context of the consumer's own
pub record OwnContext (account : Account) (registry : Registry) (id : ℕ) (P : ContextForm → Type 0) : Type 0 where
  pub probe : Probe
  pub is : own_context account registry id
      ≡ Some (record { probe = probe; process = own_process account; firing = own_firing id })
  pub holds : P (record { probe = probe; process = own_process account; firing = own_firing id })

own_of : (account : Account) (registry : Registry) (id : ℕ) (P : ContextForm → Type 0) (o : Option Probe)
    → probe_of registry id ≡ o
    → IsSomeAnd (option_and_then
    (λ (p : Probe). option_map
    (λ q. record { probe = p; process = q; firing = own_firing id }) (Some (own_process account))) o) P
    → OwnContext account registry id P
own_of account registry id P None e h = absurd h
own_of account registry id P (Some probe) e h = record {
  probe = probe;
  is = ap
      (λ o. option_and_then
      (λ (p : Probe). option_map
      (λ q. record { probe = p; process = q; firing = own_firing id }) (Some (own_process account))) o) e;
  holds = h;
}

pub own_found : (account : Account) (registry : Registry) (id : ℕ) (P : ContextForm → Type 0)
    → IsSomeAnd (own_context account registry id) P → OwnContext account registry id P
own_found account registry id P h = own_of account registry id P (probe_of registry id) refl h

-- a context of the machine is that of its firing
pub context_is : (registry : Registry) (context : Context) → IsContext registry context
    → context_of registry context.firing.now ≡ Some (form_of_context context)
context_is registry context is =
    ap
    (λ o. option_and_then
    (λ (p : Probe). option_map
    (λ (q : Process). record { probe = p; process = q; firing = context.firing.now })
    (process_of registry context.firing.now.pid)) o) is.probe
    ∙ ap
    (λ o. option_map
    (λ (q : Process). record { probe = context.probe.now; process = q; firing = context.firing.now }) o) is.process
