-- What the proof of `privs_of` is told at its goals.
use Rattle.std.proofs.Common.{map, ◌≡◌, sym, ◌∙◌, List, Bool, true, ℕ, codes}
use Rattle.dt_cred.specs.declared.account.Privs.{Privs}
use Rattle.std.proofs.lemmas.List.Elements.{All-map}
use Rattle.std.specs.List.{list_any}
use Rattle.std.specs.Str.{bytes_eq}
use Rattle.serde_json.specs.Data.{Data}
use Rattle.serde_json.specs.View.{view}
use Rattle.serde_json.specs.declared.value.Value.{Value}
use Rattle.dt_machine.specs.Given.{text_of}
use Rattle.dt_machine.specs.Rows.{IsPriv, lists}
use Rattle.dt_machine.specs.Sections.{texts}
use Rattle.dt_machine.proofs.Lists.{All-unmap, list_any-map}
use Rattle.dt_machine.proofs.accounts.privs_of.Goals as goal

listed : (values : List Value) (priv : List ℕ)
    → list_any (λ item. bytes_eq (text_of (view item)) priv) values ≡ lists (texts values) priv
listed values priv =
    sym (list_any-map (λ text. bytes_eq text priv) text_of (map view values)
    ∙ list_any-map (λ (d : Data). bytes_eq (text_of d) priv) view values)

same : {a b c d a' b' c' d' : Bool} → a ≡ a' → b ≡ b' → c ≡ c' → d ≡ d'
    → ◌≡◌ {A = Privs} (record { dtrace_user = a; dtrace_proc = b; dtrace_kernel = c; proc_owner = d })
    (record { dtrace_user = a'; dtrace_proc = b'; dtrace_kernel = c'; proc_owner = d' })
same p q r s = λ i. record { dtrace_user = p i; dtrace_proc = q i; dtrace_kernel = r i; proc_owner = s i }

pub returns-then-not-are_privs : goal.returns-then-not-are_privs
returns-then-not-are_privs c each =
    let all = All-unmap (λ d. IsPriv (text_of d)) view c.args.list.now
    (All-unmap IsPriv text_of (map view c.args.list.now) each) in
    cc (c.if-not-are_privs.true, c.are_privs.ensures.1 all)

pub returns : goal.returns
returns c =
    let all : c.are_privs.result ≡ true = cc in
    let each = All-map IsPriv text_of (map view c.args.list.now)
    (All-map (λ d. IsPriv (text_of d)) view c.args.list.now (c.are_privs.ensures.0 all)) in
    let user = listed c.args.list.now (codes "dtrace_user") in
    let proc = listed c.args.list.now (codes "dtrace_proc") in
    let kernel = listed c.args.list.now (codes "dtrace_kernel") in
    let owner = listed c.args.list.now (codes "proc_owner") in (
      each,
      same (c.lists.ensures ∙ user) (c.lists-2.ensures ∙ proc) (c.lists-3.ensures ∙ kernel)
          (c.lists-4.ensures ∙ owner),
    )
