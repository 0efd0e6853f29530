-- What the proof of `account_of` is told at its goals.
use Rattle.std.proofs.Common.{◌≡◌, ◌≢◌, ◌∙◌, ℕ, ◌^◌, ap, subst, sym, map, true, false, List, Option, All, length}
use Rattle.std.proofs.Common.{arith, inl, inr, ◌<◌}
use Rattle.std.proofs.lemmas.Option.{MatchOption-at_some}
use Rattle.dt_machine.specs.Found.{IsFoundOfAccount}
use Rattle.std.proofs.lemmas.List.{length-map}
use Rattle.std.specs.List.{list_any}
use Rattle.std.specs.Str.{bytes_eq}
use Rattle.std.specs.Cmp.Lexicographic.{same_text, other_text}
use Rattle.serde_json.specs.View.{view}
use Rattle.dt_cred.specs.declared.account.Account.{Account}
use Rattle.dt_cred.specs.declared.account.Privs.{Privs}
use Rattle.dt_machine.specs.Given.{text_of}
use Rattle.dt_machine.specs.Rows.{AccountRow, account_row, account, privs}
use Rattle.dt_machine.specs.Rows.{number_in, IsPriv, IsAccountName, IsGivenBelow}
use Rattle.dt_machine.proofs.Lists.{any_true, any_false, list_any-map}
use Rattle.dt_machine.proofs.Exits.{missed, refused_with}
use Rattle.dt_machine.proofs.accounts.account_of.Goals as goal
use Rattle.dt_machine.specs.Limits.{accounts_max}

taken : (before : List Account) (rows : List AccountRow) (name : List ℕ) → before ≡ map account rows
    → list_any (λ account. bytes_eq account.name name) before
    ≡ list_any (λ (row : AccountRow). bytes_eq row.name name) rows
taken before rows name e =
    ap (list_any (λ account. bytes_eq account.name name)) e
    ∙ list_any-map (λ (a : Account). bytes_eq a.name name) account rows

same : {name name' : List ℕ} {uid uid' : ℕ} {held held' : Privs} → name ≡ name' → uid ≡ uid' → held ≡ held'
    → ◌≡◌ {A = Account} (record { name = name; uid = uid; privs = held })
    (record { name = name'; uid = uid'; privs = held' })
same p q r = λ i. record { name = p i; uid = q i; privs = r i }

unseen : (rows : List AccountRow) (name : List ℕ)
    → list_any (λ (earlier : AccountRow). bytes_eq earlier.name name) rows ≡ false
    → All (λ (earlier : AccountRow). earlier.name ≢ name) rows
unseen rows name missing = any_false (λ (earlier : AccountRow). bytes_eq earlier.name name)
    (λ earlier. earlier.name ≢ name) (λ earlier ne. other_text earlier.name name (sym ne)) rows missing

pub returns-then-is_taken : goal.returns-then-is_taken
returns-then-is_taken c rows e =
    let row = account_row (view c.args.row.now) in
    let named = MatchOption-at_some _ _ _ c.in_ok-name.ensures.ok_part c.account_name.ensures in
    let given : c.as_bytes.result.now ≡ row.name = c.as_bytes.ensures.value ∙ c.text_at.ensures in
    let spelled : c.as_bytes-2.result.now ≡ row.name = c.as_bytes-2.ensures.value ∙ named.1 ∙ given in
    let few : length rows < accounts_max = omega (arith, ap length e, length-map rows account) in
    let found : list_any (λ (earlier : AccountRow). bytes_eq earlier.name row.name) rows ≡ true =
    sym (taken c.args.before.now rows row.name e)
    ∙ ap (λ text. list_any (λ (a : Account). bytes_eq a.name text) c.args.before.now) (sym spelled)
    ∙ sym c.is_taken.ensures ∙ c.if-is_taken.true in
    inr (
      few,
      inl (
        (λ right. any_true (λ (earlier : AccountRow). bytes_eq earlier.name row.name) (λ earlier. earlier.name ≢ row.name)
            (λ earlier eq other. other (same_text earlier.name row.name (sym eq))) rows found right.1),
        c.has-then-is_taken.ensures,
      ),
    )

pub returns-in_err-uid : goal.returns-in_err-uid
returns-in_err-uid c rows e =
    let row = account_row (view c.args.row.now) in
    let named = MatchOption-at_some _ _ _ c.in_ok-name.ensures.ok_part c.account_name.ensures in
    let given : c.as_bytes.result.now ≡ row.name = c.as_bytes.ensures.value ∙ c.text_at.ensures in
    let spelled : c.as_bytes-2.result.now ≡ row.name = c.as_bytes-2.ensures.value ∙ named.1 ∙ given in
    let missing : list_any (λ (earlier : AccountRow). bytes_eq earlier.name row.name) rows ≡ false =
    sym (taken c.args.before.now rows row.name e)
    ∙ ap (λ text. list_any (λ (a : Account). bytes_eq a.name text) c.args.before.now) (sym spelled)
    ∙ sym c.is_taken.ensures ∙ c.if-is_taken.false in
    let N : List ℕ → Type 0 = IsAccountName in
    let name : IsAccountName row.name × All (λ (earlier : AccountRow). earlier.name ≢ row.name) rows =
    (subst N given named.0, unseen rows row.name missing) in
    let U : Option ℕ → Type 0 = IsGivenBelow (2 ^ 32) in
    let few : length rows < accounts_max = omega (arith, ap length e, length-map rows account) in
    let m = missed c.u32_of.result c.has-3.result c.in_err-uid.field-0.0 _ _ c.u32_of.ensures c.in_err-uid.ensures.value in
    refused_with _ (IsFoundOfAccount (length c.args.before.now) rows row) c.from_residual-in_err-uid.result
    c.in_err-uid.field-0.0 c.from_residual-in_err-uid.ensures.1
    (inr (few, inr (name, inl ((λ uid. m.0 (subst U (sym c.unsigned_at.ensures) uid)), m.1 ∙ c.has-3.ensures))))

pub returns-in_err-privs : goal.returns-in_err-privs
returns-in_err-privs c rows e =
    let row = account_row (view c.args.row.now) in
    let named = MatchOption-at_some _ _ _ c.in_ok-name.ensures.ok_part c.account_name.ensures in
    let given : c.as_bytes.result.now ≡ row.name = c.as_bytes.ensures.value ∙ c.text_at.ensures in
    let spelled : c.as_bytes-2.result.now ≡ row.name = c.as_bytes-2.ensures.value ∙ named.1 ∙ given in
    let missing : list_any (λ (earlier : AccountRow). bytes_eq earlier.name row.name) rows ≡ false =
    sym (taken c.args.before.now rows row.name e)
    ∙ ap (λ text. list_any (λ (a : Account). bytes_eq a.name text) c.args.before.now) (sym spelled)
    ∙ sym c.is_taken.ensures ∙ c.if-is_taken.false in
    let N : List ℕ → Type 0 = IsAccountName in
    let name : IsAccountName row.name × All (λ (earlier : AccountRow). earlier.name ≢ row.name) rows =
    (subst N given named.0, unseen rows row.name missing) in
    let U : Option ℕ → Type 0 = IsGivenBelow (2 ^ 32) in
    let few : length rows < accounts_max = omega (arith, ap length e, length-map rows account) in
    let uid = MatchOption-at_some _ _ _ c.in_ok-uid.ensures.ok_part c.u32_of.ensures in
    let P : List (List ℕ) → Type 0 = All IsPriv in
    let held = ap (map text_of) c.list_at.ensures in
    let m = missed c.privs_of.result c.has-4.result c.in_err-privs.field-0.0 _ _ c.privs_of.ensures
    c.in_err-privs.ensures.value in
    refused_with _ (IsFoundOfAccount (length c.args.before.now) rows row) c.from_residual-in_err-privs.result
    c.in_err-privs.field-0.0 c.from_residual-in_err-privs.ensures.1
    (inr (
      few,
      inr (
        name,
        inr (
          subst U c.unsigned_at.ensures uid.0,
          inl ((λ privs. m.0 (subst P (sym held) privs)), m.1 ∙ c.has-4.ensures),
        ),
      ),
    ))

pub returns : goal.returns
returns c rows e =
    let row = account_row (view c.args.row.now) in
    let named = MatchOption-at_some _ _ _ c.in_ok-name.ensures.ok_part c.account_name.ensures in
    let given : c.as_bytes.result.now ≡ row.name = c.as_bytes.ensures.value ∙ c.text_at.ensures in
    let spelled : c.as_bytes-2.result.now ≡ row.name = c.as_bytes-2.ensures.value ∙ named.1 ∙ given in
    let missing : list_any (λ (earlier : AccountRow). bytes_eq earlier.name row.name) rows ≡ false =
    sym (taken c.args.before.now rows row.name e)
    ∙ ap (λ text. list_any (λ (a : Account). bytes_eq a.name text) c.args.before.now) (sym spelled)
    ∙ sym c.is_taken.ensures ∙ c.if-is_taken.false in
    let N : List ℕ → Type 0 = IsAccountName in
    let name : IsAccountName row.name × All (λ (earlier : AccountRow). earlier.name ≢ row.name) rows =
    (subst N given named.0, unseen rows row.name missing) in
    let U : Option ℕ → Type 0 = IsGivenBelow (2 ^ 32) in
    let uid = MatchOption-at_some _ _ _ c.in_ok-uid.ensures.ok_part c.u32_of.ensures in
    let listed = MatchOption-at_some _ _ _ c.in_ok-privs.ensures.ok_part c.privs_of.ensures in
    let P : List (List ℕ) → Type 0 = All IsPriv in
    let held = ap (map text_of) c.list_at.ensures in (
      record {
        few = omega (arith, ap length e, length-map rows account);
        named = name.0;
        new = name.1;
        uid = subst U c.unsigned_at.ensures uid.0;
        privs = subst P held listed.0;
      },
      same (named.1 ∙ given) (uid.1 ∙ ap number_in c.unsigned_at.ensures) (listed.1 ∙ ap privs held),
    )
