-- An account is its uid and its privileges: two that are equal in these see and are answered the same.
use Rattle.std.proofs.Common.{◌≡◌, ℕ, cond, List, [], ◌∷◌, refl, ap, subst, ◌∙◌}
use Rattle.dt_cred.specs.declared.account.Account.{Account}
use Rattle.dt_cred.specs.declared.account.Privs.{Privs}
use Rattle.dt_cred.specs.laws.Accounts.{renamed}
use Rattle.dt_life.specs.Acceptance.{after_line}
use Rattle.dt_life.specs.Answer.{Answer}
use Rattle.dt_life.specs.Life.{fired}
use Rattle.dt_life.specs.Reply.{Replies}
use Rattle.dt_life.specs.Tests.{is_seen}
use Rattle.dt_life.specs.laws.Accounts.{seen_firing_alike, reply_renamed}
use Rattle.dt_machine.specs.Registry.{Registry}
use Rattle.dt_proto.specs.Alone.{Reached, own_line, firing_made, IsReplyTo, Alone}
use Rattle.dt_proto.specs.Line.{ask_in}
use Rattle.dt_proto.specs.Lines.{LineForm}
use Rattle.dt_proto.specs.Views.{life_of, seen_view}
use Rattle.dt_proto.specs.laws.Views.{reply_from, reply_to}

module _ (account : Account) (name : List ℕ) (registry : Registry) where
  abbrev other : Account
  other = renamed account name

  life_renamed : (view : List Reached) → life_of other registry view ≡ life_of account registry view
  life_renamed [] = refl
  life_renamed (own_line line ∷ view) = ap (λ before. after_line before (ask_in line)) (life_renamed view)
  life_renamed (firing_made firing ∷ view) =
      ap (λ before. cond (is_seen other registry before firing) (fired firing ∷ before) before) (life_renamed view)
      ∙ ap (λ seen. cond seen (fired firing ∷ life_of account registry view) (life_of account registry view))
      (seen_firing_alike account name registry (life_of account registry view) firing)

  seen_renamed : (view : List Reached) → seen_view other registry view ≡ seen_view account registry view
  seen_renamed [] = refl
  seen_renamed (own_line line ∷ view) = ap (λ (seen : List Reached). own_line line ∷ seen) (seen_renamed view)
  seen_renamed (firing_made firing ∷ view) =
      ap (λ before. cond (is_seen other registry before firing) (firing_made firing ∷ seen_view other registry view)
      (seen_view other registry view)) (life_renamed view)
      ∙ ap (λ seen. cond seen (firing_made firing ∷ seen_view other registry view) (seen_view other registry view))
      (seen_firing_alike account name registry (life_of account registry view) firing)
      ∙ ap (λ more. cond (is_seen account registry (life_of account registry view) firing) (firing_made firing ∷ more) more)
      (seen_renamed view)

  asked_renamed : (view : List Reached) (line : LineForm) (answer : Answer)
      → IsReplyTo other registry view line answer → IsReplyTo account registry view line answer
  asked_renamed view line answer h =
      reply_to account registry view line answer
      (reply_renamed account name registry (life_of account registry view) (ask_in line) answer
      (subst (λ life. Replies other registry life (ask_in line) answer) (life_renamed view)
      (reply_from other registry view line answer h)))

  alone_renamed : (view : List Reached) (answers : List Answer) → Alone other registry view answers
      → Alone account registry view answers
  alone_renamed [] answers h = h
  alone_renamed (own_line line ∷ view) answers h =
      (h.0, h.1, alone_renamed view h.0 h.2, asked_renamed view line h.1 h.3, h.4)
  alone_renamed (firing_made firing ∷ view) answers h = alone_renamed view answers h

-- two accounts of the same rights
module _ (a b : Account) (uid : a.uid ≡ b.uid) (privs : a.privs ≡ b.privs) where
  abbrev account_with : ℕ → Privs → Account
  account_with n p = record { name = a.name; uid = n; privs = p }

  -- the one is the other, under its own name
  is_renamed : a ≡ renamed b a.name
  is_renamed =
      ap (λ (n : ℕ). account_with n a.privs) uid ∙ ap (λ (p : Privs). account_with b.uid p) privs

  pub same_life : (registry : Registry) (view : List Reached) → life_of a registry view ≡ life_of b registry view
  same_life registry view =
      ap (λ own. life_of own registry view) is_renamed ∙ life_renamed b a.name registry view

  pub same_seen_view : (registry : Registry) (view : List Reached)
      → seen_view a registry view ≡ seen_view b registry view
  same_seen_view registry view =
      ap (λ own. seen_view own registry view) is_renamed ∙ seen_renamed b a.name registry view

  pub same_alone : (registry : Registry) (view : List Reached) (answers : List Answer)
      → Alone a registry view answers → Alone b registry view answers
  same_alone registry view answers h =
      alone_renamed b a.name registry view answers (subst (λ own. Alone own registry view answers) is_renamed h)
