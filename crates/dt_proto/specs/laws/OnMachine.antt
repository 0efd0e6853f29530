-- The life of a view that a machine can bring is a life on that machine.
use Rattle.std.proofs.Common.{◌≡◌, ℕ, Bool, true, false, cond, List, [], ◌∷◌, Option, Some, None, Result, Ok, Err, refl, sym, subst}
use Rattle.std.specs.List.{AllByRecursion}
use Rattle.std.specs.Prelude.{codes, bytes_eq}
use Rattle.std.specs.Option.{option_and_then, option_map, IfSome}
use Rattle.dt_cred.specs.Rights.{has_dtrace}
use Rattle.dt_cred.specs.declared.account.Account.{Account}
use Rattle.dt_life.specs.Ask.{is_read}
use Rattle.dt_life.specs.Life.{Item, asked, fired, is_over}
use Rattle.dt_life.specs.Options.{Setting, number_set, policy_of, size, policy, entries, history, variables, speculations, parts}
use Rattle.dt_life.specs.Scenes.{IsLifeOn, MayBeAsked, MayBeSet, MayReach}
use Rattle.dt_life.specs.Tests.{is_seen}
use Rattle.dt_life.specs.declared.refusal.Refusal.{Refusal}
use Rattle.dt_machine.specs.Registry.{Contents, Registry, account_of}
use Rattle.dt_proto.specs.Alone.{Reached, own_line, firing_made, IsLifeOf}
use Rattle.dt_proto.specs.Brought.{IsBrought}
use Rattle.dt_proto.specs.Line.{Request, to_set, to_enable, to_go, to_stop, to_snap, to_agg, to_trunc, to_status}
use Rattle.dt_proto.specs.Line.{to_list, to_describe, to_close, ask_in, asked_by, asked_or_refused, requested, setting_by}
use Rattle.dt_proto.specs.Line.{GivenValue, of_number, of_text, of_another}
use Rattle.dt_proto.specs.Lines.{LineForm, short_line, long_line}
use Rattle.dt_proto.specs.Session.{session_account}
use Rattle.dt_proto.specs.Views.{life_of}
use Rattle.dt_proto.specs.laws.Views.{one_life}

-- what is set is a policy, or what a name and a number set
settable : (name : List ℕ) (n : ℕ) (setting : Setting) → number_set name n ≡ Some setting → MayBeSet setting
settable name n (size m) e = (name, n, e)
settable name n (policy p) e = tt
settable name n (entries m) e = (name, n, e)
settable name n (history m) e = (name, n, e)
settable name n (variables m) e = (name, n, e)
settable name n (speculations m) e = (name, n, e)
settable name n (parts m) e = (name, n, e)

by_number : (name : List ℕ) (n : ℕ) (o : Option Setting) → number_set name n ≡ o → IfSome o MayBeSet
by_number name n None e = tt
by_number name n (Some setting) e = settable name n setting e

where_mapped : {A B : Type 0} (P : B → Type 0) (f : A → B) → ((a : A) → P (f a)) → (b : Bool) (o : Option A)
    → IfSome (cond b (option_map f o) None) P
where_mapped P f all true None = tt
where_mapped P f all true (Some a) = all a
where_mapped P f all false o = tt

set_may : (name : List ℕ) (value : GivenValue) → IfSome (setting_by name value) MayBeSet
set_may name (of_number n) = by_number name n (number_set name n) refl
set_may name (of_text word) =
    where_mapped MayBeSet policy (λ p. tt) (bytes_eq name (codes "bufpolicy")) (policy_of word)
set_may name of_another = tt

-- what is read of a program is the reading of its text
request_may : (request : Request) → MayBeAsked (Ok (asked_by request))
request_may (to_set name value) = set_may name value
request_may (to_enable text) = (text, is_read text)
request_may to_go = tt
request_may to_stop = tt
request_may (to_snap cpu) = tt
request_may (to_agg name) = tt
request_may (to_trunc name) = tt
request_may to_status = tt
request_may (to_list probe) = tt
request_may (to_describe epid) = tt
request_may to_close = tt

said_may : (said : Result Request Refusal) → MayBeAsked (asked_or_refused said)
said_may (Ok request) = request_may request
said_may (Err refusal) = tt

line_may : (line : LineForm) → MayBeAsked (ask_in line)
line_may (short_line bytes) = said_may (requested bytes)
line_may long_line = tt

module _ (contents : Contents) where
  abbrev AllReach : List Item → Type 0
  AllReach life = AllByRecursion (MayReach contents.scripts) life

  one_more : (kept : Bool) (item : Item) (life : List Item) → MayReach contents.scripts item → AllReach life
      → AllReach (cond kept (item ∷ life) life)
  one_more true item life may all = (may, all)
  one_more false item life may all = all

  one_line : (over : Bool) (line : LineForm) (life : List Item) → AllReach life
      → AllReach (cond over life (asked (ask_in line) ∷ life))
  one_line true line life all = all
  one_line false line life all = (line_may line, all)

  all_reach : (account : Account) (view : List Reached) → IsBrought contents view
      → AllReach (life_of account contents.registry view)
  all_reach account [] h = tt
  all_reach account (own_line line ∷ view) h =
      let life = life_of account contents.registry view in
      one_line (is_over life) line life (all_reach account view h.0)
  all_reach account (firing_made firing ∷ view) h =
      let life = life_of account contents.registry view in
      one_more (is_seen account contents.registry life firing) (fired firing) life (firing.cpu, firing.place, h.1)
      (all_reach account view h.0)

  pub life_on : (name : List ℕ) (account : Account) (view : List Reached) (life : List Item)
      → account_of contents.registry name ≡ Some account → IsBrought contents view
      → IsLifeOf account contents.registry view life → IsLifeOn contents account life
  life_on name account view life known brought is = record {
    name = name;
    known = known;
    reached = subst AllReach (sym (one_life account contents.registry view life is)) (all_reach account view brought);
  }

-- whoever has a session is an account of the machine
pub session_known : (registry : Registry) (name : List ℕ) (account : Account)
    → session_account registry name ≡ Some account → account_of registry name ≡ Some account
session_known registry name account = by_found (account_of registry name) where
  by_right : (one : Account) (b : Bool) → cond b (Some one) None ≡ Some account → Some one ≡ Some account
  by_right one true e = e
  by_right one false e = cc

  by_found : (found : Option Account)
      → option_and_then (λ one. cond (has_dtrace one.privs) (Some one) None) found ≡ Some account → found ≡ Some account
  by_found None e = cc
  by_found (Some one) e = by_right one (has_dtrace one.privs) e
