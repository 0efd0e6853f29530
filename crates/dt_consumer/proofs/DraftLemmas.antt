-- What drafts say, case by case.
use Rattle.std.proofs.Common.{◌≡◌, false, List, ◌∷◌, Some, None, Result, Ok, refl, sym, ap, subst}
use Rattle.dt_cred.specs.declared.account.Account.{Account}
use Rattle.dt_machine.specs.Registry.{Registry}
use Rattle.dt_life.specs.Answer.{refused, answer_of}
use Rattle.dt_life.specs.Ask.{Ask}
use Rattle.dt_consumer.specs.Draft.{Drafted, IsDraftOf}
use Rattle.dt_life.specs.Acceptance.{is_close}
use Rattle.dt_life.specs.Life.{Item, asked, SetUp, is_over, set_up}
use Rattle.dt_life.specs.Reply.{RepliesInQuota, IsVerdictOnCommand, Accepted}
use Rattle.dt_consumer.specs.declared.draft.Change.TheVariants.{Counted}
use Rattle.dt_consumer.specs.declared.draft.Draft.{Draft}
use Rattle.dt_life.specs.declared.refusal.Refusal.{Refusal}
use Rattle.dt_life.specs.declared.reply.Reply.{Reply}
use Rattle.dt_life.specs.declared.reply.Reply.TheVariants.{Refused}
use Rattle.dt_life.specs.laws.Verdicts.{accepted_reply, in_quota}

module _ (account : Account) (registry : Registry) (life : List Item) where
  abbrev now : SetUp
  now = set_up account registry life

  -- a refused line: counted, and nothing else
  pub refused_draft : (line : Result Ask Refusal) (refusal : Refusal) (draft : Draft)
      → draft.reply ≡ Refused refusal → draft.change ≡ Counted → is_over life ≡ false
      → RepliesInQuota account registry life line (refused refusal)
      → set_up account registry (asked line ∷ life) ≡ now → is_close line ≡ false
      → IsDraftOf account registry life line draft
  refused_draft line refusal draft reply change fresh replies idle goes_on = record {
    replies =
        in_quota account registry life line (answer_of draft.reply) fresh
        (subst (RepliesInQuota account registry life line) (sym (ap answer_of reply)) replies);
    makes = subst (Drafted account registry life line) (sym change) (fresh, idle, goes_on);
  }

  -- a command that is refused
  pub refused_by : (ask : Ask) (refusal : Refusal) (draft : Draft)
      → draft.reply ≡ Refused refusal → draft.change ≡ Counted → is_over life ≡ false
      → IsVerdictOnCommand account registry life ask (Some refusal)
      → set_up account registry (asked (Ok ask) ∷ life) ≡ now → is_close (Ok ask) ≡ false
      → IsDraftOf account registry life (Ok ask) draft
  refused_by ask refusal draft reply change fresh verdict idle goes_on =
      refused_draft (Ok ask) refusal draft reply change fresh (Some refusal, verdict, refl) idle goes_on

  -- a command that is answered, counted, and changes nothing else
  pub told_draft : (ask : Ask) (reply : Reply) → is_over life ≡ false
      → IsVerdictOnCommand account registry life ask None → Accepted account registry life ask (answer_of reply)
      → set_up account registry (asked (Ok ask) ∷ life) ≡ now → is_close (Ok ask) ≡ false
      → IsDraftOf account registry life (Ok ask) (record { reply = reply; change = Counted })
  told_draft ask reply fresh verdict accepted idle goes_on = record {
    replies = in_quota account registry life (Ok ask) (answer_of reply) fresh (accepted_reply account registry life ask (answer_of reply) verdict accepted);
    makes = (fresh, idle, goes_on);
  }

  -- a command whose reply is the definition's, counted, and that changes nothing else
  pub counted_draft : (ask : Ask) (reply : Reply) → is_over life ≡ false
      → RepliesInQuota account registry life (Ok ask) (answer_of reply)
      → set_up account registry (asked (Ok ask) ∷ life) ≡ now → is_close (Ok ask) ≡ false
      → IsDraftOf account registry life (Ok ask) (record { reply = reply; change = Counted })
  counted_draft ask reply fresh replies idle goes_on = record {
    replies = in_quota account registry life (Ok ask) (answer_of reply) fresh replies;
    makes = (fresh, idle, goes_on);
  }
