use Rattle.std.proofs.Common.{ℕ, List, [], ◌∷◌, ◌++◌, take, sym, subst}
use Rattle.std.specs.Prelude.{Option, IfSome, IfNone}
use Rattle.std.specs.Io.KnownBytes.{Appends}
use Rattle.dt_hub.specs.Asking.{answer_text}
use Rattle.dt_proto.specs.Asked.{form_lent}
use Rattle.dt_server.specs.declared.ended.Ended.{Ended}
use Rattle.dt_server.specs.Talk.{ServesOn, ServesToEnd}
use Rattle.dt_server.proofs.Talking.{told, cut, answered_none, answered_some}
use Rattle.dt_server.proofs.session.answer_line.Goals as goal

pub returns-then-push_all-clause-none : goal.returns-then-push_all-clause-none
returns-then-push_all-clause-none g c =
    let account = c.args.session.now.account in
    let contents = g.J.Traced.contents in
    let before = c.args.session.now.knows in
    let after = c.ask_line-answer.new.session.knows in
    let form = form_lent c.args.line in
    let old = g.W.Sink.contents c.args.sink.now in
    let new = g.W.Sink.contents c.push_all.new.sink in
    let P : Option Ended → Type 0 = λ o. IfNone o ((text : List ℕ) × Appends old new text
    × ServesOn account contents before after (form ∷ []) text) in
    let Q : List ℕ → Type 0 = λ t. Appends old new t in
    subst P (sym c.ended_by.ensures) (answered_none account contents c.ask_line-answer.result before after form old new
    c.ask_line-answer.ensures.asked (subst Q c.text.ensures (c.push_all.ensures.yes c.if-push_all.true)))

pub returns-then-push_all-clause-some : goal.returns-then-push_all-clause-some
returns-then-push_all-clause-some g c =
    let account = c.args.session.now.account in
    let contents = g.J.Traced.contents in
    let before = c.args.session.now.knows in
    let after = c.ask_line-answer.new.session.knows in
    let form = form_lent c.args.line in
    let old = g.W.Sink.contents c.args.sink.now in
    let new = g.W.Sink.contents c.push_all.new.sink in
    let P : Option Ended → Type 0 = λ o. IfSome o (λ e. (text : List ℕ) × Appends old new text
    × ServesToEnd account contents e before after (form ∷ []) text) in
    let Q : List ℕ → Type 0 = λ t. Appends old new t in
    subst P (sym c.ended_by.ensures) (answered_some account contents c.ask_line-answer.result before after form old new
    c.ask_line-answer.ensures.asked (subst Q c.text.ensures (c.push_all.ensures.yes c.if-push_all.true)))

pub returns-clause-some : goal.returns-clause-some
returns-clause-some g c =
    let account = c.args.session.now.account in
    let contents = g.J.Traced.contents in
    let before = c.args.session.now.knows in
    let after = c.ask_line-answer.new.session.knows in
    let form = form_lent c.args.line in
    let old = g.W.Sink.contents c.args.sink.now in
    let new = g.W.Sink.contents c.push_all.new.sink in
    let reply = c.ask_line-answer.result in
    let P : List ℕ → Type 0 = λ t. (n : ℕ) × Appends old new (take n t) in
    let written = subst P c.text.ensures (c.push_all.ensures.no c.if-push_all.false) in (
      take written.0 (answer_text reply),
      written.1,
      λ lines text served.
          cut account contents reply (lines ++ form ∷ []) after text written.0
          (told account contents reply lines before after text form served c.ask_line-answer.ensures.asked),
    )
