-- What was read goes on with the next lexeme, or stops there.
use Rattle.std.proofs.Common.{None, Some, Err, Result, sym, subst}
use Rattle.dt_lang.specs.declared.fault.LangFault.{LangFault}
use Rattle.dt_lang.specs.declared.mode.LexerMode.{LexerMode}
use Rattle.dt_lang.specs.declared.mode.LexerMode.TheVariants.{Head}
use Rattle.dt_program.specs.declared.program.Program.{Program}
use Rattle.dt_lang.specs.machine.ClauseState.{ProgramState}
use Rattle.dt_lang.specs.machine.ReaderView.{AnsweredText, program_state_of}
use Rattle.dt_lang.proofs.ParseLemmas.{SoFar, so_far_first, so_far_on, so_far_refused, so_far_overlong, so_far_stray}
use Rattle.dt_lang.proofs.ParseLemmas.{so_far_end, answers_is}
use Rattle.dt_lang.proofs.parse.read.Goals as goal

pub tokens-init : goal.tokens-init
tokens-init c = subst (λ (s : ProgramState). SoFar c.args.text.now Head 0 s) (sym c.requires)
    (so_far_first c.args.text.now)

pub returns-in-Some : goal.returns-in-Some
returns-in-Some c =
    let a = answers_is _ _ c.in-Token.token _ (Some c.in-Some.refusal) c.in-Some.is c.in_ok-refusal-in-Token.ensures in
    let r = so_far_refused c.args.text.now c.tokens.mode c.tokens.from (program_state_of c.tokens.reader)
    c.tokens.invariant
    c.in-Token.token c.in-Token.at c.in-Token.end c.in-Some.refusal (program_state_of c.push.new.self)
    c.in-Token.ensures.lexes a in
    subst (λ (x : LangFault). AnsweredText c.args.text.now (Err x)) (sym c.fault.ensures) r

pub tokens-preserved : goal.tokens-preserved
tokens-preserved c =
    let a = answers_is _ _ c.in-Token.token _ None c.in_default.is c.in_ok-refusal-in-Token.ensures in
    let r = so_far_on c.args.text.now c.tokens.mode c.tokens.from (program_state_of c.tokens.reader) c.tokens.invariant
    c.in-Token.token c.in-Token.at c.in-Token.end (program_state_of c.push.new.self) c.in-Token.ensures.lexes
    c.in-Token.ensures.within a in
    subst (λ (m : LexerMode). SoFar c.args.text.now m c.in-Token.end (program_state_of c.push.new.self))
    (sym c.after-after.ensures) r

pub returns-in-Overlong : goal.returns-in-Overlong
returns-in-Overlong c =
    so_far_overlong c.args.text.now c.tokens.mode c.tokens.from (program_state_of c.tokens.reader) c.tokens.invariant
    c.in-Overlong.at c.in-Overlong.end c.in-Overlong.limit c.in-Overlong.ensures.lexes

pub returns-in-Stray : goal.returns-in-Stray
returns-in-Stray c =
    so_far_stray c.args.text.now c.tokens.mode c.tokens.from (program_state_of c.tokens.reader) c.tokens.invariant
    c.in-Stray.at c.in-Stray.ensures.lexes

pub returns-in-End : goal.returns-in-End
returns-in-End c =
    let r = so_far_end c.args.text.now c.tokens.mode c.tokens.from (program_state_of c.tokens.reader)
    c.tokens.invariant
    c.in-End.at c.finish.result c.in-End.ensures.lexes c.finish.ensures in
    subst (λ (x : Result Program LangFault). AnsweredText c.args.text.now x) (sym c.ok_or.ensures.value) r
