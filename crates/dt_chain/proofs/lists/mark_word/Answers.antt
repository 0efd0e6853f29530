-- The probe that is taken out of the word is marked.
use Rattle.std.proofs.Common.{◌≡◌, ◌*◌, ◌+◌, ◌%◌, ◌&&◌, not, set, cond, arith, sym, ◌∙◌, ⊎_elim, ◌≢◌, subst, ℕ}
use Rattle.std.proofs.lemmas.Bool.{cases_eq}
use Rattle.dt_machine.specs.BitWord.{has_bit, is_in_word}
use Rattle.dt_chain.specs.Listed.{is_listed_for}
use Rattle.dt_chain.proofs.Listing.{changed_one}
use Rattle.dt_chain.proofs.Marking.{in_its_word, marked_here, marked_before, was_left}
use Rattle.dt_chain.proofs.lists.mark_word.Goals as goal

pub bounds-lists-at : goal.bounds-lists-at
bounds-lists-at c =
    let first = c.in-Some.ensures in
    let up = c.loop-number.invariant.left c.in-Some.number first.1 in
    let within = c.requires.within _ (in_its_word c.args.at c.in-Some.number c.args.word first.0 up) in
    omega (arith, within)

pub loop-number-preserved : goal.loop-number-preserved
loop-number-preserved c =
    let step = c.loop-number in
    let first = c.in-Some.ensures in
    let number = c.in-Some.number in
    let up = step.invariant.left number first.1 in
    let probe : ℕ = c.args.at * 64 + number in
    let within = c.requires.within _ (in_its_word c.args.at number c.args.word first.0 up) in
    let changed = changed_one step.lists probe c.args.seat c.args.is_in c.set.new.self _ (omega (arith, within)) c.set.ensures in
    record {
      left = λ k still. step.invariant.left k (was_left _ (has_bit step.left k) (sym (first.3 k) ∙ still));
      own = λ other.
          ⊎_elim
          (λ (e : other ≡ probe).
          let P : ℕ → Type 0 = λ p. is_listed_for (set step.lists probe c.set.new.self) p c.args.seat
          ≡ cond (is_in_word c.args.at c.args.word p && not (has_bit c.pop_first.new.self (p % 64))) c.args.is_in
          (is_listed_for c.args.lists.now p c.args.seat) in
          subst P (sym e) (changed.own
          ∙ marked_here c.args.at number c.args.word step.left c.pop_first.new.self c.args.is_in _ first.3 first.0 up))
          (λ (ne : other ≢ probe).
          changed.elsewhere other c.args.seat ne ∙ step.invariant.own other
          ∙ marked_before c.args.at number c.args.word step.left c.pop_first.new.self c.args.is_in _ first.3 other ne first.0)
          (cases_eq other probe);
      others = λ at other ne. changed.others at other ne ∙ step.invariant.others at other ne;
    }
