-- What the proof of `PatternToken::split_first` is told at its goals.
use Rattle.std.proofs.Common.{◌≡◌, ◌≢◌, ℕ, ◌∙◌, ap, sym, ◌++◌}
use Rattle.dt_glob.specs.declared.sign.PatternSign.{PatternSign}
use Rattle.dt_glob.specs.declared.sign.PatternSign.TheVariants.{Plain}
use Rattle.dt_glob.specs.Sign.{byte_of, sign_text, star, question, opening_bracket}
use Rattle.dt_glob.specs.laws.Signs.{escaped_apart}
use Rattle.dt_glob.proofs.TokenLemmas.{no_spelling, star_read, question_read, literal_read, set_read, set_token}
use Rattle.dt_glob.proofs.token.PatternToken.split_first.Goals as goal
use Rattle.dt_glob.proofs.token.PatternToken.split_first.Goals.{in_default-via-in-Plain+in_default, in_default-via-in_default}

pub returns-in_err-sign-clause-none : goal.returns-in_err-sign-clause-none
returns-in_err-sign-clause-none c =
    rw c.from_residual.ensures (no_spelling c.args.text.now c.requires.0 c.in_err-sign.ensures.none c.requires.1)

pub returns-in-Plain-eq42-clause-some : goal.returns-in-Plain-eq42-clause-some
returns-in-Plain-eq42-clause-some c items h =
    let sign : c.in_ok-sign.sign ≡ star =
    c.in-Plain-eq42.is ∙ ap Plain (sym c.in-Plain-eq42.field-0-is ∙ c.in-Plain-eq42.field-0-test) in
    star_read c.args.text.now c.in_ok-sign.rest.now items
    (c.in_ok-sign.ensures.some.1 ∙ ap (λ (s : PatternSign). sign_text s ++ c.in_ok-sign.rest.now) sign) h

pub returns-in-Plain-eq63-clause-some : goal.returns-in-Plain-eq63-clause-some
returns-in-Plain-eq63-clause-some c items h =
    let sign : c.in_ok-sign.sign ≡ question =
    c.in-Plain-eq63.is ∙ ap Plain (sym c.in-Plain-eq63.field-0-is ∙ c.in-Plain-eq63.field-0-test) in
    question_read c.args.text.now c.in_ok-sign.rest.now items
    (c.in_ok-sign.ensures.some.1 ∙ ap (λ (s : PatternSign). sign_text s ++ c.in_ok-sign.rest.now) sign) h

pub split_set-requires : goal.split_set-requires
split_set-requires c =
    let sign : c.in_ok-sign.sign ≡ opening_bracket =
    c.in-Plain-eq91.is ∙ ap Plain (sym c.in-Plain-eq91.field-0-is ∙ c.in-Plain-eq91.field-0-test) in
    let opens = c.in_ok-sign.ensures.some.1 ∙ ap (λ (s : PatternSign). sign_text s ++ c.in_ok-sign.rest.now) sign in
    let r = set_read c.args.text.now c.in_ok-sign.rest.now c.requires.0 opens c.requires.1 in
    (r.negated, r.elements, r.behind, r.begins)

pub returns-in-Plain-eq91-clause-some : goal.returns-in-Plain-eq91-clause-some
returns-in-Plain-eq91-clause-some c items h =
    let sign : c.in_ok-sign.sign ≡ opening_bracket =
    c.in-Plain-eq91.is ∙ ap Plain (sym c.in-Plain-eq91.field-0-is ∙ c.in-Plain-eq91.field-0-test) in
    let opens = c.in_ok-sign.ensures.some.1 ∙ ap (λ (s : PatternSign). sign_text s ++ c.in_ok-sign.rest.now) sign in
    let r = set_read c.args.text.now c.in_ok-sign.rest.now items opens h in
    let set = c.split_set.ensures.set r.negated r.elements r.behind r.begins in
    set_token c.split_set.result.0 c.in_ok-sign.rest.now items c.split_set.result.1.now r set.0 set.1

pub returns-in_default-clause-some : goal.returns-in_default-clause-some
returns-in_default-clause-some c items h =
    let f = c.in_ok-sign.ensures.some in
    rw c.byte.ensures (elim c.in_default.branch [
      | in_default-via-in-Plain+in_default w ↦
          let tests = w.in_default.field-0-test in
          let byte : (own : ℕ) → c.in_ok-sign.sign ≡ Plain own → w.in_default.field-0 ≡ own =
          λ own e. ap byte_of (sym w.in_default.is ∙ e) in
          literal_read c.args.text.now c.in_ok-sign.sign c.in_ok-sign.rest.now items f.0 f.1
          (λ e. tests.0.0.1 (w.in_default.field-0-is ∙ byte 42 e))
          (λ e. tests.0.1 (w.in_default.field-0-is ∙ byte 63 e)) (λ e. tests.1 (w.in_default.field-0-is ∙ byte 91 e)) h
      | in_default-via-in_default w ↦
          let no : (own : ℕ) → c.in_ok-sign.sign ≢ Plain own =
          λ own e. escaped_apart w.in_default.field-0 own (sym w.in_default.is ∙ e) in
          literal_read c.args.text.now c.in_ok-sign.sign c.in_ok-sign.rest.now items f.0 f.1 (no 42) (no 63) (no 91) h
    ])
