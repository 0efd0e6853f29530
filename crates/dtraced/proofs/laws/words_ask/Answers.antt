-- What words ask for that are written out: clap's definitions are worked out on them.
use Rattle.std.proofs.Common.{◌≡◌, Bool, true, false, List, [], ◌∷◌, Some, codes, refl, sym, ap, arith}
use Rattle.std.specs.Fmt.{decimal, digits}
use Rattle.std.specs.Option.{option_map_or}
use Rattle.clap.specs.Words.{Row, Text, fault_of, subcommand_of}
use Rattle.clap.proofs.OnLiterals.{clap_on_literals}
use Rattle.dtraced.specs.Words.{Asks, program}
use Rattle.dtraced.specs.declared.words.Words.{Words}
use Rattle.dtraced.proofs.laws.words_ask.Goals as goal

-- the values that a subcommand is given
abbrev given_by : List Text → List Row
given_by words = option_map_or (λ p. p.1) (subcommand_of program words) []

abbrev is_nothing : {A : Type 0} → List A → Bool
is_nothing [] = true
is_nothing (x ∷ xs) = false

abbrev replayed : List Text
replayed = codes "dtraced" ∷ codes "replay" ∷ codes "m" ∷ []

abbrev followed : List Text
followed = codes "dtraced" ∷ codes "replay" ∷ codes "m" ∷ codes "--trail" ∷ codes "5" ∷ []

abbrev checked : List Text
checked = codes "dtraced" ∷ codes "check" ∷ codes "m" ∷ codes "t" ∷ []

abbrev served : List Text
served = codes "dtraced" ∷ codes "serve" ∷ codes "m" ∷ codes "f" ∷ []

abbrev sent : List Text
sent = codes "dtraced" ∷ codes "send" ∷ codes "p" ∷ []

-- a seat's digits
five : codes "5" ≡ decimal 5
unfolding digits
five = refl

pub returns-clause-replay : goal.returns-clause-replay
unfolding clap_on_literals
returns-clause-replay c = λ machine is. record {
  faultless = refl;
  given = given_by replayed;
  named = refl;
  values = (ap Some (sym is), tt);
}

pub returns-clause-trail : goal.returns-clause-trail
unfolding clap_on_literals
returns-clause-trail c = λ machine is. record {
  faultless = refl;
  given = given_by followed;
  named = refl;
  values = (ap Some (sym is), record { within = omega arith; spelled = five });
}

pub returns-clause-check : goal.returns-clause-check
unfolding clap_on_literals
returns-clause-check c = λ machine trail is told. record {
  faultless = refl;
  given = given_by checked;
  named = refl;
  values = (ap Some (sym is), ap Some (sym told));
}

pub returns-clause-serve : goal.returns-clause-serve
unfolding clap_on_literals
returns-clause-serve c = λ machine folder is told. record {
  faultless = refl;
  given = given_by served;
  named = refl;
  values = (ap Some (sym is), ap Some (sym told));
}

pub returns-clause-send : goal.returns-clause-send
unfolding clap_on_literals
returns-clause-send c = λ path is. record {
  faultless = refl;
  given = given_by sent;
  named = refl;
  values = ap Some (sym is);
}

-- where a fault is found, nothing is asked for
refused : (words : List Text) (asked : Words) → is_nothing (fault_of program words) ≡ false → Asks words asked → ⊥
refused words asked found h =
    let none : is_nothing (fault_of program words) ≡ true = ap is_nothing h.faultless in
    cc

pub returns-clause-no_trail : goal.returns-clause-no_trail
unfolding clap_on_literals
returns-clause-no_trail c = λ asked h. refused (codes "dtraced" ∷ codes "check" ∷ codes "m" ∷ []) asked refl h

pub returns-clause-no_folder : goal.returns-clause-no_folder
unfolding clap_on_literals
returns-clause-no_folder c = λ asked h. refused (codes "dtraced" ∷ codes "serve" ∷ codes "m" ∷ []) asked refl h

pub returns-clause-no_path : goal.returns-clause-no_path
unfolding clap_on_literals
returns-clause-no_path c = λ asked h. refused (codes "dtraced" ∷ codes "send" ∷ []) asked refl h

pub returns-clause-replay_too_many : goal.returns-clause-replay_too_many
unfolding clap_on_literals
returns-clause-replay_too_many c = λ asked h. refused (codes "dtraced" ∷ codes "replay" ∷ codes "m" ∷ codes "t" ∷ []) asked refl h

pub returns-clause-check_too_many : goal.returns-clause-check_too_many
unfolding clap_on_literals
returns-clause-check_too_many c = λ asked h. refused (codes "dtraced" ∷ codes "check" ∷ codes "m" ∷ codes "t" ∷ codes "u" ∷ []) asked refl h

pub returns-clause-serve_too_many : goal.returns-clause-serve_too_many
unfolding clap_on_literals
returns-clause-serve_too_many c = λ asked h. refused (codes "dtraced" ∷ codes "serve" ∷ codes "m" ∷ codes "f" ∷ codes "u" ∷ []) asked refl h

pub returns-clause-send_too_many : goal.returns-clause-send_too_many
unfolding clap_on_literals
returns-clause-send_too_many c = λ asked h. refused (codes "dtraced" ∷ codes "send" ∷ codes "p" ∷ codes "u" ∷ []) asked refl h
