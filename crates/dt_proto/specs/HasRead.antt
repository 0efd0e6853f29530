-- What is held after some bytes were fed.
use Rattle.std.specs.Prelude.{◌≡◌, ℕ, Bool, true, false, List, [], ◌∷◌, ◌++◌, MatchBool, if◌then◌else◌}
use Rattle.dt_proto.specs.Lines.{LineForm, short_line, long_line, line_form, lines_of, rest_of}
use Rattle.dt_proto.specs.declared.lines.Lines.{Lines}

abbrev pub is_whole : Lines → Bool
is_whole lines = lines.whole

-- the line, as far as it came: its bytes, or that it is long
abbrev pub form_held : Lines → LineForm
form_held lines = if lines.long then long_line else short_line lines.kept.items

-- The input ends with the newline of a line of this form.
pub record EndsWithLine (input : List ℕ) (form : LineForm) : Type 0 where
  pub earlier : List LineForm
  pub last : lines_of input ≡ earlier ++ form ∷ []
  pub nothing_after : rest_of input ≡ []

-- The bytes fed so far are these: the line that has become whole with the last of them is held, or else the rest.
abbrev pub HasRead : List ℕ → Lines → Type 0
HasRead input lines =
    MatchBool (is_whole lines) (EndsWithLine input (form_held lines)) (form_held lines ≡ line_form (rest_of input))

-- the line that has become whole, where one has
abbrev pub line_given : Bool → LineForm → List LineForm
line_given true form = form ∷ []
line_given false form = []
