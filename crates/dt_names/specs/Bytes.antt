-- The bytes that have a meaning in texts, by their names.
use Rattle.std.specs.Prelude.{ℕ}

-- a horizontal tab
abbrev pub tab : ℕ
tab = 9

-- a newline
abbrev pub newline : ℕ
newline = 10

-- a carriage return
abbrev pub carriage_return : ℕ
carriage_return = 13

-- a space
abbrev pub space : ℕ
space = 32

-- `!`, the first visible one
abbrev pub exclamation_mark : ℕ
exclamation_mark = 33

-- `"`
abbrev pub quote : ℕ
quote = 34

-- `*`
abbrev pub asterisk : ℕ
asterisk = 42

-- `,`
abbrev pub comma : ℕ
comma = 44

-- `-`
abbrev pub hyphen : ℕ
hyphen = 45

-- `/`
abbrev pub slash : ℕ
slash = 47

-- `0`
abbrev pub zero_digit : ℕ
zero_digit = 48

-- `9`
abbrev pub nine_digit : ℕ
nine_digit = 57

-- `:`
abbrev pub colon : ℕ
colon = 58

-- `@`
abbrev pub at_sign : ℕ
at_sign = 64

-- `X`
abbrev pub capital_x : ℕ
capital_x = 88

-- `\`
abbrev pub backslash : ℕ
backslash = 92

-- `_`
abbrev pub underscore : ℕ
underscore = 95

-- `a`
abbrev pub small_a : ℕ
small_a = 97

-- `x`
abbrev pub small_x : ℕ
small_x = 120

-- `z`
abbrev pub small_z : ℕ
small_z = 122

-- `{`
abbrev pub open_brace : ℕ
open_brace = 123

-- `}`
abbrev pub close_brace : ℕ
close_brace = 125

-- `~`, the last visible one
abbrev pub tilde : ℕ
tilde = 126
