-- Where in a program a token stands. Guide, Program Structure.
use Rattle.std.specs.Prelude.{ℕ, ◌+◌, ◌-◌, ◌==◌, if◌then◌else◌}
use Rattle.dt_lang.specs.declared.mode.LexerMode.{LexerMode}
use Rattle.dt_lang.specs.declared.mode.LexerMode.TheVariants.{Head, Predicate, Tail, Body}
use Rattle.dt_lang.specs.declared.token.Sign.TheVariants as sign
use Rattle.dt_lang.specs.declared.token.Token.{Token}
use Rattle.dt_lang.specs.declared.token.Token.TheVariants as token

-- a `/` begins the predicate, and a `{` the body
abbrev pub after_in_head : Token → LexerMode
after_in_head (token.Sign sign.Slash) = Predicate 0
after_in_head (token.Sign sign.OpenBrace) = Body
after_in_head _ = Head

-- A `/` outside parentheses ends the predicate.
abbrev pub after_in_predicate : ℕ → Token → LexerMode
after_in_predicate depth (token.Sign sign.OpenParen) = Predicate (depth + 1)
after_in_predicate depth (token.Sign sign.CloseParen) = Predicate (depth - 1)
after_in_predicate depth (token.Sign sign.Slash) = if depth == 0 then Tail else Predicate depth
after_in_predicate depth _ = Predicate depth

abbrev pub after_in_tail : Token → LexerMode
after_in_tail (token.Sign sign.OpenBrace) = Body
after_in_tail _ = Tail

-- a `}` ends the clause
abbrev pub after_in_body : Token → LexerMode
after_in_body (token.Sign sign.CloseBrace) = Head
after_in_body _ = Body

-- the mode after a token
abbrev pub mode_after : LexerMode → Token → LexerMode
mode_after Head t = after_in_head t
mode_after (Predicate depth) t = after_in_predicate depth t
mode_after Tail t = after_in_tail t
mode_after Body t = after_in_body t

-- how many parentheses are open in a mode
abbrev pub depth_of : LexerMode → ℕ
depth_of (Predicate depth) = depth
depth_of _ = 0
