-- Where in a program tokens end that do not make a whole one: what stands there next, and what was read before.
use Rattle.std.specs.Prelude.{◌≡◌, ◌≢◌, ℕ, Bool, true, false, List, [], ◌∷◌, ◌++◌, None}
use Rattle.dt_program.specs.Description.{DescForm}
use Rattle.dt_lang.specs.declared.token.Sign.TheVariants as sign
use Rattle.dt_lang.specs.declared.token.Token.{Token}
use Rattle.dt_lang.specs.declared.token.Token.TheVariants as token
use Rattle.dt_lang.specs.declared.word.Action.{Action}
use Rattle.dt_lang.specs.declared.word.Function.{Function}
use Rattle.dt_lang.specs.declared.word.Function.TheVariants as function
use Rattle.dt_lang.specs.declared.word.Word.TheVariants as word
use Rattle.dt_program.specs.Clause.{ArgForm, ClauseForm}
use Rattle.dt_lang.specs.Expression.{ReadsLocal}
use Rattle.dt_lang.specs.Grammar.{ReadsHead, ReadsOpening, ReadsKeys, ReadsTarget, TakesNumber, Spot, before_statement, ReadsBody, ReadsClauses}

-- The tokens are whole clauses and a head.
pub record HeadStands (ts : List Token) (cs : List ClauseForm) (ds : List DescForm) : Type 0 where
  pub clauses : List Token
  pub head : List Token
  pub split : ts ≡ clauses ++ head
  pub before : ReadsClauses clauses cs
  pub reads : ReadsHead head ds

-- The tokens are whole clauses and another up to such a spot of its body; `c` is what was read of it.
pub record BodyStands (spot : Spot) (ts : List Token) (cs : List ClauseForm) (c : ClauseForm) : Type 0 where
  pub clauses : List Token
  pub opening : List Token
  pub body : List Token
  pub split : ts ≡ clauses ++ (opening ++ body)
  pub before : ReadsClauses clauses cs
  pub reads_opening : ReadsOpening opening c.descriptions c.predicate
  pub reads : ReadsBody spot body c.statements

-- The tokens end with an aggregation's name, `[`, and these keys.
pub record KeysStand (ts : List Token) (cs : List ClauseForm) (c : ClauseForm) (name : List ℕ) (keys : List ArgForm) :
    Type 0 where
  pub front : List Token
  pub back : List Token
  pub split : ts ≡ front ++ (token.Aggregation name ∷ token.Sign sign.OpenBracket ∷ back)
  pub stands : BodyStands before_statement front cs c
  pub reads : ReadsKeys back keys

-- The tokens end with an aggregation's name and all its keys.
pub record TargetStands (ts : List Token) (cs : List ClauseForm) (c : ClauseForm) (name : List ℕ) (keys : List ArgForm) :
    Type 0 where
  pub front : List Token
  pub back : List Token
  pub split : ts ≡ front ++ back
  pub stands : BodyStands before_statement front cs c
  pub reads : ReadsTarget back name keys

-- what an expression or a text is read for
pub data Slot : Type 0 where
  predicate : Slot
  given : Action → Slot
  key : (name : List ℕ) (before : List ArgForm) → Slot
  value : (name : List ℕ) (keys : List ArgForm) → Function → Slot
  assignment : (name : List ℕ) → Slot

-- whether `/` is an operator there, outside parentheses
abbrev pub divides_in : Slot → Bool
divides_in predicate = false
divides_in _ = true

-- The tokens end where this begins: a predicate, an argument, a key, or what an aggregation or a variable is given.
pub data SlotOpens : Slot → List Token → List ClauseForm → ClauseForm → Type 0 where
  a_predicate : (ts : List Token) (cs : List ClauseForm) (ds : List DescForm) → HeadStands ts cs ds
      → SlotOpens predicate (ts ++ (token.Sign sign.Slash ∷ [])) cs
      (record { descriptions = ds; predicate = None; statements = [] })
  an_argument : (ts : List Token) (cs : List ClauseForm) (c : ClauseForm) (a : Action) → TakesNumber a
      → BodyStands before_statement ts cs c
      → SlotOpens (given a) (ts ++ (token.Word (word.Action a) ∷ token.Sign sign.OpenParen ∷ [])) cs c
  first_key : (ts : List Token) (cs : List ClauseForm) (c : ClauseForm) (name : List ℕ) → BodyStands before_statement ts cs c
      → SlotOpens (key name []) (ts ++ (token.Aggregation name ∷ token.Sign sign.OpenBracket ∷ [])) cs c
  a_key : (ts : List Token) (cs : List ClauseForm) (c : ClauseForm) (name : List ℕ) (keys : List ArgForm)
      → KeysStand ts cs c name keys → SlotOpens (key name keys) (ts ++ (token.Sign sign.Comma ∷ [])) cs c
  a_value : (ts : List Token) (cs : List ClauseForm) (c : ClauseForm) (name : List ℕ) (keys : List ArgForm) (fn : Function)
      → fn ≢ function.Count → TargetStands ts cs c name keys
      → SlotOpens (value name keys fn)
      (ts ++ (token.Sign sign.Equal ∷ token.Word (word.Function fn) ∷ token.Sign sign.OpenParen ∷ [])) cs c
  a_variable : (ts us : List Token) (cs : List ClauseForm) (c : ClauseForm) (name : List ℕ)
      → BodyStands before_statement ts cs c → ReadsLocal us name
      → SlotOpens (assignment name) (ts ++ (us ++ (token.Sign sign.Equal ∷ []))) cs c
