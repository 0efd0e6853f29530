-- What a state of the reading of programs says of the tokens that were read.
use Rattle.std.proofs.Common.{◌≡◌, ℕ, Bool, true, false, List, [], ◌∷◌, ◌++◌, length, Some, None, refl, ap, Ok}
use Rattle.std.proofs.Common.{append_assoc, append-nil, ℤ}
use Rattle.dt_expr.specs.Form.{Form}
use Rattle.dt_program.specs.Description.{form_of_description}
use Rattle.dt_program.specs.declared.description.Description.{Description}
use Rattle.dt_lang.specs.declared.token.Sign.TheVariants as sign
use Rattle.dt_lang.specs.declared.token.Token.{Token}
use Rattle.dt_lang.specs.declared.token.Token.TheVariants as token
use Rattle.dt_lang.specs.declared.word.Action.{Action}
use Rattle.dt_lang.specs.declared.word.Action.TheVariants as action
use Rattle.dt_lang.specs.declared.word.Function.TheVariants as function
use Rattle.dt_lang.specs.declared.word.Keyword.TheVariants as keyword
use Rattle.dt_lang.specs.declared.word.Word.TheVariants as word
use Rattle.dt_lang.specs.Expression.{ReadsExpr, ReadsLocal}
use Rattle.dt_lang.specs.machine.ExpressionState as expression
use Rattle.dt_lang.specs.Grammar.{a_description, another, always, guarded, keyed, ReadsConstant, ReadsStatement, Spot}
use Rattle.dt_lang.specs.Grammar.{before_statement, after_statement, nothing, stated, separated, a_clause, ReadsClauses}
use Rattle.dt_lang.specs.Grammar as grammar
use Rattle.dt_program.specs.Clause.{ArgForm, StatementForm, ClauseForm}
use Rattle.dt_lang.specs.Stand.{HeadStands, BodyStands, TargetStands, Slot, value, divides_in, SlotOpens}
use Rattle.dt_lang.specs.machine.ClauseState.{BoundForm, at_lower, at_upper, at_step, PlaceForm, headed, with_description}
use Rattle.dt_lang.specs.machine.ClauseState.{with_statement}
use Rattle.dt_lang.specs.machine.ClauseState as place

-- a head, of which nothing else is known
pub record HeadRead (ts : List Token) (cs : List ClauseForm) (c : ClauseForm) : Type 0 where
  pub stands : HeadStands ts cs c.descriptions
  pub fresh : c ≡ headed c.descriptions

-- a head and `,`
pub record ListRead (ts : List Token) (cs : List ClauseForm) (c : ClauseForm) : Type 0 where
  pub front : List Token
  pub split : ts ≡ front ++ (token.Sign sign.Comma ∷ [])
  pub head : HeadRead front cs c

-- a head and a predicate
pub record GuardRead (ts : List Token) (cs : List ClauseForm) (c : ClauseForm) : Type 0 where
  pub front : List Token
  pub back : List Token
  pub form : Form
  pub split : ts ≡ front ++ (token.Sign sign.Slash ∷ (back ++ (token.Sign sign.Slash ∷ [])))
  pub stands : HeadStands front cs c.descriptions
  pub reads : ReadsExpr false 0 back form
  pub fresh : c ≡ record { descriptions = c.descriptions; predicate = Some form; statements = [] }

-- these tokens after where a statement may begin
pub record Follows (tail ts : List Token) (cs : List ClauseForm) (c : ClauseForm) : Type 0 where
  pub front : List Token
  pub split : ts ≡ front ++ tail
  pub stands : BodyStands before_statement front cs c

-- these tokens after an aggregation with its keys
pub record FollowsTarget (tail ts : List Token) (cs : List ClauseForm) (c : ClauseForm) (name : List ℕ)
    (keys : List ArgForm) : Type 0 where
  pub front : List Token
  pub split : ts ≡ front ++ tail
  pub stands : TargetStands front cs c name keys

-- a thread-local variable, with these tokens after, after where a statement may begin
pub record FollowsLocal (tail ts : List Token) (cs : List ClauseForm) (c : ClauseForm) (name : List ℕ) : Type 0 where
  pub front : List Token
  pub back : List Token
  pub split : ts ≡ front ++ (back ++ tail)
  pub stands : BodyStands before_statement front cs c
  pub reads : ReadsLocal back name

-- a statement but for its `)`
pub record Closing (ts : List Token) (cs : List ClauseForm) (c : ClauseForm) (s : StatementForm) : Type 0 where
  pub front : List Token
  pub back : List Token
  pub split : ts ≡ front ++ back
  pub stands : BodyStands before_statement front cs c
  pub reads : ReadsStatement (back ++ (token.Sign sign.CloseParen ∷ [])) s

-- what was read for a slot
pub record Within (ts : List Token) (cs : List ClauseForm) (c : ClauseForm) (slot : Slot) (n : ℕ)
    (e : expression.State) : Type 0 where
  pub front : List Token
  pub back : List Token
  pub split : ts ≡ front ++ back
  pub opens : SlotOpens slot front cs c
  pub runs : expression.run (expression.start (divides_in slot)) back ≡ Some e
  pub counts : n ≡ length back

-- bounds up to where one begins
abbrev pub BoundsBegin : BoundForm → List Token → Type 0
BoundsBegin at_lower ts = ts ≡ token.Sign sign.Comma ∷ []
BoundsBegin (at_upper lower) ts =
    (us : List Token) × (ts ≡ token.Sign sign.Comma ∷ (us ++ (token.Sign sign.Comma ∷ []))) × ReadsConstant us lower
BoundsBegin (at_step lower upper) ts =
    (us vs : List Token) × (ts ≡ token.Sign sign.Comma ∷ (us ++ (token.Sign sign.Comma
    ∷ (vs ++ (token.Sign sign.Comma ∷ []))))) × ReadsConstant us lower × ReadsConstant vs upper

-- an `lquantize` up to some of its bounds, with these tokens after
pub record Levels (tail ts : List Token) (cs : List ClauseForm) (c : ClauseForm) (name : List ℕ) (keys : List ArgForm)
    (f : Form) (b : BoundForm) : Type 0 where
  pub front : List Token
  pub middle : List Token
  pub back : List Token
  pub split : ts ≡ front ++ (middle ++ (back ++ tail))
  pub opens : SlotOpens (value name keys function.Lquantize) front cs c
  pub reads : ReadsExpr true 0 middle f
  pub bounds : BoundsBegin b back

-- such an `lquantize` with a constant after
pub record Bounded (ts : List Token) (cs : List ClauseForm) (c : ClauseForm) (name : List ℕ) (keys : List ArgForm)
    (f : Form) (b : BoundForm) (z : ℤ) : Type 0 where
  pub tail : List Token
  pub levels : Levels tail ts cs c name keys f b
  pub reads : ReadsConstant tail z

-- the action that records frames of the kernel's or of the process's stack
abbrev pub stack_action : Bool → Action
stack_action true = action.Ustack
stack_action false = action.Stack

-- the tokens that were read, in a statement
abbrev pub ReadInside : List ClauseForm → ClauseForm → place.InsideForm → List Token → Type 0
ReadInside cs c (place.called a) ts = Follows (token.Word (word.Action a) ∷ []) ts cs c
ReadInside cs c (place.stack_opened process) ts =
    Follows (token.Word (word.Action (stack_action process)) ∷ token.Sign sign.OpenParen ∷ []) ts cs c
ReadInside cs c (place.closing s) ts = Closing ts cs c s
ReadInside cs c (place.named name) ts = Follows (token.Aggregation name ∷ []) ts cs c
ReadInside cs c (place.keyed name keys) ts = TargetStands ts cs c name keys
ReadInside cs c (place.assigned name keys) ts = FollowsTarget (token.Sign sign.Equal ∷ []) ts cs c name keys
ReadInside cs c (place.applied name keys fn) ts =
    FollowsTarget (token.Sign sign.Equal ∷ token.Word (word.Function fn) ∷ []) ts cs c name keys
ReadInside cs c (place.bounding name keys f b) ts = Levels [] ts cs c name keys f b
ReadInside cs c (place.negating name keys f b) ts = Levels (token.Sign sign.Minus ∷ []) ts cs c name keys f b
ReadInside cs c (place.bounded name keys f b z) ts = Bounded ts cs c name keys f b z
ReadInside cs c place.self_read ts = Follows (token.Word (word.Keyword keyword.ThreadLocal) ∷ []) ts cs c
ReadInside cs c place.arrow_read ts =
    Follows (token.Word (word.Keyword keyword.ThreadLocal) ∷ token.Sign sign.Arrow ∷ []) ts cs c
ReadInside cs c (place.variable name) ts = FollowsLocal [] ts cs c name
ReadInside cs c (place.drawing name) ts =
    FollowsLocal (token.Sign sign.Equal ∷ token.Word (word.Keyword keyword.Speculation) ∷ []) ts cs c name

-- the tokens that were read
abbrev pub ReadAt : List ClauseForm → ClauseForm → PlaceForm → List Token → Type 0
ReadAt cs c place.outside ts = ReadsClauses ts cs
ReadAt cs c place.described ts = HeadRead ts cs c
ReadAt cs c place.listed ts = ListRead ts cs c
ReadAt cs c place.guarded ts = GuardRead ts cs c
ReadAt cs c (place.body spot) ts = BodyStands spot ts cs c
ReadAt cs c (place.inside p) ts = ReadInside cs c p ts
ReadAt cs c (place.within slot n e) ts = Within ts cs c slot n e

abbrev pub Read : place.ProgramState → List Token → Type 0
Read s ts = ReadAt s.clauses s.clause s.place ts

-- two ways to split tokens whose last is the same
pub split_last : (ts front back : List Token) (t : Token) → ts ≡ front ++ back
    → ts ++ (t ∷ []) ≡ front ++ (back ++ (t ∷ []))
split_last ts front back t e = rw e (append_assoc front back (t ∷ []))

pub split_two : (ts front back us : List Token) → ts ≡ front ++ back → ts ++ us ≡ front ++ (back ++ us)
split_two ts front back us e = rw e (append_assoc front back us)

pub split_three : (ts front back mid us vs : List Token) → ts ≡ front ++ back → front ≡ mid ++ us
    → ts ++ vs ≡ mid ++ (us ++ (back ++ vs))
split_three ts front back mid us vs e f = rw (e, f) (simp append_assoc)

pub split_four : (ts front mid back us vs : List Token) → ts ≡ front ++ (mid ++ (back ++ us))
    → ts ++ vs ≡ front ++ (mid ++ (back ++ (us ++ vs)))
split_four ts front mid back us vs e = rw e (simp append_assoc)

pub split_levels : (ts front mid back tail first us vs : List Token) → ts ≡ front ++ (mid ++ (back ++ tail))
    → front ≡ first ++ us → ts ++ vs ≡ first ++ (us ++ (mid ++ ((back ++ tail) ++ vs)))
split_levels ts front mid back tail first us vs e f = rw (e, f) (simp append_assoc)

pub split_value : (ts front back first us : List Token) (t : Token) → ts ≡ front ++ back
    → front ≡ first ++ (us ++ (t ∷ [])) → ts ≡ first ++ (us ++ (t ∷ back))
split_value ts front back first us t e f = rw (e, f) (simp append_assoc)

pub split_draw : (ts front back first us : List Token) (t u : Token) → ts ≡ front ++ back → back ≡ []
    → front ≡ first ++ (us ++ (t ∷ [])) → ts ++ (u ∷ []) ≡ first ++ (us ++ (t ∷ u ∷ []))
split_draw ts front back first us t u e f g = rw (e, f, g) (simp (append_assoc, append-nil))

-- heads
pub head_begins : (ts : List Token) (cs : List ClauseForm) (d : Description) → ReadsClauses ts cs
    → HeadRead (ts ++ (token.Description (Ok d) ∷ [])) cs (headed (form_of_description d ∷ []))
head_begins ts cs d h = record {
  stands = record {
    clauses = ts;
    head = token.Description (Ok d) ∷ [];
    split = refl;
    before = h;
    reads = a_description d;
  };
  fresh = refl;
}

pub head_goes_on : (ts : List Token) (cs : List ClauseForm) (c : ClauseForm) (d : Description) → ListRead ts cs c
    → HeadRead (ts ++ (token.Description (Ok d) ∷ [])) cs (with_description c (form_of_description d))
head_goes_on ts cs c d h =
    let s = h.head.stands in
    let p : c.predicate ≡ None = ap (λ (x : ClauseForm). x.predicate) h.head.fresh in
    let q : c.statements ≡ [] = ap (λ (x : ClauseForm). x.statements) h.head.fresh in
    record {
      stands = record {
        clauses = s.clauses;
        head = s.head ++ (token.Sign sign.Comma ∷ token.Description (Ok d) ∷ []);
        split = rw (h.split, s.split) (simp append_assoc);
        before = s.before;
        reads = another s.head c.descriptions d s.reads;
      };
      fresh = rw (p, q) refl;
    }

-- bodies
pub body_begins : (ts : List Token) (cs : List ClauseForm) (c : ClauseForm) → HeadRead ts cs c
    → BodyStands before_statement (ts ++ (token.Sign sign.OpenBrace ∷ [])) cs c
body_begins ts cs c h =
    let s = h.stands in
    let p : c.predicate ≡ None = ap (λ (x : ClauseForm). x.predicate) h.fresh in
    let q : c.statements ≡ [] = ap (λ (x : ClauseForm). x.statements) h.fresh in
    record {
      clauses = s.clauses;
      opening = s.head ++ (token.Sign sign.OpenBrace ∷ []);
      body = [];
      split = rw s.split (simp (append_assoc, append-nil));
      before = s.before;
      reads_opening = rw p (always s.head c.descriptions s.reads);
      reads = rw q nothing;
    }

pub guarded_body_begins : (ts : List Token) (cs : List ClauseForm) (c : ClauseForm) → GuardRead ts cs c
    → BodyStands before_statement (ts ++ (token.Sign sign.OpenBrace ∷ [])) cs c
guarded_body_begins ts cs c h =
    let s = h.stands in
    let p : c.predicate ≡ Some h.form = ap (λ (x : ClauseForm). x.predicate) h.fresh in
    let q : c.statements ≡ [] = ap (λ (x : ClauseForm). x.statements) h.fresh in
    record {
      clauses = s.clauses;
      opening = s.head ++ (token.Sign sign.Slash
          ∷ (h.back ++ (token.Sign sign.Slash ∷ token.Sign sign.OpenBrace ∷ [])));
      body = [];
      split = rw (h.split, s.split) (simp (append_assoc, append-nil));
      before = s.before;
      reads_opening = rw p (guarded s.head h.back c.descriptions h.form s.reads h.reads);
      reads = rw q nothing;
    }

pub body_separated : (spot : Spot) (ts : List Token) (cs : List ClauseForm) (c : ClauseForm)
    → BodyStands spot ts cs c → BodyStands before_statement (ts ++ (token.Sign sign.Semicolon ∷ [])) cs c
body_separated spot ts cs c h = record {
  clauses = h.clauses;
  opening = h.opening;
  body = h.body ++ (token.Sign sign.Semicolon ∷ []);
  split = rw h.split (simp append_assoc);
  before = h.before;
  reads_opening = h.reads_opening;
  reads = separated spot h.body c.statements h.reads;
}

pub body_stated : (ts front us : List Token) (cs : List ClauseForm) (c : ClauseForm) (s : StatementForm)
    → ts ≡ front ++ us → BodyStands before_statement front cs c → ReadsStatement us s
    → BodyStands after_statement ts cs (with_statement c s)
body_stated ts front us cs c s e h k = record {
  clauses = h.clauses;
  opening = h.opening;
  body = h.body ++ us;
  split = rw (e, h.split) (simp append_assoc);
  before = h.before;
  reads_opening = h.reads_opening;
  reads = stated h.body us c.statements s h.reads k;
}

pub body_closed : (spot : Spot) (ts : List Token) (cs : List ClauseForm) (c : ClauseForm) → BodyStands spot ts cs c
    → ReadsClauses (ts ++ (token.Sign sign.CloseBrace ∷ [])) (cs ++ (c ∷ []))
body_closed spot ts cs c h =
    let k = a_clause spot h.opening h.body c.descriptions c.predicate c.statements h.reads_opening h.reads in
    let all : ReadsClauses (h.clauses ++ (h.opening ++ (h.body ++ (token.Sign sign.CloseBrace ∷ [])))) (cs ++ (c ∷ []))
    = grammar.another h.clauses (h.opening ++ (h.body ++ (token.Sign sign.CloseBrace ∷ []))) cs c h.before k in
    let e : ts ++ (token.Sign sign.CloseBrace ∷ []) ≡ h.clauses
    ++ (h.opening ++ (h.body ++ (token.Sign sign.CloseBrace ∷ [])))
    = rw h.split (simp append_assoc) in
    rw e all
