-- In a program that was read no statement of a clause excludes a later one.
use Rattle.std.proofs.Common.{◌≡◌, ◌⊎◌, inl, inr, List, [], ◌∷◌, ◌++◌, refl, sym, ap, ◌∙◌, subst, append_assoc, append-nil}
use Rattle.std.specs.List.{AllByRecursion, list_any}
use Rattle.dt_program.specs.Clause.{StatementForm, ClauseForm}
use Rattle.dt_program.specs.Kinds.{statement_kind, excludes}
use Rattle.dt_lang.specs.declared.fault.Flaw.TheVariants.{Spec}
use Rattle.dt_lang.specs.declared.token.Sign.TheVariants as sign
use Rattle.dt_lang.specs.declared.token.Token.{Token}
use Rattle.dt_lang.specs.declared.token.Token.TheVariants as token
use Rattle.dt_lang.specs.Expression.{a_local}
use Rattle.dt_lang.specs.Grammar.{bare, keyed, ReadsStatement, of_argument, of_stack, of_ustack, aggregating, assigning, drawing}
use Rattle.dt_lang.specs.Grammar.{Spot, before_statement, ReadsBody, nothing, stated, separated, ReadsClause, a_clause, ReadsClauses}
use Rattle.dt_lang.specs.Grammar as grammar
use Rattle.dt_lang.specs.Refused.{because, NoneRefused}
use Rattle.dt_lang.specs.Together.{StandTogether}
use Rattle.dt_lang.specs.laws.Runs.{truth_of}
use Rattle.dt_lang.specs.laws.WrittenTokens.{joined_all}

-- where a list with a last element is split: at this, or before it
record SplitBefore {A : Type 0} (xs front : List A) (x y : A) (back : List A) : Type 0 where
  rest : List A
  is : xs ≡ front ++ (y ∷ rest)

last_or_before : {A : Type 0} (xs front : List A) (x y : A) (back : List A) → xs ++ (x ∷ []) ≡ front ++ (y ∷ back)
    → ((xs ≡ front) × (x ≡ y)) ⊎ SplitBefore xs front x y back
last_or_before [] [] x y back e = inl (refl, cc)
last_or_before [] (z ∷ []) x y back e = cc
last_or_before [] (z ∷ w ∷ front) x y back e = cc
last_or_before (u ∷ xs) [] x y back e =
    let same : u ≡ y = cc in inr (record { rest = xs; is = ap (λ z. z ∷ xs) same })
last_or_before (u ∷ xs) (z ∷ front) x y back e =
    let same : u ≡ z = cc in
    let more : xs ++ (x ∷ []) ≡ front ++ (y ∷ back) = cc in
    elim (last_or_before xs front x y back more) [
      | inl k ↦ inl (ap (λ w. w ∷ xs) same ∙ ap (λ ws. z ∷ ws) k.0, k.1)
      | inr k ↦ inr (record { rest = k.rest; is = ap (λ w. w ∷ xs) same ∙ ap (λ ws. z ∷ ws) k.is })
    ]

-- a body up to a statement, the statement, and what comes after it
record StatementIn (ts : List Token) (front : List StatementForm) (later : StatementForm) : Type 0 where
  before : List Token
  us : List Token
  after : List Token
  split : ts ≡ before ++ (us ++ after)
  reads_before : ReadsBody before_statement before front
  reads : ReadsStatement us later

longer : (ts us : List Token) (front : List StatementForm) (later : StatementForm) → StatementIn ts front later
    → StatementIn (ts ++ us) front later
longer ts us front later h = record {
  before = h.before;
  us = h.us;
  after = h.after ++ us;
  split = ap (λ xs. xs ++ us) h.split ∙ simp append_assoc;
  reads_before = h.reads_before;
  reads = h.reads;
}

none_here : {A : Type 0} (front : List A) (y : A) (back : List A) → [] ≡ front ++ (y ∷ back) → ⊥
none_here [] y back e = cc
none_here (z ∷ front) y back e = cc

statement_in : (spot : Spot) (ts : List Token) (ss front back : List StatementForm) (later : StatementForm)
    → ReadsBody spot ts ss → ss ≡ front ++ (later ∷ back) → StatementIn ts front later
statement_in _ _ _ front back later nothing e = absurd (none_here front later back e)
statement_in _ _ _ front back later (stated ts us ss s h k) e = elim (last_or_before ss front s later back e) [
  | inl same ↦ record {
    before = ts;
    us = us;
    after = [];
    split = ap (λ xs. ts ++ xs) (sym (append-nil us));
    reads_before = subst (ReadsBody before_statement ts) same.0 h;
    reads = subst (ReadsStatement us) same.1 k;
  }
  | inr b ↦ longer ts us front later (statement_in before_statement ts ss front b.rest later h b.is)
]
statement_in _ _ _ front back later (separated spot ts ss h) e =
    longer ts _ front later (statement_in spot ts ss front back later h e)

-- a statement begins with some token
statement_begins : (us : List Token) (s : StatementForm) → ReadsStatement us s
    → (t : Token) × (more : List Token) × (us ≡ t ∷ more)
statement_begins _ _ (of_argument a ts x s m h) = (_, _, refl)
statement_begins _ _ (of_stack n h) = (_, _, refl)
statement_begins _ _ (of_ustack n h) = (_, _, refl)
statement_begins _ _ (aggregating _ us _ _ call (bare name) k) = (_, _, refl)
statement_begins _ _ (aggregating _ us _ _ call (keyed name ts keys h) k) = (_, _, refl)
statement_begins _ _ (assigning _ us _ f (a_local w name e) k) = (_, _, refl)
statement_begins _ _ (drawing _ _ (a_local w name e)) = (_, _, refl)

module _ (tokens : List Token) (unrefused : NoneRefused tokens) where
  -- tokens of a clause, up to a statement and after it
  cut : (clauses opening before us after rest : List Token) (t : Token) (more : List Token) → us ≡ t ∷ more
      → tokens ≡ clauses ++ ((opening ++ ((before ++ (us ++ after)) ++ (token.Sign sign.CloseBrace ∷ []))) ++ rest)
      → tokens ≡ (clauses ++ (opening ++ before)) ++ (t ∷ (more ++ (after ++ (token.Sign sign.CloseBrace ∷ rest))))
  cut clauses opening before us after rest t more e whole = whole ∙ rw e (simp append_assoc)

  clause_together : (clauses us rest : List Token) (cs : List ClauseForm) (c : ClauseForm) → ReadsClauses clauses cs
      → tokens ≡ clauses ++ (us ++ rest) → ReadsClause us c → StandTogether c.statements
  clause_together clauses _ rest cs _ earlier whole (a_clause spot ts us ds p ss opening body) front back later e =
      let in_body = statement_in spot us ss front back later body e in
      let begun = statement_begins in_body.us later in_body.reads in
      elim (truth_of (list_any (λ x. excludes (statement_kind x) (statement_kind later)) front)) [
        | inr is ↦ is
        | inl is ↦ absurd (unrefused (clauses ++ (ts ++ in_body.before)) _ begun.0 (because Spec)
            (cut clauses ts in_body.before in_body.us in_body.after rest begun.0 begun.1 begun.2
            (whole ∙ ap (λ xs. clauses ++ ((ts ++ (xs ++ (token.Sign sign.CloseBrace ∷ []))) ++ rest)) in_body.split))
            (record {
              clauses = cs;
              clause = record { descriptions = ds; predicate = p; statements = front };
              stands = record {
                clauses = clauses;
                opening = ts;
                body = in_body.before;
                split = refl;
                before = earlier;
                reads_opening = opening;
                reads = in_body.reads_before;
              };
              more = begun.1;
              later = later;
              reads = subst (λ xs. ReadsStatement xs later) begun.2 in_body.reads;
              excluded = is;
            }))
      ]

  clauses_together : (ts rest : List Token) (cs : List ClauseForm) → tokens ≡ ts ++ rest → ReadsClauses ts cs
      → AllByRecursion (λ (c : ClauseForm). StandTogether c.statements) cs
  clauses_together _ rest _ whole grammar.nothing = tt
  clauses_together _ rest _ whole (grammar.another ts us cs c more reads) =
      let here : tokens ≡ ts ++ (us ++ rest) = whole ∙ append_assoc ts us rest in
      joined_all (λ (c : ClauseForm). StandTogether c.statements) cs (c ∷ []) (clauses_together ts (us ++ rest) cs here more)
      (clause_together ts us rest cs c more here reads, tt)

pub program_together : (tokens : List Token) (cs : List ClauseForm) → NoneRefused tokens → ReadsClauses tokens cs
    → AllByRecursion (λ (c : ClauseForm). StandTogether c.statements) cs
program_together tokens cs unrefused reads = clauses_together tokens unrefused tokens [] cs (sym (append-nil tokens)) reads
