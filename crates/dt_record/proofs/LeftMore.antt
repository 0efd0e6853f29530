-- What the statements leave, one statement more.
use Rattle.std.proofs.Common.{◌≡◌, ℕ, List, [], ◌∷◌, ◌++◌, Bool, true, false, Option, Some, None, refl, sym, ap, ◌∙◌}
use Rattle.std.proofs.Common.{if◌then◌else◌}
use Rattle.std.proofs.lemmas.List.{append-nil, append_assoc}
use Rattle.std.proofs.lemmas.Grind.{flat_map-append}
use Rattle.std.specs.List.{flat_map}
use Rattle.std.specs.Option.{option_map, option_or}
use Rattle.dt_program.specs.Clause.{StatementForm}
use Rattle.dt_record.specs.Left.{left_with}
use Rattle.dt_record.specs.Taking.{Effect, TakenForm, contributed, effect_exit, effect_spec, ended_by, epid_bytes}
use Rattle.dt_record.specs.Taking.{first_some, leaves_record, recorded, taken_of}
use Rattle.dt_record.proofs.Each.{or_none}

-- what is left by its parts
pub by_parts : (a b : TakenForm) → a.record_bytes ≡ b.record_bytes → a.spec ≡ b.spec → a.values ≡ b.values → a.ends ≡ b.ends
    → a.exit ≡ b.exit → a ≡ b
by_parts a b bytes spec values ends exit = λ i. record {
  record_bytes = bytes i;
  spec = spec i;
  values = values i;
  ends = ends i;
  exit = exit i;
}

-- ---- what an effect doesn't change

pub same_bytes : (left : TakenForm) → left.record_bytes ≡ option_map (λ bytes. bytes ++ []) left.record_bytes
same_bytes left = without left.record_bytes
  where
    without : (o : Option (List ℕ)) → o ≡ option_map (λ bytes. bytes ++ []) o
    without None = refl
    without (Some bytes) = ap (λ l. Some l) (sym (append-nil bytes))

pub same_spec : (left : TakenForm) → left.spec ≡ option_or left.spec None
same_spec left = sym (or_none left.spec)

pub same_values : (left : TakenForm) → left.values ≡ left.values ++ []
same_values left = sym (append-nil left.values)

pub same_ends : (left : TakenForm) → left.ends ≡ left.ends ++ []
same_ends left = sym (append-nil left.ends)

pub same_exit : (left : TakenForm) → left.exit ≡ option_or left.exit None
same_exit left = sym (or_none left.exit)

-- an effect that leaves nothing
pub same_left : (left : TakenForm) (effect : Effect) → recorded effect ≡ [] → effect_spec effect ≡ None
    → contributed effect ≡ [] → ended_by effect ≡ [] → effect_exit effect ≡ None → left ≡ left_with left effect
same_left left effect bytes spec values ends exit =
    by_parts left (left_with left effect)
    (same_bytes left ∙ ap (λ more. option_map (λ bytes. bytes ++ more) left.record_bytes) (sym bytes))
    (same_spec left ∙ ap (option_or left.spec) (sym spec))
    (same_values left ∙ ap (λ more. left.values ++ more) (sym values))
    (same_ends left ∙ ap (λ more. left.ends ++ more) (sym ends))
    (same_exit left ∙ ap (option_or left.exit) (sym exit))

-- ---- one effect more

pub flat_more : {A : Type 0} (f : Effect → List A) (effects : List Effect) (effect : Effect)
    → flat_map f effects ++ f effect ≡ flat_map f (effects ++ effect ∷ [])
flat_more f effects effect =
    sym (flat_map-append f effects (effect ∷ []) ∙ ap (λ l. flat_map f effects ++ l) (append-nil (f effect)))

or_or : {A : Type 0} (a b c : Option A) → option_or (option_or a b) c ≡ option_or a (option_or b c)
or_or None b c = refl
or_or (Some x) b c = refl

first_more : {A : Type 0} (f : Effect → Option A) (effects : List Effect) (effect : Effect)
    → option_or (first_some f effects) (f effect) ≡ first_some f (effects ++ effect ∷ [])
first_more f [] effect = sym (or_none (f effect))
first_more f (first ∷ effects) effect =
    or_or (f first) (first_some f effects) (f effect) ∙ ap (option_or (f first)) (first_more f effects effect)

-- the record, where there is one
bytes_more : (leaves : Bool) (epid : ℕ) (effects : List Effect) (effect : Effect)
    → option_map (λ bytes. bytes ++ recorded effect)
    (if leaves then Some (epid_bytes epid ++ flat_map recorded effects) else None)
    ≡ (if leaves then Some (epid_bytes epid ++ flat_map recorded (effects ++ effect ∷ [])) else None)
bytes_more false epid effects effect = refl
bytes_more true epid effects effect =
    ap (λ l. Some l) (append_assoc (epid_bytes epid) (flat_map recorded effects) (recorded effect)
    ∙ ap (λ l. epid_bytes epid ++ l) (flat_more recorded effects effect))

pub left-more : (epid : ℕ) (statements : List StatementForm) (effects : List Effect) (effect : Effect)
    → left_with (taken_of epid statements effects) effect ≡ taken_of epid statements (effects ++ effect ∷ [])
left-more epid statements effects effect =
    by_parts (left_with (taken_of epid statements effects) effect) (taken_of epid statements (effects ++ effect ∷ []))
    (bytes_more (leaves_record statements) epid effects effect)
    (first_more effect_spec effects effect)
    (flat_more contributed effects effect)
    (flat_more ended_by effects effect)
    (first_more effect_exit effects effect)

-- the EPID alone
pub left-first : (leaves : Bool) (epid : ℕ) → (if leaves then Some (epid_bytes epid) else None)
    ≡ (if leaves then Some (epid_bytes epid ++ []) else None)
left-first true epid = ap (λ l. Some l) (sym (append-nil (epid_bytes epid)))
left-first false epid = refl
