-- Of records whose layout is known.
use Rattle.std.proofs.Common.{◌≡◌, ℕ, ◌<◌, ◌≤◌, List, [], ◌∷◌, ◌++◌, length, get_or, take, drop, Option, refl, ap, sym, ◌∙◌, append_assoc, arith, length-append, length-take-le}
use Rattle.std.specs.List.{AllByRecursion, flat_map}
use Rattle.std.proofs.lemmas.List.{drop_at, get_or-take, get_or_append_left, take-append-drop}
use Rattle.dt_record.specs.Layout.{FieldForm}
use Rattle.dt_front.specs.Unknown.{ComesUnknown, IsKnown, epid_of, known_size}

-- the number of the first four bytes
same_epid : (xs ys : List ℕ) → ((i : ℕ) → i < 4 → get_or xs i 0 ≡ get_or ys i 0) → epid_of xs ≡ epid_of ys
same_epid xs ys same =
    let a = same 0 (omega arith) in
    let b = same 1 (omega arith) in
    let c = same 2 (omega arith) in
    let d = same 3 (omega arith) in
    rw (a, b, c, d) refl

epid_before : (xs ys : List ℕ) → 4 ≤ length xs → epid_of (xs ++ ys) ≡ epid_of xs
epid_before xs ys whole = same_epid (xs ++ ys) xs (λ i small. get_or_append_left xs ys 0 i (omega (arith, whole, small)))

epid_taken : (n : ℕ) (xs : List ℕ) → 4 ≤ n → epid_of (take n xs) ≡ epid_of xs
epid_taken n xs whole = same_epid (take n xs) xs (λ i small. get_or-take n xs i 0 (omega (arith, whole, small)))

-- a record that isn't known after the first of these bytes, which is, is one of all the bytes
pub past_known : (layouts : List (Option (List FieldForm))) (bytes : List ℕ) (size epid : ℕ) → size ≡ known_size layouts (epid_of bytes) → 4 ≤ size
    → size ≤ length bytes → ComesUnknown layouts (drop size bytes) epid → ComesUnknown layouts bytes epid
past_known layouts bytes size epid is some whole comes =
    let first = take size bytes in
    let long : length first ≡ size = length-take-le size bytes whole in
    let same = is ∙ ap (known_size layouts) (sym (epid_taken size bytes some)) in
    record {
      known = first ∷ comes.known;
      each = (record { named = omega (arith, some, same); long = long ∙ same }, comes.each);
      rest = comes.rest;
      whole = sym (take-append-drop size bytes) ∙ ap (λ xs. first ++ xs) comes.whole ∙ sym (append_assoc first (flat_map (λ one. one) comes.known) comes.rest);
      begins = comes.begins;
      numbered = comes.numbered;
      unknown = comes.unknown;
    }

-- The first record of bytes in which one comes that isn't known: it isn't known itself, or it is, and the other comes after it.
first_is : (layouts : List (Option (List FieldForm))) (bytes : List ℕ) (size epid : ℕ) (known : List (List ℕ)) (rest : List ℕ)
    → size ≡ known_size layouts (epid_of bytes) → 0 < size → AllByRecursion (IsKnown layouts) known
    → bytes ≡ flat_map (λ one. one) known ++ rest → 4 ≤ length rest → epid_of rest ≡ epid → known_size layouts epid ≡ 0
    → (4 ≤ size) × (size ≤ length bytes) × ComesUnknown layouts (drop size bytes) epid
first_is layouts bytes size epid [] rest is some each whole begins numbered unknown =
    let none : size ≡ 0 = is ∙ ap (λ xs. known_size layouts (epid_of xs)) whole ∙ ap (known_size layouts) numbered ∙ unknown in
    absurd (omega (arith, none, some))
first_is layouts bytes size epid (one ∷ known) rest is some each whole begins numbered unknown =
    let after = flat_map (λ x. x) known ++ rest in
    let parts : bytes ≡ one ++ after = whole ∙ append_assoc one (flat_map (λ x. x) known) rest in
    let named : 4 ≤ known_size layouts (epid_of one) = each.0.named in
    let long : length one ≡ known_size layouts (epid_of one) = each.0.long in
    let short : 4 ≤ length one = omega (arith, named, long) in
    let same : size ≡ length one = is ∙ ap (λ xs. known_size layouts (epid_of xs)) parts ∙ ap (known_size layouts) (epid_before one after short) ∙ sym long in
    let lengths = ap length parts ∙ length-append one after in (
      omega (arith, same, short),
      omega (arith, same, lengths),
      record {
        known = known;
        each = each.1;
        rest = rest;
        whole = ap (drop size) parts ∙ drop_at one after size (sym same);
        begins = begins;
        numbered = numbered;
        unknown = unknown;
      },
    )

pub first_known : (layouts : List (Option (List FieldForm))) (bytes : List ℕ) (size epid : ℕ) → size ≡ known_size layouts (epid_of bytes) → 0 < size
    → ComesUnknown layouts bytes epid → (4 ≤ size) × (size ≤ length bytes) × ComesUnknown layouts (drop size bytes) epid
first_known layouts bytes size epid is some comes =
    first_is layouts bytes size epid comes.known comes.rest is some comes.each comes.whole comes.begins comes.numbered comes.unknown

-- bytes that are too short for an EPID have none that isn't known
short_is : (layouts : List (Option (List FieldForm))) (bytes : List ℕ) (known : List (List ℕ)) (rest : List ℕ) → length bytes < 4
    → bytes ≡ flat_map (λ one. one) known ++ rest → 4 ≤ length rest → ⊥
short_is layouts bytes known rest short whole begins =
    let lengths = ap length whole ∙ length-append (flat_map (λ one. one) known) rest in
    omega (arith, lengths, short, begins)

pub too_short : (layouts : List (Option (List FieldForm))) (bytes : List ℕ) (epid : ℕ) → length bytes < 4 → ComesUnknown layouts bytes epid → ⊥
too_short layouts bytes epid short comes = short_is layouts bytes comes.known comes.rest short comes.whole comes.begins

-- bytes that begin with an EPID that isn't known
pub first_unknown : (layouts : List (Option (List FieldForm))) (bytes : List ℕ) (epid : ℕ) → 4 ≤ length bytes → epid ≡ epid_of bytes
    → 0 ≡ known_size layouts epid → ComesUnknown layouts bytes epid
first_unknown layouts bytes epid begins is none = record {
  known = [];
  each = tt;
  rest = bytes;
  whole = refl;
  begins = begins;
  numbered = sym is;
  unknown = sym none;
}
