-- Text in which no byte shows a fault, read from the left.
use Rattle.std.proofs.Common.{◌≡◌, ℕ, zero, suc, ◌+◌, ◌-◌, ◌<◌, ◌≤◌, cond, List, [], ◌∷◌, length, get_or, drop, take}
use Rattle.std.proofs.Common.{refl, sym, ap, ◌∙◌, subst, ⊎_elim, ◌⊎◌, inl, inr, count_by, add-one, arith}
use Rattle.std.specs.List.{AllByRecursion, onto_first}
use Rattle.std.proofs.lemmas.List.Splits.{slice_split-cons_no, slice_split-cons_yes, length-slice_split}
use Rattle.std.proofs.lemmas.Bool.{eq-eqb, ne_eqb, cases_eq, cases_lt}
use Rattle.dt_names.specs.Name.{IsNameByte}
use Rattle.std.proofs.lemmas.List.Sums.{count_by_more_yes, count_by_more_no, sum_by-take-le}
use Rattle.std.proofs.lemmas.List.{take_all}
use Rattle.std.proofs.Math.Seq.{drop-cons}
use Rattle.std.proofs.Math.ListN.{drop_of_length-le}
use Rattle.dt_names.specs.Desc.{is_colon, fields, IsField, NoColonWithin, ShowsFault, NoneShown, Desc, Describes}
use Rattle.dt_names.specs.Desc.{IsFirstFault}
use Rattle.dt_names.specs.declared.desc.NameFault.{NameFault}
use Rattle.dt_names.specs.declared.desc.NameFault.TheVariants.{BadByte, TooLong, TooManyFields}

-- The rest of a text in which no byte shows BadByte or TooLong, where the field that it begins in has n bytes already.
pub data Clean : ℕ → List ℕ → Type 0 where
  ended : {n : ℕ} → n ≤ 63 → Clean n []
  colon : {n : ℕ} {x : ℕ} {xs : List ℕ} → x ≡ 58 → n ≤ 63 → Clean 0 xs → Clean n (x ∷ xs)
  more : {n : ℕ} {x : ℕ} {xs : List ℕ} → IsNameByte x → Clean (suc n) xs → Clean n (x ∷ xs)

-- the fields of such a rest: the first goes on with the n bytes
abbrev FirstGoesOn : ℕ → List (List ℕ) → Type 0
FirstGoesOn n [] = ⊥
FirstGoesOn n (first ∷ others) = (n + length first ≤ 63) × AllByRecursion IsNameByte first
    × AllByRecursion IsField others

onto : (n x : ℕ) (parts : List (List ℕ)) → IsNameByte x → FirstGoesOn (suc n) parts
    → FirstGoesOn n (onto_first x parts)
onto n x [] b h = absurd h
onto n x (first ∷ others) b h = (omega (arith, h.0), (b, h.1), h.2)

all_fields : (parts : List (List ℕ)) → FirstGoesOn 0 parts → AllByRecursion IsField parts
all_fields [] h = absurd h
all_fields (first ∷ others) h = (record { short = omega (arith, h.0); plain = h.1 }, h.2)

at_colon : (n x : ℕ) (xs : List ℕ) → x ≡ 58 → n ≤ 63 → FirstGoesOn 0 (fields xs) → FirstGoesOn n (fields (x ∷ xs))
at_colon n x xs e h rest =
    subst (FirstGoesOn n) (sym (slice_split-cons_yes is_colon x xs (eq-eqb x 58 e)))
    (omega arith, tt, all_fields (fields xs) rest)

at_byte : (n x : ℕ) (xs : List ℕ) → IsNameByte x → FirstGoesOn (suc n) (fields xs) → FirstGoesOn n (fields (x ∷ xs))
at_byte n x xs b rest =
    subst (FirstGoesOn n) (sym (slice_split-cons_no is_colon x xs (ne_eqb x 58 b.no_colon)))
    (onto n x (fields xs) b rest)

first_goes_on : {n : ℕ} {text : List ℕ} → Clean n text → FirstGoesOn n (fields text)
first_goes_on (ended h) = (omega arith, tt, tt)
first_goes_on {n} (colon {x = x} {xs = xs} e h rest) = at_colon n x xs e h (first_goes_on rest)
first_goes_on {n} (more {x = x} {xs = xs} b rest) = at_byte n x xs b (first_goes_on rest)

pub fields-from_clean : (text : List ℕ) → Clean 0 text → AllByRecursion IsField (fields text)
fields-from_clean text h = all_fields (fields text) (first_goes_on h)

-- What the scan knows at place i of a text: how many colons it passed, and how many bytes of the field it passed.
pub record Scanned (text : List ℕ) (i colons run : ℕ) : Type 0 where
  pub counted : colons ≡ count_by is_colon (take i text)
  pub few : colons ≤ 3
  pub short : run ≤ 63
  pub passed : run ≤ i
  pub unbroken : NoColonWithin text (i - run) i
  pub begun : run < i → get_or text (i - run - 1) 0 ≡ 58
  pub none_shown : NoneShown text i
  pub clean : Clean run (drop i text) → Clean 0 text

-- what the byte at i shows is all that the bytes before i + 1 show more than those before i
none_shown_more : (text : List ℕ) (i : ℕ) → NoneShown text i → ((fault : NameFault) → ShowsFault text i fault → ⊥)
    → NoneShown text (i + 1)
none_shown_more text i before here k fault h shown =
    ⊎_elim (λ e. here fault (subst (λ j. ShowsFault text j fault) e shown)) (λ ne. before k fault (omega arith) shown)
    (cases_eq k i)

pub scanned_none : (text : List ℕ) → Scanned text 0 0 0
scanned_none text = record {
  counted = refl;
  few = omega arith;
  short = omega arith;
  passed = omega arith;
  unbroken = λ k low high. absurd (omega arith);
  begun = λ h. absurd (omega arith);
  none_shown = λ k fault h. absurd (omega arith);
  clean = λ h. h;
}

module _ (text : List ℕ) (i colons run : ℕ) (s : Scanned text i colons run) (inside : i < length text) where
  front_is : drop i text ≡ get_or text i 0 ∷ drop (i + 1) text
  front_is = rw add-one (drop-cons text i 0 inside)

  colon_shows_none : get_or text i 0 ≡ 58 → colons < 3 → (fault : NameFault) → ShowsFault text i fault → ⊥
  colon_shows_none e room BadByte shown = shown.1 e
  colon_shows_none e room TooLong shown = shown.0.no_colon e
  colon_shows_none e room TooManyFields shown = omega (arith, s.counted, shown.1)

  pub scanned_colon : get_or text i 0 ≡ 58 → colons < 3 → Scanned text (i + 1) (colons + 1) 0
  scanned_colon e room = record {
    counted = ap (λ n. n + 1) s.counted ∙ sym (count_by_more_yes is_colon text i 0 inside (eq-eqb _ 58 e));
    few = omega arith;
    short = omega arith;
    passed = omega arith;
    unbroken = λ k low high. absurd (omega arith);
    begun = λ h. rw (simpler i) e;
    none_shown = none_shown_more text i s.none_shown (colon_shows_none e room);
    clean = λ rest. s.clean (subst (Clean run) (sym front_is) (colon e s.short rest));
  }
    where
      simpler : (i : ℕ) → i + 1 - 0 - 1 ≡ i
      simpler i = omega arith

  byte_shows_none : IsNameByte (get_or text i 0) → run < 63 → (fault : NameFault) → ShowsFault text i fault → ⊥
  byte_shows_none b room BadByte shown = shown.0 b
  byte_shows_none b room TooLong shown =
      shown.2 (i - run - 1) (omega (arith, shown.1)) (omega (arith, shown.1)) (s.begun (omega (arith, shown.1)))
  byte_shows_none b room TooManyFields shown = b.no_colon shown.0

  pub scanned_byte : IsNameByte (get_or text i 0) → run < 63 → Scanned text (i + 1) colons (run + 1)
  scanned_byte b room = record {
    counted = s.counted ∙ sym (count_by_more_no is_colon text i 0 inside (ne_eqb _ 58 b.no_colon));
    few = s.few;
    short = omega arith;
    passed = omega (arith, s.passed);
    unbroken = λ k low high.
        ⊎_elim (λ e. λ at. b.no_colon (rw (← e) at)) (λ ne. s.unbroken k (omega (arith, low, s.passed)) (omega arith))
        (cases_eq k i);
    begun = λ h. rw (simpler i run) (s.begun (omega (arith, h)));
    none_shown = none_shown_more text i s.none_shown (byte_shows_none b room);
    clean = λ rest. s.clean (subst (Clean run) (sym front_is) (more b (rw (← add-one run) rest)));
  }
    where
      simpler : (i run : ℕ) → i + 1 - (run + 1) - 1 ≡ i - run - 1
      simpler i run = omega arith

-- the other way: fields leave a rest clean
first_from_fields : (parts : List (List ℕ)) → 0 < length parts → AllByRecursion IsField parts → FirstGoesOn 0 parts
first_from_fields [] some h = absurd (omega arith)
first_from_fields (first ∷ others) some h = (omega (arith, h.0.short), h.0.plain, h.1)

parts_some : (text : List ℕ) → 0 < length (fields text)
parts_some text = omega (arith, length-slice_split is_colon text)

onto_back : (n x : ℕ) (parts : List (List ℕ)) → 0 < length parts → FirstGoesOn n (onto_first x parts) → IsNameByte x
    × FirstGoesOn (suc n) parts
onto_back n x [] some h = absurd (omega arith)
onto_back n x (first ∷ others) some h = (h.1.0, (omega (arith, h.0), h.1.1, h.2))

clean-from_first : (n : ℕ) (text : List ℕ) → FirstGoesOn n (fields text) → Clean n text
clean-from_first n [] h = ended (omega (arith, h.0))
clean-from_first n (x ∷ xs) h =
    ⊎_elim
    (λ e. let at = subst (FirstGoesOn n) (slice_split-cons_yes is_colon x xs (eq-eqb x 58 e)) h in
    colon e (omega (arith, at.0)) (clean-from_first 0 xs (first_from_fields (fields xs) (parts_some xs) at.2)))
    (λ ne. let at =
    onto_back n x (fields xs) (parts_some xs)
    (subst (FirstGoesOn n) (slice_split-cons_no is_colon x xs (ne_eqb x 58 ne)) h) in
    more at.0 (clean-from_first (suc n) xs at.1))
    (cases_eq x 58)

-- each byte of a clean rest is a colon or a name byte
clean_byte : {n : ℕ} {text : List ℕ} → Clean n text → (k : ℕ) → k < length text → (get_or text k 0 ≡ 58)
    ⊎ IsNameByte (get_or text k 0)
clean_byte (ended h) k inside = absurd (omega arith)
clean_byte (colon e h rest) zero inside = inl e
clean_byte (colon e h rest) (suc k) inside = clean_byte rest k (omega arith)
clean_byte (more b rest) zero inside = inr b
clean_byte (more b rest) (suc k) inside = clean_byte rest k (omega arith)

clean_short : {n : ℕ} {text : List ℕ} → Clean n text → n ≤ 63
clean_short (ended h) = h
clean_short (colon e h rest) = h
clean_short (more b rest) = omega (arith, clean_short rest)

-- a field that begins before such a rest has no room for a 64th byte in it
run_short : {n : ℕ} {text : List ℕ} → Clean n text → (k : ℕ) → k < length text → NoColonWithin text 0 (suc k)
    → n + k < 63
run_short (ended h) k inside none = absurd (omega arith)
run_short (colon e h rest) k inside none = absurd (none 0 (omega arith) (omega arith) e)
run_short (more b rest) zero inside none = omega (arith, clean_short rest)
run_short (more b rest) (suc k) inside none =
    omega (arith, run_short rest k (omega arith) (λ j low high. none (suc j) (omega arith) (omega arith)))

no_64th : {n : ℕ} {text : List ℕ} → Clean n text → (k : ℕ) → k < length text → 63 ≤ k
    → NoColonWithin text (k - 63) (suc k) → ⊥
no_64th (ended h) k inside far none = omega arith
no_64th (colon e h rest) zero inside far none = omega arith
no_64th (more b rest) zero inside far none = omega arith
no_64th (colon e h rest) (suc k) inside far none =
    ⊎_elim
    (λ near. omega (arith, run_short (colon e h rest) (suc k) inside (λ j low high. none j (omega arith) high)))
    (λ past. no_64th rest k (omega arith) past (λ j low high. none (suc j) (omega arith) (omega arith)))
    (cases_lt k 63)
no_64th (more b rest) (suc k) inside far none =
    ⊎_elim
    (λ near. omega (arith, run_short (more b rest) (suc k) inside (λ j low high. none j (omega arith) high)))
    (λ past. no_64th rest k (omega arith) past (λ j low high. none (suc j) (omega arith) (omega arith)))
    (cases_lt k 63)

shows_none : (text : List ℕ) → Clean 0 text → length (fields text) ≤ 4 → (at : ℕ) → at < length text
    → (fault : NameFault) → ShowsFault text at fault → ⊥
shows_none text clean few at inside BadByte shown = ⊎_elim shown.1 shown.0 (clean_byte clean at inside)
shows_none text clean few at inside TooLong shown =
    no_64th clean at inside shown.1
    (λ k low high. ⊎_elim (λ e. λ is. shown.0.no_colon (rw (← e) is)) (λ ne. shown.2 k low (omega arith))
    (cases_eq k at))
shows_none text clean few at inside TooManyFields shown =
    omega (
      arith,
      length-slice_split is_colon text,
      count_by_more_yes is_colon text at 0 inside (eq-eqb _ 58 shown.0),
      shown.1,
      sum_by-take-le (λ x. cond (is_colon x) 1 0) text (at + 1),
    )

pub never_both : (text : List ℕ) (desc : Desc) (fault : NameFault) → Describes text desc → IsFirstFault text fault → ⊥
never_both text desc fault d f =
    shows_none text (clean-from_first 0 text (first_from_fields (fields text) (parts_some text) d.each)) d.few f.at
    f.within fault f.shown

-- what the scan knows at the end
pub few_fields : (text : List ℕ) (i colons run : ℕ) → Scanned text i colons run → length text ≤ i
    → length (fields text) ≤ 4
few_fields text i colons run s ends =
    omega (arith, length-slice_split is_colon text, s.counted, s.few, ap (count_by is_colon) (take_all i text ends))

pub clean_fields : (text : List ℕ) (i colons run : ℕ) → Scanned text i colons run → length text ≤ i
    → AllByRecursion IsField (fields text)
clean_fields text i colons run s ends =
    fields-from_clean text (s.clean (rw (drop_of_length-le text ends) (ended s.short)))
