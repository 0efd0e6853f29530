-- The steps that make a word, add a write and show how long the list is keep the rule of the book.
use Rattle.std.proofs.Common.{◌≡◌, ◌≢◌, ℕ, zero, suc, ◌+◌, ◌*◌, ◌<◌, ◌≤◌, ◌==◌, Bool, true, false, List, [], ◌∷◌, ◌++◌, length, refl, ap, sym, ◌∙◌, subst, arith}
use Rattle.std.proofs.Common.{inl, ⊎_elim, length-append, None, set}
use Rattle.std.proofs.lemmas.List.{append-nil, get_or-set_same, get_or-set_other, get_or_append_left, set-get_or, length-set}
use Rattle.std.proofs.lemmas.Bool.{cases_lt, cases_eq, eqb-true, false≢true}
use mathlib.Core.List.{IsPrefix}
use prog.Atomic.{either}
use Rattle.logbook.specs.Pages.{Cell, cell, Nib, keeps, gives, adds, no_nib, may_write, step, Moves, Goes}
use Rattle.dt_chain.specs.Writes.{Write}
use Rattle.dt_chain.specs.Books.{IsBookOf, Reserves, Adds, Measures}
use Rattle.dt_chain.proofs.Fronts.{prefix_whole}

abbrev pub shown : List Write → List Write
shown log = []

abbrev pub moved : List Write → List Write → ℕ → Type 0
moved xs ys n = Unit {0}

home_at_first : (key : ℕ) → key < 2 → (cell ((0, true) ∷ (0, true) ∷ []) key).1 ≡ true
home_at_first zero near = refl
home_at_first (suc zero) near = refl
home_at_first (suc (suc key)) near = absurd (omega arith)

-- a new book
pub opens : IsBookOf ((0, true) ∷ (0, true) ∷ []) []
opens = record { away = 0; few = omega arith; head = refl; size = refl; homes = home_at_first }

-- a word that isn't at home is none of those of the writes
beyond : (cells : List Cell) (log : List Write) → IsBookOf cells log → (key : ℕ) → (cell cells key).1 ≡ false
    → length log + 2 ≤ key
beyond cells log book key off =
    ⊎_elim
    (λ (near : key < length log + 2). absurd (false≢true (sym off ∙ book.homes key near)))
    (λ (far : length log + 2 ≤ key). far)
    (cases_lt key (length log + 2))

-- a step that leaves the head as it is
stays : (cells : List Cell) (log : List Write) → IsBookOf cells log → (n : ℕ) → n ≡ (cell cells 0).0
    → IsBookOf (set cells 0 (n, true)) (log ++ [])
stays cells log book n is =
    let same : (n, true) ≡ cell cells 0 =
    ap (λ (k : ℕ). (k, true)) (is ∙ ap (λ (c : Cell). c.0) book.head) ∙ sym book.head in
    let left : set cells 0 (n, true) ≡ cells = ap (set cells 0) same ∙ set-get_or cells 0 (0, false) in
    subst (λ (c : List Cell). IsBookOf c (log ++ [])) (sym left) (subst (IsBookOf cells) (sym (append-nil log)) book)

-- a word more
longer : (cells : List Cell) (log : List Write) → (book : IsBookOf cells log) → book.away ≤ 1 → (n : ℕ)
    → n ≡ 3 * length log + book.away + 1 → IsBookOf (set cells 0 (n, true) ++ (0, false) ∷ []) (log ++ [])
longer cells log book few n is =
    let all : log ++ [] ≡ log = append-nil log in
    let there : 0 < length cells = let size = book.size in omega arith in
    let many = length-set cells 0 (n, true) in
    let row : List Cell = set cells 0 (n, true) in
    let head : cell (row ++ (0, false) ∷ []) 0 ≡ (n, true) =
    get_or_append_left row ((0, false) ∷ []) (0, false) 0 (omega (arith, many, there))
    ∙ get_or-set_same cells 0 (n, true) (0, false) there in
    let book' : IsBookOf (row ++ (0, false) ∷ []) log =
    record {
      away = book.away + 1;
      few = omega (arith, few);
      head = head ∙ ap (λ (k : ℕ). (k, true)) (omega (arith, is));
      size = let size = book.size in omega (arith, many, length-append row ((0, false) ∷ []));
      homes = λ key near.
          ⊎_elim
          (λ (e : key ≡ 0). ap (λ (k : ℕ). (cell (row ++ (0, false) ∷ []) k).1) e ∙ ap (λ (c : Cell). c.1) head)
          (λ (ne : key ≢ 0).
          ap (λ (c : Cell). c.1)
          (get_or_append_left row ((0, false) ∷ []) (0, false) key (let size = book.size in omega (arith, many, near))
          ∙ get_or-set_other cells 0 key (n, true) (0, false) ne)
          ∙ book.homes key near)
          (cases_eq key 0);
    } in
    subst (IsBookOf (row ++ (0, false) ∷ [])) (sym all) book'

-- a write more, whose word comes home
grown : (cells : List Cell) (log : List Write) (e : Write) → (book : IsBookOf cells log) → book.away ≡ 2
    → (key value n : ℕ) → key ≡ length log + 2 → n ≡ 3 * length log + 4
    → IsBookOf (set (set cells 0 (n, true)) key (value, true)) (log ++ e ∷ [])
grown cells log e book two key value n at is =
    let there : 0 < length cells = let size = book.size in omega arith in
    let many = length-set cells 0 (n, true) in
    let row : List Cell = set cells 0 (n, true) in
    let long : length (log ++ e ∷ []) ≡ length log + 1 = length-append log (e ∷ []) in
    let inside : key < length row = let size = book.size in omega (arith, many, at, two) in
    let all : List Cell = set row key (value, true) in
    let head : cell all 0 ≡ (n, true) =
    get_or-set_other row key 0 (value, true) (0, false) (λ same. omega (arith, same, at))
    ∙ get_or-set_same cells 0 (n, true) (0, false) there in
    record {
      away = 1;
      few = omega arith;
      head = head ∙ ap (λ (k : ℕ). (k, true)) (omega (arith, is, long));
      size = let size = book.size in omega (arith, many, length-set row key (value, true), long, two);
      homes = λ other near.
          ⊎_elim
          (λ (e : other ≡ key).
          ap (λ (k : ℕ). (cell all k).1) e
          ∙ ap (λ (c : Cell). c.1) (get_or-set_same row key (value, true) (0, false) inside))
          (λ (ne : other ≢ key).
          ⊎_elim
          (λ (first : other ≡ 0). ap (λ (k : ℕ). (cell all k).1) first ∙ ap (λ (c : Cell). c.1) head)
          (λ (later : other ≢ 0).
          ap (λ (c : Cell). c.1)
          (get_or-set_other row key other (value, true) (0, false) ne
          ∙ get_or-set_other cells 0 other (n, true) (0, false) later)
          ∙ book.homes other (omega (arith, near, long, ne, at)))
          (cases_eq other 0))
          (cases_eq other key);
    }

there_is : (cells : List Cell) (log : List Write) → IsBookOf cells log → (0 < length cells) × ((cell cells 0).1 ≡ true)
there_is cells log book = (let size = book.size in omega arith, book.homes 0 (omega arith))

-- what the head says
said : (cells : List Cell) (log : List Write) (book : IsBookOf cells log)
    → (cell cells 0).0 ≡ 3 * length log + book.away
said cells log book = ap (λ (c : Cell). c.0) book.head

reserves_goes : (cells : List Cell) (log v : List Write) (e : Write) (more old : ℕ) → IsBookOf cells log → more ≤ 1
    → old ≡ 3 * length v + more → (b : Bool) → ((cell cells 0).0 == old) ≡ b
    → Goes IsBookOf shown moved 0 (v, (no_nib, None)) (λ n. either (n == old) (old + 1) n)
    (Reserves (step 0 old (old + 1) e) (v, (no_nib, None))) cells log
reserves_goes cells log v e more old book few is true found =
    let here : (cell cells 0).0 ≡ old = eqb-true (cell cells 0).0 old found in
    let says = said cells log book in
    let small = book.few in
    let size = book.size in
    let same : length log ≡ length v = omega (arith, here, says, is, few, small) in
    let away : book.away ≡ more = omega (arith, here, says, is, few, small) in (
      adds,
      [],
      None,
      tt,
      longer cells log book (omega (arith, away, few)) (either ((cell cells 0).0 == old) (old + 1) (cell cells 0).0)
          (rw found (omega (arith, here, says))),
      inl (refl, refl),
      rw found (length cells, omega (arith, size, same, away, is), refl),
    )
reserves_goes cells log v e more old book few is false found = (
  keeps,
  [],
  None,
  tt,
  stays cells log book (either ((cell cells 0).0 == old) (old + 1) (cell cells 0).0) (rw found refl),
  inl (refl, refl),
  rw found tt,
)

-- Whatever the book is, the exchange makes a word beyond those of the writes, or finds another head.
pub reserves_moves : (v : List Write) (e : Write) (more old : ℕ) → more ≤ 1 → old ≡ 3 * length v + more
    → Moves IsBookOf shown moved 0 (v, (no_nib, None)) (λ n. either (n == old) (old + 1) n)
    (Reserves (step 0 old (old + 1) e) (v, (no_nib, None)))
reserves_moves v e more old few is cells log book pre away =
    let there = there_is cells log book in
    (there.0, there.1, reserves_goes cells log v e more old book few is ((cell cells 0).0 == old) refl)

adds_goes : (cells : List Cell) (log v : List Write) (e : Write) (pen : Nib) (old : ℕ) → IsBookOf cells log
    → pen.right ≡ may_write → pen.key ≡ length log + 2 → v ≡ log → old ≡ 3 * length log + 2
    → (b : Bool) → ((cell cells 0).0 == old) ≡ b
    → Goes IsBookOf shown moved 0 (v, (pen, None)) (λ n. either (n == old) (old + 2) n)
    (Adds (step 0 old (old + 2) e) (v, (pen, None))) cells log
adds_goes cells log v e pen old book right at same is true found =
    let here : (cell cells 0).0 ≡ old = eqb-true (cell cells 0).0 old found in
    let says = said cells log book in
    let two : book.away ≡ 2 = omega (arith, here, says, is) in (
      gives,
      e ∷ [],
      None,
      right,
      grown cells log e book two pen.key pen.value (either ((cell cells 0).0 == old) (old + 2) (cell cells 0).0) at
          (rw found (omega (arith, is))),
      inl (refl, refl),
      rw found (ap (λ w. w ++ e ∷ []) (sym same)),
    )
adds_goes cells log v e pen old book right at same is false found = (
  keeps,
  [],
  None,
  tt,
  stays cells log book (either ((cell cells 0).0 == old) (old + 2) (cell cells 0).0) (rw found refl),
  inl (refl, refl),
  rw found (append-nil log ∙ sym same, refl),
)

-- Whatever the book is, with the pen of the next write the exchange adds that, or changes nothing.
pub adds_moves : (v : List Write) (e : Write) (pen : Nib) (old : ℕ) → pen.right ≡ may_write
    → pen.key ≡ length v + 2 → old ≡ 3 * length v + 2
    → Moves IsBookOf shown moved 0 (v, (pen, None)) (λ n. either (n == old) (old + 2) n)
    (Adds (step 0 old (old + 2) e) (v, (pen, None)))
adds_moves v e pen old right at is cells log book pre away =
    let there = there_is cells log book in
    let few = beyond cells log book pen.key (away right).1 in
    let same : v ≡ log = prefix_whole v log pre (omega (arith, few, at)) in
    let long : length v ≡ length log = ap length same in (
      there.0,
      there.1,
      adds_goes cells log v e pen old book right (at ∙ ap (λ (n : ℕ). n + 2) long) same
          (is ∙ ap (λ (n : ℕ). 3 * n + 2) long) ((cell cells 0).0 == old) refl,
    )

unchanged : (n : ℕ) (b : Bool) → (n == 0) ≡ b → either (n == 0) 0 n ≡ n
unchanged n true is = rw is (sym (eqb-true n 0 is))
unchanged n false is = rw is refl

-- Whatever the book is, with the pen of the next write an exchange shows that the list is no longer than that.
pub measures_moves : (v : List Write) (e : Write) (pen : Nib) → pen.right ≡ may_write
    → Moves IsBookOf shown moved 0 (v, (pen, None)) (λ n. either (n == 0) 0 n)
    (Measures (step 0 0 0 e) (v, (pen, None)))
measures_moves v e pen right cells log book pre away =
    let there = there_is cells log book in
    let few = beyond cells log book pen.key (away right).1 in
    let all : log ++ [] ≡ log = append-nil log in (
      there.0,
      there.1,
      (
        keeps,
        [],
        None,
        tt,
        stays cells log book (either ((cell cells 0).0 == 0) 0 (cell cells 0).0)
            (unchanged (cell cells 0).0 ((cell cells 0).0 == 0) refl),
        inl (refl, refl),
        (subst (λ (l : List Write). length l + 2 ≤ pen.key) (sym all) few, refl),
      ),
    )

-- the shorter of two that begin a list, where the first is no shorter than the list
pub begins_whole : (writes front known : List Write) → IsPrefix writes known → IsPrefix front known
    → length known ≤ length writes → IsPrefix front writes
begins_whole writes front known mine theirs few =
    subst (IsPrefix front) (sym (prefix_whole writes known mine few)) theirs
