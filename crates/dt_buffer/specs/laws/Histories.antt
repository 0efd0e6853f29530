-- What one more event adds to the lists of records of a past.
use Rattle.std.proofs.Common.{◌≡◌, ℕ, Bool, true, false, List, [], ◌∷◌, ◌++◌, refl, ap, if◌then◌else◌}
use Rattle.dt_buffer.specs.History.{BufferEvent, attempt, swap, attempts, of_end, ordinary, is_swapped, since_swap}

pub attempts-append : (earlier later : List BufferEvent) → attempts (earlier ++ later)
    ≡ attempts earlier ++ attempts later
attempts-append [] later = refl
attempts-append (attempt bytes in_end ∷ earlier) later = ap (λ xs. bytes ∷ xs) (attempts-append earlier later)
attempts-append (swap ∷ earlier) later = attempts-append earlier later

pub of_end-append : (earlier later : List BufferEvent) → of_end (earlier ++ later) ≡ of_end earlier ++ of_end later
of_end-append [] later = refl
of_end-append (attempt bytes true ∷ earlier) later = ap (λ xs. bytes ∷ xs) (of_end-append earlier later)
of_end-append (attempt bytes false ∷ earlier) later = of_end-append earlier later
of_end-append (swap ∷ earlier) later = of_end-append earlier later

pub ordinary-append : (earlier later : List BufferEvent) → ordinary (earlier ++ later)
    ≡ ordinary earlier ++ ordinary later
ordinary-append [] later = refl
ordinary-append (attempt bytes true ∷ earlier) later = ordinary-append earlier later
ordinary-append (attempt bytes false ∷ earlier) later = ap (λ xs. bytes ∷ xs) (ordinary-append earlier later)
ordinary-append (swap ∷ earlier) later = ordinary-append earlier later

swapped-put : (events : List BufferEvent) (bytes : List ℕ) (in_end : Bool)
    → is_swapped (events ++ attempt bytes in_end ∷ []) ≡ is_swapped events
swapped-put [] bytes in_end = refl
swapped-put (attempt other e ∷ events) bytes in_end = swapped-put events bytes in_end
swapped-put (swap ∷ events) bytes in_end = refl

swapped-swap : (events : List BufferEvent) → is_swapped (events ++ swap ∷ []) ≡ true
swapped-swap [] = refl
swapped-swap (attempt other e ∷ events) = swapped-swap events
swapped-swap (swap ∷ events) = refl

-- since the last swap, and then one more
choose-push : (b : Bool) (xs : List (List ℕ)) (other bytes : List ℕ)
    → (if b then (xs ++ bytes ∷ []) else (other ∷ (xs ++ bytes ∷ []))) ≡ (if b then xs else (other ∷ xs)) ++ bytes ∷ []
choose-push true xs other bytes = refl
choose-push false xs other bytes = refl

pub since-put : (events : List BufferEvent) (bytes : List ℕ) (in_end : Bool)
    → since_swap (events ++ attempt bytes in_end ∷ []) ≡ since_swap events ++ bytes ∷ []
since-put [] bytes in_end = refl
since-put (attempt other e ∷ events) bytes in_end =
    rw (swapped-put events bytes in_end, since-put events bytes in_end)
    (choose-push (is_swapped events) (since_swap events) other bytes)
since-put (swap ∷ events) bytes in_end = since-put events bytes in_end

pub since-swap : (events : List BufferEvent) → since_swap (events ++ swap ∷ []) ≡ []
since-swap [] = refl
since-swap (attempt other e ∷ events) = rw (swapped-swap events) (since-swap events)
since-swap (swap ∷ events) = since-swap events
