-- A seat's own writes among all, as these go on.
use Rattle.std.proofs.Common.{◌≡◌, ◌≢◌, ℕ, ◌==◌, List, [], ◌∷◌, ◌++◌, Bool, cond, refl, sym, ap, ◌∙◌, eq-eqb, ne_eqb, append-nil}
use Rattle.std.proofs.lemmas.List.Elements.{filter-append}
use mathlib.Core.List.{IsPrefix}
use Rattle.dt_chain.specs.Writes.{Write, seat_of, writes_of}

own_both : (some rest : List Write) (seat : ℕ) → writes_of (some ++ rest) seat ≡ writes_of some seat ++ writes_of rest seat
own_both some rest seat = filter-append (λ (write : Write). seat_of write == seat) some rest

-- A write of the seat is the last of its own.
pub own_more : (write : Write) (writes : List Write)
    → writes_of (writes ++ write ∷ []) (seat_of write) ≡ writes_of writes (seat_of write) ++ write ∷ []
own_more write writes =
    let here : writes_of (write ∷ []) (seat_of write) ≡ write ∷ [] =
    ap (λ (b : Bool). cond b (write ∷ []) []) (eq-eqb (seat_of write) (seat_of write) refl) in
    own_both writes (write ∷ []) (seat_of write) ∙ ap (λ (l : List Write). writes_of writes (seat_of write) ++ l) here

-- One of another seat isn't among them.
pub own_same : (write : Write) (writes : List Write) (seat : ℕ) → seat_of write ≢ seat
    → writes_of (writes ++ write ∷ []) seat ≡ writes_of writes seat
own_same write writes seat other =
    let none : writes_of (write ∷ []) seat ≡ [] = ap (λ (b : Bool). cond b (write ∷ []) []) (ne_eqb (seat_of write) seat other) in
    own_both writes (write ∷ []) seat ∙ ap (λ (l : List Write). writes_of writes seat ++ l) none ∙ append-nil (writes_of writes seat)

-- Those among a beginning begin those among all.
pub own_begin : (some all : List Write) (seat : ℕ) → IsPrefix some all → IsPrefix (writes_of some seat) (writes_of all seat)
own_begin some all seat begins =
    (writes_of begins.0 seat, sym (own_both some begins.0 seat) ∙ ap (λ (l : List Write). writes_of l seat) begins.1)
