-- What the last write of a seat says of its publication, and what the last writes of all seats say of `Entries`.
use Rattle.std.proofs.Common.{◌≡◌, ◌≢◌, ◌↔◌, ℕ, ◌==◌, Bool, true, false, cond, List, [], ◌∷◌, Option, Some, IsSomeAnd}
use Rattle.std.proofs.Common.{IsTrue, refl, sym, ap, subst, ◌∙◌, eqb}
use Rattle.std.proofs.lemmas.Bool.{eq-eqb, ne_eqb}
use Rattle.std.specs.List.{find, filter}
use Rattle.std.specs.Option.{option_map, option_and_then}
use Rattle.dt_machine.specs.Interest as interest
use Rattle.dt_machine.specs.Registry.{Registry}
use Rattle.dt_cred.specs.declared.firing.Firing.{Firing}
use Rattle.dt_chain.specs.IsAt.{EntriesAreAt}
use Rattle.dt_chain.specs.Kept.{slot_of}
use Rattle.dt_chain.specs.Lists.{is_seat_listed}
use Rattle.dt_chain.specs.Look.{IsLook, NamesFiring}
use Rattle.dt_chain.specs.Writes.{Write, Published, published, withdrawn, published_on}
use Rattle.dt_chain.specs.Writes.{seat_of, published_by, writes_of, last_write_of, SameLastWrites}
use Rattle.dt_chain.specs.declared.entries.Entries.{Entries}

left_after : (own : Bool) (write : Write) (earlier : Option Write)
    → option_and_then published_by (cond own (Some write) earlier)
    ≡ cond own (published_by write) (option_and_then published_by earlier)
left_after true write earlier = refl
left_after false write earlier = refl

-- What is published of a seat is what its last write leaves.
pub published_on-last : (writes : List Write) (seat : ℕ)
    → published_on writes seat ≡ option_and_then published_by (last_write_of writes seat)
published_on-last [] seat = refl
published_on-last (published at life account probes ∷ earlier) seat =
    rw (published_on-last earlier seat)
    (sym (left_after (at == seat) (published at life account probes) (last_write_of earlier seat)))
published_on-last (withdrawn at ∷ earlier) seat =
    rw (published_on-last earlier seat) (sym (left_after (at == seat) (withdrawn at) (last_write_of earlier seat)))

-- A write is the last one of its seat.
pub last_write_of-own : (write : Write) (writes : List Write)
    → last_write_of (write ∷ writes) (seat_of write) ≡ Some write
last_write_of-own write writes = rw (eq-eqb (seat_of write) (seat_of write) refl) refl

-- It doesn't touch the other seats.
pub last_write_of-other : (write : Write) (writes : List Write) (seat : ℕ) → seat_of write ≢ seat
    → last_write_of (write ∷ writes) seat ≡ last_write_of writes seat
last_write_of-other write writes seat other = rw (ne_eqb (seat_of write) seat other) refl

found_first : {A : Type 0} (test : A → Bool) (x : A) (xs : List A) (passes : Bool) → test x ≡ passes
    → find test (filter test xs) ≡ find test xs
    → find test (cond passes (x ∷ filter test xs) (filter test xs)) ≡ cond passes (Some x) (find test xs)
found_first test x xs true passes rest = rw passes refl
found_first test x xs false passes rest = rest

found_among : {A : Type 0} (test : A → Bool) (xs : List A) → find test (filter test xs) ≡ find test xs
found_among test [] = refl
found_among test (x ∷ xs) = found_first test x xs (test x) refl (found_among test xs)

-- Of all writes those of one seat alone say which is its last, and so what is published of it.
pub last_write_of-writes_of : (writes : List Write) (seat : ℕ)
    → last_write_of (writes_of writes seat) seat ≡ last_write_of writes seat
last_write_of-writes_of writes seat = found_among (λ write. eqb (seat_of write) seat) writes

pub published_on-writes_of : (writes : List Write) (seat : ℕ)
    → published_on (writes_of writes seat) seat ≡ published_on writes seat
published_on-writes_of writes seat =
    published_on-last (writes_of writes seat) seat
    ∙ ap (option_and_then published_by) (last_write_of-writes_of writes seat)
    ∙ sym (published_on-last writes seat)

-- Where each seat has the same last write, it has the same publication.
pub same_published : (writes others : List Write) → SameLastWrites writes others
    → (seat : ℕ) → published_on writes seat ≡ published_on others seat
same_published writes others same seat =
    published_on-last writes seat
    ∙ ap (option_and_then published_by) (same.each seat)
    ∙ sym (published_on-last others seat)

-- `Entries` at the end of one such history are at the end of the other.
pub same_entries : (writes others : List Write) (entries : Entries) → SameLastWrites writes others
    → EntriesAreAt writes entries → EntriesAreAt others entries
same_entries writes others entries same at =
    let alike = same_published writes others same in
    record {
      kept = λ seat. at.kept seat ∙ ap (option_map slot_of) (alike seat);
      listed = λ probe seat.
          let P : Option Published → Type 0 = λ publication.
          IsTrue (is_seat_listed entries.lists probe seat)
          ↔ IsSomeAnd publication (λ one. interest.Names one.probes probe) in
          subst P (alike seat) (at.listed probe seat);
    }

-- A look names the same after both.
pub same_looks : (registry : Registry) (writes others : List Write) (firing : Firing) (lives : ℕ → Option ℕ)
    → SameLastWrites writes others → IsLook registry writes firing lives → IsLook registry others firing lives
same_looks registry writes others firing lives same look =
    let alike = same_published writes others same in
    record {
      exactly = λ seat life.
          let P : Option Published → Type 0 = λ publication.
          (lives seat ≡ Some life)
          ↔ IsSomeAnd publication (λ one. (one.life ≡ life) × NamesFiring registry one firing) in
          subst P (alike seat) (look.exactly seat life);
    }

through : {P Q R : Type 0} → (P ↔ Q) → (P ↔ R) → (Q ↔ R)
through a b = (λ q. b.0 (a.1 q), λ r. a.0 (b.1 r))

-- Two `Entries` at the end of one history go on alike: where one is, the other is too.
pub copies_agree : (writes others : List Write) (some other : Entries)
    → EntriesAreAt writes some → EntriesAreAt writes other → EntriesAreAt others some → EntriesAreAt others other
copies_agree writes others some other a b c = record {
  kept = λ seat. b.kept seat ∙ sym (a.kept seat) ∙ c.kept seat;
  listed = λ probe seat.
      let own : IsSomeAnd (published_on writes seat) (λ one. interest.Names one.probes probe)
      ↔ IsSomeAnd (published_on others seat) (λ one. interest.Names one.probes probe) =
      through (a.listed probe seat) (c.listed probe seat) in
      (λ t. own.0 ((b.listed probe seat).0 t), λ n. (b.listed probe seat).1 (own.1 n));
}
