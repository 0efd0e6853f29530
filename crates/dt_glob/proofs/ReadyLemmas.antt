-- How a pattern is made ready, and what its places say as a text is read from its end.
use Rattle.std.proofs.Common.{◌≡◌, ◌≢◌, ℕ, ◌+◌, ◌*◌, ◌/◌, ◌%◌, ◌^◌, ◌<◌, ◌≤◌, ◌&&◌, ◌||◌, min, max, Bool, true, false}
use Rattle.std.proofs.Common.{List, [], ◌∷◌, ◌++◌, length, cond, refl, sym, ap, ◌∙◌, append_assoc, append-nil, arith, slice_index, nat_eq, get_or, set, below_more, get_or-set_other, get_or-set_same}
use Rattle.std.proofs.lemmas.Bool.{false≢true}
use Rattle.std.proofs.Math.Seq.{get_or-append_seam}
use Rattle.std.proofs.Math.Nat.{pow-le-pow_right}
use Rattle.std.proofs.lemmas.Nat.{pow-add, and_shr, or_shr, or_block, or_disjoint, or_comm, and_le_l, and_mask}
use Rattle.std.proofs.lemmas.Nat.Bits.{bit_at_lowest, bit_at_and, bit_at_or, same_from_bits}
use Rattle.std.specs.Int.Bits.{bit_and, bit_or}
use Rattle.dt_glob.specs.PatternItem.{PatternItem, Star, AnyByte, Literal, OneOf}
use Rattle.dt_glob.specs.Spells.{Spells}
use Rattle.dt_glob.specs.Test.{takes, is_match}
use Rattle.dt_glob.specs.Ready.{one_if, takers_of, stars_of, end_of, IsMadeReady}

-- ---- one byte more in front
abbrev pub step : ℕ → ℕ → ℕ → ℕ
step takers stars places = bit_or (bit_and (places / 2) takers) (bit_and places stars)

-- the places from where the rest of the pattern matches a text
abbrev pub places_at : (ℕ → ℕ) → ℕ → ℕ → List ℕ → ℕ
places_at takers stars end [] = end
places_at takers stars end (byte ∷ rest) = step (takers byte) stars (places_at takers stars end rest)

low_and : (a b : ℕ) → bit_and a b % 2 ≡ min (a % 2) (b % 2)
low_and a b = sym (bit_at_lowest (bit_and a b)) ∙ bit_at_and a b 0 ∙ cc (bit_at_lowest a, bit_at_lowest b)

low_or : (a b : ℕ) → bit_or a b % 2 ≡ max (a % 2) (b % 2)
low_or a b = sym (bit_at_lowest (bit_or a b)) ∙ bit_at_or a b 0 ∙ cc (bit_at_lowest a, bit_at_lowest b)

and_zero : (a : ℕ) → bit_and 0 a ≡ 0
and_zero a = let k = and_le_l 0 a in omega arith

zero_or : (a : ℕ) → bit_or 0 a ≡ a
zero_or a = or_disjoint 0 a (and_zero a) ∙ omega arith

or_assoc : (a b c : ℕ) → bit_or (bit_or a b) c ≡ bit_or a (bit_or b c)
or_assoc a b c =
    same_from_bits (bit_or (bit_or a b) c) (bit_or a (bit_or b c))
    (λ i. omega (arith, bit_at_or (bit_or a b) c i, bit_at_or a b i, bit_at_or a (bit_or b c) i, bit_at_or b c i))

twice_or : (a b : ℕ) → bit_or (2 * a) (2 * b) ≡ 2 * bit_or a b
twice_or a b = let k = or_block 1 a b 0 0 (omega arith) (omega arith) in
    let x : 2 * a ≡ a * 2 + 0 = omega arith in
    let y : 2 * b ≡ b * 2 + 0 = omega arith in
    rw (x, y) (k ∙ omega (arith, zero_or 0))

half_step : (takers stars places : ℕ) → step takers stars places / 2 ≡ step (takers / 2) (stars / 2) (places / 2)
half_step takers stars places =
    or_shr (bit_and (places / 2) takers) (bit_and places stars) 1
    ∙ cc (and_shr (places / 2) takers 1, and_shr places stars 1)

low_step : (takers stars places : ℕ) → step takers stars places % 2
    ≡ max (min (places / 2 % 2) (takers % 2)) (min (places % 2) (stars % 2))
low_step takers stars places =
    low_or (bit_and (places / 2) takers) (bit_and places stars)
    ∙ cc (low_and (places / 2) takers, low_and places stars)

-- from no place, whatever stands in front
none_step : (takers stars : ℕ) → step takers stars 0 ≡ 0
none_step takers stars =
    ap (λ n. bit_or n (bit_and 0 stars)) (and_zero takers) ∙ zero_or (bit_and 0 stars) ∙ and_zero stars

pub none_in_front : (takers : ℕ → ℕ) (stars end : ℕ) (front back : List ℕ) → places_at takers stars end back ≡ 0
    → places_at takers stars end (front ++ back) ≡ 0
none_in_front takers stars end [] back e = e
none_in_front takers stars end (byte ∷ front) back e =
    ap (step (takers byte) stars) (none_in_front takers stars end front back e) ∙ none_step (takers byte) stars

-- ---- an item that takes a byte, in front
half_bit : (b : Bool) (n : ℕ) → (one_if b + 2 * n) / 2 ≡ n
half_bit true n = omega arith
half_bit false n = omega arith

low_bit : (b : Bool) (n : ℕ) → (one_if b + 2 * n) % 2 ≡ one_if b
low_bit true n = omega arith
low_bit false n = omega arith

half_twice : (n : ℕ) → 2 * n / 2 ≡ n
half_twice n = omega arith

half_item : (first : ℕ → Bool) (takers : ℕ → ℕ) (stars end : ℕ) (text : List ℕ)
    → places_at (λ byte. one_if (first byte) + 2 * takers byte) (2 * stars) (2 * end) text / 2
    ≡ places_at takers stars end text
half_item first takers stars end [] = half_twice end
half_item first takers stars end (byte ∷ rest) =
    let more = half_item first takers stars end rest in
    half_step (one_if (first byte) + 2 * takers byte) (2 * stars)
    (places_at (λ byte. one_if (first byte) + 2 * takers byte) (2 * stars) (2 * end) rest)
    ∙ cc (half_bit (first byte) (takers byte), half_twice stars, more)

both_bits : (a b : Bool) (x y n : ℕ) → x ≡ one_if b → y ≡ one_if a → max (min x y) (min n 0) ≡ one_if (a && b)
both_bits true true x y n e f = omega arith
both_bits true false x y n e f = omega arith
both_bits false true x y n e f = omega arith
both_bits false false x y n e f = omega arith

low_item : (first : ℕ → Bool) (takers : ℕ → ℕ) (stars end : ℕ) (byte : ℕ) (rest : List ℕ) (later : Bool)
    → places_at takers stars end rest % 2 ≡ one_if later
    → places_at (λ byte. one_if (first byte) + 2 * takers byte) (2 * stars) (2 * end) (byte ∷ rest) % 2
    ≡ one_if (first byte && later)
low_item first takers stars end byte rest later e =
    let places = places_at (λ byte. one_if (first byte) + 2 * takers byte) (2 * stars) (2 * end) rest in
    let half : places / 2 ≡ places_at takers stars end rest = half_item first takers stars end rest in
    let even : 2 * stars % 2 ≡ 0 = omega arith in
    low_step (one_if (first byte) + 2 * takers byte) (2 * stars) places
    ∙ ap (λ n. max (min (places / 2 % 2) ((one_if (first byte) + 2 * takers byte) % 2)) (min (places % 2) n)) even
    ∙ both_bits (first byte) later (places / 2 % 2) ((one_if (first byte) + 2 * takers byte) % 2) (places % 2)
    (ap (λ n. n % 2) half ∙ e) (low_bit (first byte) (takers byte))

-- ---- a star in front
half_star : (takers : ℕ → ℕ) (stars end : ℕ) (text : List ℕ) → places_at takers (bit_or 1 stars) end text / 2
    ≡ places_at takers stars end text / 2
half_star takers stars end [] = refl
half_star takers stars end (byte ∷ rest) =
    let more = half_star takers stars end rest in
    let half : bit_or 1 stars / 2 ≡ stars / 2 = or_shr 1 stars 1 ∙ zero_or (stars / 2) in
    half_step (takers byte) (bit_or 1 stars) (places_at takers (bit_or 1 stars) end rest)
    ∙ cc (half, more)
    ∙ sym (half_step (takers byte) stars (places_at takers stars end rest))

star_bits : (x s : ℕ) (here later star : Bool) → x ≤ 1 → (later ≡ true → star ≡ true)
    → max x (min (one_if later) s) ≡ one_if here → max x (min (one_if star) 1) ≡ one_if (here || star)
star_bits x s true later star b k e = grind arith
star_bits x s false later true b k e = omega arith
star_bits x s false true false b k e = absurd (false≢true (k refl))
star_bits x s false false false b k e = omega arith

star_none : (items : List PatternItem) (text : List ℕ) → is_match items text ≡ true
    → is_match (Star ∷ items) text ≡ true
star_none items [] e = e
star_none items (byte ∷ rest) e = ap (λ b. b || is_match (Star ∷ items) rest) e

abbrev LowAt : List PatternItem → List ℕ → Type 0
LowAt items text = places_at (takers_of items) (stars_of items) (end_of items) text % 2 ≡ one_if (is_match items text)

low_star : (items : List PatternItem) → ((text : List ℕ) → LowAt items text) → (text : List ℕ) → LowAt (Star ∷ items) text
low_star items low [] = low []
low_star items low (byte ∷ rest) =
    let takers = takers_of items in
    let stars = stars_of items in
    let here = places_at takers stars (end_of items) rest in
    let starred = places_at takers (bit_or 1 stars) (end_of items) rest in
    let half : starred / 2 ≡ here / 2 = half_star takers stars (end_of items) rest in
    let one : bit_or 1 stars % 2 ≡ 1 = omega (arith, low_or 1 stars) in
    let x = min (here / 2 % 2) (takers byte % 2) in
    let small : x ≤ 1 = omega arith in
    let is : max x (min (one_if (is_match items rest)) (stars % 2)) ≡ one_if (is_match items (byte ∷ rest)) =
    ap (λ n. max x (min n (stars % 2))) (sym (low rest)) ∙ sym (low_step (takers byte) stars here) ∙ low (byte ∷ rest) in
    low_step (takers byte) (bit_or 1 stars) starred
    ∙ cc (half, one, low_star items low rest)
    ∙ star_bits x (stars % 2) (is_match items (byte ∷ rest)) (is_match items rest) (is_match (Star ∷ items) rest) small
    (star_none items rest) is

-- ---- what the lowest place says
even_end : (n : ℕ) → 2 * n % 2 ≡ 0
even_end n = omega arith

pub low_place : (items : List PatternItem) (text : List ℕ) → LowAt items text
low_place [] [] = refl
low_place [] (byte ∷ rest) = low_step 0 0 (places_at (λ byte. 0) 0 1 rest) ∙ omega arith
low_place (Star ∷ items) text = low_star items (low_place items) text
low_place (AnyByte ∷ items) [] = even_end (end_of items)
low_place (AnyByte ∷ items) (byte ∷ rest) =
    low_item (takes AnyByte) (takers_of items) (stars_of items) (end_of items) byte rest (is_match items rest)
    (low_place items rest)
low_place (Literal own ∷ items) [] = even_end (end_of items)
low_place (Literal own ∷ items) (byte ∷ rest) =
    low_item (takes (Literal own)) (takers_of items) (stars_of items) (end_of items) byte rest (is_match items rest)
    (low_place items rest)
low_place (OneOf negated elements ∷ items) [] = even_end (end_of items)
low_place (OneOf negated elements ∷ items) (byte ∷ rest) =
    low_item (takes (OneOf negated elements)) (takers_of items) (stars_of items) (end_of items) byte rest
    (is_match items rest) (low_place items rest)

-- ---- one item more, behind the others
end_star : (front : List PatternItem) → end_of (front ++ Star ∷ []) ≡ end_of front
end_star [] = refl
end_star (Star ∷ front) = end_star front
end_star (AnyByte ∷ front) = ap (λ n. 2 * n) (end_star front)
end_star (Literal own ∷ front) = ap (λ n. 2 * n) (end_star front)
end_star (OneOf negated elements ∷ front) = ap (λ n. 2 * n) (end_star front)

takers_star : (front : List PatternItem) (byte : ℕ) → takers_of (front ++ Star ∷ []) byte ≡ takers_of front byte
takers_star [] byte = refl
takers_star (Star ∷ front) byte = takers_star front byte
takers_star (AnyByte ∷ front) byte = ap (λ n. 1 + 2 * n) (takers_star front byte)
takers_star (Literal own ∷ front) byte = ap (λ n. one_if (takes (Literal own) byte) + 2 * n) (takers_star front byte)
takers_star (OneOf negated elements ∷ front) byte =
    ap (λ n. one_if (takes (OneOf negated elements) byte) + 2 * n) (takers_star front byte)

stars_star : (front : List PatternItem) → stars_of (front ++ Star ∷ []) ≡ bit_or (stars_of front) (end_of front)
stars_star [] = or_comm 1 0
stars_star (Star ∷ front) =
    ap (bit_or 1) (stars_star front) ∙ sym (or_assoc 1 (stars_of front) (end_of front))
stars_star (AnyByte ∷ front) = ap (λ n. 2 * n) (stars_star front) ∙ sym (twice_or (stars_of front) (end_of front))
stars_star (Literal own ∷ front) = ap (λ n. 2 * n) (stars_star front) ∙ sym (twice_or (stars_of front) (end_of front))
stars_star (OneOf negated elements ∷ front) =
    ap (λ n. 2 * n) (stars_star front) ∙ sym (twice_or (stars_of front) (end_of front))

-- an item that takes a byte shifts those behind it by one place
pub record IsTaker (item : PatternItem) : Type 0 where
  pub ends : (items : List PatternItem) → end_of (item ∷ items) ≡ 2 * end_of items
  pub stars : (items : List PatternItem) → stars_of (item ∷ items) ≡ 2 * stars_of items
  pub takers : (items : List PatternItem) (byte : ℕ)
      → takers_of (item ∷ items) byte ≡ one_if (takes item byte) + 2 * takers_of items byte

pub is_taker : (item : PatternItem) → item ≢ Star → IsTaker item
is_taker Star n = absurd (n refl)
is_taker AnyByte n = record { ends = λ items. refl; stars = λ items. refl; takers = λ items byte. refl }
is_taker (Literal own) n = record { ends = λ items. refl; stars = λ items. refl; takers = λ items byte. refl }
is_taker (OneOf negated elements) n =
    record { ends = λ items. refl; stars = λ items. refl; takers = λ items byte. refl }

module _ (item : PatternItem) (is : IsTaker item) where
  end_taker : (front : List PatternItem) → end_of (front ++ item ∷ []) ≡ 2 * end_of front
  end_taker [] = is.ends []
  end_taker (Star ∷ front) = end_taker front
  end_taker (AnyByte ∷ front) = ap (λ n. 2 * n) (end_taker front)
  end_taker (Literal own ∷ front) = ap (λ n. 2 * n) (end_taker front)
  end_taker (OneOf negated elements ∷ front) = ap (λ n. 2 * n) (end_taker front)

  stars_taker : (front : List PatternItem) → stars_of (front ++ item ∷ []) ≡ stars_of front
  stars_taker [] = is.stars []
  stars_taker (Star ∷ front) = ap (bit_or 1) (stars_taker front)
  stars_taker (AnyByte ∷ front) = ap (λ n. 2 * n) (stars_taker front)
  stars_taker (Literal own ∷ front) = ap (λ n. 2 * n) (stars_taker front)
  stars_taker (OneOf negated elements ∷ front) = ap (λ n. 2 * n) (stars_taker front)

  taker_shifted : (b t : Bool) (whole rest end : ℕ) → whole ≡ rest + cond t end 0
      → one_if b + 2 * whole ≡ one_if b + 2 * rest + cond t (2 * end) 0
  taker_shifted b true whole rest end e = omega arith
  taker_shifted b false whole rest end e = omega arith

  first_taker : (t : Bool) (n : ℕ) → n ≡ one_if t + 2 * 0 → n ≡ 0 + cond t 1 0
  first_taker true n e = e
  first_taker false n e = e

  takers_taker : (front : List PatternItem) (byte : ℕ) → takers_of (front ++ item ∷ []) byte
      ≡ takers_of front byte + cond (takes item byte) (end_of front) 0
  takers_taker [] byte = first_taker (takes item byte) (takers_of (item ∷ []) byte) (is.takers [] byte)
  takers_taker (Star ∷ front) byte = takers_taker front byte
  takers_taker (AnyByte ∷ front) byte =
      taker_shifted true (takes item byte) _ _ (end_of front) (takers_taker front byte)
  takers_taker (Literal own ∷ front) byte =
      taker_shifted (takes (Literal own) byte) (takes item byte) _ _ (end_of front) (takers_taker front byte)
  takers_taker (OneOf negated elements ∷ front) byte =
      taker_shifted (takes (OneOf negated elements) byte) (takes item byte) _ _ (end_of front)
      (takers_taker front byte)

bit_small : (b : Bool) → one_if b ≤ 1
bit_small true = omega arith
bit_small false = omega arith

pub takers_below : (items : List PatternItem) (byte : ℕ) → takers_of items byte < end_of items
takers_below [] byte = omega arith
takers_below (Star ∷ items) byte = takers_below items byte
takers_below (AnyByte ∷ items) byte = omega (arith, takers_below items byte)
takers_below (Literal own ∷ items) byte =
    omega (arith, takers_below items byte, bit_small (takes (Literal own) byte))
takers_below (OneOf negated elements ∷ items) byte =
    omega (arith, takers_below items byte, bit_small (takes (OneOf negated elements) byte))

-- how far the making is
pub record GetsReady (items : List PatternItem) (unread takers : List ℕ) (stars place : ℕ) : Type 0 where
  pub front : List PatternItem
  pub tail : List PatternItem
  pub power : ℕ
  pub items_are : items ≡ front ++ tail
  pub spells : Spells unread tail
  pub ready : IsMadeReady front takers stars place
  pub place_is : place ≡ 2 ^ power
  pub few : power + length unread ≤ 63

pub ready_first : (items : List PatternItem) (text takers : List ℕ) → Spells text items → length text ≤ 63
    → ((byte : ℕ) → byte < 256 → slice_index takers byte ≡ 0) → GetsReady items text takers 0 1
ready_first items text takers s few none = record {
  front = [];
  tail = items;
  power = 0;
  items_are = refl;
  spells = s;
  ready = record { takers_are = none; stars_are = refl; end_is = refl };
  place_is = refl;
  few = omega arith;
}

pub ready_star : (items : List PatternItem) (unread takers : List ℕ) (stars place : ℕ)
    (h : GetsReady items unread takers stars place) (tail : List PatternItem) (behind : List ℕ)
    → h.tail ≡ Star ∷ tail → Spells behind tail → length behind < length unread
    → GetsReady items behind takers (bit_or stars place) place
ready_star items unread takers stars place h tail behind e s less = record {
  front = h.front ++ Star ∷ [];
  tail = tail;
  power = h.power;
  items_are = h.items_are ∙ ap (λ (s : List PatternItem). h.front ++ s) e ∙ sym (append_assoc h.front (Star ∷ []) tail);
  spells = s;
  ready = record {
    takers_are = λ byte k. h.ready.takers_are byte k ∙ sym (takers_star h.front byte);
    stars_are = cc (h.ready.stars_are, h.ready.end_is, stars_star h.front);
    end_is = h.ready.end_is ∙ sym (end_star h.front);
  };
  place_is = h.place_is;
  few = omega (arith, h.few);
}

pub ready_taker : (items : List PatternItem) (unread takers : List ℕ) (stars place : ℕ)
    (h : GetsReady items unread takers stars place) (item : PatternItem) (tail : List PatternItem)
    (behind more : List ℕ) → h.tail ≡ item ∷ tail → item ≢ Star → Spells behind tail → length behind < length unread
    → ((byte : ℕ) → byte < 256 → slice_index more byte ≡ slice_index takers byte + cond (takes item byte) place 0)
    → GetsReady items behind more stars (place * 2)
ready_taker items unread takers stars place h item tail behind more e n s less added =
    let is = is_taker item n in record {
      front = h.front ++ item ∷ [];
      tail = tail;
      power = h.power + 1;
      items_are = h.items_are ∙ ap (λ (s : List PatternItem). h.front ++ s) e
          ∙ sym (append_assoc h.front (item ∷ []) tail);
      spells = s;
      ready = record {
        takers_are = λ byte k. added byte k
            ∙ cc (h.ready.takers_are byte k, h.ready.end_is, takers_taker item is h.front byte);
        stars_are = h.ready.stars_are ∙ sym (stars_taker item is h.front);
        end_is = omega (arith, h.ready.end_is, end_taker item is h.front);
      };
      place_is = ap (λ n. n * 2) h.place_is ∙ sym (pow-add 2 h.power 1);
      few = omega (arith, h.few);
    }

-- the places fit 64 bits, and so do the items that take a byte
pub place_fits : (items : List PatternItem) (unread takers : List ℕ) (stars place : ℕ)
    → GetsReady items unread takers stars place → 0 < length unread → place * 2 < 2 ^ 64
place_fits items unread takers stars place h some =
    let low = pow-le-pow_right {n = 2} (omega arith) {i = h.power} {j = 62} (omega (arith, h.few)) in
    omega (arith, h.place_is)

pub takers_fit : (items : List PatternItem) (unread takers : List ℕ) (stars place : ℕ)
    → GetsReady items unread takers stars place → 0 < length unread
    → (byte : ℕ) → byte < 256 → slice_index takers byte + place < 2 ^ 64
takers_fit items unread takers stars place h some byte k =
    omega (
      arith,
      place_fits items unread takers stars place h some,
      h.ready.takers_are byte k,
      h.ready.end_is,
      takers_below h.front byte,
    )

pub ready_whole : (items : List PatternItem) (unread takers : List ℕ) (stars place : ℕ)
    (h : GetsReady items unread takers stars place) → h.tail ≡ [] → IsMadeReady items takers stars place
ready_whole items unread takers stars place h e =
    let whole : items ≡ h.front = h.items_are ∙ ap (λ (s : List PatternItem). h.front ++ s) e ∙ append-nil h.front in
    rw whole h.ready

-- ---- the text's bytes, from the last
pub byte_of_text : (text front back : List ℕ) (byte : ℕ) → text ≡ front ++ byte ∷ back
    → ((i : ℕ) → get_or text i 0 < 256) → byte < 256
byte_of_text text front back byte e small =
    let here : get_or text (length front) 0 ≡ byte =
    ap (λ s. get_or s (length front) 0) e ∙ get_or-append_seam front byte back 0 in
    rw here at (small (length front))

pub stepped : (items : List PatternItem) (takers : List ℕ) (stars end places byte : ℕ) (back : List ℕ)
    → IsMadeReady items takers stars end → byte < 256
    → places ≡ places_at (takers_of items) (stars_of items) (end_of items) back
    → bit_or (bit_and (places / 2) (get_or takers byte 0)) (bit_and places stars)
    ≡ places_at (takers_of items) (stars_of items) (end_of items) (byte ∷ back)
stepped items takers stars end places byte back h small e =
    let now : get_or takers byte 0 ≡ takers_of items byte = h.takers_are byte small in
    cc (now, h.stars_are, e)

pub matched_by_low : (items : List PatternItem) (text : List ℕ) (places : ℕ)
    → places ≡ places_at (takers_of items) (stars_of items) (end_of items) text
    → nat_eq (bit_and places 1) 1 ≡ is_match items text
matched_by_low items text places e =
    ap (λ n. nat_eq n 1) (and_mask places 1 ∙ ap (λ n. n % 2) e ∙ low_place items text) ∙ bit_is (is_match items text)
  where
    bit_is : (b : Bool) → nat_eq (one_if b) 1 ≡ b
    bit_is true = refl
    bit_is false = refl

pub failed_by_none : (items : List PatternItem) (front back : List ℕ)
    → 0 ≡ places_at (takers_of items) (stars_of items) (end_of items) back → false ≡ is_match items (front ++ back)
failed_by_none items front back e =
    matched_by_low items (front ++ back) 0
    (sym (none_in_front (takers_of items) (stars_of items) (end_of items) front back (sym e)))

-- ---- one byte more has the item's number, or not
pub taken_more : (old now new : List ℕ) (place byte : ℕ) (is_taken : ℕ → Bool) → byte < length now
    → new ≡ set now byte (get_or now byte 0 + place) → is_taken byte ≡ true
    → ((k : ℕ) → k < byte → slice_index now k ≡ slice_index old k + cond (is_taken k) place 0)
    → ((k : ℕ) → byte ≤ k → slice_index now k ≡ slice_index old k)
    → (k : ℕ) → k < byte + 1 → slice_index new k ≡ slice_index old k + cond (is_taken k) place 0
taken_more old now new place byte is_taken within e taken below later =
    below_more (λ k. slice_index new k ≡ slice_index old k + cond (is_taken k) place 0) byte
    (λ k lt. rw e (get_or-set_other now byte k _ 0 (λ same. omega arith) ∙ below k lt))
    (rw (e, taken) (get_or-set_same now byte _ 0 within ∙ ap (λ n. n + place) (later byte (omega arith))))

pub not_taken_more : (old now new : List ℕ) (place byte : ℕ) (is_taken : ℕ → Bool) → new ≡ now → is_taken byte ≡ false
    → ((k : ℕ) → k < byte → slice_index now k ≡ slice_index old k + cond (is_taken k) place 0)
    → ((k : ℕ) → byte ≤ k → slice_index now k ≡ slice_index old k)
    → (k : ℕ) → k < byte + 1 → slice_index new k ≡ slice_index old k + cond (is_taken k) place 0
not_taken_more old now new place byte is_taken e not below later =
    below_more (λ k. slice_index new k ≡ slice_index old k + cond (is_taken k) place 0) byte
    (λ k lt. rw e (below k lt))
    (rw (e, not) (later byte (omega arith) ∙ omega arith))
