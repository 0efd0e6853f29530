-- A text begins with one item at most.
use Rattle.std.proofs.Common.{◌≡◌, ℕ, ◌^◌, ◌<◌, List, [], ◌∷◌, ◌++◌, length, get_or, drop, codes, decimal, append_assoc}
use Rattle.std.proofs.Common.{refl, sym, ap, ◌∙◌, subst, arith}
use Rattle.std.proofs.lemmas.Fmt.{decimal_injective}
use Rattle.std.proofs.lemmas.List.{length-append}
use Rattle.std.proofs.lemmas.List.Elements.{All-append, All-drop}
use Rattle.dt_proto.specs.Splits.{HasNoNewline, with_newline}
use Rattle.dt_proto.specs.Trail.{WrittenItem, line_asked, long_asked, fired_at, item_text, reply_line, IsWritable}
use Rattle.dt_alone.specs.Parts.{HasNo, IsCutAt}
use Rattle.dt_alone.proofs.Cuts.{Other, same_cut, line_then, none_in}
use Rattle.dt_alone.proofs.Decimals.{decimal_no}

-- the two numbers of a firing
abbrev pub place_text : (cpu place : ℕ) → List ℕ
place_text cpu place = decimal cpu ++ (codes " " ++ decimal place)

-- the first line of an item, and its other lines
abbrev pub first_of : WrittenItem → List ℕ
first_of (line_asked line reply) = codes "line " ++ line
first_of (long_asked reply) = codes "long"
first_of (fired_at cpu place) = codes "fired " ++ place_text cpu place

abbrev pub more_of : WrittenItem → List ℕ
more_of (line_asked line reply) = reply_line reply
more_of (long_asked reply) = reply_line reply
more_of (fired_at cpu place) = []

two_lines : (first more rest : List ℕ) → (with_newline first ++ more) ++ rest ≡ first ++ (10 ∷ (more ++ rest))
two_lines first more rest = append_assoc (with_newline first) more rest ∙ line_then first (more ++ rest)

pub item_whole : (item : WrittenItem) (rest : List ℕ) → item_text item ++ rest
    ≡ first_of item ++ (10 ∷ (more_of item ++ rest))
item_whole (line_asked line reply) rest = two_lines (codes "line " ++ line) (reply_line reply) rest
item_whole (long_asked reply) rest = two_lines (codes "long") (reply_line reply) rest
item_whole (fired_at cpu place) rest = line_then (codes "fired " ++ place_text cpu place) rest

pub place_clean : (cpu place : ℕ) → cpu < 2 ^ 32 → place < 2 ^ 32 → HasNo 10 (place_text cpu place)
place_clean cpu place p q =
    All-append (Other 10) (decimal cpu) (codes " " ++ decimal place) (decimal_no 10 cpu (omega arith) p)
    (All-append (Other 10) (codes " ") (decimal place) (none_in 10 (codes " ") refl)
    (decimal_no 10 place (omega arith) q))

pub first_clean : (item : WrittenItem) → IsWritable item → HasNo 10 (first_of item)
first_clean (line_asked line reply) h =
    All-append (Other 10) (codes "line ") line (none_in 10 (codes "line ") refl) h.0
first_clean (long_asked reply) h = none_in 10 (codes "long") refl
first_clean (fired_at cpu place) h =
    All-append (Other 10) (codes "fired ") (place_text cpu place) (none_in 10 (codes "fired ") refl)
    (place_clean cpu place h.0 h.1)

-- a text whose first line is this, and that begins with an item
pub begins : (text first rest more : List ℕ) (item : WrittenItem) → text ≡ first ++ (10 ∷ rest) → HasNo 10 first
    → IsWritable item → text ≡ item_text item ++ more
    → (first ≡ first_of item) × (rest ≡ more_of item ++ more)
begins text first rest more item cut clean h is =
    same_cut 10 first (first_of item) rest (more_of item ++ more) clean (first_clean item h)
    (sym cut ∙ is ∙ item_whole item more)

at : (n : ℕ) (a b : List ℕ) → a ≡ b → get_or a n 0 ≡ get_or b n 0
at n a b e = ap (λ text. get_or text n 0) e

-- by its first line an item is one of a line, of a long line, or a firing
pub is_line : (line : List ℕ) (item : WrittenItem) → codes "line " ++ line ≡ first_of item
    → (reply : List ℕ) × (item ≡ line_asked line reply)
is_line line (line_asked other reply) e = (reply, ap (λ l. line_asked l reply) (sym (ap (drop 5) e)))
is_line line (long_asked reply) e = absurd (omega (arith, at 1 _ _ e))
is_line line (fired_at cpu place) e = absurd (omega (arith, at 0 _ _ e))

pub is_long : (item : WrittenItem) → codes "long" ≡ first_of item → (reply : List ℕ) × (item ≡ long_asked reply)
is_long (line_asked other reply) e = absurd (omega (arith, at 1 _ _ e))
is_long (long_asked reply) e = (reply, refl)
is_long (fired_at cpu place) e = absurd (omega (arith, at 0 _ _ e))

pub is_fired : (text : List ℕ) (item : WrittenItem) → codes "fired " ++ text ≡ first_of item
    → (cpu place : ℕ) × (item ≡ fired_at cpu place) × (text ≡ place_text cpu place)
is_fired text (line_asked other reply) e = absurd (omega (arith, at 0 _ _ e))
is_fired text (long_asked reply) e = absurd (omega (arith, at 0 _ _ e))
is_fired text (fired_at cpu place) e = (cpu, place, refl, ap (drop 6) e)

pub reply_clean : (reply : List ℕ) → HasNoNewline reply → HasNo 10 (codes "reply " ++ reply)
reply_clean reply h = All-append (Other 10) (codes "reply ") reply (none_in 10 (codes "reply ") refl) h

pub reply_whole : (reply rest : List ℕ) → reply_line reply ++ rest ≡ (codes "reply " ++ reply) ++ (10 ∷ rest)
reply_whole reply rest = line_then (codes "reply " ++ reply) rest

pub same_reply : (a b r s : List ℕ) → HasNoNewline a → HasNoNewline b → reply_line a ++ r ≡ reply_line b ++ s
    → (a ≡ b) × (r ≡ s)
same_reply a b r s p q e =
    let both = same_cut 10 (codes "reply " ++ a) (codes "reply " ++ b) r s (reply_clean a p) (reply_clean b q)
    (sym (reply_whole a r) ∙ e ∙ reply_whole b s) in
    (ap (drop 6) both.0, both.1)

-- two numbers, one blank apart, are two in one way
pub same_places : (c d p q : ℕ) → c < 2 ^ 32 → d < 2 ^ 32 → p < 2 ^ 32 → q < 2 ^ 32
    → place_text c p ≡ place_text d q → (c ≡ d) × (p ≡ q)
same_places c d p q hc hd hp hq e =
    let both = same_cut 32 (decimal c) (decimal d) (decimal p) (decimal q) (decimal_no 32 c (omega arith) hc)
    (decimal_no 32 d (omega arith) hd) e in (
      decimal_injective c d (omega arith) (omega arith) both.0,
      decimal_injective p q (omega arith) (omega arith) both.1,
    )

same_more : (a b : WrittenItem) (r s : List ℕ) → IsWritable a → IsWritable b → first_of a ≡ first_of b
    → more_of a ++ r ≡ more_of b ++ s → (a ≡ b) × (r ≡ s)
same_more (line_asked x t) (line_asked y u) r s h k e f =
    let line : x ≡ y = ap (drop 5) e in
    let replies = same_reply t u r s h.1 k.1 f in
    let reply : t ≡ u = replies.0 in
    (cc, replies.1)
same_more (long_asked t) (long_asked u) r s h k e f =
    let replies = same_reply t u r s h k f in
    (ap long_asked replies.0, replies.1)
same_more (fired_at c p) (fired_at d q) r s h k e f =
    let places = same_places c d p q h.0 k.0 h.1 k.1 (ap (drop 6) e) in
    let cpus : c ≡ d = places.0 in
    let both : p ≡ q = places.1 in
    (cc, f)
same_more (line_asked x t) (long_asked u) r s h k e f = absurd (omega (arith, at 1 _ _ e))
same_more (line_asked x t) (fired_at d q) r s h k e f = absurd (omega (arith, at 0 _ _ e))
same_more (long_asked t) (line_asked y u) r s h k e f = absurd (omega (arith, at 1 _ _ e))
same_more (long_asked t) (fired_at d q) r s h k e f = absurd (omega (arith, at 0 _ _ e))
same_more (fired_at c p) (line_asked y u) r s h k e f = absurd (omega (arith, at 0 _ _ e))
same_more (fired_at c p) (long_asked u) r s h k e f = absurd (omega (arith, at 0 _ _ e))

pub same_item : (a b : WrittenItem) (r s : List ℕ) → IsWritable a → IsWritable b → item_text a ++ r
    ≡ item_text b ++ s
    → (a ≡ b) × (r ≡ s)
same_item a b r s h k e =
    let both = begins (item_text a ++ r) (first_of a) (more_of a ++ r) s b (item_whole a r) (first_clean a h) k e in
    same_more a b r s h k both.0 both.1

-- an item has a newline at least
pub item_long : (item : WrittenItem) (rest : List ℕ) → length rest < length (item_text item ++ rest)
item_long item rest =
    let whole = ap length (item_whole item rest) ∙ length-append (first_of item) (10 ∷ (more_of item ++ rest)) in
    omega (arith, whole, length-append (more_of item) rest)

-- What a text begins with whose first line is known: an item, or none.
module _ (text first rest : List ℕ) (cut : IsCutAt 10 text first rest) where
  abbrev Starts : WrittenItem → List ℕ → Type 0
  Starts item more = IsWritable item × (text ≡ item_text item ++ more)

  started : (item : WrittenItem) (more : List ℕ) → IsWritable item → first ≡ first_of item → rest
      ≡ more_of item ++ more
      → Starts item more
  started item more h line later = (
    h,
    cut.whole ∙ ap (λ front. front ++ (10 ∷ rest)) line ∙ ap (λ back. first_of item ++ (10 ∷ back)) later
        ∙ sym (item_whole item more),
  )

  pub starts_line : (line reply more : List ℕ) → first ≡ codes "line " ++ line
      → HasNoNewline reply × (rest ≡ reply_line reply ++ more) → Starts (line_asked line reply) more
  starts_line line reply more is h =
      started (line_asked line reply) more
      (All-drop (Other 10) 5 (codes "line " ++ line) (subst (HasNo 10) is cut.first), h.0) is h.1

  pub starts_long : (reply more : List ℕ) → first ≡ codes "long" → HasNoNewline reply
      × (rest ≡ reply_line reply ++ more) → Starts (long_asked reply) more
  starts_long reply more is h = started (long_asked reply) more h.0 is h.1

  pub starts_fired : (cpu place : ℕ) (places : List ℕ) → first ≡ codes "fired " ++ places
      → (cpu < 2 ^ 32) × (place < 2 ^ 32) × (places ≡ place_text cpu place) → Starts (fired_at cpu place) rest
  starts_fired cpu place places is h =
      started (fired_at cpu place) rest (h.0, h.1) (is ∙ ap (λ more. codes "fired " ++ more) h.2) refl

  abbrev StartsNone : Type 0
  StartsNone = (item : WrittenItem) (more : List ℕ) → IsWritable item → text ≡ item_text item ++ more → ⊥

  pub no_line : (line : List ℕ) → first ≡ codes "line " ++ line
      → ((reply more : List ℕ) → HasNoNewline reply → rest ≡ reply_line reply ++ more → ⊥) → StartsNone
  no_line line whole none item more h is =
      let both = begins text first rest more item cut.whole cut.first h is in
      let found = is_line line item (sym whole ∙ both.0) in
      none found.0 more (subst IsWritable found.1 h).1 (both.1 ∙ ap (λ e. more_of e ++ more) found.1)

  pub no_long : first ≡ codes "long"
      → ((reply more : List ℕ) → HasNoNewline reply → rest ≡ reply_line reply ++ more → ⊥) → StartsNone
  no_long whole none item more h is =
      let both = begins text first rest more item cut.whole cut.first h is in
      let found = is_long item (sym whole ∙ both.0) in
      none found.0 more (subst IsWritable found.1 h) (both.1 ∙ ap (λ e. more_of e ++ more) found.1)

  pub no_fired : (places : List ℕ) → first ≡ codes "fired " ++ places
      → ((cpu place : ℕ) → cpu < 2 ^ 32 → place < 2 ^ 32 → places ≡ place_text cpu place → ⊥) → StartsNone
  no_fired places whole none item more h is =
      let both = begins text first rest more item cut.whole cut.first h is in
      let found = is_fired places item (sym whole ∙ both.0) in
      let writable = subst IsWritable found.2 h in
      none found.0 found.1 writable.0 writable.1 found.3

  no_kind : ((line : List ℕ) → first ≡ codes "line " ++ line → ⊥) → (first ≡ codes "long" → ⊥)
      → ((places : List ℕ) → first ≡ codes "fired " ++ places → ⊥) → (item : WrittenItem) → first ≡ first_of item → ⊥
  no_kind line long fired (line_asked l reply) is = line l is
  no_kind line long fired (long_asked reply) is = long is
  no_kind line long fired (fired_at cpu place) is = fired (place_text cpu place) is

  pub no_item : ((line : List ℕ) → first ≡ codes "line " ++ line → ⊥) → (first ≡ codes "long" → ⊥)
      → ((places : List ℕ) → first ≡ codes "fired " ++ places → ⊥) → StartsNone
  no_item line long fired item more h is =
      let both = begins text first rest more item cut.whole cut.first h is in
      no_kind line long fired item both.0
