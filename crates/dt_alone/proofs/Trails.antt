-- A text is one trail at most.
use Rattle.std.proofs.Common.{◌≡◌, ℕ, ◌==◌, false, List, [], ◌∷◌, ◌++◌, length, drop, codes, append_assoc, refl, sym}
use Rattle.std.proofs.Common.{ap, ◌∙◌, subst, arith}
use Rattle.std.specs.List.{flat_map, AllByRecursion}
use Rattle.std.proofs.lemmas.List.{append-nil}
use Rattle.std.proofs.lemmas.Grind.{flat_map-append}
use Rattle.std.proofs.lemmas.List.Elements.{All-append, All-drop}
use Rattle.dt_proto.specs.Splits.{HasNoNewline}
use Rattle.dt_proto.specs.Trail.{WrittenItem, item_text, trail_text, IsWritable, SpellsTrail}
use Rattle.dt_alone.specs.Lent.{AreWrittenItems}
use Rattle.dt_alone.specs.Parts.{HasNo, IsCutAt}
use Rattle.dt_alone.proofs.Cuts.{Other, same_cut, line_then, none_in}
use Rattle.dt_alone.proofs.TrailItems.{same_item, item_long}

abbrev pub text_of : List WrittenItem → List ℕ
text_of items = flat_map item_text items

-- the text of items begins with that of those that are known
pub record IsRest (items : List WrittenItem) (rest : List ℕ) : Type 0 where
  pub more : List WrittenItem
  pub writable : AllByRecursion IsWritable more
  pub spelled : rest ≡ text_of more

no_end : (item : WrittenItem) (text rest : List ℕ) → [] ≡ (item_text item ++ text) ++ rest → ⊥
no_end item text rest e =
    let long = item_long item (text ++ rest) in
    let none = ap length (e ∙ append_assoc (item_text item) text rest) in
    omega arith

pub left_over : (known items : List WrittenItem) (rest : List ℕ) → AllByRecursion IsWritable known
    → AllByRecursion IsWritable items → text_of items ≡ text_of known ++ rest → IsRest items rest
left_over [] items rest h k e = record { more = items; writable = k; spelled = sym e }
left_over (a ∷ known) [] rest h k e = absurd (no_end a (text_of known) rest e)
left_over (a ∷ known) (b ∷ items) rest h k e =
    let both = same_item a b (text_of known ++ rest) (text_of items) h.0 k.0
    (sym (append_assoc (item_text a) (text_of known) rest) ∙ sym e) in
    let left = left_over known items rest h.1 k.1 (sym both.1) in
    record { more = left.more; writable = left.writable; spelled = left.spelled }

pub same_items : (a b : List WrittenItem) → AllByRecursion IsWritable a → AllByRecursion IsWritable b → text_of a
    ≡ text_of b → a ≡ b
same_items [] [] h k e = refl
same_items [] (y ∷ b) h k e =
    absurd (no_end y (text_of b) [] (e ∙ sym (append-nil (item_text y ++ text_of b))))
same_items (x ∷ a) [] h k e =
    absurd (no_end x (text_of a) [] (sym e ∙ sym (append-nil (item_text x ++ text_of a))))
same_items (x ∷ a) (y ∷ b) h k e =
    let both = same_item x y (text_of a) (text_of b) h.0 k.0 e in
    let first : x ≡ y = both.0 in
    let more : a ≡ b = same_items a b h.1 k.1 both.1 in
    cc

pub name_clean : (name : List ℕ) → HasNoNewline name → HasNo 10 (codes "account " ++ name)
name_clean name h = All-append (Other 10) (codes "account ") name (none_in 10 (codes "account ") refl) h

pub trail_whole : (name : List ℕ) (items : List WrittenItem) → trail_text name items
    ≡ (codes "account " ++ name) ++ (10 ∷ text_of items)
trail_whole name items = line_then (codes "account " ++ name) (text_of items)

-- a trail whose first line is this
pub trail_begins : (text first rest name : List ℕ) (items : List WrittenItem) → text ≡ first ++ (10 ∷ rest)
    → HasNo 10 first → SpellsTrail text name items → (first ≡ codes "account " ++ name) × (rest ≡ text_of items)
trail_begins text first rest name items cut clean h =
    same_cut 10 first (codes "account " ++ name) rest (text_of items) clean (name_clean name h.named)
    (sym cut ∙ h.spelled ∙ trail_whole name items)

pub same_trail : (text n m : List ℕ) (a b : List WrittenItem) → SpellsTrail text n a → SpellsTrail text m b
    → (n ≡ m) × (a ≡ b)
same_trail text n m a b h k =
    let both = trail_begins text (codes "account " ++ n) (text_of a) m b (h.spelled ∙ trail_whole n a)
    (name_clean n h.named) k in
    (ap (drop 8) both.0, same_items a b h.writable k.writable both.1)

pub all-one_more : (items : List WrittenItem) (item : WrittenItem) → AllByRecursion IsWritable items
    → IsWritable item
    → AllByRecursion IsWritable (items ++ item ∷ [])
all-one_more [] item all here = (here, tt)
all-one_more (first ∷ items) item all here = (all.0, all-one_more items item all.1 here)

-- the items so far, and one more
pub one_more : (text rest more : List ℕ) (items : List WrittenItem) (item : WrittenItem) → text
    ≡ text_of items ++ rest
    → rest ≡ item_text item ++ more → text ≡ text_of (items ++ item ∷ []) ++ more
one_more text rest more items item was is =
    was ∙ ap (λ left. text_of items ++ left) is
    ∙ sym (append_assoc (text_of items) (item_text item) more)
    ∙ ap (λ front. (text_of items ++ front) ++ more) (sym (append-nil (item_text item)))
    ∙ ap (λ front. front ++ more) (sym (flat_map-append item_text items (item ∷ [])))

-- what is left is something, and begins with no item
ended : (rest : List ℕ) (more : List WrittenItem) → AllByRecursion IsWritable more → rest ≡ text_of more
    → (rest ≡ [] → ⊥)
    → ((item : WrittenItem) (later : List ℕ) → IsWritable item → rest ≡ item_text item ++ later → ⊥) → ⊥
ended rest [] writable is some none = some is
ended rest (item ∷ more) writable is some none = none item (text_of more) writable.0 is

pub nothing_left : (text rest : List ℕ) (known items : List WrittenItem) → text ≡ text_of known ++ rest
    → AllByRecursion IsWritable known → (rest ≡ [] → ⊥)
    → ((item : WrittenItem) (later : List ℕ) → IsWritable item → rest ≡ item_text item ++ later → ⊥)
    → AreWrittenItems text items → ⊥
nothing_left text rest known items was writable some none h =
    let left = left_over known items rest writable h.writable (sym h.spelled ∙ was) in
    ended rest left.more left.writable left.spelled some none

pub not_empty : (rest : List ℕ) → false ≡ (length rest == 0) → rest ≡ [] → ⊥
not_empty [] h is = cc
not_empty (byte ∷ rest) h is = cc

-- A text is the trail of the name in its first line, and of the items after it.
pub spells : (text first rest name : List ℕ) (items : List WrittenItem) → IsCutAt 10 text first rest
    → first ≡ codes "account " ++ name → AreWrittenItems rest items → SpellsTrail text name items
spells text first rest name items cut line h = record {
  spelled = cut.whole ∙ ap (λ front. front ++ (10 ∷ rest)) line
      ∙ ap (λ back. (codes "account " ++ name) ++ (10 ∷ back)) h.spelled ∙ sym (trail_whole name items);
  named = All-drop (Other 10) 8 (codes "account " ++ name) (subst (HasNo 10) line cut.first);
  writable = h.writable;
}

-- Where a text is a trail, what comes after its first line are items.
pub items_after : (text first rest name : List ℕ) (items : List WrittenItem) → IsCutAt 10 text first rest
    → SpellsTrail text name items → AreWrittenItems rest items
items_after text first rest name items cut h = record {
  spelled = (trail_begins text first rest name items cut.whole cut.first h).1;
  writable = h.writable;
}
