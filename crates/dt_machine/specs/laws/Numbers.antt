-- The numbers of a JSON value that a text is have 64 bits, and so have those of the rows that it gives.
use Rattle.std.proofs.Common.{◌≡◌, ℕ, zero, suc, ◌-◌, ◌^◌, ◌<◌, ◌≤◌, ◌&&◌, ◌++◌, Bool, true, false, cond, List, [], ◌∷◌}
use Rattle.std.proofs.Common.{Option, Some, None, IfSome, ℤ, pos, neg_ℤ, Float, FitsSigned, codes, map, length, replicate}
use Rattle.std.proofs.Common.{nat_lt, nat_le, option_map, option_and_then, slice_get, slice_index, drop, refl, subst, arith}
use Rattle.std.proofs.Common.{lit<, ltb-true, leb-true, ◌==◌, Ordering, Less, Equal, Greater}
use Rattle.std.proofs.lemmas.Bool.{and_parts}
use Rattle.std.specs.Float.Numeral.{Parts, minus, numeral_digits, scan_numeral}
use Rattle.std.specs.Int.{w64}
use Rattle.std.specs.List.{AllByRecursion}
use Rattle.std.specs.Option.{option_map_or}
use Rattle.std.specs.Ordering.{nat_cmp, match_ordering}
use Rattle.std.specs.Prelude.{unwrap_or}
use Rattle.std.specs.Cmp.Lexicographic.{slice_cmp}
use Rattle.json.specs.Json as json
use Rattle.json.specs.Lex.{tokens}
use Rattle.serde_json.specs.Data.{Num, unsigned, negative, float, Data, null, boolean, number, string, array, object}
use Rattle.serde_json.specs.Data.{Items, no_items, item, Members, no_members, member, put}
use Rattle.serde_json.specs.Find.{get, get_member}
use Rattle.serde_json.specs.Read.{is_integer, float_of, number_from, number_of, of_json, of_items, of_members, max_depth, read}
use Rattle.dt_machine.specs.Bounds.{IsFrameInBounds}
use Rattle.dt_machine.specs.Given as given
use Rattle.dt_machine.specs.Given.{list_of, items_of, list_at}
use Rattle.dt_machine.specs.Reading.{scripts_in}
use Rattle.dt_machine.specs.Rows.{FiringRow, firing_row, script_rows, number_in, arguments, frames}
use Rattle.dt_cred.specs.Limits.{argument_count, frame_count}

abbrev IsNumberIn : Num → Type 0
IsNumberIn (unsigned n) = n < 2 ^ 64
IsNumberIn (negative z) = FitsSigned w64 z
IsNumberIn (float x) = Unit {0}

-- all numbers of a value have 64 bits
abbrev mutual
  AreNumbersIn : Data → Type 0
  AreNumbersIn null = Unit {0}
  AreNumbersIn (boolean b) = Unit {0}
  AreNumbersIn (number n) = IsNumberIn n
  AreNumbersIn (string s) = Unit {0}
  AreNumbersIn (array ds) = AreItemsIn ds
  AreNumbersIn (object ms) = AreMembersIn ms

  AreItemsIn : Items → Type 0
  AreItemsIn no_items = Unit {0}
  AreItemsIn (item d ds) = AreNumbersIn d × AreItemsIn ds

  AreMembersIn : Members → Type 0
  AreMembersIn no_members = Unit {0}
  AreMembersIn (member k d ms) = AreNumbersIn d × AreMembersIn ms

-- options
one_of : {A : Type 0} (P : A → Type 0) (b : Bool) (x y : A) → P x → P y → P (cond b x y)
one_of P true x y h k = h
one_of P false x y h k = k

if_mapped : {A B : Type 0} (P : A → Type 0) (Q : B → Type 0) (f : A → B) → ((x : A) → P x → Q (f x)) → (o : Option A)
    → IfSome o P → IfSome (option_map f o) Q
if_mapped P Q f g None h = tt
if_mapped P Q f g (Some x) h = g x h

if_then : {A B : Type 0} (P : A → Type 0) (Q : B → Type 0) (f : A → Option B) → ((x : A) → P x → IfSome (f x) Q)
    → (o : Option A) → IfSome o P → IfSome (option_and_then f o) Q
if_then P Q f g None h = tt
if_then P Q f g (Some x) h = g x h

-- numbers
abbrev NumberIn : Option Num → Type 0
NumberIn o = IfSome o IsNumberIn

float_in : (b : Bool) (x : Float) → NumberIn (cond b (Some (float x)) None)
float_in true x = tt
float_in false x = tt

below_in : (n : ℕ) (o : Option Num) (b : Bool) → (b ≡ true → n < 2 ^ 64) → NumberIn o
    → NumberIn (cond b (Some (unsigned n)) o)
below_in n o true small h = small refl
below_in n o false small h = h

minus_fits : (n : ℕ) → n ≤ 2 ^ 63 → FitsSigned w64 (neg_ℤ (pos n))
minus_fits zero h = record { sfits = lit< tt }
minus_fits (suc n) h = record { sfits = omega arith }

negative_in : (n : ℕ) (o : Option Num) (b : Bool) → (b ≡ true → n ≤ 2 ^ 63) → NumberIn o
    → NumberIn (cond b (Some (negative (neg_ℤ (pos n)))) o)
negative_in n o true small h = minus_fits n (small refl)
negative_in n o false small h = h

from_in : (sign : Bool) (p : Parts) → NumberIn (number_from sign p)
from_in false p =
    below_in (numeral_digits p) (float_of false p) (is_integer p && nat_lt (numeral_digits p) (2 ^ 64))
    (λ e. ltb-true (numeral_digits p) (2 ^ 64)
    (and_parts (is_integer p) (nat_lt (numeral_digits p) (2 ^ 64)) e).1) (float_in _ _)
from_in true p =
    negative_in (numeral_digits p) (float_of true p)
    (is_integer p && nat_lt 0 (numeral_digits p) && nat_le (numeral_digits p) (2 ^ 63))
    (λ e. leb-true (numeral_digits p) (2 ^ 63)
    (and_parts (is_integer p && nat_lt 0 (numeral_digits p)) (nat_le (numeral_digits p) (2 ^ 63)) e).1) (float_in _ _)

number_is_in : (s : List ℕ) → NumberIn (number_of s)
unfolding number_of
number_is_in s =
    one_of NumberIn (slice_index s 0 == minus) (number_from true (scan_numeral (drop 1 s)))
    (number_from false (scan_numeral s)) (from_in true (scan_numeral (drop 1 s))) (from_in false (scan_numeral s))

-- values
by_order : {A : Type 0} (P : A → Type 0) (o : Ordering) (a b c : A) → P a → P b → P c → P (match_ordering o a b c)
by_order P Less a b c x y z = x
by_order P Equal a b c x y z = y
by_order P Greater a b c x y z = z

put_in : (k : List ℕ) (d : Data) (ms : Members) → AreNumbersIn d → AreMembersIn ms → AreMembersIn (put k d ms)
put_in k d no_members h g = (h, tt)
put_in k d (member l e ms) h g =
    by_order AreMembersIn (slice_cmp nat_cmp k l) (member k d (member l e ms)) (member l d ms) (member l e (put k d ms))
    (h, g) (h, g.1) (g.0, put_in k d ms h g.1)

mutual
  json_in : (j : json.Json) → IfSome (of_json j) AreNumbersIn
  json_in json.null = tt
  json_in (json.boolean b) = tt
  json_in (json.number s) = if_mapped IsNumberIn AreNumbersIn number (λ n h. h) (number_of s) (number_is_in s)
  json_in (json.string s) = tt
  json_in (json.array js) = if_mapped AreItemsIn AreNumbersIn array (λ ds h. h) (of_items js) (items_in js)
  json_in (json.object ms) =
      if_mapped AreMembersIn AreNumbersIn object (λ ds h. h) (of_members ms no_members) (members_in ms no_members tt)

  items_in : (js : json.Items) → IfSome (of_items js) AreItemsIn
  items_in json.no_items = tt
  items_in (json.item j js) =
      if_then AreNumbersIn AreItemsIn (λ d. option_map (item d) (of_items js))
      (λ d h. if_mapped AreItemsIn AreItemsIn (item d) (λ ds g. (h, g)) (of_items js) (items_in js)) (of_json j) (json_in j)

  members_in : (ms : json.Members) (found : Members) → AreMembersIn found → IfSome (of_members ms found) AreMembersIn
  members_in json.no_members found h = h
  members_in (json.member k j ms) found h =
      if_then AreNumbersIn AreMembersIn (λ d. of_members ms (put k d found))
      (λ d g. members_in ms (put k d found) (put_in k d found g h)) (of_json j) (json_in j)

document_in : (o : Option json.Json) → IfSome (option_and_then of_json o) AreNumbersIn
document_in None = tt
document_in (Some j) = json_in j

read_in : (text : List ℕ) (d : Data) → read text ≡ Some d → AreNumbersIn d
read_in text d e = subst (λ o. IfSome o AreNumbersIn) e
    (document_in (option_and_then (λ p. json.if_last p.0 p.1) (json.value max_depth (tokens text))))

-- what stands under the keys of a value
member_in : (k : List ℕ) (ms : Members) → AreMembersIn ms → IfSome (get_member k ms) AreNumbersIn
member_in k no_members h = tt
member_in k (member l e ms) h =
    by_order (λ o. IfSome o AreNumbersIn) (slice_cmp nat_cmp k l) (get_member k ms) (Some e) (get_member k ms)
    (member_in k ms h.1) h.0 (member_in k ms h.1)

get_in : (k : List ℕ) (d : Data) → AreNumbersIn d → IfSome (get k d) AreNumbersIn
get_in k null h = tt
get_in k (boolean b) h = tt
get_in k (number n) h = tt
get_in k (string s) h = tt
get_in k (array ds) h = tt
get_in k (object ms) h = member_in k ms h

list_of_in : (ds : Items) → AreItemsIn ds → AllByRecursion AreNumbersIn (list_of ds)
list_of_in no_items h = tt
list_of_in (item d ds) h = (h.0, list_of_in ds h.1)

items_of_in : (d : Data) → AreNumbersIn d → AllByRecursion AreNumbersIn (items_of d)
items_of_in null h = tt
items_of_in (boolean b) h = tt
items_of_in (number n) h = tt
items_of_in (string s) h = tt
items_of_in (array ds) h = list_of_in ds h
items_of_in (object ms) h = tt

under_in : (o : Option Data) → IfSome o AreNumbersIn → AllByRecursion AreNumbersIn (option_map_or items_of o [])
under_in None h = tt
under_in (Some d) h = items_of_in d h

list_at_in : (k : List ℕ) (d : Data) → AreNumbersIn d → AllByRecursion AreNumbersIn (list_at k d)
list_at_in k d h = under_in (get k d) (get_in k d h)

-- rows
all_mapped : {A B : Type 0} (P : A → Type 0) (Q : B → Type 0) (f : A → B) → ((x : A) → P x → Q (f x)) → (xs : List A)
    → AllByRecursion P xs → AllByRecursion Q (map f xs)
all_mapped P Q f g [] h = tt
all_mapped P Q f g (x ∷ xs) h = (g x h.0, all_mapped P Q f g xs h.1)

all_joined : {A : Type 0} (P : A → Type 0) (xs ys : List A) → AllByRecursion P xs → AllByRecursion P ys
    → AllByRecursion P (xs ++ ys)
all_joined P [] ys h g = g
all_joined P (x ∷ xs) ys h g = (h.0, all_joined P xs ys h.1 g)

all_same : {A : Type 0} (P : A → Type 0) (n : ℕ) (x : A) → P x → AllByRecursion P (replicate n x)
all_same P zero x h = tt
all_same P (suc n) x h = (h, all_same P n x h)

all_at : {A : Type 0} (P : A → Type 0) (xs : List A) (k : ℕ) (x : A) → AllByRecursion P xs → slice_get xs k ≡ Some x
    → P x
all_at P [] k x h e = cc
all_at P (y ∷ ys) zero x h e = let same : y ≡ x = cc in subst P same h.0
all_at P (y ∷ ys) (suc k) x h e = all_at P ys k x h.1 e

abbrev SignedIn : Option ℤ → Type 0
SignedIn o = IfSome o (FitsSigned w64)

abbrev UnsignedIn : Option ℕ → Type 0
UnsignedIn o = IfSome o IsFrameInBounds

half_in : (n : ℕ) (b : Bool) → (b ≡ true → n < 2 ^ 63) → SignedIn (cond b (Some (pos n)) None)
half_in n true small = record { sfits = small refl }
half_in n false small = tt

signed_in : (d : Data) → AreNumbersIn d → SignedIn (given.signed d)
signed_in null h = tt
signed_in (boolean b) h = tt
signed_in (number (unsigned n)) h = half_in n (nat_lt n (2 ^ 63)) (ltb-true n (2 ^ 63))
signed_in (number (negative z)) h = h
signed_in (number (float x)) h = tt
signed_in (string s) h = tt
signed_in (array ds) h = tt
signed_in (object ms) h = tt

unsigned_in : (d : Data) → AreNumbersIn d → UnsignedIn (given.unsigned d)
unsigned_in null h = tt
unsigned_in (boolean b) h = tt
unsigned_in (number (unsigned n)) h = h
unsigned_in (number (negative z)) h = tt
unsigned_in (number (float x)) h = tt
unsigned_in (string s) h = tt
unsigned_in (array ds) h = tt
unsigned_in (object ms) h = tt

-- the arguments and the frames that a row gives have 64 bits
pub record IsRowIn (row : FiringRow) : Type 0 where
  pub args : AllByRecursion SignedIn row.args
  pub kstack : AllByRecursion UnsignedIn row.kstack
  pub ustack : AllByRecursion UnsignedIn row.ustack

row_in : (d : Data) → AreNumbersIn d → IsRowIn (firing_row d)
row_in d h = record {
  args = all_mapped AreNumbersIn SignedIn given.signed signed_in (list_at (codes "args") d) (list_at_in (codes "args") d h);
  kstack = all_mapped AreNumbersIn UnsignedIn given.unsigned unsigned_in (list_at (codes "kstack") d)
      (list_at_in (codes "kstack") d h);
  ustack = all_mapped AreNumbersIn UnsignedIn given.unsigned unsigned_in (list_at (codes "ustack") d)
      (list_at_in (codes "ustack") d h);
}

script_in : (d : Data) → AreNumbersIn d → AllByRecursion IsRowIn (script_rows d)
script_in d h = all_mapped AreNumbersIn IsRowIn firing_row row_in (items_of d) (items_of_in d h)

-- the row at a place of a script of a text's value
pub row_at_in : (text : List ℕ) (d : Data) → read text ≡ Some d → (cpu place : ℕ) (rows : List FiringRow) (row : FiringRow)
    → slice_get (scripts_in d) cpu ≡ Some rows → slice_get rows place ≡ Some row → IsRowIn row
row_at_in text d is cpu place rows row at_cpu at_place =
    let h = read_in text d is in
    all_at IsRowIn rows place row
    (all_at (AllByRecursion IsRowIn) (scripts_in d) cpu rows
    (all_mapped AreNumbersIn (AllByRecursion IsRowIn) script_rows script_in (list_at (codes "scripts") d)
    (list_at_in (codes "scripts") d h))
    at_cpu)
    at_place

argument_in : (o : Option ℤ) → SignedIn o → FitsSigned w64 (unwrap_or o (pos 0))
argument_in None h = record { sfits = lit< tt }
argument_in (Some z) h = h

-- so have the arguments and the frames of the firing that it stands for
pub arguments_fit : (list : List (Option ℤ)) → AllByRecursion SignedIn list → AllByRecursion (FitsSigned w64) (arguments list)
arguments_fit list h =
    all_joined (FitsSigned w64) (map (λ o. unwrap_or o (pos 0)) list) (replicate (argument_count - length list) (pos 0))
    (all_mapped SignedIn (FitsSigned w64) (λ o. unwrap_or o (pos 0)) argument_in list h)
    (all_same (FitsSigned w64) (argument_count - length list) (pos 0) (record { sfits = lit< tt }))

frame_in : (o : Option ℕ) → UnsignedIn o → IsFrameInBounds (number_in o)
frame_in None h = lit< tt
frame_in (Some n) h = h

pub frames_fit : (list : List (Option ℕ)) → AllByRecursion UnsignedIn list → AllByRecursion IsFrameInBounds (frames list)
frames_fit list h =
    all_joined IsFrameInBounds (map number_in list) (replicate (frame_count - length list) 0)
    (all_mapped UnsignedIn IsFrameInBounds number_in frame_in list h)
    (all_same IsFrameInBounds (frame_count - length list) 0 (lit< tt))
