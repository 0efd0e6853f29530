-- Bytes are records in one way at most.
use Rattle.std.proofs.Common.{◌≡◌, ℕ, ℤ, FitsSigned, ◌^◌, ◌<◌, List, [], ◌∷◌, ◌++◌, Option, Some, length, unwrap_or}
use Rattle.std.proofs.Common.{refl, sym, ap, subst, ◌∙◌, arith}
use Rattle.std.proofs.lemmas.List.{append-nil, append_assoc, length-append}
use Rattle.std.proofs.lemmas.Int.{to_z-of_z, SFits-int_wrap}
use Rattle.std.proofs.Math.Facts.{Fits-of_z}
use Rattle.std.specs.Int.{w64, cast_unsigned, cast_signed}
use Rattle.std.specs.List.{flat_map, slice_get, AllByRecursion}
use Rattle.byteorder.specs.Endian.{big_bytes, big_number}
use Rattle.byteorder.specs.Numbers.{big_number-reads_back, length-bytes_high_first}
use Rattle.dt_expr.specs.Operators.{wrapped}
use Rattle.dt_record.specs.Layout.{FieldForm}
use Rattle.dt_record.specs.Layout as layout
use Rattle.dt_record.specs.Split as split
use Rattle.dt_record.specs.Split.{RecordedForm, RecordForm, AreFrames, FitsField, FitAll, IsRecordOf, IsSplit}
use Rattle.dt_record.specs.Split.{recorded_bytes, record_bytes}
use Rattle.dt_record.specs.Taking.{epid_bytes, number_bytes}
use Rattle.dt_record.specs.laws.Fitting.{fits-long}
use Rattle.dt_record.proofs.Fitting.{cut, epid-read}

-- the number that eight bytes were made of
eight_back : (a b : ℕ) → a < 256 ^ 8 → b < 256 ^ 8 → big_bytes 8 a ≡ big_bytes 8 b → a ≡ b
eight_back a b small small' e =
    sym (big_number-reads_back 8 a [] small) ∙ ap (λ l. big_number 8 (l ++ [])) e ∙ big_number-reads_back 8 b [] small'

number-unique : (y z : ℤ) → wrapped y ≡ y → wrapped z ≡ z → number_bytes y ≡ number_bytes z → y ≡ z
number-unique y z fit fit' e =
    let small : FitsSigned w64 y = subst (FitsSigned w64) fit (SFits-int_wrap w64 y) in
    let small' : FitsSigned w64 z = subst (FitsSigned w64) fit' (SFits-int_wrap w64 z) in
    sym (to_z-of_z w64 y small)
    ∙ ap (cast_signed w64) (eight_back (cast_unsigned w64 y) (cast_unsigned w64 z) (Fits-of_z small).fits
    (Fits-of_z small').fits e)
    ∙ to_z-of_z w64 z small'

frames-unique : (n : ℕ) (xs ys : List ℕ) → AreFrames n xs → AreFrames n ys
    → flat_map (big_bytes 8) xs ≡ flat_map (big_bytes 8) ys → xs ≡ ys
frames-unique n [] [] a b e = refl
frames-unique n [] (y ∷ ys) a b e = let m = a.many in let k = b.many in absurd (omega (arith, m, k))
frames-unique n (x ∷ xs) [] a b e = let m = a.many in let k = b.many in absurd (omega (arith, m, k))
frames-unique n (x ∷ xs) (y ∷ ys) a b e =
    let both = cut (big_bytes 8 x) (big_bytes 8 y) (flat_map (big_bytes 8) xs) (flat_map (big_bytes 8) ys)
    (length-bytes_high_first 8 x ∙ sym (length-bytes_high_first 8 y)) e in
    let same : length xs ≡ length ys = let m = a.many in let k = b.many in omega (arith, m, k) in
    ap (λ f. f ∷ xs) (eight_back x y a.each.0 b.each.0 both.0)
    ∙ ap (λ l. y ∷ l) (frames-unique (length xs) xs ys (record { many = refl; each = a.each.1 })
    (record { many = sym same; each = b.each.1 }) both.1)

value-unique : (field : FieldForm) (v w : RecordedForm) → FitsField field v → FitsField field w
    → recorded_bytes v ≡ recorded_bytes w → v ≡ w
value-unique layout.number (split.number y) (split.number z) a b e = ap split.number (number-unique y z a b e)
value-unique layout.number (split.number y) (split.text t) a b e = elim b [ ]
value-unique layout.number (split.number y) (split.frames l) a b e = elim b [ ]
value-unique layout.number (split.text t) w a b e = elim a [ ]
value-unique layout.number (split.frames l) w a b e = elim a [ ]
value-unique layout.text (split.text t) (split.text u) a b e = ap split.text e
value-unique layout.text (split.text t) (split.number z) a b e = elim b [ ]
value-unique layout.text (split.text t) (split.frames l) a b e = elim b [ ]
value-unique layout.text (split.number z) w a b e = elim a [ ]
value-unique layout.text (split.frames l) w a b e = elim a [ ]
value-unique (layout.stack n) (split.frames k) (split.frames l) a b e = ap split.frames (frames-unique n k l a b e)
value-unique (layout.stack n) (split.frames k) (split.number z) a b e = elim b [ ]
value-unique (layout.stack n) (split.frames k) (split.text t) a b e = elim b [ ]
value-unique (layout.stack n) (split.number z) w a b e = elim a [ ]
value-unique (layout.stack n) (split.text t) w a b e = elim a [ ]
value-unique (layout.ustack n) (split.frames k) (split.frames l) a b e = ap split.frames (frames-unique n k l a b e)
value-unique (layout.ustack n) (split.frames k) (split.number z) a b e = elim b [ ]
value-unique (layout.ustack n) (split.frames k) (split.text t) a b e = elim b [ ]
value-unique (layout.ustack n) (split.number z) w a b e = elim a [ ]
value-unique (layout.ustack n) (split.text t) w a b e = elim a [ ]

values-unique : (fields : List FieldForm) (vs ws : List RecordedForm) (a b : List ℕ) → FitAll fields vs
    → FitAll fields ws
    → flat_map recorded_bytes vs ++ a ≡ flat_map recorded_bytes ws ++ b → (vs ≡ ws) × (a ≡ b)
values-unique [] [] [] a b f g e = (refl, e)
values-unique [] [] (w ∷ ws) a b f g e = elim g [ ]
values-unique [] (v ∷ vs) ws a b f g e = elim f [ ]
values-unique (field ∷ fields) [] ws a b f g e = elim f [ ]
values-unique (field ∷ fields) (v ∷ vs) [] a b f g e = elim g [ ]
values-unique (field ∷ fields) (v ∷ vs) (w ∷ ws) a b f g e =
    let both = cut (recorded_bytes v) (recorded_bytes w) (flat_map recorded_bytes vs ++ a)
    (flat_map recorded_bytes ws ++ b)
    (fits-long field v f.0 ∙ sym (fits-long field w g.0))
    (sym (append_assoc (recorded_bytes v) (flat_map recorded_bytes vs) a) ∙ e
    ∙ append_assoc (recorded_bytes w) (flat_map recorded_bytes ws) b) in
    let more = values-unique fields vs ws a b f.1 g.1 both.1 in
    (ap (λ x. x ∷ vs) (value-unique field v w f.0 g.0 both.0) ∙ ap (λ l. w ∷ l) more.0, more.1)

module _ (layouts : List (Option (List FieldForm))) where
  same_fields : (r s : RecordForm) (is : IsRecordOf layouts r) (also : IsRecordOf layouts s) → r.epid ≡ s.epid
      → is.fields ≡ also.fields
  same_fields r s is also e =
      let n = is.numbered in
      let m = also.numbered in
      let place : is.place ≡ also.place = omega (arith, n, m, e) in
      ap (λ o. unwrap_or (unwrap_or o (Some [])) []) (sym is.named ∙ ap (slice_get layouts) place ∙ also.named)

  -- a record at the front of bytes is one
  pub record-unique : (r s : RecordForm) (a b : List ℕ) → IsRecordOf layouts r → IsRecordOf layouts s
      → record_bytes r ++ a ≡ record_bytes s ++ b → (r ≡ s) × (a ≡ b)
  record-unique r s a b is also e =
      let whole : epid_bytes r.epid ++ (flat_map recorded_bytes r.values ++ a)
      ≡ epid_bytes s.epid ++ (flat_map recorded_bytes s.values ++ b) =
      sym (append_assoc (epid_bytes r.epid) (flat_map recorded_bytes r.values) a) ∙ e
      ∙ append_assoc (epid_bytes s.epid) (flat_map recorded_bytes s.values) b in
      let first = epid-read s.epid (epid_bytes r.epid) (flat_map recorded_bytes r.values ++ a)
      (flat_map recorded_bytes s.values ++ b) also.small (length-bytes_high_first 4 r.epid) whole in
      let epid : r.epid ≡ s.epid =
      sym (big_number-reads_back 4 r.epid [] is.small) ∙ ap (big_number 4) (append-nil (epid_bytes r.epid))
      ∙ first.0 in
      let rest = values-unique also.fields r.values s.values a b
      (subst (λ fields. FitAll fields r.values) (same_fields r s is also epid) is.fit) also.fit first.1 in (
        ap (λ n. record { epid = n; values = r.values }) epid
            ∙ ap (λ vs. record { epid = s.epid; values = vs }) rest.0,
        rest.1,
      )

  -- what is left of a list of records, after those that were read
  pub record Left (done : List RecordForm) (all : List RecordForm) (rest : List ℕ) : Type 0 where
    pub tail : List RecordForm
    pub parts : all ≡ done ++ tail
    pub each : AllByRecursion (IsRecordOf layouts) tail
    pub bytes : rest ≡ flat_map record_bytes tail

  -- records that were read are the first of any list of records that the bytes are
  pub left_of : (done all : List RecordForm) (rest : List ℕ) → AllByRecursion (IsRecordOf layouts) done
      → AllByRecursion (IsRecordOf layouts) all → flat_map record_bytes done ++ rest ≡ flat_map record_bytes all
      → Left done all rest
  left_of [] all rest read each e = record { tail = all; parts = refl; each = each; bytes = e }
  left_of (r ∷ done) [] rest read each e =
      let none = ap length e in
      let front = length-append (flat_map record_bytes (r ∷ done)) rest in
      let own = length-append (record_bytes r) (flat_map record_bytes done) in
      let parts = length-append (epid_bytes r.epid) (flat_map recorded_bytes r.values) in
      let four = length-bytes_high_first 4 r.epid in
      absurd (omega (arith, none, front, own, parts, four))
  left_of (r ∷ done) (s ∷ all) rest read each e =
      let both = record-unique r s (flat_map record_bytes done ++ rest) (flat_map record_bytes all) read.0 each.0
      (sym (append_assoc (record_bytes r) (flat_map record_bytes done) rest) ∙ e) in
      let more = left_of done all rest read.1 each.1 both.1 in
      record {
        tail = more.tail;
        parts = ap (λ x. x ∷ all) (sym both.0) ∙ ap (λ l. r ∷ l) more.parts;
        each = more.each;
        bytes = more.bytes;
      }

  -- bytes are left, and no record begins them
  pub stuck : (done all : List RecordForm) (rest : List ℕ) → Left done all rest → 0 < length rest
      → ((one : RecordForm) (after : List ℕ) → IsRecordOf layouts one → rest ≡ record_bytes one ++ after → ⊥) → ⊥
  stuck done all rest left some none = stuck_at left.tail left.each left.bytes
    where
      stuck_at : (tail : List RecordForm) → AllByRecursion (IsRecordOf layouts) tail
          → rest ≡ flat_map record_bytes tail → ⊥
      stuck_at [] each bytes = let no = ap length bytes in omega (arith, no, some)
      stuck_at (r ∷ tail) each bytes = none r (flat_map record_bytes tail) each.0 bytes

  -- bytes are records in one way at most
  pub one-split : (bytes : List ℕ) (a b : List RecordForm) → IsSplit layouts bytes a → IsSplit layouts bytes b → a ≡ b
  one-split bytes a b is also = whole left.tail left.parts left.bytes
    where
      left : Left a b []
      left = left_of a b [] is.each also.each (append-nil (flat_map record_bytes a) ∙ is.whole ∙ sym also.whole)

      whole : (tail : List RecordForm) → b ≡ a ++ tail → [] ≡ flat_map record_bytes tail → a ≡ b
      whole [] parts none = sym (parts ∙ append-nil a)
      whole (r ∷ tail) parts none =
          let no = ap length none in
          let front = length-append (record_bytes r) (flat_map record_bytes tail) in
          let own = length-append (epid_bytes r.epid) (flat_map recorded_bytes r.values) in
          let four = length-bytes_high_first 4 r.epid in
          absurd (omega (arith, no, front, own, four))
