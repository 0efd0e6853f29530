-- The values of a record, one more, and what they determine.
use Rattle.std.proofs.Common.{◌≡◌, ℕ, ◌+◌, ◌^◌, ◌<◌, List, [], ◌∷◌, ◌++◌, map, take, drop, length, sum, sym}
use Rattle.std.proofs.Common.{ap, subst, ◌∙◌}
use Rattle.std.proofs.Math.ListN.{get_or}
use Rattle.std.proofs.lemmas.List.{take_more, drop_more, map-append, append-nil}
use Rattle.std.proofs.Math.Seq.{take-append_seam, drop-append_seam}
use Rattle.byteorder.specs.Endian.{big_number}
use Rattle.byteorder.specs.Numbers.{big_number-reads_back, length-bytes_high_first}
use Rattle.dt_record.specs.Fields.{form_of_field}
use Rattle.dt_record.specs.Layout.{FieldForm, field_size}
use Rattle.dt_record.specs.Split.{RecordedForm, FitsField, FitAll}
use Rattle.dt_record.specs.Taking.{epid_bytes}
use Rattle.dt_record.specs.declared.layout.Field.{Field}
use Rattle.dt_record.specs.laws.Fitting.{sum_of}

fit-more : (fields : List FieldForm) (values : List RecordedForm) (field : FieldForm) (value : RecordedForm)
    → FitAll fields values → FitsField field value → FitAll (fields ++ field ∷ []) (values ++ value ∷ [])
fit-more [] [] field value all one = (one, tt)
fit-more [] (v ∷ values) field value all one = elim all [ ]
fit-more (f ∷ fields) [] field value all one = elim all [ ]
fit-more (f ∷ fields) (v ∷ values) field value all one = (all.0, fit-more fields values field value all.1 one)

-- one field more
pub fit-turn : (fields : List Field) (i : ℕ) (field : Field) → i < length fields → field ≡ get_or fields i field
    → (old new : List RecordedForm) (value : RecordedForm) → new ≡ old ++ value ∷ []
    → FitAll (map form_of_field (take i fields)) old → FitsField (form_of_field field) value
    → FitAll (map form_of_field (take (i + 1) fields)) new
fit-turn fields i field inside is old new value pushed all one =
    let more : map form_of_field (take i fields) ++ form_of_field field ∷ []
    ≡ map form_of_field (take (i + 1) fields) =
    sym (ap (map form_of_field) (take_more fields i field inside ∙ ap (λ f. take i fields ++ f ∷ []) (sym is))
    ∙ map-append form_of_field (take i fields) (field ∷ [])) in
    subst (λ fs. FitAll fs new) more
    (subst (FitAll (map form_of_field (take i fields) ++ form_of_field field ∷ [])) (sym pushed)
    (fit-more (map form_of_field (take i fields)) old (form_of_field field) value all one))

-- one field less to come
pub sum-turn : (fields : List Field) (i : ℕ) (field : Field) → i < length fields → field ≡ get_or fields i field
    → sum (map field_size (map form_of_field (drop i fields)))
    ≡ field_size (form_of_field field) + sum (map field_size (map form_of_field (drop (i + 1) fields)))
sum-turn fields i field inside is =
    ap (λ fs. sum (map field_size (map form_of_field fs)))
    (drop_more fields i field inside ∙ ap (λ f. f ∷ drop (i + 1) fields) (sym is))
    ∙ sum_of (field_size (form_of_field field)) (map field_size (map form_of_field (drop (i + 1) fields)))

-- a front of the same length is the same
pub cut : {A : Type 0} (xs ys us vs : List A) → length xs ≡ length ys → xs ++ us ≡ ys ++ vs → (xs ≡ ys) × (us ≡ vs)
cut xs ys us vs long e = (
  sym (take-append_seam xs us) ∙ ap (λ n. take n (xs ++ us)) long ∙ ap (take (length ys)) e ∙ take-append_seam ys vs,
  sym (drop-append_seam xs us) ∙ ap (λ n. drop n (xs ++ us)) long ∙ ap (drop (length ys)) e ∙ drop-append_seam ys vs,
)

-- an EPID read back from the bytes with which a record begins
pub epid-read : (epid : ℕ) (head rest after : List ℕ) → epid < 2 ^ 32 → length head ≡ 4
    → head ++ rest ≡ epid_bytes epid ++ after → (big_number 4 head ≡ epid) × (rest ≡ after)
epid-read epid head rest after small four e =
    let both = cut head (epid_bytes epid) rest after (four ∙ sym (length-bytes_high_first 4 epid)) e in
    (ap (big_number 4) (both.0 ∙ sym (append-nil (epid_bytes epid))) ∙ big_number-reads_back 4 epid [] small, both.1)
