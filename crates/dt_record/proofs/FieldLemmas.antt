-- The fields of a record, one more, and how much they take.
use Rattle.std.proofs.Common.{◌≡◌, ℕ, ◌+◌, ◌<◌, List, [], ◌∷◌, ◌++◌, map, take, length, sym, ap, ◌∙◌}
use Rattle.std.proofs.Math.ListN.{get_or}
use Rattle.std.proofs.lemmas.List.{take_more, map-append, append-nil}
use Rattle.std.proofs.lemmas.Grind.{flat_map-append}
use Rattle.std.specs.Option.{option_to_list}
use Rattle.dt_program.specs.Clause.{form_of_statement}
use Rattle.dt_program.specs.declared.clause.Statement.{Statement}
use Rattle.dt_record.specs.Layout.{field_of, fields_of}

-- the fields of one statement more
pub fields-more : (statements : List Statement) (i : ℕ) (x : Statement) → i < length statements → x
    ≡ get_or statements i x
    → fields_of (map form_of_statement (take (i + 1) statements))
    ≡ fields_of (map form_of_statement (take i statements)) ++ option_to_list (field_of (form_of_statement x))
fields-more statements i x inside is =
    ap (λ l. fields_of (map form_of_statement l))
    (take_more statements i x inside ∙ ap (λ z. take i statements ++ z ∷ []) (sym is))
    ∙ ap fields_of (map-append form_of_statement (take i statements) (x ∷ []))
    ∙ flat_map-append (λ s. option_to_list (field_of s)) (map form_of_statement (take i statements))
    (form_of_statement x ∷ [])
    ∙ ap (λ l. fields_of (map form_of_statement (take i statements)) ++ l)
    (append-nil (option_to_list (field_of (form_of_statement x))))
