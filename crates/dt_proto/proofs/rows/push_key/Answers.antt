-- Numbers are parts, too.
use Rattle.std.proofs.Common.{◌≡◌, ◌++◌, map, sym, ap, ◌∙◌, subst}
use Rattle.std.specs.Prelude.{OnOk}
use Rattle.std.specs.Fmt.{signed_decimal}
use Rattle.std.specs.List.{join_with_byte}
use Rattle.std.proofs.lemmas.Simd.{map-map}
use Rattle.dt_names.specs.Bytes.{comma}
use Rattle.dt_aggstore.specs.EntryNames.{key_of_row}
use Rattle.dt_aggstore.specs.declared.key.KeyPart.TheVariants.{Number}
use Rattle.dt_proto.specs.Rows.{part_text}
use Rattle.dt_proto.proofs.rows.push_key.Goals as goal

pub returns-in-Numbers : goal.returns-in-Numbers
returns-in-Numbers c =
    subst (λ xs. OnOk c.push_numbers.result (c.push_numbers.new.line.items ≡ c.args.line.now.items ++ join_with_byte comma xs))
    (ap (map signed_decimal) c.as_slice.ensures.value ∙ sym (map-map part_text Number c.in-Numbers.numbers.items)
    ∙ ap (λ key. map part_text (key_of_row key)) (sym c.in-Numbers.is))
    c.push_numbers.ensures
