-- What is to be shown of `number`.
use mir.Val.{to_z, of_z}
use Rattle.std.proofs.Common.{ap, refl, ◌∙◌, ℤ, w64}
use Rattle.dt_lang.specs.declared.token.Token.TheVariants as token
use Rattle.dt_lang.proofs.Digits.{representative}
use Rattle.dt_lang.proofs.piece.number.Goals as goal

pub returns-in-Some : goal.returns-in-Some
returns-in-Some c =
    let signed = ap (λ (z : ℤ). to_z w64 (of_z w64 z)) c.cast_signed.ensures
    ∙ representative c.in-Some.value c.in-Some.ensures.found.fits in
    (c.in-Some.value, c.in-Some.ensures.found, ap token.Number signed, refl)
