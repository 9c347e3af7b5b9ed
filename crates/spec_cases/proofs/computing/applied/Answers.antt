use Rattle.std.proofs.Common.{◌∙◌, rules, refl, sym}
use Rattle.std.proofs.lemmas.Int.{to_z-of_z}
use mir.Val.{SFits}
use mir.Syntax.{w128}
use Rattle.spec_cases.specs.declared.literals.LiteralShape.TheVariants as S
use Rattle.spec_cases.specs.Namings.{operator_view}
use Rattle.spec_cases.proofs.AppliedLiterals.{shape_applied}
use Rattle.spec_cases.proofs.computing.applied.Goals as goal

pub returns-in_ok-of_two_integers-in-TwoIntegers : goal.returns-in_ok-of_two_integers-in-TwoIntegers
returns-in_ok-of_two_integers-in-TwoIntegers c =
    let m = c.in-TwoIntegers in
    let y_fits : SFits w128 m.y = search rules in
    let z_fits : SFits w128 m.z = search rules in
    let made = rw (to_z-of_z w128 m.y y_fits, to_z-of_z w128 m.z z_fits) at c.in_ok-of_two_integers-in-TwoIntegers.ensures in
    made ∙ sym (shape_applied (operator_view c.args.operator) c.args.literals.now (S.TwoIntegers m.y m.z) (sym c.literal_shape.ensures ∙ m.is) refl)

pub returns-in_ok-of_integers_and_word-in-TwoIntegersWord : goal.returns-in_ok-of_integers_and_word-in-TwoIntegersWord
returns-in_ok-of_integers_and_word-in-TwoIntegersWord c =
    let m = c.in-TwoIntegersWord in
    let high_fits : SFits w128 m.high = search rules in
    let low_fits : SFits w128 m.low = search rules in
    let made = rw (to_z-of_z w128 m.high high_fits, to_z-of_z w128 m.low low_fits) at c.in_ok-of_integers_and_word-in-TwoIntegersWord.ensures in
    made ∙ sym (shape_applied (operator_view c.args.operator) c.args.literals.now (S.TwoIntegersWord m.high m.low m.width m.a) (sym c.literal_shape.ensures ∙ m.is) refl)
