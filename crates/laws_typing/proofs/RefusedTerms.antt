-- Errors of a list that has no term table are errors of a list that has no typed rules.
use Rattle.std.proofs.Common.{arith}
use Rattle.std.proofs.lemmas.Grind.{common_steps}
use Rattle.model.proofs.Members.{all_members}
use Rattle.model.specs.claims.Refusals.{Refusal, IsIllTyped, IsOfReading}
use Rattle.laws_typing.specs.RefusedTerms.{RefusedTermsRefuseRules}

pub of_reading : (r : Refusal) → IsIllTyped r → IsOfReading r
of_reading r h = grind (arith, common_steps)

pub refused_terms_refuse_rules_lem : RefusedTermsRefuseRules
refused_terms_refuse_rules_lem e defs expand errors r = grind (arith, common_steps, all_members, of_reading)
