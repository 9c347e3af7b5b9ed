-- What is said of the samples, computed.
use Rattle.std.proofs.Common.{refl}
use Rattle.laws_errors.specs.Samples.{PatternsAreTold, ExprsAreTold, RulesAreTold, ListsAreTold}

pub patterns_are_told_lem : PatternsAreTold
patterns_are_told_lem = (refl, refl, refl)

pub exprs_are_told_lem : ExprsAreTold
exprs_are_told_lem = (refl, refl, refl, refl, refl, refl, refl, refl, refl)

pub rules_are_told_lem : RulesAreTold
rules_are_told_lem = (refl, refl, refl, refl, refl, refl, refl, refl, refl)

pub lists_are_told_lem : ListsAreTold
lists_are_told_lem = (refl, refl, refl, refl, refl)
