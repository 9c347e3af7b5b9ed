use Rattle.laws_errors.proofs.RulePlaces.{rule_errors_are_placed_lem}
use Rattle.laws_errors.proofs.rule_errors_are_placed.Goals as goal

pub returns : goal.returns
returns c = rule_errors_are_placed_lem
