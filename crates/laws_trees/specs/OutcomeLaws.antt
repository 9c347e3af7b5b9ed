-- What theory proves of taking rules of built sets: the outcome is that of the right side.
use Rattle.laws_sites.specs.BuiltSets.{OfBuiltSets}
use Rattle.model.specs.claims.SetMeanings.{TakenGivesOutcome, TakenUnderPickGivesOutcome, MeansItsRules}

-- of a rule that goes over no calls: its impure calls in order, then its result or a failure
abbrev pub TakenRulesGiveTheirOutcome : Type 0
TakenRulesGiveTheirOutcome = OfBuiltSets TakenGivesOutcome

-- and under each of its picks, of a rule that makes no impure call
abbrev pub TakenRulesGiveTheirOutcomeUnderPicks : Type 0
TakenRulesGiveTheirOutcomeUnderPicks = OfBuiltSets TakenUnderPickGivesOutcome

-- so a built set means what its typed rules do
abbrev pub BuiltSetsMeanTheirRules : Type 0
BuiltSetsMeanTheirRules = OfBuiltSets MeansItsRules
