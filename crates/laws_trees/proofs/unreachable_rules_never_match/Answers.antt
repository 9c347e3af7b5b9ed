use Rattle.laws_trees.proofs.NeverMatches.{unreachable_rules_never_match_lem}
use Rattle.laws_trees.proofs.unreachable_rules_never_match.Goals as goal

pub returns : goal.returns
returns c = unreachable_rules_never_match_lem
