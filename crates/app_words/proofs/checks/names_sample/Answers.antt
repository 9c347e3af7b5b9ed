use Rattle.std.proofs.Common.{rules, arith}
use Rattle.std.proofs.lemmas.Grind.{common_steps}
use Rattle.app_words.specs.WrongItems.{names_sample}
use Rattle.app_words.proofs.checks.names_sample.Goals as goal

pub returns : goal.returns
unfolding names_sample
returns c = first_of (search rules, grind (arith, common_steps))
