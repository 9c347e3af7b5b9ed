use Rattle.std.proofs.Common.{rules, arith}
use Rattle.std.proofs.lemmas.Grind.{common_steps}
use Rattle.app_words.specs.Options.{option_of, table}
use Rattle.app_words.proofs.options.option_of.Goals as goal

pub returns : goal.returns
unfolding option_of table
returns c = first_of (search rules, grind (arith, common_steps))
