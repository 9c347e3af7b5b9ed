use Rattle.std.proofs.Common.{rules, arith}
use Rattle.std.proofs.lemmas.Grind.{common_steps}
use Rattle.app_words.specs.Options.{is_option_of_tasks, table}
use Rattle.app_words.proofs.options.is_option_of_tasks.Goals as goal

pub returns : goal.returns
unfolding is_option_of_tasks table
returns c = first_of (search rules, grind (arith, common_steps))
