use Rattle.std.proofs.Common.{rules, arith}
use Rattle.std.proofs.lemmas.Grind.{common_steps}
use Rattle.app_words.specs.Values.{kind_named}
use Rattle.app_words.proofs.values.kind_named.Goals as goal

pub returns : goal.returns
unfolding kind_named
returns c = first_of (search rules, grind (arith, common_steps))
