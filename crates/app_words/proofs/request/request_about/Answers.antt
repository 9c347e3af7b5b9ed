use Rattle.std.proofs.Common.{refl}
use Rattle.app_words.specs.Refusals.{no_rule}
use Rattle.app_words.proofs.Reading.{why_told}
use Rattle.app_words.proofs.request.request_about.Goals as goal

pub returns-in-None : goal.returns-in-None
returns-in-None c = why_told _ (no_rule c.args.task) _ (rw c.in-None.ensures refl) c.no_rule.ensures

pub returns-in-Some : goal.returns-in-Some
returns-in-Some c = rw c.in-Some.ensures c.request_of_rule.ensures
