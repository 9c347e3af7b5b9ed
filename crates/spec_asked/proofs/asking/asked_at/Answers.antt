use Rattle.std.proofs.Common.{map, reverse, ap, ◌∙◌}
use Rattle.spec_cases.specs.Namings.{fact_of}
use Rattle.spec_asked.proofs.AskingSteps.{facts_turned}
use Rattle.spec_asked.proofs.asking.asked_at.Goals as goal

pub returns : goal.returns
returns c = λ v s trails. ap (λ l. reverse (map (fact_of v) l)) c.reverse.ensures.items ∙ facts_turned v c.in_ok-facts.facts.items ∙ c.in_ok-facts.ensures v s trails
