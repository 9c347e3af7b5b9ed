use Rattle.std.proofs.Common.{◌∙◌, sym}
use Rattle.app_words.proofs.Reading.{ruled, told_no_rule}
use Rattle.app_words.proofs.request.request_of_rule.Goals as goal

pub returns-then-eq : goal.returns-then-eq
returns-then-eq c = told_no_rule _ _ _ _ (sym c.eq.ensures ∙ c.if-eq.true) c.no_rule.ensures

pub returns : goal.returns
returns c = ruled _ _ _ _ _ (sym c.eq.ensures ∙ c.if-eq.false) c.request_behind.ensures
