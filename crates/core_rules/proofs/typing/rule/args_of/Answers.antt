use Rattle.core_syntax.proofs.PatternViews.{row_patterns-hidden}
use Rattle.core_rules.proofs.typing.rule.args_of.Goals as goal

pub returns-in-Term : goal.returns-in-Term
returns-in-Term c = rw (c.in-Term.is, c.deref.ensures.value) (row_patterns-hidden c.in-Term.args)
