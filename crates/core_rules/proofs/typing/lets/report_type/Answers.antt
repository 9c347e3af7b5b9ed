use Rattle.core_syntax.specs.SyntaxViews.{position}
use Rattle.core_typed.proofs.NotedErrors.{told_when}
use Rattle.core_rules.proofs.typing.lets.report_type.Goals as goal

pub returns-clause-exact : goal.returns-clause-exact
returns-clause-exact c = told_when c.report.result (position c.args.pos) _ _ c.report.ensures.told
