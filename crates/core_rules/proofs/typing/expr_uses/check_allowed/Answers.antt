use Rattle.core_syntax.specs.SyntaxViews.{position}
use Rattle.core_typed.proofs.NotedErrors.{told_when, wrong_when}
use Rattle.core_rules.proofs.typing.expr_uses.check_allowed.Goals as goal

pub returns-clause-exact : goal.returns-clause-exact
returns-clause-exact c =
    let at = position c.args.pos in
    wrong_when c.report_name.result at _ _ c.args.is_allowed c.if-is_allowed.false (told_when c.report_name.result at _ _ c.report_name.ensures.told)
