use Rattle.std.proofs.Common.{◌≡◌, not, ◌&&◌, false, is_some, rules}
use Rattle.core_syntax.specs.SyntaxViews.{position}
use Rattle.core_typed.proofs.NotedErrors.{told_when, wrong_when}
use Rattle.core_rules.proofs.typing.rule.check_priority.Goals as goal

pub returns-clause-exact : goal.returns-clause-exact
returns-clause-exact c =
    let at = position c.args.pos in
    let wrong : not (c.args.flags.multi && is_some c.args.prio) ≡ false = search rules in
    wrong_when c.report_name.result at _ _ (not (c.args.flags.multi && is_some c.args.prio)) wrong (told_when c.report_name.result at _ _ c.report_name.ensures.told)
