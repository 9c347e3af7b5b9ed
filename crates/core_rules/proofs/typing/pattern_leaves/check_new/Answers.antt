use Rattle.std.proofs.Common.{not, is_some, sym, ap}
use Rattle.core_syntax.specs.SyntaxViews.{position}
use Rattle.core_typed.proofs.NotedErrors.{told_when, wrong_when}
use Rattle.core_rules.specs.Progress.{newest}
use Rattle.core_rules.proofs.typing.pattern_leaves.check_new.Goals as goal

pub returns-clause-exact : goal.returns-clause-exact
returns-clause-exact c =
    let at = position c.args.pos in
    wrong_when c.report_name.result at _ _ (not (is_some (newest c.args.work.now c.args.name.0))) (ap (λ o. not (is_some o)) (sym c.in-Some.ensures)) (told_when c.report_name.result at _ _ c.report_name.ensures.told)
