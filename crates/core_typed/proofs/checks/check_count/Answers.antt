use Rattle.std.proofs.Common.{eqb}
use Rattle.std.proofs.lemmas.Bool.{ne_eqb}
use Rattle.core_syntax.specs.SyntaxViews.{position}
use Rattle.core_typed.proofs.NotedErrors.{told_when, wrong_when}
use Rattle.core_typed.proofs.checks.check_count.Goals as goal

pub returns-clause-exact : goal.returns-clause-exact
returns-clause-exact c =
    let at = position c.args.pos in
    wrong_when c.report.result at _ _ (eqb c.args.got c.args.expect) (ne_eqb c.args.got c.args.expect c.if-got-expect.false) (told_when c.report.result at _ _ c.report.ensures.told)
