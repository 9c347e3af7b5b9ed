use Rattle.std.proofs.Common.{eqb, sym, ◌∙◌}
use Rattle.core_syntax.specs.SyntaxViews.{position}
use Rattle.core_typed.proofs.NotedErrors.{told_when, wrong_when}
use Rattle.core_typed.proofs.checks.check_bool.Goals as goal

pub returns-clause-exact : goal.returns-clause-exact
returns-clause-exact c =
    let at = position c.args.pos in
    wrong_when c.report.result at _ _ (eqb c.args.ty.0 0) (sym c.eq.ensures ∙ c.if-eq.false) (told_when c.report.result at _ _ c.report.ensures.told)
