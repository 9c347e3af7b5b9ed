use Rattle.std.proofs.Common.{eqb, sym, ◌∙◌}
use Rattle.core_syntax.specs.SyntaxViews.{position}
use Rattle.core_typed.proofs.NotedErrors.{wrong_when}
use Rattle.core_typed.proofs.checks.check_same.Goals as goal

pub returns-clause-exact : goal.returns-clause-exact
returns-clause-exact c =
    wrong_when c.report_mismatch.result (position c.args.pos) _ _ (eqb c.args.has.0 c.args.want.0) (sym c.eq.ensures ∙ c.if-eq.false) c.report_mismatch.ensures.exact
