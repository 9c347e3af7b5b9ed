use Rattle.std.proofs.Common.{inr, refl, Ok, Err}
use Rattle.core_typed.proofs.PatternRunSteps.{err_is}
use Rattle.core_builder.proofs.builder_rules.RuleSetBuilderRuleVisitor.with_expr.Goals as goal

pub returns-in_err-visited : goal.returns-in_err-visited
returns-in_err-visited g c =
    rw (err_is c.from_residual.result c.in_err-visited.field-0.0 c.from_residual.ensures)
    (inr (c.args.self.now, c.args.self.now, Err c.in_err-visited.field-0.0, c.run.new.visitor, (refl, refl), c.in_err-visited.ensures, (refl, refl)))

pub returns : goal.returns
returns g c = inr (c.args.self.now, c.args.self.now, Ok c.in_ok-visited.visited, c.run.new.visitor, (refl, refl), c.in_ok-visited.ensures, (refl, refl))
