use Rattle.std.proofs.Common.{inr, refl, Ok, Err}
use Rattle.core_typed.proofs.PatternRunSteps.{err_is}
use Rattle.check_refusals.proofs.recorder.RecorderRuleVisitor.with_expr.Goals as goal

pub returns-in_err-visited : goal.returns-in_err-visited
returns-in_err-visited g c =
    rw (err_is c.from_residual.result c.in_err-visited.field-0.0 c.from_residual.ensures)
    (inr (c.note.new.self, c.note.new.self, Err c.in_err-visited.field-0.0, c.run.new.visitor, tt, c.in_err-visited.ensures, (tt, refl)))

pub returns : goal.returns
returns g c = inr (c.note.new.self, c.note.new.self, Ok c.in_ok-visited.visited, c.run.new.visitor, tt, c.in_ok-visited.ensures, tt)
