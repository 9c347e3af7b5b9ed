use Rattle.std.proofs.Common.{inr}
use Rattle.check_refusals.proofs.LentVisitors.{taken}
use Rattle.check_refusals.proofs.recorder.RecorderRuleVisitor.with_pattern.Goals as goal

pub returns : goal.returns
returns g c = inr (c.note.new.self, c.note.new.self, c.run.result, c.run.new.visitor, tt, c.run.ensures, taken c.run.new.visitor c.run.result)
