use Rattle.report_errors.proofs.Labels.{second_gone}
use Rattle.report_errors.proofs.lost.without_end.Goals as goal

pub returns : goal.returns
returns c = λ pos h. second_gone c.args.report.labels.items c.remove.new.self.items pos c.remove.ensures.by_index.2 h
