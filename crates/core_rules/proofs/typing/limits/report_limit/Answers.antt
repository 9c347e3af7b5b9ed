use Rattle.core_rules.proofs.LimitErrors.{limit_noted}
use Rattle.core_rules.proofs.typing.limits.report_limit.Goals as goal

pub returns-clause-noted : goal.returns-clause-noted
returns-clause-noted c = limit_noted c.args.limit c.args.pos _ c.new_single-span.result c.new_single-span.ensures.from c.args.errors.now.items c.push.new.self.items c.in_ok-push.ensures.items
