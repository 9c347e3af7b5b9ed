use Rattle.std.proofs.Common.{rules, refl}
use Rattle.core_serialize.proofs.TreeLaws.{match_seen, equal_seen, loop_seen, return_seen}
use Rattle.report_queries.proofs.rules.rule_returned.Goals as goal

pub returns-in-Return : goal.returns-in-Return
returns-in-Return c = rw (c.in-Return.is, return_seen c.in-Return.pos c.in-Return.result) c.rule_behind.ensures

pub returns-in-Match : goal.returns-in-Match
returns-in-Match c = rw (c.in-Match.is, match_seen c.in-Match.source c.in-Match.arms) refl

pub returns-in-Equal : goal.returns-in-Equal
returns-in-Equal c = rw (c.in-Equal.is, equal_seen c.in-Equal.a c.in-Equal.b c.in-Equal.body) refl

pub returns-in-Loop : goal.returns-in-Loop
returns-in-Loop c = rw (c.in-Loop.is, loop_seen c.in-Loop.result c.in-Loop.body) refl
