use Rattle.std.proofs.Common.{arith, chars}
use Rattle.text_documents.proofs.Walking.{line_on, no_line_on, lines_done}
use Rattle.text_documents.proofs.lines.after_lines.Goals as goal

pub after_line-requires-text-text : goal.after_line-requires-text-text
after_line-requires-text-text c κs = c.loop.invariant.0

pub loop-preserved : goal.loop-preserved
loop-preserved c = (
  c.in_ok-rest.ensures.text,
  line_on c.args.count c.loop.counter (chars c.loop.rest.now) _ _ c.loop-test.true c.in_ok-rest.ensures.rest c.loop.invariant.1,
)

pub fact_in-rest : goal.fact_in-rest
fact_in-rest c = c.loop.invariant.0

pub returns-clause-text : goal.returns-clause-text
returns-clause-text c = c.loop.invariant.0

pub returns-clause-rest : goal.returns-clause-rest
returns-clause-rest c = lines_done c.args.count c.loop.counter _ _ (omega arith) c.loop.invariant.1

pub returns-in_err-rest-clause-rest : goal.returns-in_err-rest-clause-rest
returns-in_err-rest-clause-rest c =
    rw c.from_residual.ensures (no_line_on c.args.count c.loop.counter (chars c.loop.rest.now) _ c.loop-test.true c.in_err-rest.ensures.rest c.loop.invariant.1)
