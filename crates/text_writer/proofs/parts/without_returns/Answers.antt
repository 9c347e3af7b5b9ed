use Rattle.text_writer.proofs.Texts.{pushed_text}
use Rattle.text_writer.proofs.Returns.{other_kept, return_dropped, nothing_left}
use Rattle.text_writer.proofs.parts.without_returns.Goals as goal

pub returns-in-None : goal.returns-in-None
returns-in-None c = nothing_left c.ends.comment c.pop.new.self _ c.in-None.ensures.none c.pop.ensures.bound c.ends.invariant

pub returns-then-last-ne13 : goal.returns-then-last-ne13
returns-then-last-ne13 c =
    other_kept _ _ _ _ c.in-Some.last c.if-last-ne13.true c.in_ok-comment-in-Some.ensures (pushed_text c.pop.new.self c.ends.comment c.in-Some.last c.in-Some.ensures.bytes) c.ends.invariant

pub ends-preserved : goal.ends-preserved
ends-preserved c = return_dropped _ _ _ c.in-Some.last c.if-last-ne13.false (pushed_text c.pop.new.self c.ends.comment c.in-Some.last c.in-Some.ensures.bytes) c.ends.invariant
