use Rattle.std.proofs.Common.{arith}
use Rattle.std.proofs.lemmas.Bool.{false≢true}
use Rattle.core_overlap.proofs.Queues.{falls, last_is_first, none_queued, queued_anew}
use Rattle.core_overlap.proofs.overlap.foremost.Goals as goal

pub loop-most-preserved : goal.loop-most-preserved
loop-most-preserved c = λ q i.
    queued_anew c.args.counts.now c.loop-most.queue c.pop_last.new.self c.insert.new.self c.in-Some.most c.count-left.result c.in-Some.place
    c.in-Some.ensures.updates c.count-left.ensures c.in_ok-insert.ensures.updates q (c.loop-most.invariant q i)

pub loop-most-smaller : goal.loop-most-smaller
loop-most-smaller c =
    falls c.loop-most.queue c.pop_last.new.self c.insert.new.self c.in-Some.most c.count-left.result c.in-Some.place
    c.in-Some.ensures.removal c.in_ok-insert.ensures.keys (let h = c.if-most-left.false in omega (arith, h))

pub returns-then-most-left-clause-first : goal.returns-then-most-left-clause-first
returns-then-most-left-clause-first c = λ q i.
    last_is_first c.args.counts.now c.loop-most.queue c.in-Some.most c.in-Some.place c.in-Some.ensures.greatest
    (let few = c.if-most-left.true in let is = c.count-left.ensures in omega (arith, few, is)) q (c.loop-most.invariant q i)

pub returns-then-most-left-clause-queued : goal.returns-then-most-left-clause-queued
returns-then-most-left-clause-queued c = λ q i.
    queued_anew c.args.counts.now c.loop-most.queue c.pop_last.new.self c.insert.new.self c.in-Some.most c.count-left.result c.in-Some.place
    c.in-Some.ensures.updates c.count-left.ensures c.in_ok-insert.ensures.updates q (c.loop-most.invariant q i)

pub returns-clause-first : goal.returns-clause-first
returns-clause-first c = λ q i.
    absurd (none_queued c.args.counts.now c.loop-most.queue q (λ one. false≢true (c.in_default.ensures.variant.1 one)) (c.loop-most.invariant q i))

pub returns-clause-queued : goal.returns-clause-queued
returns-clause-queued c = λ q i.
    absurd (none_queued c.args.counts.now c.loop-most.queue q (λ one. false≢true (c.in_default.ensures.variant.1 one)) (c.loop-most.invariant q i))
