use Rattle.std.proofs.Common.{◌<◌, ◌-◌, arith, length, refl}
use Rattle.core_serialize.proofs.MatchCounts.{undone_last, undone_whole}
use Rattle.core_serialize.proofs.matched.Matched.go_back.Goals as goal

pub loop-self-preserved : goal.loop-self-preserved
loop-self-preserved c =
    let old = c.loop-self.self in
    let more : c.args.mark < length old.raised.items = omega (arith, c.loop-self-test.true, c.len.ensures) in
    let both = undone_last c.args.mark (length old.raised.items - 1) c.args.self.now old c.undo.new.self refl more c.undo.ensures c.loop-self.invariant.raised c.loop-self.invariant.counts in
    record { raised = both.0; counts = both.1 }

pub returns : goal.returns
returns c = undone_whole c.args.mark c.args.self.now c.loop-self.self (omega (arith, c.loop-self-test.false, c.len.ensures)) c.loop-self.invariant.raised c.loop-self.invariant.counts
