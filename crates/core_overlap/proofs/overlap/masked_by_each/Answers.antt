use Rattle.std.proofs.Common.{arith}
use Rattle.core_overlap.proofs.Rows.{grouped_more}
use Rattle.core_overlap.proofs.overlap.masked_by_each.Goals as goal

pub loop-mask-preserved : goal.loop-mask-preserved
loop-mask-preserved c = record {
  count = c.loop-mask.invariant.count;
  grouped = grouped_more c.loop-mask.lists.items c.args.masked.now c.loop-mask.mask-index (0, record { file = 0; offset = 0 }) c.index_mut.result.now c.push.new.self c.loop-mask-test.true (let n = c.loop-mask.lists.ok.0 in let l = c.requires c.loop-mask.mask-index (0, record { file = 0; offset = 0 }) c.loop-mask-test.true in omega (arith, n, l, c.loop-mask.invariant.count)) c.index_mut.ensures.value c.in_ok-push.ensures.items c.loop-mask.invariant.grouped;
}
