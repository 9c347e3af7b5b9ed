use Rattle.std.proofs.Common.{rules}
use Rattle.run_terms.proofs.FieldSteps.{ones_start, ones_more, ones_done}
use Rattle.run_terms.proofs.fields.each_one.Goals as goal

pub loop-value-init : goal.loop-value-init
loop-value-init c = ones_start c.args.values.now c.new-out.result.items c.new-out.ensures.items

pub loop-value-preserved : goal.loop-value-preserved
loop-value-preserved c =
    ones_more c.loop-value.out.items c.push.new.self.items c.args.values.now c.in_ok-clone.field-0 c.value-item.result c.loop-value.value-index _ (search rules) c.value-item.is c.in_ok-clone.ensures.cases c.in_ok-push.ensures.items
    c.loop-value.invariant

pub returns : goal.returns
returns c = ones_done c.loop-value.out.items c.args.values.now c.loop-value.value-index _ (search rules) c.loop-value.invariant
