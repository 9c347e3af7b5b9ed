use Rattle.std.proofs.Common.{rules}
use Rattle.spec_cases.proofs.CaseSteps.{gathered_more, gathered_done}
use Rattle.spec_cases.proofs.following.gathered.Goals as goal

pub loop-part-preserved : goal.loop-part-preserved
loop-part-preserved g c = λ v.
    gathered_more v c.loop-part.out.items c.extend_from_slice.new.self.items c.args.parts.now c.part-item.result _ c.loop-part.part-index (search rules) c.part-item.is c.deref.ensures.value
    c.in_ok-extend_from_slice.ensures.items (c.loop-part.invariant v)

pub returns : goal.returns
returns g c = λ v. gathered_done v c.loop-part.out.items c.args.parts.now c.loop-part.part-index (search rules) (c.loop-part.invariant v)
