use Rattle.std.proofs.Common.{refl, rules}
use Rattle.run_terms.proofs.ContentSteps.{row_contents-hidden, put_step, put_end}
use Rattle.run_terms.proofs.values.+content_clone.Goals as goal

pub ContentClone::clone-returns-in_ok-content_clones-in-Many : goal.ContentClone::clone-returns-in_ok-content_clones-in-Many
ContentClone::clone-returns-in_ok-content_clones-in-Many t c =
    record { cases = rw (c.in-Many.is, row_contents-hidden c.in_ok-content_clones-in-Many.field-0, row_contents-hidden c.in-Many.answers, c.in_ok-content_clones-in-Many.ensures, c.deref-in-Many.ensures.value) refl }

pub content_clones-loop-part-preserved : goal.content_clones-loop-part-preserved
content_clones-loop-part-preserved t c =
    put_step c.loop-part.out.items c.push.new.self.items c.args.parts.now c.in_ok-clone.field-0 c.part-item.result c.loop-part.part-index (search rules) c.part-item.is c.in_ok-clone.ensures.cases c.in_ok-push.ensures.items c.loop-part.invariant

pub content_clones-returns : goal.content_clones-returns
content_clones-returns t c = put_end c.loop-part.out.items c.args.parts.now c.loop-part.part-index (search rules) c.loop-part.invariant
