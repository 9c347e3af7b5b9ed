use Rattle.std.proofs.Common.{refl, rules}
use Rattle.core_syntax.proofs.ExprViews.{row_exprs-hidden, step_exprs, end_exprs, step_lets, end_lets}
use Rattle.core_syntax.proofs.syntax.+expr_clone.Goals as goal

pub ExprClone::clone-returns-in_ok-expr_clones-in-Term : goal.ExprClone::clone-returns-in_ok-expr_clones-in-Term
ExprClone::clone-returns-in_ok-expr_clones-in-Term t c =
    record { cases = rw (c.in-Term.is, row_exprs-hidden c.in_ok-expr_clones-in-Term.field-0, row_exprs-hidden c.in-Term.args, c.in_ok-clone-in-Term.ensures.cases, c.in_ok-expr_clones-in-Term.ensures, c.deref.ensures.value) refl }

pub expr_clones-loop-part-preserved : goal.expr_clones-loop-part-preserved
expr_clones-loop-part-preserved t c =
    step_exprs c.loop-part.out.items c.push.new.self.items c.args.parts.now c.in_ok-clone.field-0 c.part-item.result c.loop-part.part-index (search rules) c.part-item.is c.in_ok-clone.ensures.cases c.in_ok-push.ensures.items c.loop-part.invariant

pub expr_clones-returns : goal.expr_clones-returns
expr_clones-returns t c = end_exprs c.loop-part.out.items c.args.parts.now c.loop-part.part-index (search rules) c.loop-part.invariant

pub let_clones-loop-part-preserved : goal.let_clones-loop-part-preserved
let_clones-loop-part-preserved t c =
    step_lets c.loop-part.out.items c.push.new.self.items c.args.parts.now c.in_ok-clone.field-0 c.part-item.result c.loop-part.part-index (search rules) c.part-item.is c.in_ok-clone.ensures.cases c.in_ok-push.ensures.items c.loop-part.invariant

pub let_clones-returns : goal.let_clones-returns
let_clones-returns t c = end_lets c.loop-part.out.items c.args.parts.now c.loop-part.part-index (search rules) c.loop-part.invariant
