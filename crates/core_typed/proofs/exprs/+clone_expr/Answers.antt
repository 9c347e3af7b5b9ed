use Rattle.std.proofs.Common.{refl, rules}
use Rattle.core_typed.specs.ExprViews.{expr_view, let_view}
use Rattle.core_typed.proofs.Copies.{step_copies, end_copies}
use Rattle.core_typed.proofs.ExprBridges.{row_exprs-hidden, row_lets-hidden}
use Rattle.core_typed.proofs.exprs.+clone_expr.Goals as goal

pub ExprClone::clone-returns-in_ok-clones-in-Term : goal.ExprClone::clone-returns-in_ok-clones-in-Term
ExprClone::clone-returns-in_ok-clones-in-Term t c =
    record { cases = rw (c.in-Term.is, row_exprs-hidden c.in_ok-clones-in-Term.field-0, row_exprs-hidden c.in-Term.args, c.in_ok-clones-in-Term.ensures, c.deref.ensures.value) refl }

pub clones-loop-part-preserved : goal.clones-loop-part-preserved
clones-loop-part-preserved t c =
    step_copies expr_view c.loop-part.out.items c.push.new.self.items c.args.parts.now c.in_ok-clone.field-0 c.part-item.result c.loop-part.part-index (search rules) c.part-item.is c.in_ok-clone.ensures.cases c.in_ok-push.ensures.items c.loop-part.invariant

pub clones-returns : goal.clones-returns
clones-returns t c = end_copies expr_view c.loop-part.out.items c.args.parts.now c.loop-part.part-index (search rules) c.loop-part.invariant

pub clone_bindings-returns : goal.clone_bindings-returns
clone_bindings-returns t c = end_copies let_view c.loop-binding.out.items c.args.bindings.now c.loop-binding.binding-index (search rules) c.loop-binding.invariant

pub ExprClone::clone-returns-in_ok-new-in-Let : goal.ExprClone::clone-returns-in_ok-new-in-Let
ExprClone::clone-returns-in_ok-new-in-Let t c =
    record { cases = rw (c.in-Let.is, row_lets-hidden c.in_ok-clone_bindings-in-Let.field-0, row_lets-hidden c.in-Let.bindings, c.in_ok-clone_bindings-in-Let.ensures, c.deref-in-Let.ensures.value, c.in_ok-new-in-Let.ensures.ok, c.in_ok-clone-in-Let.ensures.cases, c.deref-in-Let-2.ensures) refl }
