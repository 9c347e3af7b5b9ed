use Rattle.std.proofs.Common.{◌≡◌, ◌++◌, map, drop}
use Rattle.core_typed.specs.ExprViews.{expr_view, let_view}
use Rattle.core_typed.proofs.exprs.+clone_expr.Given as goal

abbrev pub invariant-clones-loop-part : goal.invariant-clones-loop-part
invariant-clones-loop-part l = map expr_view l.out.items ++ map expr_view (drop l.part-index l.parts) ≡ map expr_view l.parts

abbrev pub invariant-clone_bindings-loop-binding : goal.invariant-clone_bindings-loop-binding
invariant-clone_bindings-loop-binding l = map let_view l.out.items ++ map let_view (drop l.binding-index l.bindings) ≡ map let_view l.bindings
