use Rattle.std.proofs.Common.{ℕ, ap, ◌∙◌}
use Rattle.model.specs.rules.Typed.{make_let}
use Rattle.model.specs.lists.Setting.{expr_type}
use Rattle.core_typed.specs.ExprViews.{expr_view, let_views, let_parts}
use Rattle.core_typed.proofs.ExprBridges.{row_lets-hidden}
use Rattle.core_rules.proofs.typing.lets.end_let.Goals as goal

pub returns-clause-view : goal.returns-clause-view
returns-clause-view c =
    ap (λ ds. make_let c.ty-ty.result.0 ds (expr_view c.in_ok-body.body.value)) (row_lets-hidden c.args.bindings)
    ∙ ap (λ (ty : ℕ). make_let ty (let_parts (let_views c.args.bindings.items)) (expr_view c.in_ok-body.body.value)) c.ty-ty.ensures
    ∙ ap (λ x. make_let (expr_type (expr_view c.args.body)) (let_parts (let_views c.args.bindings.items)) (expr_view x)) c.in_ok-body.ensures.ok
