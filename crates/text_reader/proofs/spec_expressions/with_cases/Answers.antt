use Rattle.std.proofs.Common.{ap, sym, ◌∙◌, Ok}
use Rattle.core_syntax.specs.SyntaxViews.{name_view, position}
use Rattle.text_reader.specs.SpecTrees.{spec_cases}
use Rattle.text_reader.specs.SpecViews.{spec_expr_view, spec_expr_views}
use Rattle.text_reader.proofs.SpecViews.{row_spec_exprs-hidden}
use Rattle.text_reader.proofs.spec_expressions.with_cases.Goals as goal

pub returns : goal.returns
returns c =
    ap Ok (sym (ap (λ xs. spec_cases (name_view c.args.op) (spec_expr_view c.in_ok-value.value.value) xs (position c.args.pos)) (row_spec_exprs-hidden c.args.cases)
    ∙ ap (λ x. spec_cases (name_view c.args.op) (spec_expr_view x) (spec_expr_views c.args.cases.items) (position c.args.pos)) c.in_ok-value.ensures.ok))
