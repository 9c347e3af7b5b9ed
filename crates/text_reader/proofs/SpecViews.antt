-- What the view of an expression is, where its parts lie in a `Vec`.
use Rattle.std.proofs.Common.{◌≡◌, List, [], ◌∷◌, refl, sym, ap, ◌∙◌, Vec}
use Rattle.std.specs.declared.alloc.Global.{Global}
use Rattle.text_reader.specs.declared.syntax.SpecExpr.{SpecExpr, Row_of-SpecExpr, end_of-SpecExpr, more_of-SpecExpr, items-the_row-SpecExpr}
use Rattle.text_reader.specs.declared.syntax.SpecExpr.TheBlock.{hidden-the_row-SpecExpr-0, items_hidden-the_row-SpecExpr-0}
use Rattle.text_reader.specs.SpecTrees.{spec_expr_and}
use Rattle.text_reader.specs.SpecViews.{spec_expr_view, row_spec_exprs, spec_expr_views}

row_spec_exprs-items : {m : _} (r : Row_of-SpecExpr m) → row_spec_exprs r ≡ spec_expr_views (items-the_row-SpecExpr m r)
row_spec_exprs-items end_of-SpecExpr = refl
row_spec_exprs-items (more_of-SpecExpr x xs) = ap (spec_expr_and (spec_expr_view x)) (row_spec_exprs-items xs)

pub row_spec_exprs-hidden : (v : Vec SpecExpr Global) → row_spec_exprs (hidden-the_row-SpecExpr-0 v) ≡ spec_expr_views v.items
row_spec_exprs-hidden v = row_spec_exprs-items (hidden-the_row-SpecExpr-0 v) ∙ ap spec_expr_views (items_hidden-the_row-SpecExpr-0 v)

pub ruleset spec_steps = (row_spec_exprs-hidden)
