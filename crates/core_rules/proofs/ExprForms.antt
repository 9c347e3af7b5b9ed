-- Each form of expression, from what its parts became.
use Rattle.std.proofs.Common.{◌≡◌, List, Vec, Box, sym, ap, ◌∙◌}
use Rattle.std.specs.declared.alloc.Global.{Global}
use Rattle.core_syntax.specs.declared.syntax.Ident.{Ident}
use Rattle.core_syntax.specs.declared.syntax.Pos.{Pos}
use Rattle.core_syntax.specs.declared.syntax.Expr as T
use Rattle.core_syntax.specs.declared.syntax.LetDef.{LetDef}
use Rattle.core_syntax.specs.SyntaxViews as S
use Rattle.core_syntax.proofs.ExprViews as V
use Rattle.model.specs.lists.Syntax.{term_expr, let_expr}

-- what the view of an expression is
pub seen_call : (q : T.Expr) (x : Ident) (args : Vec T.Expr Global) (p : Pos) (xs : List T.Expr) → q ≡ T.Term x args p → xs ≡ args.items → S.expr_view q ≡ term_expr (S.name_view x) (S.expr_views xs) (S.position p)
seen_call q x args p xs e f =
    ap S.expr_view e ∙ ap (λ zs. term_expr (S.name_view x) zs (S.position p)) (V.row_exprs-hidden args) ∙ ap (λ zs. term_expr (S.name_view x) (S.expr_views zs) (S.position p)) (sym f)

pub seen_let : (q : T.Expr) (defs : Vec LetDef Global) (body : Box T.Expr Global) (p : Pos) (ds : List LetDef) (b : T.Expr) → q ≡ T.Let defs body p → ds ≡ defs.items → b ≡ body.value
    → S.expr_view q ≡ let_expr (S.let_views ds) (S.expr_view b) (S.position p)
seen_let q defs body p ds b e f g =
    ap S.expr_view e ∙ ap (λ zs. let_expr zs (S.expr_view body.value) (S.position p)) (V.row_lets-hidden defs)
    ∙ ap (λ zs. let_expr (S.let_views zs) (S.expr_view body.value) (S.position p)) (sym f) ∙ ap (λ z. let_expr (S.let_views ds) (S.expr_view z) (S.position p)) (sym g)
