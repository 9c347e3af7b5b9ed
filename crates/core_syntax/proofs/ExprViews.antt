-- What the view of an expression is, where its parts lie in a `Vec`.
use Rattle.std.proofs.Common.{◌≡◌, ℕ, ◌+◌, ◌<◌, ◌≤◌, List, [], ◌∷◌, ◌++◌, length, get_or, drop, refl, sym, ap, ◌∙◌, Vec}
use Rattle.std.proofs.lemmas.List.{at_drop_more, at_drop_all}
use Rattle.std.specs.declared.alloc.Global.{Global}
use Rattle.core_syntax.specs.declared.syntax.Expr.{Expr}
use Rattle.core_syntax.specs.declared.syntax.Expr.TheBlock.{Row_of-Expr, end_of-Expr, more_of-Expr, items-the_row-Expr, hidden-the_row-Expr-0, items_hidden-the_row-Expr-0, Row_of-LetDef, end_of-LetDef, more_of-LetDef, items-the_row-LetDef, hidden-the_row-LetDef-1, items_hidden-the_row-LetDef-1}
use Rattle.core_syntax.specs.declared.syntax.LetDef.{LetDef}
use Rattle.model.specs.lists.Syntax.{ExprTrees, no_expr, expr_and, LetTrees, no_let, let_and}
use Rattle.core_syntax.specs.SyntaxViews.{position, name_view, expr_view, row_exprs, row_lets, expr_views, let_views}

row_exprs-items : {m : _} (r : Row_of-Expr m) → row_exprs r ≡ expr_views (items-the_row-Expr m r)
row_exprs-items end_of-Expr = refl
row_exprs-items (more_of-Expr e es) = ap (expr_and (expr_view e)) (row_exprs-items es)

row_lets-items : {m : _} (r : Row_of-LetDef m) → row_lets r ≡ let_views (items-the_row-LetDef m r)
row_lets-items end_of-LetDef = refl
row_lets-items (more_of-LetDef v t b e p ds) = ap (let_and (name_view v) (name_view t) (expr_view e) (position p)) (row_lets-items ds)

pub row_exprs-hidden : (v : Vec Expr Global) → row_exprs (hidden-the_row-Expr-0 v) ≡ expr_views v.items
row_exprs-hidden v = row_exprs-items (hidden-the_row-Expr-0 v) ∙ ap expr_views (items_hidden-the_row-Expr-0 v)

pub row_lets-hidden : (v : Vec LetDef Global) → row_lets (hidden-the_row-LetDef-1 v) ≡ let_views v.items
row_lets-hidden v = row_lets-items (hidden-the_row-LetDef-1 v) ∙ ap let_views (items_hidden-the_row-LetDef-1 v)

-- expressions after others
unfoldable pub exprs_before : List Expr → ExprTrees → ExprTrees
exprs_before [] rs = rs
exprs_before (e ∷ es) rs = expr_and (expr_view e) (exprs_before es rs)

-- definitions after others
unfoldable pub lets_before : List LetDef → LetTrees → LetTrees
lets_before [] rs = rs
lets_before (d ∷ ds) rs = let_and (name_view d.var) (name_view d.ty) (expr_view d.val.value) (position d.pos) (lets_before ds rs)

-- one definition before others
abbrev pub with_let : LetDef → LetTrees → LetTrees
with_let d rs = let_and (name_view d.var) (name_view d.ty) (expr_view d.val.value) (position d.pos) rs

exprs_before-push : (es : List Expr) (e : Expr) (rs : ExprTrees) → exprs_before (es ++ e ∷ []) rs ≡ exprs_before es (expr_and (expr_view e) rs)
unfolding exprs_before
exprs_before-push [] e rs = refl
exprs_before-push (d ∷ es) e rs = ap (expr_and (expr_view d)) (exprs_before-push es e rs)

exprs_before-none : (es : List Expr) → exprs_before es no_expr ≡ expr_views es
unfolding exprs_before
exprs_before-none [] = refl
exprs_before-none (e ∷ es) = ap (expr_and (expr_view e)) (exprs_before-none es)

pub exprs_before-nil : (rs : ExprTrees) → exprs_before [] rs ≡ rs
unfolding exprs_before
exprs_before-nil rs = refl

lets_before-push : (ds : List LetDef) (d : LetDef) (rs : LetTrees) → lets_before (ds ++ d ∷ []) rs ≡ lets_before ds (with_let d rs)
unfolding lets_before
lets_before-push [] d rs = refl
lets_before-push (c ∷ ds) d rs = ap (with_let c) (lets_before-push ds d rs)

lets_before-none : (ds : List LetDef) → lets_before ds no_let ≡ let_views ds
unfolding lets_before
lets_before-none [] = refl
lets_before-none (d ∷ ds) = ap (with_let d) (lets_before-none ds)

pub lets_before-nil : (rs : LetTrees) → lets_before [] rs ≡ rs
unfolding lets_before
lets_before-nil rs = refl

-- a step of a loop that clones each expression
pub step_exprs : (out new parts : List Expr) (e x : Expr) (i : ℕ) → i < length parts → x ≡ get_or parts i x → expr_view e ≡ expr_view x → new ≡ out ++ e ∷ [] → exprs_before out (expr_views (drop i parts)) ≡ expr_views parts → exprs_before new (expr_views (drop (i + 1) parts)) ≡ expr_views parts
step_exprs out new parts e x i h at made is inv =
    let a = exprs_before-push out e (expr_views (drop (i + 1) parts)) in
    let d : expr_views (drop i parts) ≡ expr_and (expr_view (get_or parts i x)) (expr_views (drop (i + 1) parts)) = at_drop_more expr_views parts i x h in
    cc

pub end_exprs : (out parts : List Expr) (i : ℕ) → length parts ≤ i → exprs_before out (expr_views (drop i parts)) ≡ expr_views parts → expr_views out ≡ expr_views parts
end_exprs out parts i h inv =
    let a = at_drop_all expr_views parts i h in
    let b = exprs_before-none out in
    cc

-- a step of a loop that clones each definition
pub step_lets : (out new parts : List LetDef) (d x : LetDef) (i : ℕ) → i < length parts → x ≡ get_or parts i x → let_views (d ∷ []) ≡ let_views (x ∷ []) → new ≡ out ++ d ∷ [] → lets_before out (let_views (drop i parts)) ≡ let_views parts → lets_before new (let_views (drop (i + 1) parts)) ≡ let_views parts
step_lets out new parts d x i h at made is inv =
    let rest = let_views (drop (i + 1) parts) in
    let a = lets_before-push out d rest in
    let e : let_views (drop i parts) ≡ with_let (get_or parts i x) rest = at_drop_more let_views parts i x h in
    let m : with_let d rest ≡ with_let x rest = with_same d x rest made in
    let g : with_let (get_or parts i x) rest ≡ with_let x rest = ap (λ y. with_let y rest) (sym at) in
    cc
  where
    -- what stands before none stands before any
    replaced : LetTrees → LetTrees → LetTrees
    replaced rs no_let = no_let
    replaced rs (let_and n t e p ds) = let_and n t e p rs

    with_same : (c y : LetDef) (rs : LetTrees) → let_views (c ∷ []) ≡ let_views (y ∷ []) → with_let c rs ≡ with_let y rs
    with_same c y rs same = ap (replaced rs) same

pub end_lets : (out parts : List LetDef) (i : ℕ) → length parts ≤ i → lets_before out (let_views (drop i parts)) ≡ let_views parts → let_views out ≡ let_views parts
end_lets out parts i h inv =
    let a = at_drop_all let_views parts i h in
    let b = lets_before-none out in
    cc

pub ruleset expr_steps = (row_exprs-hidden, row_lets-hidden, exprs_before-nil, lets_before-nil)
