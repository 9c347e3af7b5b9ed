-- The code that data is, by its vectors.
use Rattle.std.proofs.Common.{◌≡◌, refl, sym, ap, ◌∙◌, ℕ, Option, Vec}
use Rattle.std.specs.declared.alloc.Global.{Global}
use Rattle.core_syntax.specs.declared.syntax.Pos.{Pos}
use Rattle.core_syntax.specs.SyntaxViews.{position}
use Rattle.core_rule_sets.specs.declared.trie_again.Constraint.{Constraint}
use Rattle.core_rule_sets.specs.SiteViews.{constraint_view}
use Rattle.model_code.specs.Code as M
use Rattle.model_code.specs.Code.{no_statement, statement, CodeArms, code_arm}
use Rattle.rust_code.specs.declared.code.Use.{Use}
use Rattle.rust_code.specs.declared.code.BoundExpr.{BoundExpr}
use Rattle.rust_code.specs.declared.code.CodeBlock.{CodeBlock}
use Rattle.rust_code.specs.declared.code.CodeArm.{CodeArm}
use Rattle.rust_code.specs.declared.code.Statement.{Bind, BindSome, NoWay, MatchOn, IfEqual, ForEachOf, Give, Labelled, UnlessLet, UnlessEqual}
use Rattle.rust_code.specs.declared.code.Statement.TheBlock.{Row_of-Statement, end_of-Statement, more_of-Statement, Row_of-CodeArm, end_of-CodeArm, more_of-CodeArm, items-the_row-Statement, items-the_row-CodeArm, hidden-the_row-Statement-0, items_hidden-the_row-Statement-0, shown-the_row-Statement-0, items_shown-the_row-Statement-0, hidden-the_row-CodeArm-1, items_hidden-the_row-CodeArm-1}
use Rattle.rust_code.specs.CodeViews.{use_view, expr_view, statement_view, row_statements, row_arms, before, block_view, arms_before}

row_statements-items : {m : _} (r : Row_of-Statement m) → row_statements r ≡ before (items-the_row-Statement m r) no_statement
unfolding row_statements
row_statements-items end_of-Statement = refl
row_statements-items (more_of-Statement s rest) = ap (statement (statement_view s)) (row_statements-items rest)

body_seen : (b : CodeBlock) → row_statements (hidden-the_row-Statement-0 b.statements) ≡ block_view b
body_seen b = row_statements-items (hidden-the_row-Statement-0 b.statements) ∙ ap (λ l. before l no_statement) (items_hidden-the_row-Statement-0 b.statements)

pub bind_seen : (site : ℕ) (expr : BoundExpr) → statement_view (Bind site expr) ≡ M.bind site (expr_view expr)
unfolding statement_view
bind_seen site expr = refl

pub bind_some_seen : (site : ℕ) (value : Use) → statement_view (BindSome site value) ≡ M.bind_some site (use_view value)
unfolding statement_view
bind_some_seen site value = refl

pub no_way_seen : statement_view NoWay ≡ M.no_way
unfolding statement_view
no_way_seen = refl

pub equal_seen : (a b : Use) (body : CodeBlock) → statement_view (IfEqual a b body) ≡ M.if_equal (use_view a) (use_view b) (block_view body)
unfolding statement_view
equal_seen a b body = ap (M.if_equal (use_view a) (use_view b)) (body_seen body)

pub loop_seen : (site from : ℕ) (body : CodeBlock) → statement_view (ForEachOf site from body) ≡ M.for_each_of site from (block_view body)
unfolding statement_view
loop_seen site from body = ap (M.for_each_of site from) (body_seen body)

pub give_seen : (pos : Pos) (value : Use) → statement_view (Give pos value) ≡ M.give (position pos) (use_view value)
unfolding statement_view
give_seen pos value = refl

pub labelled_seen : (body : CodeBlock) → statement_view (Labelled body) ≡ M.labelled (block_view body)
unfolding statement_view
labelled_seen body = ap M.labelled (body_seen body)

pub unless_let_seen : (value : Use) (pattern : Constraint) (fields : Vec (Option ℕ) Global)
    → statement_view (UnlessLet value pattern fields) ≡ M.unless_let (use_view value) (constraint_view pattern) fields.items
unfolding statement_view
unless_let_seen value pattern fields = refl

pub unless_equal_seen : (a b : Use) → statement_view (UnlessEqual a b) ≡ M.unless_equal (use_view a) (use_view b)
unfolding statement_view
unless_equal_seen a b = refl

row_arms-items : {m : _} (r : Row_of-CodeArm m) → row_arms r ≡ arms_before (items-the_row-CodeArm m r) M.no_code_arm
unfolding row_arms
row_arms-items end_of-CodeArm = refl
row_arms-items (more_of-CodeArm pattern fields shape rows rest) =
    ap (λ b. code_arm (constraint_view pattern) fields.items b (row_arms rest)) (row_statements-items rows ∙ ap (λ l. before l no_statement) (sym (items_shown-the_row-Statement-0 shape rows)))
    ∙ ap (code_arm (constraint_view pattern) fields.items (before (shown-the_row-Statement-0 shape rows).items no_statement)) (row_arms-items rest)

pub match_seen : (value : Use) (arms : Vec CodeArm Global) → statement_view (MatchOn value arms) ≡ M.match_on (use_view value) (arms_before arms.items M.no_code_arm)
unfolding statement_view
match_seen value arms = ap (M.match_on (use_view value)) (row_arms-items (hidden-the_row-CodeArm-1 arms) ∙ ap (λ l. arms_before l M.no_code_arm) (items_hidden-the_row-CodeArm-1 arms))

-- for code that makes statements
pub ruleset code_steps = (bind_seen, bind_some_seen, no_way_seen, match_seen, equal_seen, loop_seen, give_seen, labelled_seen, unless_let_seen, unless_equal_seen)
