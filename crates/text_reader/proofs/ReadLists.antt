-- What a list of a text is read as, by what its parts are read as.
use Rattle.std.proofs.Common.{◌≡◌, List, sym, ap, ◌∙◌, Vec, Result, Ok, Err, arith}
use Rattle.std.specs.Prelude.{codes, true, false, IsErr, IsErrAnd, if◌then◌else◌}
use Rattle.std.specs.declared.alloc.Global.{Global}
use Rattle.std.proofs.lemmas.Grind.{common_steps}
use Rattle.core_syntax.specs.declared.syntax.Pos.{Pos}
use Rattle.core_syntax.specs.declared.syntax.Ident.{Ident}
use Rattle.core_syntax.specs.declared.syntax.Pattern.{Pattern, Term, And}
use Rattle.core_syntax.specs.declared.syntax.Expr.{Expr}
use Rattle.core_syntax.specs.declared.syntax.Expr.TheBlock.{hidden-the_row-LetDef-1}
use Rattle.core_syntax.specs.declared.syntax.LetDef.{LetDef}
use Rattle.core_syntax.specs.SyntaxViews.{position, name_view, pattern_view, pattern_views, expr_view, row_lets, let_views}
use Rattle.core_syntax.proofs.PatternViews.{view-Term, view-And}
use Rattle.core_syntax.proofs.ExprViews.{row_lets-hidden}
use Rattle.model.specs.lists.Syntax.{Position, Name, PatternTrees, ExprTrees, term_expr, let_expr}
use Rattle.text_reader.specs.declared.forms.TextForm.{TextForm, Group}
use Rattle.text_reader.specs.declared.errors.ReadFault.{ReadFault}
use Rattle.text_reader.specs.Lexemes.{Wrong, ◌>>=◌}
use Rattle.text_reader.specs.FormTrees.{FormTree, a_list, FormTrees}
use Rattle.text_reader.specs.FormViews.{form_view, all_view}
use Rattle.text_reader.specs.Grammar.{listed, reads, head_of}
use Rattle.text_reader.specs.PatternGrammar.{pattern_of, arguments_of, list_pattern_of, term_pattern_of}
use Rattle.text_reader.specs.ExprGrammar.{expr_of, expr_arguments_of, let_of}
use Rattle.text_reader.specs.Views.{Fails, Gives}
use Rattle.text_reader.proofs.Stacks.{row_hidden}

pub fails-too : {A B : Type 0} (e : ReadFault) (part : Result A Wrong) (whole : Result B Wrong) → Fails e part → ((w : Wrong) → part ≡ Err w → whole ≡ Err w) → Fails e whole
fails-too e part whole fails follows = grind (arith, common_steps)

-- what `?` hands on
pub handed-on : {X Y : Type 0} (view : X → Y) (r : Result X ReadFault) (e : ReadFault) (whole : Result Y Wrong) → IsErr r × IsErrAnd r (λ f. f ≡ e) → Fails e whole → Gives view r whole
handed-on view r e whole h fails = grind (arith, common_steps)

pub and-read : (head : Ident) (v : Vec Pattern Global) (p : Pos) → reads (name_view head) (codes "and") ≡ true
    → pattern_view (And v p) ≡ term_pattern_of (name_view head) (pattern_views v.items) (position p)
and-read s v p is = grind (arith, common_steps, view-And v p)

pub term-read : (head : Ident) (v : Vec Pattern Global) (p : Pos) → reads (name_view head) (codes "and") ≡ false
    → pattern_view (Term head v p) ≡ term_pattern_of (name_view head) (pattern_views v.items) (position p)
term-read s v p is = grind (arith, common_steps, view-Term s v p)

pub let-read : (defs : Vec LetDef Global) (e body : Expr) (p : Pos) → e ≡ body
    → let_expr (let_views defs.items) (expr_view body) (position p) ≡ let_expr (row_lets (hidden-the_row-LetDef-1 defs)) (expr_view e) (position p)
let-read defs e body p is = grind (arith, common_steps, row_lets-hidden)

-- a list of a text
pub group-view : (form : TextForm) (v : Vec TextForm Global) (p e : Pos) (fs : List TextForm) → form ≡ Group v p e → fs ≡ v.items
    → form_view form ≡ a_list (all_view fs) (position p) (position e)
group-view form v p e fs is at = ap form_view is ∙ ap (λ parts. a_list parts (position p) (position e)) (row_hidden v ∙ sym (ap all_view at))

module _ (f : FormTree) (fs : FormTrees) (at ends : Position) (is : f ≡ a_list fs at ends) where
  pub pattern-is : (head : Name) (args : PatternTrees) → head_of fs ends ≡ Ok head → arguments_of fs ≡ Ok args → list_pattern_of head args (listed fs at ends) ≡ pattern_of f
  pattern-is head args h a = grind (arith, common_steps)

  pub pattern-headless : (e : ReadFault) → Fails e (head_of fs ends) → Fails e (pattern_of f)
  pattern-headless e fails = grind (arith, common_steps, fails-too)

  pub pattern-unread : (head : Name) (e : ReadFault) → head_of fs ends ≡ Ok head → Fails e (arguments_of fs) → Fails e (pattern_of f)
  pattern-unread head e h fails = grind (arith, common_steps, fails-too)

  -- an expression, by its head
  by-head : (head : Name) → head_of fs ends ≡ Ok head → expr_of f ≡ (if reads head (codes "let") then let_of fs at ends else (expr_arguments_of fs >>= (λ es. Ok (term_expr head es at))))
  by-head head h = grind (arith, common_steps)

  pub expr-headless : (e : ReadFault) → Fails e (head_of fs ends) → Fails e (expr_of f)
  expr-headless e fails = grind (arith, common_steps, fails-too)

  pub expr-let : (head : Name) → head_of fs ends ≡ Ok head → reads head (codes "let") ≡ true → let_of fs at ends ≡ expr_of f
  expr-let head h is_let = sym (by-head head h ∙ ap (λ b. if b then let_of fs at ends else (expr_arguments_of fs >>= (λ es. Ok (term_expr head es at)))) is_let)

  pub expr-call : (head : Name) (args : ExprTrees) → head_of fs ends ≡ Ok head → reads head (codes "let") ≡ false → expr_arguments_of fs ≡ Ok args → expr_of f ≡ Ok (term_expr head args at)
  expr-call head args h no_let a = grind (arith, common_steps, by-head)

  pub expr-unread : (head : Name) (e : ReadFault) → head_of fs ends ≡ Ok head → reads head (codes "let") ≡ false → Fails e (expr_arguments_of fs) → Fails e (expr_of f)
  expr-unread head e h no_let fails = grind (arith, common_steps, fails-too, by-head)
