-- Forms that are read one after another into a list of trees.
use Rattle.std.proofs.Common.{◌≡◌, ℕ, ◌+◌, ◌<◌, ◌≤◌, List, [], ◌∷◌, ◌++◌, drop, get_or, length, refl, ap, ◌∙◌, Result, Ok, arith}
use Rattle.std.proofs.lemmas.List.{at_drop_more, at_drop_all}
use Rattle.std.proofs.lemmas.Grind.{common_steps}
use Rattle.core_syntax.specs.declared.syntax.Pattern.{Pattern}
use Rattle.core_syntax.specs.declared.syntax.Expr.{Expr}
use Rattle.core_syntax.specs.declared.syntax.LetDef.{LetDef}
use Rattle.core_syntax.specs.SyntaxViews.{pattern_view, pattern_views, expr_view, expr_views, let_views}
use Rattle.model.specs.lists.Syntax.{Position, Name, PatternTrees, no_pattern, pattern_and, ExprTree, ExprTrees, no_expr, expr_and, LetTrees, no_let, let_and}
use Rattle.text_reader.specs.declared.forms.TextForm.{TextForm}
use Rattle.text_reader.specs.declared.errors.ReadFault.{ReadFault}
use Rattle.text_reader.specs.Lexemes.{Wrong, ◌>>=◌}
use Rattle.text_reader.specs.FormTrees.{FormTree, FormTrees, no_form, form_and}
use Rattle.text_reader.specs.FormViews.{form_view, all_view}
use Rattle.text_reader.specs.PatternGrammar.{pattern_of, patterns_of, arguments_of}
use Rattle.text_reader.specs.ExprGrammar.{expr_of, exprs_of, expr_arguments_of, let_definition_of, lets_in}
use Rattle.text_reader.specs.LetViews.{let_tuple}
use Rattle.text_reader.specs.Views.{Fails}
use Rattle.text_reader.proofs.ReadLists.{fails-too}

-- A is a tree, AS a list of such trees; one form is read as one tree, and forms as a list of trees
abbrev pub AllIsEach : {A AS : Type 0} (and : A → AS → AS) (one : FormTree → Result A Wrong) (all : FormTrees → Result AS Wrong) → Type 0
AllIsEach and one all = (f : FormTree) (fs : FormTrees) → all (form_and f fs) ≡ (one f >>= (λ x. all fs >>= (λ xs. Ok (and x xs))))

-- trees before others
abbrev pub before : {X A AS : Type 0} → (A → AS → AS) → (X → A) → List X → AS → AS
before and view [] rest = rest
before and view (x ∷ xs) rest = and (view x) (before and view xs rest)

-- what the forms from this one on are makes, behind what is read, the whole
abbrev pub AreRead : {X A AS : Type 0} → (A → AS → AS) → (X → A) → (FormTrees → Result AS Wrong) → Result AS Wrong → List TextForm → ℕ → List X → Type 0
AreRead and view all whole forms count read = whole ≡ (all (all_view (drop count forms)) >>= (λ rest. Ok (before and view read rest)))

before-push : {X A AS : Type 0} (and : A → AS → AS) (view : X → A) (xs : List X) (x : X) (rest : AS) → before and view (xs ++ x ∷ []) rest ≡ before and view xs (and (view x) rest)
before-push and view [] x rest = refl
before-push and view (y ∷ xs) x rest = ap (and (view y)) (before-push and view xs x rest)

same : {X A AS : Type 0} (and : A → AS → AS) (view : X → A) (r : Result AS Wrong) → r ≡ (r >>= (λ rest. Ok (before and view [] rest)))
same and view r = grind (arith, common_steps)

joined : {X A AS : Type 0} (and : A → AS → AS) (view : X → A) (old new : List X) (x : X) (r : Result AS Wrong) → new ≡ old ++ x ∷ []
    → ((r >>= (λ xs. Ok (and (view x) xs))) >>= (λ rest. Ok (before and view old rest))) ≡ (r >>= (λ rest. Ok (before and view new rest)))
joined and view old new x r pushed = grind (arith, common_steps, before-push)

-- the form that comes next, and the others
parted : {A AS : Type 0} (and : A → AS → AS) (one : FormTree → Result A Wrong) (all : FormTrees → Result AS Wrong) → AllIsEach and one all
    → (forms : List TextForm) (n : ℕ) (f : TextForm) → n < length forms → f ≡ get_or forms n f
    → all (all_view (drop n forms)) ≡ (one (form_view f) >>= (λ x. all (all_view (drop (n + 1) forms)) >>= (λ xs. Ok (and x xs))))
parted and one all each forms n f inside at = grind (arith, common_steps, at_drop_more)

pub begun : {X A AS : Type 0} (and : A → AS → AS) (view : X → A) (all : FormTrees → Result AS Wrong) (whole : Result AS Wrong) (forms : List TextForm) (count : ℕ) (read : List X)
    → read ≡ [] → whole ≡ all (all_view (drop count forms)) → AreRead and view all whole forms count read
begun and view all whole forms count read empty is = grind (arith, common_steps, same)

pub put : {X A AS : Type 0} (and : A → AS → AS) (view : X → A) (one : FormTree → Result A Wrong) (all : FormTrees → Result AS Wrong) → AllIsEach and one all
    → (whole : Result AS Wrong) (forms : List TextForm) (n : ℕ) (old new : List X) (f : TextForm) (x : X) → n < length forms → f ≡ get_or forms n f
    → one (form_view f) ≡ Ok (view x) → new ≡ old ++ x ∷ [] → AreRead and view all whole forms n old → AreRead and view all whole forms (n + 1) new
put and view one all each whole forms n old new f x inside at is pushed so_far =
    so_far
    ∙ ap (λ r. r >>= (λ rest. Ok (before and view old rest)))
    (parted and one all each forms n f inside at ∙ ap (λ r. r >>= (λ y. all (all_view (drop (n + 1) forms)) >>= (λ xs. Ok (and y xs)))) is)
    ∙ joined and view old new x (all (all_view (drop (n + 1) forms))) pushed

pub failed : {X A AS : Type 0} (and : A → AS → AS) (view : X → A) (one : FormTree → Result A Wrong) (all : FormTrees → Result AS Wrong) → AllIsEach and one all
    → (whole : Result AS Wrong) (forms : List TextForm) (n : ℕ) (read : List X) (f : TextForm) (e : ReadFault) → n < length forms → f ≡ get_or forms n f
    → Fails e (one (form_view f)) → AreRead and view all whole forms n read → Fails e whole
failed and view one all each whole forms n read f e inside at fails so_far = grind (arith, common_steps, fails-too, parted)

pub done : {X A AS : Type 0} (and : A → AS → AS) (view : X → A) (all : FormTrees → Result AS Wrong) (none : AS) (whole : Result AS Wrong) (forms : List TextForm) (n : ℕ) (read : List X)
    → all no_form ≡ Ok none → length forms ≤ n → AreRead and view all whole forms n read → whole ≡ Ok (before and view read none)
done and view all none whole forms n read at_end past so_far = grind (arith, common_steps, at_drop_all)

-- ---- patterns

abbrev pub PatternsAreRead : Result PatternTrees Wrong → List TextForm → ℕ → List Pattern → Type 0
PatternsAreRead whole forms count read = AreRead pattern_and pattern_view patterns_of whole forms count read

each-pattern : AllIsEach pattern_and pattern_of patterns_of
each-pattern f fs = refl

before-patterns : (ps : List Pattern) → before pattern_and pattern_view ps no_pattern ≡ pattern_views ps
before-patterns [] = refl
before-patterns (p ∷ ps) = ap (pattern_and (pattern_view p)) (before-patterns ps)

-- the arguments are the patterns behind the first form
behind-first : (forms : List TextForm) → arguments_of (all_view forms) ≡ patterns_of (all_view (drop 1 forms))
behind-first forms = grind (arith, common_steps)

pub arguments-begun : (forms : List TextForm) (read : List Pattern) → read ≡ [] → PatternsAreRead (arguments_of (all_view forms)) forms 1 read
arguments-begun forms read empty = begun pattern_and pattern_view patterns_of (arguments_of (all_view forms)) forms 1 read empty (behind-first forms)

pub patterns-put : (whole : Result PatternTrees Wrong) (forms : List TextForm) (n : ℕ) (old new : List Pattern) (f : TextForm) (p : Pattern) → n < length forms → f ≡ get_or forms n f
    → pattern_of (form_view f) ≡ Ok (pattern_view p) → new ≡ old ++ p ∷ [] → PatternsAreRead whole forms n old → PatternsAreRead whole forms (n + 1) new
patterns-put = put pattern_and pattern_view pattern_of patterns_of each-pattern

pub patterns-failed : (whole : Result PatternTrees Wrong) (forms : List TextForm) (n : ℕ) (read : List Pattern) (f : TextForm) (e : ReadFault) → n < length forms → f ≡ get_or forms n f
    → Fails e (pattern_of (form_view f)) → PatternsAreRead whole forms n read → Fails e whole
patterns-failed = failed pattern_and pattern_view pattern_of patterns_of each-pattern

pub patterns-done : (whole : Result PatternTrees Wrong) (forms : List TextForm) (n : ℕ) (read : List Pattern) → length forms ≤ n → PatternsAreRead whole forms n read → whole ≡ Ok (pattern_views read)
patterns-done whole forms n read past so_far = done pattern_and pattern_view patterns_of no_pattern whole forms n read refl past so_far ∙ ap Ok (before-patterns read)

-- ---- expressions

abbrev pub ExprsAreRead : Result ExprTrees Wrong → List TextForm → ℕ → List Expr → Type 0
ExprsAreRead whole forms count read = AreRead expr_and expr_view exprs_of whole forms count read

each-expr : AllIsEach expr_and expr_of exprs_of
each-expr f fs = refl

before-exprs : (es : List Expr) → before expr_and expr_view es no_expr ≡ expr_views es
before-exprs [] = refl
before-exprs (e ∷ es) = ap (expr_and (expr_view e)) (before-exprs es)

exprs-behind-first : (forms : List TextForm) → expr_arguments_of (all_view forms) ≡ exprs_of (all_view (drop 1 forms))
exprs-behind-first forms = grind (arith, common_steps)

pub expr-arguments-begun : (forms : List TextForm) (read : List Expr) → read ≡ [] → ExprsAreRead (expr_arguments_of (all_view forms)) forms 1 read
expr-arguments-begun forms read empty = begun expr_and expr_view exprs_of (expr_arguments_of (all_view forms)) forms 1 read empty (exprs-behind-first forms)

pub exprs-put : (whole : Result ExprTrees Wrong) (forms : List TextForm) (n : ℕ) (old new : List Expr) (f : TextForm) (e : Expr) → n < length forms → f ≡ get_or forms n f
    → expr_of (form_view f) ≡ Ok (expr_view e) → new ≡ old ++ e ∷ [] → ExprsAreRead whole forms n old → ExprsAreRead whole forms (n + 1) new
exprs-put = put expr_and expr_view expr_of exprs_of each-expr

pub exprs-failed : (whole : Result ExprTrees Wrong) (forms : List TextForm) (n : ℕ) (read : List Expr) (f : TextForm) (e : ReadFault) → n < length forms → f ≡ get_or forms n f
    → Fails e (expr_of (form_view f)) → ExprsAreRead whole forms n read → Fails e whole
exprs-failed = failed expr_and expr_view expr_of exprs_of each-expr

pub exprs-done : (whole : Result ExprTrees Wrong) (forms : List TextForm) (n : ℕ) (read : List Expr) → length forms ≤ n → ExprsAreRead whole forms n read → whole ≡ Ok (expr_views read)
exprs-done whole forms n read past so_far = done expr_and expr_view exprs_of no_expr whole forms n read refl past so_far ∙ ap Ok (before-exprs read)

-- ---- definitions of a let

abbrev with_definition : Name × Name × ExprTree × Position → LetTrees → LetTrees
with_definition d ds = let_and d.0 d.1 d.2 d.3 ds

abbrev pub LetsAreRead : Result LetTrees Wrong → List TextForm → ℕ → List LetDef → Type 0
LetsAreRead whole forms count read = AreRead with_definition let_tuple lets_in whole forms count read

each-let : AllIsEach with_definition let_definition_of lets_in
each-let f fs = refl

before-lets : (ds : List LetDef) → before with_definition let_tuple ds no_let ≡ let_views ds
before-lets [] = refl
before-lets (d ∷ ds) = ap (with_definition (let_tuple d)) (before-lets ds)

pub lets-begun : (forms : List TextForm) (read : List LetDef) → read ≡ [] → LetsAreRead (lets_in (all_view forms)) forms 0 read
lets-begun forms read empty = begun with_definition let_tuple lets_in (lets_in (all_view forms)) forms 0 read empty refl

pub lets-put : (whole : Result LetTrees Wrong) (forms : List TextForm) (n : ℕ) (old new : List LetDef) (f : TextForm) (d : LetDef) → n < length forms → f ≡ get_or forms n f
    → let_definition_of (form_view f) ≡ Ok (let_tuple d) → new ≡ old ++ d ∷ [] → LetsAreRead whole forms n old → LetsAreRead whole forms (n + 1) new
lets-put = put with_definition let_tuple let_definition_of lets_in each-let

pub lets-failed : (whole : Result LetTrees Wrong) (forms : List TextForm) (n : ℕ) (read : List LetDef) (f : TextForm) (e : ReadFault) → n < length forms → f ≡ get_or forms n f
    → Fails e (let_definition_of (form_view f)) → LetsAreRead whole forms n read → Fails e whole
lets-failed = failed with_definition let_tuple let_definition_of lets_in each-let

pub lets-done : (whole : Result LetTrees Wrong) (forms : List TextForm) (n : ℕ) (read : List LetDef) → length forms ≤ n → LetsAreRead whole forms n read → whole ≡ Ok (let_views read)
lets-done whole forms n read past so_far = done with_definition let_tuple lets_in no_let whole forms n read refl past so_far ∙ ap Ok (before-lets read)
