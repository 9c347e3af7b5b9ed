-- What lies within a text, where its parts lie in a `Vec`.
use Rattle.std.proofs.Common.{◌≡◌, ℕ, List, [], ◌∷◌, ◌++◌, All, subst, sym, Vec, map, arith}
use Rattle.std.proofs.lemmas.List.Elements.{All-nil, All-cons, All-head, All-tail, All-map, All-push}
use Rattle.std.specs.declared.alloc.Global.{Global}
use Rattle.std.proofs.lemmas.Grind.{common_steps}
use Rattle.core_syntax.specs.declared.syntax.Pattern.{Pattern}
use Rattle.core_syntax.specs.declared.syntax.Pattern.TheBlock.{hidden-the_row-Pattern-0}
use Rattle.core_syntax.specs.declared.syntax.Expr.{Expr}
use Rattle.core_syntax.specs.declared.syntax.Expr.TheBlock.{hidden-the_row-Expr-0, hidden-the_row-LetDef-1}
use Rattle.core_syntax.specs.declared.syntax.LetDef.{LetDef}
use Rattle.core_syntax.specs.declared.syntax.Ident.{Ident}
use Rattle.core_syntax.specs.declared.syntax.Pos.{Pos}
use Rattle.core_syntax.specs.declared.syntax.StructField.{StructField}
use Rattle.core_syntax.specs.declared.syntax.TupleField.{TupleField}
use Rattle.core_syntax.specs.declared.syntax.Variant.{Variant}
use Rattle.core_syntax.specs.declared.syntax.IfLet.{IfLet}
use Rattle.core_syntax.specs.declared.syntax.Def.{Def}
use Rattle.core_syntax.specs.SyntaxViews.{name_view, pattern_view, pattern_views, row_patterns, expr_view, expr_views, row_exprs, let_views, row_lets, field_view, tuple_field_view, variant_view, iflet_view, definition_view, definition_views}
use Rattle.core_syntax.proofs.PatternViews.{row_patterns-hidden}
use Rattle.core_syntax.proofs.ExprViews.{row_exprs-hidden, row_lets-hidden}
use Rattle.text_reader.specs.declared.forms.TextForm.{TextForm, Group, Row_of-TextForm, end_of-TextForm, more_of-TextForm, items-the_row-TextForm}
use Rattle.text_reader.specs.declared.forms.TextForm.TheBlock.{hidden-the_row-TextForm-0, items_hidden-the_row-TextForm-0}
use Rattle.text_reader.specs.Forms.{FormIsWithin, RowIsWithin, FormsAreWithin, IdentsAreWithin, PosIsWithin}
use Rattle.text_reader.specs.Lets.{LetIsWithin}
use Rattle.text_reader.specs.Within.{NameIsWithin, PatternIsWithin, PatternsAreWithin, ExprIsWithin, ExprsAreWithin, LetsAreWithin, FieldIsWithin, TupleFieldIsWithin, VariantIsWithin, IfLetIsWithin, DefinitionIsWithin, DefinitionsAreWithin}

-- the forms of a list
all-from_row : (file size : ℕ) {m : _} (r : Row_of-TextForm m) → RowIsWithin file size r → All (FormIsWithin file size) (items-the_row-TextForm m r)
all-from_row file size end_of-TextForm h = All-nil (FormIsWithin file size)
all-from_row file size (more_of-TextForm f fs) h = All-cons (FormIsWithin file size) f (items-the_row-TextForm _ fs) h.0 (all-from_row file size fs h.1)

row-from_all : (file size : ℕ) {m : _} (r : Row_of-TextForm m) → All (FormIsWithin file size) (items-the_row-TextForm m r) → RowIsWithin file size r
row-from_all file size end_of-TextForm h = tt
row-from_all file size (more_of-TextForm f fs) h = (All-head (FormIsWithin file size) f (items-the_row-TextForm _ fs) h, row-from_all file size fs (All-tail (FormIsWithin file size) f (items-the_row-TextForm _ fs) h))

pub forms-from_row : (file size : ℕ) (v : Vec TextForm Global) → RowIsWithin file size (hidden-the_row-TextForm-0 v) → FormsAreWithin file size v.items
forms-from_row file size v h = subst (All (FormIsWithin file size)) (items_hidden-the_row-TextForm-0 v) (all-from_row file size (hidden-the_row-TextForm-0 v) h)

pub row-from_forms : (file size : ℕ) (v : Vec TextForm Global) → FormsAreWithin file size v.items → RowIsWithin file size (hidden-the_row-TextForm-0 v)
row-from_forms file size v h = row-from_all file size (hidden-the_row-TextForm-0 v) (subst (All (FormIsWithin file size)) (sym (items_hidden-the_row-TextForm-0 v)) h)

-- what a list of a text has
pub group-parts : (file size : ℕ) (form : TextForm) (v : Vec TextForm Global) (p e : Pos) (fs : List TextForm) → form ≡ Group v p e → fs ≡ v.items → FormIsWithin file size form → FormsAreWithin file size fs × PosIsWithin file size p × PosIsWithin file size e
group-parts file size form v p e fs is at h = grind (arith, common_steps, forms-from_row)

-- the patterns of a term
patterns-from_all : (file size : ℕ) (qs : List Pattern) → All (λ q. PatternIsWithin file size (pattern_view q)) qs → PatternsAreWithin file size (pattern_views qs)
patterns-from_all file size [] h = tt
patterns-from_all file size (q ∷ qs) h = (All-head (λ q. PatternIsWithin file size (pattern_view q)) q qs h, patterns-from_all file size qs (All-tail (λ q. PatternIsWithin file size (pattern_view q)) q qs h))

pub patterns-in_row : (file size : ℕ) (v : Vec Pattern Global) → All (λ q. PatternIsWithin file size (pattern_view q)) v.items → PatternsAreWithin file size (row_patterns (hidden-the_row-Pattern-0 v))
patterns-in_row file size v h = subst (PatternsAreWithin file size) (sym (row_patterns-hidden v)) (patterns-from_all file size v.items h)

-- the expressions of a term
exprs-from_all : (file size : ℕ) (es : List Expr) → All (λ e. ExprIsWithin file size (expr_view e)) es → ExprsAreWithin file size (expr_views es)
exprs-from_all file size [] h = tt
exprs-from_all file size (e ∷ es) h = (All-head (λ e. ExprIsWithin file size (expr_view e)) e es h, exprs-from_all file size es (All-tail (λ e. ExprIsWithin file size (expr_view e)) e es h))

pub exprs-in_row : (file size : ℕ) (v : Vec Expr Global) → All (λ e. ExprIsWithin file size (expr_view e)) v.items → ExprsAreWithin file size (row_exprs (hidden-the_row-Expr-0 v))
exprs-in_row file size v h = subst (ExprsAreWithin file size) (sym (row_exprs-hidden v)) (exprs-from_all file size v.items h)

-- the definitions of a let
lets-from_all : (file size : ℕ) (ds : List LetDef) → All (LetIsWithin file size) ds → LetsAreWithin file size (let_views ds)
lets-from_all file size [] h = tt
lets-from_all file size (d ∷ ds) h =
    let one = All-head (LetIsWithin file size) d ds h in
    (one.0, one.1, one.2, one.3, lets-from_all file size ds (All-tail (LetIsWithin file size) d ds h))

pub lets-in_row : (file size : ℕ) (v : Vec LetDef Global) → All (LetIsWithin file size) v.items → LetsAreWithin file size (row_lets (hidden-the_row-LetDef-1 v))
lets-in_row file size v h = subst (LetsAreWithin file size) (sym (row_lets-hidden v)) (lets-from_all file size v.items h)

-- a list with one more
pub pushed : {X : Type 0} (P : X → Type 0) (old new : List X) (x : X) → new ≡ old ++ x ∷ [] → All P old → P x → All P new
pushed P old new x e h k = subst (All P) (sym e) (All-push P old x h k)

-- lists of trees, by what the code has
pub variants-viewed : (file size : ℕ) (vs : List Variant) → All (λ v. VariantIsWithin file size (variant_view v)) vs → All (VariantIsWithin file size) (map variant_view vs)
variants-viewed file size vs h = All-map (VariantIsWithin file size) variant_view vs h

pub fields-viewed : (file size : ℕ) (fs : List StructField) → All (λ f. FieldIsWithin file size (field_view f)) fs → All (FieldIsWithin file size) (map field_view fs)
fields-viewed file size fs h = All-map (FieldIsWithin file size) field_view fs h

pub tuple_fields-viewed : (file size : ℕ) (fs : List TupleField) → All (λ f. TupleFieldIsWithin file size (tuple_field_view f)) fs → All (TupleFieldIsWithin file size) (map tuple_field_view fs)
tuple_fields-viewed file size fs h = All-map (TupleFieldIsWithin file size) tuple_field_view fs h

pub names-viewed : (file size : ℕ) (is : List Ident) → IdentsAreWithin file size is → All (NameIsWithin file size) (map name_view is)
names-viewed file size is h = All-map (NameIsWithin file size) name_view is h

pub iflets-viewed : (file size : ℕ) (ls : List IfLet) → All (λ l. IfLetIsWithin file size (iflet_view l)) ls → All (IfLetIsWithin file size) (map iflet_view ls)
iflets-viewed file size ls h = All-map (IfLetIsWithin file size) iflet_view ls h

pub definitions-viewed : (file size : ℕ) (ds : List Def) → All (λ d. DefinitionIsWithin file size (definition_view d)) ds → DefinitionsAreWithin file size (definition_views ds)
definitions-viewed file size ds h = All-map (DefinitionIsWithin file size) definition_view ds h

pub ruleset form_parts = (forms-from_row, row-from_forms)

pub ruleset pattern_parts = (forms-from_row, patterns-in_row)

pub ruleset expr_parts = (forms-from_row, exprs-in_row, lets-in_row)

pub ruleset type_parts = (forms-from_row, variants-viewed, fields-viewed, tuple_fields-viewed)

pub ruleset term_parts = (forms-from_row, names-viewed)

pub ruleset rule_parts = (forms-from_row, iflets-viewed)

pub ruleset definition_parts = (forms-from_row, definitions-viewed)
