-- What syntax trees say, without where their parts lie in memory: each as a tree of the model.
use Rattle.std.specs.Prelude.{List, [], ◌∷◌, None, Option, Some, map, option_map, string_bytes}
use Rattle.model.specs.lists.Syntax.{Position, Name, PatternTree, var_pattern, bind_pattern, bool_pattern, int_pattern, prim_pattern, term_pattern, wildcard_pattern, and_pattern, macro_arg, PatternTrees, no_pattern, pattern_and, ExprTree, term_expr, var_expr, bool_expr, int_expr, prim_expr, let_expr, ExprTrees, no_expr, expr_and, LetTrees, no_let, let_and, FieldTree, TupleFieldTree, FieldTrees, unit_fields, struct_fields, tuple_fields, VariantTree, TypeValueTree, primitive_value, enum_value, struct_value, TypeTree, DeclTree, ExtractorTree, ConverterTree, IfLetTree, RuleTree, ExternTree, extern_constructor, extern_extractor, extern_const, Definition, type_definition, declaration, extractor_definition, converter_definition, rule_definition, extern_definition, other_definition}
use Rattle.core_syntax.specs.declared.syntax.Pos.{Pos}
use Rattle.core_syntax.specs.declared.syntax.Ident.{Ident}
use Rattle.core_syntax.specs.declared.syntax.Pattern.{Pattern, Var, BindPattern', ConstBool, ConstInt, ConstPrim, Term', Wildcard, And', MacroArg, Row_of-Pattern, end_of-Pattern, more_of-Pattern}
use Rattle.core_syntax.specs.declared.syntax.Expr as E
use Rattle.core_syntax.specs.declared.syntax.Expr.{Expr}
use Rattle.core_syntax.specs.declared.syntax.Expr.TheBlock.{Row_of-Expr, end_of-Expr, more_of-Expr, Row_of-LetDef, end_of-LetDef, more_of-LetDef}
use Rattle.core_syntax.specs.declared.syntax.LetDef.{LetDef}
use Rattle.core_syntax.specs.declared.syntax.StructField.{StructField}
use Rattle.core_syntax.specs.declared.syntax.TupleField.{TupleField}
use Rattle.core_syntax.specs.declared.syntax.Fields.{Fields}
use Rattle.core_syntax.specs.declared.syntax.Fields.TheVariants as F
use Rattle.core_syntax.specs.declared.syntax.Variant.{Variant}
use Rattle.core_syntax.specs.declared.syntax.TypeValue.{TypeValue}
use Rattle.core_syntax.specs.declared.syntax.TypeValue.TheVariants as V
use Rattle.core_syntax.specs.declared.syntax.Type as T
use Rattle.core_syntax.specs.declared.syntax.Decl.{Decl}
use Rattle.core_syntax.specs.declared.syntax.Extractor.{Extractor}
use Rattle.core_syntax.specs.declared.syntax.Converter.{Converter}
use Rattle.core_syntax.specs.declared.syntax.IfLet.{IfLet}
use Rattle.core_syntax.specs.declared.syntax.Rule.{Rule}
use Rattle.core_syntax.specs.declared.syntax.Extern.{Extern}
use Rattle.core_syntax.specs.declared.syntax.Extern.TheVariants as X
use Rattle.core_syntax.specs.declared.syntax.Def.{Def}
use Rattle.core_syntax.specs.declared.syntax.Def.TheVariants as D

abbrev pub position : Pos → Position
position p = record { file = p.file; offset = p.offset }

abbrev pub name_view : Ident → Name
name_view i = record { text = string_bytes i.0; at = position i.1 }

abbrev mutual
  pub pattern_view : Pattern → PatternTree
  pattern_view (Var v p) = var_pattern (name_view v) (position p)
  pattern_view (BindPattern' v b q p) = bind_pattern (name_view v) (pattern_view q) (position p)
  pattern_view (ConstBool b p) = bool_pattern b (position p)
  pattern_view (ConstInt n p) = int_pattern n (position p)
  pattern_view (ConstPrim v p) = prim_pattern (name_view v) (position p)
  pattern_view (Term' s shape qs p) = term_pattern (name_view s) (row_patterns qs) (position p)
  pattern_view (Wildcard p) = wildcard_pattern (position p)
  pattern_view (And' shape qs p) = and_pattern (row_patterns qs) (position p)
  pattern_view (MacroArg n p) = macro_arg n (position p)

  pub row_patterns : {m : _} → Row_of-Pattern m → PatternTrees
  row_patterns end_of-Pattern = no_pattern
  row_patterns (more_of-Pattern q qs) = pattern_and (pattern_view q) (row_patterns qs)

-- the patterns of a list
abbrev pub pattern_views : List Pattern → PatternTrees
pattern_views [] = no_pattern
pattern_views (q ∷ qs) = pattern_and (pattern_view q) (pattern_views qs)

abbrev mutual
  pub expr_view : Expr → ExprTree
  expr_view (E.Term' s shape es p) = term_expr (name_view s) (row_exprs es) (position p)
  expr_view (E.Var v p) = var_expr (name_view v) (position p)
  expr_view (E.ConstBool b p) = bool_expr b (position p)
  expr_view (E.ConstInt n p) = int_expr n (position p)
  expr_view (E.ConstPrim v p) = prim_expr (name_view v) (position p)
  expr_view (E.Let' shape ds b e p) = let_expr (row_lets ds) (expr_view e) (position p)

  pub row_exprs : {m : _} → Row_of-Expr m → ExprTrees
  row_exprs end_of-Expr = no_expr
  row_exprs (more_of-Expr e es) = expr_and (expr_view e) (row_exprs es)

  pub row_lets : {m : _} → Row_of-LetDef m → LetTrees
  row_lets end_of-LetDef = no_let
  row_lets (more_of-LetDef v t b e p ds) = let_and (name_view v) (name_view t) (expr_view e) (position p) (row_lets ds)

-- the expressions of a list
abbrev pub expr_views : List Expr → ExprTrees
expr_views [] = no_expr
expr_views (e ∷ es) = expr_and (expr_view e) (expr_views es)

-- the definitions of a let
abbrev pub let_views : List LetDef → LetTrees
let_views [] = no_let
let_views (d ∷ ds) = let_and (name_view d.var) (name_view d.ty) (expr_view d.val.value) (position d.pos) (let_views ds)

abbrev pub field_view : StructField → FieldTree
field_view f = record { name = name_view f.name; ty = name_view f.ty; at = position f.pos }

abbrev pub tuple_field_view : TupleField → TupleFieldTree
tuple_field_view f = record { index = f.index; ty = name_view f.ty; at = position f.pos }

abbrev pub fields_view : Fields → FieldTrees
fields_view F.Unit = unit_fields
fields_view (F.Struct fs) = struct_fields (map field_view fs.fields.items)
fields_view (F.Tuple fs) = tuple_fields (map tuple_field_view fs.fields.items)

abbrev pub variant_view : Variant → VariantTree
variant_view v = record { name = name_view v.name; fields = fields_view v.fields; at = position v.pos }

abbrev pub type_value_view : TypeValue → TypeValueTree
type_value_view (V.Primitive n p) = primitive_value (name_view n) (position p)
type_value_view (V.Enum vs p) = enum_value (map variant_view vs.items) (position p)
type_value_view (V.Struct fs p) = struct_value (fields_view fs) (position p)

abbrev pub type_view : T.Type → TypeTree
type_view t = record { name = name_view t.name; is_extern = t.is_extern; is_nodebug = t.is_nodebug; value = type_value_view t.ty; at = position t.pos }

abbrev pub decl_view : Decl → DeclTree
decl_view d = record { term = name_view d.term; arg_tys = map name_view d.arg_tys.items; ret_ty = name_view d.ret_ty; pure = d.pure; multi = d.multi; partial = d.partial; rec = d.rec; at = position d.pos }

abbrev pub extractor_view : Extractor → ExtractorTree
extractor_view e = record { term = name_view e.term; args = map name_view e.args.items; template = pattern_view e.template; at = position e.pos }

abbrev pub converter_view : Converter → ConverterTree
converter_view c = record { term = name_view c.term; inner_ty = name_view c.inner_ty; outer_ty = name_view c.outer_ty; at = position c.pos }

abbrev pub iflet_view : IfLet → IfLetTree
iflet_view l = record { pattern = pattern_view l.pattern; expr = expr_view l.expr; at = position l.pos }

abbrev pub rule_view : Rule → RuleTree
rule_view r = record { pattern = pattern_view r.pattern; iflets = map iflet_view r.iflets.items; expr = expr_view r.expr; at = position r.pos; prio = r.prio; name = option_map name_view r.name }

abbrev pub extern_view : Extern → ExternTree
extern_view (X.Constructor t f p) = extern_constructor (name_view t) (name_view f) (position p)
extern_view (X.Extractor t f p i) = extern_extractor (name_view t) (name_view f) (position p) i
extern_view (X.Const n t p) = extern_const (name_view n) (name_view t) (position p)

abbrev pub definition_view : Def → Definition
definition_view (D.TypeDef t) = type_definition (type_view t)
definition_view (D.Decl d) = declaration (decl_view d)
definition_view (D.Extractor e) = extractor_definition (extractor_view e)
definition_view (D.Converter c) = converter_definition (converter_view c)
definition_view (D.Rule r) = rule_definition (rule_view r)
definition_view (D.Extern e) = extern_definition (extern_view e)
definition_view D.Other = other_definition

abbrev pub definition_views : List Def → List Definition
definition_views ds = map definition_view ds

-- where a definition stands. Any other one has no place.
abbrev pub extern_place : ExternTree → Position
extern_place (extern_constructor t f p) = p
extern_place (extern_extractor t f p i) = p
extern_place (extern_const n t p) = p

abbrev pub definition_place : Definition → Option Position
definition_place (type_definition t) = Some t.at
definition_place (declaration d) = Some d.at
definition_place (extractor_definition e) = Some e.at
definition_place (converter_definition c) = Some c.at
definition_place (rule_definition r) = Some r.at
definition_place (extern_definition e) = Some (extern_place e)
definition_place other_definition = None
