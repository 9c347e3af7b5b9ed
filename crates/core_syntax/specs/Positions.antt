-- The positions that occur in definitions, and errors that stand at some of them.
use Rattle.std.specs.Prelude.{◌≡◌, ◌⊎◌, List, [], ◌∷◌, ◌++◌, Option, Some, None, All, Contains, map}
use Rattle.std.specs.List.{flat_map}
use Rattle.model.specs.lists.Syntax.{Position, Name, PatternTree, PatternTrees, ExprTree, ExprTrees, LetTrees, FieldTree, TupleFieldTree, FieldTrees, VariantTree, TypeValueTree, TypeTree, DeclTree, ExtractorTree, ConverterTree, IfLetTree, RuleTree, ExternTree, Definition, var_pattern, bind_pattern, bool_pattern, int_pattern, prim_pattern, term_pattern, wildcard_pattern, and_pattern, macro_arg, no_pattern, pattern_and, term_expr, var_expr, bool_expr, int_expr, prim_expr, let_expr, no_expr, expr_and, no_let, let_and, unit_fields, struct_fields, tuple_fields, primitive_value, enum_value, struct_value, extern_constructor, extern_extractor, extern_const, type_definition, declaration, extractor_definition, converter_definition, rule_definition, extern_definition, other_definition}
use Rattle.model.specs.claims.Refusals.{Refusal, ill_typed, unreachable, overlapping, shadowing, past_limit}
use Rattle.core_syntax.specs.declared.syntax.Error.{Error}
use Rattle.core_syntax.specs.declared.syntax.Error.TheVariants.{TypeError, UnreachableError, OverlapError, ShadowedError, LimitError}
use Rattle.core_syntax.specs.declared.syntax.Span.{Span}
use Rattle.core_syntax.specs.ErrorViews.{error_view}
use Rattle.core_syntax.specs.Places.{single_end}

-- the position of a form comes first, then those inside it, left to right
abbrev mutual
  pub pattern_positions : PatternTree → List Position
  pattern_positions (var_pattern name at) = at ∷ name.at ∷ []
  pattern_positions (bind_pattern name of at) = at ∷ name.at ∷ pattern_positions of
  pattern_positions (bool_pattern b at) = at ∷ []
  pattern_positions (int_pattern z at) = at ∷ []
  pattern_positions (prim_pattern name at) = at ∷ name.at ∷ []
  pattern_positions (term_pattern term args at) = at ∷ term.at ∷ patterns_positions args
  pattern_positions (wildcard_pattern at) = at ∷ []
  pattern_positions (and_pattern parts at) = at ∷ patterns_positions parts
  pattern_positions (macro_arg i at) = at ∷ []

  pub patterns_positions : PatternTrees → List Position
  patterns_positions no_pattern = []
  patterns_positions (pattern_and p rest) = pattern_positions p ++ patterns_positions rest

abbrev mutual
  pub expr_positions : ExprTree → List Position
  expr_positions (term_expr term args at) = at ∷ term.at ∷ exprs_positions args
  expr_positions (var_expr name at) = at ∷ name.at ∷ []
  expr_positions (bool_expr b at) = at ∷ []
  expr_positions (int_expr z at) = at ∷ []
  expr_positions (prim_expr name at) = at ∷ name.at ∷ []
  expr_positions (let_expr defs body at) = at ∷ lets_positions defs ++ expr_positions body

  pub exprs_positions : ExprTrees → List Position
  exprs_positions no_expr = []
  exprs_positions (expr_and e rest) = expr_positions e ++ exprs_positions rest

  pub lets_positions : LetTrees → List Position
  lets_positions no_let = []
  lets_positions (let_and name ty value at rest) = (at ∷ name.at ∷ ty.at ∷ expr_positions value) ++ lets_positions rest

abbrev pub name_positions : List Name → List Position
name_positions names = map (λ n. n.at) names

abbrev pub field_positions : FieldTree → List Position
field_positions f = f.at ∷ f.name.at ∷ f.ty.at ∷ []

abbrev pub tuple_field_positions : TupleFieldTree → List Position
tuple_field_positions f = f.at ∷ f.ty.at ∷ []

abbrev pub fields_positions : FieldTrees → List Position
fields_positions unit_fields = []
fields_positions (struct_fields fields) = flat_map field_positions fields
fields_positions (tuple_fields fields) = flat_map tuple_field_positions fields

abbrev pub variant_positions : VariantTree → List Position
variant_positions v = v.at ∷ v.name.at ∷ fields_positions v.fields

abbrev pub value_positions : TypeValueTree → List Position
value_positions (primitive_value name at) = at ∷ name.at ∷ []
value_positions (enum_value variants at) = at ∷ flat_map variant_positions variants
value_positions (struct_value fields at) = at ∷ fields_positions fields

abbrev pub type_positions : TypeTree → List Position
type_positions t = t.at ∷ t.name.at ∷ value_positions t.value

abbrev pub declaration_positions : DeclTree → List Position
declaration_positions d = d.at ∷ d.term.at ∷ d.ret_ty.at ∷ name_positions d.arg_tys

abbrev pub extractor_positions : ExtractorTree → List Position
extractor_positions e = e.at ∷ e.term.at ∷ name_positions e.args ++ pattern_positions e.template

abbrev pub converter_positions : ConverterTree → List Position
converter_positions c = c.at ∷ c.term.at ∷ c.inner_ty.at ∷ c.outer_ty.at ∷ []

abbrev pub iflet_positions : IfLetTree → List Position
iflet_positions l = l.at ∷ pattern_positions l.pattern ++ expr_positions l.expr

abbrev pub rule_name_positions : Option Name → List Position
rule_name_positions (Some name) = name.at ∷ []
rule_name_positions None = []

abbrev pub rule_positions : RuleTree → List Position
rule_positions r = r.at ∷ rule_name_positions r.name ++ pattern_positions r.pattern ++ flat_map iflet_positions r.iflets ++ expr_positions r.expr

abbrev pub extern_positions : ExternTree → List Position
extern_positions (extern_constructor term function at) = at ∷ term.at ∷ function.at ∷ []
extern_positions (extern_extractor term function at infallible) = at ∷ term.at ∷ function.at ∷ []
extern_positions (extern_const name ty at) = at ∷ name.at ∷ ty.at ∷ []

abbrev pub definition_positions : Definition → List Position
definition_positions (type_definition t) = type_positions t
definition_positions (declaration d) = declaration_positions d
definition_positions (extractor_definition e) = extractor_positions e
definition_positions (converter_definition c) = converter_positions c
definition_positions (rule_definition r) = rule_positions r
definition_positions (extern_definition e) = extern_positions e
definition_positions other_definition = []

-- each position that occurs in a list of definitions
abbrev pub positions_of : List Definition → List Position
positions_of defs = flat_map definition_positions defs

-- the positions that an error names
abbrev pub positions_named : Refusal → List Position
positions_named (ill_typed at) = at ∷ []
positions_named (unreachable at) = at ∷ []
positions_named (overlapping rules) = rules
positions_named (shadowing shadowed mask) = mask ∷ shadowed
positions_named (past_limit limit at) = at ∷ []

-- a span is that of one position
abbrev pub IsSingle : Span → Type 0
IsSingle s = s.to ≡ single_end s.from

-- each span of an error is
abbrev pub HasSingleSpans : Error → Type 0
HasSingleSpans (TypeError msg span) = IsSingle span
HasSingleSpans (UnreachableError msg span) = IsSingle span
HasSingleSpans (OverlapError msg rules) = All IsSingle rules.items
HasSingleSpans (ShadowedError shadowed mask) = All IsSingle shadowed.items × IsSingle mask
HasSingleSpans (LimitError limit msg span) = IsSingle span

-- an error stands at some of these positions: it names no other, and its spans are those of single positions
pub record ErrorStandsAt (positions : List Position) (e : Error) : Type 0 where
  pub named : All (Contains positions) (positions_named (error_view e))
  pub single : HasSingleSpans e

-- each error is one of those before, or stands at some of these positions
pub record NotesAt (positions : List Position) (old new : List Error) : Type 0 where
  pub each : (e : Error) → Contains new e → Contains old e ⊎ ErrorStandsAt positions e

-- all that occur in one list occur in another
abbrev pub OccurAmong : List Position → List Position → Type 0
OccurAmong positions others = (p : Position) → Contains positions p → Contains others p
