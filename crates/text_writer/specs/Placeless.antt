-- Definitions without their places: each place is that of no text.
use Rattle.std.specs.Prelude.{map, option_map}
use Rattle.model.specs.lists.Syntax.{PatternTree, var_pattern, bind_pattern, bool_pattern, int_pattern, prim_pattern, term_pattern, wildcard_pattern, and_pattern, macro_arg, PatternTrees, no_pattern, pattern_and, ExprTree, term_expr, var_expr, bool_expr, int_expr, prim_expr, let_expr, ExprTrees, no_expr, expr_and, LetTrees, no_let, let_and, FieldTree, TupleFieldTree, FieldTrees, unit_fields, struct_fields, tuple_fields, VariantTree, TypeValueTree, primitive_value, enum_value, struct_value, TypeTree, DeclTree, ExtractorTree, ConverterTree, IfLetTree, RuleTree, ExternTree, extern_constructor, extern_extractor, extern_const, Definition, type_definition, declaration, extractor_definition, converter_definition, rule_definition, extern_definition, other_definition}
use Rattle.text_reader.specs.Solid.{nowhere, placeless_name}

abbrev mutual
  pub placeless_pattern : PatternTree → PatternTree
  placeless_pattern (var_pattern n p) = var_pattern (placeless_name n) nowhere
  placeless_pattern (bind_pattern n q p) = bind_pattern (placeless_name n) (placeless_pattern q) nowhere
  placeless_pattern (bool_pattern b p) = bool_pattern b nowhere
  placeless_pattern (int_pattern z p) = int_pattern z nowhere
  placeless_pattern (prim_pattern n p) = prim_pattern (placeless_name n) nowhere
  placeless_pattern (term_pattern t qs p) = term_pattern (placeless_name t) (placeless_patterns qs) nowhere
  placeless_pattern (wildcard_pattern p) = wildcard_pattern nowhere
  placeless_pattern (and_pattern qs p) = and_pattern (placeless_patterns qs) nowhere
  placeless_pattern (macro_arg i p) = macro_arg i nowhere

  pub placeless_patterns : PatternTrees → PatternTrees
  placeless_patterns no_pattern = no_pattern
  placeless_patterns (pattern_and q qs) = pattern_and (placeless_pattern q) (placeless_patterns qs)

abbrev mutual
  pub placeless_expr : ExprTree → ExprTree
  placeless_expr (term_expr t es p) = term_expr (placeless_name t) (placeless_exprs es) nowhere
  placeless_expr (var_expr n p) = var_expr (placeless_name n) nowhere
  placeless_expr (bool_expr b p) = bool_expr b nowhere
  placeless_expr (int_expr z p) = int_expr z nowhere
  placeless_expr (prim_expr n p) = prim_expr (placeless_name n) nowhere
  placeless_expr (let_expr ds e p) = let_expr (placeless_lets ds) (placeless_expr e) nowhere

  pub placeless_exprs : ExprTrees → ExprTrees
  placeless_exprs no_expr = no_expr
  placeless_exprs (expr_and e es) = expr_and (placeless_expr e) (placeless_exprs es)

  pub placeless_lets : LetTrees → LetTrees
  placeless_lets no_let = no_let
  placeless_lets (let_and n t e p ds) = let_and (placeless_name n) (placeless_name t) (placeless_expr e) nowhere (placeless_lets ds)

abbrev pub placeless_field : FieldTree → FieldTree
placeless_field f = record { name = placeless_name f.name; ty = placeless_name f.ty; at = nowhere }

abbrev pub placeless_tuple_field : TupleFieldTree → TupleFieldTree
placeless_tuple_field f = record { index = f.index; ty = placeless_name f.ty; at = nowhere }

abbrev pub placeless_fields : FieldTrees → FieldTrees
placeless_fields unit_fields = unit_fields
placeless_fields (struct_fields fs) = struct_fields (map placeless_field fs)
placeless_fields (tuple_fields fs) = tuple_fields (map placeless_tuple_field fs)

abbrev pub placeless_variant : VariantTree → VariantTree
placeless_variant v = record { name = placeless_name v.name; fields = placeless_fields v.fields; at = nowhere }

abbrev pub placeless_value : TypeValueTree → TypeValueTree
placeless_value (primitive_value n p) = primitive_value (placeless_name n) nowhere
placeless_value (enum_value vs p) = enum_value (map placeless_variant vs) nowhere
placeless_value (struct_value fs p) = struct_value (placeless_fields fs) nowhere

abbrev pub placeless_type : TypeTree → TypeTree
placeless_type t = record { name = placeless_name t.name; is_extern = t.is_extern; is_nodebug = t.is_nodebug; value = placeless_value t.value; at = nowhere }

abbrev pub placeless_decl : DeclTree → DeclTree
placeless_decl d = record { term = placeless_name d.term; arg_tys = map placeless_name d.arg_tys; ret_ty = placeless_name d.ret_ty; pure = d.pure; multi = d.multi; partial = d.partial; rec = d.rec; at = nowhere }

abbrev pub placeless_extractor : ExtractorTree → ExtractorTree
placeless_extractor e = record { term = placeless_name e.term; args = map placeless_name e.args; template = placeless_pattern e.template; at = nowhere }

abbrev pub placeless_converter : ConverterTree → ConverterTree
placeless_converter c = record { term = placeless_name c.term; inner_ty = placeless_name c.inner_ty; outer_ty = placeless_name c.outer_ty; at = nowhere }

abbrev pub placeless_if_let : IfLetTree → IfLetTree
placeless_if_let l = record { pattern = placeless_pattern l.pattern; expr = placeless_expr l.expr; at = nowhere }

abbrev pub placeless_rule : RuleTree → RuleTree
placeless_rule r = record { pattern = placeless_pattern r.pattern; iflets = map placeless_if_let r.iflets; expr = placeless_expr r.expr; at = nowhere; prio = r.prio; name = option_map placeless_name r.name }

abbrev pub placeless_extern : ExternTree → ExternTree
placeless_extern (extern_constructor t f p) = extern_constructor (placeless_name t) (placeless_name f) nowhere
placeless_extern (extern_extractor t f p i) = extern_extractor (placeless_name t) (placeless_name f) nowhere i
placeless_extern (extern_const n t p) = extern_const (placeless_name n) (placeless_name t) nowhere

abbrev pub placeless_definition : Definition → Definition
placeless_definition (type_definition t) = type_definition (placeless_type t)
placeless_definition (declaration d) = declaration (placeless_decl d)
placeless_definition (extractor_definition e) = extractor_definition (placeless_extractor e)
placeless_definition (converter_definition c) = converter_definition (placeless_converter c)
placeless_definition (rule_definition r) = rule_definition (placeless_rule r)
placeless_definition (extern_definition e) = extern_definition (placeless_extern e)
placeless_definition other_definition = other_definition
