-- Trees for a verifier without their places: each place is that of no text.
use Rattle.std.specs.Prelude.{map, option_map}
use Rattle.text_reader.specs.Solid.{nowhere, placeless_name}
use Rattle.text_reader.specs.SpecTrees.{SpecExprTree, spec_int, spec_bits, spec_bool, spec_unit, spec_var, spec_op, spec_cases, spec_let, spec_with, spec_as, spec_pair, SpecExprTrees, no_spec_expr, spec_expr_and, ModelTypeTree, int_model, bool_model, unit_model, bits_model, named_model, ModifiesTree, SpecTree, VariantValueTree, ModelValueTree, type_value, enum_value, const_value, ModelTree, SignatureTree, SignaturesTree, InstantiationTree, AttrKindTree, tag, chain, priority, AttrTree, StateTree, MacroTree, VerificationTree, a_spec, a_model, a_form, an_instantiation, an_attr, a_state, a_macro, a_pragma}

abbrev pub placeless_model_type : ModelTypeTree → ModelTypeTree
placeless_model_type (int_model p) = int_model nowhere
placeless_model_type (bool_model p) = bool_model nowhere
placeless_model_type (unit_model p) = unit_model nowhere
placeless_model_type (bits_model width p) = bits_model width nowhere
placeless_model_type (named_model n p) = named_model (placeless_name n) nowhere

abbrev mutual
  pub placeless_spec_expr : SpecExprTree → SpecExprTree
  placeless_spec_expr (spec_int z p) = spec_int z nowhere
  placeless_spec_expr (spec_bits value width p) = spec_bits value width nowhere
  placeless_spec_expr (spec_bool b p) = spec_bool b nowhere
  placeless_spec_expr (spec_unit p) = spec_unit nowhere
  placeless_spec_expr (spec_var n p) = spec_var (placeless_name n) nowhere
  placeless_spec_expr (spec_op op xs p) = spec_op (placeless_name op) (placeless_spec_exprs xs) nowhere
  placeless_spec_expr (spec_cases op x xs p) = spec_cases (placeless_name op) (placeless_spec_expr x) (placeless_spec_exprs xs) nowhere
  placeless_spec_expr (spec_let ds x p) = spec_let (placeless_spec_exprs ds) (placeless_spec_expr x) nowhere
  placeless_spec_expr (spec_with ns x p) = spec_with (map placeless_name ns) (placeless_spec_expr x) nowhere
  placeless_spec_expr (spec_as x t p) = spec_as (placeless_spec_expr x) (placeless_model_type t) nowhere
  placeless_spec_expr (spec_pair x y p) = spec_pair (placeless_spec_expr x) (placeless_spec_expr y) nowhere

  pub placeless_spec_exprs : SpecExprTrees → SpecExprTrees
  placeless_spec_exprs no_spec_expr = no_spec_expr
  placeless_spec_exprs (spec_expr_and x xs) = spec_expr_and (placeless_spec_expr x) (placeless_spec_exprs xs)

abbrev pub placeless_modifies : ModifiesTree → ModifiesTree
placeless_modifies m = record { state = placeless_name m.state; cond = option_map placeless_name m.cond; at = nowhere }

abbrev pub placeless_spec : SpecTree → SpecTree
placeless_spec s = record {
  term = placeless_name s.term;
  args = map placeless_name s.args;
  provides = option_map placeless_spec_exprs s.provides;
  required = option_map placeless_spec_exprs s.required;
  matches = option_map placeless_spec_exprs s.matches;
  modifies = map placeless_modifies s.modifies;
  at = nowhere;
}

abbrev pub placeless_variant_value : VariantValueTree → VariantValueTree
placeless_variant_value v = record { name = placeless_name v.name; value = option_map placeless_spec_expr v.value; at = nowhere }

abbrev pub placeless_model_value : ModelValueTree → ModelValueTree
placeless_model_value (type_value t) = type_value (placeless_model_type t)
placeless_model_value (enum_value vs) = enum_value (map placeless_variant_value vs)
placeless_model_value (const_value x) = const_value (placeless_spec_expr x)

abbrev pub placeless_model : ModelTree → ModelTree
placeless_model m = record { name = placeless_name m.name; value = placeless_model_value m.value; at = nowhere }

abbrev pub placeless_signature : SignatureTree → SignatureTree
placeless_signature s = record { args = map placeless_model_type s.args; ret = placeless_model_type s.ret; canonical = placeless_model_type s.canonical; at = nowhere }

abbrev pub placeless_signatures : SignaturesTree → SignaturesTree
placeless_signatures f = record { name = placeless_name f.name; signatures = map placeless_signature f.signatures; at = nowhere }

abbrev pub placeless_instantiation : InstantiationTree → InstantiationTree
placeless_instantiation i = record { term = placeless_name i.term; form = option_map placeless_name i.form; signatures = map placeless_signature i.signatures; at = nowhere }

abbrev pub placeless_attr_kind : AttrKindTree → AttrKindTree
placeless_attr_kind (tag n p) = tag (placeless_name n) nowhere
placeless_attr_kind (chain p) = chain nowhere
placeless_attr_kind (priority p) = priority nowhere

abbrev pub placeless_attr : AttrTree → AttrTree
placeless_attr a = record { is_rule = a.is_rule; name = placeless_name a.name; kinds = map placeless_attr_kind a.kinds; at = nowhere }

abbrev pub placeless_state : StateTree → StateTree
placeless_state s = record { name = placeless_name s.name; ty = placeless_model_type s.ty; default = placeless_spec_expr s.default; at = nowhere }

abbrev pub placeless_macro : MacroTree → MacroTree
placeless_macro m = record { is_spec = m.is_spec; name = placeless_name m.name; params = map placeless_name m.params; body = placeless_spec_expr m.body; at = nowhere }

abbrev pub placeless_tree : VerificationTree → VerificationTree
placeless_tree (a_spec s) = a_spec (placeless_spec s)
placeless_tree (a_model m) = a_model (placeless_model m)
placeless_tree (a_form f) = a_form (placeless_signatures f)
placeless_tree (an_instantiation i) = an_instantiation (placeless_instantiation i)
placeless_tree (an_attr a) = an_attr (placeless_attr a)
placeless_tree (a_state s) = a_state (placeless_state s)
placeless_tree (a_macro m) = a_macro (placeless_macro m)
placeless_tree (a_pragma p) = a_pragma nowhere
