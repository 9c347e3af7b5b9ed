-- What trees for a verifier say, without where their parts lie in memory.
use Rattle.std.specs.Prelude.{ℕ, List, [], Option, Some, None, map, option_map, Vec, ◌∷◌}
use Rattle.std.specs.declared.alloc.Global.{Global}
use Rattle.core_syntax.specs.SyntaxViews.{position, name_view}
use Rattle.text_reader.specs.declared.syntax.SpecExpr as E
use Rattle.text_reader.specs.declared.syntax.SpecExpr.{SpecExpr, Row_of-SpecExpr, end_of-SpecExpr, more_of-SpecExpr}
use Rattle.text_reader.specs.declared.syntax.ModelType.{ModelType}
use Rattle.text_reader.specs.declared.syntax.ModelType.TheVariants as T
use Rattle.text_reader.specs.declared.syntax.Modifies.{Modifies}
use Rattle.text_reader.specs.declared.syntax.Spec.{Spec}
use Rattle.text_reader.specs.declared.syntax.VariantValue.{VariantValue}
use Rattle.text_reader.specs.declared.syntax.ModelValue.{ModelValue}
use Rattle.text_reader.specs.declared.syntax.ModelValue.TheVariants as V
use Rattle.text_reader.specs.declared.syntax.Model as M
use Rattle.text_reader.specs.declared.syntax.Signature.{Signature}
use Rattle.text_reader.specs.declared.syntax.Form.{Form}
use Rattle.text_reader.specs.declared.syntax.Instantiation.{Instantiation}
use Rattle.text_reader.specs.declared.syntax.AttrKind.{AttrKind}
use Rattle.text_reader.specs.declared.syntax.AttrKind.TheVariants as K
use Rattle.text_reader.specs.declared.syntax.Attr.{Attr}
use Rattle.text_reader.specs.declared.syntax.State.{State}
use Rattle.text_reader.specs.declared.syntax.Macro.{Macro}
use Rattle.text_reader.specs.declared.syntax.VerificationForm.{VerificationForm}
use Rattle.text_reader.specs.declared.syntax.VerificationForm.TheVariants as F
use Rattle.text_reader.specs.SpecTrees.{SpecExprTree, spec_int, spec_bits, spec_bool, spec_unit, spec_var, spec_op, spec_cases, spec_let, spec_with, spec_as, spec_pair, SpecExprTrees, no_spec_expr, spec_expr_and, ModelTypeTree, int_model, bool_model, unit_model, bits_model, named_model, ModifiesTree, SpecTree, VariantValueTree, ModelValueTree, type_value, enum_value, const_value, ModelTree, SignatureTree, SignaturesTree, InstantiationTree, AttrKindTree, tag, chain, priority, AttrTree, StateTree, MacroTree, VerificationTree, a_spec, a_model, a_form, an_instantiation, an_attr, a_state, a_macro, a_pragma}

abbrev pub model_type_view : ModelType → ModelTypeTree
model_type_view (T.Int p) = int_model (position p)
model_type_view (T.Bool p) = bool_model (position p)
model_type_view (T.Unit p) = unit_model (position p)
model_type_view (T.BitVec w p) = bits_model w (position p)
model_type_view (T.Named n p) = named_model (name_view n) (position p)

abbrev mutual
  pub spec_expr_view : SpecExpr → SpecExprTree
  spec_expr_view (E.ConstInt z p) = spec_int z (position p)
  spec_expr_view (E.ConstBitVec n w p) = spec_bits n w (position p)
  spec_expr_view (E.ConstBool b p) = spec_bool b (position p)
  spec_expr_view (E.ConstUnit p) = spec_unit (position p)
  spec_expr_view (E.Var v p) = spec_var (name_view v) (position p)
  spec_expr_view (E.Op' o shape xs p) = spec_op (name_view o) (row_spec_exprs xs) (position p)
  spec_expr_view (E.Cases' o b x shape xs p) = spec_cases (name_view o) (spec_expr_view x) (row_spec_exprs xs) (position p)
  spec_expr_view (E.Let' shape ds b x p) = spec_let (row_spec_exprs ds) (spec_expr_view x) (position p)
  spec_expr_view (E.With' ns b x p) = spec_with (map name_view ns.items) (spec_expr_view x) (position p)
  spec_expr_view (E.As' b x t p) = spec_as (spec_expr_view x) (model_type_view t) (position p)
  spec_expr_view (E.Pair' b x c y p) = spec_pair (spec_expr_view x) (spec_expr_view y) (position p)

  pub row_spec_exprs : {m : _} → Row_of-SpecExpr m → SpecExprTrees
  row_spec_exprs end_of-SpecExpr = no_spec_expr
  row_spec_exprs (more_of-SpecExpr x xs) = spec_expr_and (spec_expr_view x) (row_spec_exprs xs)

abbrev pub spec_expr_views : List SpecExpr → SpecExprTrees
spec_expr_views [] = no_spec_expr
spec_expr_views (x ∷ xs) = spec_expr_and (spec_expr_view x) (spec_expr_views xs)

abbrev pub modifies_view : Modifies → ModifiesTree
modifies_view m = record { state = name_view m.state; cond = option_map name_view m.cond; at = position m.pos }

abbrev pub exprs_view : Option (Vec SpecExpr Global) → Option SpecExprTrees
exprs_view None = None
exprs_view (Some xs) = Some (spec_expr_views xs.items)

abbrev pub spec_view : Spec → SpecTree
spec_view s = record {
  term = name_view s.term;
  args = map name_view s.args.items;
  provides = exprs_view s.provides;
  required = exprs_view s.required;
  matches = exprs_view s.matches;
  modifies = map modifies_view s.modifies.items;
  at = position s.pos;
}

abbrev pub variant_value_view : VariantValue → VariantValueTree
variant_value_view v = record { name = name_view v.name; value = option_map spec_expr_view v.value; at = position v.pos }

abbrev pub model_value_view : ModelValue → ModelValueTree
model_value_view (V.Type t) = type_value (model_type_view t)
model_value_view (V.Enum vs) = enum_value (map variant_value_view vs.items)
model_value_view (V.Const x) = const_value (spec_expr_view x)

abbrev pub model_view : M.Model → ModelTree
model_view m = record { name = name_view m.name; value = model_value_view m.value; at = position m.pos }

abbrev pub signature_view : Signature → SignatureTree
signature_view s = record { args = map model_type_view s.args.items; ret = model_type_view s.ret; canonical = model_type_view s.canonical; at = position s.pos }

abbrev pub signatures_view : Form → SignaturesTree
signatures_view f = record { name = name_view f.name; signatures = map signature_view f.signatures.items; at = position f.pos }

abbrev pub instantiation_view : Instantiation → InstantiationTree
instantiation_view i = record { term = name_view i.term; form = option_map name_view i.form; signatures = map signature_view i.signatures.items; at = position i.pos }

abbrev pub attr_kind_view : AttrKind → AttrKindTree
attr_kind_view (K.Tag n p) = tag (name_view n) (position p)
attr_kind_view (K.Chain p) = chain (position p)
attr_kind_view (K.Priority p) = priority (position p)

abbrev pub attr_view : Attr → AttrTree
attr_view a = record { is_rule = a.is_rule; name = name_view a.name; kinds = map attr_kind_view a.kinds.items; at = position a.pos }

abbrev pub state_view : State → StateTree
state_view s = record { name = name_view s.name; ty = model_type_view s.ty; default = spec_expr_view s.default; at = position s.pos }

abbrev pub macro_view : Macro → MacroTree
macro_view m = record { is_spec = m.is_spec; name = name_view m.name; params = map name_view m.params.items; body = spec_expr_view m.body; at = position m.pos }

abbrev pub verification_view : VerificationForm → VerificationTree
verification_view (F.Spec s) = a_spec (spec_view s)
verification_view (F.Model m) = a_model (model_view m)
verification_view (F.Form f) = a_form (signatures_view f)
verification_view (F.Instantiation i) = an_instantiation (instantiation_view i)
verification_view (F.Attr a) = an_attr (attr_view a)
verification_view (F.State s) = a_state (state_view s)
verification_view (F.Macro m) = a_macro (macro_view m)
verification_view (F.Pragma p) = a_pragma (position p)

abbrev pub numbered_view : ℕ × VerificationForm → ℕ × VerificationTree
numbered_view v = (v.0, verification_view v.1)
