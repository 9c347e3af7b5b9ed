-- Which trees for a verifier a text can spell. What can't be spelled is what the notation takes for something else, or not at all.
use Rattle.std.specs.Prelude.{ℕ, ◌-◌, ◌^◌, Bool, true, false, not, ◌&&◌, ◌||◌, nat_lt, nat_le, List, [], ◌∷◌, codes, Option, Some, None, if◌then◌else◌}
use Rattle.std.specs.List.{list_all}
use Rattle.model.specs.lists.Syntax.{Position, Name}
use Rattle.text_reader.specs.Grammar.{reads}
use Rattle.text_writer.specs.Spellable.{is_any_word, is_signed_128, is_truth}
use Rattle.text_reader.specs.SpecGrammar.{has_cases, has_mark, has_three}
use Rattle.text_reader.specs.SpecTrees.{SpecExprTree, spec_int, spec_bits, spec_bool, spec_unit, spec_var, spec_op, spec_cases, spec_let, spec_with, spec_as, spec_pair, SpecExprTrees, no_spec_expr, spec_expr_and, ModelTypeTree, int_model, bool_model, unit_model, bits_model, named_model, ModifiesTree, SpecTree, VariantValueTree, ModelValueTree, type_value, enum_value, const_value, ModelTree, SignatureTree, AttrKindTree, tag, chain, priority, AttrTree, StateTree, MacroTree, VerificationTree, a_spec, a_model, a_form, an_instantiation, an_attr, a_state, a_macro, a_pragma}

-- ---- words

abbrev pub are_any_words : List Name → Bool
are_any_words ns = list_all is_any_word ns

abbrev pub is_no_name_or_any_word : Option Name → Bool
is_no_name_or_any_word None = true
is_no_name_or_any_word (Some n) = is_any_word n

-- a name in an expression: no truth value, and no bits
unfoldable pub is_spec_variable : Name → Bool
is_spec_variable n = is_any_word n && not (is_truth n) && not (has_mark 120 n.text) && not (has_mark 98 n.text)

-- an operator, which has arguments alone
unfoldable pub is_operator : Name → Bool
is_operator n = is_any_word n && not (has_cases n) && not (has_three n)

-- ---- types and expressions, in which lists nest so deep at most

abbrev pub model_type_is_spellable : ModelTypeTree → ℕ → Bool
model_type_is_spellable (int_model p) room = true
model_type_is_spellable (bool_model p) room = true
model_type_is_spellable (unit_model p) room = true
model_type_is_spellable (bits_model None p) room = nat_lt 0 room
model_type_is_spellable (bits_model (Some width) p) room = nat_lt 0 room && nat_lt width (2 ^ 64)
model_type_is_spellable (named_model n p) room = nat_lt 0 room && is_any_word n

-- a number of so many bits
unfoldable pub bits_are_spellable : (value width : ℕ) → Bool
bits_are_spellable value width = nat_lt 0 width && nat_le width 128 && nat_lt value (2 ^ width)

abbrev mutual
  pub spec_expr_is_spellable : SpecExprTree → ℕ → Bool
  spec_expr_is_spellable (spec_int z p) room = is_signed_128 z
  spec_expr_is_spellable (spec_bits value width p) room = bits_are_spellable value width
  spec_expr_is_spellable (spec_bool b p) room = true
  spec_expr_is_spellable (spec_unit p) room = nat_lt 0 room
  spec_expr_is_spellable (spec_var n p) room = is_spec_variable n
  spec_expr_is_spellable (spec_op op xs p) room = nat_lt 0 room && is_operator op && spec_exprs_are_spellable xs (room - 1)
  spec_expr_is_spellable (spec_cases op x xs p) room = nat_lt 0 room && has_cases op && spec_expr_is_spellable x (room - 1) && pairs_are_spellable xs (room - 1)
  spec_expr_is_spellable (spec_let ds x p) room = nat_lt 1 room && pairs_are_spellable ds (room - 2) && spec_expr_is_spellable x (room - 1)
  spec_expr_is_spellable (spec_with ns x p) room = nat_lt 1 room && are_any_words ns && spec_expr_is_spellable x (room - 1)
  spec_expr_is_spellable (spec_as x t p) room = nat_lt 0 room && spec_expr_is_spellable x (room - 1) && model_type_is_spellable t (room - 1)
  spec_expr_is_spellable (spec_pair x y p) room = false

  pub spec_exprs_are_spellable : SpecExprTrees → ℕ → Bool
  spec_exprs_are_spellable no_spec_expr room = true
  spec_exprs_are_spellable (spec_expr_and x xs) room = spec_expr_is_spellable x room && spec_exprs_are_spellable xs room

  -- cases and definitions are pairs, and nothing else is
  pub pair_is_spellable : SpecExprTree → ℕ → Bool
  pair_is_spellable (spec_int z p) room = false
  pair_is_spellable (spec_bits value width p) room = false
  pair_is_spellable (spec_bool b p) room = false
  pair_is_spellable (spec_unit p) room = false
  pair_is_spellable (spec_var n p) room = false
  pair_is_spellable (spec_op op xs p) room = false
  pair_is_spellable (spec_cases op x xs p) room = false
  pair_is_spellable (spec_let ds x p) room = false
  pair_is_spellable (spec_with ns x p) room = false
  pair_is_spellable (spec_as x t p) room = false
  pair_is_spellable (spec_pair x y p) room = nat_lt 0 room && spec_expr_is_spellable x (room - 1) && spec_expr_is_spellable y (room - 1)

  pub pairs_are_spellable : SpecExprTrees → ℕ → Bool
  pairs_are_spellable no_spec_expr room = true
  pairs_are_spellable (spec_expr_and x xs) room = pair_is_spellable x room && pairs_are_spellable xs room

-- ---- specs of terms

abbrev pub part_is_spellable : Option SpecExprTrees → Bool
part_is_spellable None = true
part_is_spellable (Some xs) = spec_exprs_are_spellable xs 998

abbrev pub modifies_is_spellable : ModifiesTree → Bool
modifies_is_spellable m = is_any_word m.state && is_no_name_or_any_word m.cond

abbrev pub spec_is_spellable : SpecTree → Bool
spec_is_spellable s =
    is_any_word s.term && are_any_words s.args && part_is_spellable s.matches && part_is_spellable s.provides && part_is_spellable s.required
    && list_all modifies_is_spellable s.modifies

-- ---- models

abbrev pub is_no_value_or_spellable : Option SpecExprTree → Bool
is_no_value_or_spellable None = true
is_no_value_or_spellable (Some x) = spec_expr_is_spellable x 997

abbrev pub variant_value_is_spellable : VariantValueTree → Bool
variant_value_is_spellable v = is_any_word v.name && is_no_value_or_spellable v.value

abbrev pub model_value_is_spellable : ModelValueTree → Bool
model_value_is_spellable (type_value t) = model_type_is_spellable t 998
model_value_is_spellable (enum_value vs) = list_all variant_value_is_spellable vs
model_value_is_spellable (const_value x) = spec_expr_is_spellable x 998

abbrev pub model_is_spellable : ModelTree → Bool
model_is_spellable m = is_any_word m.name && model_value_is_spellable m.value

-- ---- signatures, attributes, states and macros

abbrev pub signature_type_is_spellable : ModelTypeTree → Bool
signature_type_is_spellable t = model_type_is_spellable t 997

abbrev pub signature_is_spellable : SignatureTree → Bool
signature_is_spellable s = list_all signature_type_is_spellable s.args && signature_type_is_spellable s.ret && signature_type_is_spellable s.canonical

abbrev pub signatures_are_spellable : List SignatureTree → Bool
signatures_are_spellable ss = list_all signature_is_spellable ss

-- either the name of a form, or signatures
abbrev pub are_signatures_spellable : Option Name → List SignatureTree → Bool
are_signatures_spellable None ss = signatures_are_spellable ss
are_signatures_spellable (Some n) [] = is_any_word n
are_signatures_spellable (Some n) (s ∷ ss) = false

abbrev pub attr_kind_is_spellable : AttrKindTree → Bool
attr_kind_is_spellable (tag n p) = is_any_word n
attr_kind_is_spellable (chain p) = true
attr_kind_is_spellable (priority p) = true

-- what has the name `rule` is a rule
abbrev pub attr_is_spellable : AttrTree → Bool
attr_is_spellable a = is_any_word a.name && (a.is_rule || not (reads a.name (codes "rule"))) && list_all attr_kind_is_spellable a.kinds

abbrev pub state_is_spellable : StateTree → Bool
state_is_spellable s = is_any_word s.name && model_type_is_spellable s.ty 998 && spec_expr_is_spellable s.default 998

abbrev pub macro_is_spellable : MacroTree → Bool
macro_is_spellable m = is_any_word m.name && are_any_words m.params && spec_expr_is_spellable m.body 999

-- ---- whole trees

abbrev pub can_be_spelled : VerificationTree → Bool
can_be_spelled (a_spec s) = spec_is_spellable s
can_be_spelled (a_model m) = model_is_spellable m
can_be_spelled (a_form f) = is_any_word f.name && signatures_are_spellable f.signatures
can_be_spelled (an_instantiation i) = is_any_word i.term && are_signatures_spellable i.form i.signatures
can_be_spelled (an_attr a) = attr_is_spellable a
can_be_spelled (a_state s) = state_is_spellable s
can_be_spelled (a_macro m) = macro_is_spellable m
can_be_spelled (a_pragma p) = true

abbrev pub place_of_tree : VerificationTree → Position
place_of_tree (a_spec s) = s.at
place_of_tree (a_model m) = m.at
place_of_tree (a_form f) = f.at
place_of_tree (an_instantiation i) = i.at
place_of_tree (an_attr a) = a.at
place_of_tree (a_state s) = s.at
place_of_tree (a_macro m) = m.at
place_of_tree (a_pragma p) = p

-- where the first of some trees stands that can't be spelled, if there is one
abbrev pub first_unspelled : List VerificationTree → Option Position
first_unspelled [] = None
first_unspelled (v ∷ vs) = if can_be_spelled v then first_unspelled vs else Some (place_of_tree v)
