-- The form that a tree for a verifier is written as.
use Rattle.std.specs.Prelude.{ℕ, zero, suc, ◌+◌, ◌/◌, ◌%◌, pos, nat_lt, List, [], ◌∷◌, ◌++◌, codes, Option, Some, None, if◌then◌else◌, ◌==◌}
use Rattle.model.specs.lists.Syntax.{Name}
use Rattle.text_reader.specs.FormTrees.{FormTree, FormTrees, no_form, form_and}
use Rattle.text_writer.specs.Forms.{the_word, word_form, number_form, truth_form, list_form, headed_form, names_before}
use Rattle.text_writer.specs.Texts.{written}
use Rattle.text_reader.specs.SpecTrees.{SpecExprTree, spec_int, spec_bits, spec_bool, spec_unit, spec_var, spec_op, spec_cases, spec_let, spec_with, spec_as, spec_pair, SpecExprTrees, no_spec_expr, spec_expr_and, ModelTypeTree, int_model, bool_model, unit_model, bits_model, named_model, ModifiesTree, SpecTree, VariantValueTree, ModelValueTree, type_value, enum_value, const_value, ModelTree, SignatureTree, SignaturesTree, InstantiationTree, AttrKindTree, tag, chain, priority, AttrTree, StateTree, MacroTree, VerificationTree, a_spec, a_model, a_form, an_instantiation, an_attr, a_state, a_macro, a_pragma}

-- ---- lists

-- forms, and others behind them
abbrev pub with_forms : FormTrees → FormTrees → FormTrees
with_forms no_form gs = gs
with_forms (form_and f fs) gs = form_and f (with_forms fs gs)

-- what each is written as
abbrev pub forms_by : {A : Type 0} → (A → FormTree) → List A → FormTrees
forms_by form [] = no_form
forms_by form (x ∷ xs) = form_and (form x) (forms_by form xs)

-- what is written if it is there
abbrev pub form_if : {A : Type 0} → (A → FormTree) → Option A → FormTrees
form_if form None = no_form
form_if form (Some x) = form_and (form x) no_form

-- a list that begins with a word and has this part
abbrev pub section_form : List ℕ → FormTree → FormTree
section_form head f = headed_form head (form_and f no_form)

-- ( NAME NAME .. )
abbrev pub use_form : Name → List Name → FormTree
use_form n args = list_form (form_and (word_form n) (names_before args no_form))

-- ---- bits

-- a digit, in lower case
abbrev pub digit_text : ℕ → ℕ
digit_text d = if nat_lt d 10 then 48 + d else 87 + d

-- the last digits of a number in a base, so many of them
abbrev pub digits_text : (radix count : ℕ) → ℕ → List ℕ
digits_text radix zero n = []
digits_text radix (suc count) n = digits_text radix count (n / radix) ++ digit_text (n % radix) ∷ []

-- four bits a digit, if the width allows it
abbrev pub bits_text : (value width : ℕ) → List ℕ
bits_text value width = if width % 4 == 0 then codes "#x" ++ digits_text 16 (width / 4) value else codes "#b" ++ digits_text 2 width value

-- ---- types and expressions

abbrev pub model_type_form : ModelTypeTree → FormTree
model_type_form (int_model p) = the_word (codes "Int")
model_type_form (bool_model p) = the_word (codes "Bool")
model_type_form (unit_model p) = the_word (codes "Unit")
model_type_form (bits_model None p) = headed_form (codes "bv") no_form
model_type_form (bits_model (Some width) p) = section_form (codes "bv") (number_form (pos width))
model_type_form (named_model n p) = section_form (codes "named") (word_form n)

abbrev mutual
  pub spec_expr_form : SpecExprTree → FormTree
  spec_expr_form (spec_int z p) = number_form z
  spec_expr_form (spec_bits value width p) = the_word (bits_text value width)
  spec_expr_form (spec_bool b p) = truth_form b
  spec_expr_form (spec_unit p) = list_form no_form
  spec_expr_form (spec_var n p) = word_form n
  spec_expr_form (spec_op op xs p) = list_form (form_and (word_form op) (spec_expr_forms xs))
  spec_expr_form (spec_cases op x xs p) = list_form (form_and (word_form op) (form_and (spec_expr_form x) (spec_expr_forms xs)))
  spec_expr_form (spec_let ds x p) = headed_form (codes "let") (form_and (list_form (spec_expr_forms ds)) (form_and (spec_expr_form x) no_form))
  spec_expr_form (spec_with ns x p) = headed_form (codes "with") (form_and (list_form (names_before ns no_form)) (form_and (spec_expr_form x) no_form))
  spec_expr_form (spec_as x t p) = headed_form (codes "as") (form_and (spec_expr_form x) (form_and (model_type_form t) no_form))
  spec_expr_form (spec_pair x y p) = list_form (form_and (spec_expr_form x) (form_and (spec_expr_form y) no_form))

  pub spec_expr_forms : SpecExprTrees → FormTrees
  spec_expr_forms no_spec_expr = no_form
  spec_expr_forms (spec_expr_and x xs) = form_and (spec_expr_form x) (spec_expr_forms xs)

-- ---- specs of terms

-- a part of a spec, if it has it
abbrev pub part_forms : List ℕ → Option SpecExprTrees → FormTrees
part_forms head None = no_form
part_forms head (Some xs) = form_and (headed_form head (spec_expr_forms xs)) no_form

abbrev pub modifies_form : ModifiesTree → FormTree
modifies_form m = headed_form (codes "modifies") (form_and (word_form m.state) (form_if word_form m.cond))

abbrev pub spec_parts : SpecTree → FormTrees
spec_parts s =
    with_forms (part_forms (codes "match") s.matches) (with_forms (part_forms (codes "provide") s.provides)
    (with_forms (part_forms (codes "require") s.required) (forms_by modifies_form s.modifies)))

abbrev pub spec_form : SpecTree → FormTree
spec_form s = headed_form (codes "spec") (form_and (use_form s.term s.args) (spec_parts s))

-- ---- models

abbrev pub variant_value_by : Name → Option SpecExprTree → FormTree
variant_value_by n None = word_form n
variant_value_by n (Some x) = list_form (form_and (word_form n) (form_and (spec_expr_form x) no_form))

abbrev pub variant_value_form : VariantValueTree → FormTree
variant_value_form v = variant_value_by v.name v.value

abbrev pub model_value_form : ModelValueTree → FormTree
model_value_form (type_value t) = section_form (codes "type") (model_type_form t)
model_value_form (enum_value vs) = headed_form (codes "enum") (forms_by variant_value_form vs)
model_value_form (const_value x) = section_form (codes "const") (spec_expr_form x)

abbrev pub model_form : ModelTree → FormTree
model_form m = headed_form (codes "model") (form_and (word_form m.name) (form_and (model_value_form m.value) no_form))

-- ---- signatures, attributes, states and macros

abbrev pub signature_form : SignatureTree → FormTree
signature_form s =
    list_form (form_and (headed_form (codes "args") (forms_by model_type_form s.args))
    (form_and (section_form (codes "ret") (model_type_form s.ret))
    (form_and (section_form (codes "canon") (model_type_form s.canonical)) no_form)))

abbrev pub signatures_form : SignaturesTree → FormTree
signatures_form f = headed_form (codes "form") (form_and (word_form f.name) (forms_by signature_form f.signatures))

abbrev pub instantiation_form : InstantiationTree → FormTree
instantiation_form i = headed_form (codes "instantiate") (form_and (word_form i.term) (with_forms (form_if word_form i.form) (forms_by signature_form i.signatures)))

abbrev pub attr_kind_form : AttrKindTree → FormTree
attr_kind_form (tag n p) = section_form (codes "tag") (word_form n)
attr_kind_form (chain p) = section_form (codes "veri") (the_word (codes "chain"))
attr_kind_form (priority p) = section_form (codes "veri") (the_word (codes "priority"))

abbrev pub attr_form : AttrTree → FormTree
attr_form a =
    let named = form_and (word_form a.name) (forms_by attr_kind_form a.kinds) in
    headed_form (codes "attr") (if a.is_rule then form_and (the_word (codes "rule")) named else named)

abbrev pub state_form : StateTree → FormTree
state_form s =
    headed_form (codes "state") (form_and (word_form s.name)
    (form_and (section_form (codes "type") (model_type_form s.ty)) (form_and (section_form (codes "default") (spec_expr_form s.default)) no_form)))

abbrev pub macro_form : MacroTree → FormTree
macro_form m =
    headed_form (if m.is_spec then codes "spec_macro" else codes "macro") (form_and (use_form m.name m.params) (form_and (spec_expr_form m.body) no_form))

-- ---- whole trees, each on a line

abbrev pub verification_form : VerificationTree → FormTree
verification_form (a_spec s) = spec_form s
verification_form (a_model m) = model_form m
verification_form (a_form f) = signatures_form f
verification_form (an_instantiation i) = instantiation_form i
verification_form (an_attr a) = attr_form a
verification_form (a_state s) = state_form s
verification_form (a_macro m) = macro_form m
verification_form (a_pragma p) = headed_form (codes "pragma") no_form

abbrev pub printed : List VerificationTree → List ℕ
printed [] = []
printed (v ∷ vs) = written (verification_form v) ++ 10 ∷ printed vs
