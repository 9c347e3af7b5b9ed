-- What the numbers of an arena stand for.
use Rattle.std.specs.Prelude.{◌≡◌, ℕ, Bool, true, false, List, [], ◌∷◌, Some, slice_get}
use Rattle.model.specs.sites.Sites.{SiteTerm}
use Rattle.laws_specs.specs.Words as D
use Rattle.model_questions.specs.Formulas as M
use Rattle.model_questions.specs.Forms as MF
use Rattle.spec_cases.specs.declared.operators.Operator.{Operator}
use Rattle.spec_cases.specs.declared.operators.Operator.TheVariants as Op
use Rattle.spec_cases.specs.declared.formulas.Place.{Place}
use Rattle.spec_cases.specs.declared.formulas.Place.TheVariants as P
use Rattle.spec_cases.specs.declared.formulas.Word.{Word}
use Rattle.spec_cases.specs.declared.formulas.Word.TheVariants as W
use Rattle.spec_cases.specs.declared.formulas.Integer.{Integer}
use Rattle.spec_cases.specs.declared.formulas.Integer.TheVariants as I
use Rattle.spec_cases.specs.declared.formulas.Fact.{Fact}
use Rattle.spec_cases.specs.declared.formulas.Fact.TheVariants as F
use Rattle.spec_cases.specs.declared.formulas.Operand.{Operand}
use Rattle.spec_cases.specs.declared.formulas.Operand.TheVariants as O
use Rattle.spec_cases.specs.declared.formulas.WordNode.{WordNode}
use Rattle.spec_cases.specs.declared.formulas.WordNode.TheVariants as WN
use Rattle.spec_cases.specs.declared.formulas.IntegerNode.{IntegerNode}
use Rattle.spec_cases.specs.declared.formulas.IntegerNode.TheVariants as IN
use Rattle.spec_cases.specs.declared.formulas.FactNode.{FactNode}
use Rattle.spec_cases.specs.declared.formulas.FactNode.TheVariants as FN
use Rattle.spec_cases.specs.declared.formulas.Node.{Node}
use Rattle.spec_cases.specs.declared.formulas.Node.TheVariants as N
use Rattle.spec_cases.specs.declared.forms.Form.{Form}
use Rattle.spec_cases.specs.declared.forms.Form.TheVariants as Fo

abbrev pub operator_view : Operator → D.Operator
operator_view Op.Equals = D.equals
operator_view Op.Both = D.both
operator_view Op.OneOf = D.one_of
operator_view Op.Negation = D.negation
operator_view Op.Implied = D.implied
operator_view Op.Less = D.less
operator_view Op.LessOrEqual = D.less_or_equal
operator_view Op.Plus = D.plus
operator_view Op.Minus = D.minus
operator_view Op.Times = D.times
operator_view Op.WordPlus = D.word_plus
operator_view Op.WordMinus = D.word_minus
operator_view Op.WordTimes = D.word_times
operator_view Op.WordQuotient = D.word_quotient
operator_view Op.WordRemainder = D.word_remainder
operator_view Op.SignedQuotient = D.signed_quotient
operator_view Op.SignedRemainder = D.signed_remainder
operator_view Op.WordAnd = D.word_and
operator_view Op.WordOr = D.word_or
operator_view Op.WordXor = D.word_xor
operator_view Op.WordNot = D.word_not
operator_view Op.WordNegated = D.word_negated
operator_view Op.ShiftedLeft = D.shifted_left
operator_view Op.ShiftedRight = D.shifted_right
operator_view Op.ShiftedRightSigned = D.shifted_right_signed
operator_view Op.RotatedLeft = D.rotated_left
operator_view Op.RotatedRight = D.rotated_right
operator_view Op.WordLess = D.word_less
operator_view Op.WordLessOrEqual = D.word_less_or_equal
operator_view Op.SignedLess = D.signed_less
operator_view Op.SignedLessOrEqual = D.signed_less_or_equal
operator_view Op.Joined = D.joined
operator_view Op.Bits = D.bits
operator_view Op.Widened = D.widened
operator_view Op.WidenedSigned = D.widened_signed
operator_view Op.AsWord = D.as_word
operator_view Op.AsInteger = D.as_integer
operator_view Op.WidthOf = D.width_of
operator_view (Op.Field i) = D.field i

-- what needs no number of its own: it is written, or it is the constant of a place
abbrev pub is_plain_word : M.Word → Bool
is_plain_word (M.written n) = true
is_plain_word (M.word_at at width) = true
is_plain_word (M.word_by o of) = false
is_plain_word (M.word_answered f of) = false
is_plain_word (M.either_word f a b) = false

abbrev pub is_plain_integer : M.Integer → Bool
is_plain_integer (M.written_integer z) = true
is_plain_integer (M.integer_at at) = true
is_plain_integer (M.integer_by o of) = false
is_plain_integer (M.integer_answered f of) = false
is_plain_integer (M.either_integer f a b) = false

abbrev pub is_plain_fact : M.Fact → Bool
is_plain_fact (M.known b) = true
is_plain_fact (M.truth_at at) = true
is_plain_fact (M.as_wide at width) = true
is_plain_fact (M.is_kind at variant) = true
is_plain_fact (M.fact_by o of) = false
is_plain_fact (M.fact_answered f of) = false
is_plain_fact (M.both_facts a b) = false
is_plain_fact (M.one_fact a b) = false
is_plain_fact (M.no_fact a) = false
is_plain_fact (M.same_facts a b) = false

-- what each number stands for: sites, places, formulas that are made of others, and fields
pub record Naming : Type 0 where
  pub site : ℕ → SiteTerm
  pub place : ℕ → M.Place
  pub word : ℕ → M.Word
  pub integer : ℕ → M.Integer
  pub fact : ℕ → M.Fact
  pub fields : ℕ → MF.Forms
  pub made_words : (n : ℕ) → is_plain_word (word n) ≡ false
  pub made_integers : (n : ℕ) → is_plain_integer (integer n) ≡ false
  pub made_facts : (n : ℕ) → is_plain_fact (fact n) ≡ false

module _ (v : Naming) where
  abbrev pub layer_of_place : Place → M.Place
  layer_of_place (P.Argument i) = M.argument_at i
  layer_of_place (P.Site s) = M.site_at (v.site s)
  layer_of_place (P.Output s i) = M.output_at (v.site s) i
  layer_of_place (P.VariantField p ty i k) = M.variant_field_at (v.place p.0) ty.0 i.0 k
  layer_of_place (P.StructField p ty k) = M.struct_field_at (v.place p.0) ty.0 k

  abbrev pub word_of : Word → M.Word
  word_of (W.Written n) = M.written n
  word_of (W.At p w) = M.word_at (v.place p.0) w
  word_of (W.Made n) = v.word n.0

  abbrev pub integer_of : Integer → M.Integer
  integer_of (I.Written z) = M.written_integer z
  integer_of (I.At p) = M.integer_at (v.place p.0)
  integer_of (I.Made n) = v.integer n.0

  abbrev pub fact_of : Fact → M.Fact
  fact_of (F.Known b) = M.known b
  fact_of (F.At p) = M.truth_at (v.place p.0)
  fact_of (F.AsWide p w) = M.as_wide (v.place p.0) w
  fact_of (F.IsKind p i) = M.is_kind (v.place p.0) i.0
  fact_of (F.Made n) = v.fact n.0

  abbrev pub operand_and : Operand → M.Operands → M.Operands
  operand_and (O.Fact f) rest = M.fact_and (fact_of f) rest
  operand_and (O.Integer z) rest = M.integer_and (integer_of z) rest
  operand_and (O.Word w t) rest = M.word_and w (word_of t) rest

  abbrev pub operands_of : List Operand → M.Operands
  operands_of [] = M.no_operand
  operands_of (o ∷ of) = operand_and o (operands_of of)

  abbrev pub layer_of_word : WordNode → M.Word
  layer_of_word (WN.By o of) = M.word_by (operator_view o) (operands_of of.items)
  layer_of_word (WN.Answered f of) = M.word_answered f (operands_of of.items)
  layer_of_word (WN.Either f a b) = M.either_word (fact_of f) (word_of a) (word_of b)

  abbrev pub layer_of_integer : IntegerNode → M.Integer
  layer_of_integer (IN.By o of) = M.integer_by (operator_view o) (operands_of of.items)
  layer_of_integer (IN.Answered f of) = M.integer_answered f (operands_of of.items)
  layer_of_integer (IN.Either f a b) = M.either_integer (fact_of f) (integer_of a) (integer_of b)

  abbrev pub layer_of_fact : FactNode → M.Fact
  layer_of_fact (FN.By o of) = M.fact_by (operator_view o) (operands_of of.items)
  layer_of_fact (FN.Answered f of) = M.fact_answered f (operands_of of.items)
  layer_of_fact (FN.Both a b) = M.both_facts (fact_of a) (fact_of b)
  layer_of_fact (FN.One a b) = M.one_fact (fact_of a) (fact_of b)
  layer_of_fact (FN.No a) = M.no_fact (fact_of a)
  layer_of_fact (FN.Same a b) = M.same_facts (fact_of a) (fact_of b)

  abbrev pub form_of : Form → MF.Form
  form_of (Fo.Fact f) = MF.a_fact (fact_of f)
  form_of (Fo.Integer z) = MF.an_integer_by (integer_of z)
  form_of (Fo.Word w t) = MF.a_word_by w (word_of t)
  form_of (Fo.Variant ty i fs) = MF.variant_by ty.0 i.0 (v.fields fs.0)
  form_of (Fo.Struct ty fs) = MF.struct_by ty.0 (v.fields fs.0)
  form_of (Fo.AnyOf ty p) = MF.any_of ty.0 (v.place p.0)
  form_of (Fo.SomeAt p) = MF.some_at (v.place p.0)

  abbrev pub forms_of : List Form → MF.Forms
  forms_of [] = MF.no_form
  forms_of (f ∷ fs) = MF.form_and (form_of f) (forms_of fs)

  -- a number stands for what was made
  abbrev pub IsNamed : ℕ → Node → Type 0
  IsNamed n (N.Place x) = v.place n ≡ layer_of_place x
  IsNamed n (N.Fields fs) = v.fields n ≡ forms_of fs.items
  IsNamed n (N.Word x) = v.word n ≡ layer_of_word x
  IsNamed n (N.Integer x) = v.integer n ≡ layer_of_integer x
  IsNamed n (N.Fact x) = v.fact n ≡ layer_of_fact x

-- each number of an arena stands for what was made
pub record Names (v : Naming) (nodes : List Node) : Type 0 where
  pub named : (n : ℕ) (x : Node) → slice_get nodes n ≡ Some x → IsNamed v n x

-- formulas are added, and what was there stands for what it stood for; whatever the numbers stand for now, P is so
abbrev pub Makes : List Node → List Node → (Naming → Type 0) → Type 0
Makes old new P = (v : Naming) → Names v new → Names v old × P v
