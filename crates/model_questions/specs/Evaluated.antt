-- What an expression of a spec comes to, by formulas: it is `says` of laws_specs with cases in place of optional values. What isn't
-- followed is the rest.
use Rattle.std.specs.Prelude.{ℕ, zero, suc, ℤ, pos, ◌+◌, ◌-◌, ◌^◌, Bool, true, false, not, ◌&&◌, List, [], ◌∷◌, ◌++◌, Option, Some, None, if◌then◌else◌, nat_lt, slice_get}
use Rattle.std.specs.Bool.{◌==◌}
use Rattle.std.specs.List.{flat_map, list_any}
use Rattle.model.specs.lists.Tables.{VariantEntry, TypeEntry, builtin_type, primitive_type, enum_type, struct_type}
use Rattle.model.specs.rules.Meaning.{look}
use Rattle.model.specs.rules.Outcome.{then_option}
use Rattle.model.specs.rules.Values.{field_types}
use Rattle.laws_specs.specs.Words.{Denoted, a_truth, DenotedList, no_denoted, denoted_and, a_word, an_integer, Operator, equals, both, one_of as either, negation, implied, less, less_or_equal, plus, minus, times, word_plus, word_minus, word_times, word_quotient, word_remainder, signed_quotient, signed_remainder, word_and as bit_conjunction, word_or, word_xor, word_not, word_negated, shifted_left, shifted_right, shifted_right_signed, rotated_left, rotated_right, word_less, word_less_or_equal, signed_less, signed_less_or_equal, joined, bits, widened, widened_signed, as_word, as_integer, width_of, field, applied_to}
use Rattle.laws_specs.specs.Specs.{Sort, truths, integers, words, words_among, SpecExpr, its_argument, its_result, variable, the_same, operation, unknown, variant_said, struct_said, let_in, switch_on, match_on, SpecExprs, no_spec_expr, spec_expr_and, SpecCases, no_case, case_and, SpecArms, no_spec_arm, spec_arm_and, struct_arm, arm_else, UnknownSort, Specs, sort_of, is_closed}
use Rattle.model_questions.specs.Formulas.{Place, place_eq, variant_field_at, struct_field_at, Word, written, word_at, word_by, word_answered, either_word, Integer, written_integer, integer_at, integer_by, integer_answered, Fact, known, truth_at, as_wide, is_kind, fact_by, fact_answered, same_facts, Operands, no_operand, fact_and, integer_and, word_and, both_of, one_of, none_of}
use Rattle.model_questions.specs.Forms.{Form, a_fact, an_integer_by, a_word_by, variant_by, struct_by, any_of, some_at, Forms, no_form, form_and, form_list, form_of, Case, Cases, nothing_said, one_case, anything, under, joined_cases, without_rest, or_nothing, then_cases, merged}

-- 1. what is told of places: widths of words, integers, and which variants stand there
pub record Known : Type 0 where
  pub widths : List (Place × ℕ)
  pub integers : List (Place × ℤ)
  pub kinds : List (Place × ℕ)

abbrev pub found : {X : Type 0} → List (Place × X) → Place → Option X
found [] at = None
found (e ∷ rest) at = if place_eq e.0 at then Some e.1 else found rest at

-- 2. what an operator comes to, by the sorts of its operands, and by the numbers that say widths and bits
pub data Result : Type 0 where
  no_result : Result
  truth_result : Result
  integer_result : Result
  word_result : (width : ℕ) → Result
  -- isn't followed
  unknown_result : Result

abbrev pub of_same_width : ℕ → ℕ → Result → Result
of_same_width w v r = if w == v then r else no_result

abbrev pub word_where : Bool → ℕ → Result
word_where there width = if there then word_result width else no_result

abbrev pub result : Operator → Operands → Result
result equals (fact_and a (fact_and b no_operand)) = truth_result
result equals (integer_and a (integer_and b no_operand)) = truth_result
result equals (word_and w a (word_and v b no_operand)) = of_same_width w v truth_result
result both (fact_and a (fact_and b no_operand)) = truth_result
result either (fact_and a (fact_and b no_operand)) = truth_result
result negation (fact_and a no_operand) = truth_result
result implied (fact_and a (fact_and b no_operand)) = truth_result
result less (integer_and a (integer_and b no_operand)) = truth_result
result less_or_equal (integer_and a (integer_and b no_operand)) = truth_result
result plus (integer_and a (integer_and b no_operand)) = integer_result
result minus (integer_and a (integer_and b no_operand)) = integer_result
result times (integer_and a (integer_and b no_operand)) = integer_result
result word_plus (word_and w a (word_and v b no_operand)) = of_same_width w v (word_result w)
result word_minus (word_and w a (word_and v b no_operand)) = of_same_width w v (word_result w)
result word_times (word_and w a (word_and v b no_operand)) = of_same_width w v (word_result w)
result word_quotient (word_and w a (word_and v b no_operand)) = of_same_width w v (word_result w)
result word_remainder (word_and w a (word_and v b no_operand)) = of_same_width w v (word_result w)
result signed_quotient (word_and w a (word_and v b no_operand)) = of_same_width w v (word_result w)
result signed_remainder (word_and w a (word_and v b no_operand)) = of_same_width w v (word_result w)
result bit_conjunction (word_and w a (word_and v b no_operand)) = of_same_width w v (word_result w)
result word_or (word_and w a (word_and v b no_operand)) = of_same_width w v (word_result w)
result word_xor (word_and w a (word_and v b no_operand)) = of_same_width w v (word_result w)
result word_not (word_and w a no_operand) = word_result w
result word_negated (word_and w a no_operand) = word_result w
result shifted_left (word_and w a (word_and v b no_operand)) = of_same_width w v (word_result w)
result shifted_right (word_and w a (word_and v b no_operand)) = of_same_width w v (word_result w)
result shifted_right_signed (word_and w a (word_and v b no_operand)) = of_same_width w v (word_result w)
result rotated_left (word_and w a (word_and v b no_operand)) = of_same_width w v (word_result w)
result rotated_right (word_and w a (word_and v b no_operand)) = of_same_width w v (word_result w)
result rotated_left (word_and w a (integer_and z no_operand)) = word_result w
result rotated_right (word_and w a (integer_and z no_operand)) = word_result w
result word_less (word_and w a (word_and v b no_operand)) = of_same_width w v truth_result
result word_less_or_equal (word_and w a (word_and v b no_operand)) = of_same_width w v truth_result
result signed_less (word_and w a (word_and v b no_operand)) = of_same_width w v truth_result
result signed_less_or_equal (word_and w a (word_and v b no_operand)) = of_same_width w v truth_result
result joined (word_and w a (word_and v b no_operand)) = word_result (w + v)
result bits (integer_and (written_integer (pos high)) (integer_and (written_integer (pos low)) (word_and w a no_operand))) = word_where (not (nat_lt high low) && nat_lt high w) ((high + 1) - low)
result widened (integer_and (written_integer (pos width)) (word_and w a no_operand)) = word_where (not (nat_lt width w)) width
result widened_signed (integer_and (written_integer (pos width)) (word_and w a no_operand)) = word_where (not (nat_lt width w)) width
result as_word (integer_and (written_integer (pos width)) (integer_and z no_operand)) = word_result width
result as_integer (word_and w a no_operand) = integer_result
result width_of (word_and w a no_operand) = integer_result
result _ _ = unknown_result

-- a truth that an operator gives, without facts that change nothing
abbrev pub fact_from : Operator → Operands → Fact
fact_from both (fact_and a (fact_and b no_operand)) = both_of a b
fact_from either (fact_and a (fact_and b no_operand)) = one_of a b
fact_from negation (fact_and a no_operand) = none_of a
fact_from implied (fact_and a (fact_and b no_operand)) = one_of (none_of a) b
fact_from equals (fact_and a (fact_and b no_operand)) = same_facts a b
fact_from o of = fact_by o of

-- a width is known
abbrev pub integer_from : Operator → Operands → Integer
integer_from width_of (word_and w a no_operand) = written_integer (pos w)
integer_from o of = integer_by o of

abbrev pub came_to : Operator → Operands → Result → Cases Form
came_to o of no_result = nothing_said
came_to o of truth_result = one_case (a_fact (fact_from o of))
came_to o of integer_result = one_case (an_integer_by (integer_from o of))
came_to o of (word_result width) = one_case (a_word_by width (word_by o of))
came_to o of unknown_result = anything

-- a width that isn't known is each of the listed ones; what it is besides isn't followed
abbrev pub widths_in_sort : Sort → List ℕ
widths_in_sort (words_among ws) = ws
widths_in_sort _ = []

abbrev pub widths_of : Specs → List ℕ
widths_of specs = flat_map (λ k. widths_in_sort k.1) specs.models

abbrev pub is_size : Integer → ℕ → Fact
is_size z w = fact_by equals (integer_and z (integer_and (written_integer (pos w)) no_operand))

abbrev pub each_size : List ℕ → Operator → Integer → Operands → Cases Form
each_size [] o z rest = anything
each_size (w ∷ ws) o z rest =
    joined_cases (under (is_size z w) (came_to o (integer_and (written_integer (pos w)) rest) (result o (integer_and (written_integer (pos w)) rest)))) (under (none_of (is_size z w)) (each_size ws o z rest))

abbrev pub by_size : List ℕ → Operator → Operands → Cases Form
by_size ws as_word (integer_and z (integer_and y no_operand)) = each_size ws as_word z (integer_and y no_operand)
by_size ws widened (integer_and z (word_and w t no_operand)) = each_size ws widened z (word_and w t no_operand)
by_size ws widened_signed (integer_and z (word_and w t no_operand)) = each_size ws widened_signed z (word_and w t no_operand)
by_size ws o of = anything

abbrev pub followed : List ℕ → Operator → Operands → Result → Cases Form
followed ws o of unknown_result = by_size ws o of
followed ws o of r = came_to o of r

-- operands that are written are computed with
abbrev pub literals : Operands → Option DenotedList
literals no_operand = Some no_denoted
literals (fact_and (known b) rest) = then_option (literals rest) (λ xs. Some (denoted_and (a_truth b) xs))
literals (integer_and (written_integer z) rest) = then_option (literals rest) (λ xs. Some (denoted_and (an_integer z) xs))
literals (word_and width (written n) rest) = then_option (literals rest) (λ xs. Some (denoted_and (a_word width n) xs))
literals _ = None

abbrev pub literal_case : Option Denoted → Cases Form
literal_case None = nothing_said
literal_case (Some x) = one_case (form_of x)

abbrev pub folded : List ℕ → Operator → Operands → Option DenotedList → Cases Form
folded ws o of None = followed ws o of (result o of)
folded ws o of (Some xs) = literal_case (applied_to o xs)

-- an unknown function answers by a value of its sort, on operands of its sorts that lie below two to their widths for sure
abbrev pub is_operand_of : Sort → Sort → Bool
is_operand_of truths truths = true
is_operand_of integers integers = true
is_operand_of (words w) (words v) = v == w
is_operand_of (words_among ws) (words v) = list_any (λ w. v == w) ws
is_operand_of _ _ = false

abbrev pub is_word_result : ℕ → Result → Bool
is_word_result width (word_result w) = w == width
is_word_result width _ = false

-- an operator gives such a word of such words; what an unknown function answers doesn't say its width
abbrev mutual
  pub is_surely_formed : ℕ → Word → Bool
  is_surely_formed width (word_at at w) = w == width
  is_surely_formed width (written n) = nat_lt n (2 ^ width)
  is_surely_formed width (word_by o of) = is_word_result width (result o of) && are_surely_formed of
  is_surely_formed width (word_answered f of) = false
  is_surely_formed width (either_word f a b) = is_surely_formed width a && is_surely_formed width b

  pub are_surely_formed : Operands → Bool
  are_surely_formed no_operand = true
  are_surely_formed (fact_and f rest) = are_surely_formed rest
  are_surely_formed (integer_and z rest) = are_surely_formed rest
  are_surely_formed (word_and width t rest) = is_surely_formed width t && are_surely_formed rest

abbrev pub are_operands_of : List Sort → Operands → Bool
are_operands_of [] no_operand = true
are_operands_of (s ∷ sorts) (fact_and f rest) = is_operand_of s truths && are_operands_of sorts rest
are_operands_of (s ∷ sorts) (integer_and z rest) = is_operand_of s integers && are_operands_of sorts rest
are_operands_of (s ∷ sorts) (word_and width t rest) = is_operand_of s (words width) && (is_surely_formed width t && are_operands_of sorts rest)
are_operands_of _ _ = false

abbrev pub answer_of_sort : ℕ → Operands → Sort → Cases Form
answer_of_sort f of truths = one_case (a_fact (fact_answered f of))
answer_of_sort f of integers = one_case (an_integer_by (integer_answered f of))
answer_of_sort f of (words width) = one_case (a_word_by width (word_answered f of))
answer_of_sort f of (words_among ws) = anything

abbrev pub answered_as_sorted : ℕ → Operands → Option UnknownSort → Cases Form
answered_as_sorted f of None = anything
answered_as_sorted f of (Some s) = if are_operands_of s.takes of then answer_of_sort f of s.gives else anything

abbrev pub answered_of : ℕ → Option UnknownSort → Option Operands → Cases Form
answered_of f s None = anything
answered_of f s (Some of) = answered_as_sorted f of s

-- plain forms alone are operands
abbrev pub operands : Forms → Option Operands
operands no_form = Some no_operand
operands (form_and (a_fact f) rest) = then_option (operands rest) (λ of. Some (fact_and f of))
operands (form_and (an_integer_by z) rest) = then_option (operands rest) (λ of. Some (integer_and z of))
operands (form_and (a_word_by width t) rest) = then_option (operands rest) (λ of. Some (word_and width t of))
operands (form_and _ rest) = None

abbrev pub by_operands : List ℕ → Operator → Option Operands → Cases Form
by_operands ws o None = anything
by_operands ws o (Some of) = folded ws o of (literals of)

abbrev pub fitted : List ℕ → Operator → Forms → Cases Form
fitted ws (field i) (form_and (struct_by ty fields) no_form) = or_nothing (slice_get (form_list fields) i)
fitted ws o fs = by_operands ws o (operands fs)

-- a choice by a truth
abbrev pub by_fact : Cases Form → Cases Form → Form → Cases Form
by_fact x y (a_fact f) = joined_cases (under f x) (under (none_of f) y)
by_fact x y _ = anything

-- 3. what stands at a place whose type is known, one layer of it
abbrev pub fields_at : (ℕ → Place) → ℕ → List ℕ → Forms
fields_at p i [] = no_form
fields_at p i (ty ∷ tys) = form_and (any_of ty (p i)) (fields_at p (suc i) tys)

-- a word of one of these widths: each but the last under the guard that it is so wide
abbrev pub wide_case : Fact → Place → ℕ → Case Form
wide_case g at w = record { guard = g; gives = a_word_by w (word_at at w) }

abbrev pub at_each : Fact → List ℕ → Place → List (Case Form)
at_each g [] at = []
at_each g (w ∷ []) at = wide_case g at w ∷ []
at_each g (w ∷ (v ∷ ws)) at = wide_case (both_of g (as_wide at w)) at w ∷ at_each (both_of g (none_of (as_wide at w))) (v ∷ ws) at

abbrev pub at_widths : List ℕ → Place → Option ℕ → Cases Form
at_widths ws at None = record { cases = at_each (known true) ws at; rest = known false }
at_widths ws at (Some w) = one_case (a_word_by w (word_at at w))

abbrev pub integer_known : Place → Option ℤ → Cases Form
integer_known at None = one_case (an_integer_by (integer_at at))
integer_known at (Some z) = one_case (an_integer_by (written_integer z))

abbrev pub at_sort : Known → Place → Option Sort → Cases Form
at_sort k at None = anything
at_sort k at (Some truths) = one_case (a_fact (truth_at at))
at_sort k at (Some integers) = integer_known at (found k.integers at)
at_sort k at (Some (words w)) = one_case (a_word_by w (word_at at w))
at_sort k at (Some (words_among ws)) = at_widths ws at (found k.widths at)

-- a variant, each under the guard that it stands there: of an extern enum something else may stand there, unless its sort has no words; of
-- any other one the last variant stands where no other does
abbrev pub variant_at : ℕ → Place → ℕ → VariantEntry → Form
variant_at ty at i v = variant_by ty i (fields_at (variant_field_at at ty i) 0 (field_types v.fields))

abbrev pub each_variant : ℕ → Place → ℕ → List VariantEntry → List (Case Form)
each_variant ty at i [] = []
each_variant ty at i (v ∷ vs) = record { guard = is_kind at i; gives = variant_at ty at i v } ∷ each_variant ty at (suc i) vs

abbrev pub is_no_variant : Place → ℕ → List VariantEntry → Fact
is_no_variant at i [] = known true
is_no_variant at i (v ∷ vs) = both_of (none_of (is_kind at i)) (is_no_variant at (suc i) vs)

abbrev pub one_variant : Fact → ℕ → Place → ℕ → List VariantEntry → List (Case Form)
one_variant g ty at i [] = []
one_variant g ty at i (v ∷ []) = record { guard = g; gives = variant_at ty at i v } ∷ []
one_variant g ty at i (v ∷ (w ∷ vs)) = record { guard = both_of g (is_kind at i); gives = variant_at ty at i v } ∷ one_variant (both_of g (none_of (is_kind at i))) ty at (suc i) (w ∷ vs)

abbrev pub variant_known : ℕ → Place → ℕ → Option VariantEntry → Cases Form
variant_known ty at i None = anything
variant_known ty at i (Some v) = one_case (variant_at ty at i v)

abbrev pub at_variants : Bool → ℕ → Place → List VariantEntry → Option ℕ → Cases Form
at_variants is_extern ty at vs (Some i) = variant_known ty at i (slice_get vs i)
at_variants true ty at vs None = record { cases = each_variant ty at 0 vs; rest = is_no_variant at 0 vs }
at_variants false ty at vs None = record { cases = one_variant (known true) ty at 0 vs; rest = known false }

abbrev pub at_enum : Specs → Known → Bool → ℕ → Place → List VariantEntry → Cases Form
at_enum specs k is_extern ty at [] = at_sort k at (sort_of specs ty)
at_enum specs k is_extern ty at (v ∷ vs) = at_variants (is_extern && not (is_closed (sort_of specs ty))) ty at (v ∷ vs) (found k.kinds at)

abbrev pub at_type : Specs → Known → ℕ → Place → Option TypeEntry → Cases Form
at_type specs k ty at None = anything
at_type specs k ty at (Some (builtin_type zero)) = one_case (a_fact (truth_at at))
at_type specs k ty at (Some (builtin_type (suc n))) = at_sort k at (sort_of specs ty)
at_type specs k ty at (Some (primitive_type id name place)) = at_sort k at (sort_of specs ty)
at_type specs k ty at (Some (enum_type name id is_extern is_nodebug vs place)) = at_enum specs k is_extern ty at vs
at_type specs k ty at (Some (struct_type name id is_extern is_nodebug fields place)) = one_case (struct_by ty (fields_at (struct_field_at at ty) 0 (field_types fields)))

abbrev pub takes_others : SpecArms → Bool
takes_others no_spec_arm = false
takes_others (spec_arm_and ty variant body rest) = takes_others rest
takes_others (struct_arm ty body) = false
takes_others (arm_else body) = true

abbrev pub is_enum_of_variants : Option TypeEntry → Bool
is_enum_of_variants (Some (enum_type name id is_extern is_nodebug (v ∷ vs) place)) = true
is_enum_of_variants _ = false

abbrev pub has_variants : List TypeEntry → Form → Bool
has_variants types (any_of ty at) = is_enum_of_variants (slice_get types ty)
has_variants types f = false

module _ (types : List TypeEntry) (specs : Specs) (k : Known) where
  abbrev pub opened : Form → Cases Form
  opened (any_of ty at) = at_type specs k ty at (slice_get types ty)
  opened (some_at at) = anything
  opened f = one_case f

  abbrev pub opened_each : Forms → Cases Forms
  opened_each no_form = one_case no_form
  opened_each (form_and f rest) = then_cases (opened f) (λ g. then_cases (opened_each rest) (λ gs. one_case (form_and g gs)))

  -- what arms look at: of an atom of an enum they say nothing, unless one takes what is no variant
  abbrev pub matched : SpecArms → Form → Cases Form
  matched arms f = if has_variants types f && not (takes_others arms) then without_rest (opened f) else opened f

  -- 4. an expression, on arguments and a result
  module _ (args : Forms) (result : Option Form) where
    abbrev mutual
      pub evaluated : SpecExpr → List Form → Cases Form
      evaluated (its_argument i) bound = or_nothing (slice_get (form_list args) i)
      evaluated its_result bound = or_nothing result
      evaluated (variable i) bound = or_nothing (slice_get bound i)
      evaluated (the_same x) bound = one_case (form_of x)
      evaluated (operation o of) bound = then_cases (evaluated_each of bound) (λ fs. then_cases (opened_each fs) (fitted (widths_of specs) o))
      evaluated (unknown f of) bound = then_cases (evaluated_each of bound) (λ fs. then_cases (opened_each fs) (λ gs. answered_of f (look (λ n. n == f) specs.unknown_sorts) (operands gs)))
      evaluated (variant_said ty variant of) bound = then_cases (evaluated_each of bound) (λ fs. one_case (variant_by ty variant fs))
      evaluated (struct_said ty of) bound = then_cases (evaluated_each of bound) (λ fs. one_case (struct_by ty fs))
      evaluated (let_in e body) bound = then_cases (evaluated e bound) (λ x. evaluated body (x ∷ bound))
      evaluated (switch_on e cases) bound = then_cases (evaluated e bound) (λ x. evaluated_case cases x bound)
      evaluated (match_on e arms) bound = then_cases (evaluated e bound) (λ x. then_cases (matched arms x) (λ y. evaluated_arm arms y bound))

      pub evaluated_each : SpecExprs → List Form → Cases Forms
      evaluated_each no_spec_expr bound = one_case no_form
      evaluated_each (spec_expr_and e rest) bound = then_cases (evaluated e bound) (λ x. then_cases (evaluated_each rest bound) (λ xs. one_case (form_and x xs)))

      pub evaluated_case : SpecCases → Form → List Form → Cases Form
      evaluated_case no_case x bound = nothing_said
      evaluated_case (case_and key e rest) x bound =
          then_cases (evaluated key bound)
          (λ y. merged (then_cases (then_cases (opened_each (form_and y (form_and x no_form))) (fitted (widths_of specs) equals)) (by_fact (evaluated e bound) (evaluated_case rest x bound))))

      pub evaluated_arm : SpecArms → Form → List Form → Cases Form
      evaluated_arm (arm_else body) x bound = evaluated body (x ∷ bound)
      evaluated_arm no_spec_arm x bound = nothing_said
      evaluated_arm (struct_arm ty body) (struct_by t fields) bound = if t == ty then evaluated body (form_list fields ++ bound) else nothing_said
      evaluated_arm (spec_arm_and ty variant body rest) (variant_by t i fields) bound =
          if t == ty then (if i == variant then evaluated body (form_list fields ++ bound) else evaluated_arm rest (variant_by t i fields) bound) else nothing_said
      evaluated_arm arms (a_fact f) bound = nothing_said
      evaluated_arm arms (an_integer_by z) bound = nothing_said
      evaluated_arm arms (a_word_by width t) bound = nothing_said
      evaluated_arm arms x bound = anything
