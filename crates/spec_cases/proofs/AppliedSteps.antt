-- What an operator gives by the shape of its operands.
use Rattle.std.proofs.Common.{◌≡◌, ℕ, Bool, true, false, List, inl, inr, refl, sym, ap, ◌∙◌}
use Rattle.std.proofs.lemmas.Bool.{false≢true}
use Rattle.std.proofs.lemmas.List.{map-append}
use Rattle.laws_specs.specs.Words as D
use Rattle.model_questions.specs.Formulas as M
use Rattle.model_questions.specs.Forms as MF
use Rattle.model_questions.specs.Evaluated as E
use Rattle.spec_cases.specs.declared.cases.Cases.{Cases}
use Rattle.spec_cases.specs.declared.forms.Form.{Form}
use Rattle.spec_cases.specs.declared.formulas.Operand.{Operand}
use Rattle.spec_cases.specs.declared.shapes.Shape.{Shape}
use Rattle.spec_cases.specs.declared.shapes.Shape.TheVariants as S
use Rattle.spec_cases.specs.Namings.{Naming, fact_of, form_of, operands_of}
use Rattle.spec_cases.specs.CaseViews.{guarded, guarded_each, cases_of, with_value, with_values}
use Rattle.spec_cases.specs.Shapes.{shape_of, of_shape}
use Rattle.spec_cases.proofs.CaseSteps.{mapped_under}
use Rattle.spec_cases.proofs.ShapedOperands.{is_others, is_other, are_facts, shaped, fact_other}

-- 1. truths
abbrev pub is_of_facts : Shape → Bool
is_of_facts (S.OneFact a) = true
is_of_facts (S.TwoFacts a b) = true
is_of_facts (S.TwoIntegers a b) = false
is_of_facts (S.OneWord w a) = false
is_of_facts (S.TwoWords w a x b) = false
is_of_facts (S.WordInteger w a z) = false
is_of_facts (S.IntegerWord z w a) = false
is_of_facts (S.TwoIntegersWord y z w a) = false
is_of_facts S.Others = false

other_no_facts : (of : M.Operands) → is_other of ≡ true → are_facts of ≡ false
other_no_facts (M.fact_and a M.no_operand) h = absurd (false≢true h)
other_no_facts (M.fact_and a (M.fact_and b M.no_operand)) h = absurd (false≢true h)
other_no_facts _ h = refl

module _ (v : Naming) where
  shape_no_facts : (s : Shape) → is_of_facts s ≡ false → are_facts (of_shape v s) ≡ false
  shape_no_facts (S.OneFact a) h = absurd (false≢true (sym h))
  shape_no_facts (S.TwoFacts a b) h = absurd (false≢true (sym h))
  shape_no_facts (S.TwoIntegers a b) h = refl
  shape_no_facts (S.OneWord w a) h = refl
  shape_no_facts (S.TwoWords w a x b) h = refl
  shape_no_facts (S.WordInteger w a z) h = refl
  shape_no_facts (S.IntegerWord z w a) h = refl
  shape_no_facts (S.TwoIntegersWord y z w a) h = refl
  shape_no_facts S.Others h = refl

  no_facts : (of : List Operand) (s : Shape) → shape_of of ≡ s → is_of_facts s ≡ false → are_facts (operands_of v of) ≡ false
  no_facts of s e h = elim (shaped v of) [ inl x ↦ other_no_facts (operands_of v of) x.1 | inr y ↦ ap are_facts (y ∙ ap (of_shape v) e) ∙ shape_no_facts s h ]

  pub fact_plain : (o : D.Operator) (of : List Operand) (s : Shape) → shape_of of ≡ s → is_of_facts s ≡ false → E.fact_from o (operands_of v of) ≡ M.fact_by o (operands_of v of)
  fact_plain o of s e h = fact_other o (operands_of v of) (no_facts of s e h)

  pub shape_fact : (o : D.Operator) (of : List Operand) (s : Shape) → shape_of of ≡ s → is_others s ≡ false → E.fact_from o (operands_of v of) ≡ E.fact_from o (of_shape v s)
  shape_fact o of s e h = elim (shaped v of) [ inl x ↦ absurd (false≢true (sym h ∙ ap is_others (sym e) ∙ x.0)) | inr y ↦ ap (E.fact_from o) (y ∙ ap (of_shape v) e) ]

-- 2. integers
abbrev pub is_of_word : Shape → Bool
is_of_word (S.OneFact a) = false
is_of_word (S.TwoFacts a b) = false
is_of_word (S.TwoIntegers a b) = false
is_of_word (S.OneWord w a) = true
is_of_word (S.TwoWords w a x b) = false
is_of_word (S.WordInteger w a z) = false
is_of_word (S.IntegerWord z w a) = false
is_of_word (S.TwoIntegersWord y z w a) = false
is_of_word S.Others = false

abbrev is_word : M.Operands → Bool
is_word (M.word_and w a M.no_operand) = true
is_word _ = false

integer_other : (o : D.Operator) (of : M.Operands) → is_word of ≡ false → E.integer_from o of ≡ M.integer_by o of
integer_other D.width_of (M.word_and w a M.no_operand) h = absurd (false≢true (sym h))
integer_other _ _ h = refl

other_no_word : (of : M.Operands) → is_other of ≡ true → is_word of ≡ false
other_no_word (M.word_and w a M.no_operand) h = absurd (false≢true h)
other_no_word _ h = refl

module _ (v : Naming) where
  shape_no_word : (s : Shape) → is_of_word s ≡ false → is_word (of_shape v s) ≡ false
  shape_no_word (S.OneFact a) h = refl
  shape_no_word (S.TwoFacts a b) h = refl
  shape_no_word (S.TwoIntegers a b) h = refl
  shape_no_word (S.OneWord w a) h = absurd (false≢true (sym h))
  shape_no_word (S.TwoWords w a x b) h = refl
  shape_no_word (S.WordInteger w a z) h = refl
  shape_no_word (S.IntegerWord z w a) h = refl
  shape_no_word (S.TwoIntegersWord y z w a) h = refl
  shape_no_word S.Others h = refl

  no_word : (of : List Operand) (s : Shape) → shape_of of ≡ s → is_of_word s ≡ false → is_word (operands_of v of) ≡ false
  no_word of s e h = elim (shaped v of) [ inl x ↦ other_no_word (operands_of v of) x.1 | inr y ↦ ap is_word (y ∙ ap (of_shape v) e) ∙ shape_no_word s h ]

  pub integer_plain : (o : D.Operator) (of : List Operand) (s : Shape) → shape_of of ≡ s → is_of_word s ≡ false → E.integer_from o (operands_of v of) ≡ M.integer_by o (operands_of v of)
  integer_plain o of s e h = integer_other o (operands_of v of) (no_word of s e h)

  pub shape_integer : (o : D.Operator) (of : List Operand) (s : Shape) → shape_of of ≡ s → is_others s ≡ false → E.integer_from o (operands_of v of) ≡ E.integer_from o (of_shape v s)
  shape_integer o of s e h = elim (shaped v of) [ inl x ↦ absurd (false≢true (sym h ∙ ap is_others (sym e) ∙ x.0)) | inr y ↦ ap (E.integer_from o) (y ∙ ap (of_shape v) e) ]

-- 3. cases of one value, and of none
module _ (v : Naming) (cs : Cases Form) where
  pub one_seen : (x : Form) → guarded v cs ≡ MF.one_case x → cases_of v cs ≡ MF.one_case (form_of v x)
  one_seen x e = ap (with_values (form_of v)) e

  pub nothing_seen : guarded v cs ≡ MF.nothing_said → cases_of v cs ≡ MF.nothing_said
  nothing_seen e = ap (with_values (form_of v)) e

  pub anything_seen : guarded v cs ≡ MF.anything → cases_of v cs ≡ MF.anything
  anything_seen e = ap (with_values (form_of v)) e

-- 4. cases under a guard, and joined
module _ (v : Naming) where
  pub under_seen : (g : M.Fact) (cs out : Cases Form) → guarded v out ≡ MF.under g (guarded v cs) → cases_of v out ≡ MF.under g (cases_of v cs)
  under_seen g cs out e = ap (with_values (form_of v)) e ∙ ap (λ l. record { cases = l; rest = M.both_of g (fact_of v cs.rest) }) (mapped_under (form_of v) g (guarded_each v cs.cases.items))

  pub joined_seen : (a b out : Cases Form) → guarded v out ≡ MF.joined_cases (guarded v a) (guarded v b) → cases_of v out ≡ MF.joined_cases (cases_of v a) (cases_of v b)
  joined_seen a b out e =
      ap (with_values (form_of v)) e
      ∙ ap (λ l. record { cases = l; rest = M.one_of (fact_of v a.rest) (fact_of v b.rest) }) (map-append (with_value (form_of v)) (guarded_each v a.cases.items) (guarded_each v b.cases.items))

-- 5. by each width
abbrev pub is_sized : Shape → Bool
is_sized (S.OneFact a) = false
is_sized (S.TwoFacts a b) = false
is_sized (S.TwoIntegers a b) = true
is_sized (S.OneWord w a) = false
is_sized (S.TwoWords w a x b) = false
is_sized (S.WordInteger w a z) = false
is_sized (S.IntegerWord z w a) = true
is_sized (S.TwoIntegersWord y z w a) = false
is_sized S.Others = false

abbrev takes_size : M.Operands → Bool
takes_size (M.integer_and z (M.integer_and y M.no_operand)) = true
takes_size (M.integer_and z (M.word_and w t M.no_operand)) = true
takes_size _ = false

size_other : (ws : List ℕ) (o : D.Operator) (of : M.Operands) → takes_size of ≡ false → E.by_size ws o of ≡ MF.anything
size_other ws D.as_word (M.integer_and z (M.integer_and y M.no_operand)) h = absurd (false≢true (sym h))
size_other ws D.widened (M.integer_and z (M.word_and w t M.no_operand)) h = absurd (false≢true (sym h))
size_other ws D.widened_signed (M.integer_and z (M.word_and w t M.no_operand)) h = absurd (false≢true (sym h))
size_other ws _ _ h = refl

other_no_size : (of : M.Operands) → is_other of ≡ true → takes_size of ≡ false
other_no_size (M.integer_and z (M.integer_and y M.no_operand)) h = absurd (false≢true h)
other_no_size (M.integer_and z (M.word_and w t M.no_operand)) h = absurd (false≢true h)
other_no_size _ h = refl

module _ (v : Naming) where
  shape_no_size : (s : Shape) → is_sized s ≡ false → takes_size (of_shape v s) ≡ false
  shape_no_size (S.OneFact a) h = refl
  shape_no_size (S.TwoFacts a b) h = refl
  shape_no_size (S.TwoIntegers a b) h = absurd (false≢true (sym h))
  shape_no_size (S.OneWord w a) h = refl
  shape_no_size (S.TwoWords w a x b) h = refl
  shape_no_size (S.WordInteger w a z) h = refl
  shape_no_size (S.IntegerWord z w a) h = absurd (false≢true (sym h))
  shape_no_size (S.TwoIntegersWord y z w a) h = refl
  shape_no_size S.Others h = refl

  no_size : (of : List Operand) (s : Shape) → shape_of of ≡ s → is_sized s ≡ false → takes_size (operands_of v of) ≡ false
  no_size of s e h = elim (shaped v of) [ inl x ↦ other_no_size (operands_of v of) x.1 | inr y ↦ ap takes_size (y ∙ ap (of_shape v) e) ∙ shape_no_size s h ]

  pub size_plain : (ws : List ℕ) (o : D.Operator) (of : List Operand) (s : Shape) → shape_of of ≡ s → is_sized s ≡ false → E.by_size ws o (operands_of v of) ≡ MF.anything
  size_plain ws o of s e h = size_other ws o (operands_of v of) (no_size of s e h)

  pub shape_size : (ws : List ℕ) (o : D.Operator) (of : List Operand) (s : Shape) → shape_of of ≡ s → is_others s ≡ false → E.by_size ws o (operands_of v of) ≡ E.by_size ws o (of_shape v s)
  shape_size ws o of s e h = elim (shaped v of) [ inl x ↦ absurd (false≢true (sym h ∙ ap is_others (sym e) ∙ x.0)) | inr y ↦ ap (E.by_size ws o) (y ∙ ap (of_shape v) e) ]

pub ruleset fact_steps = (fact_plain, shape_fact)

pub ruleset integer_steps = (integer_plain, shape_integer)

pub ruleset case_steps = (one_seen, nothing_seen, anything_seen)

pub ruleset under_steps = (under_seen, joined_seen)

pub ruleset size_steps = (size_plain, shape_size, anything_seen)
