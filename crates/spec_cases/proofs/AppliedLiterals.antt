-- Operators on literals, by their shape.
use Rattle.std.proofs.Common.{◌≡◌, pos, negsuc, Bool, true, false, List, [], ◌∷◌, None, ◌⊎◌, inl, inr, refl, sym, ap, ◌∙◌}
use Rattle.std.proofs.lemmas.Bool.{false≢true}
use Rattle.laws_specs.specs.Words as D
use Rattle.spec_cases.specs.declared.literals.Literal.{Literal}
use Rattle.spec_cases.specs.declared.literals.Literal.TheVariants as T
use Rattle.spec_cases.specs.declared.literals.LiteralShape.{LiteralShape}
use Rattle.spec_cases.specs.declared.literals.LiteralShape.TheVariants as S
use Rattle.spec_cases.specs.Literals.{literal_views, literal_shape, of_literals}

abbrev pub is_others : LiteralShape → Bool
is_others S.Others = true
is_others (S.OneTruth a) = false
is_others (S.TwoTruths a b) = false
is_others (S.TwoIntegers y z) = false
is_others (S.OneWord w a) = false
is_others (S.TwoWords w a x b) = false
is_others (S.WordInteger w a z) = false
is_others (S.IntegerWord z w a) = false
is_others (S.TwoIntegersWord y z w a) = false

-- values without parts that no operator asks for
abbrev pub is_other : D.DenotedList → Bool
is_other D.no_denoted = true
is_other (D.denoted_and (D.an_integer z) D.no_denoted) = true
is_other (D.denoted_and (D.a_truth a) (D.denoted_and (D.an_integer z) D.no_denoted)) = true
is_other (D.denoted_and (D.a_truth a) (D.denoted_and (D.a_word w n) D.no_denoted)) = true
is_other (D.denoted_and (D.an_integer z) (D.denoted_and (D.a_truth a) D.no_denoted)) = true
is_other (D.denoted_and (D.a_word w n) (D.denoted_and (D.a_truth a) D.no_denoted)) = true
is_other (D.denoted_and x (D.denoted_and y (D.denoted_and u (D.denoted_and t more)))) = true
is_other (D.denoted_and x (D.denoted_and y (D.denoted_and (D.a_truth a) D.no_denoted))) = true
is_other (D.denoted_and x (D.denoted_and y (D.denoted_and (D.an_integer a) D.no_denoted))) = true
is_other (D.denoted_and x (D.denoted_and (D.a_truth a) (D.denoted_and (D.a_word w n) D.no_denoted))) = true
is_other (D.denoted_and x (D.denoted_and (D.a_word v m) (D.denoted_and (D.a_word w n) D.no_denoted))) = true
is_other (D.denoted_and (D.a_truth a) (D.denoted_and (D.an_integer z) (D.denoted_and (D.a_word w n) D.no_denoted))) = true
is_other (D.denoted_and (D.a_word v m) (D.denoted_and (D.an_integer z) (D.denoted_and (D.a_word w n) D.no_denoted))) = true
is_other _ = false

-- of such an operator gives nothing
applied_other : (o : D.Operator) (xs : D.DenotedList) → is_other xs ≡ true → D.applied_to o xs ≡ None
applied_other D.both (D.denoted_and (D.a_truth a0) (D.denoted_and (D.a_truth a1) D.no_denoted)) h = absurd (false≢true h)
applied_other D.one_of (D.denoted_and (D.a_truth a0) (D.denoted_and (D.a_truth a1) D.no_denoted)) h = absurd (false≢true h)
applied_other D.implied (D.denoted_and (D.a_truth a0) (D.denoted_and (D.a_truth a1) D.no_denoted)) h = absurd (false≢true h)
applied_other D.negation (D.denoted_and (D.a_truth a0) D.no_denoted) h = absurd (false≢true h)
applied_other D.less (D.denoted_and (D.an_integer a0) (D.denoted_and (D.an_integer a1) D.no_denoted)) h = absurd (false≢true h)
applied_other D.less_or_equal (D.denoted_and (D.an_integer a0) (D.denoted_and (D.an_integer a1) D.no_denoted)) h = absurd (false≢true h)
applied_other D.plus (D.denoted_and (D.an_integer a0) (D.denoted_and (D.an_integer a1) D.no_denoted)) h = absurd (false≢true h)
applied_other D.minus (D.denoted_and (D.an_integer a0) (D.denoted_and (D.an_integer a1) D.no_denoted)) h = absurd (false≢true h)
applied_other D.times (D.denoted_and (D.an_integer a0) (D.denoted_and (D.an_integer a1) D.no_denoted)) h = absurd (false≢true h)
applied_other D.as_word (D.denoted_and (D.an_integer a0) (D.denoted_and (D.an_integer a1) D.no_denoted)) h = absurd (false≢true h)
applied_other D.word_plus (D.denoted_and (D.a_word w0 a0) (D.denoted_and (D.a_word w1 a1) D.no_denoted)) h = absurd (false≢true h)
applied_other D.word_minus (D.denoted_and (D.a_word w0 a0) (D.denoted_and (D.a_word w1 a1) D.no_denoted)) h = absurd (false≢true h)
applied_other D.word_times (D.denoted_and (D.a_word w0 a0) (D.denoted_and (D.a_word w1 a1) D.no_denoted)) h = absurd (false≢true h)
applied_other D.word_quotient (D.denoted_and (D.a_word w0 a0) (D.denoted_and (D.a_word w1 a1) D.no_denoted)) h = absurd (false≢true h)
applied_other D.word_remainder (D.denoted_and (D.a_word w0 a0) (D.denoted_and (D.a_word w1 a1) D.no_denoted)) h = absurd (false≢true h)
applied_other D.signed_quotient (D.denoted_and (D.a_word w0 a0) (D.denoted_and (D.a_word w1 a1) D.no_denoted)) h = absurd (false≢true h)
applied_other D.signed_remainder (D.denoted_and (D.a_word w0 a0) (D.denoted_and (D.a_word w1 a1) D.no_denoted)) h = absurd (false≢true h)
applied_other D.word_and (D.denoted_and (D.a_word w0 a0) (D.denoted_and (D.a_word w1 a1) D.no_denoted)) h = absurd (false≢true h)
applied_other D.word_or (D.denoted_and (D.a_word w0 a0) (D.denoted_and (D.a_word w1 a1) D.no_denoted)) h = absurd (false≢true h)
applied_other D.word_xor (D.denoted_and (D.a_word w0 a0) (D.denoted_and (D.a_word w1 a1) D.no_denoted)) h = absurd (false≢true h)
applied_other D.shifted_left (D.denoted_and (D.a_word w0 a0) (D.denoted_and (D.a_word w1 a1) D.no_denoted)) h = absurd (false≢true h)
applied_other D.shifted_right (D.denoted_and (D.a_word w0 a0) (D.denoted_and (D.a_word w1 a1) D.no_denoted)) h = absurd (false≢true h)
applied_other D.shifted_right_signed (D.denoted_and (D.a_word w0 a0) (D.denoted_and (D.a_word w1 a1) D.no_denoted)) h = absurd (false≢true h)
applied_other D.rotated_left (D.denoted_and (D.a_word w0 a0) (D.denoted_and (D.a_word w1 a1) D.no_denoted)) h = absurd (false≢true h)
applied_other D.rotated_right (D.denoted_and (D.a_word w0 a0) (D.denoted_and (D.a_word w1 a1) D.no_denoted)) h = absurd (false≢true h)
applied_other D.word_less (D.denoted_and (D.a_word w0 a0) (D.denoted_and (D.a_word w1 a1) D.no_denoted)) h = absurd (false≢true h)
applied_other D.word_less_or_equal (D.denoted_and (D.a_word w0 a0) (D.denoted_and (D.a_word w1 a1) D.no_denoted)) h = absurd (false≢true h)
applied_other D.signed_less (D.denoted_and (D.a_word w0 a0) (D.denoted_and (D.a_word w1 a1) D.no_denoted)) h = absurd (false≢true h)
applied_other D.signed_less_or_equal (D.denoted_and (D.a_word w0 a0) (D.denoted_and (D.a_word w1 a1) D.no_denoted)) h = absurd (false≢true h)
applied_other D.joined (D.denoted_and (D.a_word w0 a0) (D.denoted_and (D.a_word w1 a1) D.no_denoted)) h = absurd (false≢true h)
applied_other D.word_not (D.denoted_and (D.a_word w0 a0) D.no_denoted) h = absurd (false≢true h)
applied_other D.word_negated (D.denoted_and (D.a_word w0 a0) D.no_denoted) h = absurd (false≢true h)
applied_other D.as_integer (D.denoted_and (D.a_word w0 a0) D.no_denoted) h = absurd (false≢true h)
applied_other D.width_of (D.denoted_and (D.a_word w0 a0) D.no_denoted) h = absurd (false≢true h)
applied_other D.rotated_left (D.denoted_and (D.a_word w0 a0) (D.denoted_and (D.an_integer a1) D.no_denoted)) h = absurd (false≢true h)
applied_other D.rotated_right (D.denoted_and (D.a_word w0 a0) (D.denoted_and (D.an_integer a1) D.no_denoted)) h = absurd (false≢true h)
applied_other D.bits (D.denoted_and (D.an_integer a0) (D.denoted_and (D.an_integer a1) (D.denoted_and (D.a_word w2 a2) D.no_denoted))) h = absurd (false≢true h)
applied_other D.widened (D.denoted_and (D.an_integer a0) (D.denoted_and (D.a_word w1 a1) D.no_denoted)) h = absurd (false≢true h)
applied_other D.widened_signed (D.denoted_and (D.an_integer a0) (D.denoted_and (D.a_word w1 a1) D.no_denoted)) h = absurd (false≢true h)
applied_other D.equals (D.denoted_and (D.a_truth a0) (D.denoted_and (D.a_truth a1) D.no_denoted)) h = absurd (false≢true h)
applied_other D.equals (D.denoted_and (D.a_truth a0) (D.denoted_and (D.an_integer a1) D.no_denoted)) h = refl
applied_other D.equals (D.denoted_and (D.a_truth a0) (D.denoted_and (D.a_word w1 a1) D.no_denoted)) h = refl
applied_other D.equals (D.denoted_and (D.an_integer a0) (D.denoted_and (D.a_truth a1) D.no_denoted)) h = refl
applied_other D.equals (D.denoted_and (D.an_integer a0) (D.denoted_and (D.an_integer a1) D.no_denoted)) h = absurd (false≢true h)
applied_other D.equals (D.denoted_and (D.an_integer a0) (D.denoted_and (D.a_word w1 a1) D.no_denoted)) h = refl
applied_other D.equals (D.denoted_and (D.a_word w0 a0) (D.denoted_and (D.a_truth a1) D.no_denoted)) h = refl
applied_other D.equals (D.denoted_and (D.a_word w0 a0) (D.denoted_and (D.an_integer a1) D.no_denoted)) h = refl
applied_other D.equals (D.denoted_and (D.a_word w0 a0) (D.denoted_and (D.a_word w1 a1) D.no_denoted)) h = absurd (false≢true h)
applied_other D.equals (D.denoted_and (D.variant_of ty i fields) (D.denoted_and y D.no_denoted)) h = absurd (false≢true h)
applied_other D.equals (D.denoted_and (D.struct_of ty fields) (D.denoted_and y D.no_denoted)) h = absurd (false≢true h)
applied_other D.equals (D.denoted_and x (D.denoted_and (D.variant_of ty i fields) D.no_denoted)) h = absurd (false≢true h)
applied_other D.equals (D.denoted_and x (D.denoted_and (D.struct_of ty fields) D.no_denoted)) h = absurd (false≢true h)
applied_other (D.field i) (D.denoted_and (D.struct_of ty fields) D.no_denoted) h = absurd (false≢true h)
applied_other D.bits (D.denoted_and (D.an_integer (pos n)) (D.denoted_and (D.an_integer (pos m)) rest)) h = refl
applied_other D.bits (D.denoted_and (D.an_integer (pos n)) (D.denoted_and (D.an_integer (negsuc m)) rest)) h = refl
applied_other D.bits (D.denoted_and (D.an_integer (pos n)) rest) h = refl
applied_other D.bits (D.denoted_and (D.an_integer (negsuc n)) rest) h = refl
applied_other D.widened (D.denoted_and (D.an_integer (pos n)) rest) h = refl
applied_other D.widened (D.denoted_and (D.an_integer (negsuc n)) rest) h = refl
applied_other D.widened_signed (D.denoted_and (D.an_integer (pos n)) rest) h = refl
applied_other D.widened_signed (D.denoted_and (D.an_integer (negsuc n)) rest) h = refl
applied_other D.as_word (D.denoted_and (D.an_integer (pos n)) rest) h = refl
applied_other D.as_word (D.denoted_and (D.an_integer (negsuc n)) rest) h = refl
applied_other _ _ h = refl

-- literals are those of their shape
shaped : (l : List Literal) → ((is_others (literal_shape l) ≡ true) × (is_other (literal_views l) ≡ true)) ⊎ (literal_views l ≡ of_literals (literal_shape l))
shaped [] = inl (refl, refl)
shaped ((T.Truth a0) ∷ []) = inr refl
shaped ((T.Integer z0) ∷ []) = inl (refl, refl)
shaped ((T.Word w0 n0) ∷ []) = inr refl
shaped ((T.Truth a0) ∷ ((T.Truth a1) ∷ [])) = inr refl
shaped ((T.Truth a0) ∷ ((T.Integer z1) ∷ [])) = inl (refl, refl)
shaped ((T.Truth a0) ∷ ((T.Word w1 n1) ∷ [])) = inl (refl, refl)
shaped ((T.Integer z0) ∷ ((T.Truth a1) ∷ [])) = inl (refl, refl)
shaped ((T.Integer z0) ∷ ((T.Integer z1) ∷ [])) = inr refl
shaped ((T.Integer z0) ∷ ((T.Word w1 n1) ∷ [])) = inr refl
shaped ((T.Word w0 n0) ∷ ((T.Truth a1) ∷ [])) = inl (refl, refl)
shaped ((T.Word w0 n0) ∷ ((T.Integer z1) ∷ [])) = inr refl
shaped ((T.Word w0 n0) ∷ ((T.Word w1 n1) ∷ [])) = inr refl
shaped ((T.Truth a0) ∷ ((T.Truth a1) ∷ ((T.Truth a2) ∷ []))) = inl (refl, refl)
shaped ((T.Truth a0) ∷ ((T.Truth a1) ∷ ((T.Integer z2) ∷ []))) = inl (refl, refl)
shaped ((T.Truth a0) ∷ ((T.Truth a1) ∷ ((T.Word w2 n2) ∷ []))) = inl (refl, refl)
shaped ((T.Truth a0) ∷ ((T.Integer z1) ∷ ((T.Truth a2) ∷ []))) = inl (refl, refl)
shaped ((T.Truth a0) ∷ ((T.Integer z1) ∷ ((T.Integer z2) ∷ []))) = inl (refl, refl)
shaped ((T.Truth a0) ∷ ((T.Integer z1) ∷ ((T.Word w2 n2) ∷ []))) = inl (refl, refl)
shaped ((T.Truth a0) ∷ ((T.Word w1 n1) ∷ ((T.Truth a2) ∷ []))) = inl (refl, refl)
shaped ((T.Truth a0) ∷ ((T.Word w1 n1) ∷ ((T.Integer z2) ∷ []))) = inl (refl, refl)
shaped ((T.Truth a0) ∷ ((T.Word w1 n1) ∷ ((T.Word w2 n2) ∷ []))) = inl (refl, refl)
shaped ((T.Integer z0) ∷ ((T.Truth a1) ∷ ((T.Truth a2) ∷ []))) = inl (refl, refl)
shaped ((T.Integer z0) ∷ ((T.Truth a1) ∷ ((T.Integer z2) ∷ []))) = inl (refl, refl)
shaped ((T.Integer z0) ∷ ((T.Truth a1) ∷ ((T.Word w2 n2) ∷ []))) = inl (refl, refl)
shaped ((T.Integer z0) ∷ ((T.Integer z1) ∷ ((T.Truth a2) ∷ []))) = inl (refl, refl)
shaped ((T.Integer z0) ∷ ((T.Integer z1) ∷ ((T.Integer z2) ∷ []))) = inl (refl, refl)
shaped ((T.Integer z0) ∷ ((T.Integer z1) ∷ ((T.Word w2 n2) ∷ []))) = inr refl
shaped ((T.Integer z0) ∷ ((T.Word w1 n1) ∷ ((T.Truth a2) ∷ []))) = inl (refl, refl)
shaped ((T.Integer z0) ∷ ((T.Word w1 n1) ∷ ((T.Integer z2) ∷ []))) = inl (refl, refl)
shaped ((T.Integer z0) ∷ ((T.Word w1 n1) ∷ ((T.Word w2 n2) ∷ []))) = inl (refl, refl)
shaped ((T.Word w0 n0) ∷ ((T.Truth a1) ∷ ((T.Truth a2) ∷ []))) = inl (refl, refl)
shaped ((T.Word w0 n0) ∷ ((T.Truth a1) ∷ ((T.Integer z2) ∷ []))) = inl (refl, refl)
shaped ((T.Word w0 n0) ∷ ((T.Truth a1) ∷ ((T.Word w2 n2) ∷ []))) = inl (refl, refl)
shaped ((T.Word w0 n0) ∷ ((T.Integer z1) ∷ ((T.Truth a2) ∷ []))) = inl (refl, refl)
shaped ((T.Word w0 n0) ∷ ((T.Integer z1) ∷ ((T.Integer z2) ∷ []))) = inl (refl, refl)
shaped ((T.Word w0 n0) ∷ ((T.Integer z1) ∷ ((T.Word w2 n2) ∷ []))) = inl (refl, refl)
shaped ((T.Word w0 n0) ∷ ((T.Word w1 n1) ∷ ((T.Truth a2) ∷ []))) = inl (refl, refl)
shaped ((T.Word w0 n0) ∷ ((T.Word w1 n1) ∷ ((T.Integer z2) ∷ []))) = inl (refl, refl)
shaped ((T.Word w0 n0) ∷ ((T.Word w1 n1) ∷ ((T.Word w2 n2) ∷ []))) = inl (refl, refl)
shaped ((T.Truth a0) ∷ ((T.Truth a1) ∷ ((T.Truth a2) ∷ (x ∷ more)))) = inl (refl, refl)
shaped ((T.Truth a0) ∷ ((T.Truth a1) ∷ ((T.Integer z2) ∷ (x ∷ more)))) = inl (refl, refl)
shaped ((T.Truth a0) ∷ ((T.Truth a1) ∷ ((T.Word w2 n2) ∷ (x ∷ more)))) = inl (refl, refl)
shaped ((T.Truth a0) ∷ ((T.Integer z1) ∷ ((T.Truth a2) ∷ (x ∷ more)))) = inl (refl, refl)
shaped ((T.Truth a0) ∷ ((T.Integer z1) ∷ ((T.Integer z2) ∷ (x ∷ more)))) = inl (refl, refl)
shaped ((T.Truth a0) ∷ ((T.Integer z1) ∷ ((T.Word w2 n2) ∷ (x ∷ more)))) = inl (refl, refl)
shaped ((T.Truth a0) ∷ ((T.Word w1 n1) ∷ ((T.Truth a2) ∷ (x ∷ more)))) = inl (refl, refl)
shaped ((T.Truth a0) ∷ ((T.Word w1 n1) ∷ ((T.Integer z2) ∷ (x ∷ more)))) = inl (refl, refl)
shaped ((T.Truth a0) ∷ ((T.Word w1 n1) ∷ ((T.Word w2 n2) ∷ (x ∷ more)))) = inl (refl, refl)
shaped ((T.Integer z0) ∷ ((T.Truth a1) ∷ ((T.Truth a2) ∷ (x ∷ more)))) = inl (refl, refl)
shaped ((T.Integer z0) ∷ ((T.Truth a1) ∷ ((T.Integer z2) ∷ (x ∷ more)))) = inl (refl, refl)
shaped ((T.Integer z0) ∷ ((T.Truth a1) ∷ ((T.Word w2 n2) ∷ (x ∷ more)))) = inl (refl, refl)
shaped ((T.Integer z0) ∷ ((T.Integer z1) ∷ ((T.Truth a2) ∷ (x ∷ more)))) = inl (refl, refl)
shaped ((T.Integer z0) ∷ ((T.Integer z1) ∷ ((T.Integer z2) ∷ (x ∷ more)))) = inl (refl, refl)
shaped ((T.Integer z0) ∷ ((T.Integer z1) ∷ ((T.Word w2 n2) ∷ (x ∷ more)))) = inl (refl, refl)
shaped ((T.Integer z0) ∷ ((T.Word w1 n1) ∷ ((T.Truth a2) ∷ (x ∷ more)))) = inl (refl, refl)
shaped ((T.Integer z0) ∷ ((T.Word w1 n1) ∷ ((T.Integer z2) ∷ (x ∷ more)))) = inl (refl, refl)
shaped ((T.Integer z0) ∷ ((T.Word w1 n1) ∷ ((T.Word w2 n2) ∷ (x ∷ more)))) = inl (refl, refl)
shaped ((T.Word w0 n0) ∷ ((T.Truth a1) ∷ ((T.Truth a2) ∷ (x ∷ more)))) = inl (refl, refl)
shaped ((T.Word w0 n0) ∷ ((T.Truth a1) ∷ ((T.Integer z2) ∷ (x ∷ more)))) = inl (refl, refl)
shaped ((T.Word w0 n0) ∷ ((T.Truth a1) ∷ ((T.Word w2 n2) ∷ (x ∷ more)))) = inl (refl, refl)
shaped ((T.Word w0 n0) ∷ ((T.Integer z1) ∷ ((T.Truth a2) ∷ (x ∷ more)))) = inl (refl, refl)
shaped ((T.Word w0 n0) ∷ ((T.Integer z1) ∷ ((T.Integer z2) ∷ (x ∷ more)))) = inl (refl, refl)
shaped ((T.Word w0 n0) ∷ ((T.Integer z1) ∷ ((T.Word w2 n2) ∷ (x ∷ more)))) = inl (refl, refl)
shaped ((T.Word w0 n0) ∷ ((T.Word w1 n1) ∷ ((T.Truth a2) ∷ (x ∷ more)))) = inl (refl, refl)
shaped ((T.Word w0 n0) ∷ ((T.Word w1 n1) ∷ ((T.Integer z2) ∷ (x ∷ more)))) = inl (refl, refl)
shaped ((T.Word w0 n0) ∷ ((T.Word w1 n1) ∷ ((T.Word w2 n2) ∷ (x ∷ more)))) = inl (refl, refl)

-- by the shape
pub shape_applied : (o : D.Operator) (l : List Literal) (s : LiteralShape) → literal_shape l ≡ s → is_others s ≡ false → D.applied_to o (literal_views l) ≡ D.applied_to o (of_literals s)
shape_applied o l s e h = elim (shaped l) [ inl x ↦ absurd (false≢true (sym h ∙ ap is_others (sym e) ∙ x.0)) | inr y ↦ ap (D.applied_to o) (y ∙ ap of_literals e) ]

pub others_applied : (o : D.Operator) (l : List Literal) → literal_shape l ≡ S.Others → D.applied_to o (literal_views l) ≡ None
others_applied o l e = applied_other o (literal_views l) (elim (shaped l) [ inl x ↦ x.1 | inr y ↦ ap is_other (y ∙ ap of_literals e) ])

pub ruleset applied_steps = (shape_applied, others_applied)
