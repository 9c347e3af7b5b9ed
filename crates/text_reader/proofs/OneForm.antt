-- Tokens spell one list of forms.
use Rattle.std.proofs.Common.{◌≡◌, ℕ, List, [], ◌∷◌, refl, sym, ap, ◌∙◌, arith}
use Rattle.std.proofs.lemmas.Grind.{common_steps}
use Rattle.text_reader.specs.Lexemes.{Lexeme, begin_list, end_list, word, dash, binder, number, constant}
use Rattle.text_reader.specs.FormTrees.{FormTree, a_word, a_number, a_constant, a_binding, a_list, FormTrees, no_form, form_and, spelled, all_spelled}

-- what a token isn't
abbrev pub begins : Lexeme → ℕ
begins (begin_list p) = 1
begins (end_list p) = 2
begins (word n) = 0
begins (dash n) = 0
begins (binder n) = 3
begins (number z p) = 4
begins (constant n p) = 5

abbrev head_is : List Lexeme → ℕ
head_is [] = 9
head_is (t ∷ ts) = begins t

-- what follows a list of forms: nothing, or the end of a list
abbrev pub Stops : List Lexeme → Type 0
Stops [] = Unit {0}
Stops (t ∷ ts) = begins t ≡ 2

no_stop : (a : List Lexeme) (g : FormTree) (b : List Lexeme) → Stops a → a ≡ spelled g b → ⊥
no_stop [] (a_word n) b s e = absurd (cc e)
no_stop [] (a_number z p) b s e = absurd (cc e)
no_stop [] (a_constant n p) b s e = absurd (cc e)
no_stop [] (a_binding n g) b s e = absurd (cc e)
no_stop [] (a_list gs p q) b s e = absurd (cc e)
no_stop (t ∷ ts) (a_word n) b s e = absurd (cc (sym s ∙ ap head_is e))
no_stop _ _ b s e = absurd (cc (sym s ∙ ap head_is e))

mutual
  one_form : (f g : FormTree) (a b : List Lexeme) → spelled f a ≡ spelled g b → (f ≡ g) × (a ≡ b)
  one_form (a_word m) (a_word n) a b e = (cc e, cc e)
  one_form (a_number z p) (a_number y q) a b e = (cc e, cc e)
  one_form (a_constant m p) (a_constant n q) a b e = (cc e, cc e)
  one_form (a_binding m f) (a_binding n g) a b e = let h = one_form f g a b (cc e) in (cc (h.0, e), h.1)
  one_form (a_list fs p q) (a_list gs r s) a b e = let h = one_list fs gs (end_list q ∷ a) (end_list s ∷ b) refl refl (cc e) in (cc (h.0, h.1, e), cc h.1)
  one_form _ _ a b e = absurd (cc e)

  pub one_list : (fs gs : FormTrees) (a b : List Lexeme) → Stops a → Stops b → all_spelled fs a ≡ all_spelled gs b → (fs ≡ gs) × (a ≡ b)
  one_list no_form no_form a b s t e = (refl, e)
  one_list no_form (form_and g gs) a b s t e = absurd (no_stop a g (all_spelled gs b) s e)
  one_list (form_and f fs) no_form a b s t e = absurd (no_stop b f (all_spelled fs a) t (sym e))
  one_list (form_and f fs) (form_and g gs) a b s t e = grind (arith, common_steps, one_form f g (all_spelled fs a) (all_spelled gs b) e, one_list fs gs a b s t)

-- tokens spell one list of forms
pub one_reading : (fs gs : FormTrees) → all_spelled fs [] ≡ all_spelled gs [] → fs ≡ gs
one_reading fs gs e = (one_list fs gs [] [] tt tt e).0
