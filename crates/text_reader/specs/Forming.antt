-- How the forms of tokens are read, one token at a time.
use Rattle.std.specs.Prelude.{ℕ, Bool, false, nat_le, List, [], ◌∷◌, length, Result, Ok, Err, if◌then◌else◌}
use Rattle.model.specs.lists.Syntax.{Position, Name}
use Rattle.text_reader.specs.declared.errors.Mistake.TheVariants as M
use Rattle.text_reader.specs.Lexemes.{Lexeme, begin_list, end_list, word, dash, binder, number, constant, unclosed, Wrong, ◌>>=◌}
use Rattle.text_reader.specs.FormTrees.{FormTree, a_word, a_number, a_constant, a_binding, a_list, FormTrees, no_form, form_and}
use Rattle.text_reader.specs.Grammar.{no}
use Rattle.text_reader.specs.PassedOver.{begins_passed_over}

-- what is begun: a list with its forms so far, or a name that is bound to what comes next
pub data Begun : Type 0 where
  a_group : (parts : FormTrees) (at : Position) → Begun
  a_binder : (name : Name) → Begun

-- the forms that are whole, and what is begun, the innermost first
abbrev pub FormsSoFar : Type 0
FormsSoFar = FormTrees × List Begun

-- forms, and one more
abbrev pub behind : FormTrees → FormTree → FormTrees
behind no_form f = form_and f no_form
behind (form_and g gs) f = form_and g (behind gs f)

-- one more whole form
abbrev pub put : FormTree → FormTrees → List Begun → FormsSoFar
put f fs [] = (behind fs f, [])
put f fs (a_binder n ∷ os) = put (a_binding n f) fs os
put f fs (a_group gs p ∷ os) = (fs, a_group (behind gs f) p ∷ os)

-- whether the outermost form that is begun is a list that is passed over
abbrev pub passes_begun : Begun → Bool
passes_begun (a_group gs p) = begins_passed_over gs
passes_begun (a_binder n) = false

abbrev pub passes : List Begun → Bool
passes [] = false
passes (o ∷ []) = passes_begun o
passes (o ∷ q ∷ os) = passes (q ∷ os)

-- one more form is begun, at a place
abbrev pub started : Begun → Position → FormTrees → List Begun → Result FormsSoFar Wrong
started o p fs os = if nat_le 1000 (length os) then no M.Depth p else Ok (fs, o ∷ os)

-- a list ends
abbrev pub ended : Position → FormTrees → List Begun → Result FormsSoFar Wrong
ended e fs [] = no M.ListBegin e
ended e fs (a_binder n ∷ os) = no M.BoundPattern e
ended e fs (a_group gs p ∷ os) = Ok (put (a_list gs p e) fs os)

abbrev pub dashed : Name → FormTrees → List Begun → Result FormsSoFar Wrong
dashed n fs os = if passes os then Ok (put (a_word n) fs os) else no M.Digits n.at

-- one more token
abbrev pub formed : Lexeme → FormTrees → List Begun → Result FormsSoFar Wrong
formed (begin_list p) fs os = started (a_group no_form p) p fs os
formed (end_list p) fs os = ended p fs os
formed (word n) fs os = Ok (put (a_word n) fs os)
formed (dash n) fs os = dashed n fs os
formed (binder n) fs os = started (a_binder n) n.at fs os
formed (number z p) fs os = Ok (put (a_number z p) fs os)
formed (constant n p) fs os = Ok (put (a_constant n p) fs os)

-- what is left begun at the text's end
abbrev pub whole : (file end : ℕ) → FormTrees → List Begun → Result FormTrees Wrong
whole file end fs [] = Ok fs
whole file end fs (a_group gs p ∷ os) = Err (unclosed p, record { file = file; offset = end })
whole file end fs (a_binder n ∷ os) = no M.BoundPattern n.at

-- the forms of tokens, from here on
abbrev pub forms_from : (file end : ℕ) → List Lexeme → FormTrees → List Begun → Result FormTrees Wrong
forms_from file end [] fs os = whole file end fs os
forms_from file end (t ∷ ts) fs os = formed t fs os >>= (λ s. forms_from file end ts s.0 s.1)

abbrev pub forms_of : (file end : ℕ) → List Lexeme → Result FormTrees Wrong
forms_of file end ts = forms_from file end ts no_form []
