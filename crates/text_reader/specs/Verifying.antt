-- What a text says for a verifier.
use Rattle.std.specs.Prelude.{ℕ, suc, true, false, List, [], ◌∷◌, ◌++◌, codes, Option, Some, None, Result, Ok, if◌then◌else◌}
use Rattle.model.specs.lists.Syntax.{Name}
use Rattle.text_reader.specs.declared.errors.Mistake.TheVariants as M
use Rattle.text_reader.specs.Lexemes.{Wrong, ◌>>=◌}
use Rattle.text_reader.specs.FormTrees.{FormTree, FormTrees, no_form, form_and}
use Rattle.text_reader.specs.PassedOver.{is_passed_over}
use Rattle.text_reader.specs.Definitions.{forms_in}
use Rattle.text_reader.specs.Grammar.{Listed, reads, headed_of}
use Rattle.text_reader.specs.SpecTrees.{VerificationTree, a_spec, a_model, a_form, an_instantiation, an_attr, a_state, a_macro, a_pragma}
use Rattle.text_reader.specs.SpecGrammar.{model_of, form_of, instantiation_of, attr_of, state_of, macro_of}
use Rattle.text_reader.specs.TermSpecGrammar.{spec_of}

-- what a list is that begins with this word, one of those that definitions are passed over by
abbrev pub said_by : Name → Listed → Result VerificationTree Wrong
said_by head l =
    if reads head (codes "spec") then (spec_of l >>= (λ s. Ok (a_spec s)))
    else if reads head (codes "model") then (model_of l >>= (λ m. Ok (a_model m)))
    else if reads head (codes "form") then (form_of l >>= (λ f. Ok (a_form f)))
    else if reads head (codes "instantiate") then (instantiation_of l >>= (λ i. Ok (an_instantiation i)))
    else if reads head (codes "attr") then (attr_of l >>= (λ a. Ok (an_attr a)))
    else if reads head (codes "state") then (state_of l >>= (λ s. Ok (a_state s)))
    else if reads head (codes "macro") then (macro_of false l >>= (λ m. Ok (a_macro m)))
    else if reads head (codes "spec_macro") then (macro_of true l >>= (λ m. Ok (a_macro m)))
    else Ok (a_pragma l.at)

abbrev pub verification_of : FormTree → Result VerificationTree Wrong
verification_of f = headed_of M.Definition f >>= (λ h. said_by h.0 h.1)

-- what a form says: nothing, if definitions are read of it
abbrev pub said_of : FormTree → Result (Option VerificationTree) Wrong
said_of f = if is_passed_over f then (verification_of f >>= (λ v. Ok (Some v))) else Ok None

-- what the form of this number says
abbrev pub numbered : ℕ → Option VerificationTree → List (ℕ × VerificationTree)
numbered n None = []
numbered n (Some v) = (n, v) ∷ []

-- what forms say, the first of which has this number
abbrev pub said_from : ℕ → FormTrees → Result (List (ℕ × VerificationTree)) Wrong
said_from n no_form = Ok []
said_from n (form_and f fs) = said_of f >>= (λ v. said_from (suc n) fs >>= (λ vs. Ok (numbered n v ++ vs)))

-- what a text says: its tokens, then its lists, then these; or the first mistake
abbrev pub verification_in : (file : ℕ) → (text : List ℕ) → Result (List (ℕ × VerificationTree)) Wrong
verification_in file text = forms_in file text >>= said_from 0
