-- What is read of a text is what reading it gives.
use Rattle.std.proofs.Common.{◌≡◌, ℕ, List, refl, ap, ◌∙◌, subst, Vec, arith}
use Rattle.std.specs.Prelude.{Result, Ok, IfOk}
use Rattle.std.specs.declared.alloc.Global.{Global}
use Rattle.std.proofs.lemmas.Grind.{common_steps}
use Rattle.model.specs.lists.Syntax.{Definition}
use Rattle.core_syntax.specs.declared.syntax.Def.{Def}
use Rattle.core_syntax.specs.SyntaxViews.{definition_views}
use Rattle.text_reader.specs.declared.errors.ReadFault.{ReadFault}
use Rattle.text_reader.specs.Lexemes.{Wrong, ◌>>=◌}
use Rattle.text_reader.specs.Lexing.{Tokens}
use Rattle.text_reader.specs.FormTrees.{FormTrees}
use Rattle.text_reader.specs.Forming.{forms_of}
use Rattle.text_reader.specs.Views.{Fails, Gives}
use Rattle.text_reader.specs.Definitions.{Spells, reading}
use Rattle.text_reader.proofs.Running.{fails}
use Rattle.text_reader.proofs.Spelled.{spelled_if_given, given_if_spelled}

abbrev view : Vec Def Global → List Definition
view ds = definition_views ds.items

-- what is made of the forms of a text
module _ {A : Type 0} (file end : ℕ) (lexed : Result Tokens Wrong) (made : FormTrees → Result A Wrong) where
  abbrev Whole : Result A Wrong
  Whole = (lexed >>= forms_of file end) >>= made

  -- a mistake of the tokens
  pub no_tokens : (fault : ReadFault) → Fails fault lexed → Fails fault Whole
  no_tokens fault h = fails fault (lexed >>= forms_of file end) made Whole refl (fails fault lexed (forms_of file end) _ refl h)

  module _ (tokens : Tokens) (lexed_is : lexed ≡ Ok tokens) where
    -- a mistake of the forms
    pub no_forms : (fault : ReadFault) → Fails fault (forms_of file end tokens) → Fails fault Whole
    no_forms fault h = grind (arith, common_steps, fails)

    pub made_of_forms : (forms : FormTrees) → forms_of file end tokens ≡ Ok forms → Whole ≡ made forms
    made_of_forms forms formed = ap (λ r. (r >>= forms_of file end) >>= made) lexed_is ∙ ap (λ r. r >>= made) formed

-- then it is what the text spells, and the only thing
module _ (file : ℕ) (text : List ℕ) (result : Result (Vec Def Global) ReadFault) where
  pub found_if_exact : Gives view result (reading file text) → IfOk result (λ ds. Spells file text (view ds))
  found_if_exact = grind (arith, common_steps, spelled_if_given)

  pub only_if_exact : Gives view result (reading file text) → (ds : List Definition) → Spells file text ds → Gives view result (Ok ds)
  only_if_exact h ds s = subst (Gives view result) (given_if_spelled file text ds s) h
