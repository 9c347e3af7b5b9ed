-- Which definitions a text gives.
use Rattle.std.specs.Prelude.{◌≡◌, ℕ, ◌≤◌, true, List, [], codes, length, map, Result, Ok, Err, ⊤, if◌then◌else◌}
use Rattle.std.specs.Str.{chars}
use Rattle.model.specs.lists.Syntax.{Name, Definition, other_definition}
use Rattle.text_reader.specs.declared.errors.Mistake.TheVariants as M
use Rattle.text_reader.specs.Lexemes.{Lexeme, unknown, Wrong, ◌>>=◌, erased}
use Rattle.text_reader.specs.Lexing.{tokens_after}
use Rattle.text_reader.specs.Pieces.{Piece, AreIn, pieces_of}
use Rattle.text_reader.specs.Forming.{forms_of}
use Rattle.text_reader.specs.FormTrees.{FormTree, FormTrees, all_spelled, all_depth}
use Rattle.text_reader.specs.PassedOver.{passes_over, dashes_are_passed_over}
use Rattle.text_reader.specs.Grammar.{Listed, reads, each_of, headed_of}
use Rattle.text_reader.specs.TypeGrammar.{type_definition_of}
use Rattle.text_reader.specs.TermGrammar.{declaration_of, extractor_of, external_of, conversion_of}
use Rattle.text_reader.specs.RuleGrammar.{rule_of}

-- what a list is that begins with this word
abbrev pub defined_by : Name → Listed → Result Definition Wrong
defined_by head l =
    if reads head (codes "type") then type_definition_of l
    else if reads head (codes "decl") then declaration_of l
    else if reads head (codes "rule") then rule_of l
    else if reads head (codes "extractor") then extractor_of l
    else if reads head (codes "extern") then external_of l
    else if reads head (codes "convert") then conversion_of l
    else if passes_over head.text then Ok other_definition
    else Err (unknown head.text, head.at)

abbrev pub definition_of : FormTree → Result Definition Wrong
definition_of f = headed_of M.Definition f >>= (λ h. defined_by h.0 h.1)

abbrev pub definitions_of : FormTrees → Result (List Definition) Wrong
definitions_of fs = each_of definition_of fs

-- ---- what a text gives: its pieces give tokens, these give forms, and these give definitions. Or the first mistake among its
-- pieces; where they have none, that of its tokens, at a token or at the text's end; where they have none, that of its forms

abbrev pub tokens_in : (file : ℕ) → (text : List ℕ) → Result (List Lexeme) Wrong
tokens_in file text = tokens_after file 0 (pieces_of (chars text)) []

abbrev pub forms_in : (file : ℕ) → (text : List ℕ) → Result FormTrees Wrong
forms_in file text = tokens_in file text >>= forms_of file (length text)

-- whether a text has lists, of whatever
abbrev pub lists_in : (file : ℕ) → (text : List ℕ) → Result ⊤ Wrong
lists_in file text = forms_in file text >>= (λ _. Ok tt)

abbrev pub reading : (file : ℕ) → (text : List ℕ) → Result (List Definition) Wrong
reading file text = forms_in file text >>= definitions_of

-- which of the three has this mistake, where those before have none
abbrev pub IsOfTokens : (file : ℕ) → (text : List ℕ) → Wrong → Type 0
IsOfTokens file text w = tokens_in file text ≡ Err w

abbrev pub IsOfLists : (file : ℕ) → (text : List ℕ) → Wrong → Type 0
IsOfLists file text w = (ts : List Lexeme) × (tokens_in file text ≡ Ok ts) × (forms_of file (length text) ts ≡ Err w)

abbrev pub IsOfDefinitions : (file : ℕ) → (text : List ℕ) → Wrong → Type 0
IsOfDefinitions file text w = (fs : FormTrees) × (forms_in file text ≡ Ok fs) × (definitions_of fs ≡ Err w)

-- a text spells definitions: its pieces are tokens, these spell forms, and the definitions are what these forms are.
-- Lists and bindings nest 1,000 deep at most, and words that begin with `-` stand in forms that are passed over.
pub record Spells (file : ℕ) (text : List ℕ) (ds : List Definition) : Type 0 where
  pub pieces : List Piece
  pub are : AreIn 0 (chars text) pieces
  pub tokens : List Lexeme
  pub lexed : tokens_after file 0 pieces [] ≡ Ok tokens
  pub forms : FormTrees
  pub lists : all_spelled forms [] ≡ map erased tokens
  pub shallow : all_depth forms ≤ 1000
  pub dashes : dashes_are_passed_over forms ≡ true
  pub defined : definitions_of forms ≡ Ok ds
