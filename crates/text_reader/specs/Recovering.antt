-- What can be read of a text that can't be read whole: each chunk by itself, and each form of a chunk.
use Rattle.std.specs.Prelude.{ℕ, ◌+◌, List, [], ◌∷◌, ◌++◌, length, Result, Ok, Err}
use Rattle.std.specs.Str.{chars}
use Rattle.model.specs.lists.Syntax.{Definition}
use Rattle.text_reader.specs.Lexemes.{Lexeme, Wrong, ◌>>=◌}
use Rattle.text_reader.specs.Pieces.{pieces_from, size}
use Rattle.text_reader.specs.Lexing.{tokens_after}
use Rattle.text_reader.specs.FormTrees.{FormTrees, no_form, form_and}
use Rattle.text_reader.specs.Forming.{forms_of}
use Rattle.text_reader.specs.Definitions.{definition_of, reading}
use Rattle.text_reader.specs.Chunks.{Part, chunks_of}

-- definitions, and what is wrong with the forms that are none
pub record Recovery : Type 0 where
  pub definitions : List Definition
  pub mistakes : List Wrong

abbrev pub nothing : Recovery
nothing = record { definitions = []; mistakes = [] }

abbrev pub beside : Recovery → Recovery → Recovery
beside r s = record { definitions = r.definitions ++ s.definitions; mistakes = r.mistakes ++ s.mistakes }

-- one definition, or one mistake
abbrev pub one_of : Result Definition Wrong → Recovery
one_of (Ok d) = record { definitions = d ∷ []; mistakes = [] }
one_of (Err w) = record { definitions = []; mistakes = w ∷ [] }

-- forms, each by itself
abbrev pub each_by_itself : FormTrees → Recovery
each_by_itself no_form = nothing
each_by_itself (form_and f fs) = beside (one_of (definition_of f)) (each_by_itself fs)

abbrev pub of_forms : Result FormTrees Wrong → Recovery
of_forms (Ok fs) = each_by_itself fs
of_forms (Err w) = record { definitions = []; mistakes = w ∷ [] }

-- the tokens of a chunk, and its forms: those that its text has where it stands
abbrev pub tokens_of : (file : ℕ) → Part → Result (List Lexeme) Wrong
tokens_of file p = tokens_after file p.at (pieces_from (length p.text) p.at p.text) []

abbrev pub forms_in_part : (file : ℕ) → Part → Result FormTrees Wrong
forms_in_part file p = tokens_of file p >>= forms_of file (p.at + size p.text)

-- chunks, each by itself
abbrev pub of_parts : (file : ℕ) → List Part → Recovery
of_parts file [] = nothing
of_parts file (p ∷ ps) = beside (of_forms (forms_in_part file p)) (of_parts file ps)

abbrev pub whole_or : Result (List Definition) Wrong → Recovery → Recovery
whole_or (Ok ds) r = record { definitions = ds; mistakes = [] }
whole_or (Err w) r = r

-- what can be read of a text: all of it, or what its chunks give
abbrev pub recovering : (file : ℕ) → (text : List ℕ) → Recovery
recovering file text = whole_or (reading file text) (of_parts file (chunks_of (chars text)))
