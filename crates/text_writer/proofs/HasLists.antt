-- A text that has lists has tokens, and a layout.
use Rattle.std.proofs.Common.{◌≡◌, ℕ, List, [], sym, ap, ◌∙◌, arith}
use Rattle.std.specs.Prelude.{Result, Ok, ⊤}
use Rattle.std.specs.Str.{chars}
use Rattle.std.proofs.lemmas.Grind.{common_steps}
use Rattle.text_reader.specs.Definitions.{lists_in, tokens_in}
use Rattle.text_reader.specs.FormTrees.{FormTrees}
use Rattle.text_reader.specs.Lexemes.{Wrong, ◌>>=◌}
use Rattle.text_reader.specs.Lexing.{Tokens, tokens_after}
use Rattle.text_reader.specs.Pieces.{Piece, AreIn, pieces_of}
use Rattle.text_reader.specs.Solid.{stripped}
use Rattle.text_writer.specs.Layouts.{layout_in}
use Rattle.text_writer.specs.declared.lists.Indentation.{Indentation}
use Rattle.text_writer.specs.Pages.{laid, text_of}

abbrev fine : Result ⊤ Wrong
fine = Ok tt

pub had_tokens : (r : Result Tokens Wrong) (f : Tokens → Result FormTrees Wrong) → ((r >>= f) >>= (λ _. fine)) ≡ fine → (ts : Tokens) × (r ≡ Ok ts)
had_tokens r f h = grind (arith, common_steps)

pub has_layout : (file : ℕ) (i : Indentation) (text made : List ℕ) → lists_in file text ≡ fine → made ≡ text_of (laid i (pieces_of (chars text))) → layout_in file i text ≡ Ok made
has_layout file i text made h e = (grind (arith, common_steps)) ∙ ap (λ m. Ok m) (sym e)

-- what holds of all pieces of a text with tokens holds of those of a text with lists
pub has_same : (file : ℕ) (i : Indentation) (text made : List ℕ) → lists_in file text ≡ fine
    → ((ps : List Piece) → AreIn 0 (chars text) ps → ps ≡ pieces_of (chars text))
    → ((ps : List Piece) → AreIn 0 (chars text) ps → made ≡ text_of (laid i ps))
    → ((ps qs : List Piece) (ts : Tokens) → AreIn 0 (chars text) ps → tokens_after file 0 ps [] ≡ Ok ts → AreIn 0 (text_of (laid i ps)) qs
    → stripped (tokens_after file 0 qs []) ≡ stripped (tokens_after file 0 ps []))
    → (ps qs : List Piece) → AreIn 0 (chars text) ps → AreIn 0 made qs → stripped (tokens_after file 0 ps []) ≡ stripped (tokens_after file 0 qs [])
has_same file i text made h one is keeps ps qs are become = grind (arith, common_steps, had_tokens (tokens_in file text) _ h)
