-- What a text says, whatever its white space: its other pieces, and its tokens but for their places.
use Rattle.std.specs.Prelude.{◌≡◌, ℕ, List, [], ◌∷◌, map, Result, Ok, Err}
use Rattle.std.specs.Str.{chars}
use Rattle.model.specs.lists.Syntax.{Position, Name}
use Rattle.text_reader.specs.Lexemes.{Lexeme, begin_list, end_list, word, dash, binder, number, constant, Complaint, Wrong}
use Rattle.text_reader.specs.Pieces.{Piece, space, line, block, left, right, bind, name, sign, endless, alone, AreIn}
use Rattle.text_reader.specs.Lexing.{Tokens, tokens_after}

-- the pieces that aren't white space
abbrev pub solid : List Piece → List Piece
solid [] = []
solid (space c ∷ ps) = solid ps
solid (line cs ∷ ps) = line cs ∷ solid ps
solid (block cs ∷ ps) = block cs ∷ solid ps
solid (left ∷ ps) = left ∷ solid ps
solid (right ∷ ps) = right ∷ solid ps
solid (bind ∷ ps) = bind ∷ solid ps
solid (name cs ∷ ps) = name cs ∷ solid ps
solid (sign cs ∷ ps) = sign cs ∷ solid ps
solid (endless cs ∷ ps) = endless cs ∷ solid ps
solid (alone ∷ ps) = alone ∷ solid ps

abbrev pub nowhere : Position
nowhere = record { file = 0; offset = 0 }

abbrev pub placeless_name : Name → Name
placeless_name n = record { text = n.text; at = nowhere }

abbrev pub placeless : Lexeme → Lexeme
placeless (begin_list p) = begin_list nowhere
placeless (end_list p) = end_list nowhere
placeless (word n) = word (placeless_name n)
placeless (dash n) = dash (placeless_name n)
placeless (binder n) = binder (placeless_name n)
placeless (number z p) = number z nowhere
placeless (constant n p) = constant (placeless_name n) nowhere

-- tokens, or what is wrong, wherever
abbrev pub stripped : Result Tokens Wrong → Result Tokens Complaint
stripped (Ok ts) = Ok (map placeless ts)
stripped (Err w) = Err w.0

-- two texts have the same tokens, but for their places, or the same first mistake
abbrev pub HaveSameTokens : (file : ℕ) (text other : List ℕ) → Type 0
HaveSameTokens file text other =
    (ps qs : List Piece) → AreIn 0 (chars text) ps → AreIn 0 (chars other) qs → stripped (tokens_after file 0 ps []) ≡ stripped (tokens_after file 0 qs [])
