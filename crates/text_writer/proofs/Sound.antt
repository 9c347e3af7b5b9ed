-- Pieces that are whole by themselves: they stand wherever what follows ends them.
use Rattle.std.proofs.Common.{◌≡◌, ℕ, ◌+◌, true, false, not, ◌&&◌, ◌==◌, List, [], ◌∷◌, refl, arith}
use Rattle.std.specs.Prelude.{Ok, ⊤}
use Rattle.std.specs.List.{list_all}
use Rattle.std.proofs.lemmas.Bool.{and_parts}
use Rattle.std.proofs.lemmas.Grind.{common_steps}
use Rattle.text_reader.specs.Lexing.{Tokens, tokens_after}
use Rattle.text_reader.specs.Pieces.{Piece, space, line, block, left, right, bind, name, sign, endless, alone, spelling, size, begins_with, is_name, is_constant, after_comment, ends_word, ends_line, Stands, AreIn}
use Rattle.text_writer.specs.Placing.{Placed, all_placed, kept}
use Rattle.text_writer.proofs.Comments.{whole_comment, ended_comment}
use Rattle.text_writer.proofs.Returns.{on_one_line, kept_once}

-- no white space, and nothing that no text with tokens has
abbrev pub IsWhole : Piece → Type 0
IsWhole (space c) = ⊥
IsWhole (line cs) = list_all (λ c. not (c == 10)) cs ≡ true
IsWhole (block cs) = after_comment 1 32 cs ≡ Ok []
IsWhole left = ⊤
IsWhole right = ⊤
IsWhole bind = ⊤
IsWhole (name cs) = is_name 1 cs ≡ true
IsWhole (sign cs) = is_constant cs ≡ true
IsWhole (endless cs) = ⊥
IsWhole alone = ⊥

abbrev pub AreWhole : List Placed → Type 0
AreWhole [] = ⊤
AreWhole (p ∷ ps) = IsWhole p.piece × (kept p.piece ≡ p.piece) × AreWhole ps

-- what ends a piece
abbrev pub Ends : Piece → List ℕ → Type 0
Ends (space c) rest = ⊤
Ends (line cs) rest = ends_line rest ≡ true
Ends (block cs) rest = ⊤
Ends left rest = begins_with 59 rest ≡ false
Ends right rest = ⊤
Ends bind rest = ⊤
Ends (name cs) rest = ends_word rest ≡ true
Ends (sign cs) rest = ends_word rest ≡ true
Ends (endless cs) rest = ⊤
Ends alone rest = ⊤

pub standing : (p : Piece) (o : ℕ) (rest : List ℕ) → IsWhole p → (begins_with 65279 (spelling p) && o == 0) ≡ false → Ends p rest → Stands o p rest
standing (line cs) o rest w n e = (w, e)
standing (block cs) o rest w n e = ended_comment cs rest [] 1 32 w
standing left o rest w n e = e
standing right o rest w n e = tt
standing bind o rest w n e = tt
standing (name cs) o rest w n e = ((grind (arith, common_steps, and_parts)), e)
standing (sign cs) o rest w n e = (w, e)
standing _ o rest w n e = absurd w

-- the pieces of a text with tokens
pub wholes : (file : ℕ) (ps : List Piece) (o : ℕ) (text : List ℕ) (b s : ℕ) (done ts : Tokens) → AreIn o text ps → tokens_after file o ps done ≡ Ok ts → AreWhole (all_placed b s ps)
wholes file (space c ∷ ps) o text b s done ts a t = wholes file ps (o + size (spelling (space c))) a.0 _ _ done ts a.3 t
wholes file (line cs ∷ ps) o text b s done ts a t = (on_one_line cs a.2.0, kept_once (line cs), wholes file ps (o + size (spelling (line cs))) a.0 0 0 done ts a.3 t)
wholes file (block cs ∷ ps) o text b s done ts a t = (whole_comment cs a.0 1 32 a.2, refl, wholes file ps (o + size (spelling (block cs))) a.0 0 0 done ts a.3 t)
wholes file (left ∷ ps) o text b s done ts a t = (tt, refl, wholes file ps (o + size (spelling left)) a.0 0 0 _ ts a.3 t)
wholes file (right ∷ ps) o text b s done ts a t = (tt, refl, wholes file ps (o + size (spelling right)) a.0 0 0 _ ts a.3 t)
wholes file (bind ∷ ps) o text b s done ts a t = grind (arith, common_steps, wholes file ps (o + size (spelling bind)) a.0 0 0)
wholes file (name cs ∷ ps) o text b s done ts a t = grind (arith, common_steps, wholes file ps (o + size (spelling (name cs))) a.0 0 0, and_parts)
wholes file (sign cs ∷ ps) o text b s done ts a t = (a.2.0, refl, wholes file ps (o + size (spelling (sign cs))) a.0 0 0 _ ts a.3 t)
wholes file ps o text b s done ts a t = grind arith
