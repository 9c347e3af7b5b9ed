-- A text begins with a byte order mark where its pieces do.
use Rattle.std.proofs.Common.{◌≡◌, ℕ, Bool, List, ap₂, ◌∙◌, arith}
use Rattle.std.proofs.lemmas.Grind.{common_steps}
use Rattle.text_reader.specs.Pieces.{Piece, begins_with, AreIn}
use Rattle.text_writer.specs.Placing.{Placed, all_placed}
use Rattle.text_writer.specs.Plans.{planned, first_last, is_marked}
use Rattle.text_writer.specs.declared.lists.Indentation.{Indentation}
use Rattle.text_writer.specs.Pages.{laid, laid_plan, text_of}
use Rattle.text_writer.proofs.Scans.{fronted}

pub marked_text : (text : List ℕ) (ps : List Piece) → AreIn 0 text ps → begins_with 65279 text ≡ is_marked ps
marked_text text ps h = grind (arith, common_steps, fronted)

-- a text that is laid out by its parts is laid out by its pieces
pub laid_as : (i : Indentation) (text : List ℕ) (ps : List Piece) (parts : List Placed) (marked : Bool) (made : List ℕ) → AreIn 0 text ps → marked ≡ begins_with 65279 text → parts ≡ all_placed 0 0 ps
    → made ≡ text_of (laid_plan i marked (planned (first_last marked) parts)) → made ≡ text_of (laid i ps)
laid_as i text ps parts marked made h m p e = e ∙ ap₂ (λ b qs. text_of (laid_plan i b (planned (first_last b) qs))) (m ∙ marked_text text ps h) p
