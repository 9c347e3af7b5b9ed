-- Comments give no tokens, however long they are.
use Rattle.std.proofs.Common.{◌≡◌, ℕ, zero, suc, ◌+◌, List, [], ◌∷◌, ◌++◌, refl, ap, map, arith}
use Rattle.std.specs.Prelude.{replicate}
use Rattle.std.proofs.lemmas.Grind.{common_steps}
use Rattle.text_reader.specs.Lexing.{Tokens, tokens_after}
use Rattle.text_reader.specs.Pieces.{Piece, space, line, block, left, right, bind, name, sign, endless, alone, spelling, size}
use Rattle.text_reader.specs.Solid.{solid, stripped}
use Rattle.text_writer.specs.Placing.{kept}

-- pieces with white space in place of the comments that end lines
abbrev blanked : List Piece → List Piece
blanked [] = []
blanked (space c ∷ ps) = space c ∷ blanked ps
blanked (line cs ∷ ps) = replicate (size (spelling (line cs))) (space 32) ++ blanked ps
blanked (block cs ∷ ps) = block cs ∷ blanked ps
blanked (left ∷ ps) = left ∷ blanked ps
blanked (right ∷ ps) = right ∷ blanked ps
blanked (bind ∷ ps) = bind ∷ blanked ps
blanked (name cs ∷ ps) = name cs ∷ blanked ps
blanked (sign cs ∷ ps) = sign cs ∷ blanked ps
blanked (endless cs ∷ ps) = endless cs ∷ blanked ps
blanked (alone ∷ ps) = alone ∷ blanked ps

skipped : (file n o : ℕ) (ps : List Piece) (done : Tokens) → tokens_after file o (replicate n (space 32) ++ ps) done ≡ tokens_after file (o + n) ps done
skipped file zero o ps done = let e : o ≡ o + 0 = omega arith in ap (λ k. tokens_after file k ps done) e
skipped file (suc n) o ps done = grind (arith, common_steps, skipped file n (o + size (32 ∷ [])) ps done)

blank_tokens : (file : ℕ) (ps : List Piece) (o : ℕ) (done : Tokens) → tokens_after file o ps done ≡ tokens_after file o (blanked ps) done
blank_tokens file [] o done = refl
blank_tokens file (p ∷ ps) o done = grind (arith, common_steps, blank_tokens file ps, skipped)

abbrev unlined : List Piece → List Piece
unlined [] = []
unlined (space c ∷ ps) = space c ∷ unlined ps
unlined (line cs ∷ ps) = unlined ps
unlined (block cs ∷ ps) = block cs ∷ unlined ps
unlined (left ∷ ps) = left ∷ unlined ps
unlined (right ∷ ps) = right ∷ unlined ps
unlined (bind ∷ ps) = bind ∷ unlined ps
unlined (name cs ∷ ps) = name cs ∷ unlined ps
unlined (sign cs ∷ ps) = sign cs ∷ unlined ps
unlined (endless cs ∷ ps) = endless cs ∷ unlined ps
unlined (alone ∷ ps) = alone ∷ unlined ps

solid_skipped : (n : ℕ) (ps : List Piece) → solid (replicate n (space 32) ++ ps) ≡ solid ps
solid_skipped zero ps = refl
solid_skipped (suc n) ps = solid_skipped n ps

solid_blanked : (ps : List Piece) → solid (blanked ps) ≡ unlined (solid ps)
solid_blanked [] = refl
solid_blanked (p ∷ ps) = grind (arith, common_steps, solid_blanked ps, solid_skipped)

unlined_kept : (ps : List Piece) → unlined (map kept ps) ≡ unlined ps
unlined_kept [] = refl
unlined_kept (p ∷ ps) = grind (arith, common_steps, unlined_kept ps)

-- pieces that differ in white space alone have the same tokens, and so have those whose comments lose what ends them
pub kept_tokens : ((file : ℕ) (ps qs : List Piece) → solid ps ≡ solid qs → stripped (tokens_after file 0 ps []) ≡ stripped (tokens_after file 0 qs []))
    → (file : ℕ) (ps qs : List Piece) → solid qs ≡ map kept (solid ps) → stripped (tokens_after file 0 qs []) ≡ stripped (tokens_after file 0 ps [])
kept_tokens law file ps qs e = grind (arith, common_steps, blank_tokens, solid_blanked, unlined_kept)
