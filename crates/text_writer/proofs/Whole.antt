-- A text that is laid out has the pieces that it is laid out from.
use Rattle.std.proofs.Common.{◌≡◌, ℕ, zero, suc, ◌+◌, ◌<◌, true, false, ◌&&◌, ◌==◌, Bool, List, [], ◌∷◌, ◌++◌, refl, sym, ap, ◌∙◌, subst, inl, inr, map, arith}
use Rattle.std.specs.Prelude.{replicate, min, max}
use Rattle.std.specs.Char.{is_whitespace}
use Rattle.std.proofs.lemmas.Bool.{cases_Bool, and_parts}
use Rattle.std.proofs.lemmas.Bool.Decides.{nat_tests}
use Rattle.std.proofs.lemmas.List.{append_assoc}
use Rattle.std.proofs.lemmas.Grind.{common_steps}
use Rattle.text_reader.specs.Pieces.{Piece, space, line, left, name, sign, spelling, size, begins_with, ends_word, ends_line, AreIn}
use Rattle.text_reader.specs.Solid.{solid}
use Rattle.text_writer.specs.declared.gaps.Gap.TheVariants.{Spaces, Breaks}
use Rattle.text_writer.specs.declared.gaps.Last.{Last}
use Rattle.text_writer.specs.declared.gaps.Last.TheVariants as L
use Rattle.text_writer.specs.Placing.{Placed, all_placed, kept}
use Rattle.text_writer.specs.Plans.{Planned, planned, last_of, gap_before, broken, spaces_in_line, first_last, is_marked}
use Rattle.text_writer.specs.declared.lists.Indentation.{Indentation}
use Rattle.text_writer.specs.Pages.{Layout, first_layout, layout_behind, line_start, laid_from, laid_plan, laid, text_of, white, ending}
use Rattle.text_writer.proofs.Scans.{sized, past_zero, one_division}
use Rattle.text_writer.proofs.Sound.{IsWhole, AreWhole, Ends, standing}

abbrev pub last_break : List Piece
last_break = space 10 ∷ []

-- pieces that are those of their text, past its beginning
abbrev pub AreLater : List Piece → Type 0
AreLater ps = (o : ℕ) → 0 < o → AreIn o (text_of ps) ps

pub regrouped : (w : List Piece) (p : Piece) (rest end : List Piece) → ((w ++ p ∷ []) ++ rest) ++ end ≡ w ++ (p ∷ (rest ++ end))
regrouped w p rest end = ap (λ x. x ++ end) (append_assoc w (p ∷ []) rest) ∙ append_assoc w (p ∷ rest) end

-- ---- the first character of a gap
breaks_first : (n column : ℕ) (ps : List Piece) → 0 < n → (rest : List ℕ) × (text_of (white column (Breaks n) ++ ps) ≡ 10 ∷ rest)
breaks_first zero column ps h = absurd (omega (arith, h))
breaks_first (suc n) column ps h = (text_of ((replicate n (space 10) ++ replicate column (space 32)) ++ ps), refl)

pub some_break : (n : ℕ) → (n == 0) ≡ false → 0 < min n 2
some_break n h = let p : 0 < n = grind (arith, nat_tests, h) in omega arith

-- behind `(` on a line
open_ends : (p : Piece) (before column : ℕ) (ps : List Piece) → IsWhole p → begins_with 59 (text_of (white column (Spaces (spaces_in_line 0 before p)) ++ (p ∷ ps))) ≡ false
open_ends p before column ps w = grind (arith, common_steps, and_parts)

-- behind a word on a line
word_ends : (p : Piece) (before column : ℕ) (ps : List Piece) → IsWhole p → ends_word (text_of (white column (Spaces (spaces_in_line 1 before p)) ++ (p ∷ ps))) ≡ true
word_ends p before column ps w = grind (arith, common_steps)

-- a piece is ended by the gap of the next one, with that
word_gap : (q : Placed) (column : ℕ) (ps : List Piece) → IsWhole q.piece → ends_word (text_of (white column (broken q.breaks (spaces_in_line 1 q.spaces q.piece)) ++ (q.piece ∷ ps))) ≡ true
word_gap q column ps w = elim (cases_Bool (q.breaks == 0)) [
  | inl none ↦ rw none (word_ends q.piece q.spaces column ps w)
  | inr some ↦ grind (arith, common_steps, breaks_first (min q.breaks 2) column (q.piece ∷ ps) (some_break q.breaks some), some_break q.breaks some)
]

gap_ends : (p : Piece) (q : Placed) (column : ℕ) (ps : List Piece) → IsWhole q.piece → Ends p (text_of (white column (gap_before (last_of p) q) ++ (q.piece ∷ ps)))
gap_ends (line cs) q column ps w = ap ends_line (breaks_first (max (min q.breaks 2) 1) column (q.piece ∷ ps) (omega arith)).1
gap_ends left q column ps w = elim (cases_Bool (q.breaks == 0)) [
  | inl none ↦ rw none (open_ends q.piece q.spaces column ps w)
  | inr some ↦ grind (arith, common_steps, breaks_first (min q.breaks 2) column (q.piece ∷ ps) (some_break q.breaks some), some_break q.breaks some)
]
gap_ends (name cs) q column ps w = word_gap q column ps w
gap_ends (sign cs) q column ps w = word_gap q column ps w
gap_ends _ q column ps w = tt

rest_ends : (p : Piece) (so_far : Layout) (ps : List Placed) → AreWhole ps → Ends p (text_of (laid_from so_far (planned (last_of p) ps) ++ last_break))
rest_ends p so_far [] w = grind arith
rest_ends p so_far (q ∷ qs) w = grind (arith, common_steps, regrouped, gap_ends)

-- ---- pieces where they stand
times : (n c : ℕ) (ps : List Piece) → is_whitespace c ≡ true → AreLater ps → AreLater (replicate n (space c) ++ ps)
times zero c ps w h = h
times (suc n) c ps w h = grind (arith, common_steps, times n c ps w h)

later : (ps : List Placed) (last : Last) (so_far : Layout) → AreWhole ps → AreLater (laid_from so_far (planned last ps) ++ last_break)
later [] last so_far w = λ o pos. ([], refl, refl, refl)
later (q ∷ qs) last so_far w = grind (arith, common_steps, later qs (last_of q.piece), regrouped, rest_ends, past_zero, standing, sized, times, append_assoc)

-- the text's beginning
first : (ps : List Placed) (so_far : Layout) → AreWhole ps → (let r = planned L.Nothing ps in AreIn 0 (text_of (laid_from so_far r ++ ending r)) (laid_from so_far r ++ ending r))
first [] so_far w = refl
first (q ∷ qs) so_far w =
    let p : Planned = record { gap = gap_before L.Nothing q; piece = q.piece } in
    let rest = laid_from (layout_behind so_far p) (planned (last_of q.piece) qs) in
    let ends = rest_ends q.piece (layout_behind so_far p) qs w.2 in
    let are = later qs (last_of q.piece) (layout_behind so_far p) w.2 in
    subst (λ x. AreIn 0 (text_of x) x) (sym (regrouped (white (line_start so_far q.piece) (gap_before L.Nothing q)) q.piece rest last_break))
    (begun q (line_start so_far q.piece) (rest ++ last_break) w.0 ends are)
  where
    begun : (q : Placed) (column : ℕ) (rest : List Piece) → IsWhole q.piece → Ends q.piece (text_of rest) → AreLater rest
        → (let r = white column (gap_before L.Nothing q) ++ (q.piece ∷ rest) in AreIn 0 (text_of r) r)
    begun q column rest w e h = elim (cases_Bool (begins_with 65279 (spelling q.piece))) [
      | inl m ↦ grind (arith, common_steps, past_zero (begins_with 65279 (spelling q.piece)) (0 + size (32 ∷ [])), sized (space 32) [] 0 refl)
      | inr m ↦ rw m (grind (arith, common_steps, standing q.piece 0 (text_of rest) w (ap (λ b. b && 0 == 0) m) e, sized q.piece (text_of rest) 0))
    ]

plan_is_laid : (i : Indentation) (marked : Bool) (ps : List Placed) → AreWhole ps → (let r = laid_plan i marked (planned (first_last marked) ps) in AreIn 0 (text_of r) r)
plan_is_laid i false ps w = first ps (first_layout i false) w
plan_is_laid i true [] w = ([], refl, refl, refl)
plan_is_laid i true (q ∷ qs) w = grind (arith, later (q ∷ qs) L.Mark (first_layout i true) w (0 + size (65279 ∷ [])), sized (space 65279) [] 0 refl)

pub laid_are : (i : Indentation) (ps : List Piece) → AreWhole (all_placed 0 0 ps) → AreIn 0 (text_of (laid i ps)) (laid i ps)
laid_are i ps w = plan_is_laid i (is_marked ps) (all_placed 0 0 ps) w

-- ---- the pieces but white space
pub solid_piece : (p : Piece) (ps : List Piece) → IsWhole p → solid (p ∷ ps) ≡ p ∷ solid ps
solid_piece p ps w = grind (arith, common_steps)

solid_times : (n c : ℕ) (ps : List Piece) → solid (replicate n (space c) ++ ps) ≡ solid ps
solid_times zero c ps = refl
solid_times (suc n) c ps = solid_times n c ps

abbrev pieces_of : List Placed → List Piece
pieces_of ps = map (λ (p : Placed). p.piece) ps

solid_from : (ps : List Placed) (last : Last) (so_far : Layout) → AreWhole ps → solid (laid_from so_far (planned last ps) ++ last_break) ≡ pieces_of ps
solid_from [] last so_far w = refl
solid_from (q ∷ qs) last so_far w = grind (arith, common_steps, solid_from qs (last_of q.piece), regrouped, solid_piece, solid_times, append_assoc)

solid_plan : (i : Indentation) (marked : Bool) (ps : List Placed) → AreWhole ps → solid (laid_plan i marked (planned (first_last marked) ps)) ≡ pieces_of ps
solid_plan i false (q ∷ qs) w = solid_from (q ∷ qs) L.Nothing (first_layout i false) w
solid_plan i true (q ∷ qs) w = solid_from (q ∷ qs) L.Mark (first_layout i true) w
solid_plan i _ _ w = refl

placed_pieces : (ps : List Piece) (b s : ℕ) → pieces_of (all_placed b s ps) ≡ map kept (solid ps)
placed_pieces [] b s = refl
placed_pieces (p ∷ ps) b s = grind (arith, common_steps, placed_pieces ps)

pub laid_solid : (i : Indentation) (ps : List Piece) → AreWhole (all_placed 0 0 ps) → solid (laid i ps) ≡ map kept (solid ps)
laid_solid i ps w = solid_plan i (is_marked ps) (all_placed 0 0 ps) w ∙ placed_pieces ps 0 0

pub laid_once : (i : Indentation) (ps qs : List Piece) → AreWhole (all_placed 0 0 ps) → AreIn 0 (text_of (laid i ps)) qs → qs ≡ laid i ps
laid_once i ps qs w h = one_division (text_of (laid i ps)) qs (laid i ps) h (laid_are i ps w)
