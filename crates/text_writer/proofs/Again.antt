-- A text that is laid out is laid out as it is.
use Rattle.std.proofs.Common.{◌≡◌, ℕ, zero, suc, ◌+◌, true, false, Bool, List, [], ◌∷◌, ◌++◌, refl, ap, ap₂, ◌∙◌, arith}
use Rattle.std.specs.Prelude.{replicate}
use Rattle.std.proofs.lemmas.List.{append_assoc}
use Rattle.std.proofs.lemmas.Grind.{common_steps}
use Rattle.text_reader.specs.Pieces.{Piece, space, AreIn}
use Rattle.text_writer.specs.declared.gaps.Gap.{Gap}
use Rattle.text_writer.specs.declared.gaps.Gap.TheVariants.{Spaces, Breaks}
use Rattle.text_writer.specs.declared.gaps.Last.{Last}
use Rattle.text_writer.specs.declared.gaps.Last.TheVariants as L
use Rattle.text_writer.specs.Placing.{Placed, all_placed, kept}
use Rattle.text_writer.specs.Plans.{Planned, planned, last_of, gap_before, first_last, is_marked}
use Rattle.text_writer.specs.declared.lists.Indentation.{Indentation}
use Rattle.text_writer.specs.Pages.{Layout, first_layout, layout_behind, line_start, laid_from, laid_plan, laid, text_of, white}
use Rattle.text_writer.proofs.Sound.{IsWhole, AreWhole}
use Rattle.text_writer.proofs.Whole.{last_break, regrouped, laid_once}

-- ---- how white space is counted
abbrev breaks_of : Gap → ℕ
breaks_of (Spaces n) = 0
breaks_of (Breaks n) = n

abbrev spaces_of : (column : ℕ) → Gap → ℕ
spaces_of column (Spaces n) = n
spaces_of column (Breaks n) = column

spaces_counted : (n b s : ℕ) (ps : List Piece) → all_placed b s (replicate n (space 32) ++ ps) ≡ all_placed b (s + n) ps
spaces_counted zero b s ps = let e : s ≡ s + 0 = omega arith in ap (λ k. all_placed b k ps) e
spaces_counted (suc n) b s ps = let e : (s + 1) + n ≡ s + suc n = omega arith in spaces_counted n b (s + 1) ps ∙ ap (λ k. all_placed b k ps) e

breaks_counted : (n b : ℕ) (ps : List Piece) → all_placed b 0 (replicate n (space 10) ++ ps) ≡ all_placed (b + n) 0 ps
breaks_counted zero b ps = let e : b ≡ b + 0 = omega arith in ap (λ k. all_placed k 0 ps) e
breaks_counted (suc n) b ps = let e : (b + 1) + n ≡ b + suc n = omega arith in breaks_counted n (b + 1) ps ∙ ap (λ k. all_placed k 0 ps) e

white_counted : (column : ℕ) (g : Gap) (ps : List Piece) → all_placed 0 0 (white column g ++ ps) ≡ all_placed (breaks_of g) (spaces_of column g) ps
white_counted column g ps = grind (arith, common_steps, spaces_counted, append_assoc, breaks_counted)

-- ---- a gap stays as it is
gap_again : (last : Last) (p : Piece) (b s column : ℕ)
    → (let g = gap_before last (record { piece = p; breaks = b; spaces = s }) in gap_before last (record { piece = p; breaks = breaks_of g; spaces = spaces_of column g }) ≡ g)
gap_again last p b s column = grind (arith, common_steps)

as_kept : (p : Piece) (b s : ℕ) (ps : List Piece) → IsWhole p → kept p ≡ p → (let q : Placed = record { piece = p; breaks = b; spaces = s } in all_placed b s (p ∷ ps) ≡ q ∷ all_placed 0 0 ps)
as_kept p b s ps w k = (grind (arith, common_steps)) ∙ ap (λ x. (let q : Placed = record { piece = x; breaks = b; spaces = s } in q ∷ all_placed 0 0 ps)) k

-- ---- and so does a plan
again : (ps : List Placed) (last : Last) (so_far : Layout) → AreWhole ps → planned last (all_placed 0 0 (laid_from so_far (planned last ps) ++ last_break)) ≡ planned last ps
again [] last so_far w = refl
again (q ∷ qs) last so_far w =
    let g = gap_before last q in
    let p : Planned = record { gap = g; piece = q.piece } in
    let column = line_start so_far q.piece in
    let rest = laid_from (layout_behind so_far p) (planned (last_of q.piece) qs) in
    ap (λ x. planned last (all_placed 0 0 x)) (regrouped (white column g) q.piece rest last_break)
    ∙ ap (planned last) (white_counted column g (q.piece ∷ (rest ++ last_break)) ∙ as_kept q.piece (breaks_of g) (spaces_of column g) (rest ++ last_break) w.0 w.1)
    ∙ ap₂ (λ x r. (let n : Planned = record { gap = x; piece = q.piece } in n ∷ r)) (gap_again last q.piece q.breaks q.spaces column) (again qs (last_of q.piece) (layout_behind so_far p) w.2)

plan_again : (i : Indentation) (marked : Bool) (ps : List Placed) → AreWhole ps
    → (let r = laid_plan i marked (planned (first_last marked) ps) in (is_marked r ≡ marked) × (planned (first_last marked) (all_placed 0 0 r) ≡ planned (first_last marked) ps))
plan_again i false (q ∷ qs) w = grind (arith, common_steps, regrouped, again)
plan_again i true (q ∷ qs) w = (refl, again (q ∷ qs) L.Mark (first_layout i true) w)
plan_again i _ _ w = (refl, refl)

pub twice : (i : Indentation) (ps qs : List Piece) → AreWhole (all_placed 0 0 ps) → AreIn 0 (text_of (laid i ps)) qs → laid i qs ≡ laid i ps
twice i ps qs w h = ap (laid i) (laid_once i ps qs w h) ∙ (grind (arith, plan_again))
