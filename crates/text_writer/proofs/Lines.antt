-- The text of forms, each on a line of its own, has these forms.
use Rattle.std.proofs.Common.{◌≡◌, ℕ, ◌≤◌, refl, sym, ap, ◌∙◌, subst, List, [], ◌∷◌, ◌++◌, length, map, append-nil, arith}
use Rattle.std.specs.Prelude.{true, not, ◌||◌, Ok}
use Rattle.std.specs.Str.{chars}
use Rattle.std.proofs.lemmas.Str.{chars-nil}
use Rattle.std.proofs.lemmas.Grind.{common_steps}
use Rattle.text_reader.specs.Lexemes.{◌>>=◌}
use Rattle.text_reader.specs.FormTrees.{FormTree, a_binding, a_list, FormTrees, no_form, form_and, all_spelled, all_depth}
use Rattle.text_reader.specs.Forming.{forms_of}
use Rattle.text_reader.specs.PassedOver.{is_passed_over, has_dash, have_dash, dashes_are_passed_over, mark}
use Rattle.text_reader.specs.Pieces.{Piece, space, AreIn}
use Rattle.text_reader.specs.Lexing.{Tokens, tokens_after}
use Rattle.text_reader.specs.Definitions.{forms_in}
use Rattle.text_reader.proofs.OnlyForms.{forms_read}
use Rattle.text_reader.proofs.Spelled.{tokens_given}
use Rattle.text_writer.specs.Texts.{written}
use Rattle.text_writer.proofs.Bare.{bare, all_bare}
use Rattle.text_writer.proofs.Fine.{Fits, greatest}
use Rattle.text_writer.proofs.Written.{text_written, pieces, past, behind, one_piece, is_list, whole_in}
use Rattle.text_writer.proofs.Placed.{placed, placed_bare, placed_depth, form_told, joined, next}

-- a form that can stand on a line of its own: a list, in which words begin with `-` only if it is passed over
pub record StandsAlone (f : FormTree) : Type 0 where
  pub list : is_list f ≡ true
  pub fits : Fits true f 1000
  pub dashes : (not (has_dash f) || is_passed_over f) ≡ true

-- the text of forms, each on a line of its own
abbrev pub lines : List FormTree → List ℕ
lines [] = []
lines (f ∷ fs) = written f ++ 10 ∷ lines fs

abbrev pub AllStand : List FormTree → Type 0
AllStand [] = Unit {0}
AllStand (f ∷ fs) = StandsAlone f × AllStand fs

-- ---- which words a form has doesn't depend on where it stands

mutual
  dash_bare : (f : FormTree) → has_dash (bare f) ≡ has_dash f
  dash_bare (a_binding n f) = dash_bare f
  dash_bare (a_list fs p e) = dashes_bare fs
  dash_bare _ = refl

  dashes_bare : (fs : FormTrees) → have_dash (all_bare fs) ≡ have_dash fs
  dashes_bare no_form = refl
  dashes_bare (form_and f fs) = rw (dash_bare f, dashes_bare fs) refl

pub passed_bare : (f : FormTree) → is_passed_over (bare f) ≡ is_passed_over f
passed_bare f = grind (arith, common_steps)

module _ (file : ℕ) where
  pub placed_passed : (o : ℕ) (f : FormTree) → is_passed_over (placed file o f) ≡ is_passed_over f
  placed_passed o f = sym (passed_bare (placed file o f)) ∙ ap is_passed_over (placed_bare file o f) ∙ passed_bare f

  placed_dash : (o : ℕ) (f : FormTree) → has_dash (placed file o f) ≡ has_dash f
  placed_dash o f = sym (dash_bare (placed file o f)) ∙ ap has_dash (placed_bare file o f) ∙ dash_bare f

  -- ---- the whole text

  abbrev pub line_end : ℕ → FormTree → ℕ
  line_end o f = past (behind o f) (space 10)

  abbrev lines_pieces : List FormTree → List Piece
  lines_pieces [] = []
  lines_pieces (f ∷ fs) = pieces f (space 10 ∷ lines_pieces fs)

  -- forms as they stand in the text
  abbrev pub lines_placed : ℕ → List FormTree → FormTrees
  lines_placed o [] = no_form
  lines_placed o (f ∷ fs) = form_and (placed file o f) (lines_placed (line_end o f) fs)

  -- the text is these pieces
  lines_in : (fs : List FormTree) (o : ℕ) → AllStand fs → AreIn o (chars (lines fs)) (lines_pieces fs)
  lines_in [] o h = chars-nil
  lines_in (f ∷ fs) o h =
      subst (λ t. AreIn o (chars t) (lines_pieces (f ∷ fs))) (sym (text_written f (10 ∷ lines fs)))
      (whole_in f o (10 ∷ lines fs) (space 10 ∷ lines_pieces fs) h.0.list h.0.fits.fine
      (one_piece (behind o f) 10 (lines fs) (space 10) (lines_pieces fs) (omega arith) refl refl (lines_in fs (line_end o f) h.1)))

  -- its tokens are those of these forms
  lines_told : (fs : List FormTree) (o : ℕ) (done : Tokens) → AllStand fs
      → tokens_after file o (lines_pieces fs) done ≡ Ok (done ++ map mark (all_spelled (lines_placed o fs) []))
  lines_told [] o done h = ap Ok (sym (append-nil done))
  lines_told (f ∷ fs) o done h = grind (arith, common_steps, lines_told fs (line_end o f), placed, form_told, next, behind, joined)

  lines_depth : (fs : List FormTree) (o : ℕ) → AllStand fs → all_depth (lines_placed o fs) ≤ 1000
  lines_depth [] o h = omega arith
  lines_depth (f ∷ fs) o h = grind (arith, common_steps, lines_depth fs (line_end o f) h.1, greatest, placed, placed_depth)

  lines_dashes : (fs : List FormTree) (o : ℕ) → AllStand fs → dashes_are_passed_over (lines_placed o fs) ≡ true
  lines_dashes [] o h = refl
  lines_dashes (f ∷ fs) o h = rw (placed_dash o f, placed_passed o f, h.0.dashes) (lines_dashes fs (line_end o f) h.1)

  pub lines_forms : (fs : List FormTree) → AllStand fs → forms_in file (lines fs) ≡ Ok (lines_placed 0 fs)
  lines_forms fs h =
      let end = length (lines fs) in
      ap (λ r. r >>= forms_of file end) (tokens_given file (lines fs) (lines_pieces fs) (lines_in fs 0 h) ∙ lines_told fs 0 [] h)
      ∙ forms_read file end (lines_placed 0 fs) (lines_depth fs 0 h) (lines_dashes fs 0 h)
