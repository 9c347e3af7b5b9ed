-- Code with moves in place of clones can be written where the code can: a move changes neither how many fields are made nor what is
-- matched, and it ends no block.
use Rattle.std.proofs.Common.{◌≡◌, ◌&&◌, ◌∷◌, ◌++◌, [], ℕ, suc, Bool, List, length, refl, ap, arith}
use Rattle.std.proofs.lemmas.Grind.{common_steps}
use Rattle.model.specs.trees.Places.{field_sites}
use Rattle.model_code.specs.Code.{Place, PlaceUse, Block, no_statement, statement, Statement, bind, match_on, if_equal, for_each_of, labelled, CodeArms, no_code_arm, code_arm}
use Rattle.model_code.specs.Modes.{Types}
use Rattle.model_code.specs.MovedOnce.{unlooked, movable_after, behind, read_no_more}
use Rattle.model_code.specs.Saving.{all_saved, saved, saved_at, saved_arms}
use Rattle.model_code.specs.Notation.{Notation}
use Rattle.model_code.specs.Pieces.{is_left, leaves_at, leaves_arms, result_ends}
use Rattle.model_code.specs.ReadsBack.{pattern_writable, match_writable, writable, writable_at, writable_arms, MovesKeepWritable}
use Rattle.model_code.proofs.Written.{either}

both : {a b x y : Bool} → a ≡ b → x ≡ y → (a && x) ≡ (b && y)
both e h = λ i. e i && h i

module _ (types : Types) (p : Notation) where
  -- 1. statements end as before, and tests leave labels as before
  mutual
    left_same : (b : Block) (ends : Bool) (inside : List ℕ) (after : Place → Bool) → is_left ends (saved types inside after b) ≡ is_left ends b
    left_same no_statement ends inside after = refl
    left_same (statement s rest) ends inside after = grind (arith, leaves_same s ends inside, left_same rest ends (movable_after inside s) after, either)

    leaves_same : (s : Statement) (ends : Bool) (inside : List ℕ) (later : Place → Bool) → leaves_at ends (saved_at types inside later s) ≡ leaves_at ends s
    leaves_same (match_on u arms) ends inside later = arms_same arms ends (unlooked inside u.place) later
    leaves_same (if_equal a b body) ends inside later = left_same body ends inside later
    leaves_same (for_each_of v from body) ends inside later = left_same body ends (v ∷ []) read_no_more
    leaves_same s ends inside later = refl

    arms_same : (arms : CodeArms) (ends : Bool) (inside : List ℕ) (later : Place → Bool) → leaves_arms ends (saved_arms types inside later arms) ≡ leaves_arms ends arms
    arms_same no_code_arm ends inside later = refl
    arms_same (code_arm pattern fields body rest) ends inside later = either (left_same body ends (field_sites fields ++ inside) later) (arms_same rest ends inside later)

  -- 2. as many fields are made
  as_many : (us before : List PlaceUse) (inside : List ℕ) (later : Place → Bool) → length (all_saved types inside later before us) ≡ length us
  as_many [] before inside later = refl
  as_many (u ∷ us) before inside later = ap suc (as_many us (u ∷ before) inside later)

  -- 3. blocks
  mutual
    saved_writable : (b : Block) (label : Bool) (inside : List ℕ) (after : Place → Bool) → writable p label (saved types inside after b) ≡ writable p label b
    saved_writable no_statement label inside after = refl
    saved_writable (statement s rest) label inside after =
        let later = behind s rest after in
        both (saved_writable_at s label inside later)
        (grind (arith, common_steps, saved_writable rest label (movable_after inside s) after))

    saved_writable_at : (s : Statement) (label : Bool) (inside : List ℕ) (later : Place → Bool) → writable_at p label (saved_at types inside later s) ≡ writable_at p label s
    saved_writable_at (bind v e) label inside later = grind (arith, as_many)
    saved_writable_at (match_on u arms) label inside later = saved_writable_arms arms u label (unlooked inside u.place) later
    saved_writable_at (if_equal a b body) label inside later = saved_writable body label inside later
    saved_writable_at (for_each_of v from body) label inside later = saved_writable body label (v ∷ []) read_no_more
    saved_writable_at (labelled body) label inside later = grind (arith, common_steps, saved_writable body (is_left (result_ends p) body) inside later, left_same)
    saved_writable_at s label inside later = refl

    saved_writable_arms : (arms : CodeArms) (u : PlaceUse) (label : Bool) (inside : List ℕ) (later : Place → Bool) → writable_arms p label u (saved_arms types inside later arms) ≡ writable_arms p label u arms
    saved_writable_arms no_code_arm u label inside later = refl
    saved_writable_arms (code_arm pattern fields body rest) u label inside later =
        ap (λ b. (pattern_writable p pattern fields && match_writable p u pattern) && b)
        (both (saved_writable body label (field_sites fields ++ inside) later) (saved_writable_arms rest u label inside later))

pub moves_keep_writable_lem : MovesKeepWritable
moves_keep_writable_lem p label types code = saved_writable types p code label [] read_no_more
