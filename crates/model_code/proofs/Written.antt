-- The code that is written leaves the same labels, and can be written where the code can.
use Rattle.std.proofs.Common.{◌≡◌, ◌&&◌, ◌||◌, Bool, true, false, refl, arith}
use Rattle.std.proofs.lemmas.Bool.{and_parts, and_from}
use Rattle.std.proofs.lemmas.Grind.{common_steps}
use Rattle.model_code.specs.Code.{PlaceUse, Block, no_statement, statement, Statement, match_on, if_equal, for_each_of, labelled, CodeArms, no_code_arm, code_arm}
use Rattle.model_code.specs.Notation.{Notation}
use Rattle.model_code.specs.Pieces.{is_left, leaves_at, leaves_arms, result_ends, is_end}
use Rattle.model_code.specs.Written.{is_bare, unwrapped, written, written_at, written_arms}
use Rattle.model_code.specs.ReadsBack.{pattern_writable, match_writable, writable, writable_at, writable_arms}

-- alternatives that are the same
pub either : {a b x y : Bool} → a ≡ b → x ≡ y → (a || x) ≡ (b || y)
either e h = λ i. e i || h i

module _ (p : Notation) where
  -- 1. code that can be written with no label around can be with one
  mutual
    pub with_label : (b : Block) (label : Bool) → writable p false b ≡ true → writable p label b ≡ true
    with_label no_statement label h = refl
    with_label (statement s later) label h = grind (arith, common_steps, with_label_at s label, with_label later label, and_parts, and_from)

    with_label_at : (s : Statement) (label : Bool) → writable_at p false s ≡ true → writable_at p label s ≡ true
    with_label_at (match_on u arms) label h = with_label_arms arms u label h
    with_label_at (if_equal a b body) label h = with_label body label h
    with_label_at (for_each_of v from body) label h = with_label body label h
    with_label_at s label h = grind (arith, common_steps)

    with_label_arms : (arms : CodeArms) (u : PlaceUse) (label : Bool) → writable_arms p false u arms ≡ true → writable_arms p label u arms ≡ true
    with_label_arms no_code_arm u label h = refl
    with_label_arms (code_arm pattern fields body rest) u label h =
        let hs = and_parts (pattern_writable p pattern fields && match_writable p u pattern) (writable p false body && writable_arms p false u rest) h in
        let ks = and_parts (writable p false body) (writable_arms p false u rest) hs.1 in
        and_from _ _ hs.0 (and_from _ _ (with_label body label ks.0) (with_label_arms rest u label ks.1))

  -- 2. labels are left as before
  pub end_written : (s : Statement) → is_end (result_ends p) (written_at p s) ≡ is_end (result_ends p) s
  end_written s = grind (arith, common_steps)

  -- the inside of a body that is within a label
  abbrev InnerLeft : Block → Type 0
  InnerLeft (statement (labelled body) no_statement) = is_left (result_ends p) (written p body) ≡ is_left (result_ends p) body
  InnerLeft code = Unit {0}

  mutual
    pub left_written : (b : Block) → is_left (result_ends p) (written p b) ≡ is_left (result_ends p) b
    left_written no_statement = refl
    left_written (statement s later) = grind (arith, leaves_written s, left_written later, end_written, either)

    leaves_written : (s : Statement) → leaves_at (result_ends p) (written_at p s) ≡ leaves_at (result_ends p) s
    leaves_written (match_on u arms) = arms_left arms
    leaves_written (if_equal a b body) = grind (arith, common_steps, left_written body, inner_left body)
    leaves_written (for_each_of v from body) = grind (arith, common_steps, left_written body, inner_left body)
    leaves_written s = refl

    arms_left : (arms : CodeArms) → leaves_arms (result_ends p) (written_arms p arms) ≡ leaves_arms (result_ends p) arms
    arms_left no_code_arm = refl
    arms_left (code_arm pattern fields body rest) = either (grind (arith, common_steps, left_written body, inner_left body)) (arms_left rest)

    inner_left : (b : Block) → InnerLeft b
    inner_left (statement (labelled body) no_statement) = left_written body
    inner_left b = tt

  -- 3. what can be written can be as it is written
  abbrev InnerWritable : Block → Type 0
  InnerWritable (statement (labelled body) no_statement) = (label : Bool) → writable p label body ≡ true → writable p label (written p body) ≡ true
  InnerWritable code = Unit {0}

  body_writable : (body : Block) (label : Bool) → writable p label body ≡ true → writable p label (written p body) ≡ true → InnerWritable body → writable p label (unwrapped (is_bare p body) (written p body)) ≡ true
  body_writable body label h w i = grind (arith, common_steps, and_parts, with_label)

  mutual
    is_writable : (b : Block) (label : Bool) → writable p label b ≡ true → writable p label (written p b) ≡ true
    is_writable no_statement label h = refl
    is_writable (statement s later) label h = grind (arith, is_writable_at s label, is_writable later label, and_parts, end_written, and_from)

    is_writable_at : (s : Statement) (label : Bool) → writable_at p label s ≡ true → writable_at p label (written_at p s) ≡ true
    is_writable_at (match_on u arms) label h = arms_writable arms u label h
    is_writable_at (if_equal a b body) label h = body_writable body label h (is_writable body label h) (inner_writable body)
    is_writable_at (for_each_of v from body) label h = body_writable body label h (is_writable body label h) (inner_writable body)
    is_writable_at (labelled body) label h = rw (left_written body) (is_writable body (is_left (result_ends p) body) h)
    is_writable_at _ label h = h

    arms_writable : (arms : CodeArms) (u : PlaceUse) (label : Bool) → writable_arms p label u arms ≡ true → writable_arms p label u (written_arms p arms) ≡ true
    arms_writable no_code_arm u label h = refl
    arms_writable (code_arm pattern fields body rest) u label h =
        let hs = and_parts (pattern_writable p pattern fields && match_writable p u pattern) (writable p label body && writable_arms p label u rest) h in
        let ks = and_parts (writable p label body) (writable_arms p label u rest) hs.1 in
        and_from _ _ hs.0 (and_from _ _ (body_writable body label ks.0 (is_writable body label ks.0) (inner_writable body)) (arms_writable rest u label ks.1))

    inner_writable : (b : Block) → InnerWritable b
    inner_writable (statement (labelled body) no_statement) = λ label h. is_writable body label h
    inner_writable b = tt

pub written_writable : (p : Notation) (b : Block) (label : Bool) → writable p label b ≡ true → writable p label (written p b) ≡ true
written_writable p b label h = is_writable p b label h
