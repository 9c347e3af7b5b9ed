-- Blocks are read back, so different code has different text.
use Rattle.std.proofs.Common.{◌≡◌, ◌≤◌, ◌&&◌, [], ℕ, zero, suc, Bool, true, false, List, length, Some, is_some, refl, ap, ◌∙◌, sym, arith}
use Rattle.std.proofs.lemmas.Bool.{and_parts, false≢true}
use Rattle.std.proofs.lemmas.Option.{same_Some}
use Rattle.std.proofs.lemmas.Grind.{common_steps}
use Rattle.model_code.specs.Code.{PlaceUse, Block, no_statement, statement, Statement, bind, bind_some, no_way, match_on, if_equal, for_each_of, give, labelled, unless_let, unless_equal, CodeArms, no_code_arm, code_arm}
use Rattle.model_code.specs.Notation.{Notation}
use Rattle.model_code.specs.Pieces.{CodePiece, tokens_of, Margin, inside, label_at, in_braces_at, close_body, is_alone, match_end, is_left, result_ends, is_end, unless_end, block_before, statement_before, arms_before}
use Rattle.model_code.specs.Shown.{shown_use, shown, shown_at, shown_arms}
use Rattle.model_code.specs.Written.{no_margin, written, code_tokens, shown_code}
use Rattle.model_code.specs.Reading.{then_read, where_read, read_arms, read_statement, read_block}
use Rattle.model_code.specs.ReadsBack.{pattern_writable, match_writable, writable, writable_at, writable_arms, size, size_at, size_of_arms, ends_block, read_code, ReadsBack, CodeIsRead, TextShowsCode}
use Rattle.model_code.proofs.Written.{written_writable}
use Rattle.model_code.proofs.Lengths.{size_within}
use Rattle.model_code.proofs.Statements.{nothing_more, BlockBack, bind_back, bind_some_back, result_back, equal_back_at, alone_back, unless_let_back, unless_equal_back, loop_back, labelled_back, arm_then, match_back}

label_there : (left : Bool) (n : ℕ) → is_some (label_at left n) ≡ left
label_there left n = grind (arith, common_steps)

-- where a block ends
ended_back : (p : Notation) (n : ℕ) (at : Margin) (rest : List CodePiece) → 1 ≤ n → ends_block (tokens_of rest) ≡ true → read_block p n at.label (tokens_of rest) ≡ Some (no_statement, tokens_of rest)
ended_back p n at rest h e = grind (arith, common_steps, nothing_more)

later_back : (ended : Bool) (p : Notation) (n : ℕ) (at : Margin) (later : Block) (rest : List CodePiece) → unless_end ended 1 (size p later) ≤ n → unless_end ended true (writable p (is_some at.label) later) ≡ true → ends_block (tokens_of rest) ≡ true
    → (size p later ≤ n → writable p (is_some at.label) later ≡ true → BlockBack p n at later rest)
    → read_block p n at.label (tokens_of (unless_end ended rest (block_before p at later rest))) ≡ Some (unless_end ended no_statement (shown p later), tokens_of rest)
later_back ended p n at later rest h w e f = grind (arith, common_steps, ended_back)

mutual
  block_back : (code : Block) (p : Notation) (n : ℕ) (at : Margin) (rest : List CodePiece) → size p code ≤ n → writable p (is_some at.label) code ≡ true → ends_block (tokens_of rest) ≡ true → BlockBack p n at code rest
  block_back no_statement p n at rest h w e = ended_back p n at rest h e
  block_back (statement s later) p zero at rest h w e = absurd (omega arith)
  block_back (statement s later) p (suc n) at rest h w e =
      let behind : List CodePiece = unless_end (is_end (result_ends p) s) rest (block_before p at later rest) in
      let ws = and_parts (writable_at p (is_some at.label) s) (unless_end (is_end (result_ends p) s) true (writable p (is_some at.label) later)) w in
      ap (λ r. where_read r (λ x tokens. then_read (read_block p n at.label tokens) (λ xs end. Some (statement x xs, end))) (λ end. Some (no_statement, end)) (tokens_of (statement_before p at s behind))) (statement_back s p n at behind (omega arith) ws.0)
      ∙ ap (λ r. then_read r (λ xs end. Some (statement (shown_at p s) xs, end))) (later_back (is_end (result_ends p) s) p n at later rest (omega arith) ws.1 e (λ k v. block_back later p n at rest k v e))

  statement_back : (s : Statement) (p : Notation) (n : ℕ) (at : Margin) (rest : List CodePiece) → size_at p s ≤ n → writable_at p (is_some at.label) s ≡ true
      → read_statement p n (read_block p n) at.label (tokens_of (statement_before p at s rest)) ≡ Some (shown_at p s, tokens_of rest)
  statement_back (bind v e) p n at rest h w = bind_back p n at v e rest h w
  statement_back (bind_some v u) p n at rest h w = bind_some_back p n at v u rest
  statement_back no_way p n at rest h w = refl
  statement_back (match_on u arms) p n at rest h w = match_back p n (is_alone arms) at u arms (shown_arms p arms) rest (alone_arm_back arms p n at u rest h w) (arms_back arms p n n at u rest (omega arith) h w)
  statement_back (if_equal a b body) p n at rest h w = equal_back_at p n at a b body rest (block_back body p n (inside at) (close_body at rest) h w refl)
  statement_back (for_each_of v from body) p n at rest h w = loop_back p n at v from body rest (block_back body p n (inside at) (close_body at rest) h w refl)
  statement_back (give place u) p n at rest h w = result_back p n at place u rest
  statement_back (labelled body) p n at rest h w = labelled_back p n (is_left (result_ends p) body) at body rest (block_back body p n (in_braces_at (is_left (result_ends p) body) at) (close_body at rest) h (rw (label_there (is_left (result_ends p) body) at.depth) w) refl)
  statement_back (unless_let u pattern fields) p n at rest h w =
      let ws = and_parts (is_some at.label) (pattern_writable p pattern fields && match_writable p u pattern) w in
      let vs = and_parts (pattern_writable p pattern fields) (match_writable p u pattern) ws.1 in
      unless_let_back p n at u pattern fields rest ws.0 vs.0 vs.1
  statement_back (unless_equal a b) p n at rest h w = unless_equal_back p n at a b rest w

  alone_arm_back : (arms : CodeArms) (p : Notation) (n : ℕ) (at : Margin) (u : PlaceUse) (rest : List CodePiece) → size_of_arms p arms ≤ n → writable_arms p (is_some at.label) u arms ≡ true → is_alone arms ≡ true
      → read_statement p n (read_block p n) at.label (tokens_of (arms_before true p at u arms rest)) ≡ Some (match_on (shown_use p u) (shown_arms p arms), tokens_of rest)
  alone_arm_back (code_arm pattern fields body no_code_arm) p n at u rest h w a =
      let ws = and_parts (pattern_writable p pattern fields && match_writable p u pattern) (writable p (is_some at.label) body && true) w in
      let vs = and_parts (pattern_writable p pattern fields) (match_writable p u pattern) ws.0 in
      alone_back p n at u pattern fields body rest vs.0 vs.1 (block_back body p n (inside at) (close_body at rest) (omega arith) (and_parts (writable p (is_some at.label) body) true ws.1).0 refl)
  alone_arm_back _ p n at u rest h w a = absurd (false≢true a)

  arms_back : (arms : CodeArms) (p : Notation) (n k : ℕ) (at : Margin) (u : PlaceUse) (rest : List CodePiece) → k ≤ n → size_of_arms p arms ≤ k → writable_arms p (is_some at.label) u arms ≡ true
      → read_arms p (read_block p n) at.label (shown_use p u) k (tokens_of (arms_before false p (inside at) u arms (match_end false at rest))) ≡ Some (shown_arms p arms, tokens_of rest)
  arms_back no_code_arm p n (suc k) at u rest l h w = refl
  arms_back (code_arm pattern fields body more) p n (suc k) at u rest l h w =
      let behind : List CodePiece = arms_before false p (inside at) u more (match_end false at rest) in
      let ws = and_parts (pattern_writable p pattern fields && match_writable p u pattern) (writable p (is_some at.label) body && writable_arms p (is_some at.label) u more) w in
      let vs = and_parts (pattern_writable p pattern fields) (match_writable p u pattern) ws.0 in
      let bs = and_parts (writable p (is_some at.label) body) (writable_arms p (is_some at.label) u more) ws.1 in
      arm_then p n k (inside at) u pattern fields body (shown_arms p more) behind rest vs.0 vs.1
      (block_back body p n (inside (inside at)) (close_body (inside at) behind) (omega arith) bs.0 refl)
      (arms_back more p n k at u rest (omega arith) (omega arith) bs.1)
  arms_back _ p n _ at u rest l h w = absurd (omega arith)

pub reads_back_lem : ReadsBack
reads_back_lem p code n at rest h w e = block_back code p n at rest h w e

pub code_is_read_lem : CodeIsRead
code_is_read_lem p code w = block_back (written p code) p (suc (length (code_tokens p code))) no_margin [] (size_within p (written p code) no_margin) (written_writable p code false w) refl

pub text_shows_code_lem : TextShowsCode
text_shows_code_lem p a b v w e =
    ap (λ r. r.0) (same_Some (shown_code p a, []) (shown_code p b, []) (sym (code_is_read_lem p a v) ∙ (ap (read_code p) e ∙ code_is_read_lem p b w)))
