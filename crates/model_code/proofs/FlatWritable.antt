-- Code with labels can be written where the code without can.
use Rattle.std.proofs.Common.{◌≡◌, ◌&&◌, ℕ, suc, Bool, true, false, refl, arith}
use Rattle.std.proofs.lemmas.Bool.{and_parts, and_from, or_parts, false≢true}
use Rattle.std.proofs.lemmas.Grind.{common_steps}
use Rattle.model_code.specs.Code.{PlaceUse, Block, no_statement, statement, Statement, bind, match_on, if_equal, for_each_of, give, labelled, unless_let, unless_equal, CodeArms, no_code_arm, code_arm}
use Rattle.model_code.specs.Flat.{unlabelled, unlabelled_at, unlabelled_arms, within, flat, flat_at, flat_arms, leaving, leaving_last, leaving_match}
use Rattle.model_code.specs.Notation.{Notation}
use Rattle.model_code.specs.Pieces.{is_left, leaves_at, leaves_arms, result_ends, is_end, unless_end}
use Rattle.model_code.specs.ReadsBack.{pattern_writable, match_writable, writable, writable_at, writable_arms, FlatKeepsWritable}
use Rattle.model_code.proofs.Written.{with_label}

module _ (p : Notation) where
  -- 1. where no test leaves a label, none has to be around
  mutual
    without_label : (b : Block) → is_left (result_ends p) b ≡ false → writable p true b ≡ true → writable p false b ≡ true
    without_label no_statement l h = refl
    without_label (statement s later) l h = grind (arith, common_steps, without_label_at s, without_label later, or_parts, and_parts, and_from)

    without_label_at : (s : Statement) → leaves_at (result_ends p) s ≡ false → writable_at p true s ≡ true → writable_at p false s ≡ true
    without_label_at (match_on u arms) l h = without_label_arms arms u l h
    without_label_at (if_equal a b body) l h = without_label body l h
    without_label_at (for_each_of v from body) l h = without_label body l h
    without_label_at s l h = grind (arith, common_steps)

    without_label_arms : (arms : CodeArms) (u : PlaceUse) → leaves_arms (result_ends p) arms ≡ false → writable_arms p true u arms ≡ true → writable_arms p false u arms ≡ true
    without_label_arms no_code_arm u l h = refl
    without_label_arms (code_arm pattern fields body rest) u l h = grind (arith, without_label body, without_label_arms rest u, or_parts, and_parts, and_from)

  within_writable : (deep label : Bool) (inner plain : Block) → writable p true inner ≡ true → writable p false plain ≡ true → writable p label (within deep inner plain) ≡ true
  within_writable true label inner plain h k = and_from _ _ (grind (arith, without_label)) refl
  within_writable false label inner plain h k = with_label p plain label k

  unlabelled_end : (s : Statement) (deep : ℕ → Bool) (n : ℕ) → is_end (result_ends p) (flat_at s deep n) ≡ is_end (result_ends p) s
  unlabelled_end s deep n = grind (arith, common_steps)

  later_flat : (ended : Bool) (x y : Bool) → unless_end ended true x ≡ true → (x ≡ true → y ≡ true) → unless_end ended true y ≡ true
  later_flat ended x y h k = grind (arith, common_steps)

  module _ (deep : ℕ → Bool) where
    mutual
      flat_back : (b : Block) (n : ℕ) (label : Bool) → unlabelled b ≡ true → writable p false b ≡ true → writable p label (flat b deep n) ≡ true
      flat_back no_statement n label u h = refl
      flat_back (statement s rest) n label u h = grind (arith, flat_back_at s n label, flat_back rest n label, and_parts, unlabelled_end, and_from, later_flat)

      flat_back_at : (s : Statement) (n : ℕ) (label : Bool) → unlabelled_at s ≡ true → writable_at p false s ≡ true → writable_at p label (flat_at s deep n) ≡ true
      flat_back_at (bind v e) n label u h = h
      flat_back_at (match_on x arms) n label u h = flat_back_arms arms n label x u h
      flat_back_at (if_equal a b body) n label u h = within_writable (deep n) label (leaving body deep (suc n)) (flat body deep (suc n)) (leaving_back body (suc n) u h) (flat_back body (suc n) false u h)
      flat_back_at (for_each_of v from body) n label u h = within_writable (deep n) label (leaving body deep (suc n)) (flat body deep (suc n)) (leaving_back body (suc n) u h) (flat_back body (suc n) false u h)
      flat_back_at (labelled body) n label u h = absurd (false≢true u)
      flat_back_at (unless_let x pattern fields) n label u h = absurd (false≢true u)
      flat_back_at (unless_equal a b) n label u h = absurd (false≢true u)
      flat_back_at s n label u h = refl

      flat_back_arms : (arms : CodeArms) (n : ℕ) (label : Bool) (x : PlaceUse) → unlabelled_arms arms ≡ true → writable_arms p false x arms ≡ true → writable_arms p label x (flat_arms arms deep n) ≡ true
      flat_back_arms no_code_arm n label x u h = refl
      flat_back_arms (code_arm pattern fields body rest) n label x u h =
          let us = and_parts (unlabelled body) (unlabelled_arms rest) u in
          let hs = and_parts (pattern_writable p pattern fields && match_writable p x pattern) (writable p false body && writable_arms p false x rest) h in
          let ks = and_parts (writable p false body) (writable_arms p false x rest) hs.1 in
          and_from _ _ hs.0 (and_from _ _
          (within_writable (deep n) label (leaving body deep (suc n)) (flat body deep (suc n)) (leaving_back body (suc n) us.0 ks.0) (flat_back body (suc n) false us.0 ks.0))
          (flat_back_arms rest n label x us.1 ks.1))

      leaving_back : (b : Block) (n : ℕ) → unlabelled b ≡ true → writable p false b ≡ true → writable p true (leaving b deep n) ≡ true
      leaving_back no_statement n u h = refl
      leaving_back (statement s no_statement) n u h = leaving_last_back s n (and_parts (unlabelled_at s) true u).0 (and_parts (writable_at p false s) (unless_end (is_end (result_ends p) s) true true) h).0
      leaving_back (statement s (statement next rest)) n u h =
          let us = and_parts (unlabelled_at s) (unlabelled (statement next rest)) u in
          let hs = and_parts (writable_at p false s) (unless_end (is_end (result_ends p) s) true (writable p false (statement next rest))) h in
          rw (unlabelled_end s deep n) (and_from _ _ (flat_back_at s n true us.0 hs.0)
          (later_flat (is_end (result_ends p) s) (writable p false (statement next rest)) (writable p true (leaving (statement next rest) deep n)) hs.1 (λ k. leaving_back (statement next rest) n us.1 k)))

      leaving_last_back : (s : Statement) (n : ℕ) → unlabelled_at s ≡ true → writable_at p false s ≡ true → writable p true (leaving_last s deep n) ≡ true
      leaving_last_back (bind v e) n u h = and_from _ _ h refl
      leaving_last_back (match_on x arms) n u h = leaving_match_back x arms n u h
      leaving_last_back (if_equal a b body) n u h = leaving_back body n u h
      leaving_last_back (for_each_of v from body) n u h = grind (arith, leaving_back body (suc n) u h, flat_back body (suc n) false u h, and_from, within_writable)
      leaving_last_back (give at x) n u h = grind (arith, and_from)
      leaving_last_back (labelled body) n u h = absurd (false≢true u)
      leaving_last_back (unless_let x pattern fields) n u h = absurd (false≢true u)
      leaving_last_back (unless_equal a b) n u h = absurd (false≢true u)
      leaving_last_back s n u h = refl

      leaving_match_back : (x : PlaceUse) (arms : CodeArms) (n : ℕ) → unlabelled_arms arms ≡ true → writable_arms p false x arms ≡ true → writable p true (leaving_match x arms deep n) ≡ true
      leaving_match_back x no_code_arm n u h = refl
      leaving_match_back x (code_arm pattern fields body no_code_arm) n u h =
          let hs = and_parts (pattern_writable p pattern fields && match_writable p x pattern) (writable p false body && true) h in
          and_from _ _ hs.0 (leaving_back body n (and_parts (unlabelled body) true u).0 (and_parts (writable p false body) true hs.1).0)
      leaving_match_back x (code_arm pattern fields body (code_arm p2 f2 b2 rest)) n u h =
          let us = and_parts (unlabelled body) (unlabelled b2 && unlabelled_arms rest) u in
          let vs = and_parts (unlabelled b2) (unlabelled_arms rest) us.1 in
          let hs = and_parts (pattern_writable p pattern fields && match_writable p x pattern) (writable p false body && ((pattern_writable p p2 f2 && match_writable p x p2) && (writable p false b2 && writable_arms p false x rest))) h in
          let is = and_parts (writable p false body) ((pattern_writable p p2 f2 && match_writable p x p2) && (writable p false b2 && writable_arms p false x rest)) hs.1 in
          let js = and_parts (pattern_writable p p2 f2 && match_writable p x p2) (writable p false b2 && writable_arms p false x rest) is.1 in
          let ks = and_parts (writable p false b2) (writable_arms p false x rest) js.1 in
          and_from _ _ (and_from _ _ hs.0 (and_from _ _
          (within_writable (deep n) true (leaving body deep (suc n)) (flat body deep (suc n)) (leaving_back body (suc n) us.0 is.0) (flat_back body (suc n) false us.0 is.0))
          (and_from _ _ js.0 (and_from _ _
          (within_writable (deep n) true (leaving b2 deep (suc n)) (flat b2 deep (suc n)) (leaving_back b2 (suc n) vs.0 ks.0) (flat_back b2 (suc n) false vs.0 ks.0))
          (flat_back_arms rest n true x vs.1 ks.1))))) refl

pub flat_keeps_writable_lem : FlatKeepsWritable
flat_keeps_writable_lem p b deep n u h = flat_back p deep b n false u h
