-- Loops over lines: a step, and the end.
use Rattle.std.proofs.Common.{◌≡◌, ℕ, zero, suc, ◌+◌, ◌<◌, ◌≤◌, Bool, true, false, not, ◌&&◌, ◌||◌, List, [], ◌∷◌, length, get_or, drop, take, refl, sym, ap, ◌∙◌}
use Rattle.std.specs.List.{prefix_len}
use Rattle.std.proofs.lemmas.List.{at_drop_more, at_drop_all}
use Rattle.report_compare.specs.declared.SaidLine.{SaidLine}
use Rattle.report_compare.specs.Agreement.{each_head, tree_of}
use Rattle.report_compare.specs.LineViews.{texts_of}
use Rattle.report_compare.specs.SaidLines.{is_head}

pub and_assoc : (a b c : Bool) → ((a && b) && c) ≡ (a && (b && c))
and_assoc true b c = refl
and_assoc false b c = refl

pub and_true : (a : Bool) → (a && true) ≡ a
and_true true = refl
and_true false = refl

pub and_false : (a : Bool) → (a && false) ≡ false
and_false true = refl
and_false false = refl

pub or_true : (a : Bool) → (a || true) ≡ true
or_true true = refl
or_true false = refl

pub or_false : (a : Bool) → (a || false) ≡ a
or_false true = refl
or_false false = refl

pub ruleset tests = (and_assoc, and_true, and_false, or_true, or_false)

-- as many lines as a tree has are the tree
taken : (n : ℕ) (xs : List SaidLine) → texts_of (take (length (take n (texts_of xs))) xs) ≡ take n (texts_of xs)
taken zero xs = refl
taken (suc n) [] = refl
taken (suc n) (x ∷ xs) = ap (λ (ls : List (List ℕ)). x.text.now ∷ ls) (taken n xs)

pub tree_taken : (xs : List SaidLine) → texts_of (take (length (tree_of (texts_of xs))) xs) ≡ tree_of (texts_of xs)
tree_taken xs = taken (prefix_len (λ l. not (is_head l)) (texts_of xs)) xs

module _ (p : List ℕ → List (List ℕ) → Bool) (xs : List SaidLine) where
  pub each_more : (i : ℕ) (x : SaidLine) (before after whole : Bool) → i < length xs → x ≡ get_or xs i x
      → after ≡ (before && (not (is_head x.text.now) || p x.text.now (texts_of (drop (i + 1) xs))))
      → (before && each_head p (texts_of (drop i xs))) ≡ whole → (after && each_head p (texts_of (drop (i + 1) xs))) ≡ whole
  each_more i x before after whole h at a inv =
      let rest = each_head p (texts_of (drop (i + 1) xs)) in
      let one = not (is_head x.text.now) || p x.text.now (texts_of (drop (i + 1) xs)) in
      ap (λ (b : Bool). b && rest) a ∙ and_assoc before one rest
      ∙ ap (λ (b : Bool). before && b)
      (ap (λ (y : SaidLine). each_head p (texts_of (y ∷ drop (i + 1) xs))) at ∙ sym (at_drop_more (λ (ls : List SaidLine). each_head p (texts_of ls)) xs i x h))
      ∙ inv

  pub each_none : (i : ℕ) (before whole : Bool) → length xs ≤ i → (before && each_head p (texts_of (drop i xs))) ≡ whole → before ≡ whole
  each_none i before whole h inv =
      sym (and_true before) ∙ ap (λ (b : Bool). before && b) (sym (at_drop_all (λ (ls : List SaidLine). each_head p (texts_of ls)) xs i h)) ∙ inv
