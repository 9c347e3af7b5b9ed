-- The dead returns of steps and of arms, one by one.
use Rattle.std.proofs.Common.{◌≡◌, ℕ, ◌+◌, ◌<◌, List, ◌++◌, length, get_or, drop, Option, Some, None, refl, sym, ap, ◌∙◌}
use Rattle.std.proofs.lemmas.List.{append_assoc, at_drop_more, map-append}
use Rattle.core_syntax.specs.declared.syntax.Pos.{Pos}
use Rattle.core_syntax.specs.SyntaxViews.{position}
use Rattle.cranelift_isle.specs.Trees.{Tree, step, match_at, equal_at, loop_at, Arms, arm}
use Rattle.cranelift_isle.specs.SiteViews.{constraint_view}
use Rattle.cranelift_isle.specs.TreeViews.{tree_view, arm_view, arms_view}
use Rattle.core_serialize.proofs.TreeLaws.{arm_seen}
use Rattle.core_serialize.specs.declared.serialize.MatchArm.{MatchArm, out-MatchArm, roll-out-MatchArm}
use Rattle.model.specs.lists.Syntax.{Position}
use Rattle.laws_ways.specs.DeadReturns.{returns, returns_among}
use Rattle.report_warnings.specs.DeadReturns.{place_pairs, dead_from, dead_among_from, PassesStep}

abbrev Pairs : Type 0
Pairs = List (Position × Position)

-- 1. steps
dead_match : (first : Option Pos) (binds : List ℕ) (source : ℕ) (arms : Arms) (rest : Tree)
    → dead_from first (step binds (match_at source arms) rest) ≡ dead_among_from first arms ++ dead_from first rest
dead_match None binds source arms rest = refl
dead_match (Some p) binds source arms rest = map-append (λ at. (at, position p)) (returns_among arms) (returns rest)

dead_equal : (first : Option Pos) (binds : List ℕ) (a b : ℕ) (body rest : Tree)
    → dead_from first (step binds (equal_at a b body) rest) ≡ dead_from first body ++ dead_from first rest
dead_equal None binds a b body rest = refl
dead_equal (Some p) binds a b body rest = map-append (λ at. (at, position p)) (returns body) (returns rest)

dead_loop : (first : Option Pos) (binds : List ℕ) (result : ℕ) (body rest : Tree)
    → dead_from first (step binds (loop_at result body) rest) ≡ dead_from first body ++ dead_from first rest
dead_loop None binds result body rest = refl
dead_loop (Some p) binds result body rest = map-append (λ at. (at, position p)) (returns body) (returns rest)

passed : (before now inside : Pairs) (rest whole : Pairs) → now ≡ before ++ inside → whole ≡ inside ++ rest → now ++ rest ≡ before ++ whole
passed before now inside rest whole e f =
    ap (λ (l : Pairs). l ++ rest) e ∙ append_assoc before inside rest ∙ ap (λ (l : Pairs). before ++ l) (sym f)

pub passes_match : (first : Option Pos) (source : ℕ) (arms : Arms) (before now : List (Pos × Pos)) → place_pairs now ≡ place_pairs before ++ dead_among_from first arms
    → PassesStep first first (match_at source arms) before now
passes_match first source arms before now e binds rest =
    passed (place_pairs before) (place_pairs now) (dead_among_from first arms) (dead_from first rest) _ e (dead_match first binds source arms rest)

pub passes_equal : (first : Option Pos) (a b : ℕ) (body : Tree) (before now : List (Pos × Pos)) → place_pairs now ≡ place_pairs before ++ dead_from first body
    → PassesStep first first (equal_at a b body) before now
passes_equal first a b body before now e binds rest =
    passed (place_pairs before) (place_pairs now) (dead_from first body) (dead_from first rest) _ e (dead_equal first binds a b body rest)

pub passes_loop : (first : Option Pos) (result : ℕ) (body : Tree) (before now : List (Pos × Pos)) → place_pairs now ≡ place_pairs before ++ dead_from first body
    → PassesStep first first (loop_at result body) before now
passes_loop first result body before now e binds rest =
    passed (place_pairs before) (place_pairs now) (dead_from first body) (dead_from first rest) _ e (dead_loop first binds result body rest)

-- 2. arms
arm_opened : (a : MatchArm) (rest : Arms) → arm_view a rest ≡ arm (constraint_view (out-MatchArm a).constraint) (out-MatchArm a).bindings.items (tree_view (out-MatchArm a).body) rest
arm_opened a rest =
    ap (λ (y : MatchArm). arm_view y rest) (sym (roll-out-MatchArm a)) ∙ arm_seen (out-MatchArm a).constraint (out-MatchArm a).bindings (out-MatchArm a).body rest

dead_arm : (first : Option Pos) (a : MatchArm) (rest : Arms)
    → dead_among_from first (arm_view a rest) ≡ dead_from first (tree_view (out-MatchArm a).body) ++ dead_among_from first rest
dead_arm first a rest = ap (dead_among_from first) (arm_opened a rest) ∙ of first
  where
    of : (o : Option Pos)
        → dead_among_from o (arm (constraint_view (out-MatchArm a).constraint) (out-MatchArm a).bindings.items (tree_view (out-MatchArm a).body) rest)
        ≡ dead_from o (tree_view (out-MatchArm a).body) ++ dead_among_from o rest
    of None = refl
    of (Some p) = map-append (λ at. (at, position p)) (returns (tree_view (out-MatchArm a).body)) (returns_among rest)

-- one more arm
pub arms_more : (first : Option Pos) (xs : List MatchArm) (i : ℕ) (x : MatchArm) (before after whole : Pairs) → i < length xs → x ≡ get_or xs i x
    → after ≡ before ++ dead_from first (tree_view (out-MatchArm x).body)
    → before ++ dead_among_from first (arms_view (drop i xs)) ≡ whole → after ++ dead_among_from first (arms_view (drop (i + 1) xs)) ≡ whole
arms_more first xs i x before after whole h at a inv =
    let rest = arms_view (drop (i + 1) xs) in
    ap (λ (l : Pairs). l ++ dead_among_from first rest) a
    ∙ append_assoc before (dead_from first (tree_view (out-MatchArm x).body)) (dead_among_from first rest)
    ∙ ap (λ (l : Pairs). before ++ l)
    (sym (dead_arm first x rest) ∙ ap (λ (y : MatchArm). dead_among_from first (arm_view y rest)) at ∙ sym (at_drop_more (λ (l : List MatchArm). dead_among_from first (arms_view l)) xs i x h))
    ∙ inv
