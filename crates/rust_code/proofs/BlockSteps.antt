-- The code of steps, tests and arms, by their views.
use Rattle.std.proofs.Common.{◌≡◌, ℕ, suc, ◌+◌, ◌-◌, ◌<◌, ◌≤◌, ◌&&◌, ◌==◌, Bool, true, false, List, [], ◌∷◌, ◌++◌, length, get_or, drop, slice_get, Vec, arith, refl, sym, ap, ◌∙◌}
use Rattle.std.proofs.lemmas.Bool.{false≢true, eq-eqb, eqb-true}
use Rattle.std.proofs.lemmas.List.{at_drop_more, at_drop_all, length-drop}
use Rattle.std.specs.declared.alloc.Global.{Global}
use Rattle.core_syntax.specs.declared.syntax.Pos.{Pos}
use Rattle.core_syntax.specs.SyntaxViews.{position}
use Rattle.model.specs.sites.Sites.{Site}
use Rattle.model.specs.trees.Trees.{Tree, match_at, Arms, no_arm, arm}
use Rattle.model_code.specs.Code as M
use Rattle.model_code.specs.Code.{Block, no_statement, statement, CodeArms, no_code_arm, code_arm}
use Rattle.model_code.specs.TreeCode.{Passes, use_at, to_match, to_compare, to_result, binds_code, loop_code, tree_code, check_code, arms_code}
use Rattle.model_code.specs.Flat.{within, flat, flat_at, flat_arms, leaving, leaving_last}
use Rattle.core_serialize.specs.declared.serialize.EvalStep.{EvalStep}
use Rattle.core_serialize.specs.declared.serialize.Block as Tree
use Rattle.core_serialize.specs.declared.serialize.ControlFlow.{ControlFlow, Match, Equal, Loop, Return}
use Rattle.core_serialize.specs.declared.serialize.MatchArm.{MatchArm, out-MatchArm, roll-out-MatchArm}
use Rattle.core_serialize.specs.TreeViews.{tree_view, check_view, steps_view, arms_view}
use Rattle.core_serialize.specs.TreeViews as TreeViews
use Rattle.core_serialize.proofs.TreeLaws as TreeLaws
use Rattle.core_serialize.proofs.TreeLaws.{arm_seen}
use Rattle.core_rule_sets.specs.SiteViews.{constraint_view}
use Rattle.rust_code.specs.declared.code.CodeBlock.{CodeBlock}
use Rattle.rust_code.specs.declared.code.CodeArm.{CodeArm}
use Rattle.rust_code.specs.declared.code.Statement.{Statement}
use Rattle.rust_code.specs.CodeViews.{statement_view, before, block_view, arm_view, arms_before}
use Rattle.rust_code.specs.Labels.{room_at, is_deep, shaped, with_check, IsWhereEnded}
use Rattle.rust_code.proofs.StatementSteps.{arms_pushed}
use Rattle.rust_code.proofs.CodeShapes.{flat_step, leaving_step, leaving_end, loop_same, loop_stays}

-- 1. numbers
pub room_inside : (room inside n : ℕ) → inside ≡ room - 1 → room ≡ room_at n → inside ≡ room_at (suc n)
room_inside room inside n i r = omega (arith, i, r)

not_true : (x : Bool) → (x ≡ true → ⊥) → x ≡ false
not_true true h = absurd (h refl)
not_true false h = refl

ended_in : {X : Type 0} (tail : List X) (count number : ℕ) → length tail ≡ count - number → number ≤ count → tail ≡ [] → (number == count) ≡ true
ended_in tail count number e h is =
    let z : length tail ≡ 0 = ap length is in
    eq-eqb number count (omega (arith, e, h, z))

going_on : {X : Type 0} (t : X) (tail : List X) (count number : ℕ) → suc (length tail) ≡ count - number → number ≤ count → (number == count) ≡ false
going_on t tail count number e h = not_true (number == count) (λ y. let same = eqb-true number count y in omega (arith, e, h, same))

-- the only item of a list, and lists without one
pub only_item : {X : Type 0} (l : List X) (a : X) → 1 ≤ length l → length l < 2 → a ≡ get_or l 0 a → l ≡ a ∷ []
only_item [] a some few at = absurd (omega (arith, some))
only_item (b ∷ []) a some few at = ap (λ x. x ∷ []) (sym at)
only_item (b ∷ (c ∷ l)) a some few at = absurd (omega (arith, few))

pub none_not_one : {X : Type 0} (l : List X) → length l < 1 → length l ≡ 1 → ⊥
none_not_one l none one = omega (arith, none, one)

pub many_not_one : {X : Type 0} (l : List X) → 2 ≤ length l → length l ≡ 1 → ⊥
many_not_one l many one = omega (arith, many, one)

-- 2. a step
module _ (sites : List Site) (p : Passes) where
  abbrev pub after : Bool → List EvalStep → ℕ → Block
  after leaves ss n = shaped leaves (tree_code (steps_view ss) sites p) n

  abbrev pub stepped : Bool → EvalStep → ℕ → Block → Block
  stepped ends s n rest = binds_code sites p s.bind_order.items (with_check ends (check_code (check_view s.check) sites p) n rest)

  nothing_after : (leaves ends : Bool) (tail : List EvalStep) (number count n : ℕ) → ends ≡ (leaves && (number == count)) → length tail ≡ count - number → number ≤ count → IsWhereEnded ends (after leaves tail n)
  nothing_after false ends tail number count n e l h ended = absurd (false≢true (sym e ∙ ended))
  nothing_after true ends [] number count n e l h ended = refl
  nothing_after true ends (t ∷ tail) number count n e l h ended = absurd (false≢true (sym (e ∙ going_on t tail count number l h) ∙ ended))

  as_shaped : (leaves ends : Bool) (s : EvalStep) (tail : List EvalStep) (number count n : ℕ) → ends ≡ (leaves && (number == count)) → length tail ≡ count - number → number ≤ count
      → stepped ends s n (after leaves tail n) ≡ after leaves (s ∷ tail) n
  as_shaped false ends s tail number count n e l h =
      ap (λ b. stepped b s n (after false tail n)) e ∙ sym (flat_step is_deep n sites p s.bind_order.items (check_view s.check) (steps_view tail))
  as_shaped true ends s [] number count n e l h =
      ap (λ b. stepped b s n no_statement) (e ∙ ended_in {X = EvalStep} [] count number l h refl) ∙ sym (leaving_end is_deep n sites p s.bind_order.items (check_view s.check))
  as_shaped true ends s (t ∷ tail) number count n e l h =
      ap (λ b. stepped b s n (after true (t ∷ tail) n)) (e ∙ going_on t tail count number l h)
      ∙ sym (leaving_step is_deep n sites p s.bind_order.items (check_view s.check) (steps_view (t ∷ tail)) refl)

  pub steps_more : (leaves ends : Bool) (out new : List Statement) (ss : List EvalStep) (s : EvalStep) (number i n : ℕ) (whole : Block) → i < length ss → s ≡ get_or ss i s → number ≡ i + 1
      → ends ≡ (leaves && (number == length ss)) → ((rest : Block) → IsWhereEnded ends rest → before new rest ≡ before out (stepped ends s n rest))
      → before out (after leaves (drop i ss) n) ≡ whole → before new (after leaves (drop (i + 1) ss) n) ≡ whole
  steps_more leaves ends out new ss s number i n whole h at number_is e added inv =
      let tail = drop (i + 1) ss in
      let l : length tail ≡ length ss - number = length-drop (i + 1) ss ∙ ap (λ k. length ss - k) (sym number_is) in
      let m : number ≤ length ss = omega (arith, number_is, h) in
      added (after leaves tail n) (nothing_after leaves ends tail number (length ss) n e l m)
      ∙ ap (before out) (as_shaped leaves ends s tail number (length ss) n e l m ∙ ap (λ x. after leaves (x ∷ tail) n) at ∙ sym (at_drop_more (λ l. after leaves l n) ss i s h))
      ∙ inv

  nothing : (leaves : Bool) (n : ℕ) → after leaves [] n ≡ no_statement
  nothing true n = refl
  nothing false n = refl

  pub steps_done : (leaves : Bool) (out : List Statement) (ss : List EvalStep) (i n : ℕ) (whole : Block) → length ss ≤ i → before out (after leaves (drop i ss) n) ≡ whole → before out no_statement ≡ whole
  steps_done leaves out ss i n whole h inv = ap (before out) (sym (nothing leaves n) ∙ sym (at_drop_all (λ l. after leaves l n) ss i h)) ∙ inv

  -- 3. a body
  within_shaped : (deep : Bool) (b : Block) (m : ℕ) → within deep (shaped deep b m) (shaped deep b m) ≡ within deep (leaving b is_deep m) (flat b is_deep m)
  within_shaped true b m = refl
  within_shaped false b m = refl

  abbrev pub body_is : Tree → ℕ → Block
  body_is t n = within (is_deep n) (leaving (tree_code t sites p) is_deep (suc n)) (flat (tree_code t sites p) is_deep (suc n))

  pub body_made : (r : CodeBlock) (ss : List Statement) (deep : Bool) (room n : ℕ) (t : Tree) → deep ≡ (room == 0) → room ≡ room_at n → block_view r ≡ within deep (before ss no_statement) (before ss no_statement)
      → before ss no_statement ≡ shaped deep (tree_code t sites p) (suc n) → block_view r ≡ body_is t n
  body_made r ss deep room n t d e is made =
      let same : deep ≡ is_deep n = d ∙ ap (λ k. k == 0) e in
      is ∙ ap (λ b. within deep b b) made ∙ within_shaped deep (tree_code t sites p) (suc n)
      ∙ ap (λ b. within b (leaving (tree_code t sites p) is_deep (suc n)) (flat (tree_code t sites p) is_deep (suc n))) same

  -- 4. tests
  pub match_made : (r : Statement) (made : List CodeArm) (check : ControlFlow) (source : ℕ) (arms : Vec MatchArm Global) (n : ℕ) → check ≡ Match source arms
      → statement_view r ≡ M.match_on (use_at sites p to_match source) (arms_before made no_code_arm) → arms_before made no_code_arm ≡ flat_arms (arms_code (arms_view arms.items) sites p) is_deep n
      → statement_view r ≡ flat_at (check_code (check_view check) sites p) is_deep n
  match_made r made check source arms n e is a =
      is ∙ ap (M.match_on (use_at sites p to_match source)) a ∙ ap (λ k. flat_at (check_code k sites p) is_deep n) (sym (ap check_view e ∙ TreeLaws.match_seen source arms))

  pub equal_made : (r : Statement) (made : CodeBlock) (check : ControlFlow) (a b : ℕ) (body : Tree.Block) (n : ℕ) → check ≡ Equal a b body
      → statement_view r ≡ M.if_equal (use_at sites p (to_compare b) a) (use_at sites p (to_compare a) b) (block_view made) → block_view made ≡ body_is (tree_view body) n
      → statement_view r ≡ flat_at (check_code (check_view check) sites p) is_deep n
  equal_made r made check a b body n e is m =
      is ∙ ap (M.if_equal (use_at sites p (to_compare b) a) (use_at sites p (to_compare a) b)) m
      ∙ ap (λ k. flat_at (check_code k sites p) is_deep n) (sym (ap check_view e ∙ TreeLaws.equal_seen a b body))

  pub loop_made : (r : Statement) (made : CodeBlock) (check : ControlFlow) (result : ℕ) (body : Tree.Block) (n : ℕ) → check ≡ Loop result body → statement_view r ≡ loop_code (slice_get sites result) result (block_view made)
      → block_view made ≡ body_is (tree_view body) n → statement_view r ≡ flat_at (check_code (check_view check) sites p) is_deep n
  loop_made r made check result body n e is m =
      is ∙ ap (loop_code (slice_get sites result) result) m ∙ sym (loop_same is_deep n (slice_get sites result) result (tree_code (tree_view body) sites p))
      ∙ ap (λ k. flat_at (check_code k sites p) is_deep n) (sym (ap check_view e ∙ TreeLaws.loop_seen result body))

  pub result_made : (r : Statement) (check : ControlFlow) (pos : Pos) (result n : ℕ) → check ≡ Return pos result → statement_view r ≡ M.give (position pos) (use_at sites p to_result result)
      → statement_view r ≡ flat_at (check_code (check_view check) sites p) is_deep n
  result_made r check pos result n e is = is ∙ ap (λ k. flat_at (check_code k sites p) is_deep n) (sym (ap check_view e ∙ TreeLaws.return_seen pos result))

  -- 5. arms
  arm_is : (a : MatchArm) (rest : Arms) → TreeViews.arm_view a rest ≡ arm (constraint_view (out-MatchArm a).constraint) (out-MatchArm a).bindings.items (tree_view (out-MatchArm a).body) rest
  arm_is a rest = ap (λ (x : MatchArm). TreeViews.arm_view x rest) (sym (roll-out-MatchArm a)) ∙ arm_seen (out-MatchArm a).constraint (out-MatchArm a).bindings (out-MatchArm a).body rest

  abbrev pub arm_code_is : MatchArm → ℕ → CodeArms → CodeArms
  arm_code_is a n rest = code_arm (constraint_view (out-MatchArm a).constraint) (out-MatchArm a).bindings.items (body_is (tree_view (out-MatchArm a).body) n) rest

  abbrev pub arms_left : List MatchArm → ℕ → CodeArms
  arms_left arms n = flat_arms (arms_code (arms_view arms) sites p) is_deep n

  pub arms_more : (out new : List CodeArm) (arms : List MatchArm) (made : CodeArm) (a : MatchArm) (i n : ℕ) (whole : CodeArms) → i < length arms → a ≡ get_or arms i a → new ≡ out ++ made ∷ []
      → ((rest : CodeArms) → arm_view made rest ≡ arm_code_is a n rest) → arms_before out (arms_left (drop i arms) n) ≡ whole → arms_before new (arms_left (drop (i + 1) arms) n) ≡ whole
  arms_more out new arms made a i n whole h at is m inv =
      let tail = arms_left (drop (i + 1) arms) n in
      ap (λ l. arms_before l tail) is ∙ arms_pushed out made tail
      ∙ ap (arms_before out)
      (m tail ∙ ap (λ k. flat_arms (arms_code k sites p) is_deep n) (sym (arm_is a (arms_view (drop (i + 1) arms)))) ∙ ap (λ x. arms_left (x ∷ drop (i + 1) arms) n) at
      ∙ sym (at_drop_more (λ l. arms_left l n) arms i a h))
      ∙ inv

  pub arms_done : (out : List CodeArm) (arms : List MatchArm) (i n : ℕ) (whole : CodeArms) → length arms ≤ i → arms_before out (arms_left (drop i arms) n) ≡ whole → arms_before out no_code_arm ≡ whole
  arms_done out arms i n whole h inv = ap (arms_before out) (sym (at_drop_all (λ l. arms_left l n) arms i h)) ∙ inv

  -- 6. the test that ends the block of a label
  abbrev pub last_of : ControlFlow → ℕ → Block
  last_of check n = leaving_last (check_code (check_view check) sites p) is_deep n

  abbrev pub kept_whole : ControlFlow → ℕ → Block
  kept_whole check n = statement (flat_at (check_code (check_view check) sites p) is_deep n) no_statement

  pub one_arm_last : (check : ControlFlow) (source : ℕ) (arms : Vec MatchArm Global) (a : MatchArm) (n : ℕ) → check ≡ Match source arms → arms.items ≡ a ∷ []
      → leaving_last (check_code (match_at source (TreeViews.arm_view a no_arm)) sites p) is_deep n ≡ last_of check n
  one_arm_last check source arms a n e is =
      ap (λ l. leaving_last (check_code (match_at source (arms_view l)) sites p) is_deep n) (sym is)
      ∙ ap (λ k. leaving_last (check_code k sites p) is_deep n) (sym (ap check_view e ∙ TreeLaws.match_seen source arms))

  arms_whole : (source : ℕ) (arms : List MatchArm) (n : ℕ) → (length arms ≡ 1 → ⊥)
      → statement (flat_at (check_code (match_at source (arms_view arms)) sites p) is_deep n) no_statement ≡ leaving_last (check_code (match_at source (arms_view arms)) sites p) is_deep n
  arms_whole source [] n h = refl
  arms_whole source (a ∷ []) n h = absurd (h refl)
  arms_whole source (a ∷ (b ∷ arms)) n h =
      let two : arms_view (a ∷ (b ∷ arms)) ≡ arm (constraint_view (out-MatchArm a).constraint) (out-MatchArm a).bindings.items (tree_view (out-MatchArm a).body) (arm (constraint_view (out-MatchArm b).constraint) (out-MatchArm b).bindings.items (tree_view (out-MatchArm b).body) (arms_view arms)) =
      arm_is a (arms_view (b ∷ arms)) ∙ ap (arm (constraint_view (out-MatchArm a).constraint) (out-MatchArm a).bindings.items (tree_view (out-MatchArm a).body)) (arm_is b (arms_view arms)) in
      ap (λ k. statement (flat_at (check_code (match_at source k) sites p) is_deep n) no_statement) two ∙ ap (λ k. leaving_last (check_code (match_at source k) sites p) is_deep n) (sym two)

  pub many_arms_last : (check : ControlFlow) (source : ℕ) (arms : Vec MatchArm Global) (n : ℕ) → check ≡ Match source arms → (length arms.items ≡ 1 → ⊥) → kept_whole check n ≡ last_of check n
  many_arms_last check source arms n e h =
      let seen = ap check_view e ∙ TreeLaws.match_seen source arms in
      ap (λ k. statement (flat_at (check_code k sites p) is_deep n) no_statement) seen ∙ arms_whole source arms.items n h ∙ ap (λ k. leaving_last (check_code k sites p) is_deep n) (sym seen)

  pub loop_last : (check : ControlFlow) (result : ℕ) (body : Tree.Block) (n : ℕ) → check ≡ Loop result body → kept_whole check n ≡ last_of check n
  loop_last check result body n e =
      let seen = ap check_view e ∙ TreeLaws.loop_seen result body in
      ap (λ k. statement (flat_at (check_code k sites p) is_deep n) no_statement) seen
      ∙ sym (loop_stays is_deep n (slice_get sites result) result (tree_code (tree_view body) sites p)) ∙ ap (λ k. leaving_last (check_code k sites p) is_deep n) (sym seen)

  pub result_last : (check : ControlFlow) (pos : Pos) (result n : ℕ) → check ≡ Return pos result → kept_whole check n ≡ last_of check n
  result_last check pos result n e =
      let seen = ap check_view e ∙ TreeLaws.return_seen pos result in
      ap (λ k. statement (flat_at (check_code k sites p) is_deep n) no_statement) seen ∙ ap (λ k. leaving_last (check_code k sites p) is_deep n) (sym seen)

  pub equal_last : (out mid new : List Statement) (check : ControlFlow) (a b : ℕ) (body : Tree.Block) (n : ℕ) → check ≡ Equal a b body
      → ((rest : Block) → before mid rest ≡ before out (statement (M.unless_equal (use_at sites p (to_compare b) a) (use_at sites p (to_compare a) b)) rest))
      → before new no_statement ≡ before mid (shaped true (tree_code (tree_view body) sites p) n) → before new no_statement ≡ before out (last_of check n)
  equal_last out mid new check a b body n e added made =
      made ∙ added (leaving (tree_code (tree_view body) sites p) is_deep n) ∙ ap (λ k. before out (leaving_last (check_code k sites p) is_deep n)) (sym (ap check_view e ∙ TreeLaws.equal_seen a b body))

  pub arm_last : (out mid new : List Statement) (a : MatchArm) (source n : ℕ)
      → ((rest : Block) → before mid rest ≡ before out (statement (M.unless_let (use_at sites p to_match source) (constraint_view (out-MatchArm a).constraint) (out-MatchArm a).bindings.items) rest))
      → before new no_statement ≡ before mid (shaped true (tree_code (tree_view (out-MatchArm a).body) sites p) n)
      → before new no_statement ≡ before out (leaving_last (check_code (match_at source (TreeViews.arm_view a no_arm)) sites p) is_deep n)
  arm_last out mid new a source n added made =
      made ∙ added (leaving (tree_code (tree_view (out-MatchArm a).body) sites p) is_deep n) ∙ ap (λ z. before out (leaving_last (check_code (match_at source z) sites p) is_deep n)) (sym (arm_is a no_arm))
