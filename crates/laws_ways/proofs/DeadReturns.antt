-- Dead returns are never run, and they are what is cut off.
use Rattle.std.proofs.Common.{◌≡◌, false, List, [], ◌∷◌, ◌++◌, map, refl, sym, ap, subst, subst₂, arith}
use Rattle.std.proofs.lemmas.Grind.{common_steps}
use Rattle.std.specs.Prelude.{IsPermutation, slice_get}
use Rattle.std.proofs.lemmas.List.{append_assoc}
use Rattle.std.proofs.lemmas.List.Sorted.{IsPermutation-refl, IsPermutation-trans, IsPermutation-append, IsPermutation-append_left, IsPermutation-append_right, IsPermutation-append_comm}
use Rattle.model.specs.lists.Syntax.{Position}
use Rattle.model.specs.rules.Meaning.{Content}
use Rattle.model.specs.rules.Outcome.{then_option}
use Rattle.model.specs.trees.Trees.{Tree, step, match_at, equal_at, loop_at, Arms, no_arm, arm}
use Rattle.model.specs.trees.Run.{World, Env, Trace, used, used_value, on_equal, bind_all, iterated, run_tree, run_arms, at_start}
use Rattle.laws_ways.specs.DeadReturns.{returns, returns_among, dead_returns, dead_among, without_dead, arms_without_dead, DeadReturnsNeverRun, DeadReturnsAreCutOff}
use Rattle.laws_ways.proofs.SameRuns.{bound_same, next_same, content_same, met_same, many_same, return_same}

module _ (w : World) (single : w.multi ≡ false) where
  mutual
    runs_alike : (tree : Tree) (env : Env) (t : Trace) → run_tree (without_dead tree) w env t ≡ run_tree tree w env t
    runs_alike (step binds (match_at source arms) rest) env t =
        bound_same (bind_all w env t.calls binds) t _ _ (λ env' t'. next_same _ _ _ _
        (content_same (used w env' source) t' _ _ (λ c. arms_alike arms c env' t'))
        (λ t''. runs_alike rest env' t''))
    runs_alike (step binds (equal_at a b body) rest) env t =
        bound_same (bind_all w env t.calls binds) t _ _ (λ env' t'. next_same _ _ _ _
        (ap (on_equal (used_value w env' a) (used_value w env' b) t') (runs_alike body env' t'))
        (λ t''. runs_alike rest env' t''))
    runs_alike (step binds (loop_at result body) rest) env t =
        bound_same (bind_all w env t.calls binds) t _ _ (λ env' t'. next_same _ _ _ _
        (many_same (then_option (then_option (slice_get w.sites result) iterated) (used w env')) _ _ t' (λ c t''. runs_alike body ((result, c) ∷ env') t''))
        (λ t''. runs_alike rest env' t''))
    runs_alike tree env t = grind (arith, common_steps, bound_same, return_same)

    arms_alike : (arms : Arms) (c : Content) (env : Env) (t : Trace) → run_arms (arms_without_dead arms) w c env t ≡ run_arms arms w c env t
    arms_alike (arm constraint fields body rest) c env t = grind (arith, common_steps, runs_alike body, arms_alike rest c env t, met_same)
    arms_alike no_arm c env t = refl

pub dead_returns_never_run_lem : DeadReturnsNeverRun
dead_returns_never_run_lem tree w single = runs_alike w single tree [] at_start

-- a, b, c, d with b and c exchanged
middle : {Z : Type 0} (a b c d : List Z) → IsPermutation ((a ++ b) ++ (c ++ d)) ((a ++ c) ++ (b ++ d))
middle a b c d =
    subst₂ IsPermutation (sym (append_assoc a b (c ++ d))) (sym (append_assoc a c (b ++ d)))
    (IsPermutation-append_right a (b ++ (c ++ d)) (c ++ (b ++ d))
    (subst₂ IsPermutation (append_assoc b c d) (append_assoc c b d) (IsPermutation-append_left d (b ++ c) (c ++ b) (IsPermutation-append_comm b c))))

abbrev told : List (Position × Position) → List Position
told ds = map (λ d. d.0) ds

told_append : (as' bs : List (Position × Position)) → told (as' ++ bs) ≡ told as' ++ told bs
told_append [] bs = refl
told_append (a ∷ as') bs = ap (λ (l : List Position). a.0 ∷ l) (told_append as' bs)

told_behind : (first : Position) (ats : List Position) → told (map (λ at. (at, first)) ats) ≡ ats
told_behind first [] = refl
told_behind first (at ∷ ats) = ap (λ (l : List Position). at ∷ l) (told_behind first ats)

-- of two parts, what stays and what is dead of both
both_cut : (here there kept kept' : List Position) (dead dead' : List (Position × Position))
    → IsPermutation here (kept ++ told dead) → IsPermutation there (kept' ++ told dead')
    → IsPermutation (here ++ there) ((kept ++ kept') ++ told (dead ++ dead'))
both_cut here there kept kept' dead dead' p q =
    IsPermutation-trans _ ((kept ++ told dead) ++ (kept' ++ told dead')) _
    (IsPermutation-append here (kept ++ told dead) there (kept' ++ told dead') p q)
    (subst (λ (l : List Position). IsPermutation ((kept ++ told dead) ++ (kept' ++ told dead')) ((kept ++ kept') ++ l)) (sym (told_append dead dead'))
    (middle kept (told dead) kept' (told dead')))

mutual
  cut_off : (tree : Tree) → IsPermutation (returns tree) (returns (without_dead tree) ++ told (dead_returns tree))
  cut_off (step binds (match_at source arms) rest) = grind (arith, common_steps, cut_among arms, cut_off rest, both_cut)
  cut_off (step binds (equal_at a b body) rest) = grind (arith, common_steps, cut_off body, cut_off rest, both_cut)
  cut_off (step binds (loop_at result body) rest) = grind (arith, common_steps, cut_off body, cut_off rest, both_cut)
  cut_off tree = grind (arith, common_steps, IsPermutation-refl, told_behind)

  cut_among : (arms : Arms) → IsPermutation (returns_among arms) (returns_among (arms_without_dead arms) ++ told (dead_among arms))
  cut_among (arm constraint fields body rest) = grind (arith, common_steps, cut_off body, cut_among rest, both_cut)
  cut_among no_arm = IsPermutation-refl []

pub dead_returns_are_cut_off_lem : DeadReturnsAreCutOff
dead_returns_are_cut_off_lem = cut_off
