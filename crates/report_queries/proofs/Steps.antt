-- The steps of a block in one list, and arms one by one.
use Rattle.std.proofs.Common.{◌≡◌, ℕ, ◌+◌, ◌<◌, List, [], ◌∷◌, ◌++◌, length, get_or, drop, sym, ap, subst, ◌∙◌}
use Rattle.std.specs.Prelude.{Result, OnOk}
use Rattle.std.proofs.lemmas.List.{append-nil, append_assoc, at_drop_more}
use Rattle.cranelift_isle.specs.Trees.{Arms, no_arm, arm}
use Rattle.cranelift_isle.specs.SiteViews.{constraint_view}
use Rattle.core_serialize.proofs.TreeLaws.{arm_seen}
use Rattle.core_serialize.specs.declared.serialize.MatchArm.{MatchArm, MatchArm', out-MatchArm, roll-out-MatchArm}
use Rattle.cranelift_isle.specs.TreeViews.{tree_view, arm_view, arms_view}
use Rattle.report_queries.specs.Walks.{Passed, met, PlacedStep, steps_from, steps_of_arms}

-- an arm before others
arm_before : (path : List Passed) (source : ℕ) (a : MatchArm) (rest : Arms)
    → steps_of_arms path source (arm_view a rest) ≡ steps_of_arms path source (arm_view a no_arm) ++ steps_of_arms path source rest
unfolding arm_view
arm_before path source (MatchArm' c fields body) rest =
    ap (λ (l : List PlacedStep). l ++ steps_of_arms path source rest) (sym (append-nil (steps_from (path ++ met source (constraint_view c) ∷ []) (tree_view body))))

pub arm_more : (path : List Passed) (source : ℕ) (xs : List MatchArm) (i : ℕ) (x : MatchArm) (before after whole : List PlacedStep) → i < length xs → x ≡ get_or xs i x
    → after ≡ before ++ steps_of_arms path source (arm_view x no_arm)
    → before ++ steps_of_arms path source (arms_view (drop i xs)) ≡ whole → after ++ steps_of_arms path source (arms_view (drop (i + 1) xs)) ≡ whole
arm_more path source xs i x before after whole h at a inv =
    let rest = arms_view (drop (i + 1) xs) in
    ap (λ (l : List PlacedStep). l ++ steps_of_arms path source rest) a
    ∙ append_assoc before (steps_of_arms path source (arm_view x no_arm)) (steps_of_arms path source rest)
    ∙ ap (λ (l : List PlacedStep). before ++ l)
    (sym (arm_before path source x rest) ∙ ap (λ (y : MatchArm). steps_of_arms path source (arm_view y rest)) at ∙ sym (at_drop_more (λ (l : List MatchArm). steps_of_arms path source (arms_view l)) xs i x h))
    ∙ inv

-- an arm alone
pub arm_alone : (path : List Passed) (source : ℕ) (a : MatchArm)
    → steps_of_arms path source (arm_view a no_arm) ≡ steps_from (path ++ met source (constraint_view (out-MatchArm a).constraint) ∷ []) (tree_view (out-MatchArm a).body)
arm_alone path source a =
    ap (λ (y : MatchArm). steps_of_arms path source (arm_view y no_arm)) (sym (roll-out-MatchArm a))
    ∙ ap (steps_of_arms path source) (arm_seen (out-MatchArm a).constraint (out-MatchArm a).bindings (out-MatchArm a).body no_arm)
    ∙ append-nil (steps_from (path ++ met source (constraint_view (out-MatchArm a).constraint) ∷ []) (tree_view (out-MatchArm a).body))

-- what was added is the same under another name
pub added_so : {A E : Type 0} (r : Result A E) (now held xs ys : List PlacedStep) → xs ≡ ys → OnOk r (now ≡ held ++ xs) → OnOk r (now ≡ held ++ ys)
added_so r now held xs ys e h = subst (λ (l : List PlacedStep). OnOk r (now ≡ held ++ l)) e h
