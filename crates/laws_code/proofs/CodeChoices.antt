-- The chain: the code of a tree runs as the tree, the tree as the source rules choose.
use Rattle.std.proofs.Common.{◌≡◌, ◌≤◌, ◌<◌, ◌++◌, ℕ, suc, List, [], ◌∷◌, length, drop, refl, sym, ap, subst, ◌∙◌, arith}
use Rattle.std.specs.Prelude.{IsPermutation}
use Rattle.std.proofs.lemmas.List.{take-append-drop, length-take-le}
use Rattle.std.proofs.lemmas.List.Sorted.{length_permutation}
use Rattle.std.proofs.lemmas.Grind.{common_steps}
use Rattle.model.specs.rules.Meaning.{Content}
use Rattle.model.specs.rules.Outcome.{Outcome}
use Rattle.model.specs.rules.Program.{rules_of}
use Rattle.model.specs.rules.Picks.{bag}
use Rattle.model.specs.trees.Run.{world_of}
use Rattle.model.specs.trees.Collects.{Collects}
use Rattle.model.specs.claims.Layers.{own_program, BestTreesKeepTheHeadline}
use Rattle.model_code.specs.CodeLaws.{IsCut}
use Rattle.model_code.specs.PrintedCode.{PrintedCodeRuns}
use Rattle.laws_code.specs.CodeChoices.{CollectsUpTo, CodeOfLoweredTermsMeans, CodeChoosesAsSource}

-- what a list without elements begins with
none_before : {X : Type 0} (xs more : List X) → xs ++ more ≡ [] → xs ≡ []
none_before [] more e = refl
none_before (x ∷ xs) more e = grind (arith, common_steps)

-- a run that collects a bag, cut
cut_collects : (n : ℕ) (whole cut : Outcome) (expected : List Content) → Collects whole expected → IsCut (suc n) whole cut → CollectsUpTo (suc n) cut expected
cut_collects n whole cut expected c k = record {
  calls = none_before cut.calls k.calls.0 (sym k.calls.1 ∙ c.calls);
  part = (drop (suc n) whole.results, subst (IsPermutation expected) (sym (ap (λ xs. xs ++ drop (suc n) whole.results) k.results ∙ take-append-drop (suc n) whole.results)) c.same);
  full = λ le. ap length k.results ∙ length-take-le (suc n) whole.results (subst (λ x. suc n ≤ x) (sym same) le);
  ending = λ le. k.ending (subst (λ x. suc n ≤ x) (sym same) le);
  all = λ lt. subst (λ o. Collects o expected) (sym (k.below (subst (λ x. x < suc n) (sym same) lt))) c;
}
  where
    same : length whole.results ≡ length expected
    same = length_permutation expected whole.results c.same

pub code_of_lowered_terms_means_lem : PrintedCodeRuns → CodeOfLoweredTermsMeans
code_of_lowered_terms_means_lem printed p l low passes deep n = record {
  chooses = λ single m args typed serves apart.
      let k = printed l.set l.tree (world_of p l.term l.set.sites m args) passes deep n low.best refl in
      let h = low.headline.runs single m args typed serves apart in
      (k.whole ∙ h.0, h.1);
  collects = λ multi each m args typed serves apart.
      let k = printed l.set l.tree (world_of p l.term l.set.sites m args) passes deep n low.best refl in
      let h = low.collects multi each m args typed serves apart in
      (subst (λ o. Collects o (bag p m (rules_of p l.term) args)) (sym k.whole) h, λ most. cut_collects most _ _ _ h (k.cut most));
}

pub code_chooses_as_source_lem : BestTreesKeepTheHeadline → CodeOfLoweredTermsMeans → CodeChoosesAsSource
code_chooses_as_source_lem headline code defs expand rules l accepted built best = code (own_program defs rules) l (headline defs expand rules l accepted built best)
