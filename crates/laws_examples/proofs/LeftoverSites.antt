-- The set with left-over sites: a meaning whose call answers what is no number serves its rules, so its world serves the set,
-- and the run of its tree collects the bag.
use Rattle.std.proofs.Common.{◌≡◌, ◌∷◌, [], pos, true, IsTrue, is_some, refl, arith}
use Rattle.std.proofs.lemmas.Grind.{common_steps}
use Rattle.std.proofs.lemmas.List.Elements.{All-cons, All-nil}
use Rattle.std.proofs.lemmas.List.Sorted.{IsPermutation-refl}
use Rattle.model.specs.sites.Sites.{SetRule, constructor_site}
use Rattle.model.specs.trees.Collects.{content_at}
use Rattle.model.specs.claims.Layers.{own_program}
use Rattle.laws_typing.proofs.WellTypedRules.{read_programs_are_well_typed}
use Rattle.laws_trees.proofs.taken.ServesSets.{served_multi_sets_serve_lem}
use Rattle.laws_examples.proofs.ReadLists.{left_over_read}
use Rattle.laws_examples.proofs.Served.{literals_apart, serves_from}
use Rattle.laws_examples.proofs.SetStages.{built_multi, collected}
use Rattle.laws_examples.proofs.TreeStages.{judged_multi}
use Rattle.laws_examples.specs.LeftoverSites.{LeftOverCollects, LeftOverIsCollected, LeftOverIsServed, LeftOverLacksACall, kept_rule, left_over_defs, left_over_meaning, left_over_program, left_over_rules, left_over_set, left_over_tree, left_over_world}
use Rattle.laws_examples.specs.MeaningForms.{each, given}
use Rattle.laws_examples.specs.Stages.{IsBuiltOf, IsJudged}

pub left_over_built : IsBuiltOf left_over_defs left_over_rules 2 left_over_set
left_over_built = built_multi left_over_defs left_over_rules 2 left_over_set refl refl refl refl refl refl refl refl

pub left_over_judged : IsJudged left_over_set true left_over_tree
left_over_judged = judged_multi left_over_set left_over_tree refl refl refl refl refl

-- 1. the meaning serves the rules
pub left_over_is_served : LeftOverIsServed
left_over_is_served = ((grind (arith, common_steps, serves_from)), literals_apart left_over_program left_over_meaning left_over_rules.rules refl refl)

-- 2. so its world serves the set, whose one rule makes no impure call
pub left_over_is_collected : LeftOverIsCollected
left_over_is_collected = (
  collected left_over_set refl refl,
  served_multi_sets_serve_lem (own_program left_over_defs left_over_rules) 2 left_over_set (read_programs_are_well_typed left_over_read.0) left_over_built.0
      (All-cons (λ (r : SetRule). r.impure ≡ []) kept_rule [] refl (All-nil (λ (r : SetRule). r.impure ≡ [])))
      left_over_meaning (given (pos 7)) refl (grind (arith, common_steps, serves_from)) (literals_apart left_over_program left_over_meaning left_over_rules.rules refl refl),
)

pub left_over_lacks_a_call : LeftOverLacksACall
left_over_lacks_a_call = (
  (constructor_site 1 (2 ∷ []) 0, refl, tt),
  refl,
  All-cons (λ a. IsTrue (is_some (content_at left_over_world [] a))) 2 [] refl (All-nil (λ a. IsTrue (is_some (content_at left_over_world [] a)))),
  refl,
)

pub left_over_collects : LeftOverCollects
left_over_collects = (refl, record { calls = refl; ending = refl; same = IsPermutation-refl (each (pos 7 ∷ [])) })
