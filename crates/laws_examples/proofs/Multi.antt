-- The multi sample: its rules and its set are collected, the world serves it, and the run of its tree collects the bag.
use Rattle.std.proofs.Common.{◌≡◌, ◌∷◌, [], ◌∙◌, ℕ, pos, true, false, List, Some, length, slice_get, All, Contains, IsTrue, refl, sym, ap, subst, inl, inr, arith, is_some}
use Rattle.std.proofs.lemmas.Grind.{common_steps}
use Rattle.std.proofs.lemmas.Bool.{false≢true}
use Rattle.std.proofs.lemmas.List.Elements.{All-nil, All-cons}
use Rattle.std.proofs.lemmas.List.Sorted.{IsPermutation-refl, length_permutation, sum_by-IsPermutation}
use Rattle.std.proofs.lemmas.Option.{same_Some}
use Rattle.std.specs.Prelude.{IsPermutation}
use Rattle.model.proofs.Members.{in_alone, in_cases, nothing_in}
use Rattle.model.specs.claims.SetMeanings.{returning_once}
use Rattle.model.specs.rules.Meaning.{Content, many, one}
use Rattle.model.specs.rules.Picks.{Pick}
use Rattle.model.specs.rules.Values.{atom}
use Rattle.model.specs.sites.Sites.{Constraint, SetRule, argument_site, constructor_site, is_int, iterator_site}
use Rattle.model.specs.trees.Collects.{IsPureAt, ServesSet, content_at}
use Rattle.model.specs.trees.Places.{fields_of, joins_in, waits}
use Rattle.model.specs.trees.Run.{World, content_fields}
use Rattle.model.specs.trees.SetRuns.{IsReachedUnder}
use Rattle.model.specs.claims.Layers.{own_program}
use Rattle.laws_typing.proofs.WellTypedRules.{read_programs_are_well_typed}
use Rattle.laws_trees.proofs.BuiltMatches.{built_sets_match_by_demands_lem}
use Rattle.laws_trees.proofs.outcomes.Outcomes.{taken_under_picks_lem}
use Rattle.laws_trees.proofs.results.Held.{results_are_held_lem}
use Rattle.laws_trees.proofs.taken.ServesSets.{served_multi_sets_serve_lem}
use Rattle.laws_sites.proofs.built.CollectedSets.{are_collected_lem}
use Rattle.laws_sites.proofs.built.MultiCalls.{no_rule_asks_and_goes_over_lem}
use Rattle.laws_sites.proofs.built.Priorities.{one_priority_lem}
use Rattle.laws_sites.proofs.built.WholeDemands.{built_demands_are_whole_lem}
use Rattle.laws_trees.proofs.runs.Collection.{sound_trees_collect_lem}
use Rattle.laws_trees.proofs.headline.Collecting.{CollectingLaws, best_trees_collect_the_bag_lem}
use Rattle.laws_examples.proofs.LoopPlaces.{in_loop, loop_env, reached_in_loop}
use Rattle.laws_examples.proofs.Served.{multi_served}
use Rattle.laws_examples.proofs.SampleStages.{multi_stages}
use Rattle.laws_examples.proofs.SetStages.{collected}
use Rattle.laws_examples.specs.MeaningForms.{all_of, each, v}
use Rattle.laws_trees.proofs.binding.BindingJudge.{binding_judge_is_exact_lem}
use Rattle.laws_examples.proofs.UsedCalls.{does_not_bind}
use Rattle.laws_examples.specs.Multi.{looped_with, LoopsMayBindAgain, MultiCollects, MultiIsCollected, MultiIsNot, MultiResultsAreHeld, MultiIsTaken, MultiSetCollects, MultiTakenGives, MultiTreeCollects, each_of_m, first_answer, multi_defs, multi_meaning, multi_rules, multi_set, multi_tree, multi_world, nine_for_one}

-- 1. collected
-- 2. served
found : (k : Pick) (s : ℕ) → waits (slice_get multi_set.sites s) ≡ false → IsTrue (is_some (content_at (multi_world (pos 1)) k s))
found k s w = grind (arith, common_steps)

abbrev SameTest : ℕ × Constraint → Type 0
SameTest x = ◌≡◌ {A = ℕ × Constraint} (0, is_int (pos 1) 1) x

only_constraint : (r : SetRule) (s : ℕ) (d : Constraint) → Contains multi_set.rules r → Contains r.constraints (s, d) → SameTest (s, d)
only_constraint r s d h c = grind (arith, common_steps, in_cases, nothing_in, in_alone)

only_iterator : (r : SetRule) (s : ℕ) → Contains multi_set.rules r → Contains r.iterators s → 1 ≡ s
only_iterator r s h c = grind (arith, common_steps, in_cases each_of_m r (nine_for_one ∷ []) h, in_alone 1 s, nothing_in s, in_alone nine_for_one r, in_cases, in_alone, nothing_in)

no_joins : (r : SetRule) → Contains multi_set.rules r → r.classes ≡ []
no_joins r h = elim (in_cases each_of_m r (nine_for_one ∷ []) h) [ inl e ↦ ap (λ q. q.classes) (sym e) | inr b ↦ ap (λ q. q.classes) (sym (in_alone nine_for_one r b)) ]

fields_as_many : (k : Pick) (c : Content) (cs : List Content) (x : ℕ × Constraint) → SameTest x → content_at (multi_world (pos 1)) k x.0 ≡ Some c
    → content_fields multi_meaning x.1 c ≡ Some cs → length cs ≡ length (fields_of multi_set.sites x.0 x.1)
fields_as_many k c cs x e = grind (arith, common_steps, same_Some [] cs, same_Some (one (v (pos 1))) c, same_Some)

set_served : ServesSet multi_set (multi_world (pos 1))
set_served = record {
  sites = refl;
  found = λ k s p w h. found k s w;
  lists = λ k r s c hr hs e. (_, sym (same_Some _ c (subst (λ n. content_at (multi_world (pos 1)) k n ≡ Some c) (sym (only_iterator r s hr hs)) e)));
  values = λ k r a b c hr j e. absurd (false≢true (subst (λ l. IsTrue (joins_in l a b)) (no_joins r hr) j));
  fields = λ k r s d c cs hr hd e f. fields_as_many k c cs (s, d) (only_constraint r s d hr hd) e f;
  apart = λ k r q s d f hr hq hd hf m n. ap (λ x. x.1) (sym (only_constraint r s d hr hd) ∙ only_constraint q s f hq hf);
}

pub multi_is_collected : MultiIsCollected
multi_is_collected = ((grind (arith, common_steps, All-cons, All-nil)), collected multi_set refl refl, set_served)

pub multi_set_collects : MultiSetCollects
multi_set_collects = sound_trees_collect_lem multi_set multi_tree (multi_world (pos 1)) multi_is_collected.1 multi_is_collected.2 refl multi_stages.judged.sound

-- its best tree collects the bag
pub laws : CollectingLaws
laws = record {
  collected = are_collected_lem;
  serve = served_multi_sets_serve_lem;
  one_priority = one_priority_lem;
  apart = no_rule_asks_and_goes_over_lem;
  match = built_sets_match_by_demands_lem built_demands_are_whole_lem;
  results = results_are_held_lem;
}

pub multi_tree_collects : MultiTreeCollects
multi_tree_collects =
    best_trees_collect_the_bag_lem laws (own_program multi_defs multi_rules) 1 multi_set (read_programs_are_well_typed multi_stages.accepted.0.read) multi_stages.built.0 multi_stages.accepted.0.checkable multi_tree multi_stages.judged.best

pub multi_results_are_held : MultiResultsAreHeld
multi_results_are_held k e pick matched = grind (arith, common_steps, results_are_held_lem, read_programs_are_well_typed, multi_stages.accepted, multi_stages.built, multi_served)

-- 3. what the run collects
-- 9 stands last in the bag, and first in the run
nine_moved : IsPermutation (each (pos 4 ∷ (pos 4 ∷ (pos 9 ∷ [])))) (each (pos 9 ∷ (pos 4 ∷ (pos 4 ∷ []))))
nine_moved = record { moves = (0, 2) ∷ []; below = (omega arith, omega arith, tt); is = refl }

pub on_one : MultiCollects (pos 1)
on_one = record { calls = refl; ending = refl; same = nine_moved }

pub on_two : MultiCollects (pos 2)
on_two = record { calls = refl; ending = refl; same = IsPermutation-refl (each (pos 7 ∷ [])) }

pub on_three : MultiCollects (pos 3)
on_three = record { calls = refl; ending = refl; same = IsPermutation-refl (each []) }

-- one answer of the two, and 9 twice: fewer results, and a greater sum
pub stopped : MultiIsNot (pos 9 ∷ (pos 4 ∷ []))
stopped c = let n = length_permutation (each (pos 4 ∷ (pos 4 ∷ (pos 9 ∷ [])))) (each (pos 9 ∷ (pos 4 ∷ []))) c.same in omega (arith, n)

abbrev size : Content → ℕ
size (one (atom ty (pos n))) = n
size _ = 0

pub exchanged : MultiIsNot (pos 9 ∷ (pos 9 ∷ (pos 4 ∷ [])))
exchanged c =
    let n = sum_by-IsPermutation size (each (pos 4 ∷ (pos 4 ∷ (pos 9 ∷ [])))) (each (pos 9 ∷ (pos 9 ∷ (pos 4 ∷ [])))) c.same in omega (arith, n)

pub loops_may_bind_again : LoopsMayBindAgain
loops_may_bind_again = (
  (binding_judge_is_exact_lem multi_set true (looped_with (1 ∷ []) (1 ∷ [])) refl).0 refl,
  does_not_bind multi_set true (looped_with (2 ∷ []) []) refl refl,
)

-- 4. what is taken under a pick
-- inside of the loop over the call's answers
abbrev all_of_m : Content
all_of_m = many (all_of (pos 4 ∷ (pos 4 ∷ [])))

abbrev in_world : World
in_world = returning_once (multi_world (pos 1))

below_call : All (IsPureAt multi_set.sites) (1 ∷ (0 ∷ []))
below_call =
    All-cons (IsPureAt multi_set.sites) 1 (0 ∷ []) (constructor_site 0 (0 ∷ []) 0, refl, tt)
    (All-cons (IsPureAt multi_set.sites) 0 [] (argument_site 0, refl, tt) (All-nil (IsPureAt multi_set.sites)))

in_the_loop : IsReachedUnder in_world first_answer in_loop (loop_env all_of_m (one (v (pos 4))))
in_the_loop =
    reached_in_loop in_world first_answer record {
      answers = all_of_m;
      first = one (v (pos 4));
      call = record { content = refl; as_used = refl; pure = below_call };
      answer = record { content = refl; as_used = refl; pure = All-cons (IsPureAt multi_set.sites) 2 (1 ∷ (0 ∷ [])) (iterator_site 1, refl, tt) below_call };
    }

pub multi_is_taken : MultiIsTaken
multi_is_taken = grind (arith, common_steps, in_the_loop)

pub multi_taken_gives : MultiTakenGives
multi_taken_gives e matched = grind (arith, common_steps, taken_under_picks_lem, read_programs_are_well_typed, multi_stages.accepted, multi_stages.built, multi_served, multi_is_taken)
