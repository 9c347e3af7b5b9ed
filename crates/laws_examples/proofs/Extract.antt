-- The sample with an extractor: a world where the extractor answers serves the tests of its rules; and near sets are not built.
use Rattle.std.proofs.Common.{◌≡◌, ◌∷◌, [], ◌⊎◌, ◌∙◌, ℕ, pos, Contains, refl, sym, ap, arith}
use Rattle.std.proofs.lemmas.Grind.{common_steps}
use Rattle.std.proofs.lemmas.Bool.{false≢true}
use Rattle.model.proofs.Members.{in_alone, in_cases}
use Rattle.model.specs.rules.Meaning.{Content}
use Rattle.model.specs.sites.RuleSets.{IsBuilt}
use Rattle.model.specs.sites.Sites.{Constraint, SetRule, is_int, is_present, unfold_site}
use Rattle.model.specs.trees.Places.{joins_in}
use Rattle.model.specs.trees.SetRuns.{ServesTests}
use Rattle.laws_trees.proofs.runs.Fields.{present_met}
use Rattle.laws_examples.proofs.SampleStages.{extract_stages}
use Rattle.laws_examples.proofs.SetStages.{tested}
use Rattle.laws_examples.specs.Extract.{ExtractIsServed, NearSetsAreNotBuilt, answer_itself, extract_defs, extract_program, extract_rules, extract_set, extract_world, less_asked, ten_for_answer_one}
use Rattle.laws_examples.specs.SetForms.{is_byte}

-- 1. the set goes over no calls, and its rules demand the gates below what they test
-- 2. the world
abbrev Asked : ℕ → Constraint → Type 0
Asked s d = ((s ≡ 1) × (d ≡ is_present)) ⊎ ((s ≡ 2) × (d ≡ is_int (pos 1) 1))

asked : (r : SetRule) → Contains extract_set.rules r → (s : ℕ) (d : Constraint) → Contains r.constraints (s, d) → Asked s d
asked r k s d c = grind (arith, common_steps, in_cases, in_alone)

no_classes : (r : SetRule) → Contains extract_set.rules r → r.classes ≡ []
no_classes r k = grind (arith, common_steps, in_cases ten_for_answer_one r (answer_itself ∷ []) k, in_alone answer_itself r, in_cases, in_alone)

one_constraint : (s : ℕ) (d f : Constraint) → Asked s d → Asked s f → d ≡ f
one_constraint s d f h i = grind (arith, common_steps)

tests_served : (c : Content) → ServesTests extract_set (extract_world c)
tests_served c = record {
  sites = refl;
  found = λ s p n all. grind (arith, common_steps);
  values = λ r a b x k j e. absurd (false≢true (sym (ap (λ l. joins_in l a b) (no_classes r k)) ∙ j));
  fields = λ r s d x cs k m e f. grind (arith, common_steps, present_met);
  apart = λ r q s d f k l m n h g. one_constraint s d f (asked r k s d m) (asked q l s f n);
}

pub extract_is_served_lem : ExtractIsServed
extract_is_served_lem = ((tested extract_defs extract_rules 1 extract_set extract_stages.accepted extract_stages.built refl refl), tests_served)

-- 3. sets that aren't built
-- whether a constraint asks for an answer
asks_answer : Constraint → ℕ
asks_answer is_present = 0
asks_answer _ = 1

-- the constraint that is left out is asked of a site that no constraint names
unasked : IsBuilt extract_program 1 less_asked → ⊥
unfolding asks_answer
unasked b =
    let found = b.rules.0.constraints.all_asked (unfold_site extract_set.sites 2) (is_byte 1) (1, omega arith, refl) in
    let one = in_alone (1, is_present) (found.0, is_byte 1) found.1 in
    let other : 0 ≡ 1 = ap (λ x. asks_answer x.1) one in
    omega (arith, other)

pub near_sets_are_not_built : NearSetsAreNotBuilt
near_sets_are_not_built = (unasked, (λ b. b.rules.1), (λ b. (let e = b.sites.count in omega (arith, e))))
