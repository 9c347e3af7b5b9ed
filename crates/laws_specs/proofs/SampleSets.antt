-- The conditions of the sample's rules, by those of its source rules.
use Rattle.std.proofs.Common.{◌≡◌, ◌⊎◌, ℕ, pos, [], ◌∷◌, Some, Contains, IsTrue, refl, sym, subst, inl, inr, arith}
use Rattle.std.proofs.lemmas.Grind.{common_steps}
use Rattle.std.proofs.lemmas.Int.{ints}
use Rattle.model.specs.rules.Program.{Program, arg_types, rules_of}
use Rattle.model.specs.rules.Typed.{TypedRule}
use Rattle.model.specs.sites.Sites.{SiteTerm, int_term, argument, pick_of}
use Rattle.model.specs.visits.Demands.{demands_of}
use Rattle.model.proofs.Elements.{In, in_from_contains, contains_from_in}
use Rattle.laws_specs.specs.Words.{DenotedList}
use Rattle.laws_specs.specs.Specs.{Specs, IsRequired}
use Rattle.laws_specs.specs.Conditions.{Valuation, are_of_types, IsAnsweredAsSaid, IsTypedAs, Condition, condition, IsAssumed, IsValid, IsAbove, IsNoneAbove}
use Rattle.laws_specs.specs.Samples.{x, adding, rule_of, program_with, specs_with, doubled, SumsAreRight}
use Rattle.laws_specs.specs.SamplePriorities.{for_a, for_others, codes, code_specs, PrioritiesCount}
use Rattle.laws_specs.specs.SetConditions.{set_condition, IsAboveInSet, IsNoneAboveInSet, IsValidBelowInSet}
use Rattle.laws_specs.specs.SampleSets.{giving, sums_set, sum_of_two, a_in_set, others_in_set, codes_set, SetsAreAsked}

-- two conditions that demand the same: what is assumed of the sites that one makes is assumed of fewer, arguments apart
abbrev IsArgument : SiteTerm → Type 0
IsArgument s = (i : ℕ) × (argument i ≡ s)

fewer_made : (p : Program) (specs : Specs) (c b : Condition) → c.term ≡ b.term → c.constraints ≡ b.constraints → c.equalities ≡ b.equalities → ((s : SiteTerm) → In b.made s → In c.made s ⊎ IsArgument s)
    → (args : DenotedList) (f : Valuation) → IsAssumed p specs c args f → IsAssumed p specs b args f
fewer_made p specs c b term constraints equalities made args f a = record {
  arguments = subst (λ t. IsTrue (are_of_types p.types specs (Some (arg_types p t)) args)) term a.arguments;
  formed_args = a.formed_args;
  required = subst (λ t. IsRequired specs t args) term a.required;
  unknowns = a.unknowns;
  held = a.held;
  formed = a.formed;
  constraints = λ s k i. a.constraints s k (subst (λ l. Contains l (s, k)) (sym constraints) i);
  equalities = λ s u i. a.equalities s u (subst (λ l. Contains l (s, u)) (sym equalities) i);
  calls = λ s i e. elim (there s i) [ inl j ↦ a.calls s j e | inr n ↦ subst (λ z. IsAnsweredAsSaid specs f z z) n.1 tt ];
  typed = λ s h i e q. elim (there s i) [ inl j ↦ a.typed s h j e q | inr n ↦ subst (λ z. IsTypedAs p specs z h) n.1 tt ];
  picks = λ s i e. elim (there s i) [ inl j ↦ a.picks s j e | inr n ↦ subst (λ z. IsAnsweredAsSaid specs f z (pick_of z)) n.1 tt ];
  typed_picks = λ s h i e q. elim (there s i) [ inl j ↦ a.typed_picks s h j e q | inr n ↦ subst (λ z. IsTypedAs p specs z h) n.1 tt ];
}
  where
    there : (s : SiteTerm) → Contains b.made s → Contains c.made s ⊎ IsArgument s
    there s i = elim (made s (in_from_contains b.made s i)) [ inl j ↦ inl (contains_from_in c.made s j) | inr n ↦ inr n ]

-- 1. a sum
abbrev sum_specs : Specs
sum_specs = specs_with (doubled ∷ []) [] []

sum_made : (s : SiteTerm) → In (argument 0 ∷ (sum_of_two ∷ [])) s → In (sum_of_two ∷ (argument 0 ∷ (argument 0 ∷ []))) s ⊎ IsArgument s
sum_made s h = grind (arith, common_steps)

sum_in_set : SumsAreRight → IsValid (program_with (adding x x)) sum_specs (set_condition 0 sums_set (giving 1))
sum_in_set right args f a =
    let p = program_with (adding x x) in
    let shown = right.0 args f (fewer_made p sum_specs (set_condition 0 sums_set (giving 1)) (condition p (rule_of (adding x x))) refl refl refl sum_made args f a) in
    record { provides = shown.provides; requires = shown.requires }

-- 2. rules with priorities
others_alone : IsValid codes code_specs (set_condition 2 codes_set others_in_set) → IsValid codes code_specs (condition codes for_others)
others_alone valid args f a =
    let shown = valid args f (fewer_made codes code_specs (condition codes for_others) (set_condition 2 codes_set others_in_set) refl refl refl (λ s i. inl (inr i)) args f a) in
    record { provides = shown.provides; requires = shown.requires }

others_made : (s : SiteTerm) → In (argument 0 ∷ (int_term (pos 20) 1 ∷ [])) s → In (int_term (pos 20) 1 ∷ []) s ⊎ IsArgument s
others_made s h = grind (arith, common_steps)

above_in_set : IsAboveInSet codes_set others_in_set a_in_set
above_in_set = (contains_from_in codes_set.rules a_in_set (inl refl), omega (arith, ints))

-- only the rule for A is above the other one
above_is : (q : TypedRule) → IsAbove codes for_others q → for_a ≡ q
above_is q a = grind (arith, common_steps, in_from_contains (rules_of codes 2) q a.0, in_from_contains, ints)

none_above : (args : DenotedList) (f : Valuation) → IsNoneAboveInSet code_specs 2 codes_set others_in_set args f → IsNoneAbove codes code_specs for_others args f
none_above args f n = record {
  there = n.there;
  constraint = n.constraint;
  equality = n.equality;
  own = n.own;
  own_equality = n.own_equality;
  met = n.met;
  equal = n.equal;
  decided = λ q s k a i g w. n.decided a_in_set s k above_in_set (subst (λ (z : TypedRule). Contains (demands_of codes z).constraints (s, k)) (sym (above_is q a)) i) g w;
  none = grind (arith, common_steps, above_is, n.none a_in_set above_in_set);
}

others_below : PrioritiesCount → IsValidBelowInSet codes code_specs 2 codes_set others_in_set
others_below right args f a n =
    let shown = right.1 args f (fewer_made codes code_specs (set_condition 2 codes_set others_in_set) (condition codes for_others) refl refl refl others_made args f a) (none_above args f n) in
    record { provides = shown.provides; requires = shown.requires }

pub sets_are_asked_lem : SumsAreRight → PrioritiesCount → SetsAreAsked
sets_are_asked_lem right priorities = record {
  sum = sum_in_set right;
  alone = λ valid. right.1 (grind (arith, fewer_made));
  class = refl;
  lower_alone = λ valid. priorities.0 (others_alone valid);
  lower_below = others_below priorities;
}
