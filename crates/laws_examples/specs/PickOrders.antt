-- Orders in which a rule goes over two calls: the two impure calls of `impure_twice`, which stand on the same sites, and a
-- call on another call's answer, which can't come first.
use Rattle.std.specs.Prelude.{◌≡◌, ◌∷◌, [], pos, List, Contains, IsPermutation}
use Rattle.std.specs.List.{flat_map}
use Rattle.model.specs.rules.Meaning.{Content}
use Rattle.model.specs.rules.Picks.{Pick, picks, picks_over, results_under}
use Rattle.model.specs.rules.Typed.{TypedRule}
use Rattle.model.specs.sites.Sites.{SiteTerm, constructor_call, pick_of}
use Rattle.laws_trees.specs.PickLaws.{ActAlike, GiveSamePlaces}
use Rattle.laws_trees.specs.Orders.{Covered, IsOfPlaces, OrderedFrom}
use Rattle.laws_examples.specs.MeaningForms.{each, given}
use Rattle.laws_examples.specs.MultiCalls.{call_in_call, calls_meaning, calls_program, impure_twice}
use Rattle.laws_examples.specs.SetForms.{a0, one_source}

-- the two calls of w on x
abbrev pub first_of_w : SiteTerm
first_of_w = constructor_call 4 (one_source a0) 1

abbrev pub second_of_w : SiteTerm
second_of_w = constructor_call 4 (one_source a0) 2

-- one pick of them, in the order of the visit, and in the other one
abbrev pub in_visit_order : Pick
in_visit_order = (first_of_w, 0) ∷ (second_of_w, 1) ∷ []

abbrev pub turned_round : Pick
turned_round = (second_of_w, 1) ∷ (first_of_w, 0) ∷ []

-- the results of a rule on 1
abbrev pub results_on_one : TypedRule → Pick → List Content
results_on_one r k = results_under calls_program calls_meaning (given (pos 1)) r k

-- the first of them alone is a pick of the rule; but both give the calls the same places, and so act alike
abbrev pub OrderDoesNotMatter : Type 0
OrderDoesNotMatter =
    Contains (picks calls_program calls_meaning (given (pos 1)) impure_twice) in_visit_order
    × (Contains (picks calls_program calls_meaning (given (pos 1)) impure_twice) turned_round → ⊥)
    × GiveSamePlaces in_visit_order turned_round
    × ActAlike calls_program calls_meaning (given (pos 1)) impure_twice in_visit_order turned_round

-- so the result is one: the first answer of the first call beside the second one of the second call
abbrev pub ResultIsOfPlaces : Type 0
ResultIsOfPlaces =
    (results_on_one impure_twice in_visit_order ≡ each (pos 47 ∷ []))
    × (results_on_one impure_twice in_visit_order ≡ results_on_one impure_twice turned_round)

-- the results where calls are gone over in an order
abbrev pub gone_over_by : TypedRule → List SiteTerm → List Content
gone_over_by r calls = flat_map (results_on_one r) (picks_over calls_meaning (given (pos 1)) [] calls)

-- what the second call may come first by: it takes no call's answer, and isn't the first call
pub record MayComeFirst : Type 0 where
  pub results : IsOfPlaces (results_on_one impure_twice)
  pub before : OrderedFrom [] (first_of_w ∷ [])
  pub covered : Covered [] second_of_w
  pub other : Contains (first_of_w ∷ []) second_of_w → ⊥

-- so its results stand in another order, and are the same bag
abbrev pub SecondCallComesFirst : Type 0
SecondCallComesFirst =
    MayComeFirst
    × (gone_over_by impure_twice (first_of_w ∷ second_of_w ∷ []) ≡ each (pos 46 ∷ pos 47 ∷ pos 56 ∷ pos 57 ∷ []))
    × (gone_over_by impure_twice (second_of_w ∷ first_of_w ∷ []) ≡ each (pos 46 ∷ pos 56 ∷ pos 47 ∷ pos 57 ∷ []))
    × IsPermutation (each (pos 46 ∷ pos 47 ∷ pos 56 ∷ pos 57 ∷ [])) (each (pos 46 ∷ pos 56 ∷ pos 47 ∷ pos 57 ∷ []))

-- the call of m on x, and that of m on its answer
abbrev pub inner_of_m : SiteTerm
inner_of_m = constructor_call 1 (one_source a0) 0

abbrev pub outer_of_m : SiteTerm
outer_of_m = constructor_call 1 (one_source (pick_of inner_of_m)) 0

-- the outer one takes the inner one's answer: before it, it has no list, and there is no result
abbrev pub OuterCallDoesNot : Type 0
OuterCallDoesNot =
    (Covered [] outer_of_m → ⊥)
    × (gone_over_by call_in_call (inner_of_m ∷ outer_of_m ∷ []) ≡ each (pos 6 ∷ pos 7 ∷ pos 8 ∷ []))
    × (gone_over_by call_in_call (outer_of_m ∷ inner_of_m ∷ []) ≡ [])
