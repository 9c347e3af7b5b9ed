-- Two picks of the same places act alike, and a call that takes no answers can be gone over first.
use Rattle.std.proofs.Common.{◌≡◌, ◌∷◌, [], pos, refl, sym, arith}
use Rattle.std.proofs.lemmas.Grind.{common_steps}
use Rattle.model.proofs.Members.{in_alone, nothing_in}
use Rattle.model.proofs.SameSites.{term_means}
use Rattle.laws_trees.specs.PickLaws.{GiveSamePlaces}
use Rattle.laws_trees.specs.Orders.{IsOfPlaces}
use Rattle.laws_trees.proofs.picks.FirstCall.{calls_can_come_first_lem, results_are_of_places_lem}
use Rattle.laws_trees.proofs.picks.SamePlaces.{only_places_matter_lem}
use Rattle.laws_examples.specs.MeaningForms.{given}
use Rattle.laws_examples.specs.MultiCalls.{calls_meaning, calls_program, impure_twice}
use Rattle.laws_examples.specs.PickOrders.{MayComeFirst, OrderDoesNotMatter, OuterCallDoesNot, ResultIsOfPlaces, SecondCallComesFirst, first_of_w, in_visit_order, inner_of_m, results_on_one, second_of_w, turned_round}

two_calls : first_of_w ≡ second_of_w → ⊥
two_calls e = cc

same_places : GiveSamePlaces in_visit_order turned_round
same_places c = grind (arith, common_steps, term_means first_of_w c, term_means second_of_w c, two_calls, term_means)

pub order_does_not_matter : OrderDoesNotMatter
order_does_not_matter = (
  (1, omega arith, refl),
  λ c. two_calls (sym (grind arith)),
  same_places,
  only_places_matter_lem calls_program calls_meaning (given (pos 1)) impure_twice in_visit_order turned_round same_places,
)

of_places : IsOfPlaces (results_on_one impure_twice)
of_places k l g = results_are_of_places_lem.0 calls_program calls_meaning (given (pos 1)) impure_twice k l g

pub result_is_of_places : ResultIsOfPlaces
result_is_of_places = (refl, of_places in_visit_order turned_round same_places)

may_come_first : MayComeFirst
may_come_first = record { results = of_places; before = (λ c i. i, tt); covered = λ c i. i; other = λ i. two_calls (in_alone first_of_w second_of_w i) }

pub second_call_comes_first : SecondCallComesFirst
second_call_comes_first = (
  may_come_first,
  refl,
  refl,
  calls_can_come_first_lem calls_meaning (given (pos 1)) (results_on_one impure_twice) [] (first_of_w ∷ []) [] second_of_w of_places may_come_first.before may_come_first.covered may_come_first.other,
)

pub outer_call_does_not : OuterCallDoesNot
outer_call_does_not = (λ h. nothing_in inner_of_m (h inner_of_m (0, omega arith, refl)), refl, refl)
