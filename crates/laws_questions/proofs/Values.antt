-- The values of places that arguments and a valuation give.
use Rattle.std.proofs.Common.{◌≡◌, ℕ, suc, true, false, ◌&&◌, Option, Some, None, slice_get, refl, ap, arith}
use Rattle.std.proofs.lemmas.Grind.{common_steps}
use Rattle.std.proofs.lemmas.Bool.{and_parts}
use Rattle.model.specs.rules.Outcome.{then_option}
use Rattle.model.proofs.Elements.{some_is, none_some}
use Rattle.model.specs.sites.Sites.{SiteTerm}
use Rattle.laws_specs.specs.Words.{Denoted, a_truth, variant_of, struct_of, DenotedList, no_denoted, denoted_and, denoted_list, is_formed, are_formed}
use Rattle.laws_specs.specs.Conditions.{ToldContent, is_told_formed, answered_as, result_as, Valuation}
use Rattle.model_questions.specs.Formulas.{Place, argument_at, site_at, output_at, variant_field_at, struct_field_at}
use Rattle.model_questions.proofs.Standing.{IsCoherent}

abbrev pub or_false : Option Denoted → Denoted
or_false None = a_truth false
or_false (Some x) = x

abbrev pub variant_fields : Denoted → Option DenotedList
variant_fields (variant_of ty i xs) = Some xs
variant_fields _ = None

abbrev pub struct_fields : Denoted → Option DenotedList
struct_fields (struct_of ty xs) = Some xs
struct_fields _ = None

abbrev pub part_of : ℕ → Option DenotedList → Denoted
part_of i o = or_false (then_option o (λ xs. slice_get (denoted_list xs) i))

module _ (args : DenotedList) (f : Valuation) where
  abbrev pub value_at : Place → Denoted
  value_at (argument_at i) = or_false (slice_get (denoted_list args) i)
  value_at (site_at s) = or_false (then_option (f s) result_as)
  value_at (output_at s i) = part_of i (then_option (f s) answered_as)
  value_at (variant_field_at at ty variant i) = part_of i (variant_fields (value_at at))
  value_at (struct_field_at at ty i) = part_of i (struct_fields (value_at at))

  pub coherent : IsCoherent value_at
  coherent = grind (arith, common_steps)

got_formed : (xs : DenotedList) → are_formed xs ≡ true → (i : ℕ) (y : Denoted) → slice_get (denoted_list xs) i ≡ Some y → is_formed y ≡ true
got_formed (denoted_and x xs) h (suc i) y e = got_formed xs (and_parts (is_formed x) (are_formed xs) h).1 i y e
got_formed xs h i y e = grind (arith, common_steps, none_some, some_is, and_parts)

or_false_formed : (o : Option Denoted) → ((y : Denoted) → o ≡ Some y → is_formed y ≡ true) → is_formed (or_false o) ≡ true
or_false_formed o h = grind (arith, common_steps)

part_formed : (i : ℕ) (o : Option DenotedList) → ((xs : DenotedList) → o ≡ Some xs → are_formed xs ≡ true) → is_formed (part_of i o) ≡ true
part_formed i None h = refl
part_formed i (Some xs) h = or_false_formed (slice_get (denoted_list xs) i) (got_formed xs (h xs refl) i)

result_formed : (h : ToldContent) (y : Denoted) → is_told_formed h ≡ true → result_as h ≡ Some y → is_formed y ≡ true
result_formed h y g e = grind (arith, common_steps, some_is, none_some)

alone_formed : (x : Denoted) → is_formed x ≡ true → are_formed (denoted_and x no_denoted) ≡ true
alone_formed x h = ap (λ b. b && true) h

outputs_formed : (h : ToldContent) (ys : DenotedList) → is_told_formed h ≡ true → answered_as h ≡ Some ys → are_formed ys ≡ true
outputs_formed h ys g e = grind (arith, common_steps, some_is, alone_formed, none_some)

after : {X Y : Type 0} (o : Option X) (h : X → Option Y) (y : Y) → then_option o h ≡ Some y → (x : X) × (o ≡ Some x) × (h x ≡ Some y)
after None h y e = absurd (none_some y e)
after (Some x) h y e = (x, refl, e)

fields_formed : (x : Denoted) → is_formed x ≡ true → (xs : DenotedList) → variant_fields x ≡ Some xs → are_formed xs ≡ true
fields_formed x h xs e = grind (arith, common_steps, some_is, none_some)

struct_fields_formed : (x : Denoted) → is_formed x ≡ true → (xs : DenotedList) → struct_fields x ≡ Some xs → are_formed xs ≡ true
struct_fields_formed x h xs e = grind (arith, common_steps, some_is, none_some)

module _ (args : DenotedList) (f : Valuation) (formed_args : are_formed args ≡ true) (formed : (s : SiteTerm) (h : ToldContent) → f s ≡ Some h → is_told_formed h ≡ true) where
  pub values_formed : (at : Place) → is_formed (value_at args f at) ≡ true
  values_formed (argument_at i) = or_false_formed (slice_get (denoted_list args) i) (got_formed args formed_args i)
  values_formed (site_at s) = or_false_formed (then_option (f s) result_as) (λ y e. let k = after (f s) result_as y e in result_formed k.0 y (formed s k.0 k.1) k.2)
  values_formed (output_at s i) = part_formed i (then_option (f s) answered_as) (λ ys e. let k = after (f s) answered_as ys e in outputs_formed k.0 ys (formed s k.0 k.1) k.2)
  values_formed (variant_field_at at ty variant i) = part_formed i (variant_fields (value_at args f at)) (fields_formed (value_at args f at) (values_formed at))
  values_formed (struct_field_at at ty i) = part_formed i (struct_fields (value_at args f at)) (struct_fields_formed (value_at args f at) (values_formed at))
