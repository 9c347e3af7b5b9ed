-- The test of values is exact.
use Rattle.std.proofs.Common.{◌≡◌, ◌==◌, true, refl, sym, ap, ap₂, ◌∙◌, eqb-true, eq-eqb, arith}
use Rattle.std.proofs.lemmas.Grind.{common_steps}
use Rattle.std.proofs.lemmas.Bool.{and_parts, and_from}
use Rattle.std.proofs.lemmas.Bool.Decides.{Decides-int_eq}
use Rattle.std.specs.Bool.{Decides}
use Rattle.model.proofs.SameSites.{beq_means, beq_same, parts_mean}
use Rattle.model.specs.rules.Values.{Value, of_variant, of_struct, Values, no_value, value_and, value_eq, values_eq}

mutual
  pub eq_means : (v w : Value) → value_eq v w ≡ true → v ≡ w
  eq_means (of_variant s i a) (of_variant t j b) h = grind (arith, common_steps, eq_all_means a b, parts_mean s t i j (values_eq a b) h, parts_mean)
  eq_means (of_struct s a) (of_struct t b) h = grind (arith, common_steps, eq_all_means a b, and_parts (s == t) (values_eq a b) h, ap₂ of_struct, eqb-true s t, and_parts, ap₂, eqb-true)
  eq_means v w h = grind (arith, common_steps, beq_means, and_parts, ap₂, eqb-true, Decides-int_eq)

  pub eq_all_means : (a b : Values) → values_eq a b ≡ true → a ≡ b
  eq_all_means (value_and v a) (value_and w b) h = grind (arith, common_steps, eq_means v w, eq_all_means a b, and_parts (value_eq v w) (values_eq a b) h, ap₂ value_and, and_parts, ap₂)
  eq_all_means a b h = grind (arith, common_steps)

mutual
  pub eq_same : (v : Value) → value_eq v v ≡ true
  eq_same (of_variant s i a) = grind (arith, common_steps, eq_all_same a, and_from, eq-eqb)
  eq_same (of_struct s a) = grind (arith, common_steps, eq_all_same a, and_from, eq-eqb)
  eq_same v = grind (arith, common_steps, beq_same, and_from, eq-eqb, Decides-int_eq)

  pub eq_all_same : (a : Values) → values_eq a a ≡ true
  eq_all_same no_value = refl
  eq_all_same (value_and v a) = and_from (value_eq v v) (values_eq a a) (eq_same v) (eq_all_same a)

pub value_eq_decides : (v w : Value) → Decides (value_eq v w) (v ≡ w)
value_eq_decides v w = (eq_means v w, λ e. ap (value_eq v) (sym e) ∙ eq_same v)
