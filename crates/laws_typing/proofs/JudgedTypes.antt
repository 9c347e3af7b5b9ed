-- The judge of types is exact.
use Rattle.std.proofs.Common.{◌≡◌, Bool, false, not, ◌&&◌, ◌||◌, List, All, Decides, IsTrue, refl, ℕ, ◌<◌, nat_lt, arith}
use Rattle.std.proofs.lemmas.Grind.{common_steps}
use Rattle.std.specs.List.{list_all}
use Rattle.std.proofs.lemmas.Bool.Decides.{Decides-like, Decides-and, Decides-by_and, Decides-ltb}
use Rattle.model.specs.lists.TypeTable.{type_trees, constant_trees, all_type_names, field_lists, field_names, field_type_names, is_primitive, variants_of, IsKnownType, IsUnmarkedIfPrimitive, HasAtMostOneMark, HasDistinctVariants, HasDistinctFields, HasKnownTypes, IsOfKnownType}
use Rattle.model.specs.lists.ListJudge.{is_known_type, is_unmarked_if_primitive, has_at_most_one_mark, has_distinct_variants, has_distinct_fields, has_known_types, has_valid_types}
use Rattle.laws_typing.specs.JudgeLaws.{TypesAreJudged}
use Rattle.laws_typing.proofs.DistinctLists.{names_differ}

-- a test, as a fact
pub itself : (b : Bool) → Decides b (IsTrue b)
itself b = (λ h. h, λ h. h)

pub both : {P Q : Type 0} {x y : Bool} → Decides x P → Decides y Q → Decides (x && y) (P × Q)
both {x = x} {y = y} d e = Decides-and x y d e

-- a test of each element
pub each : {X : Type 0} (p : X → Bool) (P : X → Type 0) → ((x : X) → Decides (p x) (P x)) → (xs : List X) → Decides (list_all p xs) (All P xs)
each p P d xs = Decides-by_and p P (list_all p) d refl (λ _ _. refl) xs

pub below : (n : ℕ) (xs : List ℕ) → Decides (list_all (λ x. nat_lt x n) xs) (All (λ x. x < n) xs)
below n xs = each (λ x. nat_lt x n) (λ x. x < n) (λ x. Decides-ltb x n) xs

unmarked : (a b c : Bool) → Decides (not a || (not b && not c)) (IsTrue a → (b ≡ false) × (c ≡ false))
unmarked a b c = grind (arith, common_steps, Decides-like, both)

pub types_are_judged_lem : TypesAreJudged
types_are_judged_lem defs =
    Decides-like (has_valid_types defs)
    (λ h. record {
      distinct = h.0.0.0.0.0.0;
      primitives = h.0.0.0.0.0.1;
      marks = h.0.0.0.0.1;
      variants = h.0.0.0.1;
      fields = h.0.0.1;
      types_of_fields = h.0.1;
      types_of_constants = h.1;
    })
    (λ v. ((((((v.distinct, v.primitives), v.marks), v.variants), v.fields), v.types_of_fields), v.types_of_constants))
    (both (both (both (both (both (both
    (names_differ (all_type_names defs))
    (each is_unmarked_if_primitive IsUnmarkedIfPrimitive (λ t. unmarked (is_primitive t.value) t.is_extern t.is_nodebug) (type_trees defs)))
    (each has_at_most_one_mark HasAtMostOneMark (λ t. itself (has_at_most_one_mark t)) (type_trees defs)))
    (each has_distinct_variants HasDistinctVariants (λ t. names_differ (variants_of t.value)) (type_trees defs)))
    (each has_distinct_fields HasDistinctFields (λ f. names_differ (field_names f)) (field_lists defs)))
    (each (has_known_types (all_type_names defs)) (HasKnownTypes defs)
    (λ f. each (is_known_type (all_type_names defs)) (IsKnownType (all_type_names defs)) (λ n. itself (is_known_type (all_type_names defs) n)) (field_type_names f))
    (field_lists defs)))
    (each (λ c. is_known_type (all_type_names defs) c.ty) (IsOfKnownType defs) (λ c. itself (is_known_type (all_type_names defs) c.ty)) (constant_trees defs)))
