-- Values with as many fields as their types have: of what types without parts stand for nothing is said.
use Rattle.std.proofs.Common.{◌≡◌, ℕ, suc, ◌==◌, ◌&&◌, ◌||◌, not, Bool, true, false, List, [], ◌∷◌, length, Option, Some, slice_get, refl, ap, inl, inr, arith}
use Rattle.std.proofs.lemmas.Grind.{common_steps}
use Rattle.std.proofs.lemmas.Bool.{and_parts, and_from}
use Rattle.model.specs.lists.Tables.{TypeEntry}
use Rattle.model.specs.rules.Values.{variant_types, struct_types}
use Rattle.model.specs.sites.Serves.{is_type_with_parts}
use Rattle.model.proofs.Elements.{or_split, or_left, or_right, some_is, none_some}
use Rattle.laws_specs.specs.Words.{Denoted, variant_of, struct_of, DenotedList, no_denoted, denoted_and, denoted_list}
use Rattle.laws_specs.specs.Specs.{Specs}
use Rattle.laws_specs.specs.Conditions.{is_of_atoms, is_of_type, are_of_types}

abbrev mutual
  pub is_shaped : List TypeEntry → ℕ → Denoted → Bool
  is_shaped types ty (variant_of t i xs) = not (is_type_with_parts (slice_get types ty)) || ((t == ty) && are_shaped types (variant_types (slice_get types ty) i) xs)
  is_shaped types ty (struct_of t xs) = not (is_type_with_parts (slice_get types ty)) || ((t == ty) && are_shaped types (struct_types (slice_get types ty)) xs)
  is_shaped types ty x = true

  pub are_shaped : List TypeEntry → Option (List ℕ) → DenotedList → Bool
  are_shaped types (Some []) no_denoted = true
  are_shaped types (Some (ty ∷ tys)) (denoted_and x xs) = is_shaped types ty x && are_shaped types (Some tys) xs
  are_shaped types _ _ = false

-- 1. types
variants_have_parts : (o : Option TypeEntry) (i : ℕ) (tys : List ℕ) → variant_types o i ≡ Some tys → is_type_with_parts o ≡ true
variants_have_parts o i tys e = grind (arith, common_steps, none_some)

-- 2. any value is shaped of a type without parts, and values of types are
pub plain_shaped : (types : List TypeEntry) (ty : ℕ) (x : Denoted) → is_type_with_parts (slice_get types ty) ≡ false → is_shaped types ty x ≡ true
plain_shaped types ty x h = grind (arith, common_steps, or_left)

mutual
  pub of_type_shaped : (types : List TypeEntry) (specs : Specs) (ty : ℕ) (x : Denoted) → is_of_type types specs ty x ≡ true → is_shaped types ty x ≡ true
  of_type_shaped types specs ty (variant_of t i xs) h =
      let parts = variant_types (slice_get types ty) i in
      elim (or_split (is_of_atoms types specs ty (variant_of t i xs)) ((t == ty) && are_of_types types specs parts xs) h) [
        | inl k ↦ plain_shaped types ty (variant_of t i xs) (grind (arith, common_steps, and_parts, or_split))
        | inr k ↦ grind (arith, common_steps, of_types_shaped types specs parts xs, and_parts, or_right, and_from)
      ]
  of_type_shaped types specs ty (struct_of t xs) h =
      let parts = struct_types (slice_get types ty) in
      elim (or_split (is_of_atoms types specs ty (struct_of t xs)) ((t == ty) && are_of_types types specs parts xs) h) [
        | inl k ↦ plain_shaped types ty (struct_of t xs) (grind (arith, common_steps, and_parts, or_split))
        | inr k ↦ grind (arith, common_steps, of_types_shaped types specs parts xs, and_parts, or_right, and_from)
      ]
  of_type_shaped types specs ty _ h = refl

  pub of_types_shaped : (types : List TypeEntry) (specs : Specs) (tys : Option (List ℕ)) (xs : DenotedList) → are_of_types types specs tys xs ≡ true → are_shaped types tys xs ≡ true
  of_types_shaped types specs (Some (ty ∷ tys)) (denoted_and x xs) h =
      let a = and_parts (is_of_type types specs ty x) (are_of_types types specs (Some tys) xs) h in
      and_from (is_shaped types ty x) (are_shaped types (Some tys) xs) (of_type_shaped types specs ty x a.0) (of_types_shaped types specs (Some tys) xs a.1)
  of_types_shaped types specs tys xs h = grind (arith, common_steps)

-- 3. fields
pub variant_fields : (types : List TypeEntry) (ty t i : ℕ) (xs : DenotedList) (tys : List ℕ) → variant_types (slice_get types ty) i ≡ Some tys → is_shaped types ty (variant_of t i xs) ≡ true → are_shaped types (Some tys) xs ≡ true
variant_fields types ty t i xs tys e h = grind (arith, common_steps, variants_have_parts, and_parts)

pub struct_fields : (types : List TypeEntry) (ty t : ℕ) (xs : DenotedList) (tys : List ℕ) → struct_types (slice_get types ty) ≡ Some tys → is_shaped types ty (struct_of t xs) ≡ true → are_shaped types (Some tys) xs ≡ true
struct_fields types ty t xs tys e h = grind (arith, common_steps)

pub field_shaped : (types : List TypeEntry) (tys : List ℕ) (xs : DenotedList) (i ty : ℕ) (x : Denoted) → are_shaped types (Some tys) xs ≡ true → slice_get tys i ≡ Some ty → slice_get (denoted_list xs) i ≡ Some x → is_shaped types ty x ≡ true
field_shaped types (u ∷ tys) (denoted_and y xs) (suc i) ty x h e q = field_shaped types tys xs i ty x (and_parts (is_shaped types u y) (are_shaped types (Some tys) xs) h).1 e q
field_shaped types tys xs i ty x h e q = grind (arith, common_steps, none_some, some_is, and_parts)

pub as_many_fields : (types : List TypeEntry) (tys : List ℕ) (xs : DenotedList) → are_shaped types (Some tys) xs ≡ true → length (denoted_list xs) ≡ length tys
as_many_fields types (ty ∷ tys) (denoted_and x xs) h = ap suc (as_many_fields types tys xs (and_parts (is_shaped types ty x) (are_shaped types (Some tys) xs) h).1)
as_many_fields types tys xs h = grind (arith, common_steps)
