-- The types of a list of definitions with valid types are well formed.
use Rattle.std.proofs.Common.{◌≡◌, ℕ, zero, suc, ◌+◌, ◌<◌, ◌||◌, true, false, cond, List, [], ◌∷◌, ◌++◌, length, map, Some, slice_get, refl, sym, ap, ◌∙◌, subst, arith}
use Rattle.std.proofs.lemmas.Grind.{common_steps}
use Rattle.std.specs.List.{enumerate_from, flat_map, AllByRecursion}
use Rattle.std.specs.Str.{bytes_eq}
use Rattle.std.proofs.lemmas.List.{length-append, length-map}
use Rattle.std.proofs.lemmas.List.Concat.{flat_map-append}
use Rattle.std.proofs.lemmas.List.Elements.{All-from_recursion}
use Rattle.std.proofs.lemmas.List.FromFn.{length-enumerate_from}
use Rattle.std.proofs.lemmas.Option.{same_Some}
use Rattle.model.specs.lists.Syntax.{Name, FieldTree, TupleFieldTree, FieldTrees, struct_fields, VariantTree, TypeTree, TypeValueTree, primitive_value, enum_value, struct_value, Definition}
use Rattle.model.specs.lists.Names.{has_name}
use Rattle.model.specs.rules.Values.{field_types}
use Rattle.model.specs.lists.Tables.{TypeEntry}
use Rattle.model.specs.lists.TypeTable.{builtin_names, builtin_from, place_from, type_trees, type_names, field_names, variant_names, names_inside, all_type_names, type_names_met, field_entry, tuple_field_entry, field_entries, variant_entry, entry_at, type_entry, type_table, type_or_first}
use Rattle.model.specs.lists.KnownTypes.{entry_id, types_inside, field_numbers, variant_numbers, entry_numbers, StandAtIds}
use Rattle.laws_typing.specs.TableLaws.{OwnTypesAreWellFormed, TypesAreFound}
use Rattle.model.proofs.Joined.{all_joined, all_left, all_right}
use Rattle.model.proofs.Bytes.{same_self}
use Rattle.model.proofs.Names.{has_kept, has_right, number_below}
use Rattle.laws_typing.proofs.TypeLaws.{names_later, type_names_distinct, place_at, types_met, inside_met}

pub types_are_found_lem : TypesAreFound
types_are_found_lem k w i x h = place_at k.type_names 0 i i x w.type_names_distinct (omega arith) h

-- each name of a list holds what holds of all names that are among it
every_name : (P : List ℕ → Type 0) (xs : List (List ℕ)) → ((x : List ℕ) → has_name xs x ≡ true → P x) → AllByRecursion P xs
every_name P [] h = tt
every_name P (x ∷ xs) h = (h x (ap (λ b. b || has_name xs x) (same_self x)), every_name P xs (λ y e. h y (has_right (x ∷ []) xs y e)))

-- types whose ids count up from a number
abbrev CountUp : ℕ → List TypeEntry → Type 0
CountUp n [] = Unit {0}
CountUp n (t ∷ ts) = (entry_id t ≡ n) × CountUp (suc n) ts

ids_counted : (n i m : ℕ) (ts : List TypeEntry) (t : TypeEntry) → CountUp n ts → n + i ≡ m → slice_get ts i ≡ Some t → entry_id t ≡ m
ids_counted n i m [] t c e h = absurd (cc)
ids_counted n zero m (u ∷ us) t c e h = let same : n ≡ m = omega arith in sym (ap entry_id (same_Some u t h)) ∙ c.0 ∙ same
ids_counted n (suc i) m (u ∷ us) t c e h = ids_counted (suc n) i m us t c.1 (omega arith) h

builtins_count : (n : ℕ) (xs : List (List ℕ)) (ts : List TypeEntry) → CountUp (n + length xs) ts → CountUp n (builtin_from n xs ++ ts)
builtins_count n [] ts c = (let e : n + 0 ≡ n = omega arith in subst (λ m. CountUp m ts) e c)
builtins_count n (x ∷ xs) ts c = (refl, builtins_count (suc n) xs ts (let e : n + suc (length xs) ≡ suc n + length xs = omega arith in subst (λ m. CountUp m ts) e c))

entries_count : (defs : List Definition) (ns : List (List ℕ)) (n : ℕ) (ts : List TypeTree) → CountUp n (map (λ p. type_entry defs ns p.0 p.1) (enumerate_from n ts))
entries_count defs ns n (t ∷ ts) = grind (arith, common_steps, entries_count defs ns (n + 1) ts)
entries_count defs ns n [] = tt

-- a place among names is below their count
pub place_below : (xs : List (List ℕ)) (n : ℕ) (x : List ℕ) (k : ℕ) → place_from n x xs ≡ Some k → k < n + length xs
place_below [] n x k p = absurd (cc)
place_below (y ∷ ys) n x k p =
    elim (bytes_eq y x) as (λ b. cond b (Some n) (place_from (suc n) x ys) ≡ Some k → k < n + suc (length ys)) [
      | true ↦ λ p. (let e : n ≡ k = same_Some n k p in omega arith)
      | false ↦ λ p. (let l = place_below ys (suc n) x k p in omega arith)
    ] p

module _ (defs : List Definition) where
  pub names_of_types_met : AllByRecursion (λ x. has_name (type_names_met defs) x ≡ true) (type_names defs)
  names_of_types_met = every_name (λ x. has_name (type_names_met defs) x ≡ true) (type_names defs) (types_met defs)

  pub names_inside_met : AllByRecursion (λ x. has_name (type_names_met defs) x ≡ true) (flat_map (λ t. names_inside t.name.text t.value) (type_trees defs))
  names_inside_met = every_name (λ x. has_name (type_names_met defs) x ≡ true) (flat_map (λ t. names_inside t.name.text t.value) (type_trees defs)) (inside_met defs)

  builtins_met : AllByRecursion (λ x. has_name (type_names_met defs) x ≡ true) builtin_names
  builtins_met = every_name (λ x. has_name (type_names_met defs) x ≡ true) builtin_names (λ x h. has_kept builtin_names (names_later defs) x h)

  -- there are as many names of types as types
  pub as_many : length (all_type_names defs) ≡ length (type_table defs)
  as_many = grind (arith, common_steps, length-append, length-map, length-enumerate_from)

  -- a type that is named is one of the types
  abbrev IsOneOfTypes : ℕ → Type 0
  IsOneOfTypes ty = ty < length (type_table defs)

  named_type : (n : Name) → IsOneOfTypes (type_or_first defs n)
  named_type n = grind (arith, common_steps, place_below (all_type_names defs) 0 n.text, as_many, place_below)

  fields_named : (ns : List (List ℕ)) (i : ℕ) (fs : List FieldTree) → AllByRecursion IsOneOfTypes (map (λ f. f.ty) (map (λ p. field_entry defs ns p.0 p.1) (enumerate_from i fs)))
  fields_named ns i [] = tt
  fields_named ns i (f ∷ fs) = (named_type f.ty, fields_named ns (i + 1) fs)

  parts_named : (i : ℕ) (fs : List TupleFieldTree) → AllByRecursion IsOneOfTypes (map (λ f. f.ty) (map (λ p. tuple_field_entry defs p.0 p.1) (enumerate_from i fs)))
  parts_named i [] = tt
  parts_named i (f ∷ fs) = (named_type f.ty, parts_named (i + 1) fs)

  variants_fields : (ns : List (List ℕ)) (ty : List ℕ) (i : ℕ) (vs : List VariantTree) → AllByRecursion IsOneOfTypes (flat_map (λ v. field_types v.fields) (map (λ p. variant_entry defs ns ty p.0 p.1) (enumerate_from i vs)))
  variants_fields ns ty i (v ∷ vs) = grind (arith, common_steps, variants_fields ns ty (i + 1) vs, all_joined, fields_named, parts_named)
  variants_fields ns ty i [] = tt

  type_fields : (ns : List (List ℕ)) (id : ℕ) (t : TypeTree) (w : TypeValueTree) → AllByRecursion IsOneOfTypes (types_inside (entry_at defs ns id t w))
  type_fields ns id t (primitive_value name at) = tt
  type_fields ns id t (enum_value variants at) = variants_fields ns t.name.text 0 variants
  type_fields ns id t (struct_value fields at) = grind (arith, fields_named, parts_named)

  types_fields : (ns : List (List ℕ)) (id : ℕ) (ts : List TypeTree) → AllByRecursion IsOneOfTypes (flat_map types_inside (map (λ p. type_entry defs ns p.0 p.1) (enumerate_from id ts)))
  types_fields ns id (t ∷ ts) = grind (arith, common_steps, types_fields ns (id + 1) ts, type_fields ns id t t.value, all_joined, type_fields)
  types_fields ns id [] = tt

  -- the numbers of names that were met are below their count
  abbrev IsMet : List ℕ → Type 0
  IsMet x = has_name (type_names_met defs) x ≡ true

  abbrev IsBelow : ℕ → Type 0
  IsBelow n = n < length (type_names_met defs)

  fields_below : (i : ℕ) (fs : List FieldTree) → AllByRecursion IsMet (map (λ f. f.name.text) fs) → AllByRecursion IsBelow (map (λ f. f.name) (map (λ p. field_entry defs (type_names_met defs) p.0 p.1) (enumerate_from i fs)))
  fields_below i [] a = tt
  fields_below i (f ∷ fs) a = (number_below (type_names_met defs) f.name.text a.0, fields_below (i + 1) fs a.1)

  list_below : (fields : FieldTrees) → AllByRecursion IsMet (field_names fields) → AllByRecursion IsBelow (field_numbers (field_entries defs (type_names_met defs) fields))
  list_below (struct_fields fields) a = fields_below 0 fields a
  list_below fields a = tt

  variants_below : (ty : List ℕ) (i : ℕ) (vs : List VariantTree) → AllByRecursion IsMet (flat_map (variant_names ty) vs) → AllByRecursion IsBelow (flat_map variant_numbers (map (λ p. variant_entry defs (type_names_met defs) ty p.0 p.1) (enumerate_from i vs)))
  variants_below ty i (v ∷ vs) a = grind (arith, common_steps, variants_below ty (i + 1) vs, number_below, all_joined, list_below, all_left, all_right)
  variants_below ty i [] a = tt

  type_below : (id : ℕ) (t : TypeTree) (w : TypeValueTree) → IsMet t.name.text → AllByRecursion IsMet (names_inside t.name.text w) → AllByRecursion IsBelow (entry_numbers (entry_at defs (type_names_met defs) id t w))
  type_below id t (primitive_value name at) h a = (number_below (type_names_met defs) name.text a.0, tt)
  type_below id t (enum_value variants at) h a = (number_below (type_names_met defs) t.name.text h, variants_below t.name.text 0 variants a)
  type_below id t (struct_value fields at) h a = (number_below (type_names_met defs) t.name.text h, list_below fields a)

  types_below : (id : ℕ) (ts : List TypeTree) → AllByRecursion IsMet (map (λ t. t.name.text) ts) → AllByRecursion IsMet (flat_map (λ t. names_inside t.name.text t.value) ts)
      → AllByRecursion IsBelow (flat_map entry_numbers (map (λ p. type_entry defs (type_names_met defs) p.0 p.1) (enumerate_from id ts)))
  types_below id (t ∷ ts) h a = grind (arith, common_steps, types_below (id + 1) ts h.1, type_below id t t.value h.0, all_joined, type_below, all_left, all_right)
  types_below id [] h a = tt

  pub numbers_below : AllByRecursion (λ n. n < length (type_names_met defs)) (flat_map entry_numbers (type_table defs))
  numbers_below = grind (arith, common_steps, flat_map-append, types_below, names_of_types_met, names_inside_met)

  pub fields_are_types : AllByRecursion IsOneOfTypes (flat_map types_inside (type_table defs))
  fields_are_types = grind (arith, flat_map-append types_inside (builtin_from 0 builtin_names), types_fields (type_names_met defs) 13 (type_trees defs))

pub own_ids : (defs : List Definition) → StandAtIds (type_table defs)
own_ids defs i t h =
    ids_counted 0 i i (type_table defs) t (builtins_count 0 builtin_names (map (λ p. type_entry defs (type_names_met defs) p.0 p.1) (enumerate_from 13 (type_trees defs))) (entries_count defs (type_names_met defs) 13 (type_trees defs))) (omega arith) h

pub own_types_are_well_formed_lem : OwnTypesAreWellFormed
own_types_are_well_formed_lem defs v = record {
  names_distinct = type_names_distinct defs;
  builtins = refl;
  ids = own_ids defs;
  type_names_distinct = v.distinct;
  as_many_names = as_many defs;
  names_of_types_met = All-from_recursion (λ x. has_name (type_names_met defs) x ≡ true) (all_type_names defs) (all_joined (λ x. has_name (type_names_met defs) x ≡ true) builtin_names (type_names defs) (builtins_met defs) (names_of_types_met defs));
  types_in_range = All-from_recursion (λ ty. ty < length (type_table defs)) (flat_map types_inside (type_table defs)) (fields_are_types defs);
  numbers_in_range = All-from_recursion (λ n. n < length (type_names_met defs)) (flat_map entry_numbers (type_table defs)) (numbers_below defs);
}
