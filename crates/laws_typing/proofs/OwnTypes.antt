-- The types and constants of a list of definitions with valid types can be read.
use Rattle.std.proofs.Common.{◌≡◌, ℕ, zero, suc, ◌+◌, ◌<◌, true, List, [], ◌∷◌, ◌++◌, length, map, Some, slice_get, All, Contains, sym, ap, ◌∙◌, subst, arith}
use Rattle.std.proofs.lemmas.Grind.{common_steps}
use Rattle.std.specs.List.{enumerate_from, flat_map, AllByRecursion}
use Rattle.std.proofs.lemmas.List.Elements.{All-from_recursion}
use Rattle.std.proofs.lemmas.Option.{none-some, same_Some}
use Rattle.model.specs.lists.Syntax.{Name, VariantTree, TypeTree, TypeValueTree, enum_value, Definition}
use Rattle.model.specs.lists.Names.{has_name}
use Rattle.model.specs.lists.Tables.{VariantEntry}
use Rattle.model.specs.lists.TypeTable.{builtin_names, builtin_from, type_trees, type_names, ConstantTree, constant_trees, names_inside, all_type_names, type_names_met, name_number, variant_entry, entry_at, type_entry, type_table, last_definitions, constant_types, type_or_first}
use Rattle.model.proofs.Joined.{all_joined}
use Rattle.model.proofs.Names.{number_below, has_at, has_met, has_right}
use Rattle.laws_typing.proofs.TypeLaws.{names_later}
use Rattle.laws_typing.proofs.WellFormed.{place_below, as_many, own_types_are_well_formed_lem}
use Rattle.model.proofs.Members.{in_head, in_tail, in_cases, get_from_member, in_map, from_map, all_members}
use Rattle.model.specs.claims.Environments.{TypeEnvironment, AreReadable, AreTypesOf, HasVariantsAtIds, IsReadAs, types_read}
use Rattle.laws_typing.specs.OwnTypes.{OwnTypesAreReadable}

-- variants whose ids count up from a number
ids_count : (defs : List Definition) (ns : List (List ℕ)) (ty : List ℕ) (n i m : ℕ) (vs : List VariantTree) (v : VariantEntry) → n + i ≡ m
    → slice_get (map (λ p. variant_entry defs ns ty p.0 p.1) (enumerate_from n vs)) i ≡ Some v → v.id ≡ m
ids_count defs ns ty n i m [] v e h = absurd (none-some v h)
ids_count defs ns ty n zero m (w ∷ ws) v e h = let same : n ≡ m = omega arith in sym (ap (λ x. x.id) (same_Some (variant_entry defs ns ty n w) v h)) ∙ same
ids_count defs ns ty n (suc i) m (w ∷ ws) v e h = ids_count defs ns ty (n + 1) i m ws v (omega arith) h

builtins_without : (n : ℕ) (xs : List (List ℕ)) → AllByRecursion HasVariantsAtIds (builtin_from n xs)
builtins_without n [] = tt
builtins_without n (x ∷ xs) = ((λ i v h. absurd (none-some v h)), builtins_without (suc n) xs)

module _ (defs : List Definition) where
  entry_at_ids : (ns : List (List ℕ)) (id : ℕ) (t : TypeTree) (w : TypeValueTree) → HasVariantsAtIds (entry_at defs ns id t w)
  entry_at_ids ns id t (enum_value variants at) i v h = ids_count defs ns t.name.text 0 i i variants v (omega arith) h
  entry_at_ids ns id t w i v h = grind (arith, common_steps, none-some)

  entries_at_ids : (ns : List (List ℕ)) (n : ℕ) (ts : List TypeTree) → AllByRecursion HasVariantsAtIds (map (λ p. type_entry defs ns p.0 p.1) (enumerate_from n ts))
  entries_at_ids ns n [] = tt
  entries_at_ids ns n (t ∷ ts) = (entry_at_ids ns n t t.value, entries_at_ids ns (n + 1) ts)

  variants_at_ids : All HasVariantsAtIds (type_table defs)
  variants_at_ids =
      All-from_recursion HasVariantsAtIds (type_table defs)
      (all_joined HasVariantsAtIds (builtin_from 0 builtin_names) (map (λ p. type_entry defs (type_names_met defs) p.0 p.1) (enumerate_from 13 (type_trees defs)))
      (builtins_without 0 builtin_names) (entries_at_ids (type_names_met defs) 13 (type_trees defs)))

  -- the last definitions are some of the definitions
  kept : (cs : List ConstantTree) (c : ConstantTree) → Contains (last_definitions cs) c → Contains cs c
  kept [] c i = i
  kept (d ∷ cs) c i = grind (arith, common_steps, kept cs c, in_tail, in_cases, in_head)

  -- the names of constants were met
  abbrev texts : List (List ℕ)
  texts = map (λ c. c.name.text) (constant_trees defs)

  constant_met : (c : ConstantTree) → Contains (constant_trees defs) c → has_name (type_names_met defs) c.name.text ≡ true
  constant_met c i =
      let there = get_from_member texts c.name.text (in_map (λ d. d.name.text) (constant_trees defs) c i) in
      has_met builtin_names (names_later defs) c.name.text
      (has_right (type_names defs ++ flat_map (λ t. names_inside t.name.text t.value) (type_trees defs)) texts c.name.text (has_at texts there.0 c.name.text there.1))

  type_below : (n : Name) → type_or_first defs n < length (type_table defs)
  type_below n = grind (arith, common_steps, as_many defs, place_below (all_type_names defs) 0 n.text, as_many, place_below)

  -- what holds of each constant
  each_constant : (P : ℕ × ℕ → Type 0) → ((c : ConstantTree) → Contains (constant_trees defs) c → P (name_number defs c.name.text, type_or_first defs c.ty)) → All P (constant_types defs)
  each_constant P h =
      all_members P (constant_types defs)
      (λ x i.
      let c = from_map (λ (d : ConstantTree). (name_number defs d.name.text, type_or_first defs d.ty)) (last_definitions (constant_trees defs)) x i in
      subst P c.2 (h c.0 (kept (constant_trees defs) c.0 c.1)))

pub own_types_are_readable_lem : OwnTypesAreReadable
own_types_are_readable_lem defs v = record {
  well_formed = own_types_are_well_formed_lem defs v;
  variants = variants_at_ids defs;
  names_of_constants = each_constant defs (λ c. c.0 < length (type_names_met defs)) (λ c i. number_below (type_names_met defs) c.name.text (constant_met defs c i));
  types_of_constants = each_constant defs (λ c. c.1 < length (type_table defs)) (λ c i. type_below defs c.ty);
}

-- so they can be, where an environment is read of them, and it is read as they are
pub own_types_read : (defs : List Definition) (env : TypeEnvironment) → AreTypesOf defs env → AreReadable (types_read defs) × IsReadAs env (types_read defs)
own_types_read defs env own = (own_types_are_readable_lem defs own.valid, own.shown)
