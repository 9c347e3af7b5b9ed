-- What stands in a type table stands in the definitions that it was read off.
use Rattle.std.proofs.Common.{◌≡◌, ℕ, suc, ◌+◌, List, [], ◌∷◌, ◌++◌, map, refl, sym, ap, subst, ◌∙◌}
use Rattle.std.specs.List.{flat_map, enumerate_from}
use Rattle.std.proofs.lemmas.Grind.{flat_map-append}
use Rattle.model.specs.lists.Syntax.{Position, VariantTree, TypeTree, TypeValueTree, primitive_value, enum_value, struct_value, Definition, type_definition, declaration, extractor_definition, converter_definition, rule_definition, extern_definition, other_definition}
use Rattle.model.specs.lists.TypeTable.{builtin_names, type_trees, type_names_met, builtin_from, variant_entry, entry_at, type_entry, type_table}
use Rattle.model.proofs.Members.{in_head, in_tail}
use Rattle.core_syntax.specs.Positions.{OccurAmong, fields_positions, variant_positions, value_positions, type_positions, definition_positions, positions_of}
use Rattle.core_syntax.proofs.Positioned.{among_same, among_first, among_both, among_right, among_next, among_sides}
use Rattle.core_types.specs.TypePositions.{entry_positions, types_positions}

-- a built-in type stands nowhere
none_stands : (n : ℕ) (xs : List (List ℕ)) → types_positions (builtin_from n xs) ≡ []
none_stands n [] = refl
none_stands n (x ∷ xs) = none_stands (suc n) xs

module _ (defs : List Definition) (names : List (List ℕ)) where
  variants_among : (ty : List ℕ) (id : ℕ) (vs : List VariantTree) → OccurAmong (map (λ v. v.at) (map (λ p. variant_entry defs names ty p.0 p.1) (enumerate_from id vs))) (flat_map variant_positions vs)
  variants_among ty id [] = among_same []
  variants_among ty id (v ∷ vs) = among_sides (v.at ∷ []) (map (λ v. v.at) (map (λ p. variant_entry defs names ty p.0 p.1) (enumerate_from (id + 1) vs))) (variant_positions v) (flat_map variant_positions vs) (among_first v.at (v.name.at ∷ fields_positions v.fields)) (variants_among ty (id + 1) vs)

  value_among : (id : ℕ) (t : TypeTree) (value : TypeValueTree) → OccurAmong (entry_positions (entry_at defs names id t value)) (t.at ∷ t.name.at ∷ value_positions value)
  value_among id t (primitive_value name at) = among_first t.at (t.name.at ∷ value_positions (primitive_value name at))
  value_among id t (struct_value fields at) = among_first t.at (t.name.at ∷ value_positions (struct_value fields at))
  value_among id t (enum_value vs at) =
      let whole = t.at ∷ t.name.at ∷ value_positions (enum_value vs at) in
      among_next t.at (map (λ v. v.at) (map (λ p. variant_entry defs names t.name.text p.0 p.1) (enumerate_from 0 vs))) whole (in_head t.at (t.name.at ∷ value_positions (enum_value vs at)))
      (λ p c. in_tail t.at p (t.name.at ∷ value_positions (enum_value vs at)) (in_tail t.name.at p (value_positions (enum_value vs at)) (in_tail at p (flat_map variant_positions vs) (variants_among t.name.text 0 vs p c))))

  entries_among : (id : ℕ) (ts : List TypeTree) → OccurAmong (types_positions (map (λ p. type_entry defs names p.0 p.1) (enumerate_from id ts))) (flat_map type_positions ts)
  entries_among id [] = among_same []
  entries_among id (t ∷ ts) = among_sides (entry_positions (type_entry defs names id t)) (types_positions (map (λ p. type_entry defs names p.0 p.1) (enumerate_from (id + 1) ts))) (type_positions t) (flat_map type_positions ts) (value_among id t t.value) (entries_among (id + 1) ts)

-- behind others
among_behind : (ps qs rs : List Position) → OccurAmong qs rs → OccurAmong qs (ps ++ rs)
among_behind ps qs rs a = among_both qs rs (ps ++ rs) a (among_right ps rs)

trees_among : (defs : List Definition) → OccurAmong (flat_map type_positions (type_trees defs)) (positions_of defs)
trees_among [] = among_same []
trees_among (type_definition t ∷ defs) = among_sides (type_positions t) (flat_map type_positions (type_trees defs)) (type_positions t) (positions_of defs) (among_same (type_positions t)) (trees_among defs)
trees_among (declaration d ∷ defs) = among_behind (definition_positions (declaration d)) (flat_map type_positions (type_trees defs)) (positions_of defs) (trees_among defs)
trees_among (extractor_definition d ∷ defs) = among_behind (definition_positions (extractor_definition d)) (flat_map type_positions (type_trees defs)) (positions_of defs) (trees_among defs)
trees_among (converter_definition d ∷ defs) = among_behind (definition_positions (converter_definition d)) (flat_map type_positions (type_trees defs)) (positions_of defs) (trees_among defs)
trees_among (rule_definition d ∷ defs) = among_behind (definition_positions (rule_definition d)) (flat_map type_positions (type_trees defs)) (positions_of defs) (trees_among defs)
trees_among (extern_definition d ∷ defs) = among_behind (definition_positions (extern_definition d)) (flat_map type_positions (type_trees defs)) (positions_of defs) (trees_among defs)
trees_among (other_definition ∷ defs) = trees_among defs

-- those of the table that definitions make
pub table_among : (defs : List Definition) → OccurAmong (types_positions (type_table defs)) (positions_of defs)
table_among defs =
    let entries = map (λ p. type_entry defs (type_names_met defs) p.0 p.1) (enumerate_from 13 (type_trees defs)) in
    let same : types_positions (type_table defs) ≡ types_positions entries = flat_map-append entry_positions (builtin_from 0 builtin_names) entries ∙ ap (λ ps. ps ++ types_positions entries) (none_stands 0 builtin_names) in
    subst (λ ps. OccurAmong ps (positions_of defs)) (sym same) (among_both (types_positions entries) (flat_map type_positions (type_trees defs)) (positions_of defs) (entries_among defs (type_names_met defs) 13 (type_trees defs)) (trees_among defs))
