-- The judge of types that are handed in: whether they are well formed, by computing.
use Rattle.std.specs.Prelude.{ℕ, suc, Bool, true, false, ◌&&◌, nat_lt, List, [], ◌∷◌, length}
use Rattle.std.specs.Bool.{◌==◌}
use Rattle.std.specs.List.{flat_map, list_all}
use Rattle.model.specs.lists.Names.{has_name, all_different}
use Rattle.model.specs.lists.Tables.{TypeEntry, builtin_type}
use Rattle.model.specs.lists.TypeTable.{builtin_names}
use Rattle.model.specs.lists.KnownTypes.{KnownTypes, entry_id, types_inside, entry_numbers}

-- whether a type is the built-in one of this place
abbrev pub is_builtin : ℕ → TypeEntry → Bool
is_builtin n (builtin_type place) = place == n
is_builtin n _ = false

-- whether types begin with as many built-in ones as there are names, from this place on
abbrev pub begin_with_builtins : ℕ → List (List ℕ) → List TypeEntry → Bool
begin_with_builtins n [] types = true
begin_with_builtins n (x ∷ xs) [] = false
begin_with_builtins n (x ∷ xs) (t ∷ types) = is_builtin n t && begin_with_builtins (suc n) xs types

-- whether the ids that types say count up from this one
abbrev pub stand_at_ids : ℕ → List TypeEntry → Bool
stand_at_ids n [] = true
stand_at_ids n (t ∷ types) = (entry_id t == n) && stand_at_ids (suc n) types

-- whether types are well formed
abbrev pub are_well_formed : KnownTypes → Bool
are_well_formed k =
    all_different k.names
    && begin_with_builtins 0 builtin_names k.types
    && stand_at_ids 0 k.types
    && all_different k.type_names
    && (length k.type_names == length k.types)
    && list_all (has_name k.names) k.type_names
    && list_all (λ ty. nat_lt ty (length k.types)) (flat_map types_inside k.types)
    && list_all (λ n. nat_lt n (length k.names)) (flat_map entry_numbers k.types)
