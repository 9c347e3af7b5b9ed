-- Types that are well formed and that rules can't be read with: a variant that doesn't stand at its id.
--   (type T (enum (A)))
use Rattle.std.specs.Prelude.{◌∷◌, [], ◌++◌, ℕ, codes}
use Rattle.model.specs.claims.Environments.{AreReadable, TypesRead}
use Rattle.model.specs.lists.KnownTypes.{IsWellFormed}
use Rattle.model.specs.lists.Tables.{unit_entries}
use Rattle.model.specs.lists.TypeTable.{builtin_names}
use Rattle.laws_examples.specs.TypedForms.{builtins, enum_entry, names_with, own, variant_entry}

-- the one variant says this id
abbrev pub one_variant : ℕ → TypesRead
one_variant id = record {
  known = record {
    names = names_with (codes "T" ∷ codes "T.A" ∷ codes "A" ∷ []);
    types = builtins ++ enum_entry 13 own (variant_entry 15 14 id unit_entries 0 ∷ []) 0 ∷ [];
    type_names = builtin_names ++ codes "T" ∷ [];
  };
  constants = [];
}

abbrev pub VariantsStandAtTheirIds : Type 0
VariantsStandAtTheirIds = IsWellFormed (one_variant 1).known × AreReadable (one_variant 0) × (AreReadable (one_variant 1) → ⊥)
