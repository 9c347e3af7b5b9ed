-- Steps of what is known of types.
use Rattle.std.proofs.Common.{◌≡◌, ℕ, [], Some, None, slice_get, refl}
use Rattle.core_types.specs.Types.{entry_field_types}
use Rattle.model.specs.lists.Tables.{FieldEntries, unit_entries, struct_entries, tuple_entries}
use Rattle.model.specs.rules.Program.{Program, arg_types}
use Rattle.model.specs.rules.Values.{field_types}
use Rattle.model.specs.sites.Serves.{term_args}

-- the types of a term's arguments are said twice
pub types_said : (p : Program) (t : ℕ) → arg_types p t ≡ term_args (slice_get p.terms t)
types_said p t = elim (slice_get p.terms t) as (λ o. elim o [ None ↦ [] | Some e ↦ e.arg_tys ] ≡ term_args o) [ None ↦ refl | Some e ↦ refl ]

-- and so are those of fields
pub types_seen : (fs : FieldEntries) → entry_field_types fs ≡ field_types fs
types_seen unit_entries = refl
types_seen (struct_entries fs) = refl
types_seen (tuple_entries fs) = refl

pub ruleset type_steps = (types_seen)

pub ruleset field_steps = (types_seen)
