-- What a program's environments say of names.
use Rattle.std.specs.Prelude.{ℕ, List, [], ◌∷◌, if◌then◌else◌, is_some, length, map}
use Rattle.std.specs.List.{flat_map, range_with_len}
use Rattle.core_terms.specs.declared.term.Term.{Term}
use Rattle.cranelift_isle.specs.TermViews.{term_views}
use Rattle.core_types.specs.declared.type_env.TypeEnv.{TypeEnv}
use Rattle.cranelift_isle.specs.Envs.{names_of, constant_at}
use Rattle.cranelift_isle.specs.TypeViews.{type_views}
use Rattle.cranelift_isle.specs.declared.lower.LoweredTerm.{LoweredTerm}
use Rattle.rust_items.specs.NamedPrograms.{NamedProgram}

-- the number of a name that is a constant's
abbrev pub constant_or_none : TypeEnv → ℕ → List ℕ
constant_or_none env k = if is_some (constant_at env k) then k ∷ [] else []

-- the constants, by the numbers of their names
abbrev pub constants_of : TypeEnv → List ℕ
constants_of env = flat_map (constant_or_none env) (range_with_len 0 (length (names_of env)))

abbrev pub named_program : TypeEnv → List Term → List LoweredTerm → NamedProgram
named_program env terms lowered = record {
  names = names_of env;
  types = type_views env.types.items;
  terms = term_views terms;
  constants = constants_of env;
  with_rules = map (λ (t : LoweredTerm). t.id.0) lowered;
}
