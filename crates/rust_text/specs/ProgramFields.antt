-- What is looked up in the tables of a program.
use Rattle.std.specs.Prelude.{ℕ, Bool, false, List, [], ◌∷◌, Option, Some, None, slice_get}
use Rattle.model.specs.lists.Tables.{FieldEntries, unit_entries, TermKindEntry, variant_term, struct_term, declared_term, TermEntry}
use Rattle.model.specs.rules.Values.{is_composed_type}
use Rattle.model.specs.sites.Serves.{term_args, term_results}
use Rattle.model_code.specs.Tokens.{Owner}
use Rattle.model_code.specs.Notation.{Callee, extractor_of, constructor_of}
use Rattle.model_code.specs.ProgramNotation.{fields_in, type_of_owner}
use Rattle.core_types.specs.declared.types.Fields.{Fields}
use Rattle.core_types.specs.declared.type_env.TypeEnv.{TypeEnv}
use Rattle.core_types.specs.TypeViews.{fields_view, type_views}

-- a type that is there, and an enum or a struct
abbrev pub composed_in : TypeEnv → Option ℕ → Bool
composed_in tyenv None = false
composed_in tyenv (Some ty) = is_composed_type (slice_get (type_views tyenv.types.items) ty)

abbrev pub fields_seen : Option Fields → FieldEntries
fields_seen None = unit_entries
fields_seen (Some fields) = fields_view fields

abbrev pub fields_in_env : TypeEnv → Owner → FieldEntries
fields_in_env tyenv o = fields_in (slice_get (type_views tyenv.types.items) (type_of_owner o)) o

-- the only one of a list
abbrev pub sole : List ℕ → Option ℕ
sole (ty ∷ []) = Some ty
sole tys = None

abbrev pub answers_in : List TermEntry → Callee → List ℕ
answers_in terms (extractor_of term) = term_args (slice_get terms term)
answers_in terms (constructor_of term) = term_results (slice_get terms term)

abbrev pub multi_of : TermKindEntry → Bool
multi_of (variant_term variant) = false
multi_of struct_term = false
multi_of (declared_term flags constructor_kind extractor_kind) = flags.multi

abbrev pub multi_at : Option TermEntry → Bool
multi_at None = false
multi_at (Some e) = multi_of e.kind
