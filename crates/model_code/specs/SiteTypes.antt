-- The types that a program gives the sites of a term, and which of them code holds by reference.
use Rattle.std.specs.Prelude.{[], ◌∷◌, ◌&&◌, ℕ, Bool, true, false, not, List, Option, Some, None, slice_get}
use Rattle.std.specs.List.{list_all}
use Rattle.model.specs.rules.Program.{Program, is_multi}
use Rattle.model.specs.rules.Values.{is_composed_type, variant_types, struct_types}
use Rattle.model.specs.sites.Serves.{term_args, term_results, constant_type}
use Rattle.model.specs.sites.Sites.{Site, SiteTerm, bool_term, int_term, prim_term, argument, extractor_call, constructor_call, pick_of, variant_made, variant_field, struct_made, struct_field, some_made, some_part, tuple_part, no_site, unfold_site}
use Rattle.model_code.specs.Code.{Place, variable, parameter, part_of, int_written, name_written, variant_written, struct_written}
use Rattle.model_code.specs.Modes.{BindingMode, a_value, a_reference, Types}

abbrev pub one_type : Option ℕ → List ℕ
one_type None = []
one_type (Some ty) = ty ∷ []

abbrev pub or_no_types : Option (List ℕ) → List ℕ
or_no_types None = []
or_no_types (Some tys) = tys

-- the type of a field of one value, where its type says which fields there are
abbrev pub field_type : (ℕ → Option (List ℕ)) → List ℕ → ℕ → List ℕ
field_type fields (ty ∷ []) i = one_type (slice_get (or_no_types (fields ty)) i)
field_type fields tys i = []

-- the types of one answer of a site: of a value, or of each of so many outputs
abbrev pub types_at : Program → List ℕ → SiteTerm → List ℕ
types_at p args (bool_term b ty) = ty ∷ []
types_at p args (int_term z ty) = ty ∷ []
types_at p args (prim_term name) = one_type (constant_type p name)
types_at p args (argument i) = one_type (slice_get args i)
types_at p args (extractor_call t s) = term_args (slice_get p.terms t)
types_at p args (constructor_call t ss i) = term_results (slice_get p.terms t)
types_at p args (pick_of s) = types_at p args s
types_at p args (variant_made ty variant ss) = ty ∷ []
types_at p args (variant_field s variant i) = field_type (λ ty. variant_types (slice_get p.types ty) variant) (types_at p args s) i
types_at p args (struct_made ty ss) = ty ∷ []
types_at p args (struct_field s i) = field_type (λ ty. struct_types (slice_get p.types ty)) (types_at p args s) i
types_at p args (some_made s) = types_at p args s
types_at p args (some_part s) = types_at p args s
types_at p args (tuple_part s i) = one_type (slice_get (types_at p args s) i)
types_at p args no_site = []

-- an enum or a struct
abbrev pub is_composed : Program → ℕ → Bool
is_composed p ty = is_composed_type (slice_get p.types ty)

abbrev pub is_one_composed : Program → List ℕ → Bool
is_one_composed p (ty ∷ []) = is_composed p ty
is_one_composed p tys = false

-- what has no enum and no struct in it counts as Copy. A primitive type does too, though in Rust it needn't be: a program
-- doesn't say whether it is
abbrev pub are_copied : Program → List ℕ → Bool
are_copied p tys = list_all (λ ty. not (is_composed p ty)) tys

-- held by reference are arguments, fields and answers of calls of one enum or struct, but for answers that a loop goes over; and
-- what is within an answer that isn't Copy
abbrev pub is_held_by_reference : Program → List ℕ → SiteTerm → Bool
is_held_by_reference p args (argument i) = is_one_composed p (types_at p args (argument i))
is_held_by_reference p args (extractor_call t s) = not (is_multi p t) && is_one_composed p (types_at p args (extractor_call t s))
is_held_by_reference p args (constructor_call t ss i) = not (is_multi p t) && is_one_composed p (types_at p args (constructor_call t ss i))
is_held_by_reference p args (variant_field s variant i) = is_one_composed p (types_at p args (variant_field s variant i))
is_held_by_reference p args (struct_field s i) = is_one_composed p (types_at p args (struct_field s i))
is_held_by_reference p args (some_part s) = not (are_copied p (types_at p args s))
is_held_by_reference p args s = false

abbrev pub mode_of : Bool → BindingMode
mode_of true = a_reference
mode_of false = a_value

abbrev pub is_copied_at : Program → List ℕ → List Site → Place → Bool
is_copied_at p args sites (variable v) = are_copied p (types_at p args (unfold_site sites v))
is_copied_at p args sites (parameter i) = are_copied p (types_at p args (argument i))
is_copied_at p args sites (part_of v i) = are_copied p (types_at p args (tuple_part (unfold_site sites v) i))
is_copied_at p args sites (int_written z ty) = are_copied p (ty ∷ [])
is_copied_at p args sites (name_written name) = are_copied p (one_type (constant_type p name))
is_copied_at p args sites (variant_written ty variant) = are_copied p (ty ∷ [])
is_copied_at p args sites (struct_written ty) = are_copied p (ty ∷ [])

-- the types of a term's code, by its arguments' types: an extractor takes its term's result, a constructor its term's arguments
abbrev pub types_of : Program → List ℕ → List Site → Types
types_of p args sites = record {
  variables = λ v. mode_of (is_held_by_reference p args (unfold_site sites v));
  parameters = λ i. mode_of (is_held_by_reference p args (argument i));
  is_copy = is_copied_at p args sites;
  extracts_reference = λ t. is_one_composed p (term_results (slice_get p.terms t));
  takes_reference = λ t i. is_one_composed p (one_type (slice_get (term_args (slice_get p.terms t)) i));
}
