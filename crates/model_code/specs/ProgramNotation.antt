-- How the things of a program are written.
use Rattle.std.specs.Prelude.{[], ◌∷◌, ◌==◌, ℕ, suc, Bool, false, List, length, Option, Some, None, slice_get}
use Rattle.std.specs.List.{position_or_len}
use Rattle.model.specs.lists.Tables.{FieldEntries, unit_entries, struct_entries, tuple_entries, VariantEntry, TypeEntry, builtin_type, enum_type, struct_type, ConstructorEntry, external_constructor, ExtractorEntry, external_extractor, TermKindEntry, declared_term, TermEntry}
use Rattle.model.specs.rules.Program.{Program, is_multi}
use Rattle.model.specs.rules.Values.{field_types}
use Rattle.model.specs.sites.Serves.{term_args, term_results, constant_type}
use Rattle.model_code.specs.SiteTypes.{one_type, is_one_composed}
use Rattle.model_code.specs.Tokens.{Owner, variant_owner, struct_owner}
use Rattle.model_code.specs.Notation.{Notation, ReturnForm, Shape, no_fields, named_fields, unnamed_fields, Callee, extractor_of, constructor_of}
use Rattle.model_code.specs.Alike.{term_of}

abbrev pub fields_of_variant : Option VariantEntry → FieldEntries
fields_of_variant (Some v) = v.fields
fields_of_variant None = unit_entries

abbrev pub fields_in : Option TypeEntry → Owner → FieldEntries
fields_in (Some (enum_type name id is_extern is_nodebug variants at)) (variant_owner ty variant) = fields_of_variant (slice_get variants variant)
fields_in (Some (struct_type name id is_extern is_nodebug fields at)) (struct_owner ty) = fields
fields_in entry o = unit_entries

abbrev pub type_of_owner : Owner → ℕ
type_of_owner (variant_owner ty variant) = ty
type_of_owner (struct_owner ty) = ty

abbrev pub fields_of : Program → Owner → FieldEntries
fields_of p o = fields_in (slice_get p.types (type_of_owner o)) o

abbrev pub shape_of : FieldEntries → Shape
shape_of unit_entries = no_fields
shape_of (struct_entries fields) = named_fields (length fields)
shape_of (tuple_entries fields) = unnamed_fields (length fields)

-- the name of a function from outside
abbrev pub outside_extractor : Option ExtractorEntry → Option ℕ
outside_extractor (Some (external_extractor name infallible at)) = Some name
outside_extractor _ = None

abbrev pub outside_constructor : Option ConstructorEntry → Option ℕ
outside_constructor (Some (external_constructor name)) = Some name
outside_constructor _ = None

abbrev pub outside_in : TermKindEntry → Callee → Option ℕ
outside_in (declared_term flags constructor_kind extractor_kind) (extractor_of term) = outside_extractor extractor_kind
outside_in (declared_term flags constructor_kind extractor_kind) (constructor_of term) = outside_constructor constructor_kind
outside_in kind f = None

abbrev pub outside_of_entry : Option TermEntry → Callee → Option ℕ
outside_of_entry (Some e) f = outside_in e.kind f
outside_of_entry None f = None

abbrev pub outside_of : Program → Callee → Option ℕ
outside_of p f = outside_of_entry (slice_get p.terms (term_of f)) f

-- the same function of the same term: an internal extractor isn't the constructor of its term
abbrev pub is_same_callee : Callee → Callee → Bool
is_same_callee (extractor_of t) (extractor_of u) = t == u
is_same_callee (constructor_of t) (constructor_of u) = t == u
is_same_callee _ _ = false

-- one function: of one name from outside, or of one term
abbrev pub same_names : Option ℕ → Option ℕ → (same_callees : Bool) → Bool
same_names (Some m) (Some n) same_callees = m == n
same_names None None same_callees = same_callees
same_names _ _ same_callees = false

abbrev pub is_same_function : Program → Callee → Callee → Bool
is_same_function p f g = same_names (outside_of p f) (outside_of p g) (is_same_callee f g)

abbrev pub callees_from : ℕ → List TermEntry → List Callee
callees_from t [] = []
callees_from t (e ∷ rest) = extractor_of t ∷ constructor_of t ∷ callees_from (suc t) rest

-- the number of a function: the first of the program that is it
abbrev pub callees : Program → List Callee
callees p = callees_from 0 p.terms

abbrev pub function_number : Program → Callee → ℕ
function_number p f = position_or_len (is_same_function p f) (callees p)

abbrev pub list_of : Program → Option ℕ → Callee → Option ℕ
list_of p None f = None
list_of p (Some name) f = Some (function_number p f)

abbrev pub answers_of : Program → Callee → List ℕ
answers_of p (extractor_of term) = term_args (slice_get p.terms term)
answers_of p (constructor_of term) = term_results (slice_get p.terms term)

-- a built-in type of integers stands behind their digits; `bool`, of number 0, has none, and stands for nothing
abbrev pub ending_in : Option TypeEntry → ℕ → ℕ
ending_in (Some (builtin_type place)) ty = ty
ending_in _ ty = 0

abbrev pub notation_of : Program → ReturnForm → (is_logged : Bool) → Notation
notation_of p kind is_logged = record {
  kind = kind;
  is_logged = is_logged;
  shape = λ o. shape_of (fields_of p o);
  is_field_composed = λ o i. is_one_composed p (one_type (slice_get (field_types (fields_of p o)) i));
  is_constant_composed = λ name. is_one_composed p (one_type (constant_type p name));
  gives_composed = λ f. is_one_composed p (answers_of p f);
  has_many = λ f. is_multi p (term_of f);
  function = function_number p;
  list = λ f. list_of p (outside_of p f) f;
  ending = λ ty. ending_in (slice_get p.types ty) ty;
}
