-- What a client asks of an entry of the term table.
use Rattle.std.specs.Prelude.{Bool, true, false, Option, Some, None, is_some}
use Rattle.model.specs.lists.Tables.{ConstructorEntry, internal_constructor, external_constructor, ExtractorEntry, internal_extractor, external_extractor, TermKindEntry, variant_term, struct_term, declared_term, TermEntry}

abbrev pub is_variant_kind : TermKindEntry → Bool
is_variant_kind (variant_term variant) = true
is_variant_kind struct_term = false
is_variant_kind (declared_term flags constructor_kind extractor_kind) = false

abbrev pub is_variant_term : TermEntry → Bool
is_variant_term t = is_variant_kind t.kind

abbrev pub is_struct_kind : TermKindEntry → Bool
is_struct_kind (variant_term variant) = false
is_struct_kind struct_term = true
is_struct_kind (declared_term flags constructor_kind extractor_kind) = false

abbrev pub is_struct_term : TermEntry → Bool
is_struct_term t = is_struct_kind t.kind

-- only a declared term may be partial
abbrev pub is_partial_kind : TermKindEntry → Bool
is_partial_kind (variant_term variant) = false
is_partial_kind struct_term = false
is_partial_kind (declared_term flags constructor_kind extractor_kind) = flags.partial

abbrev pub is_partial_term : TermEntry → Bool
is_partial_term t = is_partial_kind t.kind

-- only a declared term may be recursive
abbrev pub is_recursive_kind : TermKindEntry → Bool
is_recursive_kind (variant_term variant) = false
is_recursive_kind struct_term = false
is_recursive_kind (declared_term flags constructor_kind extractor_kind) = flags.rec

abbrev pub is_recursive_term : TermEntry → Bool
is_recursive_term t = is_recursive_kind t.kind

-- a variant and a struct can always be made
abbrev pub has_constructor_kind : TermKindEntry → Bool
has_constructor_kind (variant_term variant) = true
has_constructor_kind struct_term = true
has_constructor_kind (declared_term flags constructor_kind extractor_kind) = is_some constructor_kind

abbrev pub has_constructor_term : TermEntry → Bool
has_constructor_term t = has_constructor_kind t.kind

-- a variant and a struct can always be taken apart
abbrev pub has_extractor_kind : TermKindEntry → Bool
has_extractor_kind (variant_term variant) = true
has_extractor_kind struct_term = true
has_extractor_kind (declared_term flags constructor_kind extractor_kind) = is_some extractor_kind

abbrev pub has_extractor_term : TermEntry → Bool
has_extractor_term t = has_extractor_kind t.kind

abbrev pub is_external_extractor : Option ExtractorEntry → Bool
is_external_extractor None = false
is_external_extractor (Some (internal_extractor template)) = false
is_external_extractor (Some (external_extractor name infallible at)) = true

abbrev pub has_external_extractor_kind : TermKindEntry → Bool
has_external_extractor_kind (variant_term variant) = false
has_external_extractor_kind struct_term = false
has_external_extractor_kind (declared_term flags constructor_kind extractor_kind) = is_external_extractor extractor_kind

abbrev pub has_external_extractor_term : TermEntry → Bool
has_external_extractor_term t = has_external_extractor_kind t.kind

abbrev pub is_external_constructor : Option ConstructorEntry → Bool
is_external_constructor None = false
is_external_constructor (Some internal_constructor) = false
is_external_constructor (Some (external_constructor name)) = true

abbrev pub has_external_constructor_kind : TermKindEntry → Bool
has_external_constructor_kind (variant_term variant) = false
has_external_constructor_kind struct_term = false
has_external_constructor_kind (declared_term flags constructor_kind extractor_kind) = is_external_constructor constructor_kind

abbrev pub has_external_constructor_term : TermEntry → Bool
has_external_constructor_term t = has_external_constructor_kind t.kind

abbrev pub is_internal_constructor : Option ConstructorEntry → Bool
is_internal_constructor None = false
is_internal_constructor (Some internal_constructor) = true
is_internal_constructor (Some (external_constructor name)) = false

abbrev pub has_internal_constructor_kind : TermKindEntry → Bool
has_internal_constructor_kind (variant_term variant) = false
has_internal_constructor_kind struct_term = false
has_internal_constructor_kind (declared_term flags constructor_kind extractor_kind) = is_internal_constructor constructor_kind

abbrev pub has_internal_constructor_term : TermEntry → Bool
has_internal_constructor_term t = has_internal_constructor_kind t.kind
