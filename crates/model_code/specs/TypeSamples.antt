-- The types of the sample's sites, by its program: an enum E of the type 1, numbers of the type 2, `pick` and a multi `each`.
use Rattle.std.specs.Prelude.{◌≡◌, ◌∷◌, ◌++◌, [], ℕ, Bool, true, false, List, Some, None}
use Rattle.model.specs.lists.Tables.{TypeEntry, builtin_type, enum_type, struct_type, VariantEntry, FieldEntries, struct_entries, FieldEntry, TermEntry, declared_term, external_constructor, external_extractor}
use Rattle.model.specs.rules.Program.{Program}
use Rattle.model.specs.sites.Sites.{Site, argument_site, extractor_site, constructor_site, iterator_site, match_variant_site, make_struct_site, extract_struct_site, make_some_site, match_some_site, match_tuple_site}
use Rattle.model_code.specs.Code.{variable, parameter, part_of}
use Rattle.model_code.specs.Modes.{a_value, a_reference, Types, tree_typed}
use Rattle.model_code.specs.SiteTypes.{types_of}
use Rattle.model_code.specs.Samples.{sites, somewhere, tree}

abbrev pub a_field : ℕ → ℕ → FieldEntry
a_field id ty = record { name = id; id = id; ty = ty }

abbrev pub a_variant : ℕ → FieldEntries → VariantEntry
a_variant id fields = record { name = id; full_name = id; id = id; fields = fields; at = somewhere }

abbrev pub enum_e : TypeEntry
enum_e = enum_type 0 1 false false (a_variant 0 (struct_entries (a_field 0 2 ∷ [])) ∷ (a_variant 1 (struct_entries (a_field 0 1 ∷ (a_field 1 2 ∷ []))) ∷ [])) somewhere

-- E to E
abbrev pub constructor_of : ℕ → Bool → TermEntry
constructor_of id multi = record {
  id = id;
  at = somewhere;
  name = id;
  arg_tys = 1 ∷ [];
  ret_ty = 1;
  kind = declared_term (record { pure = false; multi = multi; partial = false; rec = false }) (Some (external_constructor id)) None;
}

abbrev pub program : Program
program = record { types = builtin_type 0 ∷ (enum_e ∷ (builtin_type 1 ∷ [])); constants = []; terms = constructor_of 0 false ∷ (constructor_of 1 true ∷ []); rules = [] }

-- with a call of `each`, and one of its answers
abbrev pub more_sites : List Site
more_sites = constructor_site 1 (0 ∷ []) 1 ∷ (iterator_site 0 ∷ [])

-- a struct of the type 3, with an E and a number; an extractor `split` of an E that may fail, with an E and a number; and `inner`
-- of a number, with an E
abbrev pub struct_s : TypeEntry
struct_s = struct_type 2 3 false false (struct_entries (a_field 0 1 ∷ (a_field 1 2 ∷ []))) somewhere

abbrev pub extractor_of : ℕ → List ℕ → ℕ → TermEntry
extractor_of id args result = record {
  id = id;
  at = somewhere;
  name = id;
  arg_tys = args;
  ret_ty = result;
  kind = declared_term (record { pure = false; multi = false; partial = true; rec = false }) None (Some (external_extractor id false somewhere));
}

abbrev pub wider : Program
wider = record program {
  types = program.types ++ struct_s ∷ [];
  terms = program.terms ++ (extractor_of 2 (1 ∷ (2 ∷ [])) 1 ∷ (extractor_of 3 (1 ∷ []) 2 ∷ []));
}

-- of an E: a field that is an E; `split`, what is in its answer, and the parts of that; `inner` of the number, and what is in its
-- answer. Of an S: its fields; one that is made, as an option too
abbrev pub wider_sites : List Site
wider_sites =
    argument_site 0
    ∷ (match_variant_site 0 1 0
    ∷ (extractor_site 2 0
    ∷ (match_some_site 2
    ∷ (match_tuple_site 3 0
    ∷ (match_tuple_site 3 1
    ∷ (extractor_site 3 5
    ∷ (match_some_site 6
    ∷ (argument_site 1
    ∷ (extract_struct_site 8 0
    ∷ (extract_struct_site 8 1
    ∷ (make_struct_site 3 (9 ∷ (10 ∷ []))
    ∷ (make_some_site 11
    ∷ []))))))))))))

abbrev pub wider_types : Types
wider_types = types_of wider (1 ∷ (3 ∷ [])) wider_sites

pub record TypesAreThose : Type 0 where
  -- the argument and what `pick` answers are references, the field x and what is made are values; x alone is Copy
  pub argument_is : (types_of program (1 ∷ []) sites).parameters 0 ≡ a_reference
  pub field_is : (types_of program (1 ∷ []) sites).variables 1 ≡ a_value
  pub answer_is : (types_of program (1 ∷ []) sites).variables 2 ≡ a_reference
  pub made_is : (types_of program (1 ∷ []) sites).variables 3 ≡ a_value
  pub field_copied : (types_of program (1 ∷ []) sites).is_copy (variable 1) ≡ true
  pub made_copied : (types_of program (1 ∷ []) sites).is_copy (variable 3) ≡ false
  -- so the sample's tree is typed
  pub typed : tree_typed (types_of program (1 ∷ []) sites) sites tree ≡ true
  -- what `each` answers is a value, and so is each answer
  pub several_is : (types_of program (1 ∷ []) more_sites).variables 0 ≡ a_value
  pub each_is : (types_of program (1 ∷ []) more_sites).variables 1 ≡ a_value
  -- a field that is an E is a reference, and isn't Copy
  pub enum_field_is : wider_types.variables 1 ≡ a_reference
  pub enum_field_kept : wider_types.is_copy (variable 1) ≡ false
  -- an answer of several values that may be nothing is a value, and what is in it a reference; of its parts the number is Copy
  pub split_is : wider_types.variables 2 ≡ a_value
  pub split_kept : wider_types.is_copy (variable 2) ≡ false
  pub in_split_is : wider_types.variables 3 ≡ a_reference
  pub first_part_kept : wider_types.is_copy (part_of 3 0) ≡ false
  pub second_part_copied : wider_types.is_copy (part_of 3 1) ≡ true
  -- an answer that is an E is a reference, also where it may be nothing, and so is what is in it
  pub inner_is : wider_types.variables 6 ≡ a_reference
  pub in_inner_is : wider_types.variables 7 ≡ a_reference
  -- a struct is a reference, as its field that is an E, and not its number; one that is made is a value, and so is an option of it
  pub struct_is : wider_types.parameters 1 ≡ a_reference
  pub struct_kept : wider_types.is_copy (parameter 1) ≡ false
  pub struct_enum_is : wider_types.variables 9 ≡ a_reference
  pub struct_number_is : wider_types.variables 10 ≡ a_value
  pub struct_number_copied : wider_types.is_copy (variable 10) ≡ true
  pub struct_made_is : wider_types.variables 11 ≡ a_value
  pub struct_made_kept : wider_types.is_copy (variable 11) ≡ false
  pub option_made_is : wider_types.variables 12 ≡ a_value
  pub option_made_kept : wider_types.is_copy (variable 12) ≡ false
  -- what extractors and constructors take: an E by reference, a number by value
  pub split_takes : wider_types.extracts_reference 2 ≡ true
  pub inner_takes : wider_types.extracts_reference 3 ≡ false
  pub pick_takes : wider_types.takes_reference 0 0 ≡ true
  pub second_taken : wider_types.takes_reference 2 1 ≡ false
  -- where the argument is a number, the tree, which matches it as an E, isn't typed
  pub untyped : tree_typed (types_of program (2 ∷ []) sites) sites tree ≡ false
