-- The items before the functions of terms, as they are written.
use Rattle.std.specs.Prelude.{◌≡◌, ◌≢◌, ℕ, zero, suc, Bool, true, false, List, [], ◌∷◌, ◌++◌, Option, Some, None, filter, not, slice_get, if◌then◌else◌, codes}
use Rattle.std.specs.List.{flat_map, list_any}
use Rattle.std.specs.Str.{bytes_eq}
use Rattle.model.specs.lists.Signatures.{text_of, Giving, gives_one, gives_one_or_none, gives_any_number, Signature, constructor_signature, extractor_signature}
use Rattle.model.specs.lists.Syntax.{Position}
use Rattle.model.specs.lists.Tables.{FieldEntry, TupleFieldEntry, FieldEntries, unit_entries, struct_entries, tuple_entries, VariantEntry, TypeEntry, builtin_type, primitive_type, enum_type, struct_type, TermEntry}
use Rattle.core_terms.specs.Terms.{has_external_constructor_term, has_external_extractor_term}
use Rattle.rust_items.specs.FilePlaces.{Beginning, Sources, file_written, place_written}
use Rattle.rust_items.specs.RustNames.{part, spelled}
use Rattle.rust_items.specs.WrittenTypes.{lead, outputs_written, parameters_written, type_written}
use Rattle.rust_items.specs.declared.beside.TheConstants.{BESIDE}
use Rattle.rust_items.specs.declared.context.TheConstants.{OWED}
use Rattle.rust_items.specs.declared.head.TheConstants.{ALLOWS, FIRST, IMPORTS}

-- what items are written by: the texts of names, types and files
pub record ItemSetting : Type 0 where
  pub names : List (List ℕ)
  pub types : List TypeEntry
  pub sources : Sources

abbrev pub unless : Bool → List ℕ → List ℕ
unless b text = if b then [] else text

-- 1. which files the code is made of, attributes of the file, and imports
abbrev pub file_line : List Beginning → List ℕ → List ℕ
file_line bs name = codes "// - " ++ (file_written bs name ++ codes "\n")

abbrev pub file_lines : Sources → List ℕ
file_lines s = flat_map (file_line s.beginnings) s.names

abbrev pub head_written : Sources → (exclude : Bool) → List ℕ
head_written s exclude = FIRST.now ++ (file_lines s ++ (unless exclude ALLOWS.now ++ IMPORTS.now))

-- 2. a function of `Context`: its name, its lines, and where a term that has it is declared
pub record ContextFunction : Type 0 where
  pub name : List ℕ
  pub text : List ℕ
  pub at : Position

-- the type of what takes many answers
abbrev pub answers_begin : (name : List ℕ) → List ℕ
answers_begin name = codes "    type " ++ (part name ++ codes "_returns: Default + IntoContextIter<Context = Self, Output = ")

abbrev pub answers_written : ItemSetting → (name tys : List ℕ) → List ℕ
answers_written s name tys = answers_begin name ++ (outputs_written s.names s.types tys ++ codes ">;\n")

abbrev pub returns_written : ItemSetting → (name tys : List ℕ) → Giving → List ℕ
returns_written s name tys gives_one = []
returns_written s name tys gives_one_or_none = []
returns_written s name tys gives_any_number = answers_written s name tys

-- the rest of a signature behind the parameters: by what is given
abbrev pub one_written : ItemSetting → (tys : List ℕ) → List ℕ
one_written s tys = codes ") -> " ++ outputs_written s.names s.types tys

abbrev pub option_written : ItemSetting → (tys : List ℕ) → List ℕ
option_written s tys = codes ") -> Option<" ++ (outputs_written s.names s.types tys ++ codes ">")

abbrev pub many_written : (name : List ℕ) → List ℕ
many_written name = codes ", returns: &mut Self::" ++ (part name ++ codes "_returns) -> ()")

abbrev pub given_written : ItemSetting → (name tys : List ℕ) → Giving → List ℕ
given_written s name tys gives_one = one_written s tys
given_written s name tys gives_one_or_none = option_written s tys
given_written s name tys gives_any_number = many_written name

abbrev pub call_begin : (name : List ℕ) → List ℕ
call_begin name = codes "    fn " ++ (spelled name ++ codes "(&mut self")

abbrev pub call_written : ItemSetting → (name params tys : List ℕ) → Giving → List ℕ
call_written s name params tys gives = call_begin name ++ (parameters_written s.names s.types 0 params ++ (given_written s name tys gives ++ codes ";\n"))

abbrev pub lines_written : ItemSetting → (name params tys : List ℕ) → Giving → List ℕ
lines_written s name params tys gives = returns_written s name tys gives ++ call_written s name params tys gives

abbrev pub signature_written : ItemSetting → Signature → List ℕ
signature_written s sig = lines_written s sig.func_name sig.param_tys sig.ret_tys sig.ret_kind

abbrev pub function_at : ItemSetting → Position → Option Signature → List ContextFunction
function_at s at None = []
function_at s at (Some sig) = record { name = sig.func_name; text = signature_written s sig; at = at } ∷ []

abbrev pub functions_if : Bool → List ContextFunction → List ContextFunction
functions_if b fs = if b then fs else []

-- what takes a term's values apart, and what makes them, where they come from outside
abbrev pub extractor_function : ItemSetting → TermEntry → List ContextFunction
extractor_function s e = functions_if (has_external_extractor_term e) (function_at s e.at (extractor_signature s.names e))

abbrev pub constructor_function : ItemSetting → TermEntry → List ContextFunction
constructor_function s e = functions_if (has_external_constructor_term e) (function_at s e.at (constructor_signature s.names e))

abbrev pub functions_of_term : ItemSetting → TermEntry → List ContextFunction
functions_of_term s e = extractor_function s e ++ constructor_function s e

abbrev pub context_functions : ItemSetting → List TermEntry → List ContextFunction
context_functions s es = flat_map (functions_of_term s) es

-- the first of each name, in order
abbrev pub is_other : ContextFunction → ContextFunction → Bool
is_other f g = not (bytes_eq f.name g.name)

abbrev pub firsts : List ContextFunction → List ContextFunction
firsts [] = []
firsts (f ∷ fs) = f ∷ filter (is_other f) (firsts fs)

abbrev pub function_lines : List ContextFunction → List ℕ
function_lines fs = flat_map (λ (f : ContextFunction). f.text) fs

abbrev pub trait_begin : List ℕ
trait_begin = OWED.now ++ (codes "#[allow(warnings)]\n" ++ codes "pub trait Context {\n")

abbrev pub context_written : ItemSetting → List TermEntry → List ℕ
context_written s es = trait_begin ++ (function_lines (firsts (context_functions s es)) ++ codes "}\n")

-- what has a name so far, with one function more, and the lines that this adds: none where the name is taken
abbrev pub kept_or_new : Option ContextFunction → ContextFunction → (q : List ℕ) → Option ContextFunction → Option ContextFunction
kept_or_new (Some g) f q other = other
kept_or_new None f q other = if bytes_eq f.name q then Some f else other

abbrev pub first_held : (List ℕ → Option ContextFunction) → ContextFunction → List ℕ → Option ContextFunction
first_held look f q = kept_or_new (look f.name) f q (look q)

abbrev pub new_lines : Option ContextFunction → ContextFunction → List ℕ
new_lines None f = f.text
new_lines (Some g) f = []

-- functions of one name have the same lines
pub record AreAlike (fs : List ContextFunction) : Type 0 where
  pub alike : (i j : ℕ) (f g : ContextFunction) → slice_get fs i ≡ Some f → slice_get fs j ≡ Some g → f.name ≡ g.name → f.text ≡ g.text

-- the first function that has the name of an earlier one, and other lines
pub record IsFirstUnlike (fs : List ContextFunction) (earlier later : ContextFunction) : Type 0 where
  pub before : List ContextFunction
  pub after : List ContextFunction
  pub parts : fs ≡ before ++ later ∷ after
  pub alike : AreAlike before
  pub place : ℕ
  pub is_before : slice_get before place ≡ Some earlier
  pub names : earlier.name ≡ later.name
  pub texts : earlier.text ≢ later.text

-- what is told of two functions: the name, and where terms that have them are declared
abbrev pub places_text : Sources → (earlier later : Position) → List ℕ
places_text s earlier later = place_written s earlier ++ (codes " and at " ++ place_written s later)

abbrev pub signatures_text : Sources → (name : List ℕ) → (earlier later : Position) → List ℕ
signatures_text s name earlier later = codes "the external function `" ++ (name ++ (codes "` has two signatures, by the terms at " ++ places_text s earlier later))

abbrev pub TellsTwoSignatures : Sources → List ContextFunction → List ℕ → Type 0
TellsTwoSignatures s fs text =
    (earlier later : ContextFunction) × IsFirstUnlike fs earlier later × (text ≡ signatures_text s later.name earlier.at later.at)

-- 3. the enums and structs that aren't declared outside
abbrev pub derived : (has_fields : Bool) → List ℕ
derived has_fields = if has_fields then codes "Clone" else codes "Copy, Clone, PartialEq, Eq"

abbrev pub derived_end : (is_nodebug : Bool) → List ℕ
derived_end is_nodebug = if is_nodebug then codes ")]\n" else codes ", Debug)]\n"

abbrev pub defined_written : Sources → Position → List ℕ
defined_written s at = codes "\n/// Defined at " ++ (place_written s at ++ codes ".\n")

abbrev pub derive_written : (has_fields is_nodebug : Bool) → List ℕ
derive_written has_fields is_nodebug = codes "#[derive(" ++ (derived has_fields ++ (derived_end is_nodebug ++ codes "#[allow(warnings)]\n"))

abbrev pub attributes_written : Sources → (has_fields is_nodebug : Bool) → Position → List ℕ
attributes_written s has_fields is_nodebug at = defined_written s at ++ derive_written has_fields is_nodebug

-- a type's name, behind what it is
abbrev pub type_head : List (List ℕ) → (word : List ℕ) → ℕ → List ℕ
type_head names word name = codes "pub " ++ (word ++ spelled (text_of names name))

abbrev pub named_field_written : ItemSetting → (word : List ℕ) → ℕ → FieldEntry → List ℕ
named_field_written s word i f =
    lead (codes " ") i ++ (word ++ (spelled (text_of s.names f.name) ++ (codes ": " ++ type_written s.names (slice_get s.types f.ty))))

abbrev pub named_fields_written : ItemSetting → (word : List ℕ) → ℕ → List FieldEntry → List ℕ
named_fields_written s word i [] = []
named_fields_written s word i (f ∷ fs) = named_field_written s word i f ++ named_fields_written s word (suc i) fs

abbrev pub unnamed_field_written : ItemSetting → (word : List ℕ) → ℕ → TupleFieldEntry → List ℕ
unnamed_field_written s word i f = lead [] i ++ (word ++ type_written s.names (slice_get s.types f.ty))

abbrev pub unnamed_fields_written : ItemSetting → (word : List ℕ) → ℕ → List TupleFieldEntry → List ℕ
unnamed_fields_written s word i [] = []
unnamed_fields_written s word i (f ∷ fs) = unnamed_field_written s word i f ++ unnamed_fields_written s word (suc i) fs

abbrev pub fields_written : ItemSetting → (word : List ℕ) → FieldEntries → List ℕ
fields_written s word unit_entries = []
fields_written s word (struct_entries fields) = codes " {" ++ (named_fields_written s word 0 fields ++ codes " }")
fields_written s word (tuple_entries fields) = codes "(" ++ (unnamed_fields_written s word 0 fields ++ codes ")")

abbrev pub has_any_field : FieldEntries → Bool
has_any_field unit_entries = false
has_any_field (struct_entries fields) = true
has_any_field (tuple_entries fields) = true

abbrev pub variant_written : ItemSetting → VariantEntry → List ℕ
variant_written s v = codes "    " ++ (spelled (text_of s.names v.name) ++ (fields_written s [] v.fields ++ codes ",\n"))

abbrev pub variants_written : ItemSetting → List VariantEntry → List ℕ
variants_written s vs = codes " {\n" ++ (flat_map (variant_written s) vs ++ codes "}\n")

abbrev pub struct_end : FieldEntries → List ℕ
struct_end unit_entries = codes ";\n"
struct_end (struct_entries fields) = codes "\n"
struct_end (tuple_entries fields) = codes ";\n"

abbrev pub struct_written : ItemSetting → FieldEntries → List ℕ
struct_written s fields = fields_written s (codes "pub ") fields ++ struct_end fields

abbrev pub variant_has_fields : VariantEntry → Bool
variant_has_fields v = has_any_field v.fields

abbrev pub enum_written : ItemSetting → ℕ → (is_nodebug : Bool) → List VariantEntry → Position → List ℕ
enum_written s name is_nodebug variants at =
    attributes_written s.sources (list_any variant_has_fields variants) is_nodebug at ++ (type_head s.names (codes "enum ") name ++ variants_written s variants)

abbrev pub whole_struct_written : ItemSetting → ℕ → (is_nodebug : Bool) → FieldEntries → Position → List ℕ
whole_struct_written s name is_nodebug fields at =
    attributes_written s.sources (has_any_field fields) is_nodebug at ++ (type_head s.names (codes "struct ") name ++ struct_written s fields)

abbrev pub declaration_written : ItemSetting → TypeEntry → List ℕ
declaration_written s (builtin_type place) = []
declaration_written s (primitive_type id name at) = []
declaration_written s (enum_type name id is_extern is_nodebug variants at) = unless is_extern (enum_written s name is_nodebug variants at)
declaration_written s (struct_type name id is_extern is_nodebug fields at) = unless is_extern (whole_struct_written s name is_nodebug fields at)

abbrev pub types_written : ItemSetting → List TypeEntry → List ℕ
types_written s types = flat_map (declaration_written s) types

-- 4. all of it
abbrev pub items_before : ItemSetting → (exclude : Bool) → List TermEntry → List ℕ
items_before s exclude es = head_written s.sources exclude ++ (context_written s es ++ (BESIDE.now ++ types_written s s.types))
