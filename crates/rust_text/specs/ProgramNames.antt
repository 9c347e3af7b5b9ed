-- How the things that a function's code names are written.
use Rattle.std.specs.Prelude.{◌≡◌, ℕ, zero, suc, ℤ, Bool, false, [], List, ◌++◌, Option, Some, None, slice_get, nat_lt, if◌then◌else◌, codes}
use Rattle.std.specs.Fmt.{digits, signed_decimal}
use Rattle.std.specs.Int.{cast_unsigned, w128}
use Rattle.model.specs.lists.Signatures.{text_of}
use Rattle.model.specs.lists.Syntax.{Position}
use Rattle.model.specs.lists.Tables.{FieldEntry, FieldEntries, unit_entries, struct_entries, tuple_entries, VariantEntry, TypeEntry, builtin_type, enum_type, TermEntry}
use Rattle.model.specs.lists.TypeTable.{builtin_names}
use Rattle.model.specs.rules.Program.{Program}
use Rattle.model_code.specs.Tokens.{Owner, variant_owner, struct_owner}
use Rattle.model_code.specs.Notation.{Notation, gives_one, Callee}
use Rattle.model_code.specs.Alike.{term_of}
use Rattle.model_code.specs.Spelling.{Names}
use Rattle.model_code.specs.ProgramNotation.{callees, fields_of, notation_of, outside_of}
use Rattle.rust_items.specs.RustNames.{part, quoted, spelled, spelled_constant}
use Rattle.rust_items.specs.FilePlaces.{Sources, place_written}
use Rattle.rust_items.specs.WrittenTypes.{type_written}

-- what names are written by: the texts of names, types and terms by their numbers, files, and the term whose function it is: the
-- number of its name, and where it is declared
pub record NameSetting : Type 0 where
  pub names : List (List ℕ)
  pub types : List TypeEntry
  pub terms : List TermEntry
  pub sources : Sources
  pub term_name : ℕ
  pub term_at : Position

-- the program of these types and terms
abbrev pub program_in : NameSetting → Program
program_in s = record { types = s.types; constants = []; terms = s.terms; rules = [] }

-- a program of these types and terms, whatever else it has
pub record IsProgramOf (s : NameSetting) (p : Program) : Type 0 where
  pub types : p.types ≡ s.types
  pub terms : p.terms ≡ s.terms

-- 1. E::A, S, and fields
abbrev pub variant_in : Option TypeEntry → ℕ → Option VariantEntry
variant_in (Some (enum_type name id is_extern is_nodebug variants at)) variant = slice_get variants variant
variant_in entry variant = None

abbrev pub variant_written : List (List ℕ) → Option VariantEntry → List ℕ
variant_written names None = []
variant_written names (Some v) = spelled (text_of names v.name)

abbrev pub owner_written : NameSetting → Owner → List ℕ
owner_written s (variant_owner ty variant) = type_written s.names (slice_get s.types ty) ++ codes "::" ++ variant_written s.names (variant_in (slice_get s.types ty) variant)
owner_written s (struct_owner ty) = type_written s.names (slice_get s.types ty)

abbrev pub fields_or_unit : Option FieldEntries → FieldEntries
fields_or_unit None = unit_entries
fields_or_unit (Some fields) = fields

abbrev pub one_field_written : List (List ℕ) → Option FieldEntry → List ℕ
one_field_written names None = []
one_field_written names (Some f) = spelled (text_of names f.name)

abbrev pub field_written : List (List ℕ) → FieldEntries → ℕ → List ℕ
field_written names unit_entries i = []
field_written names (struct_entries fields) i = one_field_written names (slice_get fields i)
field_written names (tuple_entries fields) i = []

-- 2. functions: `C::name` of one from outside, else `constructor_name`
abbrev pub term_part : List (List ℕ) → Option TermEntry → List ℕ
term_part names None = []
term_part names (Some e) = part (text_of names e.name)

abbrev pub function_text : List (List ℕ) → Option ℕ → Option TermEntry → List ℕ
function_text names (Some name) entry = codes "C::" ++ spelled (text_of names name)
function_text names None entry = codes "constructor_" ++ term_part names entry

abbrev pub function_written : NameSetting → Callee → List ℕ
function_written s f = function_text s.names (outside_of (program_in s) f) (slice_get s.terms (term_of f))

-- the list for the answers of a function
abbrev pub list_text : List (List ℕ) → Option ℕ → List ℕ
list_text names (Some name) = codes "C::" ++ part (text_of names name) ++ codes "_returns::default()"
list_text names None = codes "ContextIterWrapper::<ConstructorVec<_>, _>::default()"

abbrev pub list_written : NameSetting → Callee → List ℕ
list_written s f = list_text s.names (outside_of (program_in s) f)

-- by number: a function's number is that of the first of the program that is the same
abbrev pub function_or_none : NameSetting → Option Callee → List ℕ
function_or_none s (Some f) = function_written s f
function_or_none s None = codes "constructor_"

abbrev pub list_or_none : NameSetting → Option Callee → List ℕ
list_or_none s (Some f) = list_written s f
list_or_none s None = []

abbrev pub list_at : NameSetting → Option ℕ → List ℕ
list_at s (Some n) = list_or_none s (slice_get (callees (program_in s)) n)
list_at s None = list_text s.names None

-- 3. integers: -5_i8, 0x1f_u32, and 7 at a type that isn't built in. At types without sign a negative number stands for the one with
-- the same bits, as `u128` has it
abbrev pub digits_written : (is_signed : Bool) → ℤ → List ℕ
digits_written is_signed z = if is_signed then signed_decimal z else codes "0x" ++ digits 16 false (cast_unsigned w128 z)

-- by the place of a built-in type, where those without a sign come first
abbrev pub integer_written : ℤ → Option ℕ → List ℕ
integer_written z None = signed_decimal z
integer_written z (Some place) = digits_written (nat_lt 6 place) z ++ codes "_" ++ text_of builtin_names place

-- the place of a built-in type of integers: they stand behind `bool`
abbrev pub int_place_in : Option TypeEntry → Option ℕ
int_place_in (Some (builtin_type (suc k))) = Some (suc k)
int_place_in entry = None

-- by the number of a type, where 0 is `bool` and stands for none
abbrev pub int_at : NameSetting → ℕ → Option ℕ
int_at s zero = None
int_at s (suc ty) = int_place_in (slice_get s.types (suc ty))

abbrev pub number_written : NameSetting → ℤ → ℕ → List ℕ
number_written s z ty = integer_written z (int_at s ty)

-- 4. macros that are told the term's name and a place
abbrev pub told : (macro message name place : List ℕ) → List ℕ
told macro message name place = macro ++ codes "!(" ++ quoted message ++ codes ", " ++ quoted name ++ codes ", " ++ quoted place ++ codes ")"

abbrev pub panic_written : NameSetting → List ℕ
panic_written s = told (codes "unreachable") (codes "no rule matched for term {} at {}; should it be partial?") (text_of s.names s.term_name) (place_written s.sources s.term_at)

abbrev pub log_written : NameSetting → Position → List ℕ
log_written s at = told (codes "log::debug") (codes "ISLE: {} by the rule at {}") (text_of s.names s.term_name) (place_written s.sources at) ++ codes ";"

abbrev pub names_of : NameSetting → Names
names_of s = record {
  owner = owner_written s;
  field = λ o i. field_written s.names (fields_of (program_in s) o) i;
  function = λ n. function_or_none s (slice_get (callees (program_in s)) n);
  list = list_at s;
  constant = λ name. spelled_constant (text_of s.names name);
  number = number_written s;
  panic = panic_written s;
  place = place_written s.sources;
  log = log_written s;
}

-- a notation of these types and terms
abbrev pub notation_in : NameSetting → Notation
notation_in s = notation_of (program_in s) gives_one false
