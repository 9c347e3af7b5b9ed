-- The tokens of a program's code: of what the program has, by names that tell it.
use Rattle.std.specs.Prelude.{◌≡◌, ◌&&◌, ◌||◌, ◌==◌, ◌∷◌, ◌^◌, [], ℕ, zero, suc, ℤ, pos, negsuc, Bool, true, false, not, nat_lt, is_some, List, Option, Some, None, All, IsUtf8, codes, option_map, slice_get}
use Rattle.std.specs.Str.{bytes_eq}
use Rattle.model.specs.lists.Signatures.{text_of}
use Rattle.model.specs.lists.Tables.{FieldEntry, FieldEntries, unit_entries, struct_entries, tuple_entries, VariantEntry, TypeEntry, enum_type, struct_type, TermEntry}
use Rattle.model.specs.trees.Places.{is_in}
use Rattle.model_code.specs.Tokens.{Owner, Token, word, variable_name, parameter_name, part_name, number, constant_name, owner_name, field_name, function_name, list_name, label_name, no_match}
use Rattle.model_code.specs.Notation.{Callee, extractor_of, constructor_of}
use Rattle.model_code.specs.ProgramNotation.{callees, fields_of, function_number, outside_of}
use Rattle.model_code.specs.Spelling.{token_text}
use Rattle.model_code.specs.Lexing.{lexed}
use Rattle.model_code.specs.ApartNames.{is_named}
use Rattle.rust_items.specs.Claims.{IsWellNamed}
use Rattle.rust_items.specs.NamedPrograms.{NamedProgram, kinds}
use Rattle.rust_items.specs.RustNames.{is_among, truths}
use Rattle.rust_text.specs.ProgramNames.{NameSetting, names_of, program_in, int_at}
use Rattle.rust_text.specs.WrittenOnce.{is_declared, AreWrittenOnce}

-- with these constants, by the numbers of their names, and these terms with rules
abbrev pub named_by : NameSetting → (constants with_rules : List ℕ) → NamedProgram
named_by s constants with_rules = record { names = s.names; types = s.types; terms = s.terms; constants = constants; with_rules = with_rules }

-- 1. what there is: functions that code calls are from outside, or of a term with rules, and have the number of the first that is the
-- same; integers fit, at a built-in type or none
abbrev pub is_called : NameSetting → (with_rules : List ℕ) → Callee → Bool
is_called s with_rules (extractor_of t) = is_some (outside_of (program_in s) (extractor_of t))
is_called s with_rules (constructor_of t) = is_some (outside_of (program_in s) (constructor_of t)) || is_in t with_rules

abbrev pub is_function : NameSetting → (with_rules : List ℕ) → (f : ℕ) → Option Callee → Bool
is_function s with_rules f None = false
is_function s with_rules f (Some g) = is_called s with_rules g && (function_number (program_in s) g == f)

abbrev pub has_list : NameSetting → Option Callee → Bool
has_list s None = false
has_list s (Some g) = is_some (outside_of (program_in s) g)

abbrev pub fits : ℤ → Bool
fits (pos n) = nat_lt n (2 ^ 127)
fits (negsuc n) = nat_lt n (2 ^ 127)

abbrev pub is_integer_place : Option ℕ → Bool
is_integer_place None = false
is_integer_place (Some place) = nat_lt place 13

abbrev pub is_ending : NameSetting → ℕ → Bool
is_ending s zero = true
is_ending s (suc ty) = is_integer_place (int_at s (suc ty))

abbrev pub field_text_in : List (List ℕ) → FieldEntries → ℕ → Option (List ℕ)
field_text_in names unit_entries i = None
field_text_in names (struct_entries fields) i = option_map (λ (f : FieldEntry). text_of names f.name) (slice_get fields i)
field_text_in names (tuple_entries fields) i = None

abbrev pub field_text : NameSetting → Owner → ℕ → Option (List ℕ)
field_text s o i = field_text_in s.names (fields_of (program_in s) o) i

abbrev pub is_there : NameSetting → (constants with_rules : List ℕ) → Token → Bool
is_there s constants with_rules (word w) = true
is_there s constants with_rules (variable_name v) = nat_lt v (2 ^ 64)
is_there s constants with_rules (parameter_name i) = nat_lt i (2 ^ 64)
is_there s constants with_rules (part_name i) = nat_lt i (2 ^ 64)
is_there s constants with_rules (number z ending) = fits z && is_ending s ending
is_there s constants with_rules (constant_name c) = is_in c constants && not (is_among truths (text_of s.names c))
is_there s constants with_rules (owner_name o) = is_declared s o
is_there s constants with_rules (field_name o i) = is_some (field_text s o i)
is_there s constants with_rules (function_name f) = is_function s with_rules f (slice_get (callees (program_in s)) f)
is_there s constants with_rules (list_name None) = true
is_there s constants with_rules (list_name (Some f)) = is_function s with_rules f (slice_get (callees (program_in s)) f) && has_list s (slice_get (callees (program_in s)) f)
is_there s constants with_rules (label_name n) = nat_lt n (2 ^ 64)
is_there s constants with_rules no_match = true

-- words that don't begin as `unreachable!` and what tells the log a rule do, and aren't those of a function that makes a list
abbrev pub is_list_path : List (List ℕ) → Bool
is_list_path (c ∷ (v ∷ (d ∷ (x ∷ [])))) = bytes_eq x (codes "default")
is_list_path ws = false

abbrev pub is_clear : List (List ℕ) → Bool
is_clear [] = false
is_clear (w ∷ ws) = not (bytes_eq w (codes "unreachable")) && (not (bytes_eq w (codes "log")) && not (is_list_path ws))

abbrev pub is_of_program : NameSetting → (constants with_rules : List ℕ) → Token → Bool
is_of_program s constants with_rules t = is_there s constants with_rules t && (not (is_named t) || is_clear (lexed (token_text (names_of s) t)))

-- 2. names that tell what they name
abbrev pub type_text_in : List (List ℕ) → Option TypeEntry → Option (List ℕ)
type_text_in names (Some (enum_type name id is_extern is_nodebug variants at)) = Some (text_of names name)
type_text_in names (Some (struct_type name id is_extern is_nodebug fields at)) = Some (text_of names name)
type_text_in names entry = None

abbrev pub type_text : NameSetting → ℕ → Option (List ℕ)
type_text s ty = type_text_in s.names (slice_get s.types ty)

abbrev pub variants_in : Option TypeEntry → List VariantEntry
variants_in (Some (enum_type name id is_extern is_nodebug variants at)) = variants
variants_in entry = []

abbrev pub variant_text : NameSetting → (ty variant : ℕ) → Option (List ℕ)
variant_text s ty variant = option_map (λ (v : VariantEntry). text_of s.names v.name) (slice_get (variants_in (slice_get s.types ty)) variant)

-- the definitions give different things of one kind different names
pub record NamesTell (s : NameSetting) (constants with_rules : List ℕ) : Type 0 where
  pub utf8 : (name : ℕ) → IsUtf8 (text_of s.names name)
  pub constants_told : (c d : ℕ) → is_in c constants ≡ true → is_in d constants ≡ true → text_of s.names c ≡ text_of s.names d → c ≡ d
  pub types_told : (i j : ℕ) (x : List ℕ) → type_text s i ≡ Some x → type_text s j ≡ Some x → i ≡ j
  pub integers_told : (i j place : ℕ) → int_at s i ≡ Some place → int_at s j ≡ Some place → i ≡ j
  pub variants_told : (ty i j : ℕ) (x : List ℕ) → variant_text s ty i ≡ Some x → variant_text s ty j ≡ Some x → i ≡ j
  pub fields_told : (o : Owner) (i j : ℕ) (x : List ℕ) → field_text s o i ≡ Some x → field_text s o j ≡ Some x → i ≡ j
  pub outside_told : (f g : Callee) (m n : ℕ) → outside_of (program_in s) f ≡ Some m → outside_of (program_in s) g ≡ Some n → text_of s.names m ≡ text_of s.names n → m ≡ n
  pub terms_told :
      (t u : ℕ) (a b : TermEntry) → is_in t with_rules ≡ true → is_in u with_rules ≡ true → slice_get s.terms t ≡ Some a → slice_get s.terms u ≡ Some b
      → text_of s.names a.name ≡ text_of s.names b.name → t ≡ u

-- where names are told apart, as `rust_code` asks, and tell what they name, different things are written differently
abbrev pub WellNamedAreWrittenOnce : Type 0
WellNamedAreWrittenOnce =
    (s : NameSetting) (constants with_rules : List ℕ) → All IsWellNamed (kinds (named_by s constants with_rules)) → NamesTell s constants with_rules
    → AreWrittenOnce s (is_of_program s constants with_rules)
