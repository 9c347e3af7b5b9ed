-- Written names are closed, and places stay on their line.
use Rattle.std.proofs.Common.{◌≡◌, ◌≢◌, ◌&&◌, ◌||◌, ◌++◌, ◌==◌, ◌∷◌, [], ℕ, zero, suc, ℤ, pos, negsuc, Bool, true, false, not, cond, List, Option, Some, None, All, slice_get, codes, decimal, refl, ap, ◌∙◌, sym, subst, eqb-true, eq-eqb, arith}
use Rattle.std.specs.Prelude.{nat_lt, nat_eq, drop, length}
use Rattle.std.specs.Char.{encode_utf8}
use Rattle.std.specs.Fmt.{digits, signed_decimal}
use Rattle.std.specs.Int.{cast_unsigned, w128}
use Rattle.std.specs.List.{flat_map, list_all, starts_with}
use Rattle.std.specs.Str.{chars}
use Rattle.std.proofs.lemmas.Bool.{and_parts, and_from, false≢true}
use Rattle.std.proofs.lemmas.List.Elements.{All-nil, All-cons}
use Rattle.model.specs.lists.Signatures.{text_of}
use Rattle.model.specs.lists.Syntax.{Position}
use Rattle.model.specs.lists.Tables.{FieldEntry, FieldEntries, unit_entries, struct_entries, tuple_entries, VariantEntry, TypeEntry, builtin_type, primitive_type, enum_type, struct_type, TermEntry}
use Rattle.model.specs.lists.TypeTable.{builtin_names}
use Rattle.model_code.specs.Tokens.{Owner, variant_owner, struct_owner}
use Rattle.model_code.specs.Notation.{Callee}
use Rattle.model_code.specs.Alike.{term_of}
use Rattle.model_code.specs.ProgramNotation.{callees, fields_of, outside_of}
use Rattle.model_code.specs.Lexing.{is_letter}
use Rattle.model_code.specs.Closed.{is_closed, all_letters, all_named}
use Rattle.model_code.proofs.Lexing.{decimal_letters, hexadecimal_letters}
use Rattle.model_code.proofs.Closed.{closed_together, closed_letters, closed_names_are_whole_lem}
use Rattle.rust_items.specs.RustNames.{part, quoted, spelled, spelled_path}
use Rattle.rust_text.proofs.ClosedNames.{encoded_pass, other_number, spelled_named, written_names_are_closed_lem as written}
use Rattle.rust_items.specs.FilePlaces.{Beginning, Sources, on_line_char, on_line_bytes, on_line, file_written, file_or_unknown, line_number, place_written}
use Rattle.rust_items.specs.WrittenTypes.{type_written}
use Rattle.rust_text.specs.ProgramNames.{NameSetting, program_in, variant_in, variant_written, owner_written, one_field_written, field_written, term_part, function_text, function_or_none, list_text, list_or_none, list_at, digits_written, integer_written, int_at, told, names_of}
use Rattle.rust_text.specs.WholeNames.{NamesAreClosed, NamesAreWhole}

-- 1. texts that stay on their line
abbrev pub is_on_line : List ℕ → Bool
is_on_line [] = true
is_on_line (c ∷ cs) = not (c == 10) && is_on_line cs

no_line_end : (text : List ℕ) → is_on_line text ≡ true → All (λ c. c ≢ 10) text
no_line_end [] h = All-nil (λ c. c ≢ 10)
no_line_end (c ∷ cs) h =
    let hs = and_parts (not (c == 10)) (is_on_line cs) h in
    All-cons (λ c. c ≢ 10) c cs (λ e. false≢true (sym (ap not (eq-eqb c 10 e)) ∙ hs.0)) (no_line_end cs hs.1)

stay_together : (x y : List ℕ) → is_on_line x ≡ true → is_on_line y ≡ true → is_on_line (x ++ y) ≡ true
stay_together [] y h k = k
stay_together (c ∷ x) y h k = let hs = and_parts (not (c == 10)) (is_on_line x) h in and_from _ _ hs.0 (stay_together x y hs.1 k)

letters_stay : (text : List ℕ) → all_letters text ≡ true → is_on_line text ≡ true
letters_stay [] h = refl
letters_stay (c ∷ cs) h =
    let hs = and_parts (is_letter c) (all_letters cs) h in
    and_from _ _ (other_number c 10 (λ e. false≢true (subst (λ d. is_letter d ≡ true) e hs.0))) (letters_stay cs hs.1)

abbrev not_ten : ℕ → Bool
not_ten c = not (c == 10)

passed_stay : (cs : List ℕ) → list_all not_ten cs ≡ true → is_on_line cs ≡ true
passed_stay [] h = refl
passed_stay (c ∷ cs) h = let hs = and_parts (not_ten c) (list_all not_ten cs) h in and_from _ _ hs.0 (passed_stay cs hs.1)

encoded_stays : (c : ℕ) → (c ≡ 10 → ⊥) → is_on_line (encode_utf8 c) ≡ true
encoded_stays c h = passed_stay (encode_utf8 c) (encoded_pass not_ten (λ b g. other_number b 10 (λ e. omega (arith, g, e))) c (other_number c 10 h))

char_stays : (c : ℕ) → on_line_char c ≡ 10 → ⊥
char_stays c = by (c == 10) (c == 13) refl
  where
    by : (p q : Bool) → (c == 10) ≡ p → cond (p || q) 32 c ≡ 10 → ⊥
    by true q f e = omega (arith, e)
    by false true f e = omega (arith, e)
    by false false f e = false≢true (sym f ∙ eq-eqb c 10 e)

chars_stay : (cs : List ℕ) → is_on_line (flat_map on_line_bytes cs) ≡ true
chars_stay [] = refl
chars_stay (c ∷ cs) = stay_together (on_line_bytes c) (flat_map on_line_bytes cs) (encoded_stays (on_line_char c) (char_stays c)) (chars_stay cs)

text_stays : (text : List ℕ) → is_on_line (on_line text) ≡ true
text_stays text = chars_stay (chars text)

pub file_stays : (bs : List Beginning) (name : List ℕ) → is_on_line (file_written bs name) ≡ true
file_stays [] name = text_stays name
file_stays (b ∷ bs) name = by (starts_with nat_eq name b.text) (file_stays bs name)
  where
    by : (e : Bool) → is_on_line (file_written bs name) ≡ true → is_on_line (cond e (on_line b.shown ++ on_line (drop (length b.text) name)) (file_written bs name)) ≡ true
    by true later = stay_together (on_line b.shown) (on_line (drop (length b.text) name)) (text_stays b.shown) (text_stays (drop (length b.text) name))
    by false later = later

known_stays : (bs : List Beginning) (o : Option (List ℕ)) → is_on_line (file_or_unknown bs o) ≡ true
known_stays bs None = refl
known_stays bs (Some name) = file_stays bs name

pub place_stays : (s : Sources) (at : Position) → is_on_line (place_written s at) ≡ true
place_stays s at =
    let file : List ℕ = file_or_unknown s.beginnings (slice_get s.names at.file) in
    let line : List ℕ = decimal (line_number (slice_get s.texts at.file) at.offset) in
    stay_together (file ++ codes " line ") line (stay_together file (codes " line ") (known_stays s.beginnings (slice_get s.names at.file)) refl)
    (letters_stay line (decimal_letters (line_number (slice_get s.texts at.file) at.offset)))

-- 2. names
pub named_letters : (names : List (List ℕ)) (n : ℕ) → list_all all_letters names ≡ true → all_letters (text_of names n) ≡ true
named_letters [] n h = refl
named_letters (x ∷ xs) zero h = (and_parts (all_letters x) (list_all all_letters xs) h).0
named_letters (x ∷ xs) (suc n) h = named_letters xs n (and_parts (all_letters x) (list_all all_letters xs) h).1

builtin_closed : (place : ℕ) → is_closed (text_of builtin_names place) ≡ true
builtin_closed place = closed_letters (text_of builtin_names place) (named_letters builtin_names place refl)

pub part_closed : (name : List ℕ) → is_closed (part name) ≡ true
part_closed name = closed_letters (part name) (written.part name)

pub type_closed : (names : List (List ℕ)) (o : Option TypeEntry) → is_closed (type_written names o) ≡ true
type_closed names None = refl
type_closed names (Some (builtin_type place)) = builtin_closed place
type_closed names (Some (primitive_type id name at)) = written.path (text_of names name)
type_closed names (Some (enum_type name id is_extern is_nodebug variants at)) = written.name (text_of names name)
type_closed names (Some (struct_type name id is_extern is_nodebug fields at)) = written.name (text_of names name)

variant_closed : (names : List (List ℕ)) (o : Option VariantEntry) → is_closed (variant_written names o) ≡ true
variant_closed names None = refl
variant_closed names (Some v) = written.name (text_of names v.name)

owner_closed : (s : NameSetting) (o : Owner) → is_closed (owner_written s o) ≡ true
owner_closed s (variant_owner ty variant) =
    let enum : List ℕ = type_written s.names (slice_get s.types ty) in
    closed_together (enum ++ codes "::") (variant_written s.names (variant_in (slice_get s.types ty) variant)) (closed_together enum (codes "::") (type_closed s.names (slice_get s.types ty)) refl)
    (variant_closed s.names (variant_in (slice_get s.types ty) variant))
owner_closed s (struct_owner ty) = type_closed s.names (slice_get s.types ty)

one_field_named : (names : List (List ℕ)) (o : Option FieldEntry) → all_named (one_field_written names o) ≡ true
one_field_named names None = refl
one_field_named names (Some f) = spelled_named (text_of names f.name)

field_named : (names : List (List ℕ)) (fields : FieldEntries) (i : ℕ) → all_named (field_written names fields i) ≡ true
field_named names unit_entries i = refl
field_named names (struct_entries fields) i = one_field_named names (slice_get fields i)
field_named names (tuple_entries fields) i = refl

term_closed : (names : List (List ℕ)) (o : Option TermEntry) → is_closed (term_part names o) ≡ true
term_closed names None = refl
term_closed names (Some e) = part_closed (text_of names e.name)

function_closed : (names : List (List ℕ)) (o : Option ℕ) (entry : Option TermEntry) → is_closed (function_text names o entry) ≡ true
function_closed names (Some name) entry = closed_together (codes "C::") (spelled (text_of names name)) refl (written.name (text_of names name))
function_closed names None entry = closed_together (codes "constructor_") (term_part names entry) refl (term_closed names entry)

known_closed : (s : NameSetting) (o : Option Callee) → is_closed (function_or_none s o) ≡ true
known_closed s None = refl
known_closed s (Some f) = function_closed s.names (outside_of (program_in s) f) (slice_get s.terms (term_of f))

list_closed : (names : List (List ℕ)) (o : Option ℕ) → is_closed (list_text names o) ≡ true
list_closed names None = refl
list_closed names (Some name) =
    closed_together (codes "C::" ++ part (text_of names name)) (codes "_returns::default()") (closed_together (codes "C::") (part (text_of names name)) refl (part_closed (text_of names name))) refl

list_known : (s : NameSetting) (o : Option Callee) → is_closed (list_or_none s o) ≡ true
list_known s None = refl
list_known s (Some f) = list_closed s.names (outside_of (program_in s) f)

list_at_closed : (s : NameSetting) (o : Option ℕ) → is_closed (list_at s o) ≡ true
list_at_closed s None = list_closed s.names None
list_at_closed s (Some n) = list_known s (slice_get (callees (program_in s)) n)

-- 3. integers
signed_closed : (z : ℤ) → is_closed (signed_decimal z) ≡ true
signed_closed (pos n) = closed_letters (decimal n) (decimal_letters n)
signed_closed (negsuc n) = closed_together (codes "-") (decimal (suc n)) refl (closed_letters (decimal (suc n)) (decimal_letters (suc n)))

digits_closed : (is_signed : Bool) (z : ℤ) → is_closed (digits_written is_signed z) ≡ true
digits_closed true z = signed_closed z
digits_closed false z =
    let ds : List ℕ = digits 16 false (cast_unsigned w128 z) in closed_together (codes "0x") ds refl (closed_letters ds (hexadecimal_letters (cast_unsigned w128 z)))

integer_closed : (z : ℤ) (o : Option ℕ) → is_closed (integer_written z o) ≡ true
integer_closed z None = signed_closed z
integer_closed z (Some place) =
    let ds : List ℕ = digits_written (nat_lt 6 place) z in
    closed_together (ds ++ codes "_") (text_of builtin_names place) (closed_together ds (codes "_") (digits_closed (nat_lt 6 place) z) refl) (builtin_closed place)

-- 4. macros
told_closed : (macro message name place : List ℕ) → is_closed macro ≡ true → is_closed (told macro message name place) ≡ true
told_closed macro message name place h =
    let a : List ℕ = macro ++ codes "!(" in
    let b : List ℕ = a ++ quoted message in
    let c : List ℕ = b ++ codes ", " in
    let d : List ℕ = c ++ quoted name in
    let e : List ℕ = d ++ codes ", " in
    let f : List ℕ = e ++ quoted place in
    closed_together f (codes ")")
    (closed_together e (quoted place)
    (closed_together d (codes ", ")
    (closed_together c (quoted name)
    (closed_together b (codes ", ")
    (closed_together a (quoted message) (closed_together macro (codes "!(") h refl) (written.quoted message)) refl) (written.quoted name)) refl) (written.quoted place)) refl

pub names_are_closed_lem : NamesAreClosed
names_are_closed_lem s = record {
  owner = owner_closed s;
  field = λ o i. field_named s.names (fields_of (program_in s) o) i;
  function = λ n. known_closed s (slice_get (callees (program_in s)) n);
  list = list_at_closed s;
  constant = λ name. written.constant (text_of s.names name);
  number = λ z ty. integer_closed z (int_at s ty);
  panic = told_closed (codes "unreachable") (codes "no rule matched for term {} at {}; should it be partial?") (text_of s.names s.term_name) (place_written s.sources s.term_at) refl;
  log = λ at.
      closed_together (told (codes "log::debug") (codes "ISLE: {} by the rule at {}") (text_of s.names s.term_name) (place_written s.sources at)) (codes ";")
      (told_closed (codes "log::debug") (codes "ISLE: {} by the rule at {}") (text_of s.names s.term_name) (place_written s.sources at) refl) refl;
  place = λ at. no_line_end (place_written s.sources at) (place_stays s.sources at);
}

pub names_are_whole_lem : NamesAreWhole
names_are_whole_lem s = closed_names_are_whole_lem (names_of s) (names_are_closed_lem s)
