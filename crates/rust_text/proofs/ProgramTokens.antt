-- Where names are told apart and tell what they name, different things are written differently.
use Rattle.std.proofs.Common.{◌≡◌, ◌≢◌, ◌+◌, ◌<◌, ◌^◌, ◌⊎◌, ◌&&◌, ◌||◌, ◌++◌, ◌==◌, ◌∷◌, [], ℕ, zero, suc, ℤ, Bool, true, false, not, cond, List, Option, Some, None, get_or, drop, map, slice_get, codes, decimal, refl, ap, ◌∙◌, sym, subst, inl, inr, ⊎_elim, eqb-true, arith}
use Rattle.std.specs.Prelude.{All, is_some, option_map}
use Rattle.std.specs.Char.{is_ascii_digit}
use Rattle.std.specs.List.{flat_map, list_all, position_or_len}
use Rattle.std.specs.Str.{bytes_eq}
use Rattle.std.proofs.lemmas.Bool.{and_parts, false≢true, not-true, ltb-true}
use Rattle.std.proofs.lemmas.List.{append_assoc, append_cancel_right}
use Rattle.std.proofs.lemmas.List.Elements.{All-contains}
use std.Path.{fun_ext}
use Rattle.model.specs.lists.Signatures.{text_of}
use Rattle.model.specs.lists.Tables.{FieldEntry, FieldEntries, unit_entries, struct_entries, tuple_entries, VariantEntry, TypeEntry, builtin_type, primitive_type, enum_type, struct_type, TermEntry}
use Rattle.model.specs.trees.Places.{is_in}
use Rattle.model.proofs.Bytes.{same_self}
use Rattle.model.proofs.Elements.{In, contains_from_in, in_flat_map, in_from_contains, in_left, in_right, in_slice, map_in, or_right}
use Rattle.model.proofs.Members.{member_found}
use Rattle.model_code.specs.Tokens.{Word, let_word, mut_word, ref_word, if_word, else_word, match_word, while_word, return_word, break_word, some_word, none_word, true_word, false_word, ctx_word, returns_word, extend_word, len_word, most_word, clone_word, iter_word, next_word, unreachable_word, opening, closing, opening_brace, closing_brace, comma, colon, semicolon, dot, two_dots, underscore, arrow, equals, equal_to, unlike, at_least, ampersand, star, Owner, variant_owner, struct_owner, Token, word, variable_name, parameter_name, part_name, number, constant_name, owner_name, field_name, function_name, list_name, label_name, no_match}
use Rattle.model_code.specs.Notation.{Callee, extractor_of, constructor_of}
use Rattle.model_code.specs.Alike.{term_of}
use Rattle.model_code.specs.PrintedNames.{of_variable, of_parameter}
use Rattle.model_code.specs.ProgramNotation.{callees, callees_from, fields_of, fields_in, fields_of_variant, type_of_owner, function_number, is_same_callee, is_same_function, outside_of, same_names}
use Rattle.model_code.specs.PureAlike.{is_impure_callee}
use Rattle.model_code.specs.Spelling.{Names, token_text, word_text}
use Rattle.model_code.specs.Lexing.{is_letter, lexed}
use Rattle.model_code.specs.OneReading.{is_method}
use Rattle.model_code.specs.ApartNames.{AreSmall, OwnToken, an_own_word, a_variable, a_parameter, a_label, IsSmallToken, is_named, is_own_method, own_text}
use Rattle.model_code.proofs.ApartNames.{found, not_own, word_of, first_words, more_words}
use Rattle.model_code.proofs.Closed.{named_whole}
use Rattle.model_code.proofs.Lexing.{own_tokens_are_words_lem}
use Rattle.rust_items.specs.Claims.{Claim, IsWellNamed, Namespace}
use Rattle.rust_items.specs.NameLaws.{IsIdentifier, is_plain}
use Rattle.rust_items.specs.NamedPrograms.{NamedProgram, identified, type_claim, field_claim, field_claims, field_kind, variant_claim, variant_kind, variant_fields, kinds_inside, function_claim, constant_claim, constructor_named, constructors_of, path_behind, struct_path, term_claim, type_paths, variant_path, types_kind, functions_kind, constants_kind, terms_kind, paths_kind, kinds}
use Rattle.rust_items.specs.OwnNames.{is_own_type, is_own_value, own_types}
use Rattle.rust_items.specs.RustNames.{are_several, is_among, is_identifier, is_path, joined, part, raw_segment, segments, spelled, spelled_constant, spelled_path, truths}
use Rattle.rust_items.proofs.PureFunctions.{placed, claimed, same_name}
use Rattle.rust_items.proofs.FreeVariables.{found_not, own_value}
use Rattle.rust_items.proofs.Spellings.{names_are_identifiers_lem, parts_spell}
use Rattle.rust_items.proofs.Variables.{variables_are_plain_lem}
use Rattle.rust_items.specs.WrittenTypes.{type_written}
use Rattle.rust_text.specs.ProgramNames.{NameSetting, names_of, program_in, variant_in, variant_written, owner_written, one_field_written, field_written, term_part, function_text, function_or_none, list_text, list_or_none, int_at}
use Rattle.rust_text.specs.WrittenOnce.{is_declared, is_struct_entry}
use Rattle.rust_text.specs.ProgramTokens.{NamesTell, WellNamedAreWrittenOnce, fits, has_list, is_ending, is_integer_place, field_text, field_text_in, is_called, is_clear, is_function, is_list_path, is_of_program, is_there, named_by, type_text, type_text_in, variant_text, variants_in}
use Rattle.rust_text.proofs.IntegersTold.{IsPlace, as_fits, same_integer}
use Rattle.rust_text.proofs.NameWords.{ListWords, OneWord, PathWords, begins_integer, begins_name, constant_path, integer_begins, is_path_tail, known_function_path, list_end, list_made, made, of_own, owner_path, path_begins_so, several_words, spelled_one}

-- 1. things of a kind
pub kind_apart : (k : Namespace) → IsWellNamed k → (a b : Claim) → In k.claims a → In k.claims b → a.written ≡ b.written → a.owner ≡ b.owner
kind_apart k w a b i j e = let x = placed k.claims a i in let y = placed k.claims b j in w.apart.apart x.0 y.0 a b x.1 y.1 e

abbrev letter_at : ℕ → List ℕ → ℕ
letter_at i xs = get_or xs i 0

-- the words of a variant
variant_words : (x y : List ℕ) → OneWord x → OneWord y → lexed (x ++ codes "::" ++ y) ≡ x ∷ (codes "::" ∷ (y ∷ []))
variant_words x y o p =
    ap lexed (append_assoc x (codes "::") y) ∙ named_whole x o.named (codes "::" ++ y) refl ∙ ap (λ ws. ws ++ lexed (codes "::" ++ y)) o.word ∙ ap (λ ws. x ∷ (codes "::" ∷ ws)) p.word

-- the code's own words are methods, values of its own, or no identifiers
data WordSort (w : Word) : Type 0 where
  of_method : is_method w ≡ true → WordSort w
  of_value : is_own_value (word_text w) ≡ true → WordSort w
  no_identifier : is_plain (word_text w) ≡ false → WordSort w

told_word : (w : Word) → WordSort w
told_word let_word = no_identifier refl
told_word mut_word = no_identifier refl
told_word ref_word = no_identifier refl
told_word if_word = no_identifier refl
told_word else_word = no_identifier refl
told_word match_word = no_identifier refl
told_word while_word = no_identifier refl
told_word return_word = no_identifier refl
told_word break_word = no_identifier refl
told_word some_word = of_value refl
told_word none_word = of_value refl
told_word true_word = no_identifier refl
told_word false_word = no_identifier refl
told_word ctx_word = of_value refl
told_word returns_word = of_value refl
told_word extend_word = of_method refl
told_word len_word = of_method refl
told_word most_word = of_value refl
told_word clone_word = of_method refl
told_word iter_word = of_method refl
told_word next_word = of_method refl
told_word unreachable_word = no_identifier refl
told_word opening = no_identifier refl
told_word closing = no_identifier refl
told_word opening_brace = no_identifier refl
told_word closing_brace = no_identifier refl
told_word comma = no_identifier refl
told_word colon = no_identifier refl
told_word semicolon = no_identifier refl
told_word dot = no_identifier refl
told_word two_dots = no_identifier refl
told_word underscore = no_identifier refl
told_word arrow = no_identifier refl
told_word equals = no_identifier refl
told_word equal_to = no_identifier refl
told_word unlike = no_identifier refl
told_word at_least = no_identifier refl
told_word ampersand = no_identifier refl
told_word star = no_identifier refl

not_raw : (w : Word) (k : List ℕ) → word_text w ≢ codes "r#" ++ k
not_raw w k e = (let s : Some w ≡ None = sym (found w).0 ∙ ap word_of e in cc)

no_integer_word : (w : Word) → begins_integer (word_text w) ≡ false
no_integer_word let_word = refl
no_integer_word mut_word = refl
no_integer_word ref_word = refl
no_integer_word if_word = refl
no_integer_word else_word = refl
no_integer_word match_word = refl
no_integer_word while_word = refl
no_integer_word return_word = refl
no_integer_word break_word = refl
no_integer_word some_word = refl
no_integer_word none_word = refl
no_integer_word true_word = refl
no_integer_word false_word = refl
no_integer_word ctx_word = refl
no_integer_word returns_word = refl
no_integer_word extend_word = refl
no_integer_word len_word = refl
no_integer_word most_word = refl
no_integer_word clone_word = refl
no_integer_word iter_word = refl
no_integer_word next_word = refl
no_integer_word unreachable_word = refl
no_integer_word opening = refl
no_integer_word closing = refl
no_integer_word opening_brace = refl
no_integer_word closing_brace = refl
no_integer_word comma = refl
no_integer_word colon = refl
no_integer_word semicolon = refl
no_integer_word dot = refl
no_integer_word two_dots = refl
no_integer_word underscore = refl
no_integer_word arrow = refl
no_integer_word equals = refl
no_integer_word equal_to = refl
no_integer_word unlike = refl
no_integer_word at_least = refl
no_integer_word ampersand = refl
no_integer_word star = refl

no_integer : (own : OwnToken) → begins_integer (own_text own) ≡ false
no_integer (an_own_word w) = no_integer_word w
no_integer (a_variable k) = refl
no_integer (a_parameter k) = refl
no_integer (a_label k) = refl

-- and their texts are one word, but for `unreachable!`
word_words : (w : Word) → (lexed (word_text w) ≡ word_text w ∷ []) ⊎ (lexed (word_text w) ≡ codes "unreachable" ∷ (codes "!" ∷ []))
word_words unreachable_word = inr (own_tokens_are_words_lem.words unreachable_word)
word_words w = inl (own_tokens_are_words_lem.words w)

-- tokens that are written as paths
abbrev is_a_path : Token → Bool
is_a_path (constant_name c) = true
is_a_path (owner_name o) = true
is_a_path (function_name f) = true
is_a_path t = false

integer_or_name : (x : List ℕ) → begins_integer x ≡ true → begins_name x ≡ true → ⊥
integer_or_name [] h k = false≢true h
integer_or_name (c ∷ cs) h k =
    let ks = and_parts (is_letter c) (not (is_ascii_digit c)) k in
    let minus : (c == 45) ≡ true = sym (ap (λ b. b || c == 45) (not-true (is_ascii_digit c) ks.1)) ∙ h in
    false≢true (ap is_letter (sym (eqb-true c 45 minus)) ∙ ks.0)

-- a list is no path
no_list_words : (x : List ℕ) → ListWords x → PathWords x → ⊥
no_list_words x (made w f t) p =
    let m : p.0 ∷ p.1 ≡ codes "C" ∷ (codes "::" ∷ (w ∷ list_end)) = sym p.2 ∙ f in
    false≢true (and_parts (begins_name w) false (ap is_path_tail (sym (more_words p.0 (codes "C") p.1 (codes "::" ∷ (w ∷ list_end)) m)) ∙ p.5)).1
no_list_words x (of_own t) p = false≢true (ap is_path_tail (sym (more_words p.0 (codes "ContextIterWrapper") p.1 _ (sym p.2 ∙ ap lexed t))) ∙ p.5)

module _ (names : Names) where
  own_words_of : (own : OwnToken) → (lexed (own_text own) ≡ own_text own ∷ []) ⊎ (lexed (own_text own) ≡ codes "unreachable" ∷ (codes "!" ∷ []))
  own_words_of (an_own_word w) = word_words w
  own_words_of (a_variable k) = inl (own_tokens_are_words_lem.variables names k)
  own_words_of (a_parameter k) = inl (own_tokens_are_words_lem.parameters names k)
  own_words_of (a_label k) = inl (own_tokens_are_words_lem.labels names k)

-- 2. a function listed has a term
callee_entry : (t : ℕ) (ts : List TermEntry) (i : ℕ) (f : Callee) → slice_get (callees_from t ts) i ≡ Some f → (k : ℕ) × (e : TermEntry) × (slice_get ts k ≡ Some e) × (term_of f ≡ t + k)
callee_entry t [] i f h = absurd (cc)
callee_entry t (x ∷ ts) zero f h = let z : extractor_of t ≡ f = cc in (0, x, refl, sym (ap term_of z) ∙ (let y : t ≡ t + 0 = omega arith in y))
callee_entry t (x ∷ ts) (suc zero) f h = let z : constructor_of t ≡ f = cc in (0, x, refl, sym (ap term_of z) ∙ (let y : t ≡ t + 0 = omega arith in y))
callee_entry t (x ∷ ts) (suc (suc i)) f h = let r = callee_entry (suc t) ts i f h in (suc r.0, r.1, r.2, (let y : suc t + r.0 ≡ t + suc r.0 = omega arith in r.3 ∙ y))

abbrev declared_so : Option TypeEntry → Owner → Bool
declared_so entry (variant_owner ty i) = is_some (variant_in entry i)
declared_so entry (struct_owner ty) = is_struct_entry entry

module _ (s : NameSetting) (constants with_rules : List ℕ) (named : All IsWellNamed (kinds (named_by s constants with_rules))) (tell : NamesTell s constants with_rules) where
  abbrev n : NamedProgram
  n = named_by s constants with_rules

  abbrev known : Token → Bool
  known = is_of_program s constants with_rules

  abbrev text : Token → List ℕ
  text t = token_text (names_of s) t

  abbrev name_text : ℕ → List ℕ
  name_text k = text_of s.names k

  abbrev kinds_behind : List Namespace
  kinds_behind = functions_kind n ∷ (constants_kind n ∷ (terms_kind n ∷ (paths_kind n ∷ [])))

  well : (k : Namespace) → In (kinds n) k → IsWellNamed k
  well k i = All-contains IsWellNamed (kinds n) k named (contains_from_in (kinds n) k i)

  well_behind : (k : Namespace) → In kinds_behind k → IsWellNamed k
  well_behind k i = well k (inr (in_right (flat_map (kinds_inside s.names) s.types) kinds_behind k i))

  well_inside : (k : Namespace) (e : TypeEntry) → In s.types e → In (kinds_inside s.names e) k → IsWellNamed k
  well_inside k e i j = well k (inr (in_left (flat_map (kinds_inside s.names) s.types) kinds_behind k (in_flat_map (kinds_inside s.names) s.types e k i j)))

  there : (t : Token) → known t ≡ true → is_there s constants with_rules t ≡ true
  there t k = (and_parts (is_there s constants with_rules t) (not (is_named t) || is_clear (lexed (text t))) k).0

  -- 3. constants
  constant_claimed : (c : ℕ) → is_in c constants ≡ true → In (constants_kind n).claims (constant_claim s.names c)
  constant_claimed c h = map_in (constant_claim s.names) constants c (in_from_contains constants c (member_found c constants h))

  same_constant : (c d : ℕ) → known (constant_name c) ≡ true → known (constant_name d) ≡ true → text (constant_name c) ≡ text (constant_name d) → c ≡ d
  same_constant c d h k e =
      let i = (and_parts (is_in c constants) (not (is_among truths (name_text c))) (there (constant_name c) h)).0 in
      let j = (and_parts (is_in d constants) (not (is_among truths (name_text d))) (there (constant_name d) k)).0 in
      tell.constants_told c d i j (kind_apart (constants_kind n) (well_behind (constants_kind n) (inr (inl refl))) (constant_claim s.names c) (constant_claim s.names d) (constant_claimed c i) (constant_claimed d j) e)

  -- 4. types and variants
  record StructThere (ty : ℕ) : Type 0 where
    name : ℕ
    claimed_so : In (types_kind n).claims (identified s.names name)
    written_so : owner_written s (struct_owner ty) ≡ spelled (name_text name)
    told_so : type_text s ty ≡ Some (name_text name)

  struct_there : (ty : ℕ) (o : Option TypeEntry) → slice_get s.types ty ≡ o → is_struct_entry o ≡ true → StructThere ty
  struct_there ty (Some (struct_type name id is_extern is_nodebug fields at)) e h = record {
    name = name;
    claimed_so = in_flat_map (type_claim s.names) s.types (struct_type name id is_extern is_nodebug fields at) (identified s.names name) (in_slice s.types ty _ e) (inl refl);
    written_so = ap (type_written s.names) e;
    told_so = ap (type_text_in s.names) e;
  }
  struct_there ty None e h = absurd (false≢true h)
  struct_there ty (Some (builtin_type place)) e h = absurd (false≢true h)
  struct_there ty (Some (primitive_type id name at)) e h = absurd (false≢true h)
  struct_there ty (Some (enum_type name id is_extern is_nodebug variants at)) e h = absurd (false≢true h)

  record VariantThere (ty variant : ℕ) : Type 0 where
    name : ℕ
    v : VariantEntry
    claimed_so : In (types_kind n).claims (identified s.names name)
    told_so : type_text s ty ≡ Some (name_text name)
    kind_so : IsWellNamed (variant_kind s.names (variants_in (slice_get s.types ty)))
    at_so : slice_get (variants_in (slice_get s.types ty)) variant ≡ Some v
    words_so : lexed (owner_written s (variant_owner ty variant)) ≡ spelled (name_text name) ∷ (codes "::" ∷ (spelled (name_text v.name) ∷ []))

  variant_there : (ty variant : ℕ) (o : Option TypeEntry) (v : Option VariantEntry) → slice_get s.types ty ≡ o → variant_in o variant ≡ v → is_some v ≡ true → VariantThere ty variant
  variant_there ty variant o None e f h = absurd (false≢true h)
  variant_there ty variant (Some (enum_type name id is_extern is_nodebug variants at)) (Some v) e f h =
      let entry : TypeEntry = enum_type name id is_extern is_nodebug variants at in
      record {
        name = name;
        v = v;
        claimed_so = in_flat_map (type_claim s.names) s.types entry (identified s.names name) (in_slice s.types ty _ e) (inl refl);
        told_so = ap (type_text_in s.names) e;
        kind_so = subst (λ x. IsWellNamed (variant_kind s.names (variants_in x))) (sym e) (well_inside (variant_kind s.names variants) entry (in_slice s.types ty entry e) (inl refl));
        at_so = ap (λ x. slice_get (variants_in x) variant) e ∙ f;
        words_so =
            ap (λ x. lexed (type_written s.names x ++ codes "::" ++ variant_written s.names (variant_in x variant))) e
            ∙ ap (λ x. lexed (spelled (name_text name) ++ codes "::" ++ variant_written s.names x)) f
            ∙ variant_words (spelled (name_text name)) (spelled (name_text v.name)) (spelled_one (name_text name) (tell.utf8 name)) (spelled_one (name_text v.name) (tell.utf8 v.name));
      }
  variant_there ty variant None (Some v) e f h = absurd (cc)
  variant_there ty variant (Some (builtin_type place)) (Some v) e f h = absurd (cc)
  variant_there ty variant (Some (primitive_type id name at)) (Some v) e f h = absurd (cc)
  variant_there ty variant (Some (struct_type name id is_extern is_nodebug fields at)) (Some v) e f h = absurd (cc)

  same_type : (ty uy a b : ℕ) → In (types_kind n).claims (identified s.names a) → In (types_kind n).claims (identified s.names b) → type_text s ty ≡ Some (name_text a) → type_text s uy ≡ Some (name_text b)
      → spelled (name_text a) ≡ spelled (name_text b) → ty ≡ uy
  same_type ty uy a b i j f g e =
      let same : name_text a ≡ name_text b = kind_apart (types_kind n) (well (types_kind n) (inl refl)) (identified s.names a) (identified s.names b) i j e in
      tell.types_told ty uy (name_text b) (f ∙ ap Some same) g

  same_variant : (ty i j : ℕ) (a : VariantThere ty i) (b : VariantThere ty j) → spelled (name_text a.v.name) ≡ spelled (name_text b.v.name) → i ≡ j
  same_variant ty i j a b e =
      let variants : List VariantEntry = variants_in (slice_get s.types ty) in
      let same : name_text a.v.name ≡ name_text b.v.name = kind_apart (variant_kind s.names variants) a.kind_so (variant_claim s.names a.v) (variant_claim s.names b.v)
      (map_in (variant_claim s.names) variants a.v (in_slice variants i a.v a.at_so)) (map_in (variant_claim s.names) variants b.v (in_slice variants j b.v b.at_so)) e in
      let shown : (k : ℕ) (v : VariantEntry) → slice_get variants k ≡ Some v → variant_text s ty k ≡ Some (name_text v.name) = λ k v h. ap (option_map (λ (x : VariantEntry). text_of s.names x.name)) h in
      tell.variants_told ty i j (name_text b.v.name) (shown i a.v a.at_so ∙ ap Some same) (shown j b.v b.at_so)

  same_owner_text : (o q : Owner) → is_declared s o ≡ true → is_declared s q ≡ true → owner_written s o ≡ owner_written s q → o ≡ q
  same_owner_text (struct_owner ty) (struct_owner uy) h k e =
      let a = struct_there ty (slice_get s.types ty) refl h in
      let b = struct_there uy (slice_get s.types uy) refl k in
      ap struct_owner (same_type ty uy a.name b.name a.claimed_so b.claimed_so a.told_so b.told_so (sym a.written_so ∙ e ∙ b.written_so))
  same_owner_text (struct_owner ty) (variant_owner uy j) h k e =
      let a = struct_there ty (slice_get s.types ty) refl h in
      let b = variant_there uy j (slice_get s.types uy) (variant_in (slice_get s.types uy) j) refl refl k in
      absurd (let z : spelled (name_text a.name) ∷ [] ≡ spelled (name_text b.name) ∷ (codes "::" ∷ (spelled (name_text b.v.name) ∷ []))
      = sym (spelled_one (name_text a.name) (tell.utf8 a.name)).word ∙ ap lexed (sym a.written_so ∙ e) ∙ b.words_so in cc)
  same_owner_text (variant_owner ty i) (struct_owner uy) h k e =
      let a = struct_there uy (slice_get s.types uy) refl k in
      let b = variant_there ty i (slice_get s.types ty) (variant_in (slice_get s.types ty) i) refl refl h in
      absurd (let z : spelled (name_text a.name) ∷ [] ≡ spelled (name_text b.name) ∷ (codes "::" ∷ (spelled (name_text b.v.name) ∷ []))
      = sym (spelled_one (name_text a.name) (tell.utf8 a.name)).word ∙ ap lexed (sym a.written_so ∙ sym e) ∙ b.words_so in cc)
  same_owner_text (variant_owner ty i) (variant_owner uy j) h k e =
      let a = variant_there ty i (slice_get s.types ty) (variant_in (slice_get s.types ty) i) refl refl h in
      let b = variant_there uy j (slice_get s.types uy) (variant_in (slice_get s.types uy) j) refl refl k in
      let words = sym a.words_so ∙ ap lexed e ∙ b.words_so in
      let x : spelled (name_text a.name) ≡ spelled (name_text b.name) = first_words _ _ _ _ words in
      let y : spelled (name_text a.v.name) ≡ spelled (name_text b.v.name) = first_words _ _ _ _ (more_words _ _ _ _ (more_words _ _ _ _ words)) in
      let t : ty ≡ uy = same_type ty uy a.name b.name a.claimed_so b.claimed_so a.told_so b.told_so x in
      let v : i ≡ j = subst (λ z. (c : VariantThere z j) → spelled (name_text a.v.name) ≡ spelled (name_text c.v.name) → i ≡ j) t (λ c f. same_variant ty i j a c f) b y in
      ap (λ z. variant_owner z i) t ∙ ap (variant_owner uy) v

  -- 5. functions
  record FunctionThere (f : ℕ) : Type 0 where
    g : Callee
    at_so : slice_get (callees (program_in s)) f ≡ Some g
    called_so : is_called s with_rules g ≡ true
    number_so : function_number (program_in s) g ≡ f

  function_there : (f : ℕ) (o : Option Callee) → slice_get (callees (program_in s)) f ≡ o → is_function s with_rules f o ≡ true → FunctionThere f
  function_there f None e h = absurd (false≢true h)
  function_there f (Some g) e h =
      let hs = and_parts (is_called s with_rules g) (function_number (program_in s) g == f) h in record { g = g; at_so = e; called_so = hs.0; number_so = eqb-true (function_number (program_in s) g) f hs.1 }

  function_shown : (f : ℕ) (a : FunctionThere f) → text (function_name f) ≡ function_text s.names (outside_of (program_in s) a.g) (slice_get s.terms (term_of a.g))
  function_shown f a = ap (function_or_none s) a.at_so

  -- functions from outside of one name have one number
  one_name : (m : ℕ) (o : Option ℕ) (b c : Bool) → same_names (Some m) o b ≡ same_names (Some m) o c
  one_name m None b c = refl
  one_name m (Some k) b c = refl

  one_number : (g h : Callee) (m : ℕ) → outside_of (program_in s) g ≡ Some m → outside_of (program_in s) h ≡ Some m → function_number (program_in s) g ≡ function_number (program_in s) h
  one_number g h m a b =
      let tests : is_same_function (program_in s) g ≡ is_same_function (program_in s) h
      = fun_ext (λ x. ap (λ o. same_names o (outside_of (program_in s) x) (is_same_callee g x)) a ∙ one_name m (outside_of (program_in s) x) (is_same_callee g x) (is_same_callee h x) ∙ ap (λ o. same_names o (outside_of (program_in s) x) (is_same_callee h x)) (sym b)) in
      ap (λ q. position_or_len q (callees (program_in s))) tests

  -- a function that isn't from outside is of a term with rules
  record OwnFunction (g : Callee) : Type 0 where
    t : ℕ
    is : g ≡ constructor_of t
    ruled : is_in t with_rules ≡ true

  own_function : (g : Callee) → outside_of (program_in s) g ≡ None → is_called s with_rules g ≡ true → OwnFunction g
  own_function (extractor_of t) e h = absurd (false≢true (sym (ap is_some e) ∙ h))
  own_function (constructor_of t) e h = record { t = t; is = refl; ruled = sym (ap (λ o. is_some o || is_in t with_rules) e) ∙ h }

  term_claimed : (t : ℕ) (a : TermEntry) → is_in t with_rules ≡ true → slice_get s.terms t ≡ Some a → In (terms_kind n).claims (constructor_named s.names a.name)
  term_claimed t a h e =
      in_flat_map (term_claim s.names s.terms) with_rules t (constructor_named s.names a.name) (in_from_contains with_rules t (member_found t with_rules h))
      (subst (λ o. In (constructors_of s.names o) (constructor_named s.names a.name)) (sym e) (inl refl))

  entry_of : (f : ℕ) (g : Callee) → slice_get (callees (program_in s)) f ≡ Some g → (e : TermEntry) × (slice_get s.terms (term_of g) ≡ Some e)
  entry_of f g h = let r = callee_entry 0 s.terms f g h in (r.1, ap (slice_get s.terms) (r.3 ∙ (let z : 0 + r.0 ≡ r.0 = omega arith in z)) ∙ r.2)

  same_outside : (f k : ℕ) (a : FunctionThere f) (b : FunctionThere k) (m l : ℕ) → outside_of (program_in s) a.g ≡ Some m → outside_of (program_in s) b.g ≡ Some l
      → spelled (name_text m) ≡ spelled (name_text l) → f ≡ k
  same_outside f k a b m l x y e =
      let c = claimed n (program_in s) refl a.g m x in
      let d = claimed n (program_in s) refl b.g l y in
      let same : name_text m ≡ name_text l = same_name _ _ (name_text m) (name_text l) e (kind_apart (functions_kind n) (well_behind (functions_kind n) (inl refl)) _ _ c d e) in
      let told : m ≡ l = tell.outside_told a.g b.g m l x y same in
      sym a.number_so ∙ one_number a.g b.g l (x ∙ ap Some told) y ∙ b.number_so

  same_function : (f k : ℕ) (a : FunctionThere f) (b : FunctionThere k) (m l : Option ℕ) → outside_of (program_in s) a.g ≡ m → outside_of (program_in s) b.g ≡ l
      → function_text s.names m (slice_get s.terms (term_of a.g)) ≡ function_text s.names l (slice_get s.terms (term_of b.g)) → f ≡ k
  same_function f k a b (Some m) (Some l) x y e = same_outside f k a b m l x y (ap (drop 3) e)
  same_function f k a b (Some m) None x y e = absurd (let z : 67 ≡ 99 = ap (letter_at 0) e in omega (arith, z))
  same_function f k a b None (Some l) x y e = absurd (let z : 99 ≡ 67 = ap (letter_at 0) e in omega (arith, z))
  same_function f k a b None None x y e =
      let c = own_function a.g x a.called_so in
      let d = own_function b.g y b.called_so in
      let i = entry_of f a.g a.at_so in
      let j = entry_of k b.g b.at_so in
      let it : slice_get s.terms c.t ≡ Some i.0 = ap (λ z. slice_get s.terms (term_of z)) (sym c.is) ∙ i.1 in
      let jt : slice_get s.terms d.t ≡ Some j.0 = ap (λ z. slice_get s.terms (term_of z)) (sym d.is) ∙ j.1 in
      let written : codes "constructor_" ++ part (name_text i.0.name) ≡ codes "constructor_" ++ part (name_text j.0.name)
      = ap (function_text s.names None) (sym i.1) ∙ e ∙ ap (function_text s.names None) j.1 in
      let told : name_text i.0.name ≡ name_text j.0.name = kind_apart (terms_kind n) (well_behind (terms_kind n) (inr (inr (inl refl)))) (constructor_named s.names i.0.name) (constructor_named s.names j.0.name)
      (term_claimed c.t i.0 c.ruled it) (term_claimed d.t j.0 d.ruled jt) written in
      let terms : c.t ≡ d.t = tell.terms_told c.t d.t i.0 j.0 c.ruled d.ruled it jt told in
      let callees_same : a.g ≡ b.g = c.is ∙ ap constructor_of terms ∙ sym d.is in
      sym a.number_so ∙ ap (function_number (program_in s)) callees_same ∙ b.number_so

  same_functions : (f k : ℕ) → known (function_name f) ≡ true → known (function_name k) ≡ true → text (function_name f) ≡ text (function_name k) → f ≡ k
  same_functions f k h l e =
      let a = function_there f (slice_get (callees (program_in s)) f) refl (there (function_name f) h) in
      let b = function_there k (slice_get (callees (program_in s)) k) refl (there (function_name k) l) in
      same_function f k a b (outside_of (program_in s) a.g) (outside_of (program_in s) b.g) refl refl (sym (function_shown f a) ∙ e ∙ function_shown k b)

  listed_there : (f : ℕ) → known (list_name (Some f)) ≡ true → FunctionThere f
  listed_there f k =
      function_there f (slice_get (callees (program_in s)) f) refl
      (and_parts (is_function s with_rules f (slice_get (callees (program_in s)) f)) (has_list s (slice_get (callees (program_in s)) f)) (there (list_name (Some f)) k)).0

  -- 6. things of all kinds
  data Thing : Type 0 where
    an_integer : (z : ℤ) (ending : ℕ) → Thing
    a_constant : (c : ℕ) → Thing
    an_owner : (o : Owner) → Thing
    a_function : (f : ℕ) → Thing
    a_list : (l : Option ℕ) → Thing

  abbrev thing_token : Thing → Token
  thing_token (an_integer z ending) = number z ending
  thing_token (a_constant c) = constant_name c
  thing_token (an_owner o) = owner_name o
  thing_token (a_function f) = function_name f
  thing_token (a_list l) = list_name l

  thing : (t : Token) → is_named t ≡ true → (x : Thing) × (t ≡ thing_token x)
  thing (number z ending) h = (an_integer z ending, refl)
  thing (constant_name c) h = (a_constant c, refl)
  thing (owner_name o) h = (an_owner o, refl)
  thing (function_name f) h = (a_function f, refl)
  thing (list_name l) h = (a_list l, refl)
  thing (word w) h = absurd (false≢true h)
  thing (variable_name v) h = absurd (false≢true h)
  thing (parameter_name i) h = absurd (false≢true h)
  thing (part_name i) h = absurd (false≢true h)
  thing (field_name o i) h = absurd (false≢true h)
  thing (label_name k) h = absurd (false≢true h)
  thing no_match h = absurd (false≢true h)

  thing_path : (t : Token) → is_a_path t ≡ true → known t ≡ true → PathWords (text t)
  thing_path (constant_name c) h k =
      constant_path (name_text c) (tell.utf8 c) (not-true (is_among truths (name_text c)) (and_parts (is_in c constants) (not (is_among truths (name_text c))) (there (constant_name c) k)).1)
  thing_path (owner_name o) h k = owner_path s tell.utf8 o (there (owner_name o) k)
  thing_path (function_name f) h k = known_function_path s tell.utf8 (slice_get (callees (program_in s)) f)
  thing_path (number z ending) h k = absurd (false≢true h)
  thing_path (list_name l) h k = absurd (false≢true h)
  thing_path (word w) h k = absurd (false≢true h)
  thing_path (variable_name v) h k = absurd (false≢true h)
  thing_path (parameter_name i) h k = absurd (false≢true h)
  thing_path (part_name i) h k = absurd (false≢true h)
  thing_path (field_name o i) h k = absurd (false≢true h)
  thing_path (label_name l) h k = absurd (false≢true h)
  thing_path no_match h k = absurd (false≢true h)

  -- neither an integer nor a list is written as a path, and no integer as a list
  no_number : (z : ℤ) (ending : ℕ) (x : List ℕ) → begins_name x ≡ true → text (number z ending) ≡ x → ⊥
  no_number z ending x h e = integer_or_name x (ap begins_integer (sym e) ∙ integer_begins z (int_at s ending)) h

  list_begins : (o : Option ℕ) → begins_name (list_text s.names o) ≡ true
  list_begins None = refl
  list_begins (Some name) = refl

  list_words : (l : Option ℕ) → known (list_name l) ≡ true → (m : Option ℕ) × (text (list_name l) ≡ list_text s.names m)
  list_words None k = (None, refl)
  list_words (Some f) k = let a = listed_there f k in (outside_of (program_in s) a.g, ap (list_or_none s) a.at_so)

  no_path_list : (t : Token) (l : Option ℕ) → is_a_path t ≡ true → known t ≡ true → known (list_name l) ≡ true → text t ≡ text (list_name l) → ⊥
  no_path_list t l h k j e =
      let m = list_words l j in no_list_words (list_text s.names m.0) (list_made s tell.utf8 m.0) (subst PathWords (e ∙ m.1) (thing_path t h k))

  no_number_list : (z : ℤ) (ending : ℕ) (l : Option ℕ) → known (list_name l) ≡ true → text (number z ending) ≡ text (list_name l) → ⊥
  no_number_list z ending l j e = let m = list_words l j in no_number z ending (list_text s.names m.0) (list_begins m.0) (e ∙ m.1)

  no_number_path : (z : ℤ) (ending : ℕ) (t : Token) → is_a_path t ≡ true → known t ≡ true → text (number z ending) ≡ text t → ⊥
  no_number_path z ending t h k e = no_number z ending (text t) (path_begins_so (text t) (thing_path t h k)) e

  -- lists for the answers of functions from outside
  record ListedThere (f : ℕ) : Type 0 where
    function : FunctionThere f
    m : ℕ
    is : outside_of (program_in s) function.g ≡ Some m
    shown_so : text (list_name (Some f)) ≡ list_text s.names (Some m)

  listed_outside : (f : ℕ) → known (list_name (Some f)) ≡ true → ListedThere f
  listed_outside f k =
      let a = listed_there f k in
      let h : has_list s (Some a.g) ≡ true = sym (ap (has_list s) a.at_so) ∙ (and_parts (is_function s with_rules f (slice_get (callees (program_in s)) f)) (has_list s (slice_get (callees (program_in s)) f)) (there (list_name (Some f)) k)).1 in
      by a (outside_of (program_in s) a.g) refl h
    where
      by : (a : FunctionThere f) (o : Option ℕ) → outside_of (program_in s) a.g ≡ o → is_some (outside_of (program_in s) a.g) ≡ true → ListedThere f
      by a None e h = absurd (false≢true (sym (ap is_some e) ∙ h))
      by a (Some m) e h = record { function = a; m = m; is = e; shown_so = ap (list_or_none s) a.at_so ∙ ap (list_text s.names) e }

  same_list : (l m : Option ℕ) → known (list_name l) ≡ true → known (list_name m) ≡ true → text (list_name l) ≡ text (list_name m) → l ≡ m
  same_list None None h k e = refl
  same_list None (Some g) h k e = absurd (let z : 111 ≡ 58 = ap (letter_at 1) (e ∙ (listed_outside g k).shown_so) in omega (arith, z))
  same_list (Some f) None h k e = absurd (let z : 111 ≡ 58 = ap (letter_at 1) (sym e ∙ (listed_outside f h).shown_so) in omega (arith, z))
  same_list (Some f) (Some g) h k e =
      let a = listed_outside f h in
      let b = listed_outside g k in
      let parts : part (name_text a.m) ≡ part (name_text b.m)
      = ap (drop 3) (append_cancel_right (codes "C::" ++ part (name_text a.m)) (codes "C::" ++ part (name_text b.m)) (codes "_returns::default()") (sym a.shown_so ∙ e ∙ b.shown_so)) in
      ap Some (same_outside f g a.function b.function a.m b.m a.is b.is (parts_spell (name_text a.m) (name_text b.m) (tell.utf8 a.m) (tell.utf8 b.m) parts))

  -- integers
  is_place : (ending : ℕ) → is_ending s ending ≡ true → IsPlace (int_at s ending)
  is_place zero h = tt
  is_place (suc ty) h = by (int_at s (suc ty)) h
    where
      by : (o : Option ℕ) → is_integer_place o ≡ true → IsPlace o
      by None h = tt
      by (Some p) h = ltb-true p 13 h

  same_ending : (d e : ℕ) → is_ending s d ≡ true → is_ending s e ≡ true → int_at s d ≡ int_at s e → d ≡ e
  same_ending zero zero h k x = refl
  same_ending zero (suc e) h k x = absurd (false≢true (ap is_integer_place x ∙ k))
  same_ending (suc d) zero h k x = absurd (false≢true (ap is_integer_place (sym x) ∙ h))
  same_ending (suc d) (suc e) h k x = by (int_at s (suc d)) refl h
    where
      by : (o : Option ℕ) → int_at s (suc d) ≡ o → is_integer_place o ≡ true → suc d ≡ suc e
      by None f g = absurd (false≢true g)
      by (Some p) f g = tell.integers_told (suc d) (suc e) p f (sym x ∙ f)

  same_number : (y z : ℤ) (d e : ℕ) → known (number y d) ≡ true → known (number z e) ≡ true → text (number y d) ≡ text (number z e) → number y d ≡ number z e
  same_number y z d e h k t =
      let hs = and_parts (fits y) (is_ending s d) (there (number y d) h) in
      let ks = and_parts (fits z) (is_ending s e) (there (number z e) k) in
      let r = same_integer y z (int_at s d) (int_at s e) (as_fits y hs.0) (as_fits z ks.0) (is_place d hs.1) (is_place e ks.1) t in
      ap (λ x. number x d) r.number ∙ ap (number z) (same_ending d e hs.1 ks.1 r.ending)

  -- constants, structs and variants, and functions aren't written alike
  abbrev constant_paths : List Claim
  constant_paths = map (path_behind [] (codes "constant ")) (constants_kind n).claims

  abbrev owner_paths : List Claim
  owner_paths = flat_map (type_paths s.names) s.types

  abbrev function_paths : List Claim
  function_paths = map (path_behind (codes "C::") (codes "function ")) (functions_kind n).claims

  abbrev term_paths : List Claim
  term_paths = map (path_behind [] (codes "term ")) (terms_kind n).claims

  -- what is written as a path, by the first letter of the word for its kind
  record PathThere (t : Token) (letter : ℕ) : Type 0 where
    d : Claim
    inside : In (paths_kind n).claims d
    written_so : text t ≡ d.written
    word_so : letter_at 0 d.owner ≡ letter

  paths_apart : (t u : Token) (j k : ℕ) → PathThere t j → PathThere u k → text t ≡ text u → j ≡ k
  paths_apart t u j k a b e =
      let told : a.d.owner ≡ b.d.owner = kind_apart (paths_kind n) (well_behind (paths_kind n) (inr (inr (inr (inl refl))))) a.d b.d a.inside b.inside (sym a.written_so ∙ e ∙ b.written_so) in
      sym a.word_so ∙ ap (letter_at 0) told ∙ b.word_so

  constant_place : (c : ℕ) → known (constant_name c) ≡ true → PathThere (constant_name c) 99
  constant_place c k =
      let claimed_so = constant_claimed c (and_parts (is_in c constants) (not (is_among truths (name_text c))) (there (constant_name c) k)).0 in
      record {
        d = path_behind [] (codes "constant ") (constant_claim s.names c);
        inside = in_left constant_paths (owner_paths ++ (function_paths ++ term_paths)) _ (map_in (path_behind [] (codes "constant ")) (constants_kind n).claims (constant_claim s.names c) claimed_so);
        written_so = refl;
        word_so = refl;
      }

  abbrev owner_letter : Owner → ℕ
  owner_letter (variant_owner ty i) = 118
  owner_letter (struct_owner ty) = 115

  in_owners : (entry : TypeEntry) (d : Claim) → In s.types entry → In (type_paths s.names entry) d → In (paths_kind n).claims d
  in_owners entry d i j = in_right constant_paths (owner_paths ++ (function_paths ++ term_paths)) d (in_left owner_paths (function_paths ++ term_paths) d (in_flat_map (type_paths s.names) s.types entry d i j))

  variant_place : (ty i name : ℕ) (entry : TypeEntry) (variants : List VariantEntry) (v : Option VariantEntry) → slice_get s.types ty ≡ Some entry → type_paths s.names entry ≡ map (variant_path s.names name) variants
      → type_written s.names (Some entry) ≡ spelled (name_text name) → variant_in (Some entry) i ≡ slice_get variants i → slice_get variants i ≡ v → is_some v ≡ true → PathThere (owner_name (variant_owner ty i)) 118
  variant_place ty i name entry variants None e p w g h d = absurd (false≢true d)
  variant_place ty i name entry variants (Some v) e p w g h d = record {
    d = variant_path s.names name v;
    inside = in_owners entry (variant_path s.names name v) (in_slice s.types ty entry e) (subst (λ x. In x (variant_path s.names name v)) (sym p) (map_in (variant_path s.names name) variants v (in_slice variants i v h)));
    written_so =
        ap (λ x. type_written s.names x ++ codes "::" ++ variant_written s.names (variant_in x i)) e
        ∙ ap (λ x. x ++ codes "::" ++ variant_written s.names (variant_in (Some entry) i)) w
        ∙ ap (λ x. spelled (name_text name) ++ codes "::" ++ variant_written s.names x) (g ∙ h)
        ∙ append_assoc (spelled (name_text name)) (codes "::") (spelled (name_text v.name));
    word_so = refl;
  }

  owner_place : (o : Owner) (entry : Option TypeEntry) → slice_get s.types (type_of_owner o) ≡ entry → declared_so entry o ≡ true → PathThere (owner_name o) (owner_letter o)
  owner_place (variant_owner ty i) (Some (enum_type name id is_extern is_nodebug variants at)) e d =
      variant_place ty i name (enum_type name id is_extern is_nodebug variants at) variants (slice_get variants i) e refl refl refl refl d
  owner_place (struct_owner ty) (Some (struct_type name id is_extern is_nodebug fields at)) e d = record {
    d = struct_path s.names name;
    inside = in_owners (struct_type name id is_extern is_nodebug fields at) (struct_path s.names name) (in_slice s.types ty _ e) (inl refl);
    written_so = ap (type_written s.names) e;
    word_so = refl;
  }
  owner_place (variant_owner ty i) None e d = absurd (false≢true d)
  owner_place (variant_owner ty i) (Some (builtin_type place)) e d = absurd (false≢true d)
  owner_place (variant_owner ty i) (Some (primitive_type id name at)) e d = absurd (false≢true d)
  owner_place (variant_owner ty i) (Some (struct_type name id is_extern is_nodebug fields at)) e d = absurd (false≢true d)
  owner_place (struct_owner ty) None e d = absurd (false≢true d)
  owner_place (struct_owner ty) (Some (builtin_type place)) e d = absurd (false≢true d)
  owner_place (struct_owner ty) (Some (primitive_type id name at)) e d = absurd (false≢true d)
  owner_place (struct_owner ty) (Some (enum_type name id is_extern is_nodebug variants at)) e d = absurd (false≢true d)

  declared_here : (o : Owner) → is_declared s o ≡ true → declared_so (slice_get s.types (type_of_owner o)) o ≡ true
  declared_here (variant_owner ty i) h = h
  declared_here (struct_owner ty) h = h

  known_owner : (o : Owner) → known (owner_name o) ≡ true → PathThere (owner_name o) (owner_letter o)
  known_owner o k = owner_place o (slice_get s.types (type_of_owner o)) refl (declared_here o (there (owner_name o) k))

  function_place : (f : ℕ) → known (function_name f) ≡ true → PathThere (function_name f) 102 ⊎ PathThere (function_name f) 116
  function_place f k = let a = function_there f (slice_get (callees (program_in s)) f) refl (there (function_name f) k) in by a (outside_of (program_in s) a.g) refl
    where
      in_functions : (d : Claim) → In (function_paths ++ term_paths) d → In (paths_kind n).claims d
      in_functions d i = in_right constant_paths (owner_paths ++ (function_paths ++ term_paths)) d (in_right owner_paths (function_paths ++ term_paths) d i)

      shown : (a : FunctionThere f) (o : Option ℕ) → outside_of (program_in s) a.g ≡ o → text (function_name f) ≡ function_text s.names o (slice_get s.terms (term_of a.g))
      shown a o x = function_shown f a ∙ ap (λ y. function_text s.names y (slice_get s.terms (term_of a.g))) x

      by : (a : FunctionThere f) (o : Option ℕ) → outside_of (program_in s) a.g ≡ o → PathThere (function_name f) 102 ⊎ PathThere (function_name f) 116
      by a (Some m) x =
          let c : Claim = function_claim s.names (not (is_impure_callee (program_in s) a.g)) m in
          inl (record {
            d = path_behind (codes "C::") (codes "function ") c;
            inside = in_functions _ (in_left function_paths term_paths _ (map_in (path_behind (codes "C::") (codes "function ")) (functions_kind n).claims c (claimed n (program_in s) refl a.g m x)));
            written_so = shown a (Some m) x;
            word_so = refl;
          })
      by a None x =
          let c = own_function a.g x a.called_so in
          let i = entry_of f a.g a.at_so in
          let it : slice_get s.terms c.t ≡ Some i.0 = ap (λ z. slice_get s.terms (term_of z)) (sym c.is) ∙ i.1 in
          inr (record {
            d = path_behind [] (codes "term ") (constructor_named s.names i.0.name);
            inside = in_functions _ (in_right function_paths term_paths _ (map_in (path_behind [] (codes "term ")) (terms_kind n).claims (constructor_named s.names i.0.name) (term_claimed c.t i.0 c.ruled it)));
            written_so = shown a None x ∙ ap (function_text s.names None) i.1;
            word_so = refl;
          })

  no_constant_owner : (c : ℕ) (o : Owner) → known (constant_name c) ≡ true → known (owner_name o) ≡ true → text (constant_name c) ≡ text (owner_name o) → ⊥
  no_constant_owner c o h k e = other o (paths_apart (constant_name c) (owner_name o) 99 (owner_letter o) (constant_place c h) (known_owner o k) e)
    where
      other : (o : Owner) → 99 ≡ owner_letter o → ⊥
      other (variant_owner ty i) z = omega (arith, z)
      other (struct_owner ty) z = omega (arith, z)

  -- nothing that isn't a function is written as one
  no_function : (t : Token) (f j : ℕ) → PathThere t j → (j ≡ 102 → ⊥) → (j ≡ 116 → ⊥) → known (function_name f) ≡ true → text t ≡ text (function_name f) → ⊥
  no_function t f j a x y k e = ⊎_elim (λ b. x (paths_apart t (function_name f) j 102 a b e)) (λ b. y (paths_apart t (function_name f) j 116 a b e)) (function_place f k)

  no_constant_function : (c f : ℕ) → known (constant_name c) ≡ true → known (function_name f) ≡ true → text (constant_name c) ≡ text (function_name f) → ⊥
  no_constant_function c f h k e = no_function (constant_name c) f 99 (constant_place c h) (λ z. omega (arith, z)) (λ z. omega (arith, z)) k e

  no_owner_function : (o : Owner) (f : ℕ) → known (owner_name o) ≡ true → known (function_name f) ≡ true → text (owner_name o) ≡ text (function_name f) → ⊥
  no_owner_function o f h k e = no_function (owner_name o) f (owner_letter o) (known_owner o h) (first o) (second o) k e
    where
      first : (o : Owner) → owner_letter o ≡ 102 → ⊥
      first (variant_owner ty i) z = omega (arith, z)
      first (struct_owner ty) z = omega (arith, z)

      second : (o : Owner) → owner_letter o ≡ 116 → ⊥
      second (variant_owner ty i) z = omega (arith, z)
      second (struct_owner ty) z = omega (arith, z)

  same_thing : (x y : Thing) → known (thing_token x) ≡ true → known (thing_token y) ≡ true → text (thing_token x) ≡ text (thing_token y) → thing_token x ≡ thing_token y
  same_thing (an_integer y d) (an_integer z e) h k t = same_number y z d e h k t
  same_thing (an_integer y d) (a_constant c) h k t = absurd (no_number_path y d (constant_name c) refl k t)
  same_thing (an_integer y d) (an_owner o) h k t = absurd (no_number_path y d (owner_name o) refl k t)
  same_thing (an_integer y d) (a_function f) h k t = absurd (no_number_path y d (function_name f) refl k t)
  same_thing (an_integer y d) (a_list l) h k t = absurd (no_number_list y d l k t)
  same_thing (a_constant c) (an_integer y d) h k t = absurd (no_number_path y d (constant_name c) refl h (sym t))
  same_thing (a_constant c) (a_constant d) h k t = ap constant_name (same_constant c d h k t)
  same_thing (a_constant c) (an_owner o) h k t = absurd (no_constant_owner c o h k t)
  same_thing (a_constant c) (a_function f) h k t = absurd (no_constant_function c f h k t)
  same_thing (a_constant c) (a_list l) h k t = absurd (no_path_list (constant_name c) l refl h k t)
  same_thing (an_owner o) (an_integer y d) h k t = absurd (no_number_path y d (owner_name o) refl h (sym t))
  same_thing (an_owner o) (a_constant c) h k t = absurd (no_constant_owner c o k h (sym t))
  same_thing (an_owner o) (an_owner q) h k t = ap owner_name (same_owner_text o q (there (owner_name o) h) (there (owner_name q) k) t)
  same_thing (an_owner o) (a_function f) h k t = absurd (no_owner_function o f h k t)
  same_thing (an_owner o) (a_list l) h k t = absurd (no_path_list (owner_name o) l refl h k t)
  same_thing (a_function f) (an_integer y d) h k t = absurd (no_number_path y d (function_name f) refl h (sym t))
  same_thing (a_function f) (a_constant c) h k t = absurd (no_constant_function c f k h (sym t))
  same_thing (a_function f) (an_owner o) h k t = absurd (no_owner_function o f k h (sym t))
  same_thing (a_function f) (a_function g) h k t = ap function_name (same_functions f g h k t)
  same_thing (a_function f) (a_list l) h k t = absurd (no_path_list (function_name f) l refl h k t)
  same_thing (a_list l) (an_integer y d) h k t = absurd (no_number_list y d l h (sym t))
  same_thing (a_list l) (a_constant c) h k t = absurd (no_path_list (constant_name c) l refl k h (sym t))
  same_thing (a_list l) (an_owner o) h k t = absurd (no_path_list (owner_name o) l refl k h (sym t))
  same_thing (a_list l) (a_function f) h k t = absurd (no_path_list (function_name f) l refl k h (sym t))
  same_thing (a_list l) (a_list m) h k t = ap list_name (same_list l m h k t)

  same_by : (t u : Token) → is_named t ≡ true → known t ≡ true → is_named u ≡ true → known u ≡ true → text t ≡ text u → t ≡ u
  same_by t u m h l k e =
      let x = thing t m in
      let y = thing u l in
      x.1 ∙ same_thing x.0 y.0 (ap known (sym x.1) ∙ h) (ap known (sym y.1) ∙ k) (ap text (sym x.1) ∙ e ∙ ap text y.1) ∙ sym y.1

  -- 7. fields
  field_there : (fields : FieldEntries) (i : ℕ) (x : List ℕ) → field_text_in s.names fields i ≡ Some x
      → (f : FieldEntry) × In (field_claims s.names fields) (field_claim s.names f) × (name_text f.name ≡ x) × (field_written s.names fields i ≡ spelled (name_text f.name))
  field_there unit_entries i x e = absurd (cc)
  field_there (tuple_entries fields) i x e = absurd (cc)
  field_there (struct_entries fields) i x e = by (slice_get fields i) refl e
    where
      by : (o : Option FieldEntry) → slice_get fields i ≡ o → option_map (λ (f : FieldEntry). text_of s.names f.name) o ≡ Some x
          → (f : FieldEntry) × In (map (field_claim s.names) fields) (field_claim s.names f) × (name_text f.name ≡ x) × (field_written s.names (struct_entries fields) i ≡ spelled (name_text f.name))
      by None g h = absurd (cc)
      by (Some f) g h = let z : name_text f.name ≡ x = cc in (f, map_in (field_claim s.names) fields f (in_slice fields i f g), z, ap (one_field_written s.names) g)

  variant_fields_named : (ty variant : ℕ) (entry : TypeEntry) (variants : List VariantEntry) (i : ℕ) (v : Option VariantEntry) → In s.types entry → kinds_inside s.names entry ≡ variant_kind s.names variants ∷ map (variant_fields s.names) variants
      → slice_get variants variant ≡ v → is_some (field_text_in s.names (fields_of_variant v) i) ≡ true → IsWellNamed (field_kind s.names (fields_of_variant v))
  variant_fields_named ty variant entry variants i None j e f h = absurd (false≢true h)
  variant_fields_named ty variant entry variants i (Some v) j e f h =
      well_inside (field_kind s.names v.fields) entry j (subst (λ ks. In ks (field_kind s.names v.fields)) (sym e) (inr (map_in (variant_fields s.names) variants v (in_slice variants variant v f))))

  fields_named : (o : Owner) (i : ℕ) (entry : Option TypeEntry) → slice_get s.types (type_of_owner o) ≡ entry → is_some (field_text_in s.names (fields_in entry o) i) ≡ true → IsWellNamed (field_kind s.names (fields_in entry o))
  fields_named (variant_owner ty variant) i (Some (enum_type name id is_extern is_nodebug variants at)) e h =
      variant_fields_named ty variant (enum_type name id is_extern is_nodebug variants at) variants i (slice_get variants variant) (in_slice s.types ty _ e) refl refl h
  fields_named (struct_owner ty) i (Some (struct_type name id is_extern is_nodebug fields at)) e h =
      well_inside (field_kind s.names fields) (struct_type name id is_extern is_nodebug fields at) (in_slice s.types ty _ e) (inl refl)
  fields_named (variant_owner ty variant) i None e h = absurd (false≢true h)
  fields_named (variant_owner ty variant) i (Some (builtin_type place)) e h = absurd (false≢true h)
  fields_named (variant_owner ty variant) i (Some (primitive_type id name at)) e h = absurd (false≢true h)
  fields_named (variant_owner ty variant) i (Some (struct_type name id is_extern is_nodebug fields at)) e h = absurd (false≢true h)
  fields_named (struct_owner ty) i None e h = absurd (false≢true h)
  fields_named (struct_owner ty) i (Some (builtin_type place)) e h = absurd (false≢true h)
  fields_named (struct_owner ty) i (Some (primitive_type id name at)) e h = absurd (false≢true h)
  fields_named (struct_owner ty) i (Some (enum_type name id is_extern is_nodebug variants at)) e h = absurd (false≢true h)

  given : (o : Option (List ℕ)) → is_some o ≡ true → (x : List ℕ) × (o ≡ Some x)
  given None h = absurd (false≢true h)
  given (Some x) h = (x, refl)

  same_field_by : (o : Owner) (i j : ℕ) → known (field_name o i) ≡ true → known (field_name o j) ≡ true → text (field_name o i) ≡ text (field_name o j) → i ≡ j
  same_field_by o i j h k e =
      let fields : FieldEntries = fields_of (program_in s) o in
      let x = given (field_text s o i) (there (field_name o i) h) in
      let y = given (field_text s o j) (there (field_name o j) k) in
      let a = field_there fields i x.0 x.1 in
      let b = field_there fields j y.0 y.1 in
      let same : name_text a.0.name ≡ name_text b.0.name = kind_apart (field_kind s.names fields) (fields_named o i (slice_get s.types (type_of_owner o)) refl (there (field_name o i) h)) (field_claim s.names a.0) (field_claim s.names b.0) a.1 b.1 (sym a.3 ∙ e ∙ b.3) in
      tell.fields_told o i j y.0 (x.1 ∙ ap Some (sym a.2 ∙ same ∙ b.2)) y.1

  field_written_so : (o : Owner) (i : ℕ) → known (field_name o i) ≡ true → text (field_name o i) ≢ []
  field_written_so o i h e =
      let x = given (field_text s o i) (there (field_name o i) h) in
      let a = field_there (fields_of (program_in s) o) i x.0 x.1 in
      false≢true (ap begins_name (sym e ∙ a.3) ∙ (spelled_one (name_text a.0.name) (tell.utf8 a.0.name)).begins)

  -- 8. none is written as a token of the code's own
  abbrev IsFree : List ℕ → Type 0
  IsFree x = (own : OwnToken) → IsSmallToken own → is_own_method own ≡ false → own_text own ≢ x

  identifier_free : (x : List ℕ) → IsIdentifier x → begins_name x ≡ true → (is_own_value x ≡ true → ⊥) → IsFree x
  identifier_free x i b other (an_own_word w) small m e = by (told_word w) i
    where
      by : WordSort w → IsIdentifier x → ⊥
      by (of_method h) i = false≢true (sym m ∙ h)
      by (of_value h) i = other (ap is_own_value (sym e) ∙ h)
      by (no_identifier h) (inl j) = false≢true (sym h ∙ ap is_plain e ∙ j)
      by (no_identifier h) (inr r) = not_raw w r.0 (e ∙ r.2)
  identifier_free x i b other (a_variable k) small m e = other (ap is_own_value (sym e) ∙ own_value (codes "v" ++ decimal k) (variables_are_plain_lem.told (of_variable k) small))
  identifier_free x i b other (a_parameter k) small m e = other (ap is_own_value (sym e) ∙ own_value (codes "arg" ++ decimal k) (variables_are_plain_lem.told (of_parameter k) small))
  identifier_free x i b other (a_label k) small m e = false≢true (ap begins_name e ∙ b)

  -- what has `::` within
  several_free : (x w v : List ℕ) (ws : List (List ℕ)) → lexed x ≡ w ∷ (codes "::" ∷ (v ∷ ws)) → IsFree x
  several_free x w v ws f own small m e =
      ⊎_elim (λ g. (let z : own_text own ∷ [] ≡ w ∷ (codes "::" ∷ (v ∷ ws)) = sym g ∙ ap lexed e ∙ f in cc))
      (λ g. (let z : 33 ≡ 58 = ap (letter_at 0) (first_words (codes "!") (codes "::") [] (v ∷ ws) (more_words (codes "unreachable") w (codes "!" ∷ []) (codes "::" ∷ (v ∷ ws)) (sym g ∙ ap lexed e ∙ f))) in omega (arith, z))) (own_words_of (names_of s) own)

  constant_free : (c : ℕ) → known (constant_name c) ≡ true → IsFree (text (constant_name c))
  constant_free c k = subst (λ b. IsFree (cond b (name_text c) (spelled_path (name_text c)))) (sym (not-true (is_among truths (name_text c)) parts.1)) (by (is_path (name_text c)) refl)
    where
      parts : (is_in c constants ≡ true) × (not (is_among truths (name_text c)) ≡ true)
      parts = and_parts (is_in c constants) (not (is_among truths (name_text c))) (there (constant_name c) k)

      by : (b : Bool) → is_path (name_text c) ≡ b → IsFree (cond b (joined (map raw_segment (segments (name_text c)))) (spelled (name_text c)))
      by true e =
          let es = and_parts (are_several (segments (name_text c))) (list_all is_identifier (segments (name_text c))) e in
          let w = several_words (segments (name_text c)) es.0 es.1 in several_free _ w.0 w.1 w.2 w.3
      by false e =
          let written : spelled_constant (name_text c) ≡ spelled (name_text c)
          = ap (λ b. cond b (name_text c) (spelled_path (name_text c))) (not-true (is_among truths (name_text c)) parts.1) ∙ ap (λ b. cond b (joined (map raw_segment (segments (name_text c)))) (spelled (name_text c))) e in
          identifier_free (spelled (name_text c)) (names_are_identifiers_lem (name_text c) (tell.utf8 c)) (spelled_one (name_text c) (tell.utf8 c)).begins
          (λ own. found_not (λ (x : Claim). is_own_value x.written) (constants_kind n).claims (constant_claim s.names c) (well_behind (constants_kind n) (inr (inl refl))).free (constant_claimed c parts.0) (ap is_own_value written ∙ own))

  owner_free : (o : Owner) → is_declared s o ≡ true → IsFree (owner_written s o)
  owner_free (struct_owner ty) h =
      let a = struct_there ty (slice_get s.types ty) refl h in
      subst IsFree (sym a.written_so)
      (identifier_free (spelled (name_text a.name)) (names_are_identifiers_lem (name_text a.name) (tell.utf8 a.name)) (spelled_one (name_text a.name) (tell.utf8 a.name)).begins
      (λ own. found_not (λ (x : Claim). is_own_type x.written) (types_kind n).claims (identified s.names a.name) (well (types_kind n) (inl refl)).free a.claimed_so (or_right (is_among own_types (spelled (name_text a.name))) (is_own_value (spelled (name_text a.name))) own)))
  owner_free (variant_owner ty i) h =
      let a = variant_there ty i (slice_get s.types ty) (variant_in (slice_get s.types ty) i) refl refl h in several_free _ _ _ _ a.words_so

  outside_free : (x : List ℕ) → IsFree (67 ∷ x)
  outside_free x own small m e = not_own own 67 x refl (λ z. omega (arith, z)) (λ z. omega (arith, z)) (λ z. omega (arith, z)) e

  function_free : (m : Option ℕ) (e : Option TermEntry) → IsFree (function_text s.names m e)
  function_free (Some name) e = outside_free (codes "::" ++ spelled (name_text name))
  function_free None e = λ own small m f. not_own own 99 (codes "onstructor_" ++ term_part s.names e) refl (λ z. omega (arith, z)) (λ z. omega (arith, z)) (λ z. omega (arith, z)) f

  list_free : (m : Option ℕ) → IsFree (list_text s.names m)
  list_free (Some name) = outside_free (codes "::" ++ part (name_text name) ++ codes "_returns::default()")
  list_free None = outside_free (codes "ontextIterWrapper::<ConstructorVec<_>, _>::default()")

  thing_free : (x : Thing) → known (thing_token x) ≡ true → IsFree (text (thing_token x))
  thing_free (an_integer z ending) k = λ own small m e. false≢true (sym (no_integer own) ∙ ap begins_integer e ∙ integer_begins z (int_at s ending))
  thing_free (a_constant c) k = constant_free c k
  thing_free (an_owner o) k = owner_free o (there (owner_name o) k)
  thing_free (a_function f) k =
      let a = function_there f (slice_get (callees (program_in s)) f) refl (there (function_name f) k) in
      subst IsFree (sym (function_shown f a)) (function_free (outside_of (program_in s) a.g) (slice_get s.terms (term_of a.g)))
  thing_free (a_list None) k = list_free None
  thing_free (a_list (Some f)) k =
      let a = listed_there f k in
      subst IsFree (sym (ap (list_or_none s) a.at_so)) (list_free (outside_of (program_in s) a.g))

  free_by : (t : Token) (own : OwnToken) → is_named t ≡ true → known t ≡ true → IsSmallToken own → is_own_method own ≡ false → own_text own ≢ text t
  free_by t own m k small o e = let x = thing t m in thing_free x.0 (ap known (sym x.1) ∙ k) own small o (e ∙ ap text x.1)

  -- 9. words that are clear
  clear : (t : Token) → is_named t ≡ true → known t ≡ true → is_clear (lexed (text t)) ≡ true
  clear t m k = sym (ap (λ b. not b || is_clear (lexed (text t))) m) ∙ (and_parts (is_there s constants with_rules t) (not (is_named t) || is_clear (lexed (text t))) k).1

  not_that : (w c : List ℕ) → not (bytes_eq w c) ≡ true → w ≢ c
  not_that w c h e = false≢true (sym (ap not (ap (λ z. bytes_eq z c) e ∙ same_self c)) ∙ h)

  begins_by : (t : Token) (w : List ℕ) (ws : List (List ℕ)) → is_named t ≡ true → known t ≡ true → lexed (text t) ≡ w ∷ ws → (w ≢ codes "unreachable") × (w ≢ codes "log")
  begins_by t w ws m k f =
      let c = and_parts (not (bytes_eq w (codes "unreachable"))) (not (bytes_eq w (codes "log")) && not (is_list_path ws)) (ap is_clear (sym f) ∙ clear t m k) in
      (not_that w (codes "unreachable") c.0, not_that w (codes "log") (and_parts (not (bytes_eq w (codes "log"))) (not (is_list_path ws)) c.1).0)

  small_by : AreSmall known
  small_by = record {
    variable = λ v k. ltb-true v (2 ^ 64) (there (variable_name v) k);
    parameter = λ i k. ltb-true i (2 ^ 64) (there (parameter_name i) k);
    part = λ i k. ltb-true i (2 ^ 64) (there (part_name i) k);
    label = λ m k. ltb-true m (2 ^ 64) (there (label_name m) k);
  }

  list_by : (f : ℕ) → known (list_name (Some f)) ≡ true → is_some (slice_get (callees (program_in s)) f) ≡ true
  list_by f k = ap is_some (listed_there f k).at_so

pub well_named_are_written_once_lem : WellNamedAreWrittenOnce
well_named_are_written_once_lem s constants with_rules named tell = record {
  small = small_by s constants with_rules named tell;
  utf8 = tell.utf8;
  owner = λ o k. there s constants with_rules named tell (owner_name o) k;
  field = field_written_so s constants with_rules named tell;
  list = list_by s constants with_rules named tell;
  constant = λ c k. not-true (is_among truths (text_of s.names c)) (and_parts (is_in c constants) (not (is_among truths (text_of s.names c))) (there s constants with_rules named tell (constant_name c) k)).1;
  same = same_by s constants with_rules named tell;
  same_field = same_field_by s constants with_rules named tell;
  free = free_by s constants with_rules named tell;
  begins = begins_by s constants with_rules named tell;
  no_list = λ t w m k f. false≢true (ap is_clear (sym f) ∙ clear s constants with_rules named tell t m k);
}
