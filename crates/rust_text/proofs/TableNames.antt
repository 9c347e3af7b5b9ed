-- Names of tables of definitions: they are read at their numbers, and those that must differ do.
use Rattle.std.proofs.Common.{◌≡◌, ◌⊎◌, ◌+◌, ◌++◌, ◌∷◌, [], ℕ, zero, suc, Bool, true, false, cond, List, Option, Some, None, length, map, slice_get, unwrap_or, refl, ap, ◌∙◌, sym, subst, inl, inr, ⊎_elim, arith}
use Rattle.std.specs.Prelude.{option_map}
use Rattle.std.specs.List.{cons_option, enumerate_from, filter_map, find, flat_map}
use Rattle.std.specs.Str.{bytes_eq}
use Rattle.std.proofs.lemmas.List.Elements.{All-contains}
use Rattle.model.specs.lists.Signatures.{text_of}
use Rattle.model.specs.lists.Syntax.{Definition, type_definition, declaration, extractor_definition, converter_definition, rule_definition, extern_definition, other_definition, extern_constructor, extern_extractor, extern_const, DeclTree, ExtractorTree, FieldTree, FieldTrees, unit_fields, struct_fields, tuple_fields, VariantTree, TypeTree, TypeValueTree, primitive_value, enum_value, struct_value}
use Rattle.model.specs.lists.Names.{has_name, number, IsDistinct}
use Rattle.model.specs.lists.KnownTypes.{KnownTypes, types_of}
use Rattle.model.specs.lists.Tables.{FieldEntry, FieldEntries, unit_entries, VariantEntry, TypeEntry, builtin_type, primitive_type, enum_type, struct_type, external_constructor, internal_constructor, external_extractor, internal_extractor, struct_term, variant_term, TermEntry}
use Rattle.model.specs.lists.TypeTable.{HasDistinctFields, HasDistinctVariants, IsValidTypes, builtin_from, builtin_names, entry_at, field_entries, field_entry, field_lists, field_lists_of, field_names, names_inside, type_entry, type_id, type_names, type_names_met, type_table, type_trees, variant_entry, variant_names, variants_of}
use Rattle.model.specs.lists.TermTable.{ConstructorTree, ExternalTree, IsValidTerms, constructor_kind, constructor_trees, decl_as_term, decl_names, decl_trees, external_constructor_of, external_extractor_of, external_trees, extractor_kind, extractor_template, extractor_trees, function_of, has_rules, internal_extractors, made_by, term_names, term_names_met, term_table, terms_in_order, terms_made, variant_as_term}
use Rattle.model.proofs.Elements.{In, contains_from_in, from_flat_map, in_either, in_flat_map, in_map, in_slice, map_in, slice_in, some_is}
use Rattle.model.proofs.Mapped.{get_map, get_mapped, mapped_some}
use Rattle.model.proofs.Names.{found, get_kept, has_at, has_kept, has_left, has_met, has_right}
use Rattle.model_code.specs.Alike.{term_of}
use Rattle.model_code.specs.Notation.{Callee, extractor_of, constructor_of}
use Rattle.model_code.specs.ProgramNotation.{fields_in, fields_of_variant, outside_constructor, outside_extractor, outside_in, outside_of, outside_of_entry, type_of_owner}
use Rattle.model_code.specs.Tokens.{Owner, variant_owner, struct_owner}
use Rattle.laws_typing.specs.TableLaws.{TermsHaveNames, TypesStandAtIds}
use Rattle.laws_typing.proofs.TypeLaws.{inside_met, types_met}
use Rattle.rust_text.specs.ProgramNames.{NameSetting, int_at, int_place_in, program_in}
use Rattle.rust_text.specs.ProgramTokens.{field_text, field_text_in, type_text, type_text_in, variant_text, variants_in}

-- 1. lists
-- what is made of a list's elements and their places
enumerated : {X Y : Type 0} (f : ℕ × X → Y) (xs : List X) (n i : ℕ) (y : Y) → slice_get (map f (enumerate_from n xs)) i ≡ Some y → (x : X) × (slice_get xs i ≡ Some x) × (y ≡ f (n + i, x))
enumerated f [] n i y h = absurd (cc)
enumerated f (x ∷ xs) n zero y h = let same : n ≡ n + 0 = omega arith in (x, refl, sym (some_is _ y h) ∙ ap (λ m. f (m, x)) same)
enumerated f (x ∷ xs) n (suc i) y h =
    let r = enumerated f xs (n + 1) i y h in let same : n + 1 + i ≡ n + suc i = omega arith in (r.0, r.1, r.2 ∙ ap (λ m. f (m, r.0)) same)

-- in the first of two lists, or behind it
either_list : {X : Type 0} (xs ys : List X) (i : ℕ) (x : X) → slice_get (xs ++ ys) i ≡ Some x → (slice_get xs i ≡ Some x) ⊎ ((j : ℕ) × (i ≡ length xs + j) × (slice_get ys j ≡ Some x))
either_list [] ys i x h = inr (i, (let e : i ≡ 0 + i = omega arith in e), h)
either_list (y ∷ xs) ys zero x h = inl h
either_list (y ∷ xs) ys (suc i) x h = ⊎_elim inl (λ r. inr (r.0, (let e = r.1 in omega (arith, e)), r.2)) (either_list xs ys i x h)

builtin_at : (n : ℕ) (xs : List (List ℕ)) (i : ℕ) (e : TypeEntry) → slice_get (builtin_from n xs) i ≡ Some e → e ≡ builtin_type (n + i)
builtin_at n [] i e h = absurd (cc)
builtin_at n (x ∷ xs) zero e h = let same : n ≡ n + 0 = omega arith in sym (some_is _ e h) ∙ ap builtin_type same
builtin_at n (x ∷ xs) (suc i) e h = let same : suc n + i ≡ n + suc i = omega arith in builtin_at (suc n) xs i e h ∙ ap builtin_type same

found_in : {X : Type 0} (p : X → Bool) (xs : List X) (x : X) → find p xs ≡ Some x → In xs x
found_in p [] x h = absurd (cc)
found_in p (y ∷ ys) x h = by (p y) h (λ k. found_in p ys x k)
  where
    by : (b : Bool) → cond b (Some y) (find p ys) ≡ Some x → (find p ys ≡ Some x → In ys x) → In (y ∷ ys) x
    by true h later = inl (some_is y x h)
    by false h later = inr (later h)

named_in : (xs : List (List ℕ)) (x : List ℕ) → In xs x → has_name xs x ≡ true
named_in xs x i = let r = slice_in xs x i in has_at xs r.0 x r.1

from_names : (ns : List (List ℕ)) (ms : List ℕ) (y : List ℕ) → In (filter_map (slice_get ns) ms) y → (m : ℕ) × (slice_get ns m ≡ Some y)
from_names ns [] y i = absurd i
from_names ns (m ∷ ms) y i = by (slice_get ns m) refl i (λ k. from_names ns ms y k)
  where
    by : (o : Option (List ℕ)) → slice_get ns m ≡ o → In (cons_option o (filter_map (slice_get ns) ms)) y → (In (filter_map (slice_get ns) ms) y → (k : ℕ) × (slice_get ns k ≡ Some y)) → (k : ℕ) × (slice_get ns k ≡ Some y)
    by None e i later = later i
    by (Some z) e (inl s) later = (m, e ∙ ap Some s)
    by (Some z) e (inr i) later = later i

-- 2. names of what definitions make
-- functions from outside
of_constructor : (d : Definition) (c : ConstructorTree) → In (external_constructor_of d) c → In (function_of d) c.function.text
of_constructor (extern_definition (extern_constructor term function at)) c (inl e) = inl (ap (λ (x : ConstructorTree). x.function.text) e)
of_constructor (extern_definition (extern_constructor term function at)) c (inr i) = absurd i
of_constructor (extern_definition (extern_extractor term function at infallible)) c i = absurd i
of_constructor (extern_definition (extern_const name ty at)) c i = absurd i
of_constructor (type_definition t) c i = absurd i
of_constructor (declaration d) c i = absurd i
of_constructor (extractor_definition e) c i = absurd i
of_constructor (converter_definition e) c i = absurd i
of_constructor (rule_definition r) c i = absurd i
of_constructor other_definition c i = absurd i

of_extractor : (d : Definition) (c : ExternalTree) → In (external_extractor_of d) c → In (function_of d) c.function.text
of_extractor (extern_definition (extern_extractor term function at infallible)) c (inl e) = inl (ap (λ (x : ExternalTree). x.function.text) e)
of_extractor (extern_definition (extern_extractor term function at infallible)) c (inr i) = absurd i
of_extractor (extern_definition (extern_constructor term function at)) c i = absurd i
of_extractor (extern_definition (extern_const name ty at)) c i = absurd i
of_extractor (type_definition t) c i = absurd i
of_extractor (declaration d) c i = absurd i
of_extractor (extractor_definition e) c i = absurd i
of_extractor (converter_definition e) c i = absurd i
of_extractor (rule_definition r) c i = absurd i
of_extractor other_definition c i = absurd i

-- a setting whose names, types and terms are those of definitions
pub record AreNamesOf (defs : List Definition) (s : NameSetting) : Type 0 where
  pub valid : IsValidTypes defs
  pub valid_terms : IsValidTerms (types_of defs) defs
  pub once : IsDistinct s.names
  pub kept : (n : ℕ) (x : List ℕ) → slice_get (term_names_met (types_of defs) defs) n ≡ Some x → slice_get s.names n ≡ Some x
  pub types : s.types ≡ type_table defs
  pub terms : s.terms ≡ term_table (types_of defs) defs

module _ (stand : TypesStandAtIds) (have : TermsHaveNames) (defs : List Definition) (s : NameSetting) (h : AreNamesOf defs s) where
  abbrev known : KnownTypes
  known = types_of defs

  abbrev met : List (List ℕ)
  met = type_names_met defs

  abbrev all_met : List (List ℕ)
  all_met = term_names_met known defs

  abbrev functions : List (List ℕ)
  functions = flat_map function_of defs

  -- names that were met are read at their numbers
  read_at : (n : ℕ) (x : List ℕ) → slice_get all_met n ≡ Some x → text_of s.names n ≡ x
  read_at n x e = ap (λ o. unwrap_or o []) (h.kept n x e)

  read_back : (x : List ℕ) → has_name met x ≡ true → text_of s.names (number met x) ≡ x
  read_back x m = read_at (number met x) x (get_kept met (decl_names defs ++ functions) (number met x) x (found met x m))

  -- and tell their numbers
  pub told : (i j : ℕ) (x y : List ℕ) → slice_get s.names i ≡ Some x → slice_get s.names j ≡ Some y → text_of s.names i ≡ text_of s.names j → i ≡ j
  told i j x y a b e =
      let same : x ≡ y = sym (ap (λ o. unwrap_or o []) a) ∙ e ∙ ap (λ o. unwrap_or o []) b in h.once i j y (a ∙ ap Some same) b

  -- 3. types
  record TypeThere (i : ℕ) (e : TypeEntry) : Type 0 where
    t : TypeTree
    here : In (type_trees defs) t
    id : type_id defs t.name.text ≡ Some i
    is : e ≡ entry_at defs met i t t.value

  data EntryThere (i : ℕ) (e : TypeEntry) : Type 0 where
    built_in : e ≡ builtin_type i → EntryThere i e
    defined : TypeThere i e → EntryThere i e

  entry_there : (i : ℕ) (e : TypeEntry) → slice_get (type_table defs) i ≡ Some e → EntryThere i e
  entry_there i e b =
      ⊎_elim (λ f. built_in (builtin_at 0 builtin_names i e f ∙ (let z : 0 + i ≡ i = omega arith in ap builtin_type z)))
      (λ r.
      let u = enumerated (λ p. type_entry defs met p.0 p.1) (type_trees defs) 13 r.0 e r.2 in
      let there : TypeThere (13 + r.0) e = record { t = u.0; here = in_slice (type_trees defs) r.0 u.0 u.1; id = (stand defs r.0 u.0 u.1).1 h.valid; is = u.2 } in
      defined (subst (λ j. TypeThere j e) (sym r.1) there))
      (either_list (builtin_from 0 builtin_names) (map (λ p. type_entry defs met p.0 p.1) (enumerate_from 13 (type_trees defs))) i e b)

  -- the names of a type and those inside it were met
  name_met : (t : TypeTree) → In (type_trees defs) t → has_name met t.name.text ≡ true
  name_met t i = types_met defs t.name.text (named_in (type_names defs) t.name.text (map_in (λ (u : TypeTree). u.name.text) (type_trees defs) t i))

  abbrev AreMet : List (List ℕ) → Type 0
  AreMet xs = (x : List ℕ) → In xs x → has_name met x ≡ true

  inside : (t : TypeTree) → In (type_trees defs) t → AreMet (names_inside t.name.text t.value)
  inside t i x j = inside_met defs x (named_in _ x (in_flat_map (λ (u : TypeTree). names_inside u.name.text u.value) (type_trees defs) t x i j))

  of_type : (i : ℕ) (x : List ℕ) (t : TypeTree) (w : TypeValueTree) → has_name met t.name.text ≡ true → type_text_in s.names (Some (entry_at defs met i t w)) ≡ Some x → t.name.text ≡ x
  of_type i x t (primitive_value name at) m e = absurd (cc)
  of_type i x t (enum_value variants at) m e = sym (read_back t.name.text m) ∙ some_is _ x e
  of_type i x t (struct_value fields at) m e = sym (read_back t.name.text m) ∙ some_is _ x e

  type_named : (i : ℕ) (x : List ℕ) (o : Option TypeEntry) → slice_get (type_table defs) i ≡ o → type_text_in s.names o ≡ Some x → type_id defs x ≡ Some i
  type_named i x None a e = absurd (cc)
  type_named i x (Some entry) a e = by (entry_there i entry a)
    where
      by : EntryThere i entry → type_id defs x ≡ Some i
      by (built_in z) = absurd (let y : None ≡ Some x = ap (λ u. type_text_in s.names (Some u)) (sym z) ∙ e in cc)
      by (defined r) = ap (type_id defs) (sym (of_type i x r.t r.t.value (name_met r.t r.here) (ap (λ u. type_text_in s.names (Some u)) (sym r.is) ∙ e))) ∙ r.id

  pub types_told_so : (i j : ℕ) (x : List ℕ) → type_text s i ≡ Some x → type_text s j ≡ Some x → i ≡ j
  types_told_so i j x a b =
      let at : (k : ℕ) → type_text s k ≡ Some x → type_id defs x ≡ Some k = λ k c. type_named k x (slice_get (type_table defs) k) refl (ap (λ ts. type_text_in s.names (slice_get ts k)) (sym h.types) ∙ c) in
      some_is i j (sym (at i a) ∙ at j b)

  no_integer : (i place : ℕ) (t : TypeTree) (w : TypeValueTree) → int_place_in (Some (entry_at defs met i t w)) ≡ Some place → i ≡ place
  no_integer i place t (primitive_value name at) e = absurd (cc)
  no_integer i place t (enum_value variants at) e = absurd (cc)
  no_integer i place t (struct_value fields at) e = absurd (cc)

  integer_at : (i place : ℕ) (o : Option TypeEntry) → slice_get (type_table defs) (suc i) ≡ o → int_place_in o ≡ Some place → suc i ≡ place
  integer_at i place None a e = absurd (cc)
  integer_at i place (Some entry) a e = by (entry_there (suc i) entry a)
    where
      by : EntryThere (suc i) entry → suc i ≡ place
      by (built_in z) = some_is (suc i) place (ap (λ u. int_place_in (Some u)) (sym z) ∙ e)
      by (defined r) = no_integer (suc i) place r.t r.t.value (ap (λ u. int_place_in (Some u)) (sym r.is) ∙ e)

  integer_is : (i place : ℕ) → int_at s i ≡ Some place → i ≡ place
  integer_is zero place e = absurd (cc)
  integer_is (suc i) place e = integer_at i place (slice_get (type_table defs) (suc i)) refl (ap (λ ts. int_place_in (slice_get ts (suc i))) (sym h.types) ∙ e)

  pub integers_told_so : (i j place : ℕ) → int_at s i ≡ Some place → int_at s j ≡ Some place → i ≡ j
  integers_told_so i j place a b = integer_is i place a ∙ sym (integer_is j place b)

  -- 4. variants
  abbrev variant_name : VariantEntry → List ℕ
  variant_name v = text_of s.names v.name

  of_variants : (ty : List ℕ) (vs : List VariantTree) (i : ℕ) (x : List ℕ) → AreMet (flat_map (variant_names ty) vs)
      → option_map variant_name (slice_get (map (λ p. variant_entry defs met ty p.0 p.1) (enumerate_from 0 vs)) i) ≡ Some x → slice_get (map (λ (v : VariantTree). v.name.text) vs) i ≡ Some x
  of_variants ty vs i x m e =
      let v = mapped_some variant_name (slice_get (map (λ p. variant_entry defs met ty p.0 p.1) (enumerate_from 0 vs)) i) x e in
      let u = enumerated (λ p. variant_entry defs met ty p.0 p.1) vs 0 i v.0 v.1 in
      let name : List ℕ = u.0.name.text in
      let there : In (flat_map (variant_names ty) vs) name = in_flat_map (variant_names ty) vs u.0 name (in_slice vs i u.0 u.1) (inr (inl refl)) in
      get_map (λ (v : VariantTree). v.name.text) vs i u.0 u.1 ∙ ap Some (sym (read_back name (m name there)) ∙ ap variant_name (sym u.2) ∙ v.2)

  of_variant_value : (id : ℕ) (t : TypeTree) (w : TypeValueTree) (i : ℕ) (x : List ℕ) → AreMet (names_inside t.name.text w)
      → option_map variant_name (slice_get (variants_in (Some (entry_at defs met id t w))) i) ≡ Some x → slice_get (variants_of w) i ≡ Some x
  of_variant_value id t (primitive_value name at) i x m e = absurd (cc)
  of_variant_value id t (enum_value variants at) i x m e = of_variants t.name.text variants i x m e
  of_variant_value id t (struct_value fields at) i x m e = absurd (cc)

  variants_at : (ty i j : ℕ) (x : List ℕ) (o : Option TypeEntry) → slice_get (type_table defs) ty ≡ o
      → option_map variant_name (slice_get (variants_in o) i) ≡ Some x → option_map variant_name (slice_get (variants_in o) j) ≡ Some x → i ≡ j
  variants_at ty i j x None q a b = absurd (cc)
  variants_at ty i j x (Some entry) q a b = by (entry_there ty entry q)
    where
      by : EntryThere ty entry → i ≡ j
      by (built_in z) = absurd (let y : None ≡ Some x = ap (λ u. option_map variant_name (slice_get (variants_in (Some u)) i)) (sym z) ∙ a in cc)
      by (defined r) =
          let at : (k : ℕ) → option_map variant_name (slice_get (variants_in (Some entry)) k) ≡ Some x → slice_get (variants_of r.t.value) k ≡ Some x
          = λ k c. of_variant_value ty r.t r.t.value k x (inside r.t r.here) (ap (λ u. option_map variant_name (slice_get (variants_in (Some u)) k)) (sym r.is) ∙ c) in
          All-contains HasDistinctVariants (type_trees defs) r.t h.valid.variants (contains_from_in (type_trees defs) r.t r.here) i j x (at i a) (at j b)

  pub variants_told_so : (ty i j : ℕ) (x : List ℕ) → variant_text s ty i ≡ Some x → variant_text s ty j ≡ Some x → i ≡ j
  variants_told_so ty i j x a b =
      let at : (k : ℕ) → variant_text s ty k ≡ Some x → option_map variant_name (slice_get (variants_in (slice_get (type_table defs) ty)) k) ≡ Some x
      = λ k c. ap (λ ts. option_map variant_name (slice_get (variants_in (slice_get ts ty)) k)) (sym h.types) ∙ c in
      variants_at ty i j x (slice_get (type_table defs) ty) refl (at i a) (at j b)

  -- 5. fields
  abbrev field_name_of : FieldEntry → List ℕ
  field_name_of f = text_of s.names f.name

  of_fields : (fs : List FieldTree) (i : ℕ) (x : List ℕ) → AreMet (map (λ (f : FieldTree). f.name.text) fs) → option_map field_name_of (slice_get (map (λ p. field_entry defs met p.0 p.1) (enumerate_from 0 fs)) i) ≡ Some x
      → slice_get (map (λ (f : FieldTree). f.name.text) fs) i ≡ Some x
  of_fields fs i x m e =
      let v = mapped_some field_name_of (slice_get (map (λ p. field_entry defs met p.0 p.1) (enumerate_from 0 fs)) i) x e in
      let u = enumerated (λ p. field_entry defs met p.0 p.1) fs 0 i v.0 v.1 in
      let name : List ℕ = u.0.name.text in
      let there : In (map (λ (f : FieldTree). f.name.text) fs) name = map_in (λ (f : FieldTree). f.name.text) fs u.0 (in_slice fs i u.0 u.1) in
      get_map (λ (f : FieldTree). f.name.text) fs i u.0 u.1 ∙ ap Some (sym (read_back name (m name there)) ∙ ap field_name_of (sym u.2) ∙ v.2)

  of_field_list : (fields : FieldTrees) (i : ℕ) (x : List ℕ) → AreMet (field_names fields) → field_text_in s.names (field_entries defs met fields) i ≡ Some x → slice_get (field_names fields) i ≡ Some x
  of_field_list unit_fields i x m e = absurd (cc)
  of_field_list (struct_fields fields) i x m e = of_fields fields i x m e
  of_field_list (tuple_fields fields) i x m e = absurd (cc)

  abbrev FieldsTold : FieldEntries → Type 0
  FieldsTold fields = (i j : ℕ) (x : List ℕ) → field_text_in s.names fields i ≡ Some x → field_text_in s.names fields j ≡ Some x → i ≡ j

  list_told : (fields : FieldTrees) → AreMet (field_names fields) → HasDistinctFields fields → FieldsTold (field_entries defs met fields)
  list_told fields m d i j x a b = d i j x (of_field_list fields i x m a) (of_field_list fields j x m b)

  none_told : FieldsTold unit_entries
  none_told i j x a b = absurd (cc)

  variant_fields_told : (ty : List ℕ) (vs : List VariantTree) (variant : ℕ) (o : Option VariantEntry) → slice_get (map (λ p. variant_entry defs met ty p.0 p.1) (enumerate_from 0 vs)) variant ≡ o
      → AreMet (flat_map (variant_names ty) vs) → ((fields : FieldTrees) → In (map (λ (v : VariantTree). v.fields) vs) fields → HasDistinctFields fields) → FieldsTold (fields_of_variant o)
  variant_fields_told ty vs variant None e m d = none_told
  variant_fields_told ty vs variant (Some v) e m d =
      let u = enumerated (λ p. variant_entry defs met ty p.0 p.1) vs 0 variant v e in
      let here : In vs u.0 = in_slice vs variant u.0 u.1 in
      subst (λ (w : VariantEntry). FieldsTold w.fields) (sym u.2) (list_told u.0.fields (λ x k. m x (in_flat_map (variant_names ty) vs u.0 x here (inr (inr k)))) (d u.0.fields (map_in (λ (v : VariantTree). v.fields) vs u.0 here)))

  value_fields_told : (id : ℕ) (t : TypeTree) (w : TypeValueTree) (o : Owner) → AreMet (names_inside t.name.text w) → ((fields : FieldTrees) → In (field_lists_of w) fields → HasDistinctFields fields)
      → FieldsTold (fields_in (Some (entry_at defs met id t w)) o)
  value_fields_told id t (primitive_value name at) (variant_owner ty variant) m d = none_told
  value_fields_told id t (primitive_value name at) (struct_owner ty) m d = none_told
  value_fields_told id t (enum_value variants at) (variant_owner ty variant) m d =
      variant_fields_told t.name.text variants variant (slice_get (map (λ p. variant_entry defs met t.name.text p.0 p.1) (enumerate_from 0 variants)) variant) refl m d
  value_fields_told id t (enum_value variants at) (struct_owner ty) m d = none_told
  value_fields_told id t (struct_value fields at) (variant_owner ty variant) m d = none_told
  value_fields_told id t (struct_value fields at) (struct_owner ty) m d = list_told fields m (d fields (inl refl))

  built_in_told : (place : ℕ) (o : Owner) → FieldsTold (fields_in (Some (builtin_type place)) o)
  built_in_told place (variant_owner ty variant) = none_told
  built_in_told place (struct_owner ty) = none_told

  nothing_told : (o : Owner) → FieldsTold (fields_in None o)
  nothing_told (variant_owner ty variant) = none_told
  nothing_told (struct_owner ty) = none_told

  fields_at : (i : ℕ) (e : Option TypeEntry) (o : Owner) → slice_get (type_table defs) i ≡ e → FieldsTold (fields_in e o)
  fields_at i None o q = nothing_told o
  fields_at i (Some entry) o q = by (entry_there i entry q)
    where
      by : EntryThere i entry → FieldsTold (fields_in (Some entry) o)
      by (built_in z) = subst (λ u. FieldsTold (fields_in (Some u) o)) (sym z) (built_in_told i o)
      by (defined r) =
          subst (λ u. FieldsTold (fields_in (Some u) o)) (sym r.is)
          (value_fields_told i r.t r.t.value o (inside r.t r.here)
          (λ fields k. All-contains HasDistinctFields (field_lists defs) fields h.valid.fields (contains_from_in (field_lists defs) fields (in_flat_map (λ (u : TypeTree). field_lists_of u.value) (type_trees defs) r.t fields r.here k))))

  pub fields_told_so : (o : Owner) (i j : ℕ) (x : List ℕ) → field_text s o i ≡ Some x → field_text s o j ≡ Some x → i ≡ j
  fields_told_so o = subst (λ ts. FieldsTold (fields_in (slice_get ts (type_of_owner o)) o)) (sym h.types) (fields_at (type_of_owner o) (slice_get (type_table defs) (type_of_owner o)) o refl)

  -- 6. terms
  terms_met : (y : List ℕ) → In (term_names known defs) y → has_name all_met y ≡ true
  terms_met y i =
      ⊎_elim (λ d. has_met met (decl_names defs ++ functions) y (has_left (decl_names defs) functions y (named_in (decl_names defs) y d)))
      (λ k. let r = from_names met (flat_map made_by (type_table defs)) y k in has_kept met (decl_names defs ++ functions) y (has_at met r.0 y r.1))
      (in_either (decl_names defs) (filter_map (slice_get met) (flat_map made_by (type_table defs))) y i)

  term_named : (t : ℕ) (a : TermEntry) → slice_get s.terms t ≡ Some a → (y : List ℕ) × (slice_get (term_names known defs) t ≡ Some y) × (text_of s.names a.name ≡ y)
  term_named t a e =
      let at : slice_get (map (λ (x : TermEntry). x.name) (term_table known defs)) t ≡ Some a.name = get_map (λ (x : TermEntry). x.name) (term_table known defs) t a (ap (λ ts. slice_get ts t) (sym h.terms) ∙ e) in
      let y = get_mapped (number all_met) (term_names known defs) t a.name (ap (λ ns. slice_get ns t) (sym (have.1 defs)) ∙ at) in
      let m = terms_met y.0 (in_slice (term_names known defs) t y.0 y.1) in
      (y.0, y.1, ap (text_of s.names) (sym y.2) ∙ read_at (number all_met y.0) y.0 (found all_met y.0 m))

  pub terms_told_so : (t u : ℕ) (a b : TermEntry) → slice_get s.terms t ≡ Some a → slice_get s.terms u ≡ Some b → text_of s.names a.name ≡ text_of s.names b.name → t ≡ u
  terms_told_so t u a b f g e =
      let x = term_named t a f in
      let y = term_named u b g in
      h.valid_terms.distinct t u x.0 x.1 (y.1 ∙ ap Some (sym (sym x.2 ∙ e ∙ y.2)))

  -- 7. functions from outside
  abbrev IsRead : ℕ → Type 0
  IsRead m = (x : List ℕ) × (slice_get s.names m ≡ Some x)

  function_read : (x : List ℕ) → In functions x → IsRead (number all_met x)
  function_read x i =
      let m = has_met met (decl_names defs ++ functions) x (has_right (decl_names defs) functions x (named_in functions x i)) in
      (x, h.kept (number all_met x) x (found all_met x m))

  constructor_read : (m : ℕ) (o : Option ConstructorTree) → ((c : ConstructorTree) → o ≡ Some c → In functions c.function.text)
      → outside_constructor (option_map (λ (c : ConstructorTree). external_constructor (number all_met c.function.text)) o) ≡ Some m → IsRead m
  constructor_read m None f e = absurd (cc)
  constructor_read m (Some c) f e = subst IsRead (some_is _ m e) (function_read c.function.text (f c refl))

  external_read : (m : ℕ) (o : Option ExternalTree) → ((c : ExternalTree) → o ≡ Some c → In functions c.function.text)
      → outside_extractor (option_map (λ (c : ExternalTree). external_extractor (number all_met c.function.text) c.infallible c.at) o) ≡ Some m → IsRead m
  external_read m None f e = absurd (cc)
  external_read m (Some c) f e = subst IsRead (some_is _ m e) (function_read c.function.text (f c refl))

  made_outside : (m : ℕ) (x : List ℕ) → outside_constructor (constructor_kind defs all_met x) ≡ Some m → IsRead m
  made_outside m x e = by (has_rules defs x) e
    where
      there : (c : ConstructorTree) → find (λ (c : ConstructorTree). bytes_eq c.term.text x) (constructor_trees defs) ≡ Some c → In functions c.function.text
      there c g =
          let r = from_flat_map external_constructor_of defs c (found_in (λ (c : ConstructorTree). bytes_eq c.term.text x) (constructor_trees defs) c g) in
          in_flat_map function_of defs r.0 c.function.text r.1 (of_constructor r.0 c r.2)

      by : (b : Bool) → outside_constructor (cond b (Some internal_constructor) (option_map (λ (c : ConstructorTree). external_constructor (number all_met c.function.text)) (find (λ (c : ConstructorTree). bytes_eq c.term.text x) (constructor_trees defs)))) ≡ Some m → IsRead m
      by true e = absurd (cc)
      by false e = constructor_read m (find (λ (c : ConstructorTree). bytes_eq c.term.text x) (constructor_trees defs)) there e

  taken_outside : (m : ℕ) (x : List ℕ) → outside_extractor (extractor_kind defs all_met x) ≡ Some m → IsRead m
  taken_outside m x e = by (has_name (internal_extractors defs) x) e
    where
      there : (c : ExternalTree) → find (λ (c : ExternalTree). bytes_eq c.term.text x) (external_trees defs) ≡ Some c → In functions c.function.text
      there c g =
          let r = from_flat_map external_extractor_of defs c (found_in (λ (c : ExternalTree). bytes_eq c.term.text x) (external_trees defs) c g) in
          in_flat_map function_of defs r.0 c.function.text r.1 (of_extractor r.0 c r.2)

      no_template : (o : Option ExtractorTree) → outside_extractor (option_map (λ (c : ExtractorTree). internal_extractor (extractor_template c)) o) ≡ Some m → IsRead m
      no_template None e = absurd (cc)
      no_template (Some c) e = absurd (cc)

      by : (b : Bool) → outside_extractor (cond b (option_map (λ (c : ExtractorTree). internal_extractor (extractor_template c)) (find (λ (c : ExtractorTree). bytes_eq c.term.text x) (extractor_trees defs)))
          (option_map (λ (c : ExternalTree). external_extractor (number all_met c.function.text) c.infallible c.at) (find (λ (c : ExternalTree). bytes_eq c.term.text x) (external_trees defs)))) ≡ Some m → IsRead m
      by true e = no_template (find (λ (c : ExtractorTree). bytes_eq c.term.text x) (extractor_trees defs)) e
      by false e = external_read m (find (λ (c : ExternalTree). bytes_eq c.term.text x) (external_trees defs)) there e

  of_declared : (d : DeclTree) (i : ℕ) (f : Callee) (m : ℕ) → outside_in (decl_as_term known defs all_met d i).kind f ≡ Some m → IsRead m
  of_declared d i (extractor_of t) m e = taken_outside m d.term.text e
  of_declared d i (constructor_of t) m e = made_outside m d.term.text e

  no_variant : (variant : ℕ) (f : Callee) → outside_in (variant_term variant) f ≡ None
  no_variant variant (extractor_of t) = refl
  no_variant variant (constructor_of t) = refl

  no_struct : (f : Callee) → outside_in struct_term f ≡ None
  no_struct (extractor_of t) = refl
  no_struct (constructor_of t) = refl

  of_made : (ty : TypeEntry) (g : ℕ → TermEntry) (i : ℕ) (f : Callee) (m : ℕ) → In (terms_made ty) g → outside_in (g i).kind f ≡ Some m → IsRead m
  of_made (builtin_type place) g i f m k e = absurd k
  of_made (primitive_type id name at) g i f m k e = absurd k
  of_made (enum_type name id is_extern is_nodebug variants at) g i f m k e =
      let r = in_map (variant_as_term id) variants g k in absurd (let z : None ≡ Some m = sym (no_variant r.0.id f) ∙ ap (λ (u : ℕ → TermEntry). outside_in (u i).kind f) r.2 ∙ e in cc)
  of_made (struct_type name id is_extern is_nodebug fields at) g i f m (inl k) e = absurd (let z : None ≡ Some m = sym (no_struct f) ∙ ap (λ (u : ℕ → TermEntry). outside_in (u i).kind f) k ∙ e in cc)
  of_made (struct_type name id is_extern is_nodebug fields at) g i f m (inr k) e = absurd k

  of_term : (g : ℕ → TermEntry) (i : ℕ) (f : Callee) (m : ℕ) → In (terms_in_order known defs) g → outside_in (g i).kind f ≡ Some m → IsRead m
  of_term g i f m k e =
      ⊎_elim (λ d. let r = in_map (decl_as_term known defs all_met) (decl_trees defs) g d in of_declared r.0 i f m (ap (λ (u : ℕ → TermEntry). outside_in (u i).kind f) r.2 ∙ e))
      (λ d. let r = from_flat_map terms_made (type_table defs) g d in of_made r.0 g i f m r.2 e)
      (in_either (map (decl_as_term known defs all_met) (decl_trees defs)) (flat_map terms_made (type_table defs)) g k)

  outside_read : (f : Callee) (m : ℕ) (o : Option TermEntry) → slice_get (term_table known defs) (term_of f) ≡ o → outside_of_entry o f ≡ Some m → IsRead m
  outside_read f m None q e = absurd (cc)
  outside_read f m (Some t) q e =
      let r = enumerated (λ (p : ℕ × (ℕ → TermEntry)). p.1 p.0) (terms_in_order known defs) 0 (term_of f) t q in
      of_term r.0 (0 + term_of f) f m (in_slice (terms_in_order known defs) (term_of f) r.0 r.1) (ap (λ (u : TermEntry). outside_in u.kind f) (sym r.2) ∙ e)

  pub outside_told_so : (f g : Callee) (m n : ℕ) → outside_of (program_in s) f ≡ Some m → outside_of (program_in s) g ≡ Some n → text_of s.names m ≡ text_of s.names n → m ≡ n
  outside_told_so f g m n a b e =
      let at : (c : Callee) (k : ℕ) → outside_of (program_in s) c ≡ Some k → IsRead k
      = λ c k d. outside_read c k (slice_get (term_table known defs) (term_of c)) refl (ap (λ ts. outside_of_entry (slice_get ts (term_of c)) c) (sym h.terms) ∙ d) in
      let x = at f m a in
      let y = at g n b in
      told m n x.0 y.0 x.1 y.1 e
