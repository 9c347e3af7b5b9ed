-- More names leave types readable, and the terms of a list valid or not.
use Rattle.std.proofs.Common.{◌≡◌, ◌↔◌, ℕ, ◌<◌, List, [], ◌∷◌, ◌++◌, length, map, slice_get, is_some, flat_map, All, IsTrue, refl, sym, ap, ◌∙◌, subst, inl, inr, arith}
use Rattle.std.proofs.lemmas.Grind.{common_steps}
use Rattle.std.proofs.Math.Path.{ap₂}
use Rattle.std.specs.List.{cons_option, filter_map}
use Rattle.std.proofs.lemmas.List.{length-append}
use Rattle.std.proofs.lemmas.Option.{same_Some}
use Rattle.model.specs.lists.Syntax.{Definition, DeclTree, ExtractorTree}
use Rattle.model.specs.lists.Names.{IsDistinct}
use Rattle.model.specs.lists.Tables.{VariantEntry, TypeEntry, enum_type, struct_type}
use Rattle.model.specs.lists.TypeTable.{place_from, IsKnownType}
use Rattle.model.specs.lists.KnownTypes.{KnownTypes, entry_numbers, variant_numbers, field_numbers}
use Rattle.model.specs.lists.TermTable.{decl_names, decl_trees, made_by, term_names, terms_in, extractor_trees, IsValidTerms}
use Rattle.model.specs.claims.Environments.{TypesRead, AreReadable, TypeEnvironment, IsLeftByRefusal}
use Rattle.model.proofs.Elements.{In, contains_from_in, in_left, in_right, in_either}
use Rattle.model.proofs.Members.{all_members, get_within}
use Rattle.model.proofs.Names.{has_left}
use Rattle.model.proofs.Positions.{get_front}
use Rattle.laws_typing.specs.AfterRefusals.{with_more, RefusedEnvironmentsCanBeReadAgain}

-- 1. the names of the terms that types make are read alike
made_inside : (t : TypeEntry) (n : ℕ) → In (made_by t) n → In (entry_numbers t) n
made_inside (struct_type name id is_extern is_nodebug fields at) n (inl e) = inl e
made_inside (enum_type name id is_extern is_nodebug variants at) n i = inr (by variants i)
  where
    by : (vs : List VariantEntry) → In (map (λ v. v.full_name) vs) n → In (flat_map variant_numbers vs) n
    by [] j = absurd j
    by (v ∷ vs) (inl e) = inl e
    by (v ∷ vs) (inr j) = inr (inr (in_right (field_numbers v.fields) (flat_map variant_numbers vs) n (by vs j)))
made_inside t n i = grind (arith, common_steps)

all_made_inside : (ts : List TypeEntry) (n : ℕ) → In (flat_map made_by ts) n → In (flat_map entry_numbers ts) n
all_made_inside (t ∷ ts) n i = grind (arith, common_steps, all_made_inside ts n, in_either, in_left, made_inside, in_right)
all_made_inside [] n i = absurd i

read_alike : (names more : List (List ℕ)) (ns : List ℕ) → ((n : ℕ) → In ns n → n < length names) → filter_map (slice_get names) ns ≡ filter_map (slice_get (names ++ more)) ns
read_alike names more [] h = refl
read_alike names more (n ∷ ns) h =
    let x = get_within names n (h n (inl refl)) in
    ap₂ cons_option (x.1 ∙ sym (get_front names more n x.0 x.1)) (read_alike names more ns (λ i k. h i (inr k)))

-- 2. terms that are valid by the names of terms are so by the same names
moved : (k l : KnownTypes) (defs : List Definition) → k.type_names ≡ l.type_names → term_names k defs ≡ term_names l defs → IsValidTerms k defs → IsValidTerms l defs
moved k l defs types names h = record {
  distinct = subst IsDistinct names h.distinct;
  types_of_arguments = subst (λ (ns : List (List ℕ)). All (λ (d : DeclTree). All (IsKnownType ns) d.arg_tys) (decl_trees defs)) types h.types_of_arguments;
  types_of_results = subst (λ (ns : List (List ℕ)). All (λ (d : DeclTree). IsKnownType ns d.ret_ty) (decl_trees defs)) types h.types_of_results;
  marks = h.marks;
  roots = h.roots;
  terms_of_extractors = h.terms_of_extractors;
  terms_of_externals = h.terms_of_externals;
  terms_of_constructors = h.terms_of_constructors;
  rules_or_function = h.rules_or_function;
  one_constructor = h.one_constructor;
  one_extractor = h.one_extractor;
  plain_terms = h.plain_terms;
  known_terms = subst (λ (ns : List (List ℕ)). All (λ (x : ExtractorTree). All (λ n. IsTrue (is_some (place_from 0 n.text ns))) (terms_in x.template)) (extractor_trees defs)) names h.known_terms;
  no_macro_args = h.no_macro_args;
  declared_arguments = h.declared_arguments;
  acyclic = h.acyclic;
  known_converters = grind (arith, common_steps);
  one_converter = h.one_converter;
}

-- 3. types with more names
-- types that can be read, and further names that were met since: none has two numbers
pub record TypesReadAgain : Type 0 where
  pub types : TypesRead
  pub more : List (List ℕ)
  pub readable : AreReadable types
  pub once : IsDistinct (types.known.names ++ more)

module _ (a : TypesReadAgain) where
  abbrev k : KnownTypes
  k = a.types.known

  abbrev pub later : TypesRead
  later = with_more a.types a.more

  longer : (n : ℕ) → n < length k.names → n < length (k.names ++ a.more)
  longer n l = let same = length-append k.names a.more in omega (arith, l, same)

  pub still_readable : AreReadable later
  still_readable = record {
    well_formed = record {
      names_distinct = a.once;
      builtins = a.readable.well_formed.builtins;
      ids = a.readable.well_formed.ids;
      type_names_distinct = a.readable.well_formed.type_names_distinct;
      as_many_names = a.readable.well_formed.as_many_names;
      names_of_types_met = grind (arith, common_steps, all_members, has_left);
      types_in_range = a.readable.well_formed.types_in_range;
      numbers_in_range = grind (arith, common_steps, all_members, longer);
    };
    variants = a.readable.variants;
    names_of_constants = grind (arith, common_steps, all_members, longer);
    types_of_constants = a.readable.types_of_constants;
  }

  -- a name of a term that a type makes is one of those that were met before
  pub made_below : (n : ℕ) → In (flat_map made_by k.types) n → n < length k.names
  made_below n i = grind (arith, common_steps, contains_from_in (flat_map entry_numbers k.types) n (all_made_inside k.types n i), all_made_inside k.types n i)

  pub names_stay : (defs : List Definition) → term_names k defs ≡ term_names later.known defs
  names_stay defs = ap (λ l. decl_names defs ++ l) (read_alike k.names a.more (flat_map made_by k.types) made_below)

  pub valid_alike : (defs : List Definition) → IsValidTerms k defs ↔ IsValidTerms later.known defs
  valid_alike defs = (moved k later.known defs refl (names_stay defs), moved later.known k defs refl (sym (names_stay defs)))

-- the names of an environment that is left stand once
pub more_once : (e : TypesRead) (env : TypeEnvironment) (left : IsLeftByRefusal e env) → IsDistinct (e.known.names ++ left.more)
more_once e env left =
    let inverse = left.types.inverse in subst IsDistinct left.types.names (λ j k x a b. same_Some j k (sym (inverse.numbered x j a) ∙ inverse.numbered x k b))

-- so what a refusal leaves can be read again
abbrev pub left_again : (e : TypesRead) (env : TypeEnvironment) → AreReadable e → IsLeftByRefusal e env → TypesReadAgain
left_again e env r left = record { types = e; more = left.more; readable = r; once = more_once e env left }

pub refused_environments_can_be_read_again_lem : RefusedEnvironmentsCanBeReadAgain
refused_environments_can_be_read_again_lem e env r left =
    let a = left_again e env r left in
    let valid = valid_alike a in
    record {
      readable = still_readable a;
      shown = left.types;
      terms = valid;
      refused = λ defs errors. (
        (λ h. record { some_error = h.some_error; forms = h.forms; not_valid = λ v. h.not_valid ((valid defs).1 v) }),
        (λ h. record { some_error = h.some_error; forms = h.forms; not_valid = λ v. h.not_valid ((valid defs).0 v) }),
      );
    }
