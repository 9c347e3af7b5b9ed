-- The types of the arguments and results of terms are types.
use Rattle.std.proofs.Common.{◌≡◌, ℕ, suc, ◌+◌, ◌<◌, List, [], ◌∷◌, ◌++◌, length, map, take, Some, slice_get, refl, subst, arith}
use Rattle.std.proofs.lemmas.Grind.{common_steps}
use Rattle.std.specs.List.{enumerate_from, flat_map, AllByRecursion}
use Rattle.std.proofs.lemmas.List.Elements.{All-from_recursion, recursion_from_All}
use Rattle.std.proofs.lemmas.Option.{slice_get_within}
use Rattle.model.specs.lists.Syntax.{Name, DeclTree, Definition}
use Rattle.model.specs.rules.Values.{field_types}
use Rattle.model.specs.lists.Tables.{VariantEntry, TypeEntry, TermEntry}
use Rattle.model.specs.lists.TypeTable.{builtin_names, builtin_from}
use Rattle.model.specs.lists.TermTable.{decl_trees, term_names_met, variant_as_term, terms_made, decl_as_term, terms_in_order}
use Rattle.model.specs.lists.KnownTypes.{KnownTypes, types_of, known_type, entry_id, types_inside, StandAtIds}
use Rattle.laws_typing.specs.TableLaws.{AreOfTypes, TermsAreOfTypes}
use Rattle.model.proofs.Joined.{all_joined, all_left, all_right}
use Rattle.laws_typing.proofs.WellFormed.{place_below, as_many, fields_are_types, own_ids}

-- a fact of the types of each term, whatever id it is given
abbrev AreAllOf : (ℕ → Type 0) → List (ℕ → TermEntry) → Type 0
AreAllOf P [] = Unit {0}
AreAllOf P (f ∷ fs) = ((id : ℕ) → AllByRecursion P ((f id).ret_ty ∷ (f id).arg_tys)) × AreAllOf P fs

module _ (P : ℕ → Type 0) where
  both_of : (fs gs : List (ℕ → TermEntry)) → AreAllOf P fs → AreAllOf P gs → AreAllOf P (fs ++ gs)
  both_of [] gs a b = b
  both_of (f ∷ fs) gs a b = (a.0, both_of fs gs a.1 b)

  table_of : (n : ℕ) (fs : List (ℕ → TermEntry)) → AreAllOf P fs → AllByRecursion P (flat_map (λ e. e.ret_ty ∷ e.arg_tys) (map (λ p. p.1 p.0) (enumerate_from n fs)))
  table_of n (f ∷ fs) a = grind (arith, common_steps, table_of (n + 1) fs a.1, all_joined P ((f n).ret_ty ∷ (f n).arg_tys), all_joined)
  table_of n [] a = tt

  variants_of_types : (ty : ℕ) (vs : List VariantEntry) → P ty → AllByRecursion P (flat_map (λ v. field_types v.fields) vs) → AreAllOf P (map (variant_as_term ty) vs)
  variants_of_types ty (v ∷ vs) h a = grind (arith, common_steps, variants_of_types ty vs h, all_left P (field_types v.fields), all_right P (field_types v.fields), all_left, all_right)
  variants_of_types ty [] h a = tt

  made_of_types : (t : TypeEntry) → P (entry_id t) → AllByRecursion P (types_inside t) → AreAllOf P (terms_made t)
  made_of_types t h a = grind (arith, common_steps, variants_of_types)

  all_of_types : (ts : List TypeEntry) → AllByRecursion (λ t. P (entry_id t)) ts → AllByRecursion P (flat_map types_inside ts) → AreAllOf P (flat_map terms_made ts)
  all_of_types (t ∷ ts) h a = grind (arith, common_steps, all_of_types ts h.1 (all_right P (types_inside t) (flat_map types_inside ts) a), both_of, made_of_types, all_left, all_right)
  all_of_types [] h a = tt

  arguments_of_types : (k : KnownTypes) → ((n : Name) → P (known_type k n)) → (ns : List Name) → AllByRecursion P (map (known_type k) ns)
  arguments_of_types k h [] = tt
  arguments_of_types k h (n ∷ ns) = (h n, arguments_of_types k h ns)

  declared_of_types : (k : KnownTypes) (defs : List Definition) → ((n : Name) → P (known_type k n)) → (ds : List DeclTree) → AreAllOf P (map (decl_as_term k defs (term_names_met k defs)) ds)
  declared_of_types k defs h [] = tt
  declared_of_types k defs h (d ∷ ds) = ((λ id. (h d.ret_ty, arguments_of_types k h d.arg_tys)), declared_of_types k defs h ds)

-- the ids of types that stand at their ids are below their count
ids_below : (all ts : List TypeEntry) (n : ℕ) → ((i : ℕ) (t : TypeEntry) → slice_get ts i ≡ Some t → slice_get all (n + i) ≡ Some t) → StandAtIds all → AllByRecursion (λ t. entry_id t < length all) ts
ids_below all [] n h s = tt
ids_below all (t ∷ ts) n h s =
    let here = h 0 t refl in
    let own = s (n + 0) t here in
    let l = slice_get_within all (n + 0) t here in
    (omega arith, ids_below all ts (suc n) (λ i u e. (let same : n + suc i ≡ suc n + i = omega arith in subst (λ j. slice_get all j ≡ Some u) same (h (suc i) u e))) s)

known_below : (k : KnownTypes) → length k.type_names ≡ length k.types → 0 < length k.types → (n : Name) → known_type k n < length k.types
known_below k e l n = grind (arith, common_steps, place_below k.type_names 0 n.text, place_below)

-- there is a type where the first ones are the built-in ones
some_type : (ts : List TypeEntry) → take 13 ts ≡ builtin_from 0 builtin_names → 0 < length ts
some_type ts e = grind (arith, common_steps)

of_types : (k : KnownTypes) (defs : List Definition) → length k.type_names ≡ length k.types → 0 < length k.types → StandAtIds k.types → AllByRecursion (λ ty. ty < length k.types) (flat_map types_inside k.types) → AreOfTypes k defs
of_types k defs e l s a =
    All-from_recursion (λ ty. ty < length k.types) (flat_map (λ e. e.ret_ty ∷ e.arg_tys) (map (λ p. p.1 p.0) (enumerate_from 0 (terms_in_order k defs))))
    (table_of (λ ty. ty < length k.types) 0 (terms_in_order k defs) (both_of (λ ty. ty < length k.types) (map (decl_as_term k defs (term_names_met k defs)) (decl_trees defs)) (flat_map terms_made k.types)
    (declared_of_types (λ ty. ty < length k.types) k defs (known_below k e l) (decl_trees defs))
    (all_of_types (λ ty. ty < length k.types) k.types (ids_below k.types k.types 0 (λ i t h. (let same : i ≡ 0 + i = omega arith in subst (λ j. slice_get k.types j ≡ Some t) same h)) s) a)))

pub terms_are_of_types_lem : TermsAreOfTypes
terms_are_of_types_lem = (
  (λ k defs w. of_types k defs w.as_many_names (some_type k.types w.builtins) w.ids (recursion_from_All (λ ty. ty < length k.types) (flat_map types_inside k.types) w.types_in_range)),
  (λ defs. of_types (types_of defs) defs (as_many defs) (omega arith) (own_ids defs) (fields_are_types defs)),
)
