-- What holds of the term table of all lists of definitions.
use Rattle.std.proofs.Common.{◌≡◌, ℕ, suc, ◌+◌, ◌<◌, true, List, [], ◌∷◌, ◌++◌, length, get_or, map, Some, slice_get, refl, sym, ap, ◌∙◌, arith}
use Rattle.std.proofs.lemmas.Grind.{common_steps}
use Rattle.std.specs.List.{enumerate_from, flat_map, filter_map, cons_option, AllByRecursion}
use Rattle.std.proofs.lemmas.List.Concat.{flat_map-append}
use Rattle.std.proofs.lemmas.List.Elements.{recursion_from_All}
use Rattle.std.proofs.lemmas.Option.{same_Some, slice_get-get_or}
use Rattle.model.specs.lists.Syntax.{VariantTree, TypeTree, TypeValueTree, DeclTree, Definition}
use Rattle.model.specs.lists.Names.{number, has_name, with_names, IsDistinct}
use Rattle.model.specs.lists.Tables.{VariantEntry, TypeEntry, TermEntry}
use Rattle.model.specs.lists.TypeTable.{builtin_names, builtin_from, type_trees, full_name, field_names, variant_names, names_inside, type_names_met, entry_at, type_entry, type_table, variant_entry}
use Rattle.model.specs.lists.TermTable.{decl_trees, decl_names, function_of, made_by, term_names, term_names_met, variant_as_term, terms_made, decl_as_term, terms_in_order}
use Rattle.model.specs.lists.KnownTypes.{KnownTypes, types_of, field_numbers, variant_numbers, entry_numbers}
use Rattle.laws_typing.specs.TableLaws.{NamesStandOnce, NumbersStay, TermsAreFound, TermsStandAtIds, HaveNumbersOfNames, TermsHaveNames, names_made, TypesMakeTerms}
use Rattle.model.proofs.Joined.{all_joined, all_left, all_right}
use Rattle.model.proofs.Names.{found, has_at, get_kept, distinct_names}
use Rattle.laws_typing.proofs.TypeLaws.{type_names_distinct, place_at}
use Rattle.laws_typing.proofs.WellFormed.{names_of_types_met, names_inside_met, numbers_below}
use Rattle.std.proofs.lemmas.List.{map-append}

-- terms whose ids are not known yet, by the numbers of their names; each takes the id that it is given
abbrev AreNamed : List (ℕ → TermEntry) → List ℕ → Type 0
AreNamed [] [] = Unit {0}
AreNamed [] (n ∷ ns) = ⊥
AreNamed (f ∷ fs) [] = ⊥
AreNamed (f ∷ fs) (n ∷ ns) = ((id : ℕ) → ((f id).name ≡ n) × ((f id).id ≡ id)) × AreNamed fs ns

both_named : (fs gs : List (ℕ → TermEntry)) (ns ms : List ℕ) → AreNamed fs ns → AreNamed gs ms → AreNamed (fs ++ gs) (ns ++ ms)
both_named (f ∷ fs) gs (n ∷ ns) ms a b = (a.0, both_named fs gs ns ms a.1 b)
both_named fs gs ns ms a b = grind (arith, common_steps)

names_are : (fs : List (ℕ → TermEntry)) (ns : List ℕ) (k : ℕ) → AreNamed fs ns → map (λ e. e.name) (map (λ p. p.1 p.0) (enumerate_from k fs)) ≡ ns
names_are (f ∷ fs) (n ∷ ns) k a = grind (arith, common_steps, names_are fs ns (k + 1) a.1)
names_are fs ns k a = grind (arith, common_steps)

ids_are : (fs : List (ℕ → TermEntry)) (ns : List ℕ) (k i m : ℕ) (e : TermEntry) → AreNamed fs ns → k + i ≡ m → slice_get (map (λ p. p.1 p.0) (enumerate_from k fs)) i ≡ Some e → e.id ≡ m
ids_are (f ∷ fs) (n ∷ ns) k (suc i) m e a q h = ids_are fs ns (k + 1) i m e a.1 (omega arith) h
ids_are fs ns k i m e a q h = grind (arith, common_steps, same_Some)

-- the terms that types make, by the numbers of their names
variants_named : (ty : ℕ) (vs : List VariantEntry) → AreNamed (map (variant_as_term ty) vs) (map (λ v. v.full_name) vs)
variants_named ty [] = tt
variants_named ty (v ∷ vs) = ((λ id. (refl, refl)), variants_named ty vs)

all_made_named : (ts : List TypeEntry) → AreNamed (flat_map terms_made ts) (flat_map made_by ts)
all_made_named [] = tt
all_made_named (t ∷ ts) = grind (arith, all_made_named ts, both_named, variants_named)

declared_named : (k : KnownTypes) (defs : List Definition) (ds : List DeclTree) → AreNamed (map (decl_as_term k defs (term_names_met k defs)) ds) (map (number (term_names_met k defs)) (map (λ d. d.term.text) ds))
declared_named k defs [] = tt
declared_named k defs (d ∷ ds) = ((λ id. (refl, refl)), declared_named k defs ds)

-- the numbers of the names of all terms
abbrev term_numbers : KnownTypes → List Definition → List ℕ
term_numbers k defs = map (number (term_names_met k defs)) (decl_names defs) ++ flat_map made_by k.types

all_named : (k : KnownTypes) (defs : List Definition) → AreNamed (terms_in_order k defs) (term_numbers k defs)
all_named k defs =
    both_named (map (decl_as_term k defs (term_names_met k defs)) (decl_trees defs)) (flat_map terms_made k.types) (map (number (term_names_met k defs)) (decl_names defs)) (flat_map made_by k.types) (declared_named k defs (decl_trees defs)) (all_made_named k.types)

pub terms_stand_at_ids_lem : TermsStandAtIds
terms_stand_at_ids_lem k defs n e h = ids_are (terms_in_order k defs) (term_numbers k defs) 0 n n e (all_named k defs) (omega arith) h

-- a number of a name that was met, and the number of what stands there
pub number_back : (m : List (List ℕ)) (n : ℕ) (x : List ℕ) → IsDistinct m → slice_get m n ≡ Some x → number m x ≡ n
number_back m n x d h = d (number m x) n x (found m x (has_at m n x h)) h

numbers_back : (ns ys : List (List ℕ)) (ms : List ℕ) → IsDistinct ns → AllByRecursion (λ n. n < length ns) ms → map (number (with_names ns ys)) (filter_map (slice_get ns) ms) ≡ ms
numbers_back ns ys [] d a = refl
numbers_back ns ys (n ∷ ms) d a =
    let here = slice_get-get_or ns n [] a.0 in
    ap (λ o. map (number (with_names ns ys)) (cons_option o (filter_map (slice_get ns) ms))) here
    ∙ ap (λ m. m ∷ map (number (with_names ns ys)) (filter_map (slice_get ns) ms)) (number_back (with_names ns ys) n (get_or ns n []) (distinct_names ns ys d) (get_kept ns ys n (get_or ns n []) here))
    ∙ ap (λ l. n ∷ l) (numbers_back ns ys ms d a.1)

-- the terms have the numbers of their names where names stand once and those that types make were met
terms_have_numbers : (k : KnownTypes) (defs : List Definition) → IsDistinct k.names → AllByRecursion (λ n. n < length k.names) (flat_map made_by k.types) → HaveNumbersOfNames k defs
terms_have_numbers k defs d a =
    names_are (terms_in_order k defs) (term_numbers k defs) 0 (all_named k defs)
    ∙ ap (λ l. map (number (term_names_met k defs)) (decl_names defs) ++ l) (sym (numbers_back k.names (decl_names defs ++ flat_map function_of defs) (flat_map made_by k.types) d a))
    ∙ sym (map-append (number (term_names_met k defs)) (decl_names defs) (filter_map (slice_get k.names) (flat_map made_by k.types)))

-- the names that make terms are among those of a type
module _ (P : ℕ → Type 0) where
  full_names_only : (vs : List VariantEntry) → AllByRecursion P (flat_map variant_numbers vs) → AllByRecursion P (map (λ v. v.full_name) vs)
  full_names_only [] a = tt
  full_names_only (v ∷ vs) a = (a.0, full_names_only vs (all_right P (field_numbers v.fields) (flat_map variant_numbers vs) a.1.1))

  made_only : (t : TypeEntry) → AllByRecursion P (entry_numbers t) → AllByRecursion P (made_by t)
  made_only t a = grind (arith, common_steps, full_names_only)

  pub all_made_only : (ts : List TypeEntry) → AllByRecursion P (flat_map entry_numbers ts) → AllByRecursion P (flat_map made_by ts)
  all_made_only (t ∷ ts) a = grind (arith, common_steps, all_made_only ts (all_right P (entry_numbers t) (flat_map entry_numbers ts) a), all_joined, made_only, all_left, all_right)
  all_made_only [] a = tt

pub terms_have_names_lem : TermsHaveNames
terms_have_names_lem = (
  (λ k defs w. terms_have_numbers k defs w.names_distinct (all_made_only (λ n. n < length k.names) k.types (recursion_from_All (λ n. n < length k.names) (flat_map entry_numbers k.types) w.numbers_in_range))),
  (λ defs. terms_have_numbers (types_of defs) defs (type_names_distinct defs) (all_made_only (λ n. n < length (type_names_met defs)) (type_table defs) (numbers_below defs))),
)

pub names_stand_once_lem : NamesStandOnce
names_stand_once_lem = grind (arith, common_steps, type_names_distinct, distinct_names)

pub numbers_stay_lem : NumbersStay
numbers_stay_lem k defs n x h = get_kept k.names (decl_names defs ++ flat_map function_of defs) n x h

pub terms_are_found_lem : TermsAreFound
terms_are_found_lem k defs v i x h = place_at (term_names k defs) 0 i i x v.distinct (omega arith) h

-- the terms that the types of a list make
variants_make : (defs : List Definition) (ns : List (List ℕ)) (ty : List ℕ) (i : ℕ) (vs : List VariantTree) → map (λ v. v.full_name) (map (λ p. variant_entry defs ns ty p.0 p.1) (enumerate_from i vs)) ≡ map (number ns) (map (λ v. full_name ty v.name.text) vs)
variants_make defs ns ty i [] = refl
variants_make defs ns ty i (v ∷ vs) = ap (λ l. number ns (full_name ty v.name.text) ∷ l) (variants_make defs ns ty (i + 1) vs)

type_makes : (defs : List Definition) (ns : List (List ℕ)) (id : ℕ) (t : TypeTree) (w : TypeValueTree) → made_by (entry_at defs ns id t w) ≡ map (number ns) (names_made t.name.text w)
type_makes defs ns id t w = grind (arith, common_steps, variants_make defs ns t.name.text 0)

types_make : (defs : List Definition) (ns : List (List ℕ)) (id : ℕ) (ts : List TypeTree) → flat_map made_by (map (λ p. type_entry defs ns p.0 p.1) (enumerate_from id ts)) ≡ map (number ns) (flat_map (λ t. names_made t.name.text t.value) ts)
types_make defs ns id (t ∷ ts) = grind (arith, common_steps, types_make defs ns (id + 1) ts, type_makes, map-append)
types_make defs ns id [] = refl

-- names that were met are read back from their numbers
names_back : (ns xs : List (List ℕ)) → AllByRecursion (λ x. has_name ns x ≡ true) xs → filter_map (slice_get ns) (map (number ns) xs) ≡ xs
names_back ns [] a = refl
names_back ns (x ∷ xs) a = ap (λ o. cons_option o (filter_map (slice_get ns) (map (number ns) xs))) (found ns x a.0) ∙ ap (λ l. x ∷ l) (names_back ns xs a.1)

module _ (defs : List Definition) where
  abbrev IsMet : List ℕ → Type 0
  IsMet x = has_name (type_names_met defs) x ≡ true

  full_names_met : (ty : List ℕ) (vs : List VariantTree) → AllByRecursion IsMet (flat_map (variant_names ty) vs) → AllByRecursion IsMet (map (λ v. full_name ty v.name.text) vs)
  full_names_met ty [] a = tt
  full_names_met ty (v ∷ vs) a = (a.0, full_names_met ty vs (all_right IsMet (field_names v.fields) (flat_map (variant_names ty) vs) a.1.1))

  all_made_met : (ts : List TypeTree) → AllByRecursion IsMet (map (λ t. t.name.text) ts) → AllByRecursion IsMet (flat_map (λ t. names_inside t.name.text t.value) ts) → AllByRecursion IsMet (flat_map (λ t. names_made t.name.text t.value) ts)
  all_made_met (t ∷ ts) h a = grind (arith, common_steps, all_made_met ts h.1, all_joined, all_left, all_right, full_names_met)
  all_made_met [] h a = tt

  pub own_names_made : filter_map (slice_get (type_names_met defs)) (flat_map made_by (type_table defs)) ≡ flat_map (λ t. names_made t.name.text t.value) (type_trees defs)
  own_names_made =
      ap (filter_map (slice_get (type_names_met defs))) (flat_map-append made_by (builtin_from 0 builtin_names) (map (λ p. type_entry defs (type_names_met defs) p.0 p.1) (enumerate_from 13 (type_trees defs))) ∙ types_make defs (type_names_met defs) 13 (type_trees defs))
      ∙ names_back (type_names_met defs) (flat_map (λ t. names_made t.name.text t.value) (type_trees defs)) (all_made_met (type_trees defs) (names_of_types_met defs) (names_inside_met defs))

pub types_make_terms_lem : TypesMakeTerms
types_make_terms_lem defs = ap (λ l. decl_names defs ++ l) (own_names_made defs)
