-- The judge of types that are handed in is exact.
use Rattle.std.proofs.Common.{◌≡◌, ℕ, suc, ◌+◌, ◌<◌, ◌==◌, Bool, true, false, ◌&&◌, nat_lt, List, [], ◌∷◌, length, take, Some, slice_get, Decides, IsTrue, refl, ap, arith}
use Rattle.std.proofs.lemmas.Grind.{common_steps}
use Rattle.std.specs.List.{flat_map}
use Rattle.std.proofs.lemmas.Bool.{false≢true}
use Rattle.std.proofs.lemmas.Bool.Decides.{Decides-like, Decides-eqb, Decides-ltb, not_from_Decides}
use Rattle.std.proofs.lemmas.Option.{none-some}
use Rattle.model.specs.lists.Names.{has_name}
use Rattle.model.specs.lists.Tables.{VariantEntry, TypeEntry, builtin_type, primitive_type, enum_type, struct_type}
use Rattle.model.specs.lists.TypeTable.{builtin_names, builtin_from}
use Rattle.model.specs.lists.KnownTypes.{KnownTypes, entry_id, types_inside, entry_numbers, IsWellFormed}
use Rattle.model.specs.lists.KnownJudge.{is_builtin, begin_with_builtins, stand_at_ids, are_well_formed}
use Rattle.model.specs.claims.Environments.{variants_in, HasVariantsAtIds}
use Rattle.model.specs.claims.ReadJudge.{variants_at_ids, are_readable}
use Rattle.laws_typing.specs.JudgeLaws.{KnownTypesAreJudged, ReadTypesAreJudged}
use Rattle.laws_typing.proofs.DistinctLists.{names_differ}
use Rattle.laws_typing.proofs.JudgedTypes.{itself, both, each, below}

-- the place of a built-in type
place_of : TypeEntry → ℕ
place_of (builtin_type place) = place
place_of _ = 0

builtin_there : (n : ℕ) (t : TypeEntry) → Decides (is_builtin n t) (t ≡ builtin_type n)
unfolding place_of
builtin_there n (builtin_type place) = (λ h. ap builtin_type ((Decides-eqb place n).0 h), λ e. (Decides-eqb place n).1 (ap place_of e))
builtin_there n (primitive_type id name at) = (λ h. absurd (false≢true h), λ e. cc)
builtin_there n (enum_type name id is_extern is_nodebug variants at) = (λ h. absurd (false≢true h), λ e. cc)
builtin_there n (struct_type name id is_extern is_nodebug fields at) = (λ h. absurd (false≢true h), λ e. cc)

begins : (n : ℕ) (xs : List (List ℕ)) (types : List TypeEntry) → Decides (begin_with_builtins n xs types) (take (length xs) types ≡ builtin_from n xs)
begins n (x ∷ xs) (t ∷ types) = grind (arith, common_steps, begins (suc n) xs types, both)
begins n xs types = grind (arith, common_steps)

-- a test whether the ids of things count up from a number
record CountTest (X : Type 0) : Type 0 where
  id : X → ℕ
  count_up : ℕ → List X → Bool
  none : (n : ℕ) → count_up n [] ≡ true
  more : (n : ℕ) (x : X) (xs : List X) → count_up n (x ∷ xs) ≡ ((id x == n) && count_up (suc n) xs)

module _ {X : Type 0} (t : CountTest X) where
  abbrev Counts : ℕ → List X → Type 0
  Counts n xs = (i : ℕ) (x : X) → slice_get xs i ≡ Some x → t.id x ≡ n + i

  one_less : (n : ℕ) (x : X) (xs : List X) → Counts n (x ∷ xs) → (t.id x ≡ n) × Counts (suc n) xs
  one_less n x xs h = ((let first = h 0 x refl in omega arith), λ i y e. (let later = h (suc i) y e in omega arith))

  counts : (n : ℕ) (xs : List X) → Decides (t.count_up n xs) (Counts n xs)
  counts n [] = ((λ _ i x h. absurd (none-some x h)), λ _. t.none n)
  counts n (x ∷ xs) = grind (arith, common_steps, counts (suc n) xs, one_less n x xs)

  places_count : (xs : List X) → Decides (t.count_up 0 xs) ((i : ℕ) (x : X) → slice_get xs i ≡ Some x → t.id x ≡ i)
  places_count xs = grind (arith, common_steps, counts)

abbrev types_count : CountTest TypeEntry
types_count = record { id = entry_id; count_up = stand_at_ids; none = λ _. refl; more = λ _ _ _. refl }

abbrev variants_count : CountTest VariantEntry
variants_count = record { id = λ v. v.id; count_up = variants_at_ids; none = λ _. refl; more = λ _ _ _. refl }

pub known_types_are_judged_lem : KnownTypesAreJudged
known_types_are_judged_lem k =
    Decides-like (are_well_formed k)
    (λ h. record {
      names_distinct = h.0.0.0.0.0.0.0;
      builtins = h.0.0.0.0.0.0.1;
      ids = h.0.0.0.0.0.1;
      type_names_distinct = h.0.0.0.0.1;
      as_many_names = h.0.0.0.1;
      names_of_types_met = h.0.0.1;
      types_in_range = h.0.1;
      numbers_in_range = h.1;
    })
    (λ w. (((((((w.names_distinct, w.builtins), w.ids), w.type_names_distinct), w.as_many_names), w.names_of_types_met), w.types_in_range), w.numbers_in_range))
    (both (both (both (both (both (both (both
    (names_differ k.names)
    (begins 0 builtin_names k.types))
    (places_count types_count k.types))
    (names_differ k.type_names))
    (Decides-eqb (length k.type_names) (length k.types)))
    (each (has_name k.names) (λ x. IsTrue (has_name k.names x)) (λ x. itself (has_name k.names x)) k.type_names))
    (below (length k.types) (flat_map types_inside k.types)))
    (below (length k.names) (flat_map entry_numbers k.types)))

-- so types that the judge refuses aren't well formed
pub not_well_formed : (k : KnownTypes) → are_well_formed k ≡ false → IsWellFormed k → ⊥
not_well_formed k h = not_from_Decides (are_well_formed k) (known_types_are_judged_lem k) h

pub read_types_are_judged_lem : ReadTypesAreJudged
read_types_are_judged_lem e =
    Decides-like (are_readable e)
    (λ h. record { well_formed = h.0.0.0; variants = h.0.0.1; names_of_constants = h.0.1; types_of_constants = h.1 })
    (λ r. (((r.well_formed, r.variants), r.names_of_constants), r.types_of_constants))
    (both (both (both
    (known_types_are_judged_lem e.known)
    (each (λ t. variants_at_ids 0 (variants_in t)) HasVariantsAtIds (λ t. places_count variants_count (variants_in t)) e.known.types))
    (each (λ c. nat_lt c.0 (length e.known.names)) (λ c. c.0 < length e.known.names) (λ c. Decides-ltb c.0 (length e.known.names)) e.constants))
    (each (λ c. nat_lt c.1 (length e.known.types)) (λ c. c.1 < length e.known.types) (λ c. Decides-ltb c.1 (length e.known.types)) e.constants))
