-- Which look-ups answer by the lists of samples, and which environments are read as their types.
use Rattle.std.proofs.Common.{◌≡◌, ◌<◌, ℕ, true, List, Some, slice_get, nat_lt, refl, sym, ap, arith, ltb-true}
use Rattle.std.proofs.lemmas.Grind.{common_steps}
use Rattle.std.specs.List.{list_all}
use Rattle.std.proofs.lemmas.Bool.{false≢true}
use Rattle.std.proofs.lemmas.Option.{none-some, same_Some}
use Rattle.model.proofs.Members.{each_passes, member_from_get}
use Rattle.model.proofs.Names.{distinct_if}
use Rattle.model.proofs.NumbersOf.{environments_are_read}
use Rattle.model.specs.lists.Tables.{TermEntry, TypeEntry, primitive_type}
use Rattle.laws_examples.specs.Fall.{fall_defs}
use Rattle.laws_examples.specs.LookUps.{ConvertersAreLookedUp, FallSpeaksOfNames, FlagIsKept, NearEnvironments, types_with_p}
use Rattle.laws_examples.specs.Stages.{own_setting}

pub converters_are_looked_up : ConvertersAreLookedUp
converters_are_looked_up = (refl, λ i o. refl, λ h. none-some 0 (h 1 13))

-- the number of a primitive type's name
abbrev name_of_primitive : TypeEntry → ℕ
name_of_primitive (primitive_type id name at) = name
name_of_primitive _ = 0

pub near_environments : NearEnvironments
near_environments = record {
  read = environments_are_read types_with_p (distinct_if types_with_p.known.names refl);
  other_type = λ h. let e : 12 ≡ 13 = ap name_of_primitive (same_Some _ _ (ap (λ l. slice_get l 13) h.types)) in omega (arith, e);
  error_kept = λ h. let e = h.no_errors in omega (arith, e);
  no_name_found = λ h. none-some 0 (h.inverse.numbered _ 0 refl);
  no_type_found = λ h. none-some 0 (h.look_ups 0);
  constant_found = λ h. none-some 0 (sym (h.constants 0));
}

pub flag_is_kept : FlagIsKept
flag_is_kept env h = false≢true h.flag

-- numbers that pass a test are below
below : (ns : List ℕ) → list_all (λ k. nat_lt k 14) ns ≡ true → (i k : ℕ) → slice_get ns i ≡ Some k → k < 14
below ns h i k e = ltb-true k 14 (each_passes (λ k. nat_lt k 14) ns h k (member_from_get ns i k e))

name_below : (i : ℕ) (t : TermEntry) → slice_get (own_setting fall_defs true).terms i ≡ Some t → t.name < 14
name_below i t e = grind (arith, common_steps, same_Some, none-some)

pub fall_speaks_of_names : FallSpeaksOfNames
fall_speaks_of_names = (
  record { terms = name_below; type_names = below (own_setting fall_defs true).type_names refl; constants = λ i c e. absurd (none-some c e) },
  λ h. let l = h.terms 0 _ refl in omega (arith, l),
)
