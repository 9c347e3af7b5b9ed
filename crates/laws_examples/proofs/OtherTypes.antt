-- The worked lists that are read with other types, and types that are not well formed, as the judges say.
use Rattle.std.proofs.Common.{[], ◌++◌, refl}
use Rattle.model.specs.lists.KnownTypes.{types_of}
use Rattle.laws_typing.proofs.JudgedKnown.{known_types_are_judged_lem, not_well_formed}
use Rattle.laws_typing.proofs.JudgedTerms.{defined_are_judged_lem, no_terms, terms_are_judged_lem}
use Rattle.laws_examples.specs.OtherTypes.{IllFormed, NamesGoOn, OwnTypesDoNotCount, TypesHandedIn, of_that_type, one_type, plain, with_g}

pub types_handed_in_lem : TypesHandedIn
types_handed_in_lem = (
  (known_types_are_judged_lem (types_of one_type)).0 refl,
  refl,
  refl,
  (terms_are_judged_lem (types_of one_type) of_that_type).0 refl,
  (defined_are_judged_lem of_that_type).0 refl,
  no_terms (types_of of_that_type) of_that_type refl,
)

pub own_types_do_not_count_lem : OwnTypesDoNotCount
own_types_do_not_count_lem = ((terms_are_judged_lem (types_of (one_type ++ of_that_type)) (one_type ++ of_that_type)).0 refl, no_terms (types_of []) (one_type ++ of_that_type) refl)

pub names_go_on_lem : NamesGoOn
names_go_on_lem = ((known_types_are_judged_lem with_g).0 refl, refl, refl, (terms_are_judged_lem with_g plain).0 refl, (defined_are_judged_lem plain).0 refl)

pub ill_formed_lem : IllFormed
ill_formed_lem = record {
  no_types = not_well_formed _ refl;
  name_twice = not_well_formed _ refl;
  other_id = not_well_formed _ refl;
  type_name_twice = not_well_formed _ refl;
  type_name_past = not_well_formed _ refl;
  type_name_not_met = not_well_formed _ refl;
  field_of_no_type = not_well_formed _ refl;
  number_of_no_name = not_well_formed _ refl;
}
