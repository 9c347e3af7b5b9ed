-- Extern enums: their stages, that they are served, and that the headline speaks of them.
use Rattle.std.proofs.Common.{pos, refl, arith}
use Rattle.std.proofs.lemmas.Grind.{common_steps}
use Rattle.model.specs.claims.Headline.{RunsAsChosen}
use Rattle.model.specs.claims.Layers.{own_program}
use Rattle.laws_typing.proofs.WellTypedRules.{read_programs_are_well_typed}
use Rattle.laws_trees.proofs.headline.Choosing.{best_trees_run_as_chosen_lem}
use Rattle.laws_examples.proofs.Chosen.{laws}
use Rattle.laws_examples.proofs.SampleStages.{stages}
use Rattle.laws_examples.proofs.Served.{literals_apart, serves_from, serves_without_calls}
use Rattle.laws_examples.specs.MeaningForms.{given}
use Rattle.laws_examples.specs.OpaqueTypes.{ClosedEnums, NamedEnds, NamedIsServed, OpaqueIsChosen, OpaqueIsServed, OpaqueIsTaken, OpenEnds, OpenIsServed, named_sample, opaque_defs, opaque_meaning, opaque_program, opaque_rules, opaque_sample, opaque_set, opaque_tree, open_sample}
use Rattle.laws_examples.specs.Stages.{HasStages}

-- 1. without variants
pub opaque_stages : HasStages opaque_sample
opaque_stages = stages opaque_sample refl refl refl refl refl refl refl refl refl refl

pub opaque_is_served : OpaqueIsServed
opaque_is_served = grind (arith, common_steps, serves_from, literals_apart)

runs : RunsAsChosen opaque_program 2 opaque_set.sites opaque_tree
runs =
    best_trees_run_as_chosen_lem laws (own_program opaque_defs opaque_rules) 2 opaque_set (read_programs_are_well_typed opaque_stages.accepted.0.read) opaque_stages.built.0 opaque_stages.accepted.0.checkable opaque_tree
    opaque_stages.judged.best

pub opaque_is_chosen : OpaqueIsChosen
opaque_is_chosen = (runs, (runs refl opaque_meaning (given (pos 3)) opaque_is_served.0 opaque_is_served.1 opaque_is_served.2).1)

pub opaque_is_taken : OpaqueIsTaken
opaque_is_taken z = refl

-- 2. with a variant
pub open_stages : HasStages open_sample
open_stages = stages open_sample refl refl refl refl refl refl refl refl refl refl

pub open_is_served : OpenIsServed
open_is_served = grind (arith, common_steps, literals_apart, serves_without_calls)

pub open_ends : OpenEnds
open_ends = record { of_the_variant = (refl, refl); of_no_variant = λ z. (refl, refl) }

-- 3. constants
pub named_stages : HasStages named_sample
named_stages = stages named_sample refl refl refl refl refl refl refl refl refl refl

pub named_is_served : NamedIsServed
named_is_served = grind (arith, common_steps, serves_without_calls)

pub named_ends : NamedEnds
named_ends = record { of_k = (refl, refl); of_l = (refl, refl); of_another = (refl, refl) }

-- 4. enums that are declared here
pub closed_enums : ClosedEnums
closed_enums = record { no_value_of_none = (λ x. grind (arith, common_steps)); of_a_variant = refl; of_no_variant = λ z. refl; of_no_such_variant = refl; of_other_fields = refl }
