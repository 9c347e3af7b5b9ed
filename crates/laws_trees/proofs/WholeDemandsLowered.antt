-- The demands of accepted definitions are whole.
use Rattle.laws_typing.proofs.WellTypedRules.{read_programs_are_well_typed}
use Rattle.model.specs.claims.Layers.{own_program}
use Rattle.laws_sites.specs.BuiltLaws.{BuiltDemandsAreWhole}
use Rattle.laws_trees.specs.WholeDemands.{AcceptedDemandsAreWhole}

pub accepted_demands_are_whole_lem : BuiltDemandsAreWhole → AcceptedDemandsAreWhole
accepted_demands_are_whole_lem law defs expand rules accepted t = law (own_program defs rules) t (read_programs_are_well_typed accepted.read)
