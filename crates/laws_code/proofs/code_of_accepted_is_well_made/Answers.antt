use Rattle.laws_code.proofs.WellMade.{code_of_accepted_is_well_made_lem}
use Rattle.laws_code.proofs.code_of_accepted_is_well_made.Goals as goal

pub returns : goal.returns
returns c =
    code_of_accepted_is_well_made_lem
    (record {
      trees = c.typed_sets_have_typed_trees.ensures;
      sets = c.built_sets_are_typed.ensures;
      fit = c.passes_by_types_fit.ensures;
      once = c.fitting_code_moves_once.ensures;
      same = c.with_moves_says_same.ensures;
      made = c.with_moves_is_made_well.ensures;
      scoped = c.code_of_accepted_is_scoped.ensures;
      taken = c.code_of_accepted_takes_once.ensures;
      means = c.code_chooses_as_source.ensures;
    })
