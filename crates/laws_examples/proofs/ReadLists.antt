-- What lists without stages become, internal extractors expanded or not: by the judge of lists.
use Rattle.std.proofs.Common.{refl}
use Rattle.laws_examples.proofs.ListStages.{read_both}
use Rattle.laws_examples.specs.ConstEq.{const_eq_defs, const_eq_rules}
use Rattle.laws_examples.specs.Cycle.{one_step_defs, one_step_rules}
use Rattle.laws_examples.specs.LeftoverSites.{left_over_defs, left_over_rules}
use Rattle.laws_examples.specs.Overlap.{overlap_defs, overlap_rules}
use Rattle.laws_examples.specs.Shadow.{shadow_defs, shadow_rules}
use Rattle.laws_examples.specs.Stages.{IsReadBoth}

pub const_eq_read : IsReadBoth const_eq_defs const_eq_rules
const_eq_read = read_both const_eq_defs const_eq_rules refl refl

pub overlap_read : IsReadBoth overlap_defs overlap_rules
overlap_read = read_both overlap_defs overlap_rules refl refl

pub shadow_read : IsReadBoth shadow_defs shadow_rules
shadow_read = read_both shadow_defs shadow_rules refl refl

pub left_over_read : IsReadBoth left_over_defs left_over_rules
left_over_read = read_both left_over_defs left_over_rules refl refl

pub one_step_read : IsReadBoth one_step_defs one_step_rules
one_step_read = read_both one_step_defs one_step_rules refl refl
