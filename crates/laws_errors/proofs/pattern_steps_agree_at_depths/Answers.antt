use Rattle.laws_errors.proofs.PatternDepths.{pattern_steps_agree_at_depths_lem}
use Rattle.laws_errors.proofs.pattern_steps_agree_at_depths.Goals as goal

pub returns : goal.returns
returns c = pattern_steps_agree_at_depths_lem
