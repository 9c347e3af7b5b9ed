use Rattle.text_writer.proofs.Matched.{never_unmatched}
use Rattle.text_writer.proofs.spec_laws.matched_are_woven.Goals as goal

pub returns : goal.returns
returns c = never_unmatched
