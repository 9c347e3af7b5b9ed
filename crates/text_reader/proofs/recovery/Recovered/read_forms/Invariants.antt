-- What is read so far, and what the other forms give, is what all give.
use Rattle.std.proofs.Common.{◌≡◌, drop}
use Rattle.text_reader.specs.FormViews.{all_view}
use Rattle.text_reader.specs.Recovering.{beside, each_by_itself}
use Rattle.text_reader.specs.RecoveryViews.{recovery_view}
use Rattle.text_reader.proofs.recovery.Recovered.read_forms.Given as goal

abbrev pub invariant-loop-form : goal.invariant-loop-form
invariant-loop-form l = beside (recovery_view l.self) (each_by_itself (all_view (drop l.form-index l.forms))) ≡ beside (recovery_view l.fn.self) (each_by_itself (all_view l.forms))
