use Rattle.std.proofs.Common.{refl}
use Rattle.app_words.specs.Refusals.{no_task}
use Rattle.app_words.proofs.Reading.{asked_first, why_told}
use Rattle.app_words.proofs.words.asked_of_job.Goals as goal

pub returns-in-None : goal.returns-in-None
returns-in-None c = why_told _ no_task _ (rw c.in-None.ensures refl) c.wrong_as.ensures

pub returns-in-Some : goal.returns-in-Some
returns-in-Some c = rw c.in-Some.ensures (asked_first _ _ _ _ _ c.named.ensures c.asked_behind.ensures)
