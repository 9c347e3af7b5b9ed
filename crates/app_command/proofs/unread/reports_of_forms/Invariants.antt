-- Each mistake so far has a report at its place.
use Rattle.std.proofs.Common.{take}
use Rattle.std.specs.List.{AllZip}
use Rattle.report_errors.specs.Places.{BeginsAtError}
use Rattle.app_command.proofs.unread.reports_of_forms.Given as goal

abbrev pub invariant-loop-mistake : goal.invariant-loop-mistake
invariant-loop-mistake l = AllZip BeginsAtError (take l.mistake-index l.mistakes) l.reports.items
