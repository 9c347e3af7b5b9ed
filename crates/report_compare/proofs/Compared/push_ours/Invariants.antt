use Rattle.std.proofs.Common.{◌≡◌, ◌&&◌, drop}
use Rattle.std.specs.Prelude.{string_bytes}
use Rattle.report_compare.specs.Agreement.{each_head, is_ours, is_quiet}
use Rattle.report_compare.specs.LineViews.{texts_of}
use Rattle.report_compare.proofs.Compared.push_ours.Given as goal

abbrev pub invariant-loop-i : goal.invariant-loop-i
invariant-loop-i l =
    (is_quiet (string_bytes l.out) && each_head (is_ours (texts_of l.self.text.now)) (texts_of (drop l.i l.self.ours.now)))
    ≡ (is_quiet (string_bytes l.fn.out) && each_head (is_ours (texts_of l.self.text.now)) (texts_of l.self.ours.now))
