use Rattle.std.proofs.Common.{◌≡◌, ◌&&◌, not, drop}
use Rattle.std.specs.Prelude.{string_bytes}
use Rattle.report_compare.specs.Agreement.{each_head, is_named, is_quiet}
use Rattle.report_compare.specs.LineViews.{texts_of}
use Rattle.report_compare.proofs.Compared.push_doubles.Given as goal

abbrev pub invariant-loop-i : goal.invariant-loop-i
invariant-loop-i l =
    (is_quiet (string_bytes l.out) && each_head (λ head behind. not (is_named behind head)) (texts_of (drop l.i l.self.text.now)))
    ≡ (is_quiet (string_bytes l.fn.out) && each_head (λ head behind. not (is_named behind head)) (texts_of l.self.text.now))
