use Rattle.std.proofs.Common.{◌++◌, sym, ap, ◌∙◌, chars}
use Rattle.std.specs.Prelude.{string_bytes}
use Rattle.text_writer.proofs.Turns.{text_of_times, gap_written}
use Rattle.text_writer.proofs.layout.push_gap.Goals as goal

pub returns-in_ok-sum-in-Spaces-clause-text : goal.returns-in_ok-sum-in-Spaces-clause-text
returns-in_ok-sum-in-Spaces-clause-text c =
    rw c.in-Spaces.is (c.in_ok-push_times-in-Spaces.ensures ∙ ap (λ x. chars (string_bytes c.args.text.now) ++ x) (sym (text_of_times c.in-Spaces.spaces 32)))

pub returns-in_ok-sum-in-Breaks-clause-text : goal.returns-in_ok-sum-in-Breaks-clause-text
returns-in_ok-sum-in-Breaks-clause-text c =
    rw c.in-Breaks.is (gap_written _ _ _ c.in-Breaks.breaks c.args.column c.in_ok-push_times-in-Breaks.ensures c.in_ok-push_times-in-Breaks-2.ensures)
