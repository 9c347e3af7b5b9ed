use Rattle.std.proofs.Common.{sym, ap, ◌∙◌, chars}
use Rattle.std.proofs.lemmas.Str.{IsUtf8-past_char}
use Rattle.std.specs.Str.Iter.{chars_rest}
use Rattle.text_writer.specs.Placing.{Placing, with_piece}
use Rattle.text_writer.specs.PartViews.{mode_view, placing_view}
use Rattle.text_writer.specs.Scanning.{run}
use Rattle.text_writer.proofs.Texts.{next_char, no_char}
use Rattle.text_writer.proofs.Scans.{run_char, run_end}
use Rattle.text_writer.proofs.parts.scanned.Goals as goal

pub loop-c-preserved : goal.loop-c-preserved
loop-c-preserved c =
    let v = c.loop-c.invariant in let st = c.in-Some.ensures.steps in record {
      utf8 = IsUtf8-past_char _ _ c.in-Some.c v.utf8 st.0;
      same = ap (λ m. run with_piece m (chars (chars_rest c.next.new.self))) c.in-Ok.ensures
          ∙ sym (run_char with_piece (mode_view c.loop-c.state, placing_view c.loop-c.scan) c.in-Some.c _)
          ∙ next_char (run with_piece (mode_view c.loop-c.state, placing_view c.loop-c.scan)) _ c.in-Some.c _ _ v.utf8 st.0 v.same;
    }

pub returns-in-Ok-end : goal.returns-in-Ok-end
returns-in-Ok-end c =
    ap (λ (a : Placing). a.done) (c.in-Ok-end.ensures ∙ sym (run_end with_piece (mode_view c.loop-c.state, placing_view c.loop-c.scan))
    ∙ no_char (run with_piece (mode_view c.loop-c.state, placing_view c.loop-c.scan)) _ _ c.in-None.ensures.steps.0.0 c.loop-c.invariant.same)
