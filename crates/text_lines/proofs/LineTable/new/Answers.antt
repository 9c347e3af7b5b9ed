use Rattle.std.proofs.Common.{◌+◌, take, sym, ap, subst, ◌∙◌, arith}
use Rattle.std.proofs.lemmas.List.{take_more}
use Rattle.text_lines.specs.Marks.{AreMarks, IsBehind}
use Rattle.text_lines.proofs.MarkLemmas.{marks_more, marks_on}
use Rattle.text_lines.proofs.LineTable.new.Goals as goal
use Rattle.text_lines.proofs.LineTable.new.Goals.{then-len-number+in_ok-push, else-len-number}

pub loop-number-preserved : goal.loop-number-preserved
loop-number-preserved c =
    let bs = c.as_bytes-byte-items.result.now in let i = c.loop-number.number in let v = c.loop-number.invariant in
    record {
      marks = elim c.if-len-number.branch [
        | then-len-number+in_ok-push w ↦ subst (AreMarks bs (i + 1)) (sym (ap (λ m. m.items) w.marks-is ∙ w.in_ok-push.ensures.items))
            (marks_more bs i c.loop-number.marks.items c.loop-number.end (omega (arith, w.if-len-number.true, c.len.ensures)) v.end v.marks)
        | else-len-number w ↦ subst (AreMarks bs (i + 1)) (sym (ap (λ m. m.items) w.marks-is))
            (marks_on bs i c.loop-number.marks.items (omega (arith, w.if-len-number.false, c.len.ensures)) v.marks)
      ];
      end = subst (λ xs. IsBehind xs c.behind-end.result) (sym (take_more bs i _ c.loop-number-test.true)) (c.behind-end.ensures.place (take i bs) v.end);
      line = omega (arith, v.line, c.behind-end.ensures.line);
      column = omega (arith, v.column, c.behind-end.ensures.column);
    }
