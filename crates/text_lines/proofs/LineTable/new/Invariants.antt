use Rattle.std.proofs.Common.{◌+◌, ◌≤◌, take}
use Rattle.text_lines.specs.Marks.{AreMarks, IsBehind}
use Rattle.text_lines.proofs.LineTable.new.Given as goal

abbrev pub invariant-loop-number : goal.invariant-loop-number
invariant-loop-number l = record {
  marks : AreMarks l.byte-items l.number l.marks.items;
  end : IsBehind (take l.number l.byte-items) l.end;
  line : l.end.line ≤ l.number + 1;
  column : l.end.column ≤ l.number + 1;
}
