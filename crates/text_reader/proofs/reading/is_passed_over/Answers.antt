use Rattle.std.proofs.Common.{◌∙◌}
use Rattle.text_reader.proofs.ReadSpecs.{group-passed}
use Rattle.text_reader.proofs.reading.is_passed_over.Goals as goal

pub returns-in-Group : goal.returns-in-Group
returns-in-Group c = c.begins_passed_over.ensures ∙ group-passed c.args.form.now c.in-Group.parts c.in-Group.field-1 c.in-Group.field-2 c.deref-parts.result.now c.in-Group.is c.deref-parts.ensures.value
