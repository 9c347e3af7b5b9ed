use Rattle.std.proofs.Common.{◌∙◌, ◌++◌, ap, sym}
use Rattle.std.specs.Prelude.{string_bytes}
use Rattle.std.proofs.lemmas.Result.{on_ok_weaker}
use Rattle.cranelift_isle.specs.SyntaxViews.{position}
use Rattle.cranelift_isle.specs.TypeViews.{fields_view}
use Rattle.rust_items.specs.ItemViews.{items_by}
use Rattle.rust_items.specs.WrittenItems.{whole_struct_written, unless}
use Rattle.rust_items.proofs.types.push_open_struct.Goals as goal

pub returns-else-is_extern : goal.returns-else-is_extern
returns-else-is_extern c =
    on_ok_weaker c.push_whole_struct.result
    (λ h. h ∙ ap (λ b. string_bytes c.args.out.now ++ unless b (whole_struct_written (items_by c.args.program) c.args.name.0 c.args.is_nodebug (fields_view c.args.fields.now) (position c.args.pos))) (sym c.if-is_extern.false)) c.push_whole_struct.ensures
