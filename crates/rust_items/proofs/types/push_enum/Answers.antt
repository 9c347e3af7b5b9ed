use Rattle.std.proofs.Common.{◌∙◌, ◌++◌, map, ap, sym}
use Rattle.std.specs.Prelude.{string_bytes}
use Rattle.std.proofs.lemmas.Result.{on_ok_weaker}
use Rattle.cranelift_isle.specs.SyntaxViews.{position}
use Rattle.cranelift_isle.specs.TypeViews.{variant_view}
use Rattle.rust_items.specs.ItemViews.{items_by}
use Rattle.rust_items.specs.WrittenItems.{enum_written, unless}
use Rattle.rust_items.proofs.types.push_enum.Goals as goal

pub returns-else-is_extern : goal.returns-else-is_extern
returns-else-is_extern c =
    on_ok_weaker c.push_whole_enum.result
    (λ h. h ∙ ap (λ b. string_bytes c.args.out.now ++ unless b (enum_written (items_by c.args.program) c.args.name.0 c.args.is_nodebug (map variant_view c.args.variants.now) (position c.args.pos))) (sym c.if-is_extern.false)) c.push_whole_enum.ensures
