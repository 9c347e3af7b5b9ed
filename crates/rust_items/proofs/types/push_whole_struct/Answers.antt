use Rattle.std.proofs.Common.{◌∙◌, ◌++◌, codes, ap}
use Rattle.std.specs.Prelude.{string_bytes}
use Rattle.std.proofs.lemmas.Result.{on_ok_weaker}
use Rattle.cranelift_isle.specs.SyntaxViews.{position}
use Rattle.cranelift_isle.specs.TypeViews.{fields_view}
use Rattle.rust_items.specs.ItemViews.{items_by}
use Rattle.rust_items.specs.WrittenItems.{attributes_written, has_any_field, struct_written, type_head}
use Rattle.rust_items.proofs.GrownTexts.{then_more}
use Rattle.rust_items.proofs.types.push_whole_struct.Goals as goal

pub returns : goal.returns
returns c =
    let s = items_by c.args.program in
    let old = string_bytes c.args.out.now in
    let head = type_head s.names (codes "struct ") c.args.name.0 in
    let rest = struct_written s (fields_view c.args.fields.now) in
    on_ok_weaker c.push_struct.result
    (λ h.
    then_more old (string_bytes c.push_attributes.new.out) _ (attributes_written s.sources (has_any_field (fields_view c.args.fields.now)) c.args.is_nodebug (position c.args.pos)) (head ++ rest)
    (c.in_ok-push_attributes.ensures ∙ ap (λ b. old ++ attributes_written s.sources b c.args.is_nodebug (position c.args.pos)) c.has_any_field.ensures)
    (then_more (string_bytes c.push_attributes.new.out) (string_bytes c.push_head.new.out) _ head rest c.in_ok-push_head.ensures h))
    c.push_struct.ensures
