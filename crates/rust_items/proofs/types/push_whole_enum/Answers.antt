use Rattle.std.proofs.Common.{◌∙◌, ◌++◌, codes, map, ap}
use Rattle.std.specs.Prelude.{string_bytes}
use Rattle.std.specs.List.{list_any}
use Rattle.std.proofs.lemmas.Result.{on_ok_weaker}
use Rattle.cranelift_isle.specs.SyntaxViews.{position}
use Rattle.cranelift_isle.specs.TypeViews.{variant_view}
use Rattle.rust_items.specs.ItemViews.{items_by}
use Rattle.rust_items.specs.WrittenItems.{attributes_written, type_head, variant_has_fields, variants_written}
use Rattle.rust_items.proofs.GrownTexts.{then_more}
use Rattle.rust_items.proofs.types.push_whole_enum.Goals as goal

pub returns : goal.returns
returns c =
    let s = items_by c.args.program in
    let old = string_bytes c.args.out.now in
    let head = type_head s.names (codes "enum ") c.args.name.0 in
    let rest = variants_written s (map variant_view c.args.variants.now) in
    on_ok_weaker c.push_variants.result
    (λ h.
    then_more old (string_bytes c.push_attributes.new.out) _ (attributes_written s.sources (list_any variant_has_fields (map variant_view c.args.variants.now)) c.args.is_nodebug (position c.args.pos)) (head ++ rest)
    (c.in_ok-push_attributes.ensures ∙ ap (λ b. old ++ attributes_written s.sources b c.args.is_nodebug (position c.args.pos)) c.have_fields.ensures)
    (then_more (string_bytes c.push_attributes.new.out) (string_bytes c.push_head.new.out) _ head rest c.in_ok-push_head.ensures h))
    c.push_variants.ensures
