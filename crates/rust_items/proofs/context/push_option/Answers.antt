use Rattle.std.proofs.Common.{◌++◌, codes, map}
use Rattle.std.specs.Prelude.{string_bytes}
use Rattle.std.proofs.lemmas.Result.{on_ok_weaker}
use Rattle.core_types.specs.declared.ids.TypeId.{TypeId}
use Rattle.rust_items.specs.ItemViews.{items_by}
use Rattle.rust_items.specs.WrittenTypes.{outputs_written}
use Rattle.rust_items.proofs.GrownTexts.{on_ok_text, then_more}
use Rattle.rust_items.proofs.context.push_option.Goals as goal

pub returns : goal.returns
returns c =
    let s = items_by c.args.program in
    let old = string_bytes c.args.out.now in
    let one = string_bytes c.push_str.new.self in
    let two = string_bytes c.push_outputs.new.out in
    let new = string_bytes c.push_str-2.new.self in
    let outputs = outputs_written s.names s.types (map (λ (t : TypeId). t.0) c.args.tys.now) in
    on_ok_weaker c.push_str-2.result
    (λ h. then_more old one new (codes ") -> Option<") (outputs ++ codes ">") c.in_ok-push_str.ensures.bytes (then_more one two new outputs (codes ">") c.in_ok-push_outputs.ensures h))
    (on_ok_text c.push_str-2.result new (two ++ codes ">") two c.push_str-2.ensures.bytes)
