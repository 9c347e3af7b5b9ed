use Rattle.std.proofs.Common.{◌++◌, codes, slice_get}
use Rattle.std.specs.Prelude.{string_bytes}
use Rattle.std.proofs.lemmas.Result.{on_ok_weaker}
use Rattle.core_types.specs.Envs.{names_of}
use Rattle.core_types.specs.TypeViews.{type_views}
use Rattle.rust_items.specs.WrittenTypes.{type_written}
use Rattle.rust_items.proofs.GrownTexts.{on_ok_text, then_more}
use Rattle.rust_text.proofs.functions.push_option.Goals as goal

pub returns : goal.returns
returns c =
    let env = c.args.program.tyenv.now in
    let old = string_bytes c.args.out.now in
    let one = string_bytes c.push_str.new.self in
    let two = string_bytes c.push_type.new.out in
    let new = string_bytes c.push_str-2.new.self in
    let ty = type_written (names_of env) (slice_get (type_views env.types.items) c.args.ty.0) in
    let end = codes ">" in
    on_ok_weaker c.push_str-2.result
    (λ h. then_more old one new (codes ") -> Option<") (ty ++ end) c.in_ok-push_str.ensures.bytes (then_more one two new ty end c.in_ok-push_type.ensures h))
    (on_ok_text c.push_str-2.result new (two ++ end) two c.push_str-2.ensures.bytes)
