use Rattle.std.proofs.Common.{◌++◌, codes}
use Rattle.std.specs.Prelude.{string_bytes}
use Rattle.std.proofs.lemmas.Result.{on_ok_weaker}
use Rattle.rust_items.specs.RustNames.{part}
use Rattle.rust_items.proofs.GrownTexts.{on_ok_text, then_more}
use Rattle.rust_items.proofs.context.push_answers_begin.Goals as goal

pub returns : goal.returns
returns c =
    let old = string_bytes c.args.out.now in
    let one = string_bytes c.push_str.new.self in
    let two = string_bytes c.push_part.new.out in
    let new = string_bytes c.push_str-2.new.self in
    let name = part c.args.name.now in
    let rest = codes "_returns: Default + IntoContextIter<Context = Self, Output = " in
    on_ok_weaker c.push_str-2.result
    (λ h. then_more old one new (codes "    type ") (name ++ rest) c.in_ok-push_str.ensures.bytes (then_more one two new name rest c.in_ok-push_part.ensures h))
    (on_ok_text c.push_str-2.result new (two ++ rest) two c.push_str-2.ensures.bytes)
