use Rattle.std.proofs.Common.{◌++◌, codes}
use Rattle.std.specs.Prelude.{string_bytes}
use Rattle.std.proofs.lemmas.Result.{on_ok_weaker}
use Rattle.rust_items.proofs.GrownTexts.{on_ok_text, then_more}
use Rattle.rust_text.proofs.functions.push_title.Goals as goal

pub returns : goal.returns
returns c =
    let old = string_bytes c.args.out.now in
    let one = string_bytes c.push_str.new.self in
    let two = string_bytes c.push_str-2.new.self in
    let three = string_bytes c.push_str-3.new.self in
    let new = string_bytes c.push_str-4.new.self in
    let name = c.args.name.now in
    let tick = codes "`\n" in
    let allow = codes "#[allow(warnings)]\n" in
    on_ok_weaker c.push_str-4.result
    (λ h.
    then_more old one new (codes "\n/// `") (name ++ (tick ++ allow)) c.in_ok-push_str.ensures.bytes
    (then_more one two new name (tick ++ allow) c.in_ok-push_str-2.ensures.bytes (then_more two three new tick allow c.in_ok-push_str-3.ensures.bytes h)))
    (on_ok_text c.push_str-4.result new (three ++ allow) three c.push_str-4.ensures.bytes)
