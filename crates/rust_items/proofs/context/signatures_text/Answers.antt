use Rattle.std.proofs.Common.{◌++◌, [], codes}
use Rattle.std.specs.Prelude.{string_bytes}
use Rattle.cranelift_isle.specs.SyntaxViews.{position}
use Rattle.rust_items.specs.LineViews.{lines_view}
use Rattle.rust_items.specs.WrittenItems.{places_text}
use Rattle.rust_items.proofs.GrownTexts.{then_more}
use Rattle.rust_items.proofs.context.signatures_text.Goals as goal

pub returns : goal.returns
returns c =
    let why = string_bytes c.in_ok-why.why in
    let one = string_bytes c.push_str.new.self in
    let two = string_bytes c.push_str-2.new.self in
    let new = string_bytes c.push_places.new.out in
    let name = c.args.name.now in
    let has = codes "` has two signatures, by the terms at " in
    let places = places_text (lines_view c.args.program.lines.now) (position c.args.earlier) (position c.args.later) in
    then_more [] why new (codes "the external function `") (name ++ (has ++ places)) c.in_ok-why.ensures.ok
    (then_more why one new name (has ++ places) c.in_ok-push_str.ensures.bytes (then_more one two new has places c.in_ok-push_str-2.ensures.bytes c.in_ok-push_places.ensures))
