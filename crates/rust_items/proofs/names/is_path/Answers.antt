use Rattle.std.proofs.Common.{◌≡◌, true, false, ◌&&◌, sym, ap, ◌∙◌, rules}
use Rattle.rust_items.specs.RustNames.{is_identifier, is_path}
use Rattle.rust_items.proofs.Segments.{path_at_mark, no_path}
use Rattle.rust_items.proofs.names.is_path.Goals as goal

pub returns-then-is_identifier : goal.returns-then-is_identifier
returns-then-is_identifier c =
    let is : is_identifier c.in-Some.segment.now ≡ true = search rules in
    let m = path_at_mark c.args.name.now c.in-Some.segment.now c.in-Some.rest.now c.in-Some.ensures.cases in
    c.are_identifiers.ensures ∙ sym (rw is at m)

pub returns-else-is_identifier : goal.returns-else-is_identifier
returns-else-is_identifier c =
    let isnt : is_identifier c.in-Some.segment.now ≡ false = search rules in
    let m = path_at_mark c.args.name.now c.in-Some.segment.now c.in-Some.rest.now c.in-Some.ensures.cases in
    c.is_identifier.ensures ∙ isnt ∙ sym (rw isnt at m)

pub returns-in-None : goal.returns-in-None
returns-in-None c = sym (no_path c.args.name.now c.in-None.ensures.cases)
