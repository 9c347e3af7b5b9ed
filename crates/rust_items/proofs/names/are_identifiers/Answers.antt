use Rattle.std.proofs.Common.{◌≡◌, true, false, ◌&&◌, sym, ap, ◌∙◌, rules}
use Rattle.rust_items.specs.RustNames.{is_identifier}
use Rattle.rust_items.proofs.Segments.{identifiers_at_mark, one_identifier}
use Rattle.rust_items.proofs.names.are_identifiers.Goals as goal

pub returns-then-not-is_identifier : goal.returns-then-not-is_identifier
returns-then-not-is_identifier c =
    let isnt : is_identifier c.in-Some.segment.now ≡ false = search rules in
    let m = identifiers_at_mark c.loop-segment.left.now c.in-Some.segment.now c.in-Some.rest.now c.in-Some.ensures.cases in
    sym (rw isnt at m) ∙ c.loop-segment.invariant.same

pub loop-segment-preserved : goal.loop-segment-preserved
loop-segment-preserved c =
    let is : is_identifier c.in-Some.segment.now ≡ true = search rules in
    let m = identifiers_at_mark c.loop-segment.left.now c.in-Some.segment.now c.in-Some.rest.now c.in-Some.ensures.cases in
    record { utf8 = search rules; same = sym (rw is at m) ∙ c.loop-segment.invariant.same }

pub returns : goal.returns
returns c = c.is_identifier-2.ensures ∙ sym (one_identifier c.loop-segment.left.now c.in_default.ensures.cases) ∙ c.loop-segment.invariant.same
