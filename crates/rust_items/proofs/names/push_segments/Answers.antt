use Rattle.std.proofs.Common.{◌≡◌, sym, ap, ◌∙◌, rules}
use Rattle.std.proofs.lemmas.Result.{on_ok_weaker}
use Rattle.rust_items.proofs.Segments.{segment_moved, segment_last}
use Rattle.rust_items.proofs.names.push_segments.Goals as goal

pub loop-segment-preserved : goal.loop-segment-preserved
loop-segment-preserved c = record {
  utf8 = search rules;
  text = segment_moved c.loop-segment.left.now c.in-Some.segment.now c.in-Some.rest.now _ _ _ _ c.in-Some.ensures.cases c.in_ok-push_segment.ensures c.in_ok-push_str.ensures.bytes c.loop-segment.invariant.text;
}

pub returns : goal.returns
returns c = on_ok_weaker c.push_segment-2.result (segment_last c.loop-segment.left.now _ _ _ c.in_default.ensures.cases c.loop-segment.invariant.text) c.push_segment-2.ensures
