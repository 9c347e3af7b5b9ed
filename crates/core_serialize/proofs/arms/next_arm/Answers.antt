use Rattle.std.proofs.Common.{◌∙◌, sym}
use Rattle.core_rule_sets.specs.SiteViews.{constraint_view}
use Rattle.core_serialize.specs.PlaceViews.{set_in}
use Rattle.core_serialize.proofs.ArmRuns.{asking_first, least_of}
use Rattle.core_serialize.proofs.arms.next_arm.Goals as goal

pub returns : goal.returns
returns c =
    let set = set_in c.args.indexed.now in
    let s = c.args.source in
    let left = c.args.left.now in
    let first = c.in-Some.first.now in
    let least = least_of set.rules s left first (sym c.in-Some.ensures.value) c.requires in
    record {
      least = least;
      fields = c.in_ok-fields.ensures;
      asking = c.in_ok-asking.ensures ∙ asking_first set.rules s (constraint_view first.constraint) left c.requires least c.run_len-count.result c.run_len-count.ensures.value;
    }
