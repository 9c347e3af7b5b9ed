use Rattle.std.proofs.Common.{◌≡◌, drop}
use Rattle.run_terms.specs.ValueViews.{content_views}
use Rattle.run_terms.proofs.ContentSteps.{put_before}
use Rattle.run_terms.proofs.values.+content_clone.Given as goal

abbrev pub invariant-content_clones-loop-part : goal.invariant-content_clones-loop-part
invariant-content_clones-loop-part l = put_before l.out.items (content_views (drop l.part-index l.parts)) ≡ content_views l.parts
