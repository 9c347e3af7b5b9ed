use Rattle.std.proofs.Common.{◌≡◌, ◌++◌, drop}
use Rattle.std.specs.Prelude.{string_bytes}
use Rattle.run_terms.specs.ValueViews.{content_views}
use Rattle.report_traces.specs.OutcomeTexts.{contents_words, names_in}
use Rattle.report_traces.proofs.outcomes.+contents.Given as goal

abbrev pub invariant-push_contents-loop-content : goal.invariant-push_contents-loop-content
invariant-push_contents-loop-content l =
    string_bytes l.out ++ contents_words (names_in l.lowered) (content_views (drop l.content-index l.contents)) ≡ string_bytes l.fn.out ++ contents_words (names_in l.lowered) (content_views l.contents)
