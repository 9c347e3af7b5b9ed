use Rattle.std.proofs.Common.{◌≡◌, drop}
use Rattle.std.specs.List.{list_any}
use Rattle.std.specs.Str.{bytes_eq}
use Rattle.report_queries.proofs.samples.text_among.Given as goal

abbrev pub invariant-loop-sample : goal.invariant-loop-sample
invariant-loop-sample l =
    list_any (λ s. bytes_eq s.0.now l.fn.name) (drop l.sample-index l.samples)
    ≡ list_any (λ s. bytes_eq s.0.now l.fn.name) l.samples
