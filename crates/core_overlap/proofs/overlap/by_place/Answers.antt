use Rattle.std.proofs.Common.{rules}
use Rattle.std.proofs.lemmas.Fn.{always_returns_same}
use Rattle.core_overlap.specs.ErrorViews.{error_pos}
use Rattle.core_overlap.proofs.SortedErrors.{errors_in_order}
use Rattle.core_overlap.proofs.overlap.by_place.Goals as goal

pub returns-clause-reports : goal.returns-clause-reports
returns-clause-reports c = λ reports e.
    errors_in_order c.args.errors.items c.sort_by_key.new.self.items reports
    (c.in_ok-sort_by_key.ensures.sorted error_pos (always_returns_same _ _ _ (λ a r q k. search rules)))
    (c.in_ok-sort_by_key.ensures.stable error_pos (always_returns_same _ _ _ (λ a r q k. search rules)))
    e
