use Rattle.std.proofs.Common.{◌≡◌, drop, map}
use Rattle.app_words.specs.Options.{is_among_tasks}
use Rattle.app_words.proofs.options.is_among_tasks.Given as goal

abbrev pub invariant-loop-row : goal.invariant-loop-row
invariant-loop-row l =
    is_among_tasks l.fn.word (map (λ row. (row.0.now, row.1)) (drop l.row-index l.rows))
    ≡ is_among_tasks l.fn.word (map (λ row. (row.0.now, row.1)) l.rows)
