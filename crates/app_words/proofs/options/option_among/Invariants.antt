use Rattle.std.proofs.Common.{◌≡◌, drop, map}
use Rattle.app_words.specs.Options.{option_among}
use Rattle.app_words.proofs.options.option_among.Given as goal

abbrev pub invariant-loop-row : goal.invariant-loop-row
invariant-loop-row l =
    option_among l.fn.job l.fn.word (map (λ row. (row.0.now, row.1)) (drop l.row-index l.rows))
    ≡ option_among l.fn.job l.fn.word (map (λ row. (row.0.now, row.1)) l.rows)
