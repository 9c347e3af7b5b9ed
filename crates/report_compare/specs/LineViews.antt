-- Lines by what they say.
use Rattle.std.specs.Prelude.{ℕ, List, map}
use Rattle.report_compare.specs.declared.SaidLine.{SaidLine}

abbrev pub texts_of : List SaidLine → List (List ℕ)
texts_of ls = map (λ l. l.text.now) ls
