-- The names of the samples.
use Rattle.std.specs.Prelude.{ℕ, Bool, false, List, [], ◌∷◌}
use Rattle.std.specs.List.{list_any}
use Rattle.std.specs.Str.{bytes_eq}
use Rattle.report_queries.specs.declared.samples.TheConstants.{SAMPLES}

-- whether a sample has this name
abbrev pub is_sample : List ℕ → Bool
is_sample name = list_any (λ s. bytes_eq s.0.now name) SAMPLES

-- whether the words of the program name a sample: there is exactly one word, and it is the name of one
abbrev pub names_sample : List (List ℕ) → Bool
names_sample [] = false
names_sample (name ∷ []) = is_sample name
names_sample (name ∷ (other ∷ rest)) = false
