-- Which terms the rules of a set call, and the line that names them where these calls are answered by echoes.
use Rattle.std.specs.Prelude.{ℕ, ◌==◌, if◌then◌else◌, List, [], ◌∷◌, ◌++◌, codes}
use Rattle.std.specs.List.{list_any}
use Rattle.model.specs.sites.Sites.{Site, extractor_site, constructor_site}
use Rattle.report_traces.specs.OutcomeTexts.{Names}

-- these terms, and one more if it isn't among them
abbrev pub with_term : List ℕ → ℕ → List ℕ
with_term terms t = if list_any (λ other. other == t) terms then terms else terms ++ t ∷ []

-- the term that a site calls, behind these
abbrev pub with_site : List ℕ → Site → List ℕ
with_site terms (extractor_site t source) = with_term terms t
with_site terms (constructor_site t sources instance) = with_term terms t
with_site terms _ = terms

abbrev pub with_sites : List ℕ → List Site → List ℕ
with_sites terms [] = terms
with_sites terms (s ∷ ss) = with_sites (with_site terms s) ss

-- the terms that sites call, each once, in the order of the sites
abbrev pub called_at : List Site → List ℕ
called_at sites = with_sites [] sites

-- the names of terms, each behind a space
abbrev pub each_name : Names → List ℕ → List ℕ
each_name n [] = []
each_name n (t ∷ ts) = codes " " ++ (n.term t ++ each_name n ts)

-- the line that names terms, if there are any
abbrev pub echoed_words : Names → List ℕ → List ℕ
echoed_words n [] = []
echoed_words n (t ∷ ts) = codes "echoed calls:" ++ (each_name n (t ∷ ts) ++ codes " (docs/RUNNING.md)\n")
