-- Steps of what lists sites.
use Rattle.std.proofs.Common.{◌≡◌, ℕ, List, [], ◌∷◌, ◌++◌, map}
use Rattle.std.proofs.lemmas.List.{append_assoc, map-append}
use Rattle.spec_cases.specs.Namings.{Naming}
use Rattle.spec_steps.specs.Listing.{sites}

pub sites_pushed : (v : Naming) (out : List ℕ) (n : ℕ) → sites v (out ++ n ∷ []) ≡ sites v out ++ (v.site n ∷ [])
sites_pushed v out n = map-append v.site out (n ∷ [])

pub ruleset told_steps = (sites_pushed, append_assoc)
