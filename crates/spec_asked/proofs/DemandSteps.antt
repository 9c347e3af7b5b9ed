-- Lists of what a rule demands, one after another.
use Rattle.std.proofs.Common.{◌≡◌, List, [], ◌∷◌, ◌++◌, map}
use Rattle.std.proofs.lemmas.List.{append_assoc, map-append}
use Rattle.spec_cases.specs.Steps.{constraint_view}
use Rattle.spec_steps.specs.declared.demands.Same.{Same}
use Rattle.spec_steps.specs.declared.demands.Signature.{Signature}
use Rattle.spec_steps.specs.declared.demands.Tested.{Tested}
use Rattle.spec_asked.specs.Demanded.{same_numbers, test_numbers}
use Rattle.spec_asked.specs.Tables.{signature_view}

pub tests_pushed : (out : List Tested) (t : Tested) → test_numbers (out ++ t ∷ []) ≡ test_numbers out ++ ((t.site, constraint_view t.constraint) ∷ [])
tests_pushed out t = map-append (λ (t : Tested). (t.site, constraint_view t.constraint)) out (t ∷ [])

pub sames_pushed : (out : List Same) (s : Same) → same_numbers (out ++ s ∷ []) ≡ same_numbers out ++ ((s.first, s.second) ∷ [])
sames_pushed out s = map-append (λ (s : Same). (s.first, s.second)) out (s ∷ [])

pub signatures_pushed : (out : List Signature) (s : Signature) → map signature_view (out ++ s ∷ []) ≡ map signature_view out ++ (signature_view s ∷ [])
signatures_pushed out s = map-append signature_view out (s ∷ [])

pub ruleset test_steps = (tests_pushed, append_assoc)

pub ruleset same_steps = (sames_pushed, append_assoc)

pub ruleset signature_steps = (signatures_pushed, append_assoc)

pub ruleset joined_steps = (append_assoc)
