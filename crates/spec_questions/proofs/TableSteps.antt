-- What specs say, as tables have it.
use Rattle.std.proofs.Common.{◌≡◌, List, [], ◌∷◌, ◌++◌, map}
use Rattle.std.proofs.lemmas.List.{append_assoc, map-append}
use Rattle.spec_steps.specs.declared.demands.TermSaid.{TermSaid}
use Rattle.spec_questions.specs.Right.{asked_in}

pub said_pushed : (out : List TermSaid) (t : TermSaid) → map asked_in (out ++ t ∷ []) ≡ map asked_in out ++ (asked_in t ∷ [])
said_pushed out t = map-append asked_in out (t ∷ [])

pub ruleset said_steps = (said_pushed, append_assoc)
