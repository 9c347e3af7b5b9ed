-- Shadowed rules are never chosen, and can be taken away.
use Rattle.std.specs.Prelude.{◌≡◌, ℕ, false, List, ◌∷◌, ◌++◌, Some, Contains}
use Rattle.model.specs.rules.Program.{Program, is_multi, rules_of}
use Rattle.model.specs.rules.Typed.{TypedRule}
use Rattle.model.specs.rules.Choice.{chosen, choice}
use Rattle.model.specs.sites.Overlap.{BuiltRule, built_rules, Shadows}
use Rattle.model.specs.claims.SetMeanings.{WhereServed}
use Rattle.laws_typing.specs.WellTypedPrograms.{IsWellTypedProgram}

-- what holds of two rules of a well-typed program's term that isn't multi, the first of which shadows the second
abbrev pub OfShadowed : (Program → ℕ → BuiltRule → BuiltRule → Type 0) → Type 0
OfShadowed P =
    (p : Program) (t : ℕ) (mask r : BuiltRule) → IsWellTypedProgram p → is_multi p t ≡ false
    → Contains (built_rules p t) mask → Contains (built_rules p t) r → Shadows mask r → P p t mask r

-- a rule that is shadowed is never chosen
abbrev pub ShadowedRulesAreNeverChosen : Type 0
ShadowedRulesAreNeverChosen = OfShadowed (λ p t mask r. WhereServed p t (λ m args. chosen p m (rules_of p t) args ≡ Some r.rule → ⊥))

-- so without it the term's rules choose the same
abbrev pub ShadowedRulesCanBeTakenAway : Type 0
ShadowedRulesCanBeTakenAway =
    OfShadowed (λ p t mask r. (q : Program) (before after : List TypedRule) → p.terms ≡ q.terms → p.rules ≡ before ++ r.rule ∷ after → q.rules ≡ before ++ after
    → WhereServed p t (λ m args. choice q m (rules_of q t) args ≡ choice p m (rules_of p t) args))
