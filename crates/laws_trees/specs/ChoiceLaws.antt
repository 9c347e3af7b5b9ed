-- What the choice by priority doesn't depend on: the order of rules, rules that aren't chosen, and of a program all but its
-- terms and the rules of the term.
use Rattle.std.specs.Prelude.{◌≡◌, ℕ, List, ◌∷◌, ◌++◌, Some, IsPermutation}
use Rattle.model.specs.rules.Values.{Value}
use Rattle.model.specs.rules.Meaning.{Meaning}
use Rattle.model.specs.rules.Program.{Program, rules_of}
use Rattle.model.specs.rules.Typed.{TypedRule}
use Rattle.model.specs.rules.Choice.{chosen, choice, MatchesOnce}

-- of a program, the choice asks the terms alone
abbrev pub ChoiceAsksTerms : Type 0
ChoiceAsksTerms = (p q : Program) → p.terms ≡ q.terms → (m : Meaning) (rs : List TypedRule) (args : List Value) → choice p m rs args ≡ choice q m rs args

-- where of two rules of one priority at most one matches, rules in another order choose the same
abbrev pub OrderDoesntMatter : Type 0
OrderDoesntMatter =
    (p : Program) (m : Meaning) (args : List Value) (rs qs : List TypedRule) → IsPermutation rs qs → MatchesOnce p m rs args
    → choice p m rs args ≡ choice p m qs args

-- a rule that isn't chosen can be taken away
abbrev pub OthersCanBeTakenAway : Type 0
OthersCanBeTakenAway =
    (p : Program) (m : Meaning) (args : List Value) (before after : List TypedRule) (r : TypedRule)
    → (chosen p m (before ++ r ∷ after) args ≡ Some r → ⊥) → choice p m (before ++ after) args ≡ choice p m (before ++ r ∷ after) args

-- so a program's terms choose the same where its rules stand in another order
abbrev pub OrderInProgramsDoesntMatter : Type 0
OrderInProgramsDoesntMatter =
    (p q : Program) → p.terms ≡ q.terms → IsPermutation p.rules q.rules → (t : ℕ) (m : Meaning) (args : List Value)
    → MatchesOnce p m (rules_of p t) args → choice p m (rules_of p t) args ≡ choice q m (rules_of q t) args

-- and where a rule is taken away that isn't chosen
abbrev pub OthersInProgramsCanBeTakenAway : Type 0
OthersInProgramsCanBeTakenAway =
    (p q : Program) (before after : List TypedRule) (r : TypedRule) → p.terms ≡ q.terms → p.rules ≡ before ++ r ∷ after → q.rules ≡ before ++ after
    → (t : ℕ) (m : Meaning) (args : List Value)
    → (chosen p m (rules_of p t) args ≡ Some r → ⊥) → choice q m (rules_of q t) args ≡ choice p m (rules_of p t) args
