-- Typed rules that can be visited, though some of them don't hang together, and rules that can't.
use Rattle.std.specs.Prelude.{◌≡◌, ◌∷◌, [], pos, Bool, true, false}
use Rattle.model.specs.lists.Formed.{is_formed_rule}
use Rattle.model.specs.lists.Visitable.{is_visitable_rule}
use Rattle.model.specs.rules.Typed.{TypedRule, make_int, make_var, match_any, match_bind, match_term, match_var}
use Rattle.laws_examples.specs.FormedRules.{f_of_two, with_sides}
use Rattle.laws_examples.specs.TypedForms.{bind_any, q_list, u8}

-- (rule (f x _) x), the right side of u8, or of another type
abbrev pub first_of_two : TypedRule
first_of_two = with_sides (bind_any u8 0 ∷ match_any u8 ∷ []) (make_var u8 0)

abbrev pub of_other_type : TypedRule
of_other_type = with_sides (bind_any u8 0 ∷ match_any u8 ∷ []) (make_var 2 0)

-- whether a rule of f can be visited, and whether it hangs together
abbrev pub PassesChecks : TypedRule → Bool → Bool → Type 0
PassesChecks r visitable formed = (is_visitable_rule f_of_two.terms r ≡ visitable) × (is_formed_rule f_of_two r ≡ formed)

-- types aren't asked for, and an `@` binds before its subpattern
abbrev pub RulesAreVisitable : Type 0
RulesAreVisitable =
    PassesChecks first_of_two true true
    × PassesChecks of_other_type true false
    × PassesChecks (with_sides (match_bind u8 0 (match_var u8 0) ∷ match_any u8 ∷ []) (make_var u8 0)) true false

-- a variable that is used before it is bound, that patterns bind twice, or that nothing binds; a pattern for one of two
-- arguments; a term without an extractor in a pattern
abbrev pub OthersAreNotVisitable : Type 0
OthersAreNotVisitable =
    PassesChecks (with_sides (match_var u8 0 ∷ bind_any u8 0 ∷ []) (make_int u8 (pos 1))) false false
    × PassesChecks (with_sides (bind_any u8 0 ∷ bind_any u8 0 ∷ []) (make_int u8 (pos 1))) false false
    × PassesChecks (with_sides (match_any u8 ∷ match_any u8 ∷ []) (make_var u8 0)) false false
    × PassesChecks (with_sides (match_any u8 ∷ []) (make_int u8 (pos 1))) false false
    × PassesChecks (with_sides (match_term u8 0 (q_list (match_any u8 ∷ match_any u8 ∷ [])) ∷ match_any u8 ∷ []) (make_int u8 (pos 1))) false false
