-- Typed rules that no list becomes: rules that don't hang together, and what those that do may still test and return.
use Rattle.std.specs.Prelude.{◌≡◌, ◌∷◌, [], ℕ, pos, true, false, List, None, Some, replicate}
use Rattle.model.specs.lists.Formed.{is_formed_rule}
use Rattle.model.specs.lists.Tables.{Flags}
use Rattle.model.specs.rules.Program.{Program}
use Rattle.model.specs.rules.Typed.{TypedExpr, TypedPattern, TypedRule, make_int, make_term, make_var, match_any, match_int, match_var}
use Rattle.model.specs.sites.DemandedGates.{ArePureIfLets}
use Rattle.model.specs.visits.Demands.{demands_of, result_of}
use Rattle.model.specs.sites.Limits.{arguments_limit, passed_in_visit}
use Rattle.model.specs.sites.Sites.{constructor_call, some_made, some_part}
use Rattle.laws_examples.specs.SetForms.{a0, is_byte, one_source}
use Rattle.laws_examples.specs.TypedForms.{bind_any, builtins, by_rules, e_list, entry, flags, no_flags, typed, typed_iflet, u8}

-- a term f alone, with these flags, of arguments of type u8
abbrev pub f_alone : Flags → List ℕ → Program
f_alone marks args = record { types = builtins; constants = []; terms = entry 0 0 13 args u8 (by_rules marks) ∷ []; rules = [] }

-- (decl f (u8 u8) u8), and a rule of it
abbrev pub f_of_two : Program
f_of_two = f_alone no_flags (u8 ∷ u8 ∷ [])

abbrev pub with_sides : List TypedPattern → TypedExpr → TypedRule
with_sides args rhs = typed 0 1 0 (pos 0) None [] args rhs

-- a right side of another type isn't that of a rule that hangs together, and a call of the term itself may be one. What else
-- sets such rules apart stands beside which rules can be visited (`VisitableRules`)
abbrev pub OthersAreNotFormed : Type 0
OthersAreNotFormed =
    (is_formed_rule f_of_two (with_sides (match_any u8 ∷ match_any u8 ∷ []) (make_int 2 (pos 1))) ≡ false)
    × (is_formed_rule f_of_two (with_sides (bind_any u8 0 ∷ match_var u8 0 ∷ []) (make_term u8 0 (e_list (make_var u8 0 ∷ make_int u8 (pos 1) ∷ [])))) ≡ true)

-- (decl f (u8) u8), which is impure
abbrev pub f_impure : Program
f_impure = f_alone no_flags (u8 ∷ [])

-- a call of f on its own argument
abbrev pub f_of_argument : TypedExpr
f_of_argument = make_term u8 0 (e_list (make_var u8 0 ∷ []))

-- (rule (f x) (if-let 2 (f x)) x), which doesn't elaborate
abbrev pub impure_iflet : TypedRule
impure_iflet = record (with_sides (bind_any u8 0 ∷ []) (make_var u8 0)) { iflets = typed_iflet (match_int u8 (pos 2)) f_of_argument ∷ [] }

-- a rule that hangs together may ask an impure call to be a number: its if-let isn't pure
abbrev pub FormedRulesMayTestImpureCalls : Type 0
FormedRulesMayTestImpureCalls =
    (is_formed_rule f_impure impure_iflet ≡ true)
    × ((demands_of f_impure impure_iflet).constraints ≡ (constructor_call 0 (one_source a0) 1, is_byte 2) ∷ [])
    × (ArePureIfLets f_impure impure_iflet.iflets → ⊥)

-- (decl pure partial f (u8) u8)
abbrev pub f_partial : Program
f_partial = f_alone (flags true false true) (u8 ∷ [])

-- (rule (f x) (f x))
abbrev pub calls_itself : TypedRule
calls_itself = with_sides (bind_any u8 0 ∷ []) f_of_argument

-- what a rule returns may unwrap a call whose answer nothing asks for
abbrev pub ResultsMayUnwrap : Type 0
ResultsMayUnwrap =
    (is_formed_rule f_partial calls_itself ≡ true)
    × ((demands_of f_partial calls_itself).constraints ≡ [])
    × (result_of f_partial calls_itself ≡ some_made (some_part (constructor_call 0 (one_source a0) 0)))

-- a rule of n arguments: one of 257 passes the limit on arguments, after the 256 before it were made
abbrev pub wide_rule : ℕ → TypedRule
wide_rule n = with_sides (replicate n (match_any u8)) (make_int u8 (pos 1))

abbrev pub ArgumentsAreLimited : Type 0
ArgumentsAreLimited =
    (passed_in_visit (f_alone no_flags []) (wide_rule 256) ≡ None)
    × (passed_in_visit (f_alone no_flags []) (wide_rule 257) ≡ Some (arguments_limit, 256))
