-- A sample: named constants, and a boolean literal.
--   (extern const $X u8)
--   (decl f (u8 bool) u8)
--   (rule (f $X true) $X)
use Rattle.std.specs.Prelude.{◌≡◌, ◌∷◌, [], pos, true, List, Some, codes, IsTrue}
use Rattle.model.specs.claims.Layers.{own_program}
use Rattle.model.specs.lists.Elaborated.{TypedRules}
use Rattle.model.specs.lists.Setting.{bool_type}
use Rattle.model.specs.lists.Syntax.{Definition, bool_pattern, prim_expr, prim_pattern}
use Rattle.model.specs.rules.Choice.{choice}
use Rattle.model.specs.rules.Meaning.{Meaning, bool_literal, finite}
use Rattle.model.specs.rules.Program.{Program, arg_types, rules_of}
use Rattle.model.specs.rules.Typed.{make_prim, match_bool, match_prim}
use Rattle.model.specs.rules.Values.{args_well_typed, truth}
use Rattle.model.specs.sites.Serves.{Serves, TellsConstantsApart}
use Rattle.laws_examples.specs.MeaningForms.{answers, v, no_entries}
use Rattle.laws_examples.specs.TypedForms.{rules_and_names, typed, u8}
use Rattle.laws_examples.specs.Written.{at, constant, declared, name, of_f, rule_to}

abbrev pub constants_defs : List Definition
constants_defs =
    constant 0 (codes "X") (codes "u8") ∷ declared 1 (codes "f") (codes "u8" ∷ codes "bool" ∷ []) (codes "u8")
    ∷ rule_to 2 (of_f 2 (prim_pattern (name 2 (codes "X")) (at 2) ∷ bool_pattern true (at 2) ∷ [])) (prim_expr (name 2 (codes "X")) (at 2)) ∷ []

abbrev pub constants_rules : TypedRules
constants_rules = rules_and_names (typed 0 2 0 (pos 0) (Some 14) [] (match_prim u8 13 ∷ match_bool bool_type true ∷ []) (make_prim u8 13) ∷ []) (codes "X" ∷ codes "f" ∷ [])

abbrev pub constants_program : Program
constants_program = own_program constants_defs constants_rules

-- $X is 5, and true is itself
abbrev pub constants_meaning : Meaning
constants_meaning = finite (record no_entries { literals = (bool_literal true bool_type, truth true) ∷ []; constants = (13, v (pos 5)) ∷ [] })

-- 5 and true are of the arguments' types; on them the meaning has what the rule asks, and tells constants apart; so the rule
-- matches and gives 5
abbrev pub ConstantsAreServed : Type 0
ConstantsAreServed =
    IsTrue (args_well_typed constants_program.types (arg_types constants_program 0) (v (pos 5) ∷ truth true ∷ []))
    × Serves constants_program constants_meaning (v (pos 5) ∷ truth true ∷ []) (rules_of constants_program 0)
    × TellsConstantsApart constants_program constants_meaning (rules_of constants_program 0)
    × (choice constants_program constants_meaning (rules_of constants_program 0) (v (pos 5) ∷ truth true ∷ []) ≡ answers (pos 5))
