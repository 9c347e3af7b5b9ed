-- A sample: a value that is a part of itself.
--   (type T (enum (A (v T)) (Z)))
--   (decl f (T) u8)
--   (rule (f (and x (T.A x))) 1)
use Rattle.std.specs.Prelude.{◌∷◌, [], pos, List, Some, codes}
use Rattle.model.specs.claims.Layers.{own_program}
use Rattle.model.specs.lists.Elaborated.{TypedRules}
use Rattle.model.specs.lists.Syntax.{Definition, type_definition, unit_fields}
use Rattle.model.specs.rules.Program.{Program}
use Rattle.model.specs.rules.Typed.{TypedPattern, TypedRule, make_int, match_and, match_term, match_var}
use Rattle.laws_examples.specs.TypedForms.{bind_any, own, q_list, rules_and_names, typed, typed_var, u8}
use Rattle.laws_examples.specs.Written.{at, both, declared, enum, field, name, number, of_f, rule_to, term, var, variant}

abbrev pub one_step_defs : List Definition
one_step_defs =
    type_definition (enum 0 (codes "T") (variant 0 (codes "A") (field 0 (codes "v") (codes "T") ∷ []) ∷ record { name = name 0 (codes "Z"); fields = unit_fields; at = at 0 } ∷ []))
    ∷ declared 1 (codes "f") (codes "T" ∷ []) (codes "u8")
    ∷ rule_to 2 (of_f 2 (both 2 (var 2 (codes "x") ∷ term 2 (codes "T.A") (var 2 (codes "x") ∷ []) ∷ []) ∷ [])) (number 2 (pos 1)) ∷ []

-- the variable is used inside what it names
abbrev pub x_matched_in_a : TypedPattern
x_matched_in_a = match_term own 1 (q_list (match_var own 0 ∷ []))

abbrev pub one_step_rule : TypedRule
one_step_rule = typed 0 2 0 (pos 0) (Some 19) (typed_var 0 20 own ∷ []) (match_and own (q_list (bind_any own 0 ∷ x_matched_in_a ∷ [])) ∷ []) (make_int u8 (pos 1))

abbrev pub one_step_rules : TypedRules
one_step_rules = rules_and_names (one_step_rule ∷ []) (codes "T" ∷ codes "T.A" ∷ codes "A" ∷ codes "v" ∷ codes "T.Z" ∷ codes "Z" ∷ codes "f" ∷ codes "x" ∷ [])

abbrev pub one_step_program : Program
one_step_program = own_program one_step_defs one_step_rules
