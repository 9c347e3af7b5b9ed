-- A sample: a rule that another one of a higher priority shadows.
--   (decl f (u8) u8)
--   (rule 1 (f x) x)
--   (rule (f 1) 10)
use Rattle.std.specs.Prelude.{◌∷◌, [], ℤ, pos, List, None, codes}
use Rattle.model.specs.claims.Layers.{own_program}
use Rattle.model.specs.lists.Elaborated.{TypedRules}
use Rattle.model.specs.lists.Syntax.{Definition}
use Rattle.model.specs.rules.Program.{Program}
use Rattle.model.specs.rules.Typed.{TypedRule, make_int, make_var, match_int}
use Rattle.laws_examples.specs.TypedForms.{bind_any, rules_and_names, typed, typed_var, u8}
use Rattle.laws_examples.specs.Written.{f_of_bytes, int, number, of_f, rule_first, rule_to, var, variable}

abbrev pub shadow_defs : List Definition
shadow_defs =
    f_of_bytes 0 1 ∷ rule_first 1 (pos 1) (of_f 1 (var 1 (codes "x") ∷ [])) (variable 1 (codes "x")) ∷ rule_to 2 (of_f 2 (int 2 (pos 1) ∷ [])) (number 2 (pos 10)) ∷ []

abbrev pub shadow_any : ℤ → TypedRule
shadow_any prio = typed 0 1 0 prio None (typed_var 0 14 u8 ∷ []) (bind_any u8 0 ∷ []) (make_var u8 0)

abbrev pub shadow_one : TypedRule
shadow_one = typed 1 2 0 (pos 0) None [] (match_int u8 (pos 1) ∷ []) (make_int u8 (pos 10))

abbrev pub shadow_rules : TypedRules
shadow_rules = rules_and_names (shadow_any (pos 1) ∷ shadow_one ∷ []) (codes "f" ∷ codes "x" ∷ [])

abbrev pub shadow_program : Program
shadow_program = own_program shadow_defs shadow_rules
