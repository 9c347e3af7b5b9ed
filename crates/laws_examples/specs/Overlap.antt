-- A sample: two rules that overlap wrongly.
--   (decl f (u8) u8)
--   (rule (f 1) 10)
--   (rule (f x) x)
use Rattle.std.specs.Prelude.{◌∷◌, [], pos, List, None, codes}
use Rattle.model.specs.claims.Layers.{own_program}
use Rattle.model.specs.lists.Elaborated.{TypedRules}
use Rattle.model.specs.lists.Syntax.{Definition}
use Rattle.model.specs.rules.Program.{Program}
use Rattle.model.specs.rules.Typed.{TypedRule, make_int, match_int}
use Rattle.model.specs.sites.Overlap.{BuiltRule, built_rule}
use Rattle.laws_examples.specs.Fall.{fall_any}
use Rattle.laws_examples.specs.TypedForms.{rules_and_names, typed, u8}
use Rattle.laws_examples.specs.Written.{f_of_bytes, int, number, of_f, rule_to, var, variable}

abbrev pub overlap_defs : List Definition
overlap_defs = f_of_bytes 0 1 ∷ rule_to 1 (of_f 1 (int 1 (pos 1) ∷ [])) (number 1 (pos 10)) ∷ rule_to 2 (of_f 2 (var 2 (codes "x") ∷ [])) (variable 2 (codes "x")) ∷ []

abbrev pub overlap_one : TypedRule
overlap_one = typed 0 1 0 (pos 0) None [] (match_int u8 (pos 1) ∷ []) (make_int u8 (pos 10))

abbrev pub overlap_rules : TypedRules
overlap_rules = rules_and_names (overlap_one ∷ fall_any ∷ []) (codes "f" ∷ codes "x" ∷ [])

abbrev pub overlap_program : Program
overlap_program = own_program overlap_defs overlap_rules

-- a rule that is built alone
abbrev pub built_alone : Program → TypedRule → BuiltRule
built_alone p r = built_rule p [] r
