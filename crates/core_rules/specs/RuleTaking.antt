-- How rules are read step by step: if-lets, the arguments of a root, the sides of a rule, and the whole.
use Rattle.std.specs.Prelude.{ℕ, Bool, List, length}
use Rattle.std.specs.Bool.{◌==◌}
use Rattle.model.specs.lists.Syntax.{Position, Name, PatternTrees, IfLetTree, RuleTree, pattern_list}
use Rattle.model.specs.lists.Tables.{Flags, TermEntry}
use Rattle.model.specs.lists.Elaborated.{Sides}
use Rattle.model.specs.rules.Typed.{TypedPatterns, TypedIfLet, TypedRule}
use Rattle.laws_errors.specs.Steps.{argument_count, unless, noting}
use Rattle.laws_errors.specs.RuleSteps.{iflet_step, iflets_step, sides_step, rule_step}
use Rattle.core_rules.specs.PatternTaking.{parts_steps}
use Rattle.core_rules.specs.Taking.{Stepping}

-- an if-let of a rule whose term has these flags, where so many expansions may nest
abbrev pub iflet_steps : IfLetTree → Flags → ℕ → Stepping TypedIfLet
iflet_steps i flags d e n s = iflet_step e flags d i n s

-- if-lets in order
abbrev pub iflets_steps : List IfLetTree → Flags → ℕ → Stepping (List TypedIfLet)
iflets_steps is flags d e n s = iflets_step e flags d is n s

-- arguments of a root of this name in a rule at a place, behind a wrong number of them. Those of a rule's own root are read as its step says
abbrev pub root_steps : Bool → PatternTrees → List ℕ → Name → Position → ℕ → Stepping TypedPatterns
root_steps multi ps tys x at d e n s = noting (unless (length (pattern_list ps) == length tys) (argument_count x.text (length (pattern_list ps)) (length tys)) at) (parts_steps multi ps tys d e n s)

-- arguments, if-lets and right side of a rule whose root has this name and this entry
abbrev pub sides_steps : RuleTree → Name → TermEntry → Flags → ℕ → Stepping Sides
sides_steps r x t flags d e n s = sides_step e flags d r x t n s

-- a rule with this id
abbrev pub rule_steps : RuleTree → ℕ → ℕ → Stepping TypedRule
rule_steps r id d e n s = rule_step e d id r n s
