-- How patterns are read, as the function of typing says.
use Rattle.std.specs.Prelude.{ℕ, Bool, List}
use Rattle.model.specs.lists.Syntax.{PatternTree, PatternTrees}
use Rattle.model.specs.rules.Typed.{TypedPattern, TypedPatterns}
use Rattle.model.specs.lists.Elaborated.{elaborated_pattern, elaborated_parts}
use Rattle.core_rules.specs.ShownSettings.{Reading}

-- a pattern at a type, in a rule whose term is multi or not
abbrev pub pattern_reading : Bool → PatternTree → ℕ → Reading TypedPattern
pattern_reading multi p ty e c s = elaborated_pattern e multi c p ty s

-- patterns for arguments, each at its type, likewise
abbrev pub parts_reading : Bool → PatternTrees → List ℕ → Reading TypedPatterns
parts_reading multi ps tys e c s = elaborated_parts e multi c ps tys s
