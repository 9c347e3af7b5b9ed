-- The entry of a term, the rules at a position, and the rule behind a return.
use Rattle.std.specs.Prelude.{ℕ, Bool, ◌==◌, ◌&&◌, List, [], ◌∷◌, ◌++◌, map, Option, None}
use Rattle.std.specs.List.{filter, find, flat_map}
use Rattle.cranelift_isle.specs.Layers.{LoweredTerm}
use Rattle.cranelift_isle.specs.Refusals.{Refusal, ill_typed, unreachable, overlapping, shadowing, past_limit}
use Rattle.cranelift_isle.specs.Syntax.{Position}
use Rattle.cranelift_isle.specs.Typed.{TypedRule}
use Rattle.cranelift_isle.specs.Sites.{SetRule}
use Rattle.cranelift_isle.specs.Trees.{Check, return_at}

-- whether two positions are one
abbrev pub is_at : Position → Position → Bool
is_at at other = (other.file == at.file) && (other.offset == at.offset)

-- the first entry of a term
abbrev pub entry_of : ℕ → List LoweredTerm → Option LoweredTerm
entry_of term terms = find (λ t. t.term == term) terms

-- whether a return of this position and result may be this rule's
abbrev pub is_behind : Position → ℕ → SetRule → Bool
is_behind at result rule = is_at at rule.at && (rule.result == result)

-- the rule that a step takes, if it is a return
abbrev pub returned_rule : List SetRule → Check → Option SetRule
returned_rule rules (return_at at result) = find (is_behind at result) rules
returned_rule rules _ = None

-- the positions that an error names, in the order of its text; a mask comes last
abbrev pub refusal_positions : Refusal → List Position
refusal_positions (ill_typed at) = at ∷ []
refusal_positions (unreachable at) = at ∷ []
refusal_positions (overlapping rules) = rules
refusal_positions (shadowing shadowed mask) = shadowed ++ mask ∷ []
refusal_positions (past_limit limit at) = at ∷ []

-- the ids of the rules at a position, in rule order
abbrev pub rule_numbers_at : List TypedRule → Position → List ℕ
rule_numbers_at rules at = map (λ r. r.id) (filter (λ r. is_at at r.at) rules)

-- the rules at each of these positions
abbrev pub rule_numbers_at_each : List TypedRule → List Position → List ℕ
rule_numbers_at_each rules places = flat_map (rule_numbers_at rules) places
