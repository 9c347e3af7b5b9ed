-- How patterns are read step by step, and what the use of a term in a pattern leads to.
use Rattle.std.specs.Prelude.{ℕ, Bool, false, List, None, option_map, Result, Ok, Err}
use Rattle.core_syntax.specs.SyntaxViews as S
use Rattle.model.specs.lists.Syntax.{Position, PatternTree, PatternTrees}
use Rattle.model.specs.rules.Typed.{TypedPattern, match_term, TypedPatterns}
use Rattle.laws_errors.specs.Steps.{here}
use Rattle.laws_errors.specs.PatternSteps.{bind_step, pattern_step, parts_step, each_step, deeper_step}
use Rattle.core_terms.specs.TermViews.{term_view}
use Rattle.core_rules.specs.declared.term_env.TermEnv.{TermEnv}
use Rattle.core_rules.specs.declared.typing.progress.Stop.{Stop}
use Rattle.core_rules.specs.declared.typing.pattern_uses.PatternUse.{PatternUse}
use Rattle.core_rules.specs.declared.typing.pattern_uses.PatternUse.TheVariants.{Wrong, Expansion, Parts}
use Rattle.core_rules.specs.Taking.{Stepping, MadeOrLimit, EndsAs, StopsBy, LeadsOn}
use Rattle.core_rules.specs.ShownSettings.{Standing}

-- a pattern at a type, in a rule whose term is multi or not, where so many expansions may nest
abbrev pub pattern_steps : Bool → PatternTree → ℕ → ℕ → Stepping TypedPattern
pattern_steps multi p ty d e n s = pattern_step e multi (deeper_step e multi d) p ty n s

-- patterns for arguments, each at its type, as far as there are both
abbrev pub parts_steps : Bool → PatternTrees → List ℕ → ℕ → Stepping TypedPatterns
parts_steps multi ps tys d e n s = parts_step e multi (deeper_step e multi d) ps tys n s

-- patterns of one value
abbrev pub each_steps : Bool → PatternTrees → ℕ → ℕ → Stepping TypedPatterns
each_steps multi ps ty d e n s = each_step e multi (deeper_step e multi d) ps ty n s

-- a pattern without parts, which is read alike in all rules and at all depths
abbrev pub leaf_steps : PatternTree → ℕ → Stepping TypedPattern
leaf_steps p ty = pattern_steps false p ty 0

-- a name at a place around a pattern that was made
abbrev pub around_steps : List ℕ → Position → TypedPattern → Stepping TypedPattern
around_steps x at q e n s = bind_step x at (here q s)

-- what is made of what was made
abbrev pub made_end : {P Q : Type 0} → (P → Q) → MadeOrLimit P → MadeOrLimit Q
made_end f (Ok m) = Ok (option_map f m)
made_end f (Err l) = Err l

-- the use of a term is wrong, and nothing is made; or from here on it is what its expansion is, or its parts
abbrev pub UseTakes : TermEnv → Standing → Standing → ℕ → Bool → PatternTree → PatternTrees → ℕ → Result PatternUse Stop → Type 0
UseTakes env old new d multi whole args ty (Ok Wrong) = EndsAs env old new (pattern_steps multi whole ty d) (Ok None)
UseTakes env old new d multi whole args ty (Ok (Expansion made left)) = LeadsOn env old new (pattern_steps multi whole ty d) (pattern_steps multi (S.pattern_view made) ty left) (λ r. r)
UseTakes env old new d multi whole args ty (Ok (Parts t)) =
    LeadsOn env old new (pattern_steps multi whole ty d) (parts_steps multi args (term_view t.now).arg_tys d) (made_end (match_term (term_view t.now).ret_ty (term_view t.now).id))
UseTakes env old new d multi whole args ty (Err stop) = StopsBy env old new (pattern_steps multi whole ty d) stop
