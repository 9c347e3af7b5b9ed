-- Where the errors stand that are noted while a rule is read: at positions of what is read, or at those of the templates of
-- terms, which take the place of their uses.
use Rattle.std.specs.Prelude.{◌≡◌, Bool, List, [], ◌++◌, Option, Some, None, Result, Ok, Err, ⊤, if◌then◌else◌}
use Rattle.std.specs.List.{flat_map}
use Rattle.model.specs.lists.Syntax.{Position, PatternTree}
use Rattle.model.specs.lists.Tables.{TermEntry}
use Rattle.model.specs.lists.Setting.{kind_template}
use Rattle.core_syntax.specs.declared.syntax.Error.{Error}
use Rattle.core_syntax.specs.Positions.{NotesAt, OccurAmong, pattern_positions, expr_positions}
use Rattle.core_syntax.specs.SyntaxViews.{position, pattern_view, expr_view}
use Rattle.core_terms.specs.TermViews.{term_views}
use Rattle.core_typed.specs.declared.rules.Rule.{Rule}
use Rattle.core_rules.specs.declared.term_env.TermEnv.{TermEnv}
use Rattle.core_rules.specs.declared.typing.progress.Stop.{Stop}
use Rattle.core_rules.specs.declared.typing.progress.Stop.TheVariants.{Memory, Nesting, Expansions}
use Rattle.core_rules.specs.declared.typing.pattern_uses.PatternUse.{PatternUse}
use Rattle.core_rules.specs.declared.typing.pattern_uses.PatternUse.TheVariants as P
use Rattle.core_rules.specs.declared.typing.expr_uses.VarUse.{VarUse}
use Rattle.core_rules.specs.declared.typing.expr_uses.VarUse.TheVariants as V
use Rattle.core_rules.specs.declared.typing.expr_uses.CallUse.{CallUse}
use Rattle.core_rules.specs.declared.typing.expr_uses.CallUse.TheVariants as C

-- the positions of a template, where there is one
abbrev pub template_positions : Option PatternTree → List Position
template_positions None = []
template_positions (Some p) = pattern_positions p

-- those of the templates that take the places of terms in patterns: of none, where internal extractors aren't expanded
abbrev pub templates_positions : Bool → List TermEntry → List Position
templates_positions expand ts = flat_map (λ t. template_positions (if expand then kind_template t.kind else None)) ts

-- positions, and those of the templates
abbrev pub with_templates : TermEnv → List Position → List Position
with_templates env ps = ps ++ templates_positions env.expand_internal_extractors (term_views env.terms.items)

-- the errors that were noted before a limit was passed stand at some of these positions; want of memory says nothing
abbrev pub KeepsPlaced : List Position → List Error → List Error → Stop → Type 0
KeepsPlaced ps old new (Memory e) = ⊤
KeepsPlaced ps old new Nesting = NotesAt ps old new
KeepsPlaced ps old new Expansions = NotesAt ps old new

-- the same, however the work ended
abbrev pub StaysPlaced : {X : Type 0} → List Position → List Error → List Error → Result X Stop → Type 0
StaysPlaced ps old new (Ok x) = NotesAt ps old new
StaysPlaced ps old new (Err stop) = KeepsPlaced ps old new stop

-- a pattern that takes the place of a use has some of these positions
abbrev pub ExpandsAmong : List Position → Result PatternUse Stop → Type 0
ExpandsAmong ps (Ok P.Wrong) = ⊤
ExpandsAmong ps (Ok (P.Expansion made left)) = OccurAmong (pattern_positions (pattern_view made)) ps
ExpandsAmong ps (Ok (P.Parts t)) = ⊤
ExpandsAmong ps (Err stop) = ⊤

-- likewise an expression that takes the place of a variable
abbrev pub ConvertsAmong : List Position → Result VarUse Stop → Type 0
ConvertsAmong ps (Ok V.Wrong) = ⊤
ConvertsAmong ps (Ok (V.Conversion made left)) = OccurAmong (expr_positions (expr_view made)) ps
ConvertsAmong ps (Ok (V.Var v)) = ⊤
ConvertsAmong ps (Err stop) = ⊤

-- or of a call
abbrev pub CallsAmong : List Position → Result CallUse Stop → Type 0
CallsAmong ps (Ok C.Wrong) = ⊤
CallsAmong ps (Ok (C.Conversion made left)) = OccurAmong (expr_positions (expr_view made)) ps
CallsAmong ps (Ok (C.Parts t)) = ⊤
CallsAmong ps (Err stop) = ⊤

-- the rule that is made, if one is, stands at a position
abbrev pub StandsIf : Position → Option Rule → Type 0
StandsIf at None = ⊤
StandsIf at (Some r) = position r.pos ≡ at
