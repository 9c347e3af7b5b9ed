-- What is wrong with a part stands where forms of the part do, or where those of the templates that are expanded do.
use Rattle.std.specs.Prelude.{◌≡◌, ℕ, Bool, List, [], ◌∷◌, Option, Some, ⊤, Contains}
use Rattle.model.specs.lists.Syntax.{Position, ExprTree, term_expr, var_expr, bool_expr, int_expr, prim_expr, let_expr, ExprTrees, no_expr, expr_and, LetTrees, no_let, let_and, IfLetTree, RuleTree, PatternTree, var_pattern, bind_pattern, bool_pattern, int_pattern, prim_pattern, term_pattern, wildcard_pattern, and_pattern, macro_arg, PatternTrees, no_pattern, pattern_and}
use Rattle.model.specs.lists.Tables.{Flags, TermEntry}
use Rattle.model.specs.lists.Setting.{Setting, Scope, term_of, template_in}
use Rattle.laws_errors.specs.Steps.{Mistake, Step, went_on, stopped}
use Rattle.laws_errors.specs.PatternSteps.{pattern_step, deeper_step}
use Rattle.laws_errors.specs.ExprSteps.{expr_step, deeper_expr_step}
use Rattle.laws_errors.specs.RuleSteps.{rule_step}

-- each form of a pattern stands at such a position
abbrev mutual
  pub StandsAt : (Position → Type 0) → PatternTree → Type 0
  StandsAt P (var_pattern name at) = P at
  StandsAt P (bind_pattern name of at) = P at × StandsAt P of
  StandsAt P (bool_pattern b at) = P at
  StandsAt P (int_pattern z at) = P at
  StandsAt P (prim_pattern name at) = P at
  StandsAt P (term_pattern name args at) = P at × StandAt P args
  StandsAt P (wildcard_pattern at) = P at
  StandsAt P (and_pattern parts at) = P at × StandAt P parts
  StandsAt P (macro_arg i at) = P at

  pub StandAt : (Position → Type 0) → PatternTrees → Type 0
  StandAt P no_pattern = ⊤
  StandAt P (pattern_and p rest) = StandsAt P p × StandAt P rest

-- of an expression likewise. What is wrong with a let's definition stands where the let does
abbrev mutual
  pub ExprStandsAt : (Position → Type 0) → ExprTree → Type 0
  ExprStandsAt P (term_expr name args at) = P at × ExprsStandAt P args
  ExprStandsAt P (var_expr name at) = P at
  ExprStandsAt P (bool_expr b at) = P at
  ExprStandsAt P (int_expr z at) = P at
  ExprStandsAt P (prim_expr name at) = P at
  ExprStandsAt P (let_expr defs body at) = P at × (LetsStandAt P defs × ExprStandsAt P body)

  pub ExprsStandAt : (Position → Type 0) → ExprTrees → Type 0
  ExprsStandAt P no_expr = ⊤
  ExprsStandAt P (expr_and x rest) = ExprStandsAt P x × ExprsStandAt P rest

  pub LetsStandAt : (Position → Type 0) → LetTrees → Type 0
  LetsStandAt P no_let = ⊤
  LetsStandAt P (let_and name ty value at rest) = ExprStandsAt P value × LetsStandAt P rest

-- of an if-let
abbrev pub IfLetStandsAt : (Position → Type 0) → IfLetTree → Type 0
IfLetStandsAt P i = StandsAt P i.pattern × ExprStandsAt P i.expr

abbrev pub IfLetsStandAt : (Position → Type 0) → List IfLetTree → Type 0
IfLetsStandAt P [] = ⊤
IfLetsStandAt P (i ∷ is) = IfLetStandsAt P i × IfLetsStandAt P is

-- of a rule
pub record RuleStandsAt (P : Position → Type 0) (r : RuleTree) : Type 0 where
  pub rule : P r.at
  pub pattern : StandsAt P r.pattern
  pub iflets : IfLetsStandAt P r.iflets
  pub expr : ExprStandsAt P r.expr

-- what is wrong stands at such positions
abbrev pub AreAt : (Position → Type 0) → List Mistake → Type 0
AreAt P [] = ⊤
AreAt P (w ∷ ws) = P w.at × AreAt P ws

abbrev pub wrong_of : {X : Type 0} → Step X → List Mistake
wrong_of (went_on m s k es) = es
wrong_of (stopped l s es) = es

-- the templates of terms stand at such positions
abbrev pub TemplatesStandAt : Setting → (Position → Type 0) → Type 0
TemplatesStandAt e P = (s : Scope) (x : List ℕ) (t : TermEntry) (template : PatternTree) → term_of e s x ≡ Some t → template_in e t.kind ≡ Some template → StandsAt P template

abbrev pub PatternErrorsArePlaced : Type 0
PatternErrorsArePlaced =
    (ps : List Position) (e : Setting) (multi : Bool) → TemplatesStandAt e (Contains ps) → (d : ℕ) (p : PatternTree) (ty n : ℕ) (s : Scope) → StandsAt (Contains ps) p
    → AreAt (Contains ps) (wrong_of (pattern_step e multi (deeper_step e multi d) p ty n s))

abbrev pub ExprErrorsArePlaced : Type 0
ExprErrorsArePlaced =
    (ps : List Position) (e : Setting) (flags : Flags) (d : ℕ) (x : ExprTree) (ty : Option ℕ) (n : ℕ) (s : Scope) → ExprStandsAt (Contains ps) x
    → AreAt (Contains ps) (wrong_of (expr_step e flags (deeper_expr_step e flags d) x ty n s))

abbrev pub RuleErrorsArePlaced : Type 0
RuleErrorsArePlaced =
    (ps : List Position) (e : Setting) → TemplatesStandAt e (Contains ps) → (d id : ℕ) (r : RuleTree) (n : ℕ) (s : Scope) → RuleStandsAt (Contains ps) r → AreAt (Contains ps) (wrong_of (rule_step e d id r n s))
