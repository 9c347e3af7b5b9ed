-- The function of typing is what steps make where nothing is wrong, and gives nothing where something is.
use Rattle.std.specs.Prelude.{◌≡◌, ◌≢◌, ◌⊎◌, ℕ, ◌+◌, ◌≤◌, ◌<◌, Bool, true, List, [], ◌∷◌, ◌++◌, length, Option, Some, None, is_some}
use Rattle.model.specs.lists.Syntax.{PatternTree, ExprTree, RuleTree}
use Rattle.model.specs.lists.Tables.{Flags, TermEntry}
use Rattle.model.specs.lists.Setting.{Setting, Scope, term_of, template_in}
use Rattle.model.specs.lists.Expansions.{substituted}
use Rattle.model.specs.lists.Typings.{Typing}
use Rattle.model.specs.lists.Formed.{pattern_type}
use Rattle.model.specs.rules.Typed.{TypedPattern}
use Rattle.model.specs.lists.Elaborated.{elaborated_pattern, elaborated_expr, most_expansions, TypedRules}
use Rattle.model.specs.claims.Refusals.{NamedLimit, of_nesting, of_expansions}
use Rattle.laws_errors.specs.AllMade.{all_made, rule_reading, rule_within, rules_within}
use Rattle.laws_errors.specs.Steps.{Mistake, Step, went_on, stopped}
use Rattle.laws_errors.specs.PatternSteps.{pattern_step, deeper_step}
use Rattle.laws_errors.specs.ExprSteps.{expr_step, deeper_expr_step}
use Rattle.laws_errors.specs.RuleSteps.{RuleError, errors_of, rule_step, step_of_rule, RulesStep, rules_step}

-- what takes more expansions than may be, behind so many
abbrev pub TakesTooMany : {X : Type 0} → ℕ → Option (Typing X) → Type 0
TakesTooMany {X} n o = (a : Typing X) → o ≡ Some a → most_expansions < n + a.expansions

-- behind so many expansions, a step and what the function of typing says of the same: the step goes on with nothing wrong, and makes
-- this; something is wrong, and it says None, also where a limit stops the step later; or a limit stops it first, and there is none
-- within the limits
pub data Agrees {X : Type 0} (n : ℕ) : Step X → Option (Typing X) → Type 0 where
  is_read : (x : X) (s : Scope) (k : ℕ) → n + k ≤ most_expansions → Agrees n (went_on (Some x) s k []) (Some (record { made = x; scope = s; expansions = k }))
  is_wrong : (m : Option X) (s : Scope) (k : ℕ) (w : Mistake) (ws : List Mistake) → Agrees n (went_on m s k (w ∷ ws)) None
  is_stopped : (l : NamedLimit) (s : Scope) (o : Option (Typing X)) → TakesTooMany n o → Agrees n (stopped l s []) o
  is_stopped_later : (l : NamedLimit) (s : Scope) (w : Mistake) (ws : List Mistake) → Agrees n (stopped l s (w ∷ ws)) None

-- at one depth it is this typing, and at any other depth nothing else
pub record IsOnlyTyping {X : Type 0} (o : ℕ → Option (Typing X)) (d : ℕ) (a : Typing X) : Type 0 where
  pub here : o d ≡ Some a
  pub elsewhere : (c : ℕ) → (o c ≡ None) ⊎ (o c ≡ Some a)

-- what is made without an expansion, or with as many as may be made
abbrev pub FitsBehind : ℕ → ℕ → Type 0
FitsBehind n k = (k ≡ 0) ⊎ (n + k ≤ most_expansions)

-- behind n expansions, a step where d more may nest, and what the function of typing says of the same at each depth: the step goes on
-- with nothing wrong, and makes what the function makes there, and no other depth makes anything else; something is wrong, and no
-- depth makes anything, also where a limit stops the step later; or a limit stops it first: none is made at this depth, or at each
-- depth it takes too many
pub data AgreesAtDepths {X : Type 0} (n d : ℕ) (o : ℕ → Option (Typing X)) : Step X → Type 0 where
  only_read : (x : X) (s : Scope) (k : ℕ) → FitsBehind n k → IsOnlyTyping o d (record { made = x; scope = s; expansions = k }) → AgreesAtDepths n d o (went_on (Some x) s k [])
  never_read : (m : Option X) (s : Scope) (k : ℕ) (w : Mistake) (ws : List Mistake) → ((c : ℕ) → o c ≡ None) → AgreesAtDepths n d o (went_on m s k (w ∷ ws))
  too_deep : (s : Scope) → o d ≡ None → AgreesAtDepths n d o (stopped of_nesting s [])
  too_long : (s : Scope) → ((c : ℕ) → TakesTooMany n (o c)) → AgreesAtDepths n d o (stopped of_expansions s [])
  never_read_later : (l : NamedLimit) (s : Scope) (w : Mistake) (ws : List Mistake) → ((c : ℕ) → o c ≡ None) → AgreesAtDepths n d o (stopped l s (w ∷ ws))

-- what the function makes is of the type asked for
abbrev pub MadeAtTypes : Setting → Bool → Type 0
MadeAtTypes e multi = (d : ℕ) (p : PatternTree) (ty : ℕ) (s : Scope) (a : Typing TypedPattern) → elaborated_pattern e multi d p ty s ≡ Some a → pattern_type a.made ≡ ty

-- templates use no argument that their terms haven't, as those of terms that were read
abbrev pub TemplatesAreWhole : Setting → Type 0
TemplatesAreWhole e =
    (s : Scope) (x : List ℕ) (t : TermEntry) (template : PatternTree) (given : List PatternTree) → term_of e s x ≡ Some t → template_in e t.kind ≡ Some template → length given ≡ length t.arg_tys → is_some (substituted given template) ≡ true

abbrev pub PatternStepsAgree : Type 0
PatternStepsAgree =
    (e : Setting) (multi : Bool) → TemplatesAreWhole e → (d : ℕ) (p : PatternTree) (ty n : ℕ) (s : Scope) → n ≤ most_expansions
    → Agrees n (pattern_step e multi (deeper_step e multi d) p ty n s) (elaborated_pattern e multi d p ty s)

abbrev pub PatternStepsAgreeAtDepths : Type 0
PatternStepsAgreeAtDepths =
    (e : Setting) (multi : Bool) → TemplatesAreWhole e → (d : ℕ) (p : PatternTree) (ty n : ℕ) (s : Scope)
    → AgreesAtDepths n d (λ c. elaborated_pattern e multi c p ty s) (pattern_step e multi (deeper_step e multi d) p ty n s)

abbrev pub ExprStepsAgree : Type 0
ExprStepsAgree =
    (e : Setting) (flags : Flags) (d : ℕ) (x : ExprTree) (ty : Option ℕ) (n : ℕ) (s : Scope) → n ≤ most_expansions
    → Agrees n (expr_step e flags (deeper_expr_step e flags d) x ty n s) (elaborated_expr (all_made e) flags d x ty s)

abbrev pub ExprStepsAgreeAtDepths : Type 0
ExprStepsAgreeAtDepths =
    (e : Setting) (flags : Flags) (d : ℕ) (x : ExprTree) (ty : Option ℕ) (n : ℕ) (s : Scope)
    → AgreesAtDepths n d (λ c. elaborated_expr (all_made e) flags c x ty s) (expr_step e flags (deeper_expr_step e flags d) x ty n s)

abbrev pub RuleStepsAgree : Type 0
RuleStepsAgree =
    (e : Setting) → TemplatesAreWhole e → (d id : ℕ) (r : RuleTree) (n : ℕ) (s : Scope) → n ≤ most_expansions → Agrees n (rule_step e d id r n s) (rule_reading e d id r s)

abbrev pub RuleStepsAgreeAtDepths : Type 0
RuleStepsAgreeAtDepths =
    (e : Setting) → TemplatesAreWhole e → (d id : ℕ) (r : RuleTree) (n : ℕ) (s : Scope) → AgreesAtDepths n d (λ c. rule_reading e c id r s) (rule_step e d id r n s)

-- a list has no error exactly where all its rules are typed within the limits, and then these rules are made
pub data ListAgrees : RulesStep → Option TypedRules → Type 0 where
  all_read : (l : TypedRules) → ListAgrees (record { rules = l.rules; names = l.names; errors = [] }) (Some l)
  some_wrong : (l : RulesStep) → l.errors ≢ [] → ListAgrees l None

abbrev pub RulesStepsAgree : Type 0
RulesStepsAgree = (e : Setting) → TemplatesAreWhole e → (rs : List RuleTree) (id : ℕ) (names : List (List ℕ)) → ListAgrees (rules_step e rs id names) (rules_within e id rs names)

-- the first error is the first one of a rule that isn't typed within the limits, though the rules before it are
pub record FirstErrorIsOf (e : Setting) (trees : List RuleTree) (id : ℕ) (names : List (List ℕ)) (error : RuleError) (rest : List RuleError) : Type 0 where
  pub before : List RuleTree
  pub rule : RuleTree
  pub after : List RuleTree
  pub parts : trees ≡ before ++ rule ∷ after
  pub read : TypedRules
  pub typed : rules_within e id before names ≡ Some read
  pub untyped : rule_within e (id + length before) rule read.names ≡ None
  pub own : List RuleError
  pub later : List RuleError
  pub said : errors_of rule.at (step_of_rule e (id + length before) rule read.names) ≡ error ∷ own
  pub others : rest ≡ own ++ later

abbrev pub FirstErrorIsTheBreach : Type 0
FirstErrorIsTheBreach =
    (e : Setting) → TemplatesAreWhole e → (trees : List RuleTree) (id : ℕ) (names : List (List ℕ)) (error : RuleError) (rest : List RuleError) → (rules_step e trees id names).errors ≡ error ∷ rest → FirstErrorIsOf e trees id names error rest
