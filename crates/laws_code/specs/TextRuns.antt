-- The chain to the text, said once: what is written of accepted definitions is read as code that does what the source rules mean.
use Rattle.std.specs.Prelude.{[], ◌≡◌, ℕ, suc, Bool, true, false, not, List, Some, None, All, Contains}
use Rattle.model.specs.lists.Signatures.{Giving, constructor_gives}
use Rattle.model.specs.lists.Signatures as S
use Rattle.model.specs.lists.Syntax.{Definition}
use Rattle.model.specs.lists.Elaborated.{TypedRules}
use Rattle.model.specs.rules.Program.{Program, flags_of, is_multi, kind, rules_of, terms_with_rules}
use Rattle.model.specs.rules.Choice.{choice}
use Rattle.model.specs.rules.Picks.{bag}
use Rattle.model.specs.trees.Collects.{Collects, HasCollectedResults}
use Rattle.model.specs.claims.Environments.{TypeEnvironment, TermEnvironment}
use Rattle.model.specs.claims.Layers.{own_program, LoweredTerm, LoweringAnswers}
use Rattle.model_code.specs.Code.{Block}
use Rattle.model_code.specs.Notation.{Notation, ReturnForm, gives_one, gives_option, gives_many}
use Rattle.model_code.specs.ProgramNotation.{notation_of}
use Rattle.model_code.specs.Pieces.{ends_function}
use Rattle.model_code.specs.Written.{function_body}
use Rattle.model_code.specs.Spelling.{Names, spelled}
use Rattle.model_code.specs.Lexing.{AreWhole}
use Rattle.model_code.specs.ReadTexts.{IsReadAsCode}
use Rattle.laws_code.specs.AcceptedCode.{OfBestTrees}
use Rattle.laws_code.specs.CodeChoices.{OnServed, CollectsUpTo, MeansItsSource}
use Rattle.laws_code.specs.TypedTrees.{code_by_types}
use Rattle.laws_code.specs.ShownRuns.{ShownExterns, shown_run}
use Rattle.laws_code.specs.ShownLaws.{outcome_by_number, SaysWhatIsAround}
use Rattle.laws_code.specs.CalledAlike.{AreCalledAlike}

-- in a term that isn't multi: among whatever functions, shown code has the outcome of the matching source rule of greatest priority, its
-- result or failure and its impure calls in order, by the numbers of their functions, or no rule, under each meaning that says what the
-- functions answer
abbrev pub ShownRunsAsChosen : Program → ℕ → Notation → Block → Type 0
ShownRunsAsChosen p t n shown =
    is_multi p t ≡ false → (around : ShownExterns) → AreCalledAlike p n around.is_impure
    → OnServed p t (λ m args. SaysWhatIsAround n m around (choice p m (rules_of p t) args).calls
    → shown_run shown (record { around = around; args = args; multi = false }) None ≡ outcome_by_number n (choice p m (rules_of p t) args))

-- in a multi term whose rules make no impure call and leave no multi call of an if-let unused, it collects the bag of the rules'
-- results, and with a bound a part of it up to there
abbrev pub ShownCollectsTheBag : Program → ℕ → Notation → Block → Type 0
ShownCollectsTheBag p t n shown =
    is_multi p t ≡ true → All (HasCollectedResults p) (rules_of p t) → (around : ShownExterns) → AreCalledAlike p n around.is_impure
    → OnServed p t (λ m args. SaysWhatIsAround n m around []
    → Collects (shown_run shown (record { around = around; args = args; multi = true }) None) (bag p m (rules_of p t) args)
    × ((k : ℕ) → CollectsUpTo (suc k) (shown_run shown (record { around = around; args = args; multi = true }) (Some (suc k))) (bag p m (rules_of p t) args)))

-- a text is read as code that does so
pub record SaysItsSource (names : Names) (n : Notation) (p : Program) (t : ℕ) (text : List ℕ) : Type 0 where
  pub shown : Block
  pub read : IsReadAsCode names n text shown
  pub chooses : ShownRunsAsChosen p t n shown
  pub collects : ShownCollectsTheBag p t n shown

-- what the function of a term gives, by the flags that its signature asks
abbrev pub kind_of_giving : Giving → ReturnForm
kind_of_giving S.gives_one = gives_one
kind_of_giving S.gives_one_or_none = gives_option
kind_of_giving S.gives_any_number = gives_many

abbrev pub kind_given : Program → ℕ → ReturnForm
kind_given p t = kind_of_giving (constructor_gives (flags_of (kind p t)))

-- the text of a term of accepted definitions does, where names are read by themselves, and results end the function exactly if the
-- term isn't multi
abbrev pub TextOfAcceptedSaysItsSource : Type 0
TextOfAcceptedSaysItsSource =
    OfBestTrees (λ p l. (names : Names) → AreWhole names → (kind : ReturnForm) (is_logged : Bool) → is_multi p l.term ≡ not (ends_function kind) → (deep : ℕ → Bool) (d : ℕ)
    → SaysItsSource names (notation_of p kind is_logged) p l.term (spelled names (function_body (notation_of p kind is_logged) (code_by_types p l deep d))))

-- the code of a term with rules, and the text of the code by what the term's function gives
pub record HasCodeAndText (names : Names) (is_logged : Bool) (p : Program) (l : LoweredTerm) (deep : ℕ → Bool) (d : ℕ) : Type 0 where
  pub means : MeansItsSource p l (code_by_types p l deep d)
  pub text :
      SaysItsSource names (notation_of p (kind_given p l.term) is_logged) p l.term
      (spelled names (function_body (notation_of p (kind_given p l.term) is_logged) (code_by_types p l deep d)))

-- so each term with rules of what lowering answers has one tree, and its code and text mean what the source rules do
abbrev pub EachTermHasItsText : Type 0
EachTermHasItsText =
    (defs : List Definition) (expand : Bool) (types : TypeEnvironment) (terms : TermEnvironment) (rules : TypedRules) (lowered : List LoweredTerm)
    → LoweringAnswers defs expand types terms rules lowered
    → (t : ℕ) → Contains (terms_with_rules (own_program defs rules)) t
    → (l : LoweredTerm) × Contains lowered l × (l.term ≡ t)
    × ((names : Names) → AreWhole names → (is_logged : Bool) (deep : ℕ → Bool) (d : ℕ) → HasCodeAndText names is_logged (own_program defs rules) l deep d)
