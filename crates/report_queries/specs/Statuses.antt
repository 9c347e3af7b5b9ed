-- What the program's status says of the definitions that were lowered.
use Rattle.std.specs.Prelude.{ℕ, ◌≡◌, Bool, List}
use Rattle.cranelift_isle.specs.Syntax.{Definition}
use Rattle.cranelift_isle.specs.Lowerings.{AreAccepted}
use Rattle.report_queries.specs.declared.answers.TreesOrErrors.{TreesOrErrors}
use Rattle.report_queries.specs.declared.answers.TreesOrErrors.TheVariants.{Trees, Errors}

-- accepted definitions have trees, which are written (0) or can't be (4); others have errors (1)
pub record IsStatusOf (defs : List Definition) (expand : Bool) (status : ℕ) : Type 0 where
  pub written : status ≡ 0 → AreAccepted defs expand
  pub refused : status ≡ 1 → AreAccepted defs expand → ⊥
  pub unwritten : status ≡ 4 → AreAccepted defs expand

-- the text of trees is made of accepted definitions, that of errors of others
abbrev pub IsAnswerTo : List Definition → Bool → TreesOrErrors → Type 0
IsAnswerTo defs expand (Trees text) = AreAccepted defs expand
IsAnswerTo defs expand (Errors text) = AreAccepted defs expand → ⊥
