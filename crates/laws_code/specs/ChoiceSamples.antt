-- A bag of three, what a run with a bound of two collects of it, and near runs that don't. The same beside the whole run.
use Rattle.std.specs.Prelude.{◌∷◌, [], List}
use Rattle.model.specs.rules.Meaning.{Content, nothing, just}
use Rattle.model.specs.rules.Outcome.{Outcome, ended, failed, ran_through, stuck, Ending}
use Rattle.model_code.specs.CodeLaws.{IsCut}
use Rattle.laws_code.specs.Bounds.{KeepsBound}
use Rattle.laws_code.specs.CodeChoices.{CollectsUpTo}

abbrev pub three : List Content
three = nothing ∷ (just nothing ∷ (just (just nothing) ∷ []))

abbrev pub ends_so : Ending → List Content → Outcome
ends_so ending results = record { calls = []; results = results; ending = ending }

abbrev pub gives : List Content → Outcome
gives results = ends_so ended results

abbrev pub first_two : List Content
first_two = nothing ∷ (just nothing ∷ [])

-- the run without a bound gives three, and goes through
abbrev pub whole : Outcome
whole = ends_so ran_through three

pub record BoundsAreKept : Type 0 where
  -- the first two of three, where two are asked for; not one, nor all of them
  pub two : CollectsUpTo 2 (gives first_two) three
  pub one : CollectsUpTo 2 (gives (nothing ∷ [])) three → ⊥
  pub all : CollectsUpTo 2 (gives three) three → ⊥
  -- where four are asked for, three have to be given, and the run goes through
  pub short : CollectsUpTo 4 (gives first_two) three → ⊥
  pub ends : CollectsUpTo 4 (gives three) three → ⊥
  -- where the list is full it returns: it isn't stuck there, doesn't fail, and doesn't go through
  pub stuck_there : CollectsUpTo 2 (ends_so stuck first_two) three → ⊥
  pub failed_there : CollectsUpTo 2 (ends_so failed first_two) three → ⊥
  pub through_there : CollectsUpTo 2 (ends_so ran_through first_two) three → ⊥
  -- the same beside the whole run, cut
  pub cut : IsCut 2 whole (gives first_two)
  pub cut_other : IsCut 2 whole (gives (just nothing ∷ (nothing ∷ []))) → ⊥
  pub cut_stuck : IsCut 2 whole (ends_so stuck first_two) → ⊥
  pub kept : KeepsBound 2 whole (gives first_two)
  pub kept_other : KeepsBound 2 whole (gives (just nothing ∷ (nothing ∷ []))) → ⊥
  pub kept_stuck : KeepsBound 2 whole (ends_so stuck first_two) → ⊥
