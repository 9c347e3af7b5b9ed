-- Reading goes on from one environment to the next: nothing was noted, or an error was.
use Rattle.std.proofs.Common.{◌≡◌, ◌≢◌, List, [], sym, ◌∙◌, arith}
use Rattle.std.proofs.lemmas.Grind.{common_steps}
use Rattle.core_syntax.specs.declared.syntax.Error.{Error}
use Rattle.core_types.specs.declared.type_env.TypeEnv.{TypeEnv}
use Rattle.core_types.specs.Envs.{IsInterned}
use Rattle.core_types.specs.Stages.{ReadsSoFar}

module _ (K L A B : TypeEnv → Type 0) (old new : TypeEnv) (es es' : List Error) (i : IsInterned new) (knows : K old → L new) where
  -- what was right of the old environment makes this right of the new one
  pub reads_on : es' ≡ es → (A old → B new) → ReadsSoFar K A old es → ReadsSoFar L B new es'
  reads_on same right s = record { inverse = i; knows = knows s.knows; right = λ none. right (s.right (sym same ∙ none)) }

  -- where there is an error nothing has to be right
  pub reads_wrong : es' ≢ [] → ReadsSoFar K A old es → ReadsSoFar L B new es'
  reads_wrong some s = record { inverse = i; knows = knows s.knows; right = λ none. absurd (some none) }

-- nothing was noted, and the environment is the same
pub reads_same : (K L A B : TypeEnv → Type 0) (old new : TypeEnv) (es es' : List Error) → (es' ≡ es) × (new ≡ old) → (K old → L old) → (A old → B old) → ReadsSoFar K A old es → ReadsSoFar L B new es'
reads_same K L A B old new es es' same knows right s = grind (arith, common_steps, reads_on K L A B old old es es' s.inverse knows same.0 right s)
