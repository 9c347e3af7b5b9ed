-- What a call does to the work on a rule, by what a step of its reading says: which errors it notes, in order, and from where the
-- reading goes on. It is said of each setting and scope that the tables and the work show.
use Rattle.std.specs.Prelude.{◌≡◌, ℕ, ◌+◌, List, map, Option, Result, Ok, Err, ⊤}
use Rattle.core_syntax.specs.NotedErrors.{MayNoteMore}
use Rattle.model.specs.lists.Syntax.{Position}
use Rattle.model.specs.lists.Setting.{Setting, Scope}
use Rattle.model.specs.claims.Refusals.{NamedLimit, of_nesting, of_expansions}
use Rattle.laws_errors.specs.Steps.{Mistake, Step, went_on, stopped}
use Rattle.core_types.specs.Envs.{names_of}
use Rattle.core_typed.specs.Elaborating.{NotesEachAt}
use Rattle.core_rules.specs.declared.term_env.TermEnv.{TermEnv}
use Rattle.core_rules.specs.declared.typing.progress.Stop.{Stop}
use Rattle.core_rules.specs.declared.typing.progress.Stop.TheVariants.{Memory, Nesting, Expansions}
use Rattle.core_rules.specs.ShownSettings.{Standing, Shows, Wherever}

-- how something is read: in a setting, behind so many expansions, from a scope
abbrev pub Stepping : Type 0 → Type 0
Stepping Q = Setting → ℕ → Scope → Step Q

-- what was made, if anything; or the limit that ended the work
abbrev pub MadeOrLimit : Type 0 → Type 0
MadeOrLimit Q = Result (Option Q) NamedLimit

-- where what is wrong stands
abbrev pub places_of : List Mistake → List Position
places_of ws = map (λ w. w.at) ws

-- the work did what a step says. Where it went on, the names, the variables and the expansions are those after the step; where a limit
-- ended it, the names met stay. What the step finds wrong was noted, and nothing else
pub data Took {Q : Type 0} (old new : Standing) : Step Q → MadeOrLimit Q → Type 0 where
  took : (m : Option Q) (s : Scope) (k : ℕ) (ws : List Mistake) → NotesEachAt (places_of ws) old.work.errors.items new.work.errors.items → Shows new s → new.work.expansions ≡ old.work.expansions + k
      → Took old new (went_on m s k ws) (Ok m)
  ended : (l : NamedLimit) (s : Scope) (ws : List Mistake) → NotesEachAt (places_of ws) old.work.errors.items new.work.errors.items → names_of new.tyenv ≡ s.names → Took old new (stopped l s ws) (Err l)

-- the work came to this, as the steps say from where it stood. The errors so far stay
abbrev pub EndsAs : {Q : Type 0} → TermEnv → Standing → Standing → Stepping Q → MadeOrLimit Q → Type 0
EndsAs env old new steps r = MayNoteMore old.work.errors.items new.work.errors.items × Wherever env old (λ e s. Took old new (steps e old.work.expansions s) r)

-- it stopped as they say, unless memory was refused
abbrev pub StopsBy : {Q : Type 0} → TermEnv → Standing → Standing → Stepping Q → Stop → Type 0
StopsBy env old new steps (Memory e) = ⊤
StopsBy env old new steps Nesting = EndsAs env old new steps (Err of_nesting)
StopsBy env old new steps Expansions = EndsAs env old new steps (Err of_expansions)

-- a call did what the steps say, unless memory was refused
abbrev pub Takes : {X Q : Type 0} → TermEnv → Standing → Standing → Stepping Q → (X → Option Q) → Result X Stop → Type 0
Takes env old new steps view (Ok x) = EndsAs env old new steps (Ok (view x))
Takes env old new steps view (Err stop) = StopsBy env old new steps stop

-- as far as the work came, the whole did what is said of it if the rest does what is said of that from here on: it comes to the same,
-- but for what is made of it. The errors so far stay
abbrev pub LeadsOn : {P Q : Type 0} → TermEnv → Standing → Standing → Stepping Q → Stepping P → (MadeOrLimit P → MadeOrLimit Q) → Type 0
LeadsOn {P} env old mid whole rest become =
    MayNoteMore old.work.errors.items mid.work.errors.items
    × Wherever env old (λ e s. (new : Standing) (r : MadeOrLimit P) → ((u : Scope) → Shows mid u → Took mid new (rest e mid.work.expansions u) r) → Took old new (whole e old.work.expansions s) (become r))
