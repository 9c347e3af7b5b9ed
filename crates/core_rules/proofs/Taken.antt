-- What the work does as steps say, by each way in which a step goes on.
use Rattle.std.proofs.Common.{◌≡◌, ℕ, suc, ◌+◌, Bool, List, [], ◌∷◌, ◌++◌, Option, Some, None, option_map, Result, Ok, Err, refl, sym, ap, subst, ◌∙◌, arith}
use Rattle.std.proofs.lemmas.List.{map-append}
use Rattle.std.proofs.lemmas.Grind.{common_steps}
use Rattle.model.specs.lists.Syntax.{Position}
use Rattle.model.specs.lists.Setting.{Setting, Scope}
use Rattle.model.specs.claims.Refusals.{NamedLimit, of_nesting, of_expansions}
use Rattle.laws_errors.specs.Steps.{Why, Mistake, Step, went_on, stopped, unless, here, noting, made_step, counted_step, joined_step, then_step}
use Rattle.core_syntax.specs.declared.syntax.Error.{Error}
use Rattle.core_syntax.proofs.NotedErrors.{may_both}
use Rattle.core_types.specs.Envs.{names_of}
use Rattle.core_typed.specs.Elaborating.{place_unless, NotesEachAt}
use Rattle.core_typed.proofs.NotedErrors.{both_at}
use Rattle.core_rules.specs.declared.term_env.TermEnv.{TermEnv}
use Rattle.core_rules.specs.declared.typing.progress.Stop.{Stop}
use Rattle.core_rules.specs.declared.typing.progress.Stop.TheVariants.{Memory, Nesting, Expansions}
use Rattle.core_rules.specs.PatternTaking.{made_end}
use Rattle.core_rules.specs.Taking.{Stepping, MadeOrLimit, places_of, Took, took, ended, EndsAs, StopsBy, Takes, LeadsOn}
use Rattle.core_rules.specs.ShownSettings.{Standing, Keeps, Shows}
use Rattle.core_rules.proofs.Readings.{keep_setting}

-- 1. errors
places_unless : (b : Bool) (why : Why) (at : Position) → places_of (unless b why at) ≡ place_unless b at
places_unless b why at = grind (arith, common_steps)

pub unless_at : (b : Bool) (why : Why) (at : Position) (a c : List Error) → NotesEachAt (place_unless b at) a c → NotesEachAt (places_of (unless b why at)) a c
unless_at b why at a c n = subst (λ ps. NotesEachAt ps a c) (sym (places_unless b why at)) n

pub behind : (ws es : List Mistake) (a b c : List Error) → NotesEachAt (places_of ws) a b → NotesEachAt (places_of es) b c → NotesEachAt (places_of (ws ++ es)) a c
behind ws es a b c n m = subst (λ ps. NotesEachAt ps a c) (sym (map-append (λ (w : Mistake). w.at) ws es)) (both_at (places_of ws) (places_of es) a b c n m)

module _ {Q : Type 0} where
  -- 2. what a step says, to be computed with
  abbrev pub Goes : Standing → Standing → Step Q → MadeOrLimit Q → Type 0
  Goes old new (went_on m s k ws) (Ok r) = (m ≡ r) × NotesEachAt (places_of ws) old.work.errors.items new.work.errors.items × Shows new s × (new.work.expansions ≡ old.work.expansions + k)
  Goes old new (went_on m s k ws) (Err l) = ⊥
  Goes old new (stopped l s ws) (Ok r) = ⊥
  Goes old new (stopped l s ws) (Err j) = (l ≡ j) × NotesEachAt (places_of ws) old.work.errors.items new.work.errors.items × (names_of new.tyenv ≡ s.names)

  pub seen : (old new : Standing) (t : Step Q) (r : MadeOrLimit Q) → Took old new t r → Goes old new t r
  seen old new t r h = grind (arith, common_steps)

  pub taken_as : (old new : Standing) (m r : Option Q) (s : Scope) (k : ℕ) (ws : List Mistake) → m ≡ r → NotesEachAt (places_of ws) old.work.errors.items new.work.errors.items → Shows new s
      → new.work.expansions ≡ old.work.expansions + k → Took old new (went_on m s k ws) (Ok r)
  taken_as old new m r s k ws same n sh c = subst (λ (x : Option Q). Took old new (went_on m s k ws) (Ok x)) same (took m s k ws n sh c)

  -- 3. at once
  -- what is wrong first
  pub noted : (old mid new : Standing) (ws : List Mistake) → NotesEachAt (places_of ws) old.work.errors.items mid.work.errors.items → mid.work.expansions ≡ old.work.expansions
      → (t : Step Q) (r : MadeOrLimit Q) → Took mid new t r → Took old new (noting ws t) r
  noted old mid new ws h xs _ _ (took m s k es n sh c) =
      took m s k (ws ++ es) (behind ws es old.work.errors.items mid.work.errors.items new.work.errors.items h n) sh (c ∙ ap (λ (j : ℕ). j + k) xs)
  noted old mid new ws h xs _ _ (ended l s es n names) = ended l s (ws ++ es) (behind ws es old.work.errors.items mid.work.errors.items new.work.errors.items h n) names

  pub noted_twice : (old mid new : Standing) (w : Mistake) (ws : List Mistake) → NotesEachAt (w.at ∷ places_of ws) old.work.errors.items mid.work.errors.items → mid.work.expansions ≡ old.work.expansions
      → (t : Step Q) (r : MadeOrLimit Q) → Took mid new t r → Took old new (noting (w ∷ []) (noting ws t)) r
  noted_twice old mid new w ws h xs _ _ (took m s k es n sh c) =
      took m s k (w ∷ (ws ++ es)) (behind (w ∷ ws) es old.work.errors.items mid.work.errors.items new.work.errors.items h n) sh (c ∙ ap (λ (j : ℕ). j + k) xs)
  noted_twice old mid new w ws h xs _ _ (ended l s es n names) = ended l s (w ∷ (ws ++ es)) (behind (w ∷ ws) es old.work.errors.items mid.work.errors.items new.work.errors.items h n) names

  -- what hangs on a test is made either way
  pub tested : (old new : Standing) (b : Bool) (why : Why) (at : Position) (q r : Q) (s : Scope) → q ≡ r → NotesEachAt (place_unless b at) old.work.errors.items new.work.errors.items → Shows new s
      → new.work.expansions ≡ old.work.expansions → Took old new (noting (unless b why at) (here q s)) (Ok (Some r))
  tested old new b why at q r s same n sh c = grind (arith, common_steps, taken_as, unless_at)

  -- one expansion more
  pub counted : (old mid new : Standing) → mid.work.errors.items ≡ old.work.errors.items → mid.work.expansions ≡ old.work.expansions + 1 → (t : Step Q) (r : MadeOrLimit Q) → Took mid new t r → Took old new (counted_step t) r
  counted old mid new es xs _ _ (took m s k ws n sh c) = took m s (suc k) ws (subst (λ v. NotesEachAt (places_of ws) v new.work.errors.items) es n) sh (omega (arith, c, xs))
  counted old mid new es xs _ _ (ended l s ws n names) = ended l s ws (subst (λ v. NotesEachAt (places_of ws) v new.work.errors.items) es n) names

  -- what goes on from a scope without an expansion, behind what went before
  pub later : (old mid new : Standing) (m : Option Q) (u : Scope) (k : ℕ) (ws es : List Mistake) → NotesEachAt (places_of ws) old.work.errors.items mid.work.errors.items → mid.work.expansions ≡ old.work.expansions + k
      → (r : MadeOrLimit Q) → Goes mid new (went_on m u 0 es) r → Took old new (went_on m u k (ws ++ es)) r
  later old mid new m u k ws es h xs r y = grind (arith, taken_as, behind)

-- the same of what was made
pub made : {P Q : Type 0} (f : P → Q) (old new : Standing) (t : Step P) (r : MadeOrLimit P) → Took old new t r → Took old new (made_step f t) (made_end f r)
made f old new _ _ (took m s k ws n sh c) = took (option_map f m) s k ws n sh c
made f old new _ _ (ended l s ws n names) = ended l s ws n names

-- 4. one part, then the next
-- what is made of a part and of what follows it
abbrev pub joined_end : {X Y Z : Type 0} → (Option X → Y → Z) → Option X → MadeOrLimit Y → MadeOrLimit Z
joined_end g m (Ok None) = Ok None
joined_end g m (Ok (Some y)) = Ok (Some (g m y))
joined_end g m (Err l) = Err l

module _ {X Y Z : Type 0} (g : Option X → Y → Z) where
  pub joined : (old mid new : Standing) (m : Option X) (k : ℕ) (ws : List Mistake) → NotesEachAt (places_of ws) old.work.errors.items mid.work.errors.items → mid.work.expansions ≡ old.work.expansions + k
      → (t : Step Y) (r : MadeOrLimit Y) → Took mid new t r → Took old new (noting ws (joined_step g m k t)) (joined_end g m r)
  joined old mid new m k ws h xs _ _ (took None s j es n sh c) =
      took None s (k + j) (ws ++ es) (behind ws es old.work.errors.items mid.work.errors.items new.work.errors.items h n) sh (omega (arith, c, xs))
  joined old mid new m k ws h xs _ _ (took (Some y) s j es n sh c) =
      took (Some (g m y)) s (k + j) (ws ++ es) (behind ws es old.work.errors.items mid.work.errors.items new.work.errors.items h n) sh (omega (arith, c, xs))
  joined old mid new m k ws h xs _ _ (ended l s es n names) = ended l s (ws ++ es) (behind ws es old.work.errors.items mid.work.errors.items new.work.errors.items h n) names

  module _ (old mid new : Standing) (next : Option X → ℕ → Scope → Step Y) (m : Option X) (r : MadeOrLimit Y) (rest : (u : Scope) → Shows mid u → Took mid new (next m mid.work.expansions u) r) where
    went : (t : Step X) → Goes old mid t (Ok m) → Took old new (then_step g t (λ o u k. next o (old.work.expansions + k) u)) (joined_end g m r)
    went t x = grind (arith, common_steps, joined old mid new)

    pub in_order : (t : Step X) → Took old mid t (Ok m) → Took old new (then_step g t (λ o u k. next o (old.work.expansions + k) u)) (joined_end g m r)
    in_order t h = went t (seen old mid t (Ok m) h)

  -- the first part ended the work
  first_ended : (old new : Standing) (next : Option X → Scope → ℕ → Step Y) (l : NamedLimit) (t : Step X) → Goes old new t (Err l) → Took old new (then_step g t next) (Err l)
  first_ended old new next l (went_on o u k ws) x = absurd x
  first_ended old new next l (stopped j u ws) x = subst (λ (i : NamedLimit). Took {Q = Z} old new (stopped j u ws) (Err i)) x.0 (ended j u ws x.1 x.2)

  pub first_stops : (old new : Standing) (next : Option X → Scope → ℕ → Step Y) (l : NamedLimit) (t : Step X) → Took old new t (Err l) → Took old new (then_step g t next) (Err l)
  first_stops old new next l t h = first_ended old new next l t (seen old new t (Err l) h)

-- 5. whole calls
-- of what a call did something is made
module _ {P Q : Type 0} (f : P → Q) (env : TermEnv) (old new : Standing) (steps : Stepping P) where
  pub made_ends : (r : MadeOrLimit P) → EndsAs env old new steps r → EndsAs env old new (λ e n s. made_step f (steps e n s)) (made_end f r)
  made_ends r h = (h.0, λ e s is sh. made f old new (steps e old.work.expansions s) r (h.1 e s is sh))

  pub made_stopped : (stop : Stop) → StopsBy env old new steps stop → StopsBy env old new (λ e n s. made_step f (steps e n s)) stop
  made_stopped (Memory a) h = tt
  made_stopped Nesting h = made_ends (Err of_nesting) h
  made_stopped Expansions h = made_ends (Err of_expansions) h

-- the rest was done
module _ {P Q : Type 0} (env : TermEnv) (old mid new : Standing) (same : mid.tyenv ≡ old.tyenv) (whole : Stepping Q) (rest : Stepping P) (become : MadeOrLimit P → MadeOrLimit Q) (on : LeadsOn env old mid whole rest become) where
  pub rest_ends : (r : MadeOrLimit P) → EndsAs env mid new rest r → EndsAs env old new whole (become r)
  rest_ends r h = grind (arith, common_steps, may_both)

  pub rest_stops : ((l : NamedLimit) → become (Err l) ≡ Err l) → (stop : Stop) → StopsBy env mid new rest stop → StopsBy env old new whole stop
  rest_stops ends (Memory a) h = tt
  rest_stops ends Nesting h = subst (EndsAs env old new whole) (ends of_nesting) (rest_ends (Err of_nesting) h)
  rest_stops ends Expansions h = subst (EndsAs env old new whole) (ends of_expansions) (rest_ends (Err of_expansions) h)

pub expansion_done : {X Q : Type 0} (env : TermEnv) (old mid new : Standing) → mid.tyenv ≡ old.tyenv → (whole made : Stepping Q) (view : X → Option Q) → LeadsOn env old mid whole made (λ r. r)
    → (r : Result X Stop) → Takes env mid new made view r → Takes env old new whole view r
expansion_done env old mid new same whole made view on (Ok x) h = rest_ends env old mid new same whole made (λ r. r) on (Ok (view x)) h
expansion_done env old mid new same whole made view on (Err stop) h = rest_stops env old mid new same whole made (λ r. r) on (λ l. refl) stop h

-- a list is read on by one part
module _ {X Y Z : Type 0} (g : Option X → Y → Y) (env : TermEnv) (old mid new : Standing) (keeps : Keeps old.tyenv mid.tyenv) (whole : Stepping Z) (first : Stepping X) (rest later : Stepping Y)
    (law : (e : Setting) (n : ℕ) (u : Scope) → rest e n u ≡ then_step g (first e n u) (λ m t k. later e (n + k) t)) (become : MadeOrLimit Y → MadeOrLimit Z) (so_far : LeadsOn env old mid whole rest become) where
  pub one_on : (m : Option X) (then_as : MadeOrLimit Y → MadeOrLimit Z) → ((r : MadeOrLimit Y) → become (joined_end g m r) ≡ then_as r) → EndsAs env mid new first (Ok m) → LeadsOn env old new whole later then_as
  one_on m then_as grows h = (
    may_both old.work.errors.items mid.work.errors.items new.work.errors.items so_far.0 h.0,
    λ e s is sh after r more.
        subst (Took old after (whole e old.work.expansions s)) (grows r)
        (so_far.1 e s is sh after (joined_end g m r)
        (λ u shown. subst (λ t. Took mid after t (joined_end g m r)) (sym (law e mid.work.expansions u))
        (in_order g mid new after (λ o n t. later e n t) m r more (first e mid.work.expansions u) (h.1 e u (keep_setting env old.tyenv mid.tyenv e keeps is) shown)))),
  )

  one_ends : (l : NamedLimit) → become (Err l) ≡ Err l → EndsAs env mid new first (Err l) → EndsAs env old new whole (Err l)
  one_ends l ends h = grind (arith, common_steps, may_both, first_stops, later, keep_setting)

  pub one_stops : ((l : NamedLimit) → become (Err l) ≡ Err l) → (stop : Stop) → StopsBy env mid new first stop → StopsBy env old new whole stop
  one_stops ends (Memory a) h = tt
  one_stops ends Nesting h = one_ends of_nesting (ends of_nesting) h
  one_stops ends Expansions h = one_ends of_expansions (ends of_expansions) h
