-- Expansions that are counted, or that no more may be of.
use Rattle.std.proofs.Common.{◌≡◌, ℕ, zero, suc, ◌+◌, ◌<◌, ◌≤◌, cond, nat_le, [], Err, refl, sym, subst, ◌∙◌, arith}
use Rattle.std.proofs.lemmas.Bool.{lt-leb, le-leb}
use Rattle.std.proofs.lemmas.Grind.{common_steps}
use Rattle.model.specs.lists.Elaborated.{most_expansions}
use Rattle.model.specs.lists.Setting.{Setting, Scope}
use Rattle.model.specs.claims.Refusals.{of_nesting, of_expansions}
use Rattle.laws_errors.specs.Steps.{stopped, counted_step}
use Rattle.core_types.specs.Envs.{names_of}
use Rattle.core_syntax.specs.NotedErrors.{MayNoteMore}
use Rattle.core_typed.proofs.NotedErrors.{none_at}
use Rattle.core_rules.specs.declared.term_env.TermEnv.{TermEnv}
use Rattle.core_rules.specs.declared.typing.progress.Stop.{Stop}
use Rattle.core_rules.specs.declared.typing.progress.Stop.TheVariants.{Memory, Nesting, Expansions}
use Rattle.core_rules.specs.Progress.{CountsOne, Counts}
use Rattle.core_rules.specs.Taking.{Stepping, MadeOrLimit, Took, ended, EndsAs, StopsBy}
use Rattle.core_rules.specs.ShownSettings.{Standing, Shows, Wherever}
use Rattle.core_rules.proofs.Taken.{counted}

-- one expansion was counted, and the scope is that before
pub counted_shows : (old new : Standing) (s : Scope) → names_of new.tyenv ≡ names_of old.tyenv → CountsOne old.work new.work → Shows old s → Shows new s
counted_shows old new s same one sh = grind (arith, common_steps)

-- how what an expansion makes is read, where so many may nest
abbrev pub Nested : Type 0 → Type 0
Nested Q = ℕ → Stepping Q

-- one expansion, where so many may nest, itself among them
abbrev pub expansion : {Q : Type 0} → Nested Q → Nested Q
expansion inner zero e n s = stopped of_nesting s []
expansion inner (suc d) e n s = cond (nat_le most_expansions n) (stopped of_expansions s []) (counted_step (inner d e (suc n) s))

module _ {Q : Type 0} (inner : Nested Q) (e : Setting) (s : Scope) where
  one_deeper : (d left n m : ℕ) → suc left ≡ d → m ≡ n + 1 → m ≤ most_expansions → expansion inner d e n s ≡ counted_step (inner left e m s)
  one_deeper d left n m nests more few = grind (arith, common_steps, lt-leb)

  -- one more was made
  pub went_deeper : (old mid new : Standing) (d left n : ℕ) → suc left ≡ d → n ≡ old.work.expansions → mid.work.expansions ≡ n + 1 → mid.work.errors.items ≡ old.work.errors.items → (r : MadeOrLimit Q)
      → Took mid new (inner left e mid.work.expansions s) r → Took old new (expansion inner d e n s) r
  went_deeper old mid new d left n nests here more same r h = grind (arith, common_steps, one_deeper, counted)

  -- none may be
  too_deep : (old : Standing) (d n : ℕ) → d ≡ 0 → names_of old.tyenv ≡ s.names → Took old old (expansion inner d e n s) (Err of_nesting)
  too_deep old d n none names =
      subst (λ (k : ℕ). Took old old (expansion inner k e n s) (Err of_nesting)) (sym none) (ended of_nesting s [] (none_at old.work.errors.items old.work.errors.items refl) names)

  too_many : (old : Standing) (d n : ℕ) → 0 < d → most_expansions ≤ n → names_of old.tyenv ≡ s.names → Took old old (expansion inner d e n s) (Err of_expansions)
  too_many old zero n some most names = absurd (omega (arith, some))
  too_many old (suc d) n some most names =
      subst (λ b. Took old old (cond b (stopped of_expansions s []) (counted_step (inner d e (suc n) s))) (Err of_expansions)) (sym (le-leb most_expansions n most))
      (ended of_expansions s [] (none_at old.work.errors.items old.work.errors.items refl) names)

-- where none may be the work on the whole stops
pub expansion_stops : {Q : Type 0} (env : TermEnv) (old mid new : Standing) (inner : Nested Q) (d : ℕ) (whole : Stepping Q) → new.tyenv ≡ mid.tyenv → names_of mid.tyenv ≡ names_of old.tyenv
    → mid.work.expansions ≡ old.work.expansions → MayNoteMore old.work.errors.items mid.work.errors.items
    → Wherever env old (λ e s. (r : MadeOrLimit Q) → Took mid mid (expansion inner d e old.work.expansions s) r → Took old mid (whole e old.work.expansions s) r)
    → (stop : Stop) → Counts d mid.work new.work (Err stop) → StopsBy env old new whole stop
expansion_stops env old mid new inner d whole same names count may lift (Memory a) x = absurd x
expansion_stops env old mid new inner d whole same names count may lift Nesting x =
    let moved : mid ≡ new = λ i. record { tyenv = sym same i; work = sym x.1 i } in
    subst (λ (at : Standing). EndsAs env old at whole (Err of_nesting)) moved
    (may, λ e s is sh. lift e s is sh (Err of_nesting) (too_deep inner e s mid d old.work.expansions x.0 (names ∙ sh.names)))
expansion_stops env old mid new inner d whole same names count may lift Expansions x =
    let moved : mid ≡ new = λ i. record { tyenv = sym same i; work = sym x.1 i } in
    subst (λ (at : Standing). EndsAs env old at whole (Err of_expansions)) moved
    (may, λ e s is sh. lift e s is sh (Err of_expansions) (too_many inner e s mid d old.work.expansions x.2 (let m = x.0 in omega (arith, m, count)) (names ∙ sh.names)))
