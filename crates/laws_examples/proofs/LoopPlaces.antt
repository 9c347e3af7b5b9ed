-- A place inside of a loop over a call: site 1 is the call, which was bound, and site 2 the answer that the loop brought.
use Rattle.std.proofs.Common.{◌≡◌, ◌||◌, ◌==◌, ◌∷◌, [], ℕ, Bool, true, false, Some, All, IsTrue, is_some, refl, sym, subst, eqb-true, arith}
use Rattle.std.proofs.lemmas.Bool.{false≢true}
use Rattle.std.proofs.lemmas.Option.{none-some}
use Rattle.model.specs.rules.Meaning.{Content}
use Rattle.model.specs.rules.Picks.{Pick}
use Rattle.model.specs.trees.Collects.{IsPureAt, content_at}
use Rattle.model.specs.trees.Places.{Around, all_below, is_in, nothing_around}
use Rattle.model.specs.trees.Run.{Env, World, used}
use Rattle.model.specs.trees.SetRuns.{IsReachedUnder}

abbrev pub in_loop : Around
in_loop = record nothing_around { looped = 1 ∷ []; brought = 2 ∷ []; emitted = 2 ∷ (1 ∷ []) }

abbrev pub loop_env : Content → Content → Env
loop_env answers first = (2, first) ∷ ((1, answers) ∷ [])

-- what is used there holds its content, and no impure call was made
pub record HoldsThere (w : World) (k : Pick) (env : Env) (c : Content) (s : ℕ) : Type 0 where
  pub content : content_at w k s ≡ Some c
  pub as_used : used w env s ≡ content_at w k s
  pub pure : All (IsPureAt w.sites) (all_below w.sites (s ∷ []))

abbrev pub emitted_there : ℕ → Type 0
emitted_there s = IsTrue (is_in s in_loop.emitted)

-- the list that the loop's call answers, and the answer that the loop brought, as they are held there
pub record InLoop (w : World) (k : Pick) : Type 0 where
  pub answers : Content
  pub first : Content
  pub call : HoldsThere w k (loop_env answers first) answers 1
  pub answer : HoldsThere w k (loop_env answers first) first 2

module _ (w : World) (k : Pick) (at : InLoop w k) where
  abbrev Held : ℕ → Type 0
  Held s = (IsTrue (is_some (content_at w k s)) × (used w (loop_env at.answers at.first) s ≡ content_at w k s)) × All (IsPureAt w.sites) (all_below w.sites (s ∷ []))

  held : (s : ℕ) → emitted_there s → Held s
  held s h = split (2 == s) (1 == s) refl refl h
    where
      split : (a b : Bool) → (2 == s) ≡ a → (1 == s) ≡ b → (a || (b || false)) ≡ true → Held s
      split true b e f t = subst Held (eqb-true 2 s e) ((subst (λ o. IsTrue (is_some o)) (sym at.answer.content) refl, at.answer.as_used), at.answer.pure)
      split false true e f t = subst Held (eqb-true 1 s f) ((subst (λ o. IsTrue (is_some o)) (sym at.call.content) refl, at.call.as_used), at.call.pure)
      split false false e f t = absurd (false≢true t)

  pub reached_in_loop : IsReachedUnder w k in_loop (loop_env at.answers at.first)
  reached_in_loop = record { emitted = λ s h. (held s h).0; pure = λ s h. (held s h).1; bound = grind (arith, eqb-true, none-some) }
