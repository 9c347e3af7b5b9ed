-- What variables are bound to while a visitor follows the visitor of sites: it goes on, and their ids stay those of their sites.
use Rattle.std.proofs.Common.{◌≡◌, ℕ, ◌==◌, true, List, [], ◌∷◌, Option, Some, None, is_some, if◌then◌else◌, Result, Ok, Err, sym, ap, subst, ⊎_elim, arith}
use Rattle.std.specs.Prelude.{MatchResult}
use Rattle.std.proofs.lemmas.Map.Lookups.{exact_unsigned}
use Rattle.std.proofs.lemmas.Grind.{common_steps}
use Rattle.model.specs.lists.Formed.{var_type}
use Rattle.model.specs.sites.Sites.{SiteTerm}
use Rattle.model.specs.visits.Demands.{Visit, binding, var_site}
use Rattle.model.specs.visits.Runs.{VisitRun, BoundIds, bound_at, with_bound, and_then, refused}
use Rattle.model.proofs.Elements.{some_is}
use Rattle.model.proofs.Numbers.{tied}
use Rattle.laws_sites.proofs.AskedSites.{Same}
use Rattle.laws_sites.specs.Followers.{Follower, Goes, EndsOnTheWay}

-- 1. runs
-- two answers that are one, and an answer that is no fault
pub one_answer : {A F : Type 0} (a b : A) → ◌≡◌ {A = Result A F} (Ok a) (Ok b) → a ≡ b
one_answer a b e = cc

pub no_fault : {A F : Type 0} (a : A) (e : F) → ◌≡◌ {A = Result A F} (Ok a) (Err e) → ⊥
no_fault a e h = cc

-- what a run of two comes to: what the second one does, or the fault of the first
pub by_and_then : {F S A B : Type 0} (m : VisitRun F S A) (k : A → VisitRun F S B) (s : S) (r : Result B F) (t : S) (G : Result B F → Type 0)
    → ((a : A) (u : S) → m s (Ok a) u → k a u r t → G r) → ((e : F) → m s (Err e) t → G (Err e)) → and_then m k s r t → G r
by_and_then m k s r t G f g run = ⊎_elim (λ h. f h.0 h.1 h.2 h.3) (λ h. subst G (sym h.2) (g h.0 h.1)) run

-- memory that is refused
pub refusal : {F S A : Type 0} (want : Option F) (s : S) (r : Result A F) (t : S) → refused want s r t → (e : F) × (want ≡ Some e) × (r ≡ Err e)
refusal want s r t run = grind (arith, common_steps)

-- 2. variables by their numbers
module _ {N : Type 0} where
  pub bound_once : (vs : BoundIds N) (x : ℕ) (n : N) (y : ℕ) → bound_at (with_bound vs x n) y ≡ (if x == y then Some n else bound_at vs y)
  bound_once [] x n y = ap (λ c. if c then Some n else None) (tied y x)
  bound_once (b ∷ vs) x n y = grind (arith, common_steps, bound_once vs x n y, tied, exact_unsigned)

  -- what is bound can be used
  abbrev pub InScope : BoundIds N → List (ℕ × ℕ) → Type 0
  InScope vs vars = (x : ℕ) (n : N) → bound_at vs x ≡ Some n → is_some (var_type vars x) ≡ true

  pub one_more_in_scope : (vs : BoundIds N) (vars : List (ℕ × ℕ)) (x ty : ℕ) (n : N) → InScope vs vars → InScope (with_bound vs x n) ((x, ty) ∷ vars)
  one_more_in_scope vs vars x ty n scope y m e = grind (arith, common_steps, bound_once)

-- 3. where a visitor goes
module _ {F S N : Type 0} (o : Follower F S N) where
  -- each variable is bound to the id of its site
  abbrev pub KnowsVars : S → BoundIds N → Visit → Type 0
  KnowsVars s vs v = (x : ℕ) (n : N) → bound_at vs x ≡ Some n → o.Names s (var_site v x) n

  pub goes_nowhere : (s : S) (v : Visit) → o.Stands s v → Goes o s s v
  goes_nowhere s v h = record { stands = h; kept = λ u n k. k }

  pub goes_further : (s m t : S) (v w : Visit) → Goes o s m v → Goes o m t w → Goes o s t w
  goes_further s m t v w a b = record { stands = b.stands; kept = λ u n k. b.kept u n (a.kept u n k) }

  -- variables that stay, and one more
  pub knows_stay : (s t : S) (vs : BoundIds N) (v w : Visit) → w.vars ≡ v.vars → Goes o s t w → KnowsVars s vs v → KnowsVars t vs w
  knows_stay s t vs v w same g knows x n e = grind (arith, common_steps)

  pub knows_more : (s : S) (vs : BoundIds N) (v : Visit) (x : ℕ) (n : N) (u : SiteTerm) → o.Names s u n → KnowsVars s vs v → KnowsVars s (with_bound vs x n) (binding x u v)
  knows_more s vs v x n u site knows y m e = grind (arith, common_steps, some_is, bound_once)

  -- they stay known where others are bound
  pub knows_on : (s t : S) (vs : BoundIds N) (vars : List (ℕ × ℕ)) (v w : Visit) → InScope vs vars → Same vars v w → Goes o s t w → KnowsVars s vs v → KnowsVars t vs w
  knows_on s t vs vars v w scope same g knows x n e = subst (λ u. o.Names t u n) (sym (same x (scope x n e))) (g.kept (var_site v x) n (knows x n e))

  -- who is refused memory ends
  pub refused_ends : {A T : Type 0} (want : Option F) → EndsOnTheWay o want → (G : A → Type 0) (s : T) (r : Result A F) (t : T) (z : S) (w : Visit) → refused want s r t → MatchResult r G (λ e. o.Ends z w e)
  refused_ends want ends G s r t z w run = grind (arith, common_steps, refusal)
