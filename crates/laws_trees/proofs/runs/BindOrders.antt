-- Bind orders one after another, and the contents of available sites.
use Rattle.std.proofs.Common.{◌≡◌, ℕ, zero, suc, true, false, not, ◌&&◌, List, [], ◌∷◌, ◌++◌, is_some, slice_get, All, IsTrue, filter, refl, inl, inr, Contains, arith}
use Rattle.std.specs.List.{list_all}
use Rattle.std.proofs.lemmas.Bool.{and_parts, or_cases, false≢true, not-true}
use Rattle.std.proofs.lemmas.List.Elements.{filter-append}
use Rattle.std.proofs.lemmas.Grind.{common_steps}
use Rattle.model.specs.sites.Sites.{Site, sources_at}
use Rattle.model.specs.trees.Places.{Around, is_in, waits, is_available, is_in_place}
use Rattle.model.specs.rules.Outcome.{Call}
use Rattle.model.specs.trees.Run.{World, Env, Bound, all_bound, then_bind, bind_all}
use Rattle.model.proofs.Members.{each_passes, all_members}
use Rattle.model.specs.rules.Picks.{Pick}
use Rattle.model.specs.trees.Collects.{content_at}
use Rattle.laws_trees.proofs.runs.Contents.{SourcesBefore}
use Rattle.laws_trees.proofs.runs.Below.{IsPureBelow, pure_sources}

-- 1. one bind order after another
after_bound : (w : World) (ss ts : List ℕ) (b : Bound) (go : Env → List Call → Bound)
    → ((env : Env) (calls : List Call) → go env calls ≡ then_bind (bind_all w env calls ss) (λ env' calls'. bind_all w env' calls' ts))
    → then_bind b go ≡ then_bind (then_bind b (λ env calls. bind_all w env calls ss)) (λ env' calls'. bind_all w env' calls' ts)
after_bound w ss ts b go h = grind (arith, common_steps)

pub bind_append : (w : World) (ss ts : List ℕ) (env : Env) (calls : List Call) → bind_all w env calls (ss ++ ts) ≡ then_bind (bind_all w env calls ss) (λ env' calls'. bind_all w env' calls' ts)
bind_append w [] ts env calls = refl
bind_append w (s ∷ ss) ts env calls = grind (arith, common_steps, bind_append w ss ts, after_bound)

-- what waits to be bound
abbrev pub to_bind : List Site → List ℕ → List ℕ
to_bind sites ss = filter (λ s. not (is_in_place (slice_get sites s))) ss

pub bind_last : (w : World) (env env' env'' : Env) (listed : List ℕ) (s : ℕ) → bind_all w env [] (to_bind w.sites listed) ≡ all_bound env' [] → bind_all w env' [] (to_bind w.sites (s ∷ [])) ≡ all_bound env'' []
    → bind_all w env [] (to_bind w.sites (listed ++ s ∷ [])) ≡ all_bound env'' []
bind_last w env env' env'' listed s h k = grind (arith, common_steps, filter-append, bind_append)

-- 2. under a pick, each site that waits for nothing, that no impure call stands at or below, and whose sources have contents
-- has one
abbrev pub Finds : World → Pick → Type 0
Finds w pick = (s : ℕ) → IsPureBelow w.sites s → waits (slice_get w.sites s) ≡ false
    → All (λ a. IsTrue (is_some (content_at w pick a))) (sources_at w.sites s) → IsTrue (is_some (content_at w pick s))

-- an available site that isn't emitted waits for nothing, and its sources are available
module _ (sites : List Site) (ar : Around) (more : (s : ℕ) → is_in s ar.brought ≡ true → is_in s ar.emitted ≡ true) where
  pub opened : (n s : ℕ) → is_available n sites ar.brought s ≡ true → is_in s ar.emitted ≡ false
      → (waits (slice_get sites s) ≡ false) × ((a : ℕ) → Contains (sources_at sites s) a → (m : ℕ) × (is_available m sites ar.brought a ≡ true))
  opened zero s h out = absurd (false≢true h)
  opened (suc n) s h out = grind (arith, common_steps, or_cases, and_parts, not-true, each_passes)

-- an available site has a content
pub available_found : (w : World) (pick : Pick) → SourcesBefore w.sites → Finds w pick → (ar : Around) → ((s : ℕ) → IsTrue (is_in s ar.brought) → IsTrue (is_some (content_at w pick s)))
    → (n s : ℕ) → is_available n w.sites ar.brought s ≡ true → IsPureBelow w.sites s → IsTrue (is_some (content_at w pick s))
available_found w pick before finds ar there zero s a pure = absurd (false≢true a)
available_found w pick before finds ar there (suc n) s a pure =
    elim (or_cases (is_in s ar.brought) (not (waits (slice_get w.sites s)) && list_all (is_available n w.sites ar.brought) (sources_at w.sites s)) a) [
      | inl i ↦ there s i
      | inr r ↦
          let q = and_parts (not (waits (slice_get w.sites s))) (list_all (is_available n w.sites ar.brought) (sources_at w.sites s)) r in
          finds s pure (not-true (waits (slice_get w.sites s)) q.0)
          (all_members (λ x. IsTrue (is_some (content_at w pick x))) (sources_at w.sites s)
          (λ x c. available_found w pick before finds ar there n x (each_passes (is_available n w.sites ar.brought) (sources_at w.sites s) q.1 x c) (pure_sources w.sites before s x c pure)))
    ]
