-- Facts as a tree: each link is a fact after others, and a trail is the facts of a link and of all before it, the last one first.
use Rattle.std.specs.Prelude.{◌≡◌, ℕ, zero, suc, Bool, true, List, [], ◌∷◌, map, Option, Some, None, length, nat_lt, slice_get}
use Rattle.model_questions.specs.Formulas as M
use Rattle.spec_cases.specs.declared.trails.Link.{Link}
use Rattle.spec_cases.specs.declared.trails.Trail.{Trail}
use Rattle.spec_cases.specs.declared.trails.Trail.TheVariants as T
use Rattle.spec_cases.specs.Namings.{Naming, fact_of}

-- by what the facts are that each link ends
abbrev pub trail_of : (ℕ → List M.Fact) → Trail → List M.Fact
trail_of s T.Start = []
trail_of s (T.To n) = s n.0

abbrev pub trails_in : (ℕ → List M.Fact) → List Trail → List (List M.Fact)
trails_in s ts = map (trail_of s) ts

-- each link ends its fact after the others
pub record AreTrails (v : Naming) (s : ℕ → List M.Fact) (links : List Link) : Type 0 where
  pub linked : (n : ℕ) (x : Link) → slice_get links n ≡ Some x → s n ≡ fact_of v x.fact ∷ trail_of s x.before

-- a link is added, and what was there ends what it ended; whatever facts stand for, P is so
abbrev pub Extends : List Link → List Link → (Naming → (ℕ → List M.Fact) → Type 0) → Type 0
Extends old new P = (v : Naming) (s : ℕ → List M.Fact) → AreTrails v s new → AreTrails v s old × P v s

-- each link is after earlier ones
abbrev pub trail_within : ℕ → Trail → Bool
trail_within count T.Start = true
trail_within count (T.To n) = nat_lt n.0 count

abbrev pub AreEarlier : List Link → Type 0
AreEarlier links = (n : ℕ) (x : Link) → slice_get links n ≡ Some x → trail_within n x.before ≡ true

-- by what the others end
abbrev pub trail_by : Naming → (ℕ → List M.Fact) → Option Link → List M.Fact
trail_by v s None = []
trail_by v s (Some x) = fact_of v x.fact ∷ trail_of s x.before

module _ (v : Naming) (links : List Link) where
  -- so many links back
  abbrev pub trails_at : ℕ → ℕ → List M.Fact
  trails_at zero n = []
  trails_at (suc k) n = trail_by v (trails_at k) (slice_get links n)

  -- no trail has more links than there are
  abbrev pub trails_of : ℕ → List M.Fact
  trails_of = trails_at (suc (length links))
