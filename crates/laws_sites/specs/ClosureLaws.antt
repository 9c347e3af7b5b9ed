-- What theory proves of the closure of demands, and of overlap.
use Rattle.std.specs.Prelude.{[], ◌≡◌, ℕ, true, List, Some, None, slice_get, Contains, ◌↔◌}
use Rattle.std.specs.Bool.{Decides}
use Rattle.model.specs.rules.Typed.{TypedRule}
use Rattle.model.specs.rules.Program.{Program}
use Rattle.model.specs.sites.Sites.{Constraint, SiteTerm, field_terms}
use Rattle.model.specs.visits.Demands.{Demands, demands_of, with_sites}
use Rattle.model.specs.sites.Closure.{Joined, HasConstraint, IsUnreachable, is_unreachable, reported, same_class, class_names, spoken_of, with_constraints, Closed, ClosedIsWhole, next_constrained, closing, before_closing, most_closing_steps, closed}
use Rattle.model.specs.sites.Overlap.{Overlaps, overlaps, IsSubsetPair, is_subset_pair, BuiltRule, is_built, clash, Shadows, shadows}
use Rattle.laws_sites.specs.VisitLaws.{EqualSitesAreMade}

-- a relation between sites is an equivalence
pub record IsEquivalence (R : SiteTerm → SiteTerm → Type 0) : Type 0 where
  pub reflexive : (a : SiteTerm) → R a a
  pub symmetric : (a b : SiteTerm) → R a b → R b a
  pub transitive : (a b c : SiteTerm) → R a b → R b c → R a c

abbrev pub JoinedIsEquivalence : Type 0
JoinedIsEquivalence = (d : Demands) → IsEquivalence (Joined d)

-- classes in which demanded equalities stand, and in which fields of one class with one constraint are of one class
pub record RespectsDemands {X : Type 0} (d : Demands) (class : SiteTerm → X) : Type 0 where
  pub given : (a b : SiteTerm) → Contains d.equalities (a, b) → class a ≡ class b
  pub fields : (a b t x y : SiteTerm) (k : Constraint) (i : ℕ) → class a ≡ class b → class t ≡ class a → Contains d.constraints (t, k)
      → slice_get (field_terms k a) i ≡ Some x → slice_get (field_terms k b) i ≡ Some y → class x ≡ class y

-- sites that must be equal are of one class, whatever such classes are chosen
abbrev pub ClassesBoundJoined : Type 0
ClassesBoundJoined = (d : Demands) (class : SiteTerm → ℕ) → RespectsDemands d class → (a b : SiteTerm) → Joined d a b → class a ≡ class b

-- the test says what is unreachable
abbrev pub VerdictIsExact : Type 0
VerdictIsExact = (d : Demands) → (is_unreachable d ≡ true) ↔ IsUnreachable d

-- nothing is reported of demands exactly where they can be met
abbrev pub ReportsAreExact : Type 0
ReportsAreExact = (order : List SiteTerm) (d : Demands) → (reported order d ≡ []) ↔ (IsUnreachable d → ⊥)

-- of demands that can be met, sites that are spoken of have one name exactly where they must be equal
abbrev pub NamesAreExact : Type 0
NamesAreExact =
    (d : Demands) → (IsUnreachable d → ⊥) → (a b : SiteTerm) → Contains (spoken_of d) a → Contains (spoken_of d) b
    → (same_class (class_names d) a b ≡ true) ↔ Joined d a b

-- closing demands without equalities leaves their constraints, each site once, and makes no site
abbrev pub ClosingAddsNothing : Type 0
ClosingAddsNothing =
    (before : List SiteTerm) (d : Demands) → d.equalities ≡ []
    → closed before d ≡ record { constraints = with_constraints [] d.constraints; classes = []; made = with_sites before d.made }

-- of demands that can be met these are all their constraints
abbrev pub ConstraintsAreKept : Type 0
ConstraintsAreKept =
    (d : Demands) → (IsUnreachable d → ⊥) → (s : SiteTerm) (c : Constraint)
    → Contains (with_constraints [] d.constraints) (s, c) ↔ Contains d.constraints (s, c)

-- closed demands ask nothing that doesn't follow
pub record ClosedFollows (d : Demands) (k : Closed) : Type 0 where
  pub constraints : (s : SiteTerm) (c : Constraint) → Contains k.constraints (s, c) → HasConstraint d s c
  pub classes : (class : List SiteTerm) (a b : SiteTerm) → Contains k.classes class → Contains class a → Contains class b → Joined d a b

abbrev pub ClosingIsSound : Type 0
ClosingIsSound = (before : List SiteTerm) (d : Demands) → ClosedFollows d (closed before d)

abbrev pub OverlapIsSymmetric : Type 0
OverlapIsSymmetric = (a b : Closed) → overlaps a b ≡ overlaps b a

-- the tests are exact
pub record OverlapTestsAreExact (a b : Closed) : Type 0 where
  pub overlap : Decides (overlaps a b) (Overlaps a b)
  pub subset : Decides (is_subset_pair a b) (IsSubsetPair a b)

abbrev pub OverlapIsExact : Type 0
OverlapIsExact = (a b : Closed) → OverlapTestsAreExact a b

abbrev pub ClashIsExact : Type 0
ClashIsExact = (a b : BuiltRule) → Decides (clash a b) ((a.rule.prio ≡ b.rule.prio) × Overlaps a.demands b.demands)

abbrev pub ShadowsAreExact : Type 0
ShadowsAreExact = (a b : BuiltRule) → Decides (shadows a b) (Shadows a b)

-- no class is left to be taken where the closing stops
abbrev pub HasEnded : Closed → Type 0
HasEnded k = next_constrained k.classes k.constraints k.made ≡ None

-- where demands can be met and their closing ended, the closed demands are whole
abbrev pub ClosingIsWhole : Type 0
ClosingIsWhole =
    (before : List SiteTerm) (d : Demands) → EqualSitesAreMade d → (IsUnreachable d → ⊥) → HasEnded (closing most_closing_steps (before_closing before d))
    → ClosedIsWhole d (closed before d)

-- the closing of demands without equalities ends
abbrev pub PlainClosingEnds : Type 0
PlainClosingEnds = (before : List SiteTerm) (d : Demands) → d.equalities ≡ [] → HasEnded (closing most_closing_steps (before_closing before d))

-- the closing of a rule that is built ends
abbrev pub ClosingEnds : Type 0
ClosingEnds = (p : Program) (before : List SiteTerm) (r : TypedRule) → is_built p before r ≡ true → HasEnded (closing most_closing_steps (before_closing before (demands_of p r)))
