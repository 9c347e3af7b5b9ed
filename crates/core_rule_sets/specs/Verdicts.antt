-- Why no value can meet what a rule demands, over the numbers of its term's sites.
use Rattle.std.specs.Prelude.{◌≡◌, ◌<◌, ℕ, Bool, ◌&&◌, not, List, [], ◌∷◌, Option, Some, None, nat_eq, if◌then◌else◌, slice_get, Contains, ◌⊎◌, length, option_map}
use Rattle.std.specs.Option.{unwrap_or}
use Rattle.core_containers.specs.Partition.{set_of}
use Rattle.laws_sites.specs.FieldLaws.{GivesField, IsGiven}
use Rattle.model.specs.sites.Sites.{Site, Constraint, SiteTerm, unfold_site}
use Rattle.model.specs.visits.Demands.{Demands, constraint_eq}
use Rattle.model.specs.sites.Closure.{Unreachability, conflict, cycle, before_closing, class_names, conflicts_met, same_class, spoken_of}
use Rattle.core_rule_sets.specs.Closings.{AreDemandsOf}
use Rattle.core_rule_sets.specs.SiteViews.{constraint_view}
use Rattle.core_rule_sets.specs.declared.demanded.Demanded.{Demanded}
use Rattle.core_rule_sets.specs.declared.trie_again.Constraint as Code
use Rattle.core_rule_sets.specs.declared.verdict.Unreachable.{Unreachable}
use Rattle.core_rule_sets.specs.declared.verdict.Unreachable.TheVariants as U

-- what is reported
abbrev pub unreachability_view : Unreachable → Unreachability
unreachability_view (U.Conflict first second) = conflict (constraint_view first) (constraint_view second)
unreachability_view U.Cycle = cycle

abbrev pub unreachability_views : Option Unreachable → List Unreachability
unreachability_views None = []
unreachability_views (Some u) = unreachability_view u ∷ []

-- the demands of a visit that met no conflict, before their closing: the fields that they speak of are asked for, and
-- all fields that they ask for are made
pub record AreVisited (sites : List Site) (before : List SiteTerm) (d : Demands) (h : Demanded) : Type 0 where
  pub held : AreDemandsOf sites h (before_closing before d)
  pub agreed : conflicts_met [] d.constraints ≡ []
  pub given : (s : SiteTerm) → Contains (spoken_of d) s → IsGiven d s
  pub made : (s x : SiteTerm) → GivesField d s x → Contains d.made x

-- the demands speak of a site, or ask for it as a field
abbrev pub IsMentioned : Demands → SiteTerm → Type 0
IsMentioned d x = Contains (spoken_of d) x ⊎ ((s : SiteTerm) × GivesField d s x)

-- the member that a partition names a site's class by: the site itself where it is in none
abbrev pub class_head : List (List ℕ) → ℕ → ℕ
class_head ks s = unwrap_or (slice_get (set_of nat_eq ks s) 0) s

-- a partition has the classes of the closure: known sites are in one exactly where they have one name
abbrev pub AreClassesOf : List Site → List (List ℕ) → Demands → Type 0
AreClassesOf sites ks d =
    (a b : ℕ) → a < length sites → b < length sites → IsMentioned d (unfold_site sites a) → IsMentioned d (unfold_site sites b)
    → nat_eq (class_head ks a) (class_head ks b) ≡ same_class (class_names d) (unfold_site sites a) (unfold_site sites b)

-- two sites of one class are asked different things
abbrev pub differ_in : (ℕ → ℕ) → ℕ × Constraint → ℕ × Constraint → Bool
differ_in class a b = nat_eq (class b.0) (class a.0) && not (constraint_eq a.1 b.1)

-- the first of these that differs from a constrained site of its class
abbrev pub first_other : (ℕ → ℕ) → ℕ × Constraint → List (ℕ × Constraint) → Option Constraint
first_other class a [] = None
first_other class a (b ∷ bs) = if differ_in class a b then Some b.1 else first_other class a bs

-- the conflict of the first site whose class is asked another thing too
abbrev pub conflict_in : (ℕ → ℕ) → List (ℕ × Constraint) → List (ℕ × Constraint) → List Unreachability
conflict_in class all [] = []
conflict_in class all (a ∷ rest) = elim (first_other class a all) [ None ↦ conflict_in class all rest | Some b ↦ conflict a.1 b ∷ [] ]

-- what the sites of a class are asked: the first thing, and the first other one after it
abbrev pub asked_in : (ℕ → ℕ) → ℕ → List (ℕ × Constraint) → Option (Constraint × Option Constraint)
asked_in class k [] = None
asked_in class k (a ∷ rest) = if nat_eq (class a.0) k then Some (a.1, first_other class a rest) else asked_in class k rest

-- one thing more is asked of a class: the first thing stays, and so does the first other one
abbrev pub with_asked : Option (Constraint × Option Constraint) → Constraint → Constraint × Option Constraint
with_asked None c = (c, None)
with_asked (Some (first, None)) c = (first, if constraint_eq first c then None else Some c)
with_asked (Some (first, Some other)) c = (first, Some other)

-- without the types of the code
abbrev pub asked_view : Code.Constraint × Option Code.Constraint → Constraint × Option Constraint
asked_view a = (constraint_view a.0, option_map constraint_view a.1)

-- the conflict of a class that is asked these
abbrev pub conflict_asked : Option (Constraint × Option Constraint) → List Unreachability
conflict_asked None = []
conflict_asked (Some (first, None)) = []
conflict_asked (Some (first, Some other)) = conflict first other ∷ []
