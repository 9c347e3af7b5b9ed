-- A rule's demands over the numbers of its term's sites, as those that its closing goes on from.
use Rattle.std.specs.Prelude.{◌≡◌, ℕ, ◌<◌, ◌≤◌, Bool, ◌&&◌, List, [], ◌∷◌, Option, Some, length, map, All, Contains, IsTrue, is_some, nat_eq, if◌then◌else◌}
use Rattle.std.specs.List.{flat_map, list_any, zip}
use Rattle.std.specs.Ordering.{nat_cmp}
use Rattle.std.specs.BTreeSet.{contains}
use Rattle.model.specs.lists.Names.{IsDistinct}
use Rattle.model.specs.sites.Sites as Sites
use Rattle.model.specs.sites.Sites.{Site, SiteTerm, unfold_site, field_terms}
use Rattle.model.specs.visits.Demands.{has_site, with_sites}
use Rattle.model.specs.sites.Closure.{Closed, constraint_of, field_equalities, merged_all}
use Rattle.model.specs.sites.RuleSets.{StandFor}
use Rattle.core_rule_sets.specs.SiteDemands.{constraint_held, are_equated, first_kept}
use Rattle.core_syntax.specs.declared.visit_fault.VisitFault.{VisitFault}
use Rattle.core_rule_sets.specs.SiteTables.{AreFirst, ForWantOfRoom}
use Rattle.core_rule_sets.specs.SiteViews.{constraint_view}
use Rattle.core_rule_sets.specs.declared.trie_again.Constraint.{Constraint}
use Rattle.core_rule_sets.specs.declared.demanded.Demanded.{Demanded}

-- whether two sites are in one of these classes
abbrev pub are_in_one_class : List (List SiteTerm) → SiteTerm → SiteTerm → Bool
are_in_one_class ks a b = list_any (λ k. has_site k a && has_site k b) ks

-- demands over numbers are these, through what the numbers stand for: the sites stand for those that are made, each site
-- has its constraint, two sites must be equal exactly where one class has both, and no other site is spoken of. No two
-- classes share a site
pub record AreDemandsOf (sites : List Site) (d : Demanded) (k : Closed) : Type 0 where
  pub stand : StandFor sites k.made
  pub once : IsDistinct k.made
  pub asked : (s : ℕ) → s < length sites → constraint_held d s ≡ constraint_of k.constraints (unfold_site sites s)
  pub asked_within : (s : ℕ) → IsTrue (is_some (constraint_held d s)) → s < length sites
  pub asked_made : (u : SiteTerm) (c : Sites.Constraint) → Contains k.constraints (u, c) → Contains k.made u
  pub equated : (a b : ℕ) → a < length sites → b < length sites → are_equated d a b ≡ are_in_one_class k.classes (unfold_site sites a) (unfold_site sites b)
  pub equated_within : (a b : ℕ) → IsTrue (are_equated d a b) → (a < length sites) × (b < length sites)
  pub equated_made : (class : List SiteTerm) (u : SiteTerm) → Contains k.classes class → Contains class u → Contains k.made u
  pub apart : (l m : List SiteTerm) (s : SiteTerm) → Contains k.classes l → Contains k.classes m → Contains l s → Contains m s → l ≡ m

-- demands over numbers are some over what these stand for
abbrev pub SpeakOf : List Site → Demanded → Type 0
SpeakOf sites d = (k : Closed) × AreDemandsOf sites d k

-- whether a site has a constraint and must equal this one
abbrev pub is_due_with : Demanded → ℕ → ℕ → Bool
is_due_with d r s = is_some (constraint_held d s) && are_equated d r s

-- whether a site has a constraint and must equal another one, so that its class is to be taken
abbrev pub is_due : Demanded → ℕ → Bool
is_due d s = is_due_with d s s

-- whether a site is kept as one to look at
abbrev pub is_open : Demanded → ℕ → Bool
is_open d s = contains nat_cmp d.open s

-- each site that is due is
abbrev pub KeepsDue : Demanded → Type 0
KeepsDue d = (r s : ℕ) → IsTrue (is_due_with d r s) → IsTrue (is_open d s)

-- the least site that is due, with its constraint
pub record IsNextDue (d : Demanded) (s : ℕ) (c : Constraint) : Type 0 where
  pub constraint : constraint_held d s ≡ Some (constraint_view c)
  pub due : IsTrue (is_due d s)
  pub least : (r : ℕ) → IsTrue (is_due d r) → s ≤ r

-- what sites are asked once one is asked this, where each keeps what was asked first
abbrev pub asked_too : (ℕ → Option Sites.Constraint) → ℕ → Sites.Constraint → ℕ → Option Sites.Constraint
asked_too held x c s = if nat_eq x s then Some (first_kept (held x) c) else held s

-- once each of a list is
abbrev pub asked_each : (ℕ → Option Sites.Constraint) → List ℕ → Sites.Constraint → ℕ → Option Sites.Constraint
asked_each held [] c s = held s
asked_each held (x ∷ xs) c s = asked_each (asked_too held x c) xs c s

-- a member of a class that is taken gets the sites of its fields, each equal to that of the least member's
abbrev pub with_member : Sites.Constraint → SiteTerm → Closed → SiteTerm → Closed
with_member c least k m = record {
  constraints = k.constraints;
  classes = merged_all k.classes (zip (field_terms c least) (field_terms c m));
  made = with_sites k.made (field_terms c m);
}

-- these are the numbers of a site's fields
pub record AreFieldsOf (sites : List Site) (c : Sites.Constraint) (fields : List ℕ) (u : SiteTerm) : Type 0 where
  pub within : All (λ x. x < length sites) fields
  pub of_site : map (unfold_site sites) fields ≡ field_terms c u

-- each member of a class does
abbrev pub with_field_terms : Sites.Constraint → Closed → List SiteTerm → Closed
with_field_terms c k members = record {
  constraints = k.constraints;
  classes = merged_all k.classes (field_equalities c members);
  made = with_sites k.made (flat_map (field_terms c) members);
}

-- there was no room for all sites of demands that these become: the table has the first of those that these have
abbrev pub EndsFull : List Site → Closed → VisitFault → Type 0
EndsFull after k e = ForWantOfRoom (AreFirst after k.made) e

-- demands over more sites are these, and the sites before stand for what they did
pub record GoOn (before after : List Site) (d : Demanded) (k : Closed) : Type 0 where
  pub demands : AreDemandsOf after d k
  pub kept : (s : ℕ) → s < length before → unfold_site after s ≡ unfold_site before s
  pub longer : length before ≤ length after
