-- Tables of the binding sites of a term.
use Rattle.std.specs.Prelude.{◌≡◌, ◌↔◌, ◌⊎◌, ℕ, ◌<◌, ◌≤◌, List, [], ◌∷◌, ◌++◌, length, map, Option, Some, slice_get, take, All, Contains}
use Rattle.std.specs.HashMap.{get}
use Rattle.model.specs.lists.Names.{IsDistinct}
use Rattle.model.specs.sites.Sites.{Site, Constraint, sources_of, sources_at, SiteTerm, layer, unfold_site, field_terms}
use Rattle.model.specs.visits.Demands.{with_sites}
use Rattle.model.specs.sites.RuleSets.{StandFor}
use Rattle.model.specs.sites.Limits.{most_sites}
use Rattle.core_syntax.specs.declared.syntax.Limit.TheVariants as Limits
use Rattle.core_syntax.specs.declared.visit_fault.VisitFault.{VisitFault}
use Rattle.core_syntax.specs.declared.visit_fault.VisitFault.TheVariants.{Memory, Limit}
use Rattle.core_rule_sets.specs.SiteViews.{site_view, site_views}
use Rattle.core_rule_sets.specs.contracts.trie_again.BindingPartialEq.TheImpl.{ghosts}
use Rattle.core_rule_sets.specs.declared.trie_again.Binding.{Binding}
use Rattle.core_rule_sets.specs.declared.site_table.SiteTable.{SiteTable}

-- the sites of a table, by their numbers
abbrev pub table_sites : SiteTable → List Site
table_sites t = site_views t.bindings.items

-- a number is given for a site exactly where it stands there
abbrev pub IsSiteNumber : List Site → Site → Option ℕ → Type 0
IsSiteNumber sites b o = (s : ℕ) → (o ≡ Some s) ↔ (slice_get sites s ≡ Some b)

-- each binding is found at its site, there are no more sites than there may be, and sources have smaller numbers
pub record IsTable (t : SiteTable) : Type 0 where
  pub found : (q : Binding) → IsSiteNumber (table_sites t) (site_view q) (get ghosts.eq t.numbers q)
  pub few : length (table_sites t) ≤ 65536
  pub sources : (s a : ℕ) → Contains (sources_at (table_sites t) s) a → a < s

-- what a site is made of is there
abbrev pub HasSources : List Site → Site → Type 0
HasSources sites b = (a : ℕ) → Contains (sources_of b) a → a < length sites

-- a site may be added to a table: what it is made of is there
pub record MayAdd (t : SiteTable) (b : Site) : Type 0 where
  pub table : IsTable t
  pub sources : HasSources (table_sites t) b

-- no site is this one
abbrev pub IsAbsent : List Site → Site → Type 0
IsAbsent sites b = (s : ℕ) → slice_get sites s ≡ Some b → ⊥

-- a site gets a number: its own where it is there, else the next one
abbrev pub AddsSite : List Site → List Site → Site → ℕ → Type 0
AddsSite before after b n =
    ((slice_get before n ≡ Some b) × (after ≡ before)) ⊎ (IsAbsent before b × (n ≡ length before) × (after ≡ before ++ b ∷ []))

-- a new site has no room, and nothing changes; or memory was refused
abbrev pub HasNoRoom : List Site → List Site → Site → VisitFault → Type 0
HasNoRoom before after b (Memory e) = Unit {0}
HasNoRoom before after b (Limit Limits.Sites) = (length before ≡ 65536) × IsAbsent before b × (after ≡ before)
HasNoRoom before after b _ = ⊥

-- these are more than there may be, and the sites stand for the first of them
pub record AreFirst (sites : List Site) (terms : List SiteTerm) : Type 0 where
  pub stand : StandFor sites (take most_sites terms)
  pub many : most_sites < length terms

-- why a call ended: memory was refused, or there was no room for a site, and then P
abbrev pub ForWantOfRoom : Type 0 → VisitFault → Type 0
ForWantOfRoom P (Memory e) = Unit {0}
ForWantOfRoom P (Limit Limits.Sites) = P
ForWantOfRoom P _ = ⊥

-- there was no room for all of some sites, whatever the sites stood for: they stand for the first of those with theirs
abbrev pub LacksRoom : List Site → List Site → List SiteTerm → VisitFault → Type 0
LacksRoom before after us e =
    ForWantOfRoom ((terms : List SiteTerm) → IsDistinct terms → StandFor before terms → AreFirst after (with_sites terms us)) e

-- a number of a site that is added: the sites stand for the terms with that site's, and the others for what they did
pub record StandsFor (before after : List Site) (terms : List SiteTerm) (b : Site) (n : ℕ) : Type 0 where
  pub stand : StandFor after (with_sites terms (layer (unfold_site before) b ∷ []))
  pub within : n < length after
  pub number : unfold_site after n ≡ layer (unfold_site before) b
  pub kept : (s : ℕ) → s < length before → unfold_site after s ≡ unfold_site before s

-- sites that are added one after another, with their numbers: the sites stand for the terms with theirs, and the others
-- for what they did
pub record StandForEach (before after : List Site) (terms : List SiteTerm) (bs : List Site) (ns : List ℕ) : Type 0 where
  pub stand : StandFor after (with_sites terms (map (layer (unfold_site before)) bs))
  pub numbers : map (unfold_site after) ns ≡ map (layer (unfold_site before)) bs
  pub within : All (λ n. n < length after) ns
  pub kept : (s : ℕ) → s < length before → unfold_site after s ≡ unfold_site before s
  pub longer : length before ≤ length after

-- likewise, whatever the sites stood for
abbrev pub AddsSites : List Site → List Site → List Site → List ℕ → Type 0
AddsSites before after bs ns = (terms : List SiteTerm) → IsDistinct terms → StandFor before terms → StandForEach before after terms bs ns

-- the sites of a constraint's fields at a site are added, with their numbers: they stand for the fields of what the site
-- stands for
pub record StandForFields (before after : List Site) (terms : List SiteTerm) (c : Constraint) (s : ℕ) (ns : List ℕ) : Type 0 where
  pub stand : StandFor after (with_sites terms (field_terms c (unfold_site before s)))
  pub numbers : map (unfold_site after) ns ≡ field_terms c (unfold_site before s)
  pub within : All (λ n. n < length after) ns
  pub kept : (a : ℕ) → a < length before → unfold_site after a ≡ unfold_site before a
  pub longer : length before ≤ length after

-- likewise, whatever the sites stood for
abbrev pub AddsFields : List Site → List Site → Constraint → ℕ → List ℕ → Type 0
AddsFields before after c s ns = (terms : List SiteTerm) → IsDistinct terms → StandFor before terms → StandForFields before after terms c s ns
