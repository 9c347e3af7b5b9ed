-- Whether templates come back to themselves, by the terms that each names, and how far the search for it is.
use Rattle.std.specs.Prelude.{◌≡◌, ℕ, ◌+◌, ◌-◌, ◌<◌, ◌⊎◌, Bool, true, false, nat_eq, cond, List, [], ◌∷◌, ◌++◌, length, map, take, replicate, set, sum_by, Option, None, Some, All, Contains, IfSome, slice_get, Vec, ⊤}
use Rattle.std.specs.declared.alloc.Global.{Global}
use Rattle.model.specs.lists.Syntax.{Position, Definition}
use Rattle.model.specs.lists.Tables.{ExtractorEntry, internal_extractor, external_extractor, TermKindEntry, variant_term, struct_term, declared_term, TermEntry}
use Rattle.model.specs.lists.TermTable.{decl_names, rule_trees, extractor_trees, HasDeclaredRoot, IsAcyclic}
use Rattle.model.specs.claims.Environments.{TypesRead}
use Rattle.core_syntax.specs.declared.syntax.Error.{Error}
use Rattle.core_types.specs.declared.ids.TermId.{TermId}
use Rattle.core_types.specs.declared.type_env.TypeEnv.{TypeEnv}
use Rattle.core_terms.specs.declared.reading.recursion.Mark.{Mark}
use Rattle.core_terms.specs.declared.reading.recursion.Mark.TheVariants.{Unmet, Met, Ends}
use Rattle.core_terms.specs.declared.reading.recursion.Search.{Search}
use Rattle.core_terms.specs.declared.term_table.TermTable.{TermTable}
use Rattle.core_terms.specs.TermBreaches.{FirstStandsAt}
use Rattle.core_terms.specs.TermPositions.{template_place}
use Rattle.core_terms.specs.TermViews.{term_views}
use Rattle.core_terms.specs.Stages.{HasNoConverter, constructor_after}
use Rattle.core_terms.specs.ReadTerms.{Stand}
use Rattle.core_terms.specs.Converting.{template_after}
use Rattle.core_terms.specs.Templating.{callees_of, AreRightExtractors}

-- a term comes to a term through one or more templates
pub data Comes (callees : List (Vec TermId Global)) : ℕ → ℕ → Type 0 where
  by_one : {t u : ℕ} → Contains (callees_of callees t) u → Comes callees t u
  by_more : {t u v : ℕ} → Comes callees t u → Contains (callees_of callees u) v → Comes callees t v

-- each way from a term through templates ends
pub data HasEnd (callees : List (Vec TermId Global)) : ℕ → Type 0 where
  all_end : {t : ℕ} → ((u : ℕ) → Contains (callees_of callees t) u → HasEnd callees u) → HasEnd callees t

-- a term comes back to itself, and its template stands here
pub record ComesBack (table : TermTable) (callees : List (Vec TermId Global)) (at : Position) : Type 0 where
  pub term : ℕ
  pub comes : Comes callees term term
  pub entry : TermEntry
  pub entry_is : slice_get (term_views table.terms.items) term ≡ Some entry
  pub place : template_place entry.kind ≡ Some at

-- where there was no error, the first one now stands at the template of a term that comes back to itself
pub record NotesReturn (table : TermTable) (callees : List (Vec TermId Global)) (es es' : List Error) : Type 0 where
  pub at : Position
  pub back : ComesBack table callees at
  pub begins : FirstStandsAt (at ∷ []) es es'

-- the terms that are named are told of too
abbrev pub AreWithin : List (Vec TermId Global) → Type 0
AreWithin callees = (t u : ℕ) → Contains (callees_of callees t) u → u < length callees

-- a term was met in the search from this root, and not all from it was walked yet
abbrev pub is_on : ℕ → Mark → Bool
is_on root Unmet = false
is_on root (Met by) = nat_eq by.0 root
is_on root Ends = false

abbrev pub is_end : Mark → Bool
is_end Unmet = false
is_end (Met by) = false
is_end Ends = true

-- which terms stand between a root and the term that is walked
abbrev pub on_path : ℕ → List Mark → List Bool
on_path root marks = map (is_on root) marks

-- there is a mark for each term, terms that are marked so have an end, and the roots so far are below this number
pub record AreMarks (callees : List (Vec TermId Global)) (roots : ℕ) (marks : List Mark) : Type 0 where
  pub count : length marks ≡ length callees
  pub ends : (t : ℕ) → slice_get marks t ≡ Some Ends → HasEnd callees t
  pub roots_below : (t : ℕ) (by : TermId) → slice_get marks t ≡ Some (Met by) → by.0 < roots

-- of the terms that each one names, so many have an end: the first ones
pub record AreEnded (callees : List (Vec TermId Global)) (ended : List ℕ) : Type 0 where
  pub count : length ended ≡ length callees
  pub ends : (t n u : ℕ) → slice_get ended t ≡ Some n → Contains (take n (callees_of callees t)) u → HasEnd callees u

-- of so many terms none was met
pub record IsAtStart (count : ℕ) (search : Search) : Type 0 where
  pub marks : search.marks.items ≡ replicate count Unmet
  pub ended : search.ended.items ≡ replicate count 0

-- what is known from the roots so far, which are below this number
pub record AreFindings (callees : List (Vec TermId Global)) (roots : ℕ) (search : Search) : Type 0 where
  pub marks : AreMarks callees roots search.marks.items
  pub ended : AreEnded callees search.ended.items

-- each of these terms names the next
abbrev pub IsChain : List (Vec TermId Global) → List TermId → Type 0
IsChain callees [] = ⊤
IsChain callees (t ∷ ts) = IfSome (slice_get ts 0) (λ u. Contains (callees_of callees t.0) u.0) × IsChain callees ts

-- the search from a root is on its way: the path, a chain, has all terms that are marked so, and begins with the root,
-- unless each way from that ends
pub record IsOnWay (callees : List (Vec TermId Global)) (root : TermId) (search : Search) : Type 0 where
  pub findings : AreFindings callees (root.0 + 1) search
  pub within : All (λ t. t.0 < length callees) search.path.items
  pub chain : IsChain callees search.path.items
  pub marked : (t : ℕ) → slice_get (on_path root.0 search.marks.items) t ≡ Some true → Contains (map (λ u. u.0) search.path.items) t
  pub begins : (slice_get search.path.items 0 ≡ Some root) ⊎ HasEnd callees root.0

-- the steps that a term of this mark takes yet: one onto the path, and one back
abbrev pub steps_of : ℕ → Mark → ℕ
steps_of root Unmet = 2
steps_of root (Met by) = cond (nat_eq by.0 root) 0 2
steps_of root Ends = 0

-- how many uses of terms aren't known to end
abbrev pub uses_left : List (Vec TermId Global) → List ℕ → ℕ
uses_left [] ended = 0
uses_left (v ∷ vs) [] = 0
uses_left (v ∷ vs) (n ∷ ns) = (length v.items - n) + uses_left vs ns

-- the steps that a search takes yet, at most: one for each use, and two for each term
abbrev pub steps_left : List (Vec TermId Global) → TermId → Search → ℕ
steps_left callees root search = uses_left callees search.ended.items + sum_by (steps_of root.0) search.marks.items + length search.path.items

-- a term is put on the path
pub record Enters (root term : TermId) (old new : Search) : Type 0 where
  pub marks : new.marks.items ≡ set old.marks.items term.0 (Met root)
  pub ended : new.ended.items ≡ old.ended.items
  pub path : new.path.items ≡ old.path.items ++ term ∷ []

-- the search goes on, with fewer steps left
pub record GoesOn (callees : List (Vec TermId Global)) (root : TermId) (old new : Search) : Type 0 where
  pub way : IsOnWay callees root new
  pub fewer : steps_left callees root new < steps_left callees root old

-- the search came to its end, and so does each way from the root
pub record IsSearched (callees : List (Vec TermId Global)) (root : TermId) (search : Search) : Type 0 where
  pub findings : AreFindings callees (root.0 + 1) search
  pub ends : HasEnd callees root.0

-- the search met a term that comes back to itself
pub record IsWayBack (callees : List (Vec TermId Global)) (root : TermId) (search : Search) (term : TermId) : Type 0 where
  pub findings : AreFindings callees (root.0 + 1) search
  pub within : All (λ t. t.0 < length callees) search.path.items
  pub there : term.0 < length callees
  pub comes : Comes callees term.0 term.0

-- whether a term has a template
abbrev pub is_template : Option ExtractorEntry → Bool
is_template None = false
is_template (Some (internal_extractor template)) = true
is_template (Some (external_extractor name infallible at)) = false

abbrev pub has_template : TermKindEntry → Bool
has_template (variant_term variant) = false
has_template struct_term = false
has_template (declared_term flags constructor_kind extractor_kind) = is_template extractor_kind

-- each term that names one has a template
abbrev pub HaveTemplates : TermTable → List (Vec TermId Global) → Type 0
HaveTemplates table callees =
    (t u : ℕ) (entry : TermEntry) → Contains (callees_of callees t) u → slice_get (term_views table.terms.items) t ≡ Some entry → has_template entry.kind ≡ true

-- each way from the terms below this one ends, if those that name terms have templates
abbrev pub EndsBelow : TermTable → List (Vec TermId Global) → ℕ → Type 0
EndsBelow table callees n = HaveTemplates table callees → (t : ℕ) → t < n → HasEnd callees t

-- all internal extractors are read, and none comes back to itself
pub record ExtractorsRead (e : TypesRead) (defs : List Definition) (env : TypeEnv) (table : TermTable) : Type 0 where
  pub stand : Stand e defs (decl_names defs) (constructor_after (rule_trees defs)) (template_after (extractor_trees defs)) env table
  pub roots : All (HasDeclaredRoot defs) (rule_trees defs)
  pub right : AreRightExtractors e defs (extractor_trees defs)
  pub acyclic : IsAcyclic defs
  pub converters : HasNoConverter table
