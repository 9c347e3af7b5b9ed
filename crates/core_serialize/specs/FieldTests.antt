-- Which sites are the fields that a constraint brings, one by one, and which ones an arm or a loop of a site can bring.
use Rattle.std.specs.Prelude.{◌≡◌, ℕ, Bool, false, cond, IsTrue, List, [], ◌∷◌, ◌++◌, length, map, Option, Some, None, slice_get, slice_index_or}
use Rattle.std.specs.Bool.{◌==◌}
use Rattle.std.specs.List.{filter, list_any}
use Rattle.std.specs.Global.{Vec}
use Rattle.model.specs.sites.Sites.{Site, iterator_site, match_variant_site, extract_struct_site, match_some_site, Constraint, is_variant, is_struct, is_present}
use Rattle.model.specs.trees.Places.{is_variant_field, is_struct_field, is_part_of}
use Rattle.model.specs.trees.Tests.{up_to}
use Rattle.core_serialize.specs.declared.fields.FieldsBySource.{FieldsBySource}

-- whether a site is field i of what a constraint on s brings
abbrev pub is_field : ℕ → Constraint → ℕ → Site → Bool
is_field s (is_variant ty variant fields) i b = is_variant_field s variant i b
is_field s (is_struct ty fields) i b = is_struct_field s i b
is_field s is_present i b = is_part_of s b
is_field s _ i b = false

-- how many fields a constraint brings
abbrev pub field_count : Constraint → ℕ
field_count (is_variant ty variant fields) = fields
field_count (is_struct ty fields) = fields
field_count is_present = 1
field_count _ = 0

-- whether a site stands for each answer of the call s
abbrev pub is_iterator_of : ℕ → Site → Bool
is_iterator_of s (iterator_site source) = source == s
is_iterator_of s _ = false

-- the site of that number stands for each answer of a call
abbrev pub IsIteratorOf : List Site → ℕ → ℕ → Type 0
IsIteratorOf sites call each = slice_get sites each ≡ Some (iterator_site call)

-- some site does
abbrev pub HasIterator : List Site → ℕ → Type 0
HasIterator sites call = IsTrue (list_any (is_iterator_of call) sites)

-- whether the site of a number passes a test
abbrev pub passes_at : (Site → Bool) → List Site → ℕ → Bool
passes_at p sites k = elim (slice_get sites k) [ None ↦ false | Some b ↦ p b ]

-- the source of a site that only an arm or a loop brings, and none of any other one
abbrev pub brought_from : Site → Option ℕ
brought_from (iterator_site source) = Some source
brought_from (match_variant_site source variant field) = Some source
brought_from (extract_struct_site source field) = Some source
brought_from (match_some_site source) = Some source
brought_from _ = None

-- whether only an arm or a loop of s brings a site
abbrev pub is_brought_from : ℕ → Site → Bool
is_brought_from s b = elim (brought_from b) [ None ↦ false | Some source ↦ source == s ]

-- the sites that only an arm or a loop of s brings, ascending
abbrev pub brought_by : List Site → ℕ → List ℕ
brought_by sites s = filter (passes_at (is_brought_from s) sites) (up_to (length sites))

-- the list of a number
abbrev pub list_at : List (Vec ℕ) → ℕ → List ℕ
list_at lists s = slice_index_or (map (λ v. v.items) lists) s []

-- a site comes last in the list of its source, if it is brought; no other list changes
abbrev pub ListsOneMore : Site → ℕ → List (Vec ℕ) → List (Vec ℕ) → Type 0
ListsOneMore b site old new = (s : ℕ) → list_at new s ≡ list_at old s ++ cond (is_brought_from s b) (site ∷ []) []

abbrev pub listed_under : FieldsBySource → ℕ → List ℕ
listed_under fields s = list_at fields.by_source.items s

-- under each site stand exactly those that only an arm or a loop of it brings, each once and ascending
pub record AreFields (sites : List Site) (fields : FieldsBySource) : Type 0 where
  pub listed : (s : ℕ) → listed_under fields s ≡ brought_by sites s
