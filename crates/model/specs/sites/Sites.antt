-- Sites of a rule set, what a rule asks of them, and the trees that their numbers stand for.
use Rattle.std.specs.Prelude.{ℕ, ℤ, zero, suc, Bool, List, [], ◌∷◌, Option, Some, None, slice_get}
use Rattle.model.specs.lists.Syntax.{Position}

-- what a site is made of, sources by their numbers
pub data Site : Type 0 where
  bool_site : (b : Bool) (ty : ℕ) → Site
  int_site : (z : ℤ) (ty : ℕ) → Site
  prim_site : (name : ℕ) → Site
  argument_site : (i : ℕ) → Site
  extractor_site : (term source : ℕ) → Site
  constructor_site : (term : ℕ) (sources : List ℕ) (instance : ℕ) → Site
  iterator_site : (source : ℕ) → Site
  make_variant_site : (ty variant : ℕ) (fields : List ℕ) → Site
  match_variant_site : (source variant field : ℕ) → Site
  make_struct_site : (ty : ℕ) (fields : List ℕ) → Site
  extract_struct_site : (source field : ℕ) → Site
  make_some_site : (source : ℕ) → Site
  match_some_site : (source : ℕ) → Site
  match_tuple_site : (source field : ℕ) → Site

-- what a rule asks of a site; `fields` is the number of fields
pub data Constraint : Type 0 where
  is_variant : (ty variant fields : ℕ) → Constraint
  is_struct : (ty fields : ℕ) → Constraint
  is_bool : (b : Bool) (ty : ℕ) → Constraint
  is_int : (z : ℤ) (ty : ℕ) → Constraint
  is_prim : (name : ℕ) → Constraint
  is_present : Constraint

-- a rule, as far as tests are concerned: constraints by site, classes of equal sites, the calls that it
-- goes over (its iterators), its impure calls in order, and its result
pub record SetRule : Type 0 where
  pub id : ℕ
  pub at : Position
  pub prio : ℤ
  pub name : Option ℕ
  pub constraints : List (ℕ × Constraint)
  pub classes : List (List ℕ)
  pub iterators : List ℕ
  pub impure : List ℕ
  pub result : ℕ

-- the rules of one term in rule order, and the sites that they speak of: a site's number is its place
pub record SiteSet : Type 0 where
  pub rules : List SetRule
  pub sites : List Site

-- the sources of a site, left to right
abbrev pub sources_of : Site → List ℕ
sources_of (bool_site b ty) = []
sources_of (int_site z ty) = []
sources_of (prim_site name) = []
sources_of (argument_site i) = []
sources_of (extractor_site term source) = source ∷ []
sources_of (constructor_site term sources instance) = sources
sources_of (iterator_site source) = source ∷ []
sources_of (make_variant_site ty variant fields) = fields
sources_of (match_variant_site source variant field) = source ∷ []
sources_of (make_struct_site ty fields) = fields
sources_of (extract_struct_site source field) = source ∷ []
sources_of (make_some_site source) = source ∷ []
sources_of (match_some_site source) = source ∷ []
sources_of (match_tuple_site source field) = source ∷ []

abbrev pub sources_at : List Site → ℕ → List ℕ
sources_at sites s = elim (slice_get sites s) [ None ↦ [] | Some b ↦ sources_of b ]

-- what a number of a rule set stands for: a tree without numbers of sites
mutual
  pub data SiteTerm : Type 0 where
    bool_term : (b : Bool) (ty : ℕ) → SiteTerm
    int_term : (z : ℤ) (ty : ℕ) → SiteTerm
    prim_term : (name : ℕ) → SiteTerm
    argument : (i : ℕ) → SiteTerm
    extractor_call : (term : ℕ) (of : SiteTerm) → SiteTerm
    -- the place among the rule's impure calls, from 1, or 0 for a pure call
    constructor_call : (term : ℕ) (args : SiteTerms) (instance : ℕ) → SiteTerm
    pick_of : (of : SiteTerm) → SiteTerm
    variant_made : (ty variant : ℕ) (fields : SiteTerms) → SiteTerm
    variant_field : (of : SiteTerm) (variant field : ℕ) → SiteTerm
    struct_made : (ty : ℕ) (fields : SiteTerms) → SiteTerm
    struct_field : (of : SiteTerm) (field : ℕ) → SiteTerm
    some_made : (of : SiteTerm) → SiteTerm
    some_part : (of : SiteTerm) → SiteTerm
    tuple_part : (of : SiteTerm) (field : ℕ) → SiteTerm
    -- a number that is no site's
    no_site : SiteTerm

  pub data SiteTerms : Type 0 where
    no_site_term : SiteTerms
    site_term_and : (t : SiteTerm) (rest : SiteTerms) → SiteTerms

abbrev pub each_term : (ℕ → SiteTerm) → List ℕ → SiteTerms
each_term f [] = no_site_term
each_term f (s ∷ rest) = site_term_and (f s) (each_term f rest)

-- n sites from i on, each under a function
abbrev pub fields_from : (ℕ → SiteTerm) → ℕ → ℕ → List SiteTerm
fields_from f i zero = []
fields_from f i (suc n) = f i ∷ fields_from f (suc i) n

-- the sites of the fields that a constraint gives a site; only variants and structs have fields
abbrev pub field_terms : Constraint → SiteTerm → List SiteTerm
field_terms (is_variant ty variant fields) s = fields_from (variant_field s variant) 0 fields
field_terms (is_struct ty fields) s = fields_from (struct_field s) 0 fields
field_terms _ s = []

-- one layer, over what the sources stand for
abbrev pub layer : (ℕ → SiteTerm) → Site → SiteTerm
layer f (bool_site b ty) = bool_term b ty
layer f (int_site z ty) = int_term z ty
layer f (prim_site name) = prim_term name
layer f (argument_site i) = argument i
layer f (extractor_site term source) = extractor_call term (f source)
layer f (constructor_site term sources instance) = constructor_call term (each_term f sources) instance
layer f (iterator_site source) = pick_of (f source)
layer f (make_variant_site ty variant fields) = variant_made ty variant (each_term f fields)
layer f (match_variant_site source variant field) = variant_field (f source) variant field
layer f (make_struct_site ty fields) = struct_made ty (each_term f fields)
layer f (extract_struct_site source field) = struct_field (f source) field
layer f (make_some_site source) = some_made (f source)
layer f (match_some_site source) = some_part (f source)
layer f (match_tuple_site source field) = tuple_part (f source) field

abbrev pub layer_at : (ℕ → SiteTerm) → Option Site → SiteTerm
layer_at f None = no_site
layer_at f (Some b) = layer f b

-- the tree, at most n layers deep
abbrev pub unfolded : ℕ → List Site → ℕ → SiteTerm
unfolded zero sites s = no_site
unfolded (suc n) sites s = layer_at (unfolded n sites) (slice_get sites s)

-- the tree of a site's number: sources have smaller numbers, so it is at most as deep as the number says
abbrev pub unfold_site : List Site → ℕ → SiteTerm
unfold_site sites s = unfolded (suc s) sites s
