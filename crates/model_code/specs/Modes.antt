-- Modes, on code as data: each use gives what is wanted there, a reference or a value, and what isn't Copy is given away by
-- nothing but the return that ends the function, or where moves may stand for clones (and by a loop, which takes the call that it goes
-- over).
use Rattle.std.specs.Prelude.{[], ◌≡◌, ◌&&◌, ◌||◌, ◌∷◌, ℕ, suc, Bool, true, false, not, List, Option, Some, None, slice_get, Contains}
use Rattle.model.specs.sites.Sites.{Site, bool_site, extractor_site, constructor_site, iterator_site, make_variant_site, make_struct_site, make_some_site, match_some_site, match_variant_site, extract_struct_site, Constraint, is_variant, is_struct, is_prim, is_present, SetRule, SiteSet}
use Rattle.model.specs.trees.Trees.{Tree, no_step, step, Check, match_at, equal_at, loop_at, return_at, Arms, no_arm, arm}
use Rattle.model_code.specs.Code.{Place, variable, parameter, part_of, Pass, as_it_is, lent, cloned, seen_through, PlaceUse, Expr, truth_written, read, extraction, call, variant_of, struct_of, some_of, Block, no_statement, statement, Statement, bind, bind_some, no_way, match_on, if_equal, for_each_of, give, labelled, unless_let, unless_equal, CodeArms, no_code_arm, code_arm}
use Rattle.model_code.specs.TreeCode.{Taker, to_extractor, to_parameter, to_field, to_some, to_match, to_compare, to_result, Passes, place_of, tree_code}
use Rattle.model_code.specs.Flat.{unlabelled, flat}

pub data BindingMode : Type 0 where
  a_value : BindingMode
  a_reference : BindingMode

-- what types say: whether a variable and a parameter is a reference, whether what stands at a place is Copy, and whether a
-- term's extractor, and its constructor at a parameter, take it by reference
pub record Types : Type 0 where
  pub variables : ℕ → BindingMode
  pub parameters : ℕ → BindingMode
  pub is_copy : Place → Bool
  pub extracts_reference : (term : ℕ) → Bool
  pub takes_reference : (term i : ℕ) → Bool

-- a part of a tuple is a place of its own, also behind a reference
abbrev pub mode_at : Types → Place → BindingMode
mode_at types (variable v) = types.variables v
mode_at types (parameter i) = types.parameters i
mode_at types place = a_value

-- what is written out is made on the spot
abbrev pub is_new : Place → Bool
is_new (variable v) = false
is_new (parameter i) = false
is_new (part_of v i) = false
is_new place = true

abbrev pub is_value : BindingMode → Bool
is_value a_value = true
is_value a_reference = false

-- what isn't behind a reference
abbrev pub is_owned : Types → Place → Bool
is_owned types (part_of v i) = is_value (types.variables v)
is_owned types place = true

-- what a use gives: a reference, a value to keep, what isn't Copy and is given away, what can be looked at, or nothing that
-- rustc takes
pub data Given : Type 0 where
  gives_reference : Given
  gives_value : Given
  gives_away : Given
  gives_sight : Given
  gives_nothing : Given

abbrev pub given_of_reference : Pass → Given
given_of_reference as_it_is = gives_reference
given_of_reference lent = gives_nothing
given_of_reference cloned = gives_value
given_of_reference seen_through = gives_sight

-- to keep: it is Copy, or made on the spot
abbrev pub given_as_it_is : (keep owned : Bool) → Given
given_as_it_is true owned = gives_value
given_as_it_is false true = gives_away
given_as_it_is false false = gives_sight

abbrev pub given_of_value : (keep owned : Bool) → Pass → Given
given_of_value keep owned as_it_is = given_as_it_is keep owned
given_of_value keep owned lent = gives_reference
given_of_value keep owned cloned = gives_value
given_of_value keep owned seen_through = gives_nothing

abbrev pub given_by : BindingMode → (keep owned : Bool) → Pass → Given
given_by a_reference keep owned pass = given_of_reference pass
given_by a_value keep owned pass = given_of_value keep owned pass

abbrev pub given : Types → PlaceUse → Given
given types u = given_by (mode_at types u.place) (is_new u.place || types.is_copy u.place) (is_owned types u.place) u.pass

-- what is wanted
abbrev pub fits_reference : Given → Bool
fits_reference gives_reference = true
fits_reference _ = false

-- to keep; `away` says whether what isn't Copy may be given away there
abbrev pub fits_value : Bool → Given → Bool
fits_value away gives_value = true
fits_value away gives_away = away
fits_value away _ = false

abbrev pub fits_parameter : Bool → Given → Bool
fits_parameter true g = fits_reference g
fits_parameter false g = fits_value false g

-- a result may be given away where it ends the function
abbrev pub fits_result : (multi away : Bool) → Given → Bool
fits_result multi away gives_value = true
fits_result multi away gives_away = away || not multi
fits_result multi away _ = false

-- both are references, or neither
abbrev pub fits_equal : Given → Given → Bool
fits_equal gives_reference h = fits_reference h
fits_equal gives_nothing h = false
fits_equal _ gives_reference = false
fits_equal _ gives_nothing = false
fits_equal _ _ = true

-- variants and structs are matched by reference, literals by value. A named constant is compared with `==`, through the reference
-- where its type is an enum or a struct. What is in an option is a reference where the option is
abbrev pub fits_pattern : Constraint → Given → Bool
fits_pattern (is_variant ty variant fields) g = fits_reference g
fits_pattern (is_struct ty fields) g = fits_reference g
fits_pattern (is_prim name) g = fits_reference g || fits_value false g
fits_pattern is_present g = fits_reference g || fits_value false g
fits_pattern _ g = fits_value false g

abbrev pub fits_inside : Types → Given → ℕ → Bool
fits_inside types gives_reference v = not (is_value (types.variables v))
fits_inside types gives_value v = is_value (types.variables v) && types.is_copy (variable v)
fits_inside types _ v = false

abbrev pub fits_field : Types → Constraint → Given → ℕ → Bool
fits_field types is_present g v = fits_inside types g v
fits_field types _ g v = not (is_value (types.variables v)) || types.is_copy (variable v)

abbrev pub fits_fields : Types → Constraint → Given → List (Option ℕ) → Bool
fits_fields types pattern g [] = true
fits_fields types pattern g (None ∷ rest) = fits_fields types pattern g rest
fits_fields types pattern g (Some v ∷ rest) = fits_field types pattern g v && fits_fields types pattern g rest

abbrev pub fits_parameters : Types → (term i : ℕ) → List PlaceUse → Bool
fits_parameters types term i [] = true
fits_parameters types term i (u ∷ us) = fits_parameter (types.takes_reference term i) (given types u) && fits_parameters types term (suc i) us

abbrev pub fit_values : Types → Bool → List PlaceUse → Bool
fit_values types away [] = true
fit_values types away (u ∷ us) = fits_value away (given types u) && fit_values types away us

-- what a call answers is bound by `let v = &C::f(..)` where v is a reference
abbrev pub expr_fits : Types → Bool → ℕ → Expr → Bool
expr_fits types away v (truth_written b ty) = is_value (types.variables v)
expr_fits types away v (read u) = is_value (types.variables v) && fits_value away (given types u)
expr_fits types away v (extraction term u) = fits_parameter (types.extracts_reference term) (given types u)
expr_fits types away v (call term us instance) = fits_parameters types term 0 us
expr_fits types away v (variant_of ty variant us) = is_value (types.variables v) && fit_values types away us
expr_fits types away v (struct_of ty us) = is_value (types.variables v) && fit_values types away us
expr_fits types away v (some_of u) = is_value (types.variables v) && fits_value away (given types u)

abbrev mutual
  pub block_fits : Types → (multi away : Bool) → Block → Bool
  block_fits types multi away no_statement = true
  block_fits types multi away (statement s rest) = statement_fits types multi away s && block_fits types multi away rest

  pub statement_fits : Types → (multi away : Bool) → Statement → Bool
  statement_fits types multi away (bind v e) = expr_fits types away v e
  statement_fits types multi away (bind_some v u) = fits_inside types (given types u) v
  statement_fits types multi away no_way = true
  statement_fits types multi away (match_on u arms) = arms_fit types multi away (given types u) arms
  statement_fits types multi away (if_equal a b body) = fits_equal (given types a) (given types b) && block_fits types multi away body
  statement_fits types multi away (for_each_of v from body) = (is_value (types.variables v) && is_value (types.variables from)) && block_fits types multi away body
  statement_fits types multi away (give at u) = fits_result multi away (given types u)
  statement_fits types multi away (labelled body) = block_fits types multi away body
  statement_fits types multi away (unless_let u pattern fields) = fits_pattern pattern (given types u) && fits_fields types pattern (given types u) fields
  statement_fits types multi away (unless_equal a b) = fits_equal (given types a) (given types b)

  pub arms_fit : Types → (multi away : Bool) → Given → CodeArms → Bool
  arms_fit types multi away g no_code_arm = true
  arms_fit types multi away g (code_arm pattern fields body rest) = (fits_pattern pattern g && fits_fields types pattern g fields) && (block_fits types multi away body && arms_fit types multi away g rest)

-- how sites are handed on, by types
abbrev pub lend : BindingMode → (copy : Bool) → Pass
lend a_reference copy = as_it_is
lend a_value true = as_it_is
lend a_value false = lent

abbrev pub keep_or_clone : Bool → Pass
keep_or_clone true = as_it_is
keep_or_clone false = cloned

abbrev pub hand_back : BindingMode → (keep owned multi : Bool) → Pass
hand_back mode true owned multi = as_it_is
hand_back a_value false true false = as_it_is
hand_back _ _ _ _ = cloned

abbrev pub look_at : (mode other : BindingMode) → Pass
look_at a_reference a_value = seen_through
look_at _ _ = as_it_is

abbrev pub pass_at : Types → Bool → (ℕ → Place) → Place → Taker → Pass
pass_at types multi at place (to_extractor term) = lend (mode_at types place) (types.is_copy place)
pass_at types multi at place (to_parameter term i) = lend (mode_at types place) (types.is_copy place)
pass_at types multi at place to_field = keep_or_clone (is_new place || types.is_copy place)
pass_at types multi at place to_some = keep_or_clone (is_new place || types.is_copy place)
pass_at types multi at place to_match = lend (mode_at types place) (types.is_copy place)
pass_at types multi at place (to_compare other) = look_at (mode_at types place) (mode_at types (at other))
pass_at types multi at place to_result = hand_back (mode_at types place) (is_new place || types.is_copy place) (is_owned types place) multi

abbrev pub place_in : List Site → ℕ → Place
place_in sites s = place_of (slice_get sites s) s

abbrev pub passes_of : Types → Bool → List Site → Passes
passes_of types multi sites s taker = pass_at types multi (place_in sites) (place_in sites s) taker

-- a tree is typed: what is Copy is no reference; a call's argument is taken by reference where it isn't Copy; what is made, and
-- the elements of a loop, are values; what is matched as a variant or a struct isn't Copy, what is compared with a literal
-- is; fields that aren't Copy are references, and so is what is in an option that isn't
abbrev pub copy_is_value : BindingMode → (copy : Bool) → Bool
copy_is_value a_reference copy = not copy
copy_is_value a_value copy = true

abbrev pub is_typed_at : Types → Place → Bool
is_typed_at types place = copy_is_value (mode_at types place) (types.is_copy place)

abbrev pub takes_what_is : (by_reference copy : Bool) → Bool
takes_what_is true copy = not copy
takes_what_is false copy = copy

abbrev pub argument_typed : Types → (by_reference : Bool) → Place → Bool
argument_typed types by_reference place = is_typed_at types place && takes_what_is by_reference (types.is_copy place)

abbrev pub arguments_typed : Types → List Site → (term i : ℕ) → List ℕ → Bool
arguments_typed types sites term i [] = true
arguments_typed types sites term i (s ∷ rest) = argument_typed types (types.takes_reference term i) (place_in sites s) && arguments_typed types sites term (suc i) rest

abbrev pub fields_typed : Types → List Site → List ℕ → Bool
fields_typed types sites [] = true
fields_typed types sites (s ∷ rest) = is_typed_at types (place_in sites s) && fields_typed types sites rest

abbrev pub inside_typed : Types → (copy : Bool) → ℕ → Bool
inside_typed types true v = is_value (types.variables v) && types.is_copy (variable v)
inside_typed types false v = not (is_value (types.variables v))

-- a field that isn't Copy is seen by reference
abbrev pub is_seen : Types → ℕ → Bool
is_seen types v = not (is_value (types.variables v)) || types.is_copy (variable v)

abbrev pub site_typed : Types → List Site → ℕ → Option Site → Bool
site_typed types sites s (Some (bool_site b ty)) = is_value (types.variables s)
site_typed types sites s (Some (extractor_site term source)) = argument_typed types (types.extracts_reference term) (place_in sites source)
site_typed types sites s (Some (constructor_site term sources instance)) = arguments_typed types sites term 0 sources
site_typed types sites s (Some (make_variant_site ty variant fields)) = is_value (types.variables s) && fields_typed types sites fields
site_typed types sites s (Some (make_struct_site ty fields)) = is_value (types.variables s) && fields_typed types sites fields
site_typed types sites s (Some (make_some_site source)) = is_value (types.variables s) && is_typed_at types (place_in sites source)
site_typed types sites s (Some (iterator_site source)) = is_value (types.variables s) && is_value (types.variables source)
site_typed types sites s (Some (match_variant_site source variant field)) = is_seen types s
site_typed types sites s (Some (extract_struct_site source field)) = is_seen types s
site_typed types sites s (Some (match_some_site source)) = is_typed_at types (place_in sites source) && inside_typed types (types.is_copy (place_in sites source)) s
site_typed types sites s _ = true

abbrev pub binds_typed : Types → List Site → List ℕ → Bool
binds_typed types sites [] = true
binds_typed types sites (s ∷ rest) = site_typed types sites s (slice_get sites s) && binds_typed types sites rest

abbrev pub pattern_typed : Constraint → (copy : Bool) → Bool
pattern_typed (is_variant ty variant fields) copy = not copy
pattern_typed (is_struct ty fields) copy = not copy
pattern_typed (is_prim name) copy = true
pattern_typed is_present copy = true
pattern_typed _ copy = copy

abbrev pub field_typed : Types → Constraint → (copy : Bool) → ℕ → Bool
field_typed types is_present copy v = inside_typed types copy v
field_typed types _ copy v = is_seen types v

abbrev pub brought_typed : Types → Constraint → (copy : Bool) → List (Option ℕ) → Bool
brought_typed types pattern copy [] = true
brought_typed types pattern copy (None ∷ rest) = brought_typed types pattern copy rest
brought_typed types pattern copy (Some v ∷ rest) = field_typed types pattern copy v && brought_typed types pattern copy rest

abbrev mutual
  pub tree_typed : Types → List Site → Tree → Bool
  tree_typed types sites no_step = true
  tree_typed types sites (step binds check rest) = binds_typed types sites binds && (check_typed types sites check && tree_typed types sites rest)

  pub check_typed : Types → List Site → Check → Bool
  check_typed types sites (match_at source arms) = is_typed_at types (place_in sites source) && arms_typed types sites (types.is_copy (place_in sites source)) arms
  check_typed types sites (equal_at a b body) = tree_typed types sites body
  check_typed types sites (loop_at result body) = site_typed types sites result (slice_get sites result) && tree_typed types sites body
  check_typed types sites (return_at at result) = is_typed_at types (place_in sites result)

  pub arms_typed : Types → List Site → (copy : Bool) → Arms → Bool
  arms_typed types sites copy no_arm = true
  arms_typed types sites copy (arm constraint fields body rest) = (pattern_typed constraint copy && brought_typed types constraint copy fields) && (tree_typed types sites body && arms_typed types sites copy rest)

-- labels, put at whatever depths, keep modes
abbrev pub FlatKeepsModes : Type 0
FlatKeepsModes =
    (types : Types) (multi away : Bool) (b : Block) (deep : ℕ → Bool) (n : ℕ) → unlabelled b ≡ true → block_fits types multi away b ≡ true
    → block_fits types multi away (flat b deep n) ≡ true

-- where a tree is typed, values handed on by types fit
abbrev pub PassesByTypesFit : Type 0
PassesByTypesFit =
    (types : Types) (multi : Bool) (sites : List Site) (tree : Tree) (deep : ℕ → Bool) (n : ℕ) → tree_typed types sites tree ≡ true
    → block_fits types multi false (flat (tree_code tree sites (passes_of types multi sites)) deep n) ≡ true

-- a set is typed: each site is, each is a value or a reference as its type says, and rules constrain what their constraints fit
pub record IsTypedSet (types : Types) (set : SiteSet) : Type 0 where
  pub sites : (s : ℕ) → site_typed types set.sites s (slice_get set.sites s) ≡ true
  pub places : (s : ℕ) → is_typed_at types (place_in set.sites s) ≡ true
  pub constrained : (r : SetRule) (s : ℕ) (c : Constraint) → Contains set.rules r → Contains r.constraints (s, c) → pattern_typed c (types.is_copy (place_in set.sites s)) ≡ true
