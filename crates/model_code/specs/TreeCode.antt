-- The code of a tree: whatever the way in which values are handed on.
use Rattle.std.specs.Prelude.{ℕ, suc, List, [], ◌∷◌, map, Option, Some, slice_get}
use Rattle.model.specs.sites.Sites.{Site, bool_site, int_site, prim_site, argument_site, extractor_site, constructor_site, iterator_site, make_variant_site, make_struct_site, make_some_site, match_some_site, match_tuple_site}
use Rattle.model.specs.trees.Trees.{Tree, no_step, step, Check, match_at, equal_at, loop_at, return_at, Arms, no_arm, arm}
use Rattle.model_code.specs.Code.{Place, variable, parameter, part_of, int_written, name_written, variant_written, struct_written, Pass, PlaceUse, truth_written, extraction, call, variant_of, struct_of, some_of, Block, no_statement, statement, Statement, bind, bind_some, no_way, match_on, if_equal, for_each_of, give, CodeArms, no_code_arm, code_arm}

-- what a site is handed on to
pub data Taker : Type 0 where
  -- the parameter of a term's extractor, and that of this place of its constructor
  to_extractor : (term : ℕ) → Taker
  to_parameter : (term i : ℕ) → Taker
  to_field : Taker
  to_some : Taker
  to_match : Taker
  to_compare : (other : ℕ) → Taker
  to_result : Taker

-- how sites are handed on: found by types and by which variables are references, which the code's run doesn't ask
abbrev pub Passes : Type 0
Passes = ℕ → Taker → Pass

-- where a site is read: those that no bind order binds are written in place
abbrev pub place_of : Option Site → ℕ → Place
place_of (Some (int_site z ty)) s = int_written z ty
place_of (Some (prim_site name)) s = name_written name
place_of (Some (argument_site i)) s = parameter i
place_of (Some (match_tuple_site source field)) s = part_of source field
place_of (Some (make_variant_site ty variant [])) s = variant_written ty variant
place_of (Some (make_struct_site ty [])) s = struct_written ty
place_of _ s = variable s

abbrev pub use_at : List Site → Passes → Taker → ℕ → PlaceUse
use_at sites p taker s = record { place = place_of (slice_get sites s) s; pass = p s taker }

-- one parameter after the other
abbrev pub arguments_from : List Site → Passes → ℕ → ℕ → List ℕ → List PlaceUse
arguments_from sites p term i [] = []
arguments_from sites p term i (s ∷ rest) = use_at sites p (to_parameter term i) s ∷ arguments_from sites p term (suc i) rest

abbrev pub fields_of : List Site → Passes → List ℕ → List PlaceUse
fields_of sites p ss = map (use_at sites p to_field) ss

-- the statement that binds a site which isn't written in place
abbrev pub bind_code : List Site → Passes → ℕ → Option Site → Statement
bind_code sites p s (Some (bool_site b ty)) = bind s (truth_written b ty)
bind_code sites p s (Some (extractor_site term source)) = bind s (extraction term (use_at sites p (to_extractor term) source))
bind_code sites p s (Some (constructor_site term sources instance)) = bind s (call term (arguments_from sites p term 0 sources) instance)
bind_code sites p s (Some (make_variant_site ty variant fields)) = bind s (variant_of ty variant (fields_of sites p fields))
bind_code sites p s (Some (make_struct_site ty fields)) = bind s (struct_of ty (fields_of sites p fields))
bind_code sites p s (Some (make_some_site source)) = bind s (some_of (use_at sites p to_some source))
bind_code sites p s (Some (match_some_site source)) = bind_some s (use_at sites p to_match source)
bind_code sites p s _ = no_way

abbrev pub binds_code : List Site → Passes → List ℕ → Block → Block
binds_code sites p [] rest = rest
binds_code sites p (s ∷ ss) rest = statement (bind_code sites p s (slice_get sites s)) (binds_code sites p ss rest)

abbrev pub loop_code : Option Site → ℕ → Block → Statement
loop_code (Some (iterator_site source)) s body = for_each_of s source body
loop_code _ s body = no_way

abbrev mutual
  pub tree_code : Tree → List Site → Passes → Block
  tree_code no_step sites p = no_statement
  tree_code (step binds check rest) sites p = binds_code sites p binds (statement (check_code check sites p) (tree_code rest sites p))

  pub check_code : Check → List Site → Passes → Statement
  check_code (match_at source arms) sites p = match_on (use_at sites p to_match source) (arms_code arms sites p)
  check_code (equal_at a b body) sites p = if_equal (use_at sites p (to_compare b) a) (use_at sites p (to_compare a) b) (tree_code body sites p)
  check_code (loop_at result body) sites p = loop_code (slice_get sites result) result (tree_code body sites p)
  check_code (return_at at result) sites p = give at (use_at sites p to_result result)

  pub arms_code : Arms → List Site → Passes → CodeArms
  arms_code no_arm sites p = no_code_arm
  arms_code (arm constraint fields body rest) sites p = code_arm constraint fields (tree_code body sites p) (arms_code rest sites p)
