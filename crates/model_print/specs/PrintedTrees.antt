-- The lines of sites and of a tree.
use Rattle.std.specs.Prelude.{ℕ, zero, suc, ◌+◌, List, [], ◌∷◌, ◌++◌, map, Option, Some, None}
use Rattle.model.specs.sites.Sites.{Site, bool_site, int_site, prim_site, argument_site, extractor_site, constructor_site, iterator_site, make_variant_site, match_variant_site, make_struct_site, extract_struct_site, make_some_site, match_some_site, match_tuple_site, Constraint, is_variant, is_struct, is_bool, is_int, is_prim, is_present}
use Rattle.model.specs.trees.Trees.{Tree, no_step, step, Check, match_at, equal_at, loop_at, return_at, Arms, no_arm, arm}
use Rattle.model_print.specs.Lines.{bind_word, match_word, equal_word, loop_word, return_word, bool_word, int_word, prim_word, arg_word, extract_word, call_word, pick_word, make_word, some_word, unwrap_word, field_word, part_word, of_word, variant_word, struct_word, none, equals, Token, word, site, truth, count, integer, instance, term_name, type_name, variant_name, constant_name, nothing, colon, comment, Line, line}

abbrev pub sites_tokens : List ℕ → List Token
sites_tokens ss = map site ss

-- the number of an impure call; a pure one has none
abbrev pub instance_tokens : ℕ → List Token
instance_tokens zero = []
instance_tokens (suc n) = instance (suc n) ∷ []

abbrev pub site_tokens : Site → List Token
site_tokens (bool_site b ty) = word bool_word ∷ truth b ∷ []
site_tokens (int_site z ty) = word int_word ∷ integer z ∷ type_name ty ∷ []
site_tokens (prim_site name) = word prim_word ∷ constant_name name ∷ []
site_tokens (argument_site i) = word arg_word ∷ count i ∷ []
site_tokens (extractor_site term source) = word extract_word ∷ term_name term ∷ site source ∷ []
site_tokens (constructor_site term sources n) = word call_word ∷ term_name term ∷ (instance_tokens n ++ sites_tokens sources)
site_tokens (iterator_site source) = word pick_word ∷ site source ∷ []
site_tokens (make_variant_site ty variant fields) = word make_word ∷ variant_name ty variant ∷ sites_tokens fields
site_tokens (match_variant_site source variant field) = word field_word ∷ count field ∷ word of_word ∷ site source ∷ word variant_word ∷ count variant ∷ []
site_tokens (make_struct_site ty fields) = word make_word ∷ type_name ty ∷ sites_tokens fields
site_tokens (extract_struct_site source field) = word field_word ∷ count field ∷ word of_word ∷ site source ∷ []
site_tokens (make_some_site source) = word some_word ∷ site source ∷ []
site_tokens (match_some_site source) = word unwrap_word ∷ site source ∷ []
site_tokens (match_tuple_site source field) = word part_word ∷ count field ∷ word of_word ∷ site source ∷ []

-- a site of a number
abbrev pub site_line : ℕ → Site → Line
site_line n s = line 2 (site n ∷ word equals ∷ site_tokens s) nothing

-- sites whose numbers begin with one
abbrev pub site_lines : ℕ → List Site → List Line
site_lines n [] = []
site_lines n (s ∷ ss) = site_line n s ∷ site_lines (n + 1) ss

abbrev pub constraint_tokens : Constraint → List Token
constraint_tokens (is_variant ty variant fields) = word variant_word ∷ variant_name ty variant ∷ []
constraint_tokens (is_struct ty fields) = word struct_word ∷ type_name ty ∷ []
constraint_tokens (is_bool b ty) = word bool_word ∷ truth b ∷ []
constraint_tokens (is_int z ty) = word int_word ∷ integer z ∷ type_name ty ∷ []
constraint_tokens (is_prim name) = word prim_word ∷ constant_name name ∷ []
constraint_tokens is_present = word some_word ∷ []

abbrev pub field_token : Option ℕ → Token
field_token None = word none
field_token (Some s) = site s

-- the line of what a step binds, where it binds something
abbrev pub bind_lines : ℕ → List ℕ → List Line
bind_lines depth [] = []
bind_lines depth (s ∷ ss) = line depth (word bind_word ∷ sites_tokens (s ∷ ss)) nothing ∷ []

abbrev pub arm_line : ℕ → Constraint → List (Option ℕ) → Line
arm_line depth constraint fields = line depth (constraint_tokens constraint ++ map field_token fields) colon

abbrev mutual
  pub tree_lines : (depth : ℕ) → Tree → List Line
  tree_lines depth no_step = []
  tree_lines depth (step binds check rest) = bind_lines depth binds ++ (check_lines depth check ++ tree_lines depth rest)

  pub check_lines : (depth : ℕ) → Check → List Line
  check_lines depth (match_at source arms) = line depth (word match_word ∷ site source ∷ []) nothing ∷ arms_lines (depth + 2) arms
  check_lines depth (equal_at a b body) = line depth (word equal_word ∷ site a ∷ site b ∷ []) nothing ∷ tree_lines (depth + 2) body
  check_lines depth (loop_at result body) = line depth (word loop_word ∷ site result ∷ []) nothing ∷ tree_lines (depth + 2) body
  check_lines depth (return_at at result) = line depth (word return_word ∷ site result ∷ []) (comment at) ∷ []

  pub arms_lines : (depth : ℕ) → Arms → List Line
  arms_lines depth no_arm = []
  arms_lines depth (arm constraint fields body rest) = arm_line depth constraint fields ∷ (tree_lines (depth + 2) body ++ arms_lines depth rest)

-- the sites of a term, and below them its tree
abbrev pub printed_lines : List Site → Tree → List Line
printed_lines sites tree = site_lines 0 sites ++ tree_lines 2 tree
