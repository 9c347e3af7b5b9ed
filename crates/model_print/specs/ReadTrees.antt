-- Lines read back: sites from the first line on, the tree from the last line up.
use Rattle.std.specs.Prelude.{ℕ, ◌+◌, ◌==◌, nat_lt, if◌then◌else◌, List, [], ◌∷◌, length, Option, Some, None}
use Rattle.model.specs.lists.Syntax.{Position}
use Rattle.model.specs.sites.Sites.{Site, bool_site, int_site, prim_site, argument_site, extractor_site, constructor_site, iterator_site, make_variant_site, match_variant_site, make_struct_site, extract_struct_site, make_some_site, match_some_site, match_tuple_site, Constraint, is_variant, is_struct, is_bool, is_int, is_prim, is_present}
use Rattle.model.specs.trees.Trees.{Tree, no_step, step, match_at, equal_at, loop_at, return_at, Arms, no_arm, arm}
use Rattle.model_print.specs.Lines.{Word, bind_word, match_word, equal_word, loop_word, return_word, bool_word, int_word, prim_word, arg_word, extract_word, call_word, pick_word, make_word, some_word, unwrap_word, field_word, part_word, variant_word, struct_word, equals, Token, word, site, truth, count, integer, instance, term_name, type_name, variant_name, constant_name, Ending, comment, Line, line}

-- 1. tokens
-- the sites among tokens
abbrev pub sites_in : List Token → List ℕ
sites_in [] = []
sites_in (site s ∷ ts) = s ∷ sites_in ts
sites_in (t ∷ ts) = sites_in ts

-- what each token is as a field: a site, or none
abbrev pub field_of : Token → Option ℕ
field_of (site s) = Some s
field_of t = None

abbrev pub fields_in : List Token → List (Option ℕ)
fields_in [] = []
fields_in (t ∷ ts) = field_of t ∷ fields_in ts

-- 2. sites, behind their numbers; the type of a truth value isn't shown
abbrev pub one_of : (ℕ → Site) → List ℕ → Option Site
one_of make (s ∷ []) = Some (make s)
one_of make ss = None

abbrev pub read_bool : List Token → Option Site
read_bool (truth b ∷ []) = Some (bool_site b 0)
read_bool ts = None

abbrev pub read_int : List Token → Option Site
read_int (integer z ∷ type_name ty ∷ []) = Some (int_site z ty)
read_int ts = None

abbrev pub read_prim : List Token → Option Site
read_prim (constant_name name ∷ []) = Some (prim_site name)
read_prim ts = None

abbrev pub read_arg : List Token → Option Site
read_arg (count i ∷ []) = Some (argument_site i)
read_arg ts = None

abbrev pub read_extract : List Token → Option Site
read_extract (term_name term ∷ ts) = one_of (extractor_site term) (sites_in ts)
read_extract ts = None

abbrev pub read_instance : ℕ → List Token → Site
read_instance term (instance n ∷ ts) = constructor_site term (sites_in ts) n
read_instance term ts = constructor_site term (sites_in ts) 0

abbrev pub read_call : List Token → Option Site
read_call (term_name term ∷ ts) = Some (read_instance term ts)
read_call ts = None

abbrev pub read_make : List Token → Option Site
read_make (variant_name ty variant ∷ ts) = Some (make_variant_site ty variant (sites_in ts))
read_make (type_name ty ∷ ts) = Some (make_struct_site ty (sites_in ts))
read_make ts = None

abbrev pub read_field_of : (field source : ℕ) → List Token → Option Site
read_field_of field source [] = Some (extract_struct_site source field)
read_field_of field source (t ∷ count variant ∷ []) = Some (match_variant_site source variant field)
read_field_of field source ts = None

abbrev pub read_field : List Token → Option Site
read_field (count field ∷ t ∷ site source ∷ ts) = read_field_of field source ts
read_field ts = None

abbrev pub read_part : List Token → Option Site
read_part (count field ∷ t ∷ site source ∷ []) = Some (match_tuple_site source field)
read_part ts = None

abbrev pub read_site_by : Word → List Token → Option Site
read_site_by bool_word ts = read_bool ts
read_site_by int_word ts = read_int ts
read_site_by prim_word ts = read_prim ts
read_site_by arg_word ts = read_arg ts
read_site_by extract_word ts = read_extract ts
read_site_by call_word ts = read_call ts
read_site_by pick_word ts = one_of iterator_site (sites_in ts)
read_site_by make_word ts = read_make ts
read_site_by some_word ts = one_of make_some_site (sites_in ts)
read_site_by unwrap_word ts = one_of match_some_site (sites_in ts)
read_site_by field_word ts = read_field ts
read_site_by part_word ts = read_part ts
read_site_by w ts = None

abbrev pub read_site : List Token → Option Site
read_site (word w ∷ ts) = read_site_by w ts
read_site ts = None

-- the site of a line, where it is one
abbrev pub site_of_tokens : List Token → Option Site
site_of_tokens (site n ∷ word equals ∷ ts) = read_site ts
site_of_tokens ts = None

abbrev pub before_sites : Option Site → List Site → List Site
before_sites None ss = []
before_sites (Some s) ss = s ∷ ss

-- the sites of lines, up to the first line that is none
abbrev pub read_sites : List Line → List Site
read_sites [] = []
read_sites (line depth ts ending ∷ ls) = before_sites (site_of_tokens ts) (read_sites ls)

-- 3. what a line of a tree says
pub data Said : Type 0 where
  no_part : Said
  binds : (ss : List ℕ) → Said
  checks_match : (source : ℕ) → Said
  checks_equal : (a b : ℕ) → Said
  checks_loop : (result : ℕ) → Said
  returns : (at : Position) (result : ℕ) → Said
  begins_arm : (constraint : Constraint) (fields : List (Option ℕ)) → Said

abbrev pub read_match : List ℕ → Said
read_match (s ∷ []) = checks_match s
read_match ss = no_part

abbrev pub read_equal : List ℕ → Said
read_equal (a ∷ b ∷ []) = checks_equal a b
read_equal ss = no_part

abbrev pub read_loop : List ℕ → Said
read_loop (s ∷ []) = checks_loop s
read_loop ss = no_part

abbrev pub read_return_at : Position → List ℕ → Said
read_return_at at (s ∷ []) = returns at s
read_return_at at ss = no_part

abbrev pub read_return : Ending → List ℕ → Said
read_return (comment at) ss = read_return_at at ss
read_return ending ss = no_part

abbrev pub read_variant : List Token → Said
read_variant (variant_name ty variant ∷ ts) = begins_arm (is_variant ty variant (length (fields_in ts))) (fields_in ts)
read_variant ts = no_part

abbrev pub read_struct : List Token → Said
read_struct (type_name ty ∷ ts) = begins_arm (is_struct ty (length (fields_in ts))) (fields_in ts)
read_struct ts = no_part

abbrev pub read_bool_arm : List Token → Said
read_bool_arm (truth b ∷ ts) = begins_arm (is_bool b 0) (fields_in ts)
read_bool_arm ts = no_part

abbrev pub read_int_arm : List Token → Said
read_int_arm (integer z ∷ type_name ty ∷ ts) = begins_arm (is_int z ty) (fields_in ts)
read_int_arm ts = no_part

abbrev pub read_prim_arm : List Token → Said
read_prim_arm (constant_name name ∷ ts) = begins_arm (is_prim name) (fields_in ts)
read_prim_arm ts = no_part

abbrev pub read_words : Word → List Token → Ending → Said
read_words bind_word ts ending = binds (sites_in ts)
read_words match_word ts ending = read_match (sites_in ts)
read_words equal_word ts ending = read_equal (sites_in ts)
read_words loop_word ts ending = read_loop (sites_in ts)
read_words return_word ts ending = read_return ending (sites_in ts)
read_words variant_word ts ending = read_variant ts
read_words struct_word ts ending = read_struct ts
read_words bool_word ts ending = read_bool_arm ts
read_words int_word ts ending = read_int_arm ts
read_words prim_word ts ending = read_prim_arm ts
read_words some_word ts ending = begins_arm is_present (fields_in ts)
read_words w ts ending = no_part

abbrev pub read_line : List Token → Ending → Said
read_line (word w ∷ ts) ending = read_words w ts ending
read_line ts ending = no_part

-- 4. trees. What stands at a depth, from a line on: steps, and arms
pub record Level : Type 0 where
  pub steps : Tree
  pub arms : Arms

abbrev pub no_level : Level
no_level = record { steps = no_step; arms = no_arm }

-- what a step binds stands in a line before it
abbrev pub with_binds : List ℕ → Tree → Tree
with_binds ss no_step = no_step
with_binds ss (step bs check rest) = step ss check rest

-- what stands where a line is: of what stands behind it, at its depth and two spaces further in
abbrev pub placed : Said → (here inside : Level) → Level
placed no_part here inside = here
placed (binds ss) here inside = record { steps = with_binds ss here.steps; arms = here.arms }
placed (checks_match source) here inside = record { steps = step [] (match_at source inside.arms) here.steps; arms = here.arms }
placed (checks_equal a b) here inside = record { steps = step [] (equal_at a b inside.steps) here.steps; arms = here.arms }
placed (checks_loop result) here inside = record { steps = step [] (loop_at result inside.steps) here.steps; arms = here.arms }
placed (returns at result) here inside = record { steps = step [] (return_at at result) here.steps; arms = here.arms }
placed (begins_arm constraint fields) here inside = record { steps = here.steps; arms = arm constraint fields inside.steps here.arms }

-- what stands at each depth: a line ends what is further in
unfoldable pub levels : List Line → (depth : ℕ) → Level
levels [] k = no_level
levels (line depth ts ending ∷ ls) k =
    if nat_lt k depth then levels ls k else (if k == depth then placed (read_line ts ending) (levels ls k) (levels ls (k + 2)) else no_level)

-- the tree of a term's lines
abbrev pub read_tree : List Line → Tree
read_tree ls = (levels ls 2).steps
