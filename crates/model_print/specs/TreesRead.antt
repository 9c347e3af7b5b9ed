-- Printed trees are read back.
use Rattle.std.specs.Prelude.{◌≡◌, ℕ, List, length, map, Option}
use Rattle.model.specs.sites.Sites.{Site, bool_site, Constraint, is_variant, is_struct, is_bool}
use Rattle.model.specs.trees.Trees.{Tree, no_step, step, Check, match_at, equal_at, loop_at, return_at, Arms, no_arm, arm}
use Rattle.model_print.specs.PrintedTrees.{printed_lines}
use Rattle.model_print.specs.ReadTrees.{read_sites, read_tree}

-- all but the type of a truth value is shown
abbrev pub shown_site : Site → Site
shown_site (bool_site b ty) = bool_site b 0
shown_site s = s

-- and of an arm the number of fields is that of those which stand there
abbrev pub shown_constraint : List (Option ℕ) → Constraint → Constraint
shown_constraint fields (is_variant ty variant n) = is_variant ty variant (length fields)
shown_constraint fields (is_struct ty n) = is_struct ty (length fields)
shown_constraint fields (is_bool b ty) = is_bool b 0
shown_constraint fields c = c

abbrev mutual
  pub shown_tree : Tree → Tree
  shown_tree no_step = no_step
  shown_tree (step binds check rest) = step binds (shown_check check) (shown_tree rest)

  pub shown_check : Check → Check
  shown_check (match_at source arms) = match_at source (shown_arms arms)
  shown_check (equal_at a b body) = equal_at a b (shown_tree body)
  shown_check (loop_at result body) = loop_at result (shown_tree body)
  shown_check (return_at at result) = return_at at result

  pub shown_arms : Arms → Arms
  shown_arms no_arm = no_arm
  shown_arms (arm constraint fields body rest) = arm (shown_constraint fields constraint) fields (shown_tree body) (shown_arms rest)

-- the lines of sites and a tree are read as these
pub record TreesAreRead : Type 0 where
  pub sites : (sites : List Site) (tree : Tree) → read_sites (printed_lines sites tree) ≡ map shown_site sites
  pub tree : (sites : List Site) (tree : Tree) → read_tree (printed_lines sites tree) ≡ shown_tree tree

-- so what has the same lines is shown alike
pub record LinesShowTrees : Type 0 where
  pub sites : (ss zs : List Site) (t u : Tree) → printed_lines ss t ≡ printed_lines zs u → map shown_site ss ≡ map shown_site zs
  pub tree : (ss zs : List Site) (t u : Tree) → printed_lines ss t ≡ printed_lines zs u → shown_tree t ≡ shown_tree u
