-- Short forms of sites, of sets of rules, and of trees.
use Rattle.std.specs.Prelude.{ℕ, ℤ, pos, List, [], Option, None}
use Rattle.model.specs.sites.Sites.{Site, int_site, Constraint, is_int, SetRule, SiteTerm, argument, no_site_term, site_term_and, SiteTerms}
use Rattle.model.specs.visits.Demands.{Demands}
use Rattle.model.specs.trees.Trees.{Tree, step, return_at, Arms, no_arm, arm}
use Rattle.laws_examples.specs.Written.{at}

-- the number n of type u8, as a constraint, as a site and as what a site stands for
abbrev pub is_byte : ℕ → Constraint
is_byte n = is_int (pos n) 1

abbrev pub byte : ℕ → Site
byte n = int_site (pos n) 1

-- the first three arguments
abbrev pub a0 : SiteTerm
a0 = argument 0

abbrev pub a1 : SiteTerm
a1 = argument 1

abbrev pub a2 : SiteTerm
a2 = argument 2

-- one source of a call
abbrev pub one_source : SiteTerm → SiteTerms
one_source s = site_term_and s no_site_term

-- demands without calls
abbrev pub asking : List (SiteTerm × Constraint) → List (SiteTerm × SiteTerm) → List SiteTerm → Demands
asking constraints equalities made = record { constraints = constraints; equalities = equalities; iterators = []; impure = []; made = made; counted = [] }

-- a rule by its number, its definition's, its priority, its demands and what it returns
abbrev pub a_rule : ℕ → ℕ → ℤ → List (ℕ × Constraint) → List (List ℕ) → ℕ → SetRule
a_rule i d prio constraints classes result = record { id = i; at = at d; prio = prio; name = None; constraints = constraints; classes = classes; iterators = []; impure = []; result = result }

-- a tree that returns, and one arm
abbrev pub returning : List ℕ → ℕ → ℕ → Tree → Tree
returning binds d result rest = step binds (return_at (at d) result) rest

abbrev pub one_arm : Constraint → List (Option ℕ) → Tree → Arms
one_arm c fields body = arm c fields body no_arm
