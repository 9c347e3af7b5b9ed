-- The types of accepted definitions make the trees of their terms typed, since constraints are of their sites' types. So their code is
-- well made.
use Rattle.std.specs.Prelude.{◌≡◌, ℕ, Bool, true, Contains}
use Rattle.model.specs.rules.Program.{Program, arg_types, is_multi}
use Rattle.model.specs.sites.Sites.{Constraint, SetRule, SiteSet, unfold_site}
use Rattle.model.specs.trees.Trees.{Tree}
use Rattle.model.specs.trees.Best.{IsBestTree}
use Rattle.model.specs.claims.Layers.{LoweredTerm}
use Rattle.laws_sites.specs.BuiltSets.{OfBuiltSets}
use Rattle.model_code.specs.Code.{Block}
use Rattle.model_code.specs.TreeCode.{tree_code}
use Rattle.model_code.specs.Flat.{flat}
use Rattle.model_code.specs.Scopes.{IsScoped}
use Rattle.model_code.specs.Modes.{Types, block_fits, passes_of, pattern_typed, tree_typed, IsTypedSet}
use Rattle.model_code.specs.MovedOnce.{IsMovedOnce}
use Rattle.model_code.specs.Saving.{with_moves}
use Rattle.model_code.specs.SiteTypes.{types_at, are_copied, types_of}
use Rattle.laws_code.specs.AcceptedCode.{OfBestTrees}
use Rattle.laws_code.specs.CodeChoices.{MeansItsSource}

-- the best trees of a typed set are typed
abbrev pub TypedSetsHaveTypedTrees : Type 0
TypedSetsHaveTypedTrees = (types : Types) (set : SiteSet) (tree : Tree) → IsTypedSet types set → IsBestTree set tree → tree_typed types set.sites tree ≡ true

-- rules constrain to variants and structs what has an enum or a struct in it, and to literals what hasn't
abbrev pub ConstrainsByTypes : Program → ℕ → SiteSet → Type 0
ConstrainsByTypes p t set =
    (r : SetRule) (s : ℕ) (c : Constraint) → Contains set.rules r → Contains r.constraints (s, c)
    → pattern_typed c (are_copied p (types_at p (arg_types p t) (unfold_site set.sites s))) ≡ true

-- a built set does
abbrev pub BuiltSetsConstrainByTypes : Type 0
BuiltSetsConstrainByTypes = OfBuiltSets ConstrainsByTypes

-- then it is typed
abbrev pub BuiltSetsAreTyped : Type 0
BuiltSetsAreTyped = OfBuiltSets (λ p t set. ConstrainsByTypes p t set → IsTypedSet (types_of p (arg_types p t) set.sites) set)

-- code by types, with moves in place of clones
abbrev pub code_by_types : Program → LoweredTerm → (ℕ → Bool) → ℕ → Block
code_by_types p l deep n =
    let types = types_of p (arg_types p l.term) l.set.sites in
    with_moves types (flat (tree_code l.tree l.set.sites (passes_of types (is_multi p l.term) l.set.sites)) deep n)

-- what it reads is in scope; each use gives what is wanted, a reference or a value; what isn't Copy is moved once at most on each way;
-- and it means what its source rules do
pub record IsWellMade (p : Program) (l : LoweredTerm) (code : Block) : Type 0 where
  pub scoped : IsScoped code
  pub fits : block_fits (types_of p (arg_types p l.term) l.set.sites) (is_multi p l.term) true code ≡ true
  pub once : IsMovedOnce (types_of p (arg_types p l.term) l.set.sites) (is_multi p l.term) code
  pub means : MeansItsSource p l code

abbrev pub CodeOfAcceptedIsWellMade : Type 0
CodeOfAcceptedIsWellMade = OfBestTrees (λ p l. ConstrainsByTypes p l.term l.set → (deep : ℕ → Bool) (n : ℕ) → IsWellMade p l (code_by_types p l deep n))

-- so the code of each term is
abbrev pub CodeOfEachTermIsWellMade : Type 0
CodeOfEachTermIsWellMade = OfBestTrees (λ p l. (deep : ℕ → Bool) (n : ℕ) → IsWellMade p l (code_by_types p l deep n))
