-- Rust's scopes, on code as data: each variable that is read was bound before, in the block or in one around it, and each label
-- that is left is around.
use Rattle.std.specs.Prelude.{[], ◌≡◌, ◌&&◌, ◌++◌, ◌∷◌, ℕ, Bool, true, false, List, Some, slice_get}
use Rattle.model.specs.sites.Sites.{Site, iterator_site, SiteSet}
use Rattle.model.specs.trees.Trees.{Tree}
use Rattle.model.specs.trees.Best.{IsBestTree}
use Rattle.model.specs.trees.Places.{is_in, is_in_place, field_sites}
use Rattle.model.specs.claims.Layers.{BindsBeforeUse}
use Rattle.model_code.specs.Code.{Place, variable, part_of, PlaceUse, Expr, truth_written, read, extraction, call, variant_of, struct_of, some_of, Block, no_statement, statement, Statement, bind, bind_some, no_way, match_on, if_equal, for_each_of, give, labelled, unless_let, unless_equal, CodeArms, no_code_arm, code_arm}
use Rattle.model_code.specs.TreeCode.{Passes, tree_code}
use Rattle.model_code.specs.Flat.{unlabelled, flat}

-- a place that is read is known: a parameter and what is written out are everywhere
abbrev pub knows : List ℕ → Place → Bool
knows scope (variable v) = is_in v scope
knows scope (part_of v i) = is_in v scope
knows scope place = true

abbrev pub knows_all : List ℕ → List PlaceUse → Bool
knows_all scope [] = true
knows_all scope (u ∷ us) = knows scope u.place && knows_all scope us

abbrev pub reads_known : List ℕ → Expr → Bool
reads_known scope (truth_written b ty) = true
reads_known scope (read u) = knows scope u.place
reads_known scope (extraction term u) = knows scope u.place
reads_known scope (call term us instance) = knows_all scope us
reads_known scope (variant_of ty variant us) = knows_all scope us
reads_known scope (struct_of ty us) = knows_all scope us
reads_known scope (some_of u) = knows scope u.place

-- what is bound from a statement to the end of its block
abbrev pub scope_after : List ℕ → Statement → List ℕ
scope_after scope (bind v e) = v ∷ scope
scope_after scope (bind_some v u) = v ∷ scope
scope_after scope (unless_let u pattern fields) = field_sites fields ++ scope
scope_after scope s = scope

-- what follows `unreachable!()` in its block isn't printed
abbrev pub unless_ended : Statement → Bool → Bool
unless_ended no_way later = true
unless_ended s later = later

-- whether a label is around, and what is in scope
abbrev mutual
  pub block_scoped : Bool → List ℕ → Block → Bool
  block_scoped label scope no_statement = true
  block_scoped label scope (statement s rest) = statement_scoped label scope s && unless_ended s (block_scoped label (scope_after scope s) rest)

  pub statement_scoped : Bool → List ℕ → Statement → Bool
  statement_scoped label scope (bind v e) = reads_known scope e
  statement_scoped label scope (bind_some v u) = knows scope u.place
  statement_scoped label scope no_way = true
  statement_scoped label scope (match_on u arms) = knows scope u.place && arms_scoped label scope arms
  statement_scoped label scope (if_equal a b body) = (knows scope a.place && knows scope b.place) && block_scoped label scope body
  statement_scoped label scope (for_each_of v from body) = is_in from scope && block_scoped label (v ∷ scope) body
  statement_scoped label scope (give at u) = knows scope u.place
  statement_scoped label scope (labelled body) = block_scoped true scope body
  statement_scoped label scope (unless_let u pattern fields) = label && knows scope u.place
  statement_scoped label scope (unless_equal a b) = label && (knows scope a.place && knows scope b.place)

  pub arms_scoped : Bool → List ℕ → CodeArms → Bool
  arms_scoped label scope no_code_arm = true
  arms_scoped label scope (code_arm pattern fields body rest) = block_scoped label (field_sites fields ++ scope) body && arms_scoped label scope rest

-- a whole function: nothing is in scope before, and no label is around
abbrev pub IsScoped : Block → Type 0
IsScoped code = block_scoped false [] code ≡ true

-- labels, put at whatever depths, keep scopes
abbrev pub FlatKeepsScopes : Type 0
FlatKeepsScopes = (b : Block) (deep : ℕ → Bool) (n : ℕ) (scope : List ℕ) → unlabelled b ≡ true → block_scoped false scope b ≡ true → block_scoped false scope (flat b deep n) ≡ true

-- no loop goes over what is written in place, which has no variable
abbrev pub LoopsAreOverBound : List Site → Type 0
LoopsAreOverBound sites = (s source : ℕ) → slice_get sites s ≡ Some (iterator_site source) → is_in_place (slice_get sites source) ≡ false

-- a best tree that binds each site before its use, in every step, has code that does
abbrev pub PrintedCodeIsScoped : Type 0
PrintedCodeIsScoped =
    (set : SiteSet) (tree : Tree) (p : Passes) (deep : ℕ → Bool) (n : ℕ) → IsBestTree set tree → BindsBeforeUse set true tree → LoopsAreOverBound set.sites
    → IsScoped (flat (tree_code tree set.sites p) deep n)
