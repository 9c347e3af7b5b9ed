-- How large patterns are: expansions end, since so many may nest, and each makes a pattern at most so many times as large.
use Rattle.std.proofs.Common.{◌≡◌, ℕ, zero, suc, ◌+◌, ◌*◌, ◌<◌, ◌≤◌, List, [], ◌∷◌, length, get_or, Option, Some, None, option_map, slice_get, ap, arith, inl, inr}
use Rattle.std.proofs.Math.Nat.{mul-le-mul_left}
use Rattle.std.proofs.lemmas.Option.{same_Some}
use Rattle.std.proofs.lemmas.Grind.{common_steps}
use Rattle.core_syntax.specs.declared.syntax.Pattern as T
use Rattle.core_syntax.specs.SyntaxViews as S
use Rattle.model.specs.lists.Syntax.{PatternTree, var_pattern, bind_pattern, bool_pattern, int_pattern, prim_pattern, term_pattern, wildcard_pattern, and_pattern, macro_arg, PatternTrees, no_pattern, pattern_and, pattern_list}
use Rattle.model.specs.lists.Tables.{TermEntry}
use Rattle.model.specs.lists.Expansions.{substituted, all_substituted, with_pattern}
use Rattle.model.specs.lists.Setting.{kind_template}
use Rattle.core_terms.specs.TermViews.{term_views}
use Rattle.core_rules.specs.declared.term_env.TermEnv.{TermEnv}
use Rattle.core_rules.specs.PatternUses.{IsExpansionOf}

abbrev mutual
  pub tree_size : PatternTree → ℕ
  tree_size (var_pattern name at) = 1
  tree_size (bind_pattern name of at) = suc (tree_size of)
  tree_size (bool_pattern b at) = 1
  tree_size (int_pattern z at) = 1
  tree_size (prim_pattern name at) = 1
  tree_size (term_pattern name args at) = suc (trees_size args)
  tree_size (wildcard_pattern at) = 1
  tree_size (and_pattern parts at) = suc (trees_size parts)
  tree_size (macro_arg i at) = 1

  pub trees_size : PatternTrees → ℕ
  trees_size no_pattern = 0
  trees_size (pattern_and p rest) = suc (tree_size p + trees_size rest)

-- the sizes of all templates, and some more
abbrev pub template_size : Option PatternTree → ℕ
template_size None = 0
template_size (Some p) = tree_size p

abbrev pub growth : List TermEntry → ℕ
growth [] = 4
growth (t ∷ ts) = template_size (kind_template t.kind) + growth ts

-- how large what so many nested expansions make may become
abbrev pub grown : ℕ → ℕ → ℕ → ℕ
grown k zero n = n
grown k (suc d) n = grown k d (k * n)

pub four : (ts : List TermEntry) → 4 ≤ growth ts
four [] = omega arith
four (t ∷ ts) = let r = four ts in omega (arith, r)

grows : (k d m n : ℕ) → 0 < k → m < n → grown k d m < grown k d n
grows k zero m n some less = less
grows k (suc d) m n some less =
    let a : suc m ≤ n = omega (arith, less) in
    let b = mul-le-mul_left k a in
    grows k d (k * m) (k * n) some (omega (arith, b, some))

pub smaller : (ts : List TermEntry) (d m n : ℕ) → m < n → grown (growth ts) d m < grown (growth ts) d n
smaller ts d m n less = let f = four ts in grows (growth ts) d m n (omega (arith, f)) less

pub deeper_smaller : (ts : List TermEntry) (d m n : ℕ) → m < growth ts * n → grown (growth ts) d m < grown (growth ts) (suc d) n
deeper_smaller ts d m n less = smaller ts d m (growth ts * n) less

one_at_least : (p : PatternTree) → 1 ≤ tree_size p
one_at_least (var_pattern name at) = omega arith
one_at_least (bind_pattern name of at) = omega arith
one_at_least (bool_pattern b at) = omega arith
one_at_least (int_pattern z at) = omega arith
one_at_least (prim_pattern name at) = omega arith
one_at_least (term_pattern name args at) = omega arith
one_at_least (wildcard_pattern at) = omega arith
one_at_least (and_pattern parts at) = omega arith
one_at_least (macro_arg i at) = omega arith

part_size : (ps : PatternTrees) (i : ℕ) (p : PatternTree) → slice_get (pattern_list ps) i ≡ Some p → tree_size p ≤ trees_size ps
part_size (pattern_and q ps) (suc i) p h = let r = part_size ps i p h in omega (arith, r)
part_size ps i p h = grind (arith, same_Some)

pub mapped_gives : {A B : Type 0} (f : A → B) (o : Option A) (b : B) → option_map f o ≡ Some b → (a : A) × (o ≡ Some a) × (f a ≡ b)
mapped_gives f o b h = grind (arith, common_steps, same_Some)

pub with_gives : (o : Option PatternTree) (r : Option PatternTrees) (qs : PatternTrees) → with_pattern o r ≡ Some qs → (p : PatternTree) × (ps : PatternTrees) × (o ≡ Some p) × (r ≡ Some ps) × (pattern_and p ps ≡ qs)
with_gives o r qs h = grind (arith, same_Some)

-- what is put into a template is at most so large each
module _ (given : List PatternTree) (m : ℕ) (some : 1 ≤ m) (each : (i : ℕ) (p : PatternTree) → slice_get given i ≡ Some p → tree_size p ≤ m) where
  mutual
    substituted_size : (t q : PatternTree) → substituted given t ≡ Some q → tree_size q ≤ tree_size t * m
    substituted_size (bind_pattern name of at) q h =
        let g = mapped_gives (λ p. bind_pattern name p at) (substituted given of) q h in
        let r = substituted_size of g.0 g.1 in
        let e : suc (tree_size g.0) ≡ tree_size q = ap tree_size g.2 in
        omega (arith, r, e, some)
    substituted_size (term_pattern name args at) q h =
        let g = mapped_gives (λ ps. term_pattern name ps at) (all_substituted given args) q h in
        let r = all_size args g.0 g.1 in
        let e : suc (trees_size g.0) ≡ tree_size q = ap tree_size g.2 in
        omega (arith, r, e, some)
    substituted_size (and_pattern parts at) q h =
        let g = mapped_gives (λ ps. and_pattern ps at) (all_substituted given parts) q h in
        let r = all_size parts g.0 g.1 in
        let e : suc (trees_size g.0) ≡ tree_size q = ap tree_size g.2 in
        omega (arith, r, e, some)
    substituted_size t q h = grind (arith, same_Some)

    all_size : (ts qs : PatternTrees) → all_substituted given ts ≡ Some qs → trees_size qs ≤ trees_size ts * m
    all_size no_pattern qs h = let e : 0 ≡ trees_size qs = ap trees_size (same_Some no_pattern qs h) in omega (arith, e)
    all_size (pattern_and t ts) qs h = grind (arith, common_steps, substituted_size t, all_size ts, with_gives)

template_below : (ts : List TermEntry) (k : ℕ) (t : TermEntry) (p : PatternTree) → slice_get ts k ≡ Some t → kind_template t.kind ≡ Some p → tree_size p + 4 ≤ growth ts
template_below (u ∷ ts) (suc k) t p h i = let r = template_below ts k t p h i in omega (arith, r)
template_below ts k t p h i = grind (arith, same_Some, four)

-- an expansion makes a pattern that is at most so many times as large
pub expansion_smaller : (env : TermEnv) (whole : PatternTree) (args : PatternTrees) (made : PatternTree) → tree_size whole ≡ suc (trees_size args) → IsExpansionOf env whole args made → tree_size made < growth (term_views env.terms.items) * tree_size whole
expansion_smaller env whole args made size (inl x) =
    let e : tree_size made ≡ suc (suc (tree_size whole + 0)) = ap tree_size x.2 in
    let f = mul-le-mul_left (tree_size whole) (four (term_views env.terms.items)) in
    omega (arith, e, f, size)
expansion_smaller env whole args made size (inr x) =
    let r = substituted_size (pattern_list args) (tree_size whole) (one_at_least whole) (λ i p h. let l = part_size args i p h in omega (arith, l, size)) x.2 made x.5 in
    let b = template_below (term_views env.terms.items) x.0 x.1 x.2 x.3 x.4 in
    let f = mul-le-mul_left (tree_size whole) b in
    omega (arith, r, f, size)

pub smaller_part : (ps : List T.Pattern) (i : ℕ) (d : T.Pattern) → i < length ps → tree_size (S.pattern_view (get_or ps i d)) < trees_size (S.pattern_views ps)
smaller_part (p ∷ ps) (suc i) d lt = let r = smaller_part ps i d (omega arith) in omega (arith, r)
smaller_part ps i d lt = grind arith
