-- What the view of a pattern is, where its parts lie in a `Vec`.
use Rattle.std.proofs.Common.{◌≡◌, ℕ, ◌+◌, ◌<◌, ◌≤◌, List, [], ◌∷◌, ◌++◌, length, get_or, drop, refl, ap, ◌∙◌, Vec, Option, Some, None, option_map}
use Rattle.std.proofs.lemmas.List.{at_drop_more, at_drop_all}
use Rattle.std.specs.declared.alloc.Global.{Global}
use Rattle.core_syntax.specs.declared.syntax.Pos.{Pos}
use Rattle.core_syntax.specs.declared.syntax.Ident.{Ident}
use Rattle.core_syntax.specs.declared.syntax.Pattern.{Pattern, Term, And, Row_of-Pattern, end_of-Pattern, more_of-Pattern, items-the_row-Pattern}
use Rattle.core_syntax.specs.declared.syntax.Pattern.TheBlock.{hidden-the_row-Pattern-0, items_hidden-the_row-Pattern-0}
use Rattle.model.specs.lists.Syntax.{PatternTree, PatternTrees, no_pattern, pattern_and, term_pattern, and_pattern}
use Rattle.model.specs.lists.Expansions.{with_pattern}
use Rattle.core_syntax.specs.SyntaxViews.{position, name_view, pattern_view, row_patterns, pattern_views}

row_patterns-items : {m : _} (r : Row_of-Pattern m) → row_patterns r ≡ pattern_views (items-the_row-Pattern m r)
row_patterns-items end_of-Pattern = refl
row_patterns-items (more_of-Pattern q qs) = ap (pattern_and (pattern_view q)) (row_patterns-items qs)

pub row_patterns-hidden : (v : Vec Pattern Global) → row_patterns (hidden-the_row-Pattern-0 v) ≡ pattern_views v.items
row_patterns-hidden v = row_patterns-items (hidden-the_row-Pattern-0 v) ∙ ap pattern_views (items_hidden-the_row-Pattern-0 v)

pub view-Term : (s : Ident) (v : Vec Pattern Global) (p : Pos) → pattern_view (Term s v p) ≡ term_pattern (name_view s) (pattern_views v.items) (position p)
view-Term s v p = ap (λ qs. term_pattern (name_view s) qs (position p)) (row_patterns-hidden v)

pub view-And : (v : Vec Pattern Global) (p : Pos) → pattern_view (And v p) ≡ and_pattern (pattern_views v.items) (position p)
view-And v p = ap (λ qs. and_pattern qs (position p)) (row_patterns-hidden v)

pub pattern_views_drop : (xs : List Pattern) (i : ℕ) (d : Pattern) → i < length xs → pattern_views (drop i xs) ≡ pattern_and (pattern_view (get_or xs i d)) (pattern_views (drop (i + 1) xs))
pattern_views_drop xs i d h = at_drop_more pattern_views xs i d h

-- patterns after others
unfoldable pub before : List Pattern → PatternTrees → PatternTrees
before [] rs = rs
before (q ∷ qs) rs = pattern_and (pattern_view q) (before qs rs)

pub before-push : (qs : List Pattern) (q : Pattern) (rs : PatternTrees) → before (qs ++ q ∷ []) rs ≡ before qs (pattern_and (pattern_view q) rs)
unfolding before
before-push [] q rs = refl
before-push (p ∷ qs) q rs = ap (pattern_and (pattern_view p)) (before-push qs q rs)

pub before-none : (qs : List Pattern) → before qs no_pattern ≡ pattern_views qs
unfolding before
before-none [] = refl
before-none (q ∷ qs) = ap (pattern_and (pattern_view q)) (before-none qs)

pub before-nil : (rs : PatternTrees) → before [] rs ≡ rs
unfolding before
before-nil rs = refl

module _ (F : PatternTrees → PatternTrees) (f : PatternTree → PatternTree) (on_none : F no_pattern ≡ no_pattern) (on_more : (q : PatternTree) (qs : PatternTrees) → F (pattern_and q qs) ≡ pattern_and (f q) (F qs)) where
  -- a step of a loop that makes a pattern of each
  pub step_before : (out new parts : List Pattern) (q x : Pattern) (i : ℕ) → i < length parts → x ≡ get_or parts i x → pattern_view q ≡ f (pattern_view x) → new ≡ out ++ q ∷ [] → before out (F (pattern_views (drop i parts))) ≡ F (pattern_views parts) → before new (F (pattern_views (drop (i + 1) parts))) ≡ F (pattern_views parts)
  step_before out new parts q x i h at made is inv =
      let a = before-push out q (F (pattern_views (drop (i + 1) parts))) in
      let b = on_more (pattern_view x) (pattern_views (drop (i + 1) parts)) in
      let d = pattern_views_drop parts i x h in
      cc

  pub end_before : (out parts : List Pattern) (i : ℕ) → length parts ≤ i → before out (F (pattern_views (drop i parts))) ≡ F (pattern_views parts) → pattern_views out ≡ F (pattern_views parts)
  end_before out parts i h inv =
      let a = at_drop_all (λ l. F (pattern_views l)) parts i h in
      let b = before-none out in
      cc

-- the same, where there may be none
unfoldable pub after : List Pattern → Option PatternTrees → Option PatternTrees
after qs o = option_map (before qs) o

after-push : (qs : List Pattern) (q : Pattern) (o : Option PatternTrees) → after (qs ++ q ∷ []) o ≡ after qs (with_pattern (Some (pattern_view q)) o)
unfolding before after
after-push qs q None = refl
after-push qs q (Some rs) = ap Some (before-push qs q rs)

after-all : (qs : List Pattern) → after qs (Some no_pattern) ≡ Some (pattern_views qs)
unfolding before after
after-all qs = ap Some (before-none qs)

pub after-nil : (o : Option PatternTrees) → after [] o ≡ o
unfolding before after
after-nil None = refl
after-nil (Some rs) = refl

after-no : (qs : List Pattern) → after qs None ≡ None
unfolding after
after-no qs = refl

module _ (F : PatternTrees → Option PatternTrees) (f : PatternTree → Option PatternTree) (on_none : F no_pattern ≡ Some no_pattern) (on_more : (q : PatternTree) (qs : PatternTrees) → F (pattern_and q qs) ≡ with_pattern (f q) (F qs)) where
  -- a step of a loop that makes a pattern of each, where there may be none
  pub step_after : (out new parts : List Pattern) (q x : Pattern) (i : ℕ) → i < length parts → x ≡ get_or parts i x → Some (pattern_view q) ≡ f (pattern_view x) → new ≡ out ++ q ∷ [] → after out (F (pattern_views (drop i parts))) ≡ F (pattern_views parts) → after new (F (pattern_views (drop (i + 1) parts))) ≡ F (pattern_views parts)
  step_after out new parts q x i h at made is inv =
      let a = after-push out q (F (pattern_views (drop (i + 1) parts))) in
      let b = on_more (pattern_view x) (pattern_views (drop (i + 1) parts)) in
      let d = pattern_views_drop parts i x h in
      cc

  pub none_after : (out parts : List Pattern) (x : Pattern) (i : ℕ) → i < length parts → x ≡ get_or parts i x → None ≡ f (pattern_view x) → after out (F (pattern_views (drop i parts))) ≡ F (pattern_views parts) → None ≡ F (pattern_views parts)
  none_after out parts x i h at made inv =
      let a = after-no out in
      let b = on_more (pattern_view x) (pattern_views (drop (i + 1) parts)) in
      let d = pattern_views_drop parts i x h in
      let e : with_pattern None (F (pattern_views (drop (i + 1) parts))) ≡ None = refl in
      cc

  pub end_after : (out parts : List Pattern) (i : ℕ) → length parts ≤ i → after out (F (pattern_views (drop i parts))) ≡ F (pattern_views parts) → Some (pattern_views out) ≡ F (pattern_views parts)
  end_after out parts i h inv =
      let a = at_drop_all (λ l. F (pattern_views l)) parts i h in
      let b = after-all out in
      cc

pub ruleset pattern_steps = (row_patterns-hidden, view-Term, view-And, before-nil, after-nil)
