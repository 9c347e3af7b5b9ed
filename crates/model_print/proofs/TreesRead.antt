-- The lines of a tree are read as the tree: what stands at each depth from a part's lines on, by induction on the tree.
use Rattle.std.proofs.Common.{◌≡◌, ℕ, ◌+◌, ◌<◌, List, [], ◌∷◌, ◌++◌, map, refl, sym, ap, ◌∙◌, subst, arith}
use Rattle.std.proofs.lemmas.Grind.{common_steps}
use Rattle.std.proofs.lemmas.List.{append-nil, append_assoc}
use Rattle.model.specs.sites.Sites.{Site}
use Rattle.model.specs.trees.Trees.{Tree, no_step, step, join, Check, match_at, equal_at, loop_at, return_at, Arms, no_arm, arm}
use Rattle.model_print.specs.Lines.{Token, word, bind_word, match_word, equal_word, loop_word, return_word, site, equals, Ending, nothing, colon, comment, Line, line}
use Rattle.model_print.specs.PrintedTrees.{sites_tokens, site_tokens, site_lines, constraint_tokens, field_token, bind_lines, arm_line, tree_lines, check_lines, arms_lines, printed_lines}
use Rattle.model_print.specs.ReadTrees.{read_sites, read_line, Said, begins_arm, binds, Level, no_level, placed, levels, read_tree}
use Rattle.model_print.specs.TreesRead.{shown_site, shown_constraint, shown_tree, shown_check, shown_arms, TreesAreRead, LinesShowTrees}
use Rattle.model_print.proofs.ReadLines.{sites_back, site_back, arm_back, below_line, at_line, above_line}

-- nothing stands further in than a depth
abbrev IsClear : ℕ → List Line → Type 0
IsClear d ls = (k : ℕ) → d < k → levels ls k ≡ no_level

-- lines before others at a depth: what stands there, and that nothing else is changed
record Stands (d : ℕ) (ls rest : List Line) (level : Level) : Type 0 where
  below : (k : ℕ) → k < d → levels ls k ≡ levels rest k
  here : levels ls d ≡ level
  clear : IsClear d ls

abbrev level_of : Tree → Arms → Level
level_of t arms = record { steps = t; arms = arms }

abbrev arms_before : Arms → Arms → Arms
arms_before no_arm after = after
arms_before (arm c fs body rest) after = arm c fs body (arms_before rest after)

join_none : (t : Tree) → join t no_step ≡ t
join_none no_step = refl
join_none (step bs c rest) = ap (step bs c) (join_none rest)

arms_none : (a : Arms) → arms_before a no_arm ≡ a
arms_none no_arm = refl
arms_none (arm c fs body rest) = ap (arm c fs body) (arms_none rest)

-- a line alone, where what follows is clear further in
line_stands : (d : ℕ) (ts : List Token) (e : Ending) (said : Said) (more rest : List Line) (inside : Level) → read_line ts e ≡ said
    → ((k : ℕ) → k < d + 1 → levels more k ≡ levels rest k) → levels more (d + 2) ≡ inside → Stands d (line d ts e ∷ more) rest (placed said (levels rest d) inside)
line_stands d ts e said more rest inside r same deeper = record {
  below = λ k h. below_line d k ts e more h ∙ same k (omega (arith, h));
  here = at_line d ts e more ∙ (λ i. placed (r i) (same d (omega arith) i) (deeper i));
  clear = λ k h. above_line d k ts e more h;
}

-- one part behind another
moved : (d : ℕ) (ls ms rest : List Line) (level : Level) → ls ≡ ms → Stands d ms rest level → Stands d ls rest level
moved d ls ms rest level e h = subst (λ (xs : List Line). Stands d xs rest level) (sym e) h

renamed : (d : ℕ) (ls rest : List Line) (a b : Level) → a ≡ b → Stands d ls rest a → Stands d ls rest b
renamed d ls rest a b e h = subst (Stands d ls rest) e h

-- what a step binds
binds_stand : (d : ℕ) (bs : List ℕ) (c : Check) (t : Tree) (arms : Arms) (ls rest : List Line) → Stands d ls rest (level_of (step [] c t) arms)
    → Stands d (bind_lines d bs ++ ls) rest (level_of (step bs c t) arms)
binds_stand d [] c t arms ls rest h = h
binds_stand d (s ∷ ss) c t arms ls rest h = record {
  below = λ k l. below_line d k (word bind_word ∷ sites_tokens (s ∷ ss)) nothing ls l ∙ h.below k l;
  here = at_line d (word bind_word ∷ sites_tokens (s ∷ ss)) nothing ls
      ∙ (λ i. placed (binds (sites_back (s ∷ ss) i)) (h.here i) (levels ls (d + 2)));
  clear = λ k l. above_line d k (word bind_word ∷ sites_tokens (s ∷ ss)) nothing ls l;
}

mutual
  tree_stands : (t : Tree) (d : ℕ) (rest : List Line) → IsClear d rest
      → Stands d (tree_lines d t ++ rest) rest (level_of (join (shown_tree t) (levels rest d).steps) (levels rest d).arms)
  tree_stands no_step d rest h = record { below = λ k l. refl; here = refl; clear = h }
  tree_stands (step bs c t) d rest h =
      let later = tree_stands t d rest h in
      let ls = tree_lines d t ++ rest in
      let check = check_stands c d ls later.clear in
      let check' = renamed d (check_lines d c ++ ls) ls _ (level_of (step [] (shown_check c) (join (shown_tree t) (levels rest d).steps)) (levels rest d).arms)
      (λ i. level_of (step [] (shown_check c) (later.here i).steps) (later.here i).arms) check in
      let through : Stands d (check_lines d c ++ ls) rest (level_of (step [] (shown_check c) (join (shown_tree t) (levels rest d).steps)) (levels rest d).arms)
      = record { below = λ k l. check'.below k l ∙ later.below k l; here = check'.here; clear = check'.clear } in
      moved d (tree_lines d (step bs c t) ++ rest) (bind_lines d bs ++ (check_lines d c ++ ls)) rest _
      (append_assoc (bind_lines d bs) (check_lines d c ++ tree_lines d t) rest ∙ ap (λ (xs : List Line). bind_lines d bs ++ xs) (append_assoc (check_lines d c) (tree_lines d t) rest))
      (binds_stand d bs (shown_check c) (join (shown_tree t) (levels rest d).steps) (levels rest d).arms (check_lines d c ++ ls) rest through)

  check_stands : (c : Check) (d : ℕ) (rest : List Line) → IsClear d rest
      → Stands d (check_lines d c ++ rest) rest (level_of (step [] (shown_check c) (levels rest d).steps) (levels rest d).arms)
  check_stands (match_at source arms) d rest h =
      let inner = arms_stand arms (d + 2) rest (λ k l. h k (omega (arith, l))) in
      let gone = h (d + 2) (omega arith) in
      line_stands d (word match_word ∷ site source ∷ []) nothing _ (arms_lines (d + 2) arms ++ rest) rest (level_of no_step (shown_arms arms)) refl
      (λ k l. inner.below k (omega (arith, l)))
      (inner.here ∙ (λ i. level_of (gone i).steps (arms_before (shown_arms arms) (gone i).arms)) ∙ ap (level_of no_step) (arms_none (shown_arms arms)))
  check_stands (equal_at a b body) d rest h =
      let inner = tree_stands body (d + 2) rest (λ k l. h k (omega (arith, l))) in
      let gone = h (d + 2) (omega arith) in
      line_stands d (word equal_word ∷ site a ∷ site b ∷ []) nothing _ (tree_lines (d + 2) body ++ rest) rest (level_of (shown_tree body) no_arm) refl
      (λ k l. inner.below k (omega (arith, l)))
      (inner.here ∙ (λ i. level_of (join (shown_tree body) (gone i).steps) (gone i).arms) ∙ ap (λ (t : Tree). level_of t no_arm) (join_none (shown_tree body)))
  check_stands (loop_at result body) d rest h =
      let inner = tree_stands body (d + 2) rest (λ k l. h k (omega (arith, l))) in
      let gone = h (d + 2) (omega arith) in
      line_stands d (word loop_word ∷ site result ∷ []) nothing _ (tree_lines (d + 2) body ++ rest) rest (level_of (shown_tree body) no_arm) refl
      (λ k l. inner.below k (omega (arith, l)))
      (inner.here ∙ (λ i. level_of (join (shown_tree body) (gone i).steps) (gone i).arms) ∙ ap (λ (t : Tree). level_of t no_arm) (join_none (shown_tree body)))
  check_stands (return_at at result) d rest h =
      line_stands d (word return_word ∷ site result ∷ []) (comment at) _ rest rest (levels rest (d + 2)) refl (λ k l. refl) refl

  arms_stand : (a : Arms) (d : ℕ) (rest : List Line) → IsClear d rest
      → Stands d (arms_lines d a ++ rest) rest (level_of (levels rest d).steps (arms_before (shown_arms a) (levels rest d).arms))
  arms_stand no_arm d rest h = record { below = λ k l. refl; here = refl; clear = h }
  arms_stand (arm c fs body more) d rest h =
      let later = arms_stand more d rest h in
      let ls = arms_lines d more ++ rest in
      let inner = tree_stands body (d + 2) ls (λ k l. later.clear k (omega (arith, l))) in
      let gone = later.clear (d + 2) (omega arith) in
      let first = line_stands d (constraint_tokens c ++ map field_token fs) colon (begins_arm (shown_constraint fs c) fs) (tree_lines (d + 2) body ++ ls) ls (level_of (shown_tree body) no_arm) (arm_back c fs)
      (λ k l. inner.below k (omega (arith, l)))
      (inner.here ∙ (λ i. level_of (join (shown_tree body) (gone i).steps) (gone i).arms) ∙ ap (λ (t : Tree). level_of t no_arm) (join_none (shown_tree body))) in
      moved d (arms_lines d (arm c fs body more) ++ rest) (arm_line d c fs ∷ (tree_lines (d + 2) body ++ ls)) rest _
      (ap (λ (xs : List Line). arm_line d c fs ∷ xs) (append_assoc (tree_lines (d + 2) body) (arms_lines d more) rest))
      record {
        below = λ k l. first.below k l ∙ later.below k l;
        here = first.here ∙ (λ i. level_of (later.here i).steps (arm (shown_constraint fs c) fs (shown_tree body) (later.here i).arms));
        clear = first.clear;
      }

-- the sites, and the tree below them
tree_has_no_site : (t : Tree) → read_sites (tree_lines 2 t) ≡ []
tree_has_no_site no_step = refl
tree_has_no_site (step (b ∷ bs) c t) = refl
tree_has_no_site (step [] (match_at source arms) t) = refl
tree_has_no_site (step [] (equal_at a b body) t) = refl
tree_has_no_site (step [] (loop_at result body) t) = refl
tree_has_no_site (step [] (return_at at result) t) = refl

sites_read : (n : ℕ) (ss : List Site) (ls : List Line) → read_sites ls ≡ [] → read_sites (site_lines n ss ++ ls) ≡ map shown_site ss
sites_read n (s ∷ ss) ls h = grind (arith, common_steps, sites_read (n + 1) ss ls h, site_back s, site_back)
sites_read n [] ls h = h

under_sites : (n : ℕ) (ss : List Site) (ls : List Line) → levels (site_lines n ss ++ ls) 2 ≡ levels ls 2
under_sites n [] ls = refl
under_sites n (s ∷ ss) ls = at_line 2 (site n ∷ word equals ∷ site_tokens s) nothing (site_lines (n + 1) ss ++ ls) ∙ under_sites (n + 1) ss ls

nothing_stands : (k : ℕ) → levels [] k ≡ no_level
unfolding levels
nothing_stands k = refl

sites_are_read : (ss : List Site) (t : Tree) → read_sites (printed_lines ss t) ≡ map shown_site ss
sites_are_read ss t = sites_read 0 ss (tree_lines 2 t) (tree_has_no_site t)

tree_is_read : (ss : List Site) (t : Tree) → read_tree (printed_lines ss t) ≡ shown_tree t
tree_is_read ss t =
    let h = tree_stands t 2 [] (λ k l. nothing_stands k) in
    let gone = nothing_stands 2 in
    ap (λ (x : Level). x.steps) (under_sites 0 ss (tree_lines 2 t) ∙ ap (λ (ls : List Line). levels ls 2) (sym (append-nil (tree_lines 2 t))) ∙ h.here)
    ∙ ap (λ (x : Level). join (shown_tree t) x.steps) gone ∙ join_none (shown_tree t)

pub trees_are_read_lem : TreesAreRead
trees_are_read_lem = record { sites = sites_are_read; tree = tree_is_read }

pub lines_show_trees_lem : LinesShowTrees
lines_show_trees_lem = record {
  sites = λ ss zs t u e. sym (sites_are_read ss t) ∙ ap read_sites e ∙ sites_are_read zs u;
  tree = λ ss zs t u e. sym (tree_is_read ss t) ∙ ap read_tree e ∙ tree_is_read zs u;
}
