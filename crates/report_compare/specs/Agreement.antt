-- When a text of printed trees has the trees of another one. Texts are what their lines say.
use Rattle.std.specs.Prelude.{ℕ, Bool, true, false, ◌&&◌, ◌||◌, not, List, [], ◌∷◌, Option, Some, None, is_some, ◌==◌, length, if◌then◌else◌}
use Rattle.std.specs.Cmp.Lexicographic.{pointwise}
use Rattle.std.specs.List.{take_while}
use Rattle.std.specs.Str.{bytes_eq}
use Rattle.report_compare.specs.SaidLines.{is_head}

abbrev pub same_line : List ℕ → List ℕ → Bool
same_line a b = bytes_eq a b

abbrev pub same_lines : List (List ℕ) → List (List ℕ) → Bool
same_lines xs ys = pointwise same_line xs ys

-- what stands behind the line that names a term, up to the next such line: its tree
abbrev pub tree_of : List (List ℕ) → List (List ℕ)
tree_of behind = take_while (λ l. not (is_head l)) behind

-- what stands behind the first line that is this one
abbrev pub behind_head : List ℕ → List (List ℕ) → Option (List (List ℕ))
behind_head head [] = None
behind_head head (l ∷ ls) = if same_line l head then Some ls else behind_head head ls

abbrev pub has_tree : Option (List (List ℕ)) → List (List ℕ) → Bool
has_tree None tree = false
has_tree (Some behind) tree = same_lines (tree_of behind) tree

-- whether each line that names a term passes a test, with what stands behind it
abbrev pub each_head : (List ℕ → List (List ℕ) → Bool) → List (List ℕ) → Bool
each_head p [] = true
each_head p (l ∷ ls) = (not (is_head l) || p l ls) && each_head p ls

-- the first tree of a text that has the name of ours is ours
abbrev pub is_ours : (text : List (List ℕ)) → List ℕ → List (List ℕ) → Bool
is_ours text head behind = has_tree (behind_head head text) (tree_of behind)

abbrev pub is_named : (ours : List (List ℕ)) → List ℕ → Bool
is_named ours head = is_some (behind_head head ours)

-- a text has just the trees of ours: each one under its name, in any order; no other name, and none twice; and nothing before the first
unfoldable pub has_trees : (text ours : List (List ℕ)) → Bool
has_trees text ours =
    each_head (is_ours text) ours && each_head (λ head behind. is_named ours head) text && each_head (λ head behind. not (is_named behind head)) text
    && (length (tree_of text) == 0)

-- whether a text of reports has none
abbrev pub is_quiet : List ℕ → Bool
is_quiet out = length out == 0
