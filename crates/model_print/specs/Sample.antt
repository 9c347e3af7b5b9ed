-- A tree and its text, by hand: the rules `(rule 1 (f 1) (g 1))` and `(rule (f _) 7)` of partial terms f and g.
use Rattle.std.specs.Prelude.{◌≡◌, ℕ, pos, List, [], ◌∷◌, ◌++◌, codes}
use Rattle.model.specs.lists.Syntax.{Position}
use Rattle.model.specs.sites.Sites.{Site, int_site, argument_site, constructor_site, make_some_site, match_some_site, is_int}
use Rattle.model.specs.trees.Trees.{Tree, no_step, step, match_at, return_at, no_arm, arm}
use Rattle.model_print.specs.LineTexts.{Names, lines_text}
use Rattle.model_print.specs.PrintedTrees.{printed_lines}

abbrev pub names : Names
names = record { term = λ t. codes "g"; ty = λ t. codes "u8"; variant = λ t v. []; constant = λ c. [] }

abbrev pub said : Position → List ℕ
said at = codes "  ; " ++ codes "a.isle:4:1"

abbrev pub at_rule : Position
at_rule = record { file = 0; offset = 60 }

abbrev pub sites : List Site
sites = argument_site 0 ∷ (int_site (pos 1) 1 ∷ (constructor_site 1 (1 ∷ []) 1 ∷ (match_some_site 2 ∷ (make_some_site 3 ∷ (int_site (pos 7) 1 ∷ (make_some_site 5 ∷ []))))))

abbrev pub tree : Tree
tree = step [] (match_at 0 (arm (is_int (pos 1) 1) [] (step (2 ∷ (3 ∷ (4 ∷ []))) (return_at at_rule 4) no_step) no_arm)) (step (6 ∷ []) (return_at at_rule 6) no_step)

abbrev pub lines_in_order : List (List ℕ) → List ℕ
lines_in_order [] = []
lines_in_order (l ∷ ls) = l ++ 10 ∷ lines_in_order ls

abbrev pub SampleIsPrinted : Type 0
SampleIsPrinted = lines_text names said (printed_lines sites tree) ≡ lines_in_order (
    codes "  b0 = arg 0" ∷ (
    codes "  b1 = int 1 u8" ∷ (
    codes "  b2 = call g #1 b1" ∷ (
    codes "  b3 = unwrap b2" ∷ (
    codes "  b4 = some b3" ∷ (
    codes "  b5 = int 7 u8" ∷ (
    codes "  b6 = some b5" ∷ (
    codes "  match b0" ∷ (
    codes "    int 1 u8:" ∷ (
    codes "      bind b2 b3 b4" ∷ (
    codes "      return b4  ; a.isle:4:1" ∷ (
    codes "  bind b6" ∷ (
    codes "  return b6  ; a.isle:4:1" ∷ [])))))))))))))
