-- What is found of two rules of a set, and of a rule and those behind it.
use Rattle.std.specs.Prelude.{◌≡◌, ℕ, ◌+◌, ◌<◌, List, [], ◌∷◌, ◌++◌, length, map, slice_index_or, if◌then◌else◌}
use Rattle.std.specs.Bool.{◌==◌}
use Rattle.std.specs.List.{filter, flat_map}
use Rattle.std.specs.Global.{Vec}
use Rattle.model.specs.lists.Syntax.{Position}
use Rattle.model.specs.sites.Sites.{SetRule}
use Rattle.model.specs.claims.Refusals.{Refusal, shadowing}
use Rattle.model.specs.sites.SetRules.{overlap_wrongly, is_mask_of}
use Rattle.core_syntax.specs.SyntaxViews.{position}
use Rattle.core_syntax.specs.declared.syntax.Pos.{Pos}

-- two rules' positions, where they overlap wrongly
abbrev pub wrong_pair : SetRule → SetRule → List (Position × Position)
wrong_pair r s = if overlap_wrongly r s then (r.at, s.at) ∷ [] else []

-- the number of the mask and the position of the other rule, where one of two rules shadows the other
abbrev pub masked_pair : ℕ → SetRule → ℕ → SetRule → List (ℕ × Position)
masked_pair i r j s = (if is_mask_of r s then (i, s.at) ∷ [] else []) ++ (if is_mask_of s r then (j, r.at) ∷ [] else [])

-- of a rule and those behind it, numbered from j
abbrev pub wrong_behind : SetRule → List SetRule → List (Position × Position)
wrong_behind r rs = flat_map (wrong_pair r) rs

abbrev pub masked_behind : ℕ → SetRule → ℕ → List SetRule → List (ℕ × Position)
masked_behind i r j [] = []
masked_behind i r j (s ∷ rs) = masked_pair i r j s ++ masked_behind i r (j + 1) rs

-- of each two rules, numbered from i
abbrev pub wrong_rows : List SetRule → List (Position × Position)
wrong_rows [] = []
wrong_rows (r ∷ rs) = wrong_behind r rs ++ wrong_rows rs

abbrev pub masked_rows : ℕ → List SetRule → List (ℕ × Position)
masked_rows i [] = []
masked_rows i (r ∷ rs) = masked_behind i r (i + 1) rs ++ masked_rows (i + 1) rs

-- pairs of positions, and numbers with positions
abbrev pub pair_view : Pos × Pos → Position × Position
pair_view e = (position e.0, position e.1)

abbrev pub pair_views : List (Pos × Pos) → List (Position × Position)
pair_views es = map pair_view es

abbrev pub masked_view : ℕ × Pos → ℕ × Position
masked_view e = (e.0, position e.1)

abbrev pub masked_views : List (ℕ × Pos) → List (ℕ × Position)
masked_views es = map masked_view es

abbrev pub positions : List Pos → List Position
positions ps = map position ps

-- lists of places
abbrev pub list_views : List (Vec Pos) → List (List Position)
list_views ls = map (λ v. positions v.items) ls

-- what is found with the number of a mask
abbrev pub of_mask : ℕ → List (ℕ × Position) → List Position
of_mask m es = map (λ e. e.1) (filter (λ e. e.0 == m) es)

-- each list has what is found with its number
abbrev pub AreGrouped : List (Vec Pos) → List (ℕ × Position) → Type 0
AreGrouped ls es = (m : ℕ) → m < length ls → slice_index_or (list_views ls) m [] ≡ of_mask m es

-- the error of a mask, where it masks any rule
abbrev pub shadow_of : SetRule → List Position → List Refusal
shadow_of mask [] = []
shadow_of mask (p ∷ ps) = shadowing (p ∷ ps) mask.at ∷ []

-- the errors of masks with what each one masks
abbrev pub shadows_of : List SetRule → List (List Position) → List Refusal
shadows_of [] ls = []
shadows_of (r ∷ rs) [] = []
shadows_of (r ∷ rs) (l ∷ ls) = shadow_of r l ++ shadows_of rs ls
