-- Gates: what a site waits for, and whether a rule demands it.
use Rattle.std.specs.Prelude.{ℕ, Bool, true, false, ◌&&◌, nat_lt, Option, Some, None}
use Rattle.std.specs.Bool.{◌==◌}
use Rattle.std.specs.List.{list_any}
use Rattle.model.specs.sites.Sites.{Site, iterator_site, match_variant_site, extract_struct_site, match_some_site, Constraint, is_variant, is_struct, is_present, SetRule}
use Rattle.model.specs.trees.Places.{is_in}

-- whether a demand asks the site s to be that variant, with more than i fields
abbrev pub asks_variant : ℕ → ℕ → ℕ → ℕ × Constraint → Bool
asks_variant s variant i (a, is_variant ty v fields) = (a == s) && (v == variant) && nat_lt i fields
asks_variant s variant i _ = false

-- whether it asks the site to be a struct with more than i fields
abbrev pub asks_struct : ℕ → ℕ → ℕ × Constraint → Bool
asks_struct s i (a, is_struct ty fields) = (a == s) && nat_lt i fields
asks_struct s i _ = false

-- whether it asks the call of that site to answer
abbrev pub asks_answer : ℕ → ℕ × Constraint → Bool
asks_answer s (a, is_present) = a == s
asks_answer s _ = false

-- whether a rule demands what a site waits for: the form of a field's source, that an unwrapped call answers, that a
-- call whose answers are picked is gone over. No rule demands what a number that is no site would wait for
abbrev pub gate_demanded : SetRule → Option Site → Bool
gate_demanded r (Some (match_variant_site source variant field)) = list_any (asks_variant source variant field) r.constraints
gate_demanded r (Some (extract_struct_site source field)) = list_any (asks_struct source field) r.constraints
gate_demanded r (Some (match_some_site source)) = list_any (asks_answer source) r.constraints
gate_demanded r (Some (iterator_site source)) = is_in source r.iterators
gate_demanded r None = false
gate_demanded r (Some _) = true
