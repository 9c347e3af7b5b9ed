-- A bar: of the rules of a place that don't need a test, one of the greatest priority. What is below it can't wait for the test.
use Rattle.std.specs.Prelude.{◌≡◌, ℕ, Bool, true, not, ◌&&◌, ◌||◌, List, Option, Some, None}
use Rattle.std.specs.List.{list_all}
use Rattle.model.specs.sites.Sites.{SetRule}
use Rattle.model.specs.trees.Tests.{Test, needs_at, is_lower}

-- whether a rule isn't below a bar
abbrev pub reaches : List SetRule → Option ℕ → ℕ → Bool
reaches rules None i = true
reaches rules (Some b) i = not (is_lower rules i b)

-- whether a rule needs a test and isn't below a bar
abbrev pub is_at_bar : List SetRule → Test → Option ℕ → ℕ → Bool
is_at_bar rules t bar i = needs_at rules t i && reaches rules bar i

-- a rule reaches the bar exactly where each rule here needs the test or isn't above that one
abbrev pub IsBar : List SetRule → List ℕ → Test → Option ℕ → Type 0
IsBar rules here t bar = (i : ℕ) → list_all (λ j. needs_at rules t j || not (is_lower rules i j)) here ≡ reaches rules bar i
