-- Sites that must be equal, pair by pair.
use Rattle.std.proofs.Common.{◌≡◌, ℕ, ◌+◌, ◌<◌, Bool, List, length, get_or, drop, sym, ◌∙◌}
use Rattle.std.specs.List.{zip}
use Rattle.core_rule_sets.specs.SiteDemands.{equated_too, equated_each}
use Rattle.core_rule_sets.proofs.ListTails.{rest_is}

-- the pair at a place, then those after it
pub one_pair_more : (test next : ℕ → ℕ → Bool) (firsts seconds : List ℕ) (i x y : ℕ) → i < length firsts → i < length seconds → x ≡ get_or firsts i x → y ≡ get_or seconds i y
    → ((a b : ℕ) → next a b ≡ equated_too test x y a b) → (a b : ℕ)
    → equated_each next (zip (drop (i + 1) firsts) (drop (i + 1) seconds)) a b ≡ equated_each test (zip (drop i firsts) (drop i seconds)) a b
one_pair_more test next firsts seconds i x y l k e f h a b =
    (λ t. equated_each (λ p q. h p q t) (zip (drop (i + 1) firsts) (drop (i + 1) seconds)) a b)
    ∙ sym (λ t. equated_each test (zip (rest_is firsts i x l e t) (rest_is seconds i y k f t)) a b)
