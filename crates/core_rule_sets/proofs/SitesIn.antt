-- The sites of a set, as a list.
use Rattle.std.proofs.Common.{◌≡◌, ℕ, zero, suc, Bool, false, [], refl}
use Rattle.core_rule_sets.specs.SiteViews.{passing_below}

pub none_passing : (n : ℕ) (p : ℕ → Bool) → ((i : ℕ) → p i ≡ false) → passing_below n p ≡ []
unfolding passing_below
none_passing zero p none = refl
none_passing (suc n) p none = rw (none_passing n p none, none n) refl
