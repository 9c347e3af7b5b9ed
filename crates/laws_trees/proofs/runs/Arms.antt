-- The arms of a match in a sound tree stand in the order of their constraints.
use Rattle.std.proofs.Common.{◌≡◌, ℕ, Bool, Some, slice_get, IsTrue, Contains, inl, inr}
use Rattle.std.proofs.lemmas.List.Elements.{Contains-append_cases}
use Rattle.model.specs.sites.Sites.{Constraint, SetRule, SiteSet}
use Rattle.model.specs.trees.Trees.{MarkedArms, m_no_arm, m_arm, marks, marks_arms}
use Rattle.model.specs.trees.Places.{Around, constraint_at}
use Rattle.model.specs.trees.Sound.{comes_before, SoundArms}
use Rattle.laws_trees.proofs.runs.Order.{before_chain}
use Rattle.model.proofs.Members.{nothing_in}

-- the rules of later arms ask for later constraints
pub arms_after : (set : SiteSet) (multi : Bool) (arms : MarkedArms) (ar : Around) (reached : Bool) (s : ℕ) (c : Constraint) → SoundArms set multi ar reached s (Some c) arms
    → (j : ℕ) (q : SetRule) → Contains (marks_arms arms) j → slice_get set.rules j ≡ Some q → (d : Constraint) × (constraint_at q.constraints s ≡ Some d) × IsTrue (comes_before c d)
arms_after set multi m_no_arm ar reached s c sound j q k at = absurd (nothing_in j k)
arms_after set multi (m_arm d fields body rest) ar reached s c sound j q k at =
    elim (Contains-append_cases (marks body) (marks_arms rest) j k) [
      | inl a ↦ (d, sound.2 j q a at, sound.0)
      | inr b ↦ let later = arms_after set multi rest ar reached s d sound.5 j q b at in (later.0, later.1, before_chain c d later.0 sound.0 later.2)
    ]
