-- Loops that decide whether something holds of each element of a list: they end at the first of which it doesn't.
use Rattle.std.proofs.Common.{◌≡◌, ℕ, ◌+◌, ◌<◌, Bool, true, false, Decides, List, [], ◌∷◌, length, drop, get_or, refl, sym, ap, subst, ◌∙◌, arith}
use Rattle.std.proofs.lemmas.Bool.{false≢true}
use Rattle.std.proofs.lemmas.List.{at_drop_more}
use Rattle.std.proofs.lemmas.Grind.{common_steps}

-- by what it is that it holds of each, and of one, as of none and of one before others
module _ {X : Type 0} (Each : List X → Type 0) (One : X → Type 0) (none : Each []) (cons : (x : X) (xs : List X) → One x → Each xs → Each (x ∷ xs)) (head : (x : X) (xs : List X) → Each (x ∷ xs) → One x) (tail : (x : X) (xs : List X) → Each (x ∷ xs) → Each xs) where
  -- it holds of all exactly if it holds of what is left
  abbrev pub LeftToDecide : List X → List X → Type 0
  LeftToDecide all rest = (Each rest → Each all) × (Each all → Each rest)

  at_next : (all : List X) (i : ℕ) (x : X) → i < length all → x ≡ get_or all i x → drop i all ≡ x ∷ drop (i + 1) all
  at_next all i x within at = at_drop_more (λ xs. xs) all i x within ∙ ap (λ y. y ∷ drop (i + 1) all) (sym at)

  pub decided_next : (all : List X) (i : ℕ) (x : X) → i < length all → x ≡ get_or all i x → One x → LeftToDecide all (drop i all) → LeftToDecide all (drop (i + 1) all)
  decided_next all i x within at right left = grind (arith, common_steps, at_next)

  pub decided_wrong : (all : List X) (i : ℕ) (x : X) → i < length all → x ≡ get_or all i x → (One x → ⊥) → LeftToDecide all (drop i all) → Each all → ⊥
  decided_wrong all i x within at wrong left h = wrong (head x (drop (i + 1) all) (subst Each (at_next all i x within at) (left.1 h)))

  pub decided_last : (all rest : List X) → rest ≡ [] → LeftToDecide all rest → Each all
  decided_last all rest last left = left.0 (subst Each (sym last) none)

-- where it doesn't hold, the answer is no
pub decided_not : {P : Type 0} → (P → ⊥) → Decides false P
decided_not f = (λ g. absurd (false≢true g), λ h. absurd (f h))

-- and where it does, yes
pub decided_so : {P : Type 0} → P → Decides true P
decided_so h = (λ g. h, λ g. refl)

-- of what a test denies
pub refuted : (b : Bool) (P : Type 0) → Decides b P → b ≡ false → P → ⊥
refuted b P d n h = false≢true (sym n ∙ d.1 h)

-- two tests
pub both_decided : (a b : Bool) (P Q : Type 0) → a ≡ true → Decides a P → Decides b Q → Decides b (P × Q)
both_decided a b P Q yes_first p q = (λ g. (p.0 yes_first, q.0 g), λ h. q.1 h.1)

pub first_refuted : (a : Bool) (P Q : Type 0) → a ≡ false → Decides a P → Decides a (P × Q)
first_refuted a P Q no_first p = (λ g. absurd (false≢true (sym no_first ∙ g)), λ h. p.1 h.0)
