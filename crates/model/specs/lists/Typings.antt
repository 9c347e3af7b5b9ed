-- What translating a tree gives: what was made of it, the scope after it, and how many expansions that took.
use Rattle.std.specs.Prelude.{ℕ, suc, ◌+◌, Option, Some, None}
use Rattle.model.specs.lists.Setting.{Scope}

-- what was made, the scope after it, and the number of expansions
pub record Typing (X : Type 0) : Type 0 where
  pub made : X
  pub scope : Scope
  pub expansions : ℕ

-- made without an expansion
abbrev pub plain : {X : Type 0} → X → Scope → Typing X
plain x s = record { made = x; scope = s; expansions = 0 }

-- the same of what was made, and of the scope
abbrev pub made_into : {X Y : Type 0} → (X → Y) → Option (Typing X) → Option (Typing Y)
made_into f None = None
made_into f (Some a) = Some (record { made = f a.made; scope = a.scope; expansions = a.expansions })

-- the same of what was made, in another scope
abbrev pub scoped : {X : Type 0} → (Scope → Scope) → Option (Typing X) → Option (Typing X)
scoped f None = None
scoped f (Some a) = Some (record { made = a.made; scope = f a.scope; expansions = a.expansions })

-- one tree after another: what both make, and the expansions of both
abbrev pub joined_typing : {X Y Z : Type 0} → (X → Y → Z) → Typing X → Option (Typing Y) → Option (Typing Z)
joined_typing f a None = None
joined_typing f a (Some b) = Some (record { made = f a.made b.made; scope = b.scope; expansions = a.expansions + b.expansions })

-- one tree, then the next, from what the first gave
abbrev pub followed : {X Y Z : Type 0} → (X → Y → Z) → Option (Typing X) → (Typing X → Option (Typing Y)) → Option (Typing Z)
followed f None next = None
followed f (Some a) next = joined_typing f a (next a)

-- one expansion more
abbrev pub counted : {X : Type 0} → Option (Typing X) → Option (Typing X)
counted None = None
counted (Some a) = Some (record { made = a.made; scope = a.scope; expansions = suc a.expansions })
