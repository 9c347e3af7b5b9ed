-- Lists of patterns, read one after another.
use Rattle.std.proofs.Common.{◌≡◌, ℕ, Option, Some, ap}
use Rattle.model.specs.rules.Typed.{TypedPatterns, no_typed_pattern, typed_pattern_and}
use Rattle.model.specs.lists.Setting.{Scope}
use Rattle.model.specs.lists.Typings.{Typing}

-- patterns after patterns
abbrev pub appended : TypedPatterns → TypedPatterns → TypedPatterns
appended no_typed_pattern qs = qs
appended (typed_pattern_and p ps) qs = typed_pattern_and p (appended ps qs)

pub same_typing : {X : Type 0} (x : X) (s : Scope) (n m : ℕ) → n ≡ m → ◌≡◌ {A = Option (Typing X)} (Some (record { made = x; scope = s; expansions = n })) (Some (record { made = x; scope = s; expansions = m }))
same_typing x s n m h = ap (λ (k : ℕ). Some (record { made = x; scope = s; expansions = k })) h
