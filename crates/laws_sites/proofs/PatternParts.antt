-- What patterns are that hang together, part by part.
use Rattle.std.proofs.Common.{if◌then◌else◌, ◌≡◌, ℕ, suc, ◌==◌, true, false, List, [], ◌∷◌, length, Option, Some, None, is_some, slice_get, ap, subst, eqb-true, arith}
use Rattle.std.proofs.lemmas.Bool.{and_parts}
use Rattle.std.proofs.lemmas.Grind.{common_steps}
use Rattle.model.specs.lists.Tables.{TermEntry}
use Rattle.model.specs.lists.Ranges.{is_literal_of}
use Rattle.model.specs.rules.Outcome.{then_option}
use Rattle.model.specs.rules.Program.{Program}
use Rattle.model.specs.rules.Typed.{TypedPattern, match_bind, match_var, match_bool, match_int, match_prim, match_term, match_any, match_and, TypedPatterns, no_typed_pattern, typed_pattern_and}
use Rattle.model.specs.sites.Serves.{constant_type}
use Rattle.model.specs.visits.Demands.{pattern_count}
use Rattle.model.specs.lists.Setting.{bool_type, has_extractor}
use Rattle.model.specs.lists.Formed.{pattern_type, var_type, is_type, with_new, formed_pattern, formed_parts, formed_each}
use Rattle.model.proofs.Elements.{some_is, none_some}
use Rattle.model.proofs.Options.{is_there}
use Rattle.laws_sites.proofs.Patterns.{from_then, from_new}
use Rattle.laws_sites.proofs.SameExprs.{AreWithin, within_new}
use Rattle.laws_typing.proofs.FormedParts.{from_if}

-- as many patterns as types
abbrev pub AsMany : TypedPatterns → List ℕ → Type 0
AsMany no_typed_pattern [] = Unit {0}
AsMany (typed_pattern_and q qs) (ty ∷ tys) = AsMany qs tys
AsMany _ _ = ⊥

pub as_many_types : (qs : TypedPatterns) (tys : List ℕ) → AsMany qs tys → length tys ≡ pattern_count qs
as_many_types (typed_pattern_and q qs) (ty ∷ tys) h = ap suc (as_many_types qs tys h)
as_many_types k i h = grind (arith, common_steps)

-- a term's pattern
pub record PatternParts (p : Program) (ty t : ℕ) (args : TypedPatterns) (vars more : List (ℕ × ℕ)) : Type 0 where
  pub entry : TermEntry
  pub there : slice_get p.terms t ≡ Some entry
  pub ret : entry.ret_ty ≡ ty
  pub matched : has_extractor entry.kind ≡ true
  pub formed : formed_parts p args entry.arg_tys vars ≡ Some more

pub pattern_parts : (p : Program) (ty t : ℕ) (args : TypedPatterns) (vars more : List (ℕ × ℕ)) → formed_pattern p (match_term ty t args) vars ≡ Some more → PatternParts p ty t args vars more
pattern_parts p ty t args vars more f = grind (arith, common_steps, from_then, from_if, and_parts)

-- a pattern with more after it
pub from_part : (p : Program) (q : TypedPattern) (ty : ℕ) (vars more : List (ℕ × ℕ)) (rest : List (ℕ × ℕ) → Option (List (ℕ × ℕ)))
    → (if pattern_type q == ty then then_option (formed_pattern p q vars) rest else None) ≡ Some more
    → (mid : List (ℕ × ℕ)) × (pattern_type q ≡ ty) × (formed_pattern p q vars ≡ Some mid) × (rest mid ≡ Some more)
from_part p q ty vars more rest f =
    let a = from_if (pattern_type q == ty) (then_option (formed_pattern p q vars) rest) more f in
    let b = from_then (formed_pattern p q vars) rest more a.1 in
    (b.0, eqb-true (pattern_type q) ty a.0, b.1, b.2)

-- a binding
pub from_bind : (p : Program) (ty x : ℕ) (sub : TypedPattern) (vars more : List (ℕ × ℕ)) → formed_pattern p (match_bind ty x sub) vars ≡ Some more
    → (mid : List (ℕ × ℕ)) × (pattern_type sub ≡ ty) × (formed_pattern p sub vars ≡ Some mid) × (is_some (var_type mid x) ≡ false) × ((x, ty) ∷ mid ≡ more)
from_bind p ty x sub vars more f =
    let a = from_if (pattern_type sub == ty) (then_option (formed_pattern p sub vars) (with_new x ty)) more f in
    let b = from_then (formed_pattern p sub vars) (with_new x ty) more a.1 in
    let n = from_new x ty b.0 more b.2 in
    (b.0, eqb-true (pattern_type sub) ty a.0, b.1, n.0, n.1)

within_same : (vars more : List (ℕ × ℕ)) → vars ≡ more → AreWithin vars more
within_same vars more e y t h = subst (λ vs. var_type vs y ≡ Some t) e h

mutual
  pub pattern_within : (p : Program) (q : TypedPattern) (vars more : List (ℕ × ℕ)) → formed_pattern p q vars ≡ Some more → AreWithin vars more
  pattern_within p (match_bind ty x sub) vars more f y t h =
      let a = from_bind p ty x sub vars more f in
      subst (λ vs. var_type vs y ≡ Some t) a.4 (within_new x ty a.0 a.3 y t (pattern_within p sub vars a.0 a.2 y t h))
  pattern_within p (match_var ty x) vars more f y t h = within_same vars more (some_is vars more (from_if (is_type (var_type vars x) ty) (Some vars) more f).1) y t h
  pattern_within p (match_bool ty b) vars more f y t h = within_same vars more (some_is vars more (from_if (ty == bool_type) (Some vars) more f).1) y t h
  pattern_within p (match_int ty z) vars more f y t h = within_same vars more (some_is vars more (from_if (is_literal_of (slice_get p.types ty) z) (Some vars) more f).1) y t h
  pattern_within p (match_prim ty name) vars more f y t h = within_same vars more (some_is vars more (from_if (is_type (constant_type p name) ty) (Some vars) more f).1) y t h
  pattern_within p (match_term ty n args) vars more f y t h = let a = pattern_parts p ty n args vars more f in parts_within p args a.entry.arg_tys vars more a.formed y t h
  pattern_within p (match_any ty) vars more f y t h = within_same vars more (some_is vars more f) y t h
  pattern_within p (match_and ty subs) vars more f y t h = each_within p subs ty vars more f y t h

  pub parts_within : (p : Program) (qs : TypedPatterns) (tys : List ℕ) (vars more : List (ℕ × ℕ)) → formed_parts p qs tys vars ≡ Some more → AreWithin vars more
  parts_within p (typed_pattern_and q qs) (ty ∷ tys) vars more f y t h =
      let a = from_part p q ty vars more (λ mid. formed_parts p qs tys mid) f in parts_within p qs tys a.0 more a.3 y t (pattern_within p q vars a.0 a.2 y t h)
  parts_within p k i vars more f y t h = grind (arith, common_steps, within_same, some_is, none_some)

  pub each_within : (p : Program) (qs : TypedPatterns) (ty : ℕ) (vars more : List (ℕ × ℕ)) → formed_each p qs ty vars ≡ Some more → AreWithin vars more
  each_within p no_typed_pattern ty vars more f y t h = within_same vars more (some_is vars more f) y t h
  each_within p (typed_pattern_and q qs) ty vars more f y t h =
      let a = from_part p q ty vars more (λ mid. formed_each p qs ty mid) f in each_within p qs ty a.0 more a.3 y t (pattern_within p q vars a.0 a.2 y t h)

pub as_many : (p : Program) (qs : TypedPatterns) (tys : List ℕ) (vars more : List (ℕ × ℕ)) → formed_parts p qs tys vars ≡ Some more → AsMany qs tys
as_many p (typed_pattern_and q qs) (ty ∷ tys) vars more f = let a = from_part p q ty vars more (λ mid. formed_parts p qs tys mid) f in as_many p qs tys a.0 more a.3
as_many p h k vars more f = grind (arith, common_steps, none_some)

-- what isn't among more isn't among less
pub outside : (vars more : List (ℕ × ℕ)) → AreWithin vars more → (y : ℕ) → is_some (var_type more y) ≡ false → is_some (var_type vars y) ≡ false
outside vars more f y n = grind (arith, common_steps, is_there)
