-- The first place of a text among texts.
use Rattle.std.proofs.Common.{◌≡◌, ℕ, zero, suc, ◌+◌, ◌<◌, true, false, cond, List, [], ◌∷◌, ◌++◌, length, Some, None, option_map, slice_get, refl, ap, arith}
use Rattle.std.proofs.lemmas.Grind.{common_steps}
use Rattle.std.specs.Str.{bytes_eq}
use Rattle.model.specs.lists.Names.{has_name, IsDistinct}
use Rattle.model.specs.lists.TypeTable.{place_from}
use Rattle.model.proofs.Bytes.{same_bytes, same_self}
use Rattle.model.proofs.Names.{absent}
use Rattle.model.proofs.Positions as positions

-- counted from one further
pub place_next : (n : ℕ) (x : List ℕ) (ts : List (List ℕ)) → place_from (suc n) x ts ≡ option_map suc (place_from n x ts)
place_next n x (y ∷ ys) = grind (arith, common_steps, place_next (suc n) x ys)
place_next n x [] = refl

-- a text that isn't among texts has no place, and the other way round
pub place_absent : (n : ℕ) (ts : List (List ℕ)) (x : List ℕ) → has_name ts x ≡ false → place_from n x ts ≡ None
place_absent n (y ∷ ys) x e = grind (arith, common_steps, place_absent (suc n) ys x)
place_absent n [] x e = refl

pub place_missing : (n : ℕ) (ts : List (List ℕ)) (x : List ℕ) → place_from n x ts ≡ None → has_name ts x ≡ false
place_missing n (y ∷ ys) x e = grind (arith, common_steps, place_missing (suc n) ys x)
place_missing n [] x e = refl

-- one more text: the new one's place is the last, the others keep theirs
pub place_push_new : (n : ℕ) (ts : List (List ℕ)) (x : List ℕ) → place_from n x ts ≡ None → place_from n x (ts ++ x ∷ []) ≡ Some (n + length ts)
place_push_new n (y ∷ ys) x e = grind (arith, common_steps, place_push_new (suc n) ys x)
place_push_new n [] x e = rw (same_self x) (ap Some (omega arith))

pub place_push_other : (n : ℕ) (ts : List (List ℕ)) (y x : List ℕ) → bytes_eq y x ≡ false → place_from n x (ts ++ y ∷ []) ≡ place_from n x ts
place_push_other n (z ∷ zs) y x e = grind (arith, common_steps, place_push_other (suc n) zs y x e)
place_push_other n [] y x e = rw e refl

pub place_there : (n : ℕ) (ts : List (List ℕ)) (x : List ℕ) (k : ℕ) → place_from n x ts ≡ Some k → (j : ℕ) × (j < length ts) × (slice_get ts j ≡ Some x)
place_there n [] x k e = absurd (cc)
place_there n (y ∷ ys) x k e =
    elim (bytes_eq y x) as (λ b. bytes_eq y x ≡ b → cond b (Some n) (place_from (suc n) x ys) ≡ Some k → (j : ℕ) × (j < suc (length ys)) × (slice_get (y ∷ ys) j ≡ Some x)) [
      | true ↦ λ same _. (zero, omega arith, ap Some (same_bytes y x same))
      | false ↦ λ _ h. let r = place_there (suc n) ys x k h in (suc r.0, omega (arith, r.1), r.2)
    ] refl e

pub distinct_push : (ts : List (List ℕ)) (x : List ℕ) → IsDistinct ts → place_from 0 x ts ≡ None → IsDistinct (ts ++ x ∷ [])
distinct_push ts x once none = positions.distinct_push ts x once (absent ts x (place_missing 0 ts x none))

-- a text that has a place before it stands twice
pub twice : (ts rest whole : List (List ℕ)) (x : List ℕ) (k : ℕ) → IsDistinct whole → ts ++ x ∷ rest ≡ whole → place_from 0 x ts ≡ Some k → ⊥
twice ts rest whole x k once e h = let t = place_there 0 ts x k h in positions.twice ts rest whole x t.0 once e t.1 t.2
