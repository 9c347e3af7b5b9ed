-- The functions of terms, listed, and the first of a list that passes a test.
use Rattle.std.proofs.Common.{◌≡◌, ℕ, zero, suc, ◌+◌, Bool, true, false, List, [], ◌∷◌, Option, Some, None, slice_get, refl, ap, ◌⊎◌, inr, arith}
use Rattle.std.proofs.lemmas.Grind.{common_steps}
use Rattle.std.specs.List.{position_or_len}
use Rattle.std.proofs.lemmas.Bool.{eqb-true, eq-eqb}
use Rattle.model.specs.lists.Tables.{TermEntry}
use Rattle.model_code.specs.Alike.{term_of}
use Rattle.model_code.specs.Notation.{Callee, extractor_of, constructor_of}
use Rattle.model_code.specs.ProgramNotation.{callees_from, is_same_callee, same_names}

-- the first that passes, or none does
module _ {X : Type 0} (q : X → Bool) where
  abbrev pub First : List X → Type 0
  First xs = ((x : X) × (slice_get xs (position_or_len q xs) ≡ Some x) × (q x ≡ true)) ⊎ ((slice_get xs (position_or_len q xs) ≡ None) × ((i : ℕ) (x : X) → slice_get xs i ≡ Some x → q x ≡ false))

  pub first : (xs : List X) → First xs
  first [] = inr (refl, λ i x e. absurd (cc))
  first (x ∷ xs) = grind (arith, common_steps, q x, first xs)

-- each function of a term is listed
pub listed : (t k : ℕ) (ts : List TermEntry) (e : TermEntry) (f : Callee) → slice_get ts k ≡ Some e → term_of f ≡ t + k → (i : ℕ) × (slice_get (callees_from t ts) i ≡ Some f)
listed t k [] e f s h = absurd (cc)
listed t zero (x ∷ ts) e (extractor_of a) s h = let z : t ≡ a = omega arith in (0, ap (λ n. Some (extractor_of n)) z)
listed t zero (x ∷ ts) e (constructor_of a) s h = let z : t ≡ a = omega arith in (1, ap (λ n. Some (constructor_of n)) z)
listed t (suc k) (x ∷ ts) e f s h = let w = listed (suc t) k ts e f s (omega arith) in (suc (suc w.0), w.1)

pub callee_same : (f g : Callee) → is_same_callee f g ≡ true → f ≡ g
callee_same f g e = grind (arith, common_steps, eqb-true)

pub same_self : (o : Option ℕ) (f : Callee) → same_names o o (is_same_callee f f) ≡ true
same_self o f = grind (arith, common_steps, eq-eqb)
