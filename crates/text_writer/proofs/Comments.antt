-- A block comment ends where it does, whatever follows it.
use Rattle.std.proofs.Common.{◌≡◌, ℕ, ◌+◌, ◌-◌, ◌<◌, ◌&&◌, ◌==◌, List, [], ◌∷◌, ◌++◌, length, subst, inl, inr, arith}
use Rattle.std.specs.Prelude.{Result, Ok, Err, ⊤}
use Rattle.std.proofs.lemmas.Bool.{cases_Bool}
use Rattle.std.proofs.lemmas.List.{length-append}
use Rattle.std.proofs.lemmas.Grind.{common_steps}
use Rattle.text_reader.specs.declared.errors.Mistake.{Mistake}
use Rattle.text_reader.specs.Pieces.{after_comment}

abbrev Shorter : Result (List ℕ) Mistake → List ℕ → Type 0
Shorter (Ok rest) cs = length rest < length cs
Shorter (Err m) cs = ⊤

shorter : (cs : List ℕ) (depth last : ℕ) → Shorter (after_comment depth last cs) cs
shorter [] depth last = tt
shorter (c ∷ cs) depth last = grind (arith, common_steps, shorter cs (depth + 1) 32, shorter cs (depth - 1) 32, shorter cs depth c)

no_front : (cs rest : List ℕ) → cs ++ rest ≡ rest → cs ≡ []
no_front cs rest e = grind (arith, common_steps, length-append cs rest)

-- a comment with what follows it ends before that only if it ends by itself
pub whole_comment : (cs rest : List ℕ) (depth last : ℕ) → after_comment depth last (cs ++ rest) ≡ Ok rest → after_comment depth last cs ≡ Ok []
whole_comment [] rest depth last h = absurd (omega (arith, subst (λ r. Shorter r rest) h (shorter rest depth last)))
whole_comment (c ∷ cs) rest depth last h = elim (cases_Bool (last == 40 && c == 59)) [
  | inl e ↦ grind (arith, common_steps, whole_comment cs rest (depth + 1) 32)
  | inr e ↦ grind (arith, common_steps, whole_comment cs rest (depth - 1) 32, whole_comment cs rest depth c, no_front cs rest)
]

-- a comment that ends, with anything behind it
pub ended_comment : (cs rest more : List ℕ) (depth last : ℕ) → after_comment depth last cs ≡ Ok more → after_comment depth last (cs ++ rest) ≡ Ok (more ++ rest)
ended_comment [] rest more depth last h = absurd (cc h)
ended_comment (c ∷ cs) rest more depth last h = elim (cases_Bool (last == 40 && c == 59)) [
  | inl e ↦ grind (arith, common_steps, ended_comment cs rest more (depth + 1) 32)
  | inr e ↦ grind (arith, common_steps, same_ok cs more, ended_comment cs rest more (depth - 1) 32, ended_comment cs rest more depth c)
]
  where
    same_ok : (xs ys : List ℕ) → (let a : Result (List ℕ) Mistake = Ok xs in let b : Result (List ℕ) Mistake = Ok ys in a ≡ b) → xs ≡ ys
    same_ok xs ys k = cc k
