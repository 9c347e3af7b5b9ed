-- What begins a chunk is read apart from what stands before it.
use Rattle.std.proofs.Common.{◌≡◌, ℕ, ◌+◌, Bool, true, List, [], ◌∷◌, ◌++◌, refl, sym, ap, ◌∙◌, arith}
use Rattle.std.specs.Prelude.{if◌then◌else◌}
use Rattle.std.proofs.lemmas.Bool.{false≢true}
use Rattle.std.proofs.Math.Nat.{add-zero}
use Rattle.std.proofs.lemmas.Grind.{common_steps}
use Rattle.text_reader.specs.Pieces.{size}
use Rattle.text_reader.specs.declared.chunks.CharacterPlace.{CharacterPlace}
use Rattle.text_reader.specs.declared.chunks.CharacterPlace.TheVariants.{Within}
use Rattle.text_reader.specs.Chunks.{Part, begins_chunk, moved, empty_at, longer, chunks_from, chunks_at, behind_all, EndsLine, EndsList, begins}
use Rattle.text_reader.specs.Recovering.{beside, of_parts}
use Rattle.text_reader.proofs.Dividing.{width, past}
use Rattle.text_reader.proofs.Recovered.{beside_assoc}

begun_apart : (place : CharacterPlace) (p : Part) (o c : ℕ) (cs : List ℕ) → begins_chunk place c ≡ true → chunks_from place p o (c ∷ cs) ≡ p ∷ chunks_at o (c ∷ cs)
begun_apart place p o c cs b = grind (arith, common_steps, width)

either_apart : (b : Bool) (p : Part) (x y v w rest : List Part) → x ≡ v ++ rest → y ≡ w ++ rest → (if b then p ∷ x else y) ≡ (if b then p ∷ v else w) ++ rest
either_apart b p x y v w rest h k = grind (arith, common_steps)

from_apart : (front : List ℕ) (place : CharacterPlace) (p : Part) (o c : ℕ) (cs : List ℕ) → begins_chunk (behind_all place front) c ≡ true
    → chunks_from place p o (front ++ c ∷ cs) ≡ chunks_from place p o front ++ chunks_at (o + size front) (c ∷ cs)
from_apart [] place p o c cs b = begun_apart place p o c cs b ∙ ap (λ k. p ∷ chunks_at k (c ∷ cs)) (sym (add-zero o))
from_apart (d ∷ front) place p o c cs b =
    let next = o + width d in
    either_apart (begins_chunk place d) p _ _ _ _ (chunks_at (o + size (d ∷ front)) (c ∷ cs))
    (from_apart front (moved place d) (longer (empty_at o) d) next c cs b ∙ ap (λ k. chunks_from (moved place d) (longer (empty_at o) d) next front ++ chunks_at k (c ∷ cs)) (past o d front))
    (from_apart front (moved place d) (longer p d) next c cs b ∙ ap (λ k. chunks_from (moved place d) (longer p d) next front ++ chunks_at k (c ∷ cs)) (past o d front))

parts_apart : (file : ℕ) (ps qs : List Part) → of_parts file (ps ++ qs) ≡ beside (of_parts file ps) (of_parts file qs)
parts_apart file [] qs = refl
parts_apart file (p ∷ ps) qs = grind (arith, common_steps, parts_apart file ps qs, beside_assoc)

-- what begins a chunk is read apart
begun_is_apart : (file o c : ℕ) (front cs : List ℕ) → begins_chunk (behind_all (Within 0) front) c ≡ true
    → of_parts file (chunks_at o (front ++ c ∷ cs)) ≡ beside (of_parts file (chunks_at o front)) (of_parts file (chunks_at (o + size front) (c ∷ cs)))
begun_is_apart file o c front cs b = grind (arith, common_steps, from_apart, parts_apart)

pub read_apart : (file o : ℕ) (front rest : List ℕ) → EndsLine front → begins rest ≡ true
    → of_parts file (chunks_at o (front ++ rest)) ≡ beside (of_parts file (chunks_at o front)) (of_parts file (chunks_at (o + size front) rest))
read_apart file o front [] e b = absurd (false≢true b)
read_apart file o front (c ∷ cs) e b = begun_is_apart file o c front cs (ap (λ place. begins_chunk place c) e.1 ∙ b)

pub ended_apart : (file o c : ℕ) (front cs : List ℕ) → EndsList front
    → of_parts file (chunks_at o (front ++ c ∷ cs)) ≡ beside (of_parts file (chunks_at o front)) (of_parts file (chunks_at (o + size front) (c ∷ cs)))
ended_apart file o c front cs e = begun_is_apart file o c front cs (ap (λ place. begins_chunk place c) e)
