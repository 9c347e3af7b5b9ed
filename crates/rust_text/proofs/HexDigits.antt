-- Hexadecimal digits, one after another.
use Rattle.std.proofs.Common.{◌≡◌, ℕ, zero, suc, ◌/◌, ◌%◌, ◌^◌, ◌<◌, ◌≤◌, inl, inr, false, cond, List, [], ◌∷◌, ◌++◌, refl, sym, ap, ◌∙◌, arith}
use Rattle.std.proofs.lemmas.Bool.{eq-eqb}
use Rattle.std.proofs.lemmas.Bool.Decides.{eqb_tells}
use Rattle.std.proofs.lemmas.List.{append_assoc}
use Rattle.std.specs.Fmt.{digits, digits_onto, digit_glyph}

abbrev spell : ℕ → ℕ → List ℕ → List ℕ
spell k n acc = digits_onto k 16 false n acc

abbrev glyph : ℕ → ℕ
glyph n = digit_glyph false (n % 16)

spell_last : (k n : ℕ) (acc : List ℕ) → n / 16 ≡ 0 → spell (suc k) n acc ≡ glyph n ∷ acc
spell_last k n acc h = ap (λ t. cond t (glyph n ∷ acc) (spell k (n / 16) (glyph n ∷ acc))) (eq-eqb (n / 16) 0 h)

-- either a number has one digit, or it has more
data OneOrMore (n : ℕ) : Type 0 where
  one : n / 16 ≡ 0 → OneOrMore n
  more : ((k : ℕ) (acc : List ℕ) → spell (suc k) n acc ≡ spell k (n / 16) (glyph n ∷ acc)) → OneOrMore n

one_or_more : (n : ℕ) → OneOrMore n
one_or_more n = elim (eqb_tells (n / 16) 0) [
  | inl w ↦ one w.1
  | inr w ↦ more (λ k acc. ap (λ t. cond t (glyph n ∷ acc) (spell k (n / 16) (glyph n ∷ acc))) w.0)
]

append_by : (k n : ℕ) (acc : List ℕ) → OneOrMore n → ((m : ℕ) (xs : List ℕ) → spell k m xs ≡ spell k m [] ++ xs) → spell (suc k) n acc ≡ spell (suc k) n [] ++ acc
append_by k n acc (one h) deeper = spell_last k n acc h ∙ ap (λ x. x ++ acc) (sym (spell_last k n [] h))
append_by k n acc (more h) deeper =
    h k acc ∙ deeper (n / 16) (glyph n ∷ acc) ∙ sym (append_assoc (spell k (n / 16) []) (glyph n ∷ []) acc) ∙ ap (λ x. x ++ acc) (sym (h k [] ∙ deeper (n / 16) (glyph n ∷ [])))

spell-append : (k n : ℕ) (acc : List ℕ) → spell k n acc ≡ spell k n [] ++ acc
spell-append zero n acc = refl
spell-append (suc k) n acc = append_by k n acc (one_or_more n) (spell-append k)

-- how many digits there may be doesn't matter once they are enough
enough_by : (j n : ℕ) (acc : List ℕ) → n < 16 ^ suc j → OneOrMore n → ((m : ℕ) (xs : List ℕ) → m < 16 ^ j → spell j m xs ≡ spell (suc j) m xs) → spell (suc j) n acc ≡ spell (suc (suc j)) n acc
enough_by j n acc h (one e) deeper = spell_last j n acc e ∙ sym (spell_last (suc j) n acc e)
enough_by j n acc h (more e) deeper = e j acc ∙ deeper (n / 16) (glyph n ∷ acc) (omega arith) ∙ sym (e (suc j) acc)

enough_none : (n : ℕ) (acc : List ℕ) → n < 16 → OneOrMore n → spell 1 n acc ≡ spell 2 n acc
enough_none n acc h (one e) = spell_last 0 n acc e ∙ sym (spell_last 1 n acc e)
enough_none n acc h (more e) = let z : n / 16 ≡ 0 = omega arith in spell_last 0 n acc z ∙ sym (spell_last 1 n acc z)

spell_enough : (j n : ℕ) (acc : List ℕ) → n < 16 ^ suc j → spell (suc j) n acc ≡ spell (suc (suc j)) n acc
spell_enough zero n acc h = enough_none n acc (omega arith) (one_or_more n)
spell_enough (suc j) n acc h = enough_by (suc j) n acc h (one_or_more n) (spell_enough j)

step_by : (n : ℕ) → 16 ≤ n → n < 16 ^ 64 → OneOrMore n → spell 64 n [] ≡ spell 64 (n / 16) [] ++ glyph n ∷ []
step_by n h small (one e) = absurd (omega arith)
step_by n h small (more e) = e 63 [] ∙ spell_enough 62 (n / 16) (glyph n ∷ []) (omega arith) ∙ spell-append 64 (n / 16) (glyph n ∷ [])

pub hex_step : (n : ℕ) → 16 ≤ n → n < 2 ^ 128 → digits 16 false n ≡ digits 16 false (n / 16) ++ digit_glyph false (n % 16) ∷ []
unfolding digits
hex_step n h small = step_by n h (omega arith) (one_or_more n)
