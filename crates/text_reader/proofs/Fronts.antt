-- A mistake that shows at a character is that of every text with this front.
use Rattle.std.proofs.Common.{◌≡◌, ℕ, ◌+◌, List, [], ◌∷◌, ◌++◌, refl, sym, ap, ◌∙◌, arith}
use Rattle.std.specs.Prelude.{Err}
use Rattle.std.proofs.Math.Nat.{add-zero}
use Rattle.std.proofs.lemmas.Grind.{common_steps}
use Rattle.model.specs.lists.Syntax.{Position}
use Rattle.text_reader.specs.Lexemes.{Wrong, ◌>>=◌}
use Rattle.text_reader.specs.Pieces.{size}
use Rattle.text_reader.specs.Lexing.{Tokens, Mode, between, step, run, reached}
use Rattle.text_reader.proofs.Dividing.{at, width, bind_twice, bind_same, past}

pub run_past : (file end : ℕ) (front rest : List ℕ) (m : Mode) (o : ℕ) (done : Tokens)
    → run file end m o (front ++ rest) done ≡ reached file end m o front done >>= (λ s. run file end s.0 (o + size front) rest s.1)
unfolding run
run_past file end [] rest m o done = ap (λ k. run file end m k rest done) (sym (add-zero o))
run_past file end (c ∷ cs) rest m o done =
    bind_same (step end m (at file o) c done) _ _ (λ s. run_past file end cs rest s.0 (o + width c) s.1
    ∙ bind_same (reached file end s.0 (o + width c) cs s.1) _ _ (λ t. ap (λ k. run file end t.0 k rest t.1) (past o c cs)))
    ∙ sym (bind_twice (step end m (at file o) c done) (λ s. reached file end s.0 (o + width c) cs s.1) (λ t. run file end t.0 (o + size (c ∷ cs)) rest t.1))

-- the text's end plays no part before it comes
pub step_anywhere : (a b : ℕ) (m : Mode) (p : Position) (c : ℕ) (done : Tokens) → step a m p c done ≡ step b m p c done
step_anywhere a b _ p c done = refl

pub reached_anywhere : (file a b : ℕ) (front : List ℕ) (m : Mode) (o : ℕ) (done : Tokens) → reached file a m o front done ≡ reached file b m o front done
reached_anywhere file a b [] m o done = refl
reached_anywhere file a b (c ∷ cs) m o done = grind (arith, common_steps, reached_anywhere file a b cs, width, step_anywhere, at, bind_same)

pub same_front : (file a b : ℕ) (front rest : List ℕ) (w : Wrong) → reached file a between 0 front [] ≡ Err w → run file b between 0 (front ++ rest) [] ≡ Err w
same_front file a b front rest w e =
    run_past file b front rest between 0 []
    ∙ ap (λ r. r >>= (λ s. run file b s.0 (0 + size front) rest s.1)) (reached_anywhere file b a front between 0 [] ∙ e)
