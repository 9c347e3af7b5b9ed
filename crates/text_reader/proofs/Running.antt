-- One character of a text, and its end.
use Rattle.std.proofs.Common.{◌≡◌, ℕ, ◌+◌, List, ◌++◌, length, refl, sym, ap, ◌∙◌, subst, chars, encode_utf8, IsUtf8, arith}
use Rattle.std.specs.Prelude.{Result, Ok}
use Rattle.std.proofs.lemmas.List.{nil_from_length}
use Rattle.std.proofs.lemmas.Str.{chars_past_char, chars-nil, IsUtf8-past_char}
use Rattle.std.proofs.lemmas.Grind.{common_steps}
use Rattle.text_reader.specs.declared.errors.ReadFault.{ReadFault}
use Rattle.text_reader.specs.Lexemes.{Wrong, ◌>>=◌}
use Rattle.text_reader.specs.Lexing.{Tokens, Mode, finished, step, run}
use Rattle.text_reader.specs.Views.{Fails}

pub run_char : (file end : ℕ) (m : Mode) (o c : ℕ) (bytes rest : List ℕ) (done : Tokens) → IsUtf8 bytes → bytes ≡ encode_utf8 c ++ rest
    → run file end m o (chars bytes) done ≡ step end m (record { file = file; offset = o }) c done >>= (λ s. run file end s.0 (o + length (encode_utf8 c)) (chars rest) s.1)
unfolding run
run_char file end m o c bytes rest done u e = rw (chars_past_char bytes rest c u e) refl

pub run_end : (file end : ℕ) (m : Mode) (o : ℕ) (bytes : List ℕ) (done : Tokens) → length bytes ≡ 0 → run file end m o (chars bytes) done ≡ finished file end m done
unfolding run
run_end file end m o bytes done e = rw (nil_from_length bytes e, chars-nil) refl

pub fails : {A B : Type 0} (e : ReadFault) (r : Result A Wrong) (f : A → Result B Wrong) (whole : Result B Wrong) → r >>= f ≡ whole → Fails e r → Fails e whole
fails e r f whole w h = grind (arith, common_steps)

pub goes_on : {A B : Type 0} (x : A) (r : Result A Wrong) (f : A → Result B Wrong) (whole : Result B Wrong) → r >>= f ≡ whole → r ≡ Ok x → f x ≡ whole
goes_on x r f whole w h = sym (ap (λ y. y >>= f) h) ∙ w

-- what the loop over a text keeps, by what its turn gave
pub kept : (file end : ℕ) (m next : Mode) (o there c n : ℕ) (bytes rest : List ℕ) (done more : Tokens) (whole : Result Tokens Wrong) → IsUtf8 bytes → bytes ≡ encode_utf8 c ++ rest
    → run file end m o (chars bytes) done ≡ whole → n ≡ o → there ≡ o + length (encode_utf8 c) → step end m (record { file = file; offset = n }) c done ≡ Ok (next, more)
    → IsUtf8 rest × (run file end next there (chars rest) more ≡ whole)
kept file end m next o there c n bytes rest done more whole u e w at past h = (
  IsUtf8-past_char bytes rest c u e,
  ap (λ k. run file end next k (chars rest) more) past ∙ goes_on (next, more) _ (λ s. run file end s.0 (o + length (encode_utf8 c)) (chars rest) s.1) whole
      (sym (run_char file end m o c bytes rest done u e) ∙ w) (ap (λ k. step end m (record { file = file; offset = k }) c done) (sym at) ∙ h),
)

pub broken : (file end : ℕ) (m : Mode) (o c n : ℕ) (bytes rest : List ℕ) (done : Tokens) (whole : Result Tokens Wrong) (f : ReadFault) → IsUtf8 bytes → bytes ≡ encode_utf8 c ++ rest
    → run file end m o (chars bytes) done ≡ whole → n ≡ o → Fails f (step end m (record { file = file; offset = n }) c done) → Fails f whole
broken file end m o c n bytes rest done whole f u e w at h =
    fails f (step end m (record { file = file; offset = o }) c done) (λ s. run file end s.0 (o + length (encode_utf8 c)) (chars rest) s.1) whole
    (sym (run_char file end m o c bytes rest done u e) ∙ w) (subst (λ k. Fails f (step end m (record { file = file; offset = k }) c done)) at h)

pub whole_is : (file end : ℕ) (m : Mode) (o : ℕ) (bytes : List ℕ) (done : Tokens) (whole : Result Tokens Wrong) → length bytes ≡ 0 → run file end m o (chars bytes) done ≡ whole → finished file end m done ≡ whole
whole_is file end m o bytes done whole e w = sym (run_end file end m o bytes done e) ∙ w
