-- By computing.
use Rattle.std.proofs.Common.{◌≡◌, ◌∷◌, [], length, refl, ap, arith}
use Rattle.std.specs.Fmt.{digits}
use Rattle.model_code.specs.TextSamples.{TextsAreJudged}

pub texts_are_judged_lem : TextsAreJudged
unfolding digits
texts_are_judged_lem = record {
  path_closed = refl;
  raw_closed = refl;
  number_closed = refl;
  call_closed = refl;
  quote_open = refl;
  call_open = refl;
  slash_open = refl;
  escape_open = refl;
  quote_not_whole = λ h. let e : 1 ≡ 2 = ap length (h (34 ∷ []) refl) in omega (arith, e);
  slash_not_whole = λ h. let e : 0 ≡ 2 = ap length (h (47 ∷ []) refl) in omega (arith, e);
  dot_open = refl;
  colon_no_name = refl;
  raw_name = refl;
  colon_not_whole = λ h. let e : 1 ≡ 2 = ap length (h (58 ∷ []) refl) in omega (arith, e);
  marks_read = refl;
  marks_apart = refl;
  longest_first = refl;
  words_read = refl;
  words_there = refl;
  words_lost = refl;
  code_read = refl;
  many_read = refl;
  leaving_read = refl;
  end_missing = refl;
  end_other = refl;
  looked_at_written = refl;
  looked_at_writable = refl;
  looked_at_read = refl;
  clone_unwritable = refl;
  reference_compared = refl;
  other_compared = refl;
}
