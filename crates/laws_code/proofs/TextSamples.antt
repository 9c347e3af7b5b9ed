-- By computing.
use Rattle.std.proofs.Common.{refl}
use Rattle.std.proofs.lemmas.Bool.{false≢true}
use Rattle.laws_code.specs.TextSamples.{WritableCodeIsJudged}

pub writable_code_is_judged_lem : WritableCodeIsJudged
writable_code_is_judged_lem = record {
  one_written = refl;
  option_written = refl;
  many_written = refl;
  fields_unlike = refl;
  made_written = refl;
  made_unlike = refl;
  constant_written = refl;
  lent_written = refl;
  cloned_unwritten = refl;
  lent_looks = λ s. refl;
  cloned_looks = λ h. false≢true (h 0);
}
