-- By computing.
use Rattle.std.proofs.Common.{refl}
use Rattle.std.specs.Fmt.{digits}
use Rattle.model_code.specs.CodeTextSamples.{SamplesAreWritten}

pub samples_are_written_lem : SamplesAreWritten
unfolding digits
samples_are_written_lem = record {
  code_written = refl;
  many_written = refl;
  leaving_written = refl;
  code_writable = refl;
  many_writable = refl;
  leaving_writable = refl;
  code_read = refl;
  many_read = refl;
  leaving_read = refl;
  label_next = refl;
  label_other = refl;
  fields_said = refl;
  fields_unsaid = refl;
  guard_same = refl;
  guard_other = refl;
  terms_alike = refl;
  shown_alike = refl;
}
