-- What a document is to its callers.
use Rattle.std.specs.Prelude.{ℕ, ℤ, List}

pub record DocumentContents : Type 0 where
  pub version : ℤ
  -- the text's bytes
  pub text : List ℕ

abbrev pub contents : ℤ → List ℕ → DocumentContents
contents version text = record { version = version; text = text }
