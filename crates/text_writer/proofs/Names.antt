-- The name of a tree is text.
use Rattle.std.proofs.Common.{◌≡◌, true}
use Rattle.std.specs.Prelude.{String, string_bytes}
use Rattle.std.specs.Str.{is_utf8}
use Rattle.std.proofs.lemmas.Str.{IsUtf8-string_bytes, is_utf8-from_IsUtf8}

pub text-is_utf8 : {Z : Type 0} (s : String Z) → is_utf8 (string_bytes s) ≡ true
text-is_utf8 s = is_utf8-from_IsUtf8 (string_bytes s) (IsUtf8-string_bytes s)

pub ruleset name_steps = (text-is_utf8)
