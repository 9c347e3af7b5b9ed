-- The texts of several strings.
use Rattle.std.proofs.Common.{◌≡◌, ℕ, ◌<◌, List, [], length, get_or, map, string_bytes, sym, ap, ◌∙◌, String}
use Rattle.std.specs.declared.alloc.Global.{Global}
use Rattle.std.proofs.lemmas.List.{get_or-map}

-- the text at a place is that of the string there
pub text_at : (xs : List (String Global)) (k : ℕ) (x : String Global) → k < length xs → x ≡ get_or xs k x → get_or (map string_bytes xs) k [] ≡ string_bytes x
text_at xs k x h e = get_or-map string_bytes xs k x [] h ∙ ap string_bytes (sym e)
