-- Lists that are refused: by their types, by their terms, by a rule.
use Rattle.std.specs.Prelude.{◌∷◌, [], pos, List, codes}
use Rattle.model.specs.lists.Syntax.{Definition, declaration}
use Rattle.laws_examples.specs.Written.{enum_of_one, f_of_bytes, field, int, numbers, of_f, rule_to, variable}

-- (decl f (u8) u8), (rule (f 1) x): a variable that nothing binds
abbrev pub unbound : List Definition
unbound = f_of_bytes 0 1 ∷ rule_to 1 (of_f 1 (int 1 (pos 1) ∷ [])) (variable 1 (codes "x")) ∷ []

-- (type T (enum (A (v u8)))), twice
abbrev pub two_of_one_name : List Definition
two_of_one_name = enum_of_one 0 (codes "T") (codes "A") (field 0 (codes "v") (codes "u8") ∷ []) ∷ enum_of_one 1 (codes "T") (codes "A") (field 1 (codes "v") (codes "u8") ∷ []) ∷ []

-- (decl f (u8) u8), twice
abbrev pub term_twice : List Definition
term_twice = declaration (numbers 0 (codes "f")) ∷ declaration (numbers 1 (codes "f")) ∷ []
